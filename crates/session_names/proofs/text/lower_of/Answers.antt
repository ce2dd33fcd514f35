-- `session_names::text::lower_of` meets its contract. Assumes nothing.
use mathlib.Core.Path.{sym, ap, ◌∙◌}
use native.Mathlib.Omega.{arith}
use borrow.Author.Tests.{le-leb, lt-leb, eq-eqb, ne_eqb}
use Rattle.returned.specs.Refusal.{number_of}
use Rattle.returned.specs.Laws.Refusal.{refused-number, refused-some, not-refused}
use Rattle.returned.specs.Returned.{rank_of}
use Rattle.session.specs.Refusal.{lower}
use Rattle.session_names.specs.Laws.Row.{lower-second}
use Rattle.session_names.proofs.text.lower_of.Goals as goal

pub returns-in_default-clause-number : goal.returns-in_default-clause-number
returns-in_default-clause-number g c =
    let a = c.args in sym (ap (lower (number_of a.first)) (not-refused _ c.in_default.not-Err) ∙ lower-second (number_of a.first))

pub returns-in_default-first-clause-number : goal.returns-in_default-first-clause-number
returns-in_default-first-clause-number g c =
    let a = c.args in rw (eq-eqb (number_of a.first) 0 (not-refused _ c.in_default-first.not-Err)) (sym (refused-number c.in-Err.is))

pub returns-then-rank-clause-number : goal.returns-then-rank-clause-number
returns-then-rank-clause-number g c =
    let a = c.args in
    let x = c.rank.ensures in
    let y = c.rank-2.ensures in
    let z = c.if-rank.true in
    let p = refused-number c.in-Err-first.is in
    let q = refused-number c.in-Err.is in
    rw (ne_eqb (number_of a.first) 0 (refused-some c.in-Err-first.is), ne_eqb (number_of a.second) 0 (refused-some c.in-Err.is), le-leb (rank_of (number_of a.first)) (rank_of (number_of a.second)) (omega arith)) (sym p)

pub returns-clause-number : goal.returns-clause-number
returns-clause-number g c =
    let a = c.args in
    let x = c.rank.ensures in
    let y = c.rank-2.ensures in
    let z = c.if-rank.false in
    let p = refused-number c.in-Err-first.is in
    let q = refused-number c.in-Err.is in
    rw (ne_eqb (number_of a.first) 0 (refused-some c.in-Err-first.is), ne_eqb (number_of a.second) 0 (refused-some c.in-Err.is), lt-leb (rank_of (number_of a.first)) (rank_of (number_of a.second)) (omega arith)) (sym q)
