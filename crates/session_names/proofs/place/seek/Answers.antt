-- `session_names::place::seek` meets its contract: the directory's number, then the search. Assumes nothing.
use mathlib.Core.Path.{◌≡◌, sym, ◌∙◌}
use Prim.Native.Nat.{ℕ}
use Rattle.volume_tree.specs.Volume.{search as search_in}
use Rattle.volume_tree.specs.Stored.{read_volume}
use Rattle.volume_tree.specs.Laws.Answer.{found_at, found_nothing}
use native.Mathlib.Omega.{arith}
use Rattle.session_names.specs.Laws.Row.{found-refused, found-absent, found-there}
use Rattle.returned.specs.Laws.Refusal.{refused-number, refused-some, not-refused}
use Rattle.session_names.proofs.place.seek.Goals as goal

pub returns-in-Err : goal.returns-in-Err
returns-in-Err c =
    let a = c.args in
    record {
      number =
          sym (refused-number c.in-Err.is)
          ∙ found-refused (read_volume a.n a.b a.view.now) a.parent a.name.now _ c.directory_refusal.ensures (refused-some c.in-Err.is);
      found = λ o e. let z : ◌≡◌ {A = ℕ} 0 1 = cc in absurd (omega arith);
    }

pub returns-in-Some : goal.returns-in-Some
returns-in-Some c =
    let a = c.args in
    let v = read_volume a.n a.b a.view.now in
    let i = c.in-Some.object in
    let h = found_at (search_in v a.parent a.name.now) i (sym c.in-Some.is ∙ c.search.ensures) in
    record {
      number = found-there v a.parent a.name.now _ c.directory_refusal.ensures (not-refused _ c.in_default.not-Err) i h;
      found = λ o e. let z : i ≡ o = cc in rw (← z) h;
    }

pub returns-in-None : goal.returns-in-None
returns-in-None c =
    let a = c.args in
    let v = read_volume a.n a.b a.view.now in
    let h = found_nothing (search_in v a.parent a.name.now) (sym c.in-None.is ∙ c.search.ensures) in
    record {
      number = found-absent v a.parent a.name.now _ c.directory_refusal.ensures (not-refused _ c.in_default.not-Err) h;
      found = λ o e. let z : ◌≡◌ {A = ℕ} 0 1 = cc in absurd (omega arith);
    }
