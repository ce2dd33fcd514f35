-- `log_order::is_found` meets its contract: the flag decides, else the sets, else the pairs. Assumes nothing.
use borrow.Author.Tests.{eq-eqb, ne_eqb}
use native.Mathlib.Omega.{arith}
use Rattle.log_order.specs.Laws.Turn.{found-picked, found-apart, found_plain, found-others, found-pairs}
use Rattle.log_order.proofs.is_found.Goals as goal

pub returns-then-found-j-eq1 : goal.returns-then-found-j-eq1
returns-then-found-j-eq1 c =
    found-picked c.requires.rising c.requires.j_in_bounds.0 (eq-eqb _ _ c.if-found-j-eq1.true)

pub returns-then-shares_any-2 : goal.returns-then-shares_any-2
returns-then-shares_any-2 c =
    found-others c.requires.rising c.requires.j_in_bounds.0 (ne_eqb _ _ c.if-found-j-eq1.false) c.shares_any-then-o.ensures c.if-shares_any-2.true

pub precedes_found-requires : goal.precedes_found-requires
precedes_found-requires c =
    record {
      slotted = c.requires.slotted;
      from_in_bounds = (omega arith, c.requires.j_in_bounds.1, c.requires.j_in_bounds.2);
    }

pub returns-then-o : goal.returns-then-o
returns-then-o c =
    found-pairs c.requires.rising c.requires.j_in_bounds.0 (ne_eqb _ _ c.if-found-j-eq1.false) c.shares_any-then-o.ensures c.if-shares_any-2.false c.precedes_found.ensures

pub returns-then-shares_any : goal.returns-then-shares_any
returns-then-shares_any c =
    found_plain c.requires.rising c.requires.j_in_bounds.0 (ne_eqb _ _ c.if-found-j-eq1.false) c.shares_any.ensures c.if-shares_any.true c.if-o.false

pub returns : goal.returns
returns c =
    found-apart c.requires.rising c.requires.j_in_bounds.0 (ne_eqb _ _ c.if-found-j-eq1.false) c.shares_any.ensures c.if-shares_any.false
