-- `record::kind::Kind::has_map` meets its contract: the two tests are those of `has_map`.
-- Assumes nothing.
use mathlib.Core.Path.{sym, ◌∙◌}
use borrow.Author.Tests.{eq-eqb, ne_eqb}
use Rattle.record.specs.Kind.{has_map}
use Rattle.record.proofs.kind.Kind.has_map.Goals as goal

pub returns-then-map : goal.returns-then-map
unfolding has_map
returns-then-map c = rw (eq-eqb _ _ (c.if-map.true ∙ c.map.ensures))

pub returns : goal.returns
unfolding has_map
returns c = rw (ne_eqb _ _ (λ e. c.if-map.false (e ∙ sym c.map.ensures)), ← c.displacing_map.ensures)
