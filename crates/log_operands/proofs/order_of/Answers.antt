-- `log_operands::order_of` meets its contract: what was read tells the operation of the valid record that stands there, and where
-- nothing was read none does, by `Laws/Read`. Assumes nothing.
use mathlib.Core.Path.{sym, ◌∙◌}
use Rattle.log_operands.specs.Laws.Read.{limited, head-there, objects-there, range-there, told-read}
use Rattle.log_operands.proofs.order_of.Goals as goal

pub returns-in_default : goal.returns-in_default
returns-in_default c =
    record {
      told = λ r rest v e. absurd (head-there _ r rest v e (sym c.head.ensures ∙ c.in_default.is));
      sized = c.nothing.ensures;
    }

pub returns-in_default-objects : goal.returns-in_default-objects
returns-in_default-objects c =
    let eh = sym c.head.ensures ∙ c.in-Some.is in
    record {
      told = λ r rest v e. absurd (objects-there _ r rest v e _ _ eh (sym c.objects.ensures ∙ c.in_default-objects.is));
      sized = c.nothing-in_default-objects.ensures;
    }

pub returns-in_default-range : goal.returns-in_default-range
returns-in_default-range c =
    let eh = sym c.head.ensures ∙ c.in-Some.is in
    let eo = sym c.objects.ensures ∙ c.in-Some-objects.is in
    record {
      told = λ r rest v e. absurd (range-there _ r rest v e _ _ _ _ eh eo (sym c.range.ensures ∙ c.in_default-range.is));
      sized = c.nothing-in_default-range.ensures;
    }

pub order_from-requires : goal.order_from-requires
order_from-requires c =
    let eo = sym c.objects.ensures ∙ c.in-Some-objects.is in
    let eg = sym c.range.ensures ∙ c.in-Some-range.is in
    limited _ (λ i. (c.type_inv.rec i).fits) _ _ _ _ _ _ _ eo eg

pub returns : goal.returns
returns c =
    let eh = sym c.head.ensures ∙ c.in-Some.is in
    let eo = sym c.objects.ensures ∙ c.in-Some-objects.is in
    let eg = sym c.range.ensures ∙ c.in-Some-range.is in
    record {
      told = λ r rest v e. told-read _ r rest v e _ _ _ _ _ _ _ eh eo eg c.order_from.ensures.told;
      sized = c.order_from.ensures.sized;
    }
