-- `log_form::slot::record_formed` meets its contract: a record that is read ends within its part. Assumes nothing.
use mathlib.Core.Path.{sym}
use native.Mathlib.Omega.{arith}
use Rattle.log_form.specs.Laws.Slot.{answered-within}
use Rattle.log_form.proofs.slot.record_formed.Goals as goal

pub slice_bounds-all_zero-count : goal.slice_bounds-all_zero-count
slice_bounds-all_zero-count c =
    omega (arith, answered-within c.args.part.now (λ i. (c.type_inv.part i).fits) 0 c.in-Some.w (omega arith) (sym c.in-Some.ensures.value))

pub slice_bounds-all_zero-start : goal.slice_bounds-all_zero-start
slice_bounds-all_zero-start c =
    omega (arith, answered-within c.args.part.now (λ i. (c.type_inv.part i).fits) 0 c.in-Some.w (omega arith) (sym c.in-Some.ensures.value))
