-- `volume_tree::entries::entry` meets its contract: each entry lies wholly in the volume.
-- Assumes nothing.
use Prim.Native.Nat.{ℕ, ◌*◌}
use mathlib.Core.Path.{subst, sym}
use native.Mathlib.Nat.{add-sub_cancel_left}
use native.Mathlib.Omega.{arith}
use lib.ListN.{take, drop}
use Rattle.volume_entry.specs.Stored.{entry_bytes}
use Rattle.volume_tree.specs.Code.Lent.{IsEntry}
use Rattle.volume_tree.specs.Laws.Lent.{entry-within, is-entry}
use Rattle.volume_tree.proofs.entries.entry.Goals as goal

pub overflow_mul-at : goal.overflow_mul-at
overflow_mul-at c = omega (arith, entry-within c.args.n c.args.b c.args.i c.requires.i_lt_n)

pub overflow_add-end : goal.overflow_add-end
overflow_add-end c = omega (arith, entry-within c.args.n c.args.b c.args.i c.requires.i_lt_n)

pub slice_bounds-result-end : goal.slice_bounds-result-end
slice_bounds-result-end c = omega (arith, entry-within c.args.n c.args.b c.args.i c.requires.i_lt_n)

pub returns : goal.returns
returns c =
    let a = c.args in
    let at = a.i * entry_bytes a.b in
    subst (λ (k : ℕ). IsEntry a.n a.b a.s.now a.i (take k (drop at a.s.now))) (sym (add-sub_cancel_left at (entry_bytes a.b)))
    (is-entry a.n a.b a.s.now c.requires.lent a.i c.requires.i_lt_n)
