-- `volume_form::parents::is_parented` meets its contract: past the end of the volume there is no directory.
-- Assumes nothing.
use Prim.Native.Nat.{ℕ, ◌≤◌}
use mathlib.Core.Bool.{true, false}
use mathlib.Core.Path.{◌≡◌, sym, ap}
use lib.ListN.{length, get_or-eq_default}
use borrow.Author.Tests.{ne_eqb}
use Rattle.volume_entry.specs.Entry.{free, has_name, is_directory, parent_of}
use Rattle.volume_tree.specs.Volume.{Volume, entry_at}
use Rattle.volume_tree.specs.Stored.{read_volume}
use Rattle.volume_tree.specs.Laws.Lent.{length-read}
use Rattle.volume_tree.specs.Laws.Answer.{settled, of_entry}
use Rattle.volume_form.specs.Code.Checks.{parented}
use Rattle.volume_form.proofs.parents.is_parented.Goals as goal

past : (v : Volume) (i : ℕ) → (i ≡ 0 → ⊥) → has_name (entry_at v i) ≡ true → (p : ℕ) → p ≡ parent_of (entry_at v i) → length v ≤ p
    → false ≡ parented v i
past v i z u p q h = rw (ne_eqb i 0 z, u, ← q) (ap is_directory (sym (get_or-eq_default v free h)))

pub returns-then-has_name : goal.returns-then-has_name
returns-then-has_name c =
    let a = c.args in
    past (read_volume a.n a.b a.s.now) a.i c.if-i-eq0.false
    (settled (of_entry has_name c.entry-e.ensures c.has_name.ensures) c.if-has_name.true) c.parent-p.result
    (of_entry parent_of c.entry-e.ensures c.parent-p.ensures.0)
    (rw (length-read a.n a.b a.s.now) c.if-p-n.false)
