-- `volume_questions::object::object_at` meets its contract: the tests before each return settle what the number names.
-- Assumes nothing.
use Rattle.std.specs.Prelude.{Ok, Err}
use Rattle.volume_questions.specs.declared.object.ObjectError.TheVariants.{BadNumber, NoObject}
use Prim.Native.Nat.{ℕ, ◌≤◌, ◌<◌}
use mathlib.Core.List.{List}
use mathlib.Core.Bool.{Bool, true, false, cond}
use mathlib.Core.Path.{◌≡◌, sym}
use Rattle.volume_entry.specs.Entry.{is_used, is_file}
use Rattle.volume_tree.specs.Volume.{entry_at}
use Rattle.volume_tree.specs.Stored.{read_volume}
use Rattle.volume_tree.specs.Laws.Lent.{length-read, entry-long}
use Rattle.volume_tree.specs.Laws.Answer.{settled, of_entry}
use Rattle.volume_questions.specs.declared.object.ObjectKind.TheVariants.{File, Directory}
use Rattle.volume_questions.specs.Answer.{object_of, object_answer}
use Rattle.volume_questions.specs.Laws.Answer.{object-past, object-in}
use Rattle.volume_questions.proofs.object.object_at.Goals as goal

module _ (n b : ℕ) (s : List ℕ) (o : ℕ) where
  past : n ≤ o → Err BadNumber ≡ object_answer (read_volume n b s) o
  past h = sym (object-past (read_volume n b s) o (rw (length-read n b s) h))

  module _ (h : o < n) where
    within : object_of (entry_at (read_volume n b s) o) ≡ object_answer (read_volume n b s) o
    within = sym (object-in (read_volume n b s) o (rw (length-read n b s) h))

    used : is_used (entry_at (read_volume n b s) o) ≡ true → (t : Bool) → is_file (entry_at (read_volume n b s) o) ≡ t → cond t (Ok File) (Ok Directory) ≡ object_answer (read_volume n b s) o
    used u t f = rw (u, f) at within

    unused : is_used (entry_at (read_volume n b s) o) ≡ false → Err NoObject ≡ object_answer (read_volume n b s) o
    unused u = rw u at within

pub returns-then-n-o : goal.returns-then-n-o
returns-then-n-o c = let a = c.args in past a.n a.b a.s.now a.o c.if-n-o.true

pub entry-e-requires : goal.entry-e-requires
entry-e-requires c = record { lent = c.requires; i_lt_n = c.if-n-o.false }

pub is_used-requires : goal.is_used-requires
is_used-requires c = entry-long c.entry-e.ensures

pub is_file-requires : goal.is_file-requires
is_file-requires c = entry-long c.entry-e.ensures

pub returns-then-is_file : goal.returns-then-is_file
returns-then-is_file c =
    let a = c.args in
    used a.n a.b a.s.now a.o c.if-n-o.false (settled (of_entry is_used c.entry-e.ensures c.is_used.ensures) c.if-is_used.true)
    true (settled (of_entry is_file c.entry-e.ensures c.is_file.ensures) c.if-is_file.true)

pub returns-then-is_used : goal.returns-then-is_used
returns-then-is_used c =
    let a = c.args in
    used a.n a.b a.s.now a.o c.if-n-o.false (settled (of_entry is_used c.entry-e.ensures c.is_used.ensures) c.if-is_used.true)
    false (settled (of_entry is_file c.entry-e.ensures c.is_file.ensures) c.if-is_file.false)

pub returns : goal.returns
returns c =
    let a = c.args in
    unused a.n a.b a.s.now a.o c.if-n-o.false (settled (of_entry is_used c.entry-e.ensures c.is_used.ensures) c.if-is_used.false)
