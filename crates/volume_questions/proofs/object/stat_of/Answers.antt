-- `volume_questions::object::stat_of` meets its contract: the tests before each return settle what the number names.
-- Assumes nothing.
use Rattle.std.specs.Prelude.{Ok, Err}
use Rattle.volume_questions.specs.declared.object.ObjectError.TheVariants.{BadNumber, NoObject}
use Prim.Native.Nat.{ℕ, ◌≤◌, ◌<◌}
use mathlib.Core.List.{List}
use mathlib.Core.Bool.{true, false}
use mathlib.Core.Path.{◌≡◌, sym}
use lib.ListN.{length}
use Rattle.volume_entry.specs.Entry.{is_used, kind_number, contents_of, usage}
use Rattle.volume_tree.specs.Volume.{entry_at}
use Rattle.volume_tree.specs.Stored.{read_volume}
use Rattle.volume_tree.specs.Laws.Lent.{length-read, entry-long}
use Rattle.volume_tree.specs.Laws.Answer.{settled, of_entry}
use Rattle.volume_questions.specs.Answer.{stat, stat_answer}
use Rattle.volume_questions.specs.Laws.Answer.{stat-past, stat-free, stat-used}
use Rattle.volume_questions.proofs.object.stat_of.Goals as goal

module _ (n b : ℕ) (s : List ℕ) (o : ℕ) where
  past : n ≤ o → Err BadNumber ≡ stat_answer (read_volume n b s) o
  past h = sym (stat-past (read_volume n b s) o (rw (length-read n b s) h))

  unused : o < n → is_used (entry_at (read_volume n b s) o) ≡ false → Err NoObject ≡ stat_answer (read_volume n b s) o
  unused h e = sym (stat-free (read_volume n b s) o (rw (length-read n b s) h) e)

  used : o < n → is_used (entry_at (read_volume n b s) o) ≡ true → (k : ℕ) → k ≡ kind_number (entry_at (read_volume n b s) o)
      → (x : List ℕ) → x ≡ contents_of (entry_at (read_volume n b s) o) → (u : ℕ) → u ≡ usage (length x)
      → (Ok (stat k (length x) u)) ≡ stat_answer (read_volume n b s) o
  used h y k e x t u q = rw (q, t, e) (sym (stat-used (read_volume n b s) o (rw (length-read n b s) h) y))

pub returns-then-n-o : goal.returns-then-n-o
returns-then-n-o c = let a = c.args in past a.n a.b a.s.now a.o c.if-n-o.true

pub entry-e-requires : goal.entry-e-requires
entry-e-requires c = record { lent = c.requires; i_lt_n = c.if-n-o.false }

pub is_used-requires : goal.is_used-requires
is_used-requires c = entry-long c.entry-e.ensures

pub contents-len-requires : goal.contents-len-requires
contents-len-requires c = entry-long c.entry-e.ensures

pub kind-requires : goal.kind-requires
kind-requires c = entry-long c.entry-e.ensures

pub returns-then-is_used : goal.returns-then-is_used
returns-then-is_used c =
    let a = c.args in
    used a.n a.b a.s.now a.o c.if-n-o.false (settled (of_entry is_used c.entry-e.ensures c.is_used.ensures) c.if-is_used.true)
    c.kind.result (of_entry kind_number c.entry-e.ensures c.kind.ensures)
    c.contents-len.result.now (of_entry contents_of c.entry-e.ensures c.contents-len.ensures)
    c.usage_of.result c.usage_of.ensures

pub returns : goal.returns
returns c =
    let a = c.args in
    unused a.n a.b a.s.now a.o c.if-n-o.false (settled (of_entry is_used c.entry-e.ensures c.is_used.ensures) c.if-is_used.false)
