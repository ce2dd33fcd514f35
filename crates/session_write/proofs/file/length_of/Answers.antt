-- `session_write::file::length_of` meets its contract. Assumes nothing.
use native.Mathlib.Omega.{arith}
use mathlib.Core.Path.{sym, ap}
use lib.ListN.{length}
use Rattle.volume_entry.specs.Entry.{contents_of}
use Rattle.volume_tree.specs.Stored.{read_volume}
use Rattle.volume_tree.specs.Laws.Lent.{length-read}
use Rattle.volume_tree.specs.Laws.Answer.{of_entry}
use Rattle.session_write.specs.Laws.Range.{past-empty}
use Rattle.session_write.proofs.file.length_of.Goals as goal

pub returns-then-n-object : goal.returns-then-n-object
returns-then-n-object c =
    let a = c.args in
    sym (past-empty (read_volume a.n a.b a.view.now) a.object (rw (length-read a.n a.b a.view.now) (omega arith)))

pub returns : goal.returns
returns c = ap length (of_entry contents_of c.entry.ensures c.contents.ensures)
