-- `volume_questions::reading::read` meets its contract: each arm answers and leaves what the object's number asks for.
-- Assumes nothing.
use Rattle.std.specs.Prelude.{Ok, Err}
use Rattle.volume_questions.specs.declared.object.ObjectError.TheVariants.{BadNumber, NoObject}
use mathlib.Core.Path.{sym, ap}
use native.Mathlib.Omega.{arith}
use lib.ListN.{length, length-take}
use Rattle.volume_entry.specs.Entry.{contents_of}
use Rattle.volume_tree.specs.Stored.{read_volume}
use Rattle.volume_tree.specs.Laws.Lent.{length-read, entry-long}
use Rattle.volume_tree.specs.Laws.Answer.{of_entry}
use Rattle.volume_questions.specs.declared.object.ObjectKind.TheVariants.{Directory}
use Rattle.volume_questions.specs.Laws.Answer.{file-below, read-object, read-beyond, read-bytes}
use Rattle.volume_questions.proofs.reading.read.Goals as goal

pub object_at-requires : goal.object_at-requires
object_at-requires c = c.requires

pub entry-requires : goal.entry-requires
entry-requires c =
    let a = c.args in
    record {
      lent = c.requires;
      i_lt_n = rw (length-read a.n a.b a.s.now) at (file-below (read_volume a.n a.b a.s.now) a.o (sym (rw c.in-Ok-File.field-0-is at c.in-Ok-File.ensures)));
    }

pub contents-c-requires : goal.contents-c-requires
contents-c-requires c = entry-long c.entry.ensures

pub returns-then-c-offset : goal.returns-then-c-offset
returns-then-c-offset c =
    let a = c.args in
    let w = read-beyond (read_volume a.n a.b a.s.now) a.o a.offset a.buf.now (sym (rw c.in-Ok-File.field-0-is at c.in-Ok-File.ensures))
    c.contents-c.result.now (of_entry contents_of c.entry.ensures c.contents-c.ensures) c.if-c-offset.true in
    record { answer = w.0; buffer = w.1 }

pub put_bytes-requires : goal.put_bytes-requires
put_bytes-requires c = omega (arith, simp length-take at (ap length c.stretch_of.ensures))

pub returns-in-Err-BadNumber : goal.returns-in-Err-BadNumber
returns-in-Err-BadNumber c =
    let a = c.args in
    let w = read-object (read_volume a.n a.b a.s.now) a.o a.offset a.buf.now (Err BadNumber) (sym (rw c.in-Err-BadNumber.field-0-is at c.in-Err-BadNumber.ensures)) in
    record { answer = w.0; buffer = w.1 }

pub returns-in-Err-NoObject : goal.returns-in-Err-NoObject
returns-in-Err-NoObject c =
    let a = c.args in
    let w = read-object (read_volume a.n a.b a.s.now) a.o a.offset a.buf.now (Err NoObject) (sym (rw c.in-Err-NoObject.field-0-is at c.in-Err-NoObject.ensures)) in
    record { answer = w.0; buffer = w.1 }

pub returns-in-Ok-Directory : goal.returns-in-Ok-Directory
returns-in-Ok-Directory c =
    let a = c.args in
    let w = read-object (read_volume a.n a.b a.s.now) a.o a.offset a.buf.now (Ok Directory) (sym (rw c.in-Ok-Directory.field-0-is at c.in-Ok-Directory.ensures)) in
    record { answer = w.0; buffer = w.1 }

pub returns-else-c-offset : goal.returns-else-c-offset
returns-else-c-offset c =
    let a = c.args in
    let w = read-bytes (read_volume a.n a.b a.s.now) a.o a.offset a.buf.now (sym (rw c.in-Ok-File.field-0-is at c.in-Ok-File.ensures))
    c.contents-c.result.now (of_entry contents_of c.entry.ensures c.contents-c.ensures) c.if-c-offset.false
    c.stretch_of.result.now c.stretch_of.ensures c.put_bytes.ensures in
    record { answer = w.0; buffer = w.1 }
