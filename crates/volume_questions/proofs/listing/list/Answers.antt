-- `volume_questions::listing::list` meets its contract: each arm answers and leaves what the object's number asks for.
-- Assumes nothing.
use Rattle.std.specs.Prelude.{Ok, Err}
use Rattle.volume_questions.specs.declared.object.ObjectError.TheVariants.{BadNumber, NoObject}
use mathlib.Core.Path.{sym}
use native.Mathlib.Omega.{arith}
use Rattle.volume_tree.specs.Stored.{read_volume}
use Rattle.volume_tree.specs.Laws.Lent.{length-read}
use Rattle.volume_questions.specs.declared.object.ObjectKind.TheVariants.{File}
use Rattle.volume_questions.specs.Laws.Answer.{list-object, list-short, list-bytes}
use Rattle.volume_questions.proofs.listing.list.Goals as goal

pub object_at-requires : goal.object_at-requires
object_at-requires c = c.requires

pub returns-then-buf-listing_len : goal.returns-then-buf-listing_len
returns-then-buf-listing_len c =
    let a = c.args in
    let w = list-short (read_volume a.n a.b a.s.now) a.n (length-read a.n a.b a.s.now) a.o a.buf.now (sym (rw c.in-Ok-Directory.field-0-is at c.in-Ok-Directory.ensures)) (omega arith) in
    record { answer = w.0; buffer = w.1 }

pub returns-in-Err-BadNumber : goal.returns-in-Err-BadNumber
returns-in-Err-BadNumber c =
    let a = c.args in
    let w = list-object (read_volume a.n a.b a.s.now) a.n (length-read a.n a.b a.s.now) a.o a.buf.now (Err BadNumber) (sym (rw c.in-Err-BadNumber.field-0-is at c.in-Err-BadNumber.ensures)) in
    record { answer = w.0; buffer = w.1 }

pub returns-in-Err-NoObject : goal.returns-in-Err-NoObject
returns-in-Err-NoObject c =
    let a = c.args in
    let w = list-object (read_volume a.n a.b a.s.now) a.n (length-read a.n a.b a.s.now) a.o a.buf.now (Err NoObject) (sym (rw c.in-Err-NoObject.field-0-is at c.in-Err-NoObject.ensures)) in
    record { answer = w.0; buffer = w.1 }

pub returns-in-Ok-File : goal.returns-in-Ok-File
returns-in-Ok-File c =
    let a = c.args in
    let w = list-object (read_volume a.n a.b a.s.now) a.n (length-read a.n a.b a.s.now) a.o a.buf.now (Ok File) (sym (rw c.in-Ok-File.field-0-is at c.in-Ok-File.ensures)) in
    record { answer = w.0; buffer = w.1 }

pub returns-else-buf-listing_len : goal.returns-else-buf-listing_len
returns-else-buf-listing_len c =
    let a = c.args in
    let w = list-bytes (read_volume a.n a.b a.s.now) a.n (length-read a.n a.b a.s.now) a.o a.buf.now (sym (rw c.in-Ok-Directory.field-0-is at c.in-Ok-Directory.ensures)) (omega arith)
    c.put_listing.ensures in
    record { answer = w.0; buffer = w.1 }
