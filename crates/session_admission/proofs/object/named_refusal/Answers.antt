-- `session_admission::object::named_refusal` meets its contract: the number of what was found. Assumes nothing.
use Rattle.returned.specs.Refusal.{number_of}
use mathlib.Core.Path.{ap}
use Rattle.session_admission.specs.Code.Objects.{named_number}
use Rattle.session_admission.proofs.object.named_refusal.Goals as goal

pub returns-in-Err-BadNumber : goal.returns-in-Err-BadNumber
returns-in-Err-BadNumber c = ap (named_number (number_of c.args.file) (number_of c.args.directory)) (rw c.in-Err-BadNumber.field-0-is at c.in-Err-BadNumber.ensures)

pub returns-in-Err-NoObject : goal.returns-in-Err-NoObject
returns-in-Err-NoObject c = ap (named_number (number_of c.args.file) (number_of c.args.directory)) (rw c.in-Err-NoObject.field-0-is at c.in-Err-NoObject.ensures)

pub returns-in-Ok-File : goal.returns-in-Ok-File
returns-in-Ok-File c = ap (named_number (number_of c.args.file) (number_of c.args.directory)) (rw c.in-Ok-File.field-0-is at c.in-Ok-File.ensures)

pub returns-in-Ok-Directory : goal.returns-in-Ok-Directory
returns-in-Ok-Directory c = ap (named_number (number_of c.args.file) (number_of c.args.directory)) (rw c.in-Ok-Directory.field-0-is at c.in-Ok-Directory.ensures)
