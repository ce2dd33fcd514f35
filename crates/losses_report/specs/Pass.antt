-- What one pass over the bytes at hand does: it tells what they decide of the report, and where it goes on.
use Rattle.std.specs.Prelude.{ℕ, ◌+◌, ◌≤◌, ◌<◌, ◌≡◌, List, [], ◌++◌, Bool, true, false, length}
use Rattle.buffer.specs.Patch.{Put}
use Rattle.record.specs.Operation.{Record}
use Rattle.record.specs.Fields.{encode, valid}
use Rattle.losses_line.specs.Line.{bad_line}
use Rattle.losses_report.specs.declared.State.{State}
use Rattle.losses_report.specs.declared.State.TheVariants.{Going, Done}
use Rattle.losses_report.specs.declared.Progress.{Progress}
use Rattle.losses_report.specs.Report.{line_of, NotOne}

-- the bytes of the longest record: head, object, offset, and 1,024 bytes of data behind their length
abbrev pub longest : ℕ
longest = 1040

-- the bytes at hand decide what stands at their start: if the input has ended, or if any record would be whole
abbrev pub Decides : Bool → List ℕ → Type 0
Decides true s = Unit {0}
Decides false s = longest ≤ length s

-- whether the input has ended with the bytes at hand; the offset of their first byte; the bytes; how it goes on; how many
-- of them were passed; what is printed
pub data Pass (ended : Bool) : ℕ → List ℕ → State → ℕ → List ℕ → Type 0 where
  told : {at n : ℕ} {rest out : List ℕ} {state : State} (r : Record) → valid r ≡ true → Decides ended (encode r ++ rest) →
      Pass ended (at + length (encode r)) rest state n out → Pass ended at (encode r ++ rest) state (length (encode r) + n) (line_of r ++ out)
  bad : {at : ℕ} {s : List ℕ} → NotOne s → Decides ended s → Pass ended at s Done 0 (bad_line at)
  waits : {at : ℕ} {s : List ℕ} → ended ≡ false → length s < longest → Pass ended at s Going 0 []
  ends : {at : ℕ} → ended ≡ true → Pass ended at [] Done 0 []

-- a pass that put its text at the start of a buffer
pub record Passed (s : List ℕ) (base : ℕ) (ended : Bool) (before after : List ℕ) (r : Progress) : Type 0 where
  pub text : List ℕ
  pub wrote : Put text 0 before after r.written
  pub room : length text ≤ length before
  pub pass : Pass ended base s r.state r.next text
