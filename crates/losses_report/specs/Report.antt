-- What the program prints of its whole input.
use Rattle.std.specs.Prelude.{ℕ, ◌+◌, ◌≡◌, List, [], ◌++◌, true, length}
use Rattle.record.specs.Kind.{code_of}
use Rattle.record.specs.Operation.{Record, kind_of}
use Rattle.record.specs.Fields.{encode, valid}
use Rattle.losses_line.specs.Line.{line, bad_line}

-- "sequence, program and kind" of a record
abbrev pub line_of : Record → List ℕ
line_of r = line r.sequence r.program (code_of (kind_of r.operation))

-- some bytes, that begin with those of no valid record
pub record NotOne (s : List ℕ) : Type 0 where
  pub some : s ≡ [] → ⊥
  pub none : (r : Record) (rest : List ℕ) → valid r ≡ true → s ≡ encode r ++ rest → ⊥

-- the offset of the input's first byte, the input, and what is printed of it: "A program reads records from standard
-- input and prints sequence, program and kind, .. a line each; at a bad record, "bad", a space and its byte offset, then
-- stops"; "empty input prints nothing"
pub data Report : ℕ → List ℕ → List ℕ → Type 0 where
  ends : {at : ℕ} → Report at [] []
  told : {at : ℕ} {rest out : List ℕ} (r : Record) → valid r ≡ true → Report (at + length (encode r)) rest out → Report at (encode r ++ rest) (line_of r ++ out)
  bad : {at : ℕ} {s : List ℕ} → NotOne s → Report at s (bad_line at)
