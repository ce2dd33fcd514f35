-- A log's head in bytes that are tested: they are those of a good one where its next number is from 1. Assumes nothing.
use Rattle.std.specs.Prelude.{ℕ, ◌≤◌, ◌≡◌, List, ◌++◌, length, drop}
use Rattle.std.proofs.Common.{arith, ◌∙◌, take-add}
use Rattle.std.proofs.Math.Path.{sym}
use Rattle.std.proofs.Math.ListN.{take}
use Rattle.buffer.specs.Numeral.{bytes, numeral, Bytes}
use Rattle.buffer.specs.Laws.Numeral.{number-back}
use Rattle.log_rules.specs.Stored.{next_at, marks_at, head_bytes, encode_head, read_head}
use Rattle.log_rules.proofs.Laws.Slot.{GoodHead}
use Rattle.log_form.specs.Laws.Slot.{four_below}

module _ (s : List ℕ) (room : head_bytes ≤ length s) (byte : Bytes s) where
  -- The head that bytes tell of has these bytes.
  pub head-back : encode_head (read_head s) ≡ take head_bytes s
  unfolding encode_head read_head
  head-back =
      let n : bytes 4 (numeral (take 4 (drop next_at s))) ≡ take 4 s = number-back 4 next_at s (omega arith) byte in
      let k : bytes 4 (numeral (take 4 (drop marks_at s))) ≡ take 4 (drop marks_at s) = number-back 4 marks_at s (omega arith) byte in
      (λ i. n i ++ k i) ∙ sym (take-add 4 4 s)

  -- And is good where its next number is from 1.
  pub head-good : 1 ≤ (read_head s).next → GoodHead (read_head s)
  unfolding read_head
  head-good h = record { from_one = h; in_four = four_below s next_at (omega arith) byte; marks-small = four_below s marks_at (omega arith) byte }
