-- How the program goes through its input, a pass after each read.
use Rattle.std.specs.Prelude.{ℕ, ◌+◌, ◌≡◌, List, [], ◌++◌, Bool, true, false, drop}
use Rattle.losses_report.specs.declared.State.TheVariants.{Going, Done}
use Rattle.losses_report.specs.Pass.{Pass}

-- how passes follow one another: the offset of the first byte that is held, the bytes held, the input that is still to
-- come, and all that is printed
pub data Run : ℕ → List ℕ → List ℕ → List ℕ → Type 0 where
  -- what a pass leaves is kept, and some of the input is read behind it
  goes : {at n : ℕ} {held text out : List ℕ} (chunk rest : List ℕ) → Pass false at held Going n text → Run (at + n) (drop n held ++ chunk) rest out → Run at held (chunk ++ rest) (text ++ out)
  -- a pass that is done is the last; where the input has ended nothing is to come
  stops : {ended : Bool} {at n : ℕ} {held text rest : List ℕ} → Pass ended at held Done n text → (ended ≡ true → rest ≡ []) → Run at held rest text
