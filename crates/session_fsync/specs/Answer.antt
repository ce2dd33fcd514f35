-- Document 01, "Returned numbers": the number that an fsync returns and the sends that it reports.
use Rattle.std.specs.Prelude.{ℕ, Result, Ok, Err}
use Rattle.returned.specs.declared.Refusal.{Refusal}
use Rattle.returned.specs.Refusal.{refusal_number}
use Rattle.log_fsync.specs.declared.Synced.{Synced}
use Rattle.log_fsync.specs.Answer.{synced_number, sends_made}

-- the number of what became of the sends, or of the refusal before them
abbrev pub answered_number : Result Synced Refusal → ℕ
answered_number (Ok r) = synced_number r
answered_number (Err f) = refusal_number f

-- a refusal before the sends reports none
abbrev pub sends_told : Result Synced Refusal → ℕ
sends_told (Ok r) = sends_made r
sends_told (Err f) = 0
