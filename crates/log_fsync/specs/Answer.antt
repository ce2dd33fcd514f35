-- Document 01, "Returned numbers": the number of each answer of an fsync, and the sends that it reports.
use Rattle.std.specs.Prelude.{ℕ}
use Rattle.returned.specs.Returned
use Rattle.log_fsync.specs.declared.Synced.{Synced}
use Rattle.log_fsync.specs.declared.Synced.TheVariants.{Sent, Stopped, Lost}

-- "An fsync whose bad operation is among the first k gives 2"; "17 Link lost"
abbrev pub synced_number : Synced → ℕ
synced_number (Sent d) = Returned.accepted
synced_number (Stopped d) = Returned.damaged
synced_number (Lost d) = Returned.link_lost

-- how many were sent
abbrev pub sends_made : Synced → ℕ
sends_made (Sent d) = d
sends_made (Stopped d) = d
sends_made (Lost d) = d
