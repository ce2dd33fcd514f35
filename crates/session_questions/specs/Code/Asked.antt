-- What refuses a question before it is asked, and what is known where nothing does.
use Rattle.std.specs.Prelude.{ℕ, ◌<◌, ◌≡◌, List, cond, eqb}
use Rattle.log_rules.specs.Stored.{read_log}
use Rattle.log_rules.specs.Code.Slots.{Logged}
use Rattle.session.specs.Call.{geometry, buffers}
use Rattle.session.specs.Model.{program_rows}
use Rattle.session.specs.Code.Table.{first_number}
use Rattle.session_admission.specs.Code.Admitted.{admission, Admitted}

-- "1 Wrong buffer", "2 Damaged", then "3 Bad program", "4 Marked"; 0 where none holds
unfoldable pub first_refusal : ℕ → ℕ → ℕ → ℕ → List ℕ → List ℕ → List ℕ → ℕ
first_refusal n b m p s v l =
    cond (eqb (admission (geometry n b m) (buffers s v l)) 0) (first_number (program_rows (read_log m l) p)) (admission (geometry n b m) (buffers s v l))

-- a question may be asked
pub record MayAsk (n b m p : ℕ) (s v l : List ℕ) : Type 0 where
  pub admitted : Admitted n b m s v l
  pub log : Logged 256 64 m l
  pub program : p < 32
  pub none : 0 ≡ first_number (program_rows (read_log m l) p)
