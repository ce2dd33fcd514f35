-- What a call may rely on once lengths and form are tested.
use Rattle.std.specs.Prelude.{ℕ, List, ◌&&◌, cond}
use Rattle.buffer.specs.Decoded.{is_some}
use Rattle.returned.specs.Returned
use Rattle.volume_tree.specs.Stored.{read_volume}
use Rattle.volume_tree.specs.Code.Lent.{Formed}
use Rattle.log_rules.specs.Stored.{read_log}
use Rattle.log_rules.specs.Code.Slots.{Logged}
use Rattle.session.specs.Call.{Geometry, Buffers, geometry, buffers, in_range, lengths_fit}
use Rattle.session.specs.Model.{Model}
use Rattle.session.specs.Step.{decode_model}
use Rattle.session.proofs.Laws.Step.{Holds}

-- "1 Wrong buffer", then "2 Damaged: stored form broken"; 0 where neither holds
unfoldable pub admission : Geometry → Buffers → ℕ
admission g s = cond (in_range g && lengths_fit g s) (cond (is_some (decode_model g s)) Returned.accepted Returned.damaged) Returned.wrong_buffer

-- the model that the bytes of three buffers tell of
abbrev pub model_in : ℕ → ℕ → ℕ → List ℕ → List ℕ → List ℕ → Model
model_in n b m s v l = record { server = read_volume n b s; view = read_volume n b v; log = read_log m l }

-- three buffers that passed
pub record Admitted (n b m : ℕ) (s v l : List ℕ) : Type 0 where
  pub server : Formed n b s
  pub view : Formed n b v
  pub log : Logged n b m l
  pub holds : Holds (geometry n b m) (buffers s v l) (model_in n b m s v l)
