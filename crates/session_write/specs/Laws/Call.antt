-- Write as a change: its table, and what it issues where its table lets it pass. Assumes nothing.
use Rattle.std.specs.Prelude.{ℕ, ◌≤◌, ◌≡◌, refl, List, length}
use Rattle.std.proofs.Math.Path.{sym}
use Rattle.volume_tree.specs.Stored.{read_volume}
use Rattle.log_rules.specs.Stored.{read_log}
use Rattle.session.specs.Class
use Rattle.session.specs.Call.{Issuer, geometry}
use Rattle.session.specs.Issue.{writes}
use Rattle.session.specs.Edit.{write_rows}
use Rattle.session.specs.Step.{answer_of}
use Rattle.session.specs.Code.Table.{first_number}
use Rattle.session.proofs.Laws.Edit.{write-some, write-accepted}
use Rattle.session_admission.specs.Code.Admitted.{model_in, Admitted}
use Rattle.session_change.specs.Code.Change.{change_number, ChangeBy, MayIssue}
use Rattle.session_change.specs.Laws.Change.{change-accepted}

module _ {n b m : ℕ} {s v l : List ℕ} (h : Admitted n b m s v l) (i : Issuer) where
  module _ (o f : ℕ) (d : List ℕ) (own count : ℕ) (number : own ≡ first_number (write_rows b (read_volume n b v) o f d))
      (many : count ≡ length (writes (read_volume n b v) o f d)) where
    pub write-change : ChangeBy n b m i s v l (Class.write o f d) own count
    unfolding answer_of
    write-change =
        record {
          held = h;
          rise = refl;
          number = number;
          many = λ z. sym many;
        }

    -- An accepted write has some bytes, and its operations may be issued.
    module _ (k : ℕ) (e : k ≡ change_number (geometry n b m) (read_log m l) i.program own count) (z : k ≡ 0) where
      pub write_bytes : 1 ≤ length d
      unfolding answer_of
      write_bytes = write-some (geometry n b m) (model_in n b m s v l) h.holds.sound i o f d (change-accepted write-change k e z)

      pub write-issuing : MayIssue n b m i.program v l (writes (read_volume n b v) o f d)
      unfolding answer_of
      write-issuing =
          record {
            server = s;
            held = h;
            issuing = write-accepted (geometry n b m) (model_in n b m s v l) h.holds.sound i o f d (change-accepted write-change k e z);
          }
