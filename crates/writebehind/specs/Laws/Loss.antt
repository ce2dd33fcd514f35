-- What the reader told is what is answered of the record that begins at the place. Assumes nothing.
use Rattle.record_reader.specs.declared.Whole.{Whole}
use Rattle.std.specs.Prelude.{ℕ, ◌≡◌, refl, ◌↔◌, List, ◌++◌, true, drop}
use Rattle.std.proofs.Common.{arith, sym, ap, ◌∙◌}
use Rattle.std.specs.Prelude.{Option, None, Some}
use Rattle.record.specs.Operation.{Record}
use Rattle.record.specs.Fields.{valid, encode}
use Rattle.record.specs.Decode.{decode_record}
use Rattle.record.proofs.Laws.Decode.{decode-sound, decode-encoded}
use Rattle.record_reader.specs.Answer.{whole_of, Exact, read, refused}
use Rattle.writebehind.specs.declared.loss.Loss.{Loss}
use Rattle.writebehind.specs.Loss.{no_loss, loss_in, loss_read, loss_of}

pub read-loss : (s : List ℕ) (at : ℕ) (x : Option Whole) → Exact s at x → loss_read x ≡ loss_of at (decode_record (drop at s))
read-loss s at (Some w) (read r rest good e) = ap (loss_of at) (sym (ap decode_record e ∙ decode-encoded r rest good))
read-loss s at None (refused never) = go (decode_record (drop at s)) refl
  where
    go : (o : Option Record) → decode_record (drop at s) ≡ o → no_loss ≡ loss_of at (decode_record (drop at s))
    go None e = ap (loss_of at) (sym e)
    go (Some r) e = let d = decode-sound (drop at s) r e in absurd (never r d.1.0 d.0 d.1.1)

-- "A record could be written exactly if it is valid": it is read exactly where the bytes from the place on begin with a valid record's, and
-- then that record is told.
pub loss-told : (s : List ℕ) (at : ℕ) (r : Record) (rest : List ℕ) → valid r ≡ true → drop at s ≡ encode r ++ rest → loss_of at (decode_record (drop at s)) ≡ loss_in (whole_of r at)
loss-told s at r rest good e = ap (loss_of at) (ap decode_record e ∙ decode-encoded r rest good)

pub loss-exact : (s : List ℕ) (at : ℕ)
    → ((loss_of at (decode_record (drop at s))).returned ≡ 0) ↔ ((r : Record) × (valid r ≡ true) × ((rest : List ℕ) × (drop at s ≡ encode r ++ rest)))
loss-exact s at = (go (decode_record (drop at s)) refl, λ h. ap (λ (l : Loss). l.returned) (loss-told s at h.0 h.2.0 h.1 h.2.1))
  where
    go : (o : Option Record) → decode_record (drop at s) ≡ o → (loss_of at o).returned ≡ 0 → (r : Record) × (valid r ≡ true) × ((rest : List ℕ) × (drop at s ≡ encode r ++ rest))
    go None e h = absurd (omega arith)
    go (Some r) e h = let d = decode-sound (drop at s) r e in (r, d.0, d.1)
