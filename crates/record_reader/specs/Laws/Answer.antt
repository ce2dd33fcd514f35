-- The reader takes from a buffer the record that its bytes begin with at the place.
use Rattle.std.specs.Prelude.{ℕ, ◌≡◌, refl, List, drop}
use Rattle.std.proofs.Common.{sym, ap, ◌∙◌}
use Rattle.std.specs.Prelude.{Option, None, Some}
use Rattle.buffer.specs.Numeral.{Bytes}
use Rattle.record.specs.Operation.{Record}
use Rattle.record.specs.Decode.{decode_record}
use Rattle.record.proofs.Laws.Decode.{decode-sound, decode-encoded}
use Rattle.record_reader.specs.Code.Found.{decode_at}
use Rattle.record_reader.specs.Laws.Exact.{decode-encode, encode-decode}

-- the reader takes from bytes at a place the record that they begin with there
pub decode-reader : (s : List ℕ) → Bytes s → (at : ℕ) → decode_record (drop at s) ≡ decode_at s at
decode-reader s byte at = go (decode_record (drop at s)) (decode_at s at) refl refl
  where
    go : (x y : Option Record) → decode_record (drop at s) ≡ x → decode_at s at ≡ y → x ≡ y
    go None None e f = refl
    go (Some r) y e f = let d = decode-sound (drop at s) r e in sym (decode-encode s at r d.1.0 d.0 d.1.1) ∙ f
    go None (Some q) e f =
        let d = encode-decode s byte at q f in
        sym e ∙ ap decode_record d.1.1 ∙ decode-encoded q d.1.0 d.0
