-- Document 01, "Geometry and stored form": the bytes of a volume, and the volume of some bytes.
use Rattle.std.specs.Prelude.{ℕ, zero, suc, ◌*◌, List, [], ◌∷◌, ◌++◌, Bool, ◌&&◌, cond, length, take, drop, eqb}
use Rattle.std.specs.Prelude.{Option, None, Some}
use Rattle.buffer.specs.Geometry.{good_objects, good_blocks}
use Rattle.buffer.specs.Decoded.{is_some}
use Rattle.volume_entry.specs.Stored.{entry_bytes, encode_entry, same_bytes, read_entry}
use Rattle.volume_tree.specs.Volume.{Volume}
use Rattle.volume_tree.specs.Form.{well_formed}

abbrev pub volume_bytes : ℕ → ℕ → ℕ
volume_bytes n b = n * entry_bytes b

unfoldable pub encode_volume : ℕ → Volume → List ℕ
encode_volume b [] = []
encode_volume b (e ∷ v) = encode_entry b e ++ encode_volume b v

unfoldable pub read_volume : ℕ → ℕ → List ℕ → Volume
read_volume zero b s = []
read_volume (suc n) b s = read_entry (take (entry_bytes b) s) ∷ read_volume n b (drop (entry_bytes b) s)

-- bytes are of the right form exactly if they are those of a well-formed volume, which is then the one that their fields
-- tell of
unfoldable pub decode_volume : ℕ → ℕ → List ℕ → Option Volume
decode_volume n b s =
    cond (well_formed n b (read_volume n b s) && same_bytes (encode_volume b (read_volume n b s)) s) (Some (read_volume n b s)) None

-- "n objects (2..256), b blocks a file (1..64)", "n entries of 68 + 1,024 × b bytes": else "1 Wrong buffer"
unfoldable pub lent : ℕ → ℕ → List ℕ → Bool
lent n b s = good_objects n && (good_blocks b && eqb (length s) (volume_bytes n b))

-- the bytes are lent as they should be, and of the right form: else "2 Damaged"
unfoldable pub formed : ℕ → ℕ → List ℕ → Bool
formed n b s = lent n b s && is_some (decode_volume n b s)
