-- "Records fit n and b", asked of a record that was read at a place of a buffer.
use Rattle.std.specs.Prelude.{ℕ, List, Bool, false, ◌&&◌, ltb}
use Rattle.std.specs.Prelude.{Option, None, Some}
use Rattle.record_reader.specs.declared.Objects.{Objects}
use Rattle.record_reader.specs.declared.Whole.{Whole}
use Rattle.record.specs.Operation.{Record}
use Rattle.record.specs.Fields.{stands_in, if_stands, all_below, within_blocks, fits, objects_of}
use Rattle.buffer.specs.Code.Span.{stretch}

-- the record of a place fits; where there is none, it does not
abbrev pub fits_decoded : ℕ → ℕ → Option Record → Bool
fits_decoded n b None = false
fits_decoded n b (Some r) = fits n b r

-- an object is below n, where its bit stands
abbrev pub below_if : ℕ → ℕ → ℕ → ℕ → Bool
below_if n map weight object = if_stands (stands_in map weight) (ltb object n)

-- fields 0 to 3 are below n
unfoldable pub objects_below : ℕ → ℕ → Objects → Bool
objects_below n m o =
    below_if n m 1 o.object && (below_if n m 2 o.parent && (below_if n m 4 o.second && below_if n m 8 o.displaced))

-- what the reader answered of a record fits n and b
unfoldable pub fits_whole : ℕ → ℕ → List ℕ → Whole → Bool
fits_whole n b s w =
    objects_below n w.head.map w.objects
    && (all_below n (objects_of (stretch s w.range.list)) && within_blocks b w.range.offset w.range.content.len)
