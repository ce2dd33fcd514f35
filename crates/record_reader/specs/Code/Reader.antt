-- What the record reader gives at a place of a buffer: the field with the next place, or the refusal.
use Rattle.record_reader.specs.declared.Whole.{Whole}
use Rattle.buffer.specs.declared.span.Span.{Span}
use Rattle.record.specs.declared.kind.Kind.{Kind}
use Rattle.std.specs.Prelude.{ℕ, ◌+◌, ◌-◌, List, Bool, true, false, ◌&&◌, cond, length, take, drop, leb, Option, None, Some}
use Rattle.buffer.specs.Geometry.{block_bytes}
use Rattle.names.specs.Name.{valid_name}
use Rattle.record_reader.specs.declared.Place.{Place}
use Rattle.record_reader.specs.declared.Head.{Head}
use Rattle.record_reader.specs.declared.Objects.{Objects}
use Rattle.record_reader.specs.declared.Names.{Names}
use Rattle.record_reader.specs.declared.Range.{Range}
use Rattle.record.specs.Kind.{kind_of_code, has_map}
use Rattle.buffer.specs.Numeral.{numeral}
use Rattle.buffer.specs.Code.Span.{span}
use Rattle.record.specs.Fields.{stands_in, between, objects_of, differing, in_block, valid_list, valid_head}

abbrev pub place : ℕ → Place
place p = record { at = p }

-- what was read, with the place after it
abbrev pub with_next : {A : Type 0} → A → Place → Option (A × Place)
with_next x p = Some (x, p)

-- the number of so many bytes at a place
unfoldable pub number_at : ℕ → List ℕ → ℕ → Option (ℕ × Place)
number_at w s at = cond (leb w (length s - at)) (with_next (numeral (take w (drop at s))) (place (at + w))) None

-- the stretch of so many bytes at a place
unfoldable pub part_at : ℕ → List ℕ → ℕ → Option (Span × Place)
part_at n s at = cond (leb at (length s) && leb n (length s - at)) (with_next (span at n) (place (at + n))) None

-- the step from a field to the next: what was read goes on with the place after it, and a refusal ends all
abbrev pub on_number : {A : Type 0} → Option (ℕ × Place) → A → (ℕ → Place → A) → A
on_number (Some (v, p)) refused f = f v p
on_number None refused f = refused

abbrev pub on_part : {A : Type 0} → Option (Span × Place) → A → (ℕ → ℕ → Place → A) → A
on_part (Some (t, p)) refused f = f t.start t.len p
on_part None refused f = refused

-- a stretch that passes a test
abbrev pub part_if : (ℕ → ℕ → Bool) → Option (Span × Place) → Option (Span × Place)
part_if t (Some (r, p)) = cond (t r.start r.len) (with_next r p) None
part_if t None = None

-- an object's number from `least` to 255, where the field is present
unfoldable pub object_at : Bool → ℕ → List ℕ → ℕ → Option (ℕ × Place)
object_at true least s at = on_number (number_at 2 s at) None (λ v p. cond (between least 255 v) (with_next v p) None)
object_at false least s at = with_next 0 (place at)

unfoldable pub offset_at : Bool → List ℕ → ℕ → Option (ℕ × Place)
offset_at true s at = number_at 4 s at
offset_at false s at = with_next 0 (place at)

unfoldable pub name_at : Bool → List ℕ → ℕ → Option (Span × Place)
name_at true s at = on_number (number_at 1 s at) None (λ n p. part_if (λ start k. valid_name (take k (drop start s))) (part_at n s p.at))
name_at false s at = with_next (span 0 0) (place at)

unfoldable pub block_at : Bool → List ℕ → ℕ → Option (Span × Place)
block_at true s at = on_number (number_at 2 s at) None (λ n p. cond (between 1 block_bytes n) (part_at n s p.at) None)
block_at false s at = with_next (span 0 0) (place at)

unfoldable pub list_at : Bool → List ℕ → ℕ → Option (Span × Place)
list_at true s at = on_number (number_at 1 s at) None (λ n p. part_if (λ start k. valid_list (objects_of (take k (drop start s)))) (part_at (n + n) s p.at))
list_at false s at = with_next (span 0 0) (place at)

-- "sequence 1..4,294,967,294; program 0..31", "the map of its kind"
unfoldable pub head_of : ℕ → ℕ → ℕ → Option Kind → Place → Option (Head × Place)
head_of map sequence program (Some k) next =
    cond (valid_head sequence program && has_map k map)
    (with_next (record { map = map; sequence = sequence; program = program; kind = k }) next)
    None
head_of map sequence program None next = None

-- "A bit map of 2 bytes, sequence (4), program (1), kind (1)"
unfoldable pub head_at : List ℕ → ℕ → Option (Head × Place)
head_at s at =
    on_number (number_at 2 s at) None (λ map p.
    on_number (number_at 4 s p.at) None (λ sequence q.
    on_number (number_at 1 s q.at) None (λ program r.
    on_number (number_at 1 s r.at) None (λ code t.
    head_of map sequence program (kind_of_code code) t))))

-- fields 0 to 3
unfoldable pub objects_at : ℕ → List ℕ → ℕ → Option (Objects × Place)
objects_at m s at =
    on_number (object_at (stands_in m 1) 1 s at) None (λ o p.
    on_number (object_at (stands_in m 2) 0 s p.at) None (λ r q.
    on_number (object_at (stands_in m 4) 0 s q.at) None (λ c u.
    on_number (object_at (stands_in m 8) 1 s u.at) None (λ d t.
    with_next (record { object = o; parent = r; second = c; displaced = d }) t))))

-- fields 4 and 5
unfoldable pub names_at : ℕ → List ℕ → ℕ → Option (Names × Place)
names_at m s at =
    on_part (name_at (stands_in m 16) s at) None (λ a i p.
    on_part (name_at (stands_in m 32) s p.at) None (λ b j q.
    with_next (record { name = span a i; second = span b j }) q))

-- fields 6 to 8
unfoldable pub range_at : ℕ → List ℕ → ℕ → Option (Range × Place)
range_at m s at =
    on_number (offset_at (stands_in m 64) s at) None (λ o p.
    on_part (block_at (stands_in m 128) s p.at) None (λ a i q.
    on_part (list_at (stands_in m 256) s q.at) None (λ b j r.
    with_next (record { offset = o; content = span a i; list = span b j }) r)))

-- what ties two fields
unfoldable pub tied_at : ℕ → Objects → Range → Bool
tied_at m o g = differing m o.object o.displaced && in_block m g.offset g.content.len

abbrev pub after_head : Option (Head × Place) → (Head → Place → Option Whole) → Option Whole
after_head (Some (h, p)) f = f h p
after_head None f = None

abbrev pub after_objects : Option (Objects × Place) → (Objects → Place → Option Whole) → Option Whole
after_objects (Some (o, p)) f = f o p
after_objects None f = None

abbrev pub after_names : Option (Names × Place) → (Names → Place → Option Whole) → Option Whole
after_names (Some (n, p)) f = f n p
after_names None f = None

abbrev pub after_range : Option (Range × Place) → (Range → Place → Option Whole) → Option Whole
after_range (Some (g, p)) f = f g p
after_range None f = None

-- the record at a place, or the refusal 20
unfoldable pub record_at : List ℕ → ℕ → Option Whole
record_at s at =
    after_head (head_at s at) (λ h p.
    after_objects (objects_at h.map s p.at) (λ o q.
    after_names (names_at h.map s q.at) (λ n r.
    after_range (range_at h.map s r.at) (λ g t.
    cond (tied_at h.map o g) (Some (record { head = h; objects = o; names = n; range = g; next = t })) None))))
