-- What the reader accepts is the bytes of a valid record: the groups of fields, the head, and the whole record.
use Rattle.buffer.specs.Code.Span.{span}
use Rattle.std.specs.Prelude.{ℕ, ◌+◌, Bool, ◌&&◌, ◌||◌, eqb, Option, None, Some}
use Rattle.std.proofs.Common.{arith, ◌∙◌, eqb-true}
use Rattle.std.proofs.Math.Path.{◌≡◌, refl, sym, ap, subst}
use Rattle.std.proofs.Math.Bool.{true, false, cond}
use mathlib.Core.List.{List, ◌++◌}
use Rattle.std.proofs.Math.ListN.{length}
use Rattle.record.specs.declared.kind.Kind.{Kind}
use Rattle.record.specs.declared.kind.Kind.TheVariants.{CreateFile, MakeDirectory, Remove, Rename, Overwrite, Append, SetLength, Forder}
use Rattle.record_reader.specs.declared.Place.{Place}
use Rattle.record_reader.specs.declared.Head.{Head}
use Rattle.record_reader.specs.declared.Objects.{Objects}
use Rattle.buffer.specs.declared.span.Span.{Span}
use Rattle.record_reader.specs.declared.Names.{Names}
use Rattle.record_reader.specs.declared.Range.{Range}
use Rattle.record_reader.specs.declared.Whole.{Whole}
use Rattle.record.specs.Kind.{code_of, kind_of_code, map_of_kind, displacing_map_of, has_map}
use Rattle.buffer.specs.Numeral.{bytes, Bytes}
use Rattle.record.specs.Operation.{Record, kind_of, map_of}
use Rattle.record.specs.Fields.{Parts, parted, parts, stands_in, field, text, pairs, object_fields, name_fields, range_fields, fields, head_bytes, encode, valid_objects, valid_names, valid_range, tied, differing, in_block, valid_parts, valid_head, valid, objects_of, operation_of}
use Rattle.record_reader.specs.Code.Reader.{with_next, number_at, object_at, offset_at, name_at, block_at, list_at, on_number, on_part, head_of, head_at, objects_at, names_at, range_at, tied_at, after_head, after_objects, after_names, after_range, record_at}
use Rattle.buffer.specs.Code.Span.{span, stretch}
use Rattle.record.proofs.Laws.Kind.{code-inv}
use Rattle.record.proofs.Laws.Record.{length-head}
use Rattle.buffer.specs.Laws.Span.{Spans, spans-append}
use Rattle.record_reader.specs.Laws.Reader.{same-next}
use Rattle.record_reader.specs.Laws.Sound.{number-sound, object-sound, offset-sound, name-sound, block-sound, list-sound, list-pairs}
use Rattle.record_reader.specs.Answer.{span_if, objects_in, names_in, range_in, whole_of}
use Rattle.record_reader.specs.Code.Found.{parts_from}

-- a step that did not end in a refusal had something to go on with
pub number-went : {A : Type 0} (f : Option (ℕ × Place)) (refused a : A) (g : ℕ → Place → A) → (refused ≡ a → ⊥) → on_number f refused g ≡ a
    → (v : ℕ) × (q : Place) × (f ≡ with_next v q) × (g v q ≡ a)
number-went (Some (v, q)) refused a g other e = (v, q, refl, e)
number-went None refused a g other e = absurd (other e)

pub part-went : {A : Type 0} (f : Option (Span × Place)) (refused a : A) (g : ℕ → ℕ → Place → A) → (refused ≡ a → ⊥) → on_part f refused g ≡ a
    → (b k : ℕ) × (q : Place) × (f ≡ with_next (span b k) q) × (g b k q ≡ a)
part-went (Some (t, q)) refused a g other e = (t.start, t.len, q, refl, e)
part-went None refused a g other e = absurd (other e)

no-objects : (o : Objects) (p : Place) → None ≡ with_next o p → ⊥
no-objects o p e = let z : ◌≡◌ {A = ℕ} 0 1 = cc in omega arith

no_names : (n : Names) (p : Place) → None ≡ with_next n p → ⊥
no_names n p e = let z : ◌≡◌ {A = ℕ} 0 1 = cc in omega arith

pub no-range : (g : Range) (p : Place) → None ≡ with_next g p → ⊥
no-range g p e = let z : ◌≡◌ {A = ℕ} 0 1 = cc in omega arith

no-head : (h : Head) (p : Place) → None ≡ with_next h p → ⊥
no-head h p e = let z : ◌≡◌ {A = ℕ} 0 1 = cc in omega arith

module _ (s : List ℕ) (byte : Bytes s) where
  -- fields 0 to 3: their bytes, their limits, and what is answered of them, whatever the other fields are
  pub record ObjectsRead (m at : ℕ) (o : Objects) (p : Place) : Type 0 where
    pub spans : (n k : List ℕ) (f : ℕ) (b l : List ℕ) → Spans s at (object_fields m (parted o.object o.parent o.second o.displaced n k f b l)) p.at
    pub good : (n k : List ℕ) (f : ℕ) (b l : List ℕ) → valid_objects m (parted o.object o.parent o.second o.displaced n k f b l) ≡ true
    pub answered : (n k : List ℕ) (f : ℕ) (b l : List ℕ) → objects_in m (parted o.object o.parent o.second o.displaced n k f b l) ≡ o

  pub objects-sound : (m at : ℕ) (o : Objects) (p : Place) → objects_at m s at ≡ with_next o p → ObjectsRead m at o p
  unfolding objects_at object_fields valid_objects
  objects-sound m at o p e =
      let i₁ = number-went (object_at (stands_in m 1) 1 s at) None (with_next o p) _ (no-objects o p) e in
      let i₂ = number-went (object_at (stands_in m 2) 0 s i₁.1.at) None (with_next o p) _ (no-objects o p) i₁.3 in
      let i₃ = number-went (object_at (stands_in m 4) 0 s i₂.1.at) None (with_next o p) _ (no-objects o p) i₂.3 in
      let i₄ = number-went (object_at (stands_in m 8) 1 s i₃.1.at) None (with_next o p) _ (no-objects o p) i₃.3 in
      let r₁ = object-sound s byte (stands_in m 1) 1 at i₁.0 i₁.1 i₁.2 in
      let r₂ = object-sound s byte (stands_in m 2) 0 i₁.1.at i₂.0 i₂.1 i₂.2 in
      let r₃ = object-sound s byte (stands_in m 4) 0 i₂.1.at i₃.0 i₃.1 i₃.2 in
      let r₄ = object-sound s byte (stands_in m 8) 1 i₃.1.at i₄.0 i₄.1 i₄.2 in
      let o₀ : Objects = record { object = i₁.0; parent = i₂.0; second = i₃.0; displaced = i₄.0 } in
      let last : with_next o₀ i₄.1 ≡ with_next o p = i₄.3 in
      let eo : o₀ ≡ o = (same-next last).0 in
      let ep : i₄.1 ≡ p = (same-next last).1 in
      let w₁ = field (stands_in m 1) (bytes 2 i₁.0) in
      let w₂ = field (stands_in m 2) (bytes 2 i₂.0) in
      let w₃ = field (stands_in m 4) (bytes 2 i₃.0) in
      let w₄ = field (stands_in m 8) (bytes 2 i₄.0) in
      let sp : Spans s at (w₁ ++ (w₂ ++ (w₃ ++ w₄))) i₄.1.at =
      spans-append s at i₁.1.at i₄.1.at w₁ (w₂ ++ (w₃ ++ w₄)) r₁.spans
      (spans-append s i₁.1.at i₂.1.at i₄.1.at w₂ (w₃ ++ w₄) r₂.spans
      (spans-append s i₂.1.at i₃.1.at i₄.1.at w₃ w₄ r₃.spans r₄.spans)) in
      let read : ObjectsRead m at o₀ i₄.1 =
      record {
        spans = λ n k f b l. sp;
        good = λ n k f b l. rw (r₁.good, r₂.good, r₃.good, r₄.good);
        answered = λ n k f b l. λ i. record { object = r₁.kept i; parent = r₂.kept i; second = r₃.kept i; displaced = r₄.kept i };
      } in
      subst (λ (y : Place). ObjectsRead m at o y) {x = i₄.1} ep (subst (λ (y : Objects). ObjectsRead m at y i₄.1) {x = o₀} eo read)

  -- fields 4 and 5, whatever the other fields are
  pub record NamesRead (m at : ℕ) (n : Names) (p : Place) : Type 0 where
    pub spans : (o r q d f : ℕ) (b l : List ℕ) → Spans s at (name_fields m (parted o r q d (stretch s n.name) (stretch s n.second) f b l)) p.at
    pub good : (o r q d f : ℕ) (b l : List ℕ) → valid_names m (parted o r q d (stretch s n.name) (stretch s n.second) f b l) ≡ true
    pub answered : (o r q d f : ℕ) (b l : List ℕ) → names_in m (parted o r q d (stretch s n.name) (stretch s n.second) f b l) at ≡ n

  pub names-sound : (m at : ℕ) (n : Names) (p : Place) → names_at m s at ≡ with_next n p → NamesRead m at n p
  unfolding names_at name_fields valid_names
  names-sound m at n p e =
      let i₁ = part-went (name_at (stands_in m 16) s at) None (with_next n p) _ (no_names n p) e in
      let i₂ = part-went (name_at (stands_in m 32) s i₁.2.at) None (with_next n p) _ (no_names n p) i₁.4 in
      let r₁ = name-sound s byte (stands_in m 16) at i₁.0 i₁.1 i₁.2 i₁.3 in
      let r₂ = name-sound s byte (stands_in m 32) i₁.2.at i₂.0 i₂.1 i₂.2 i₂.3 in
      let n₀ : Names = record { name = span i₁.0 i₁.1; second = span i₂.0 i₂.1 } in
      let last : with_next n₀ i₂.2 ≡ with_next n p = i₂.4 in
      let en : n₀ ≡ n = (same-next last).0 in
      let ep : i₂.2 ≡ p = (same-next last).1 in
      let t₁ = stretch s (span i₁.0 i₁.1) in
      let t₂ = stretch s (span i₂.0 i₂.1) in
      let w₁ = field (stands_in m 16) (text t₁) in
      let w₂ = field (stands_in m 32) (text t₂) in
      let lies₂ : span_if (stands_in m 32) (at + length w₁ + 1) (length t₂) ≡ span i₂.0 i₂.1 =
      ap (λ (k : ℕ). span_if (stands_in m 32) (k + 1) (length t₂)) (sym r₁.spans.after) ∙ r₂.lies in
      let read : NamesRead m at n₀ i₂.2 =
      record {
        spans = λ o r q d f b l. spans-append s at i₁.2.at i₂.2.at w₁ w₂ r₁.spans r₂.spans;
        good = λ o r q d f b l. rw (r₁.good, r₂.good);
        answered = λ o r q d f b l. λ i. record { name = r₁.lies i; second = lies₂ i };
      } in
      subst (λ (y : Place). NamesRead m at n y) ep (subst (λ (y : Names). NamesRead m at y i₂.2) en read)

  -- fields 6 to 8, whatever the other fields are
  pub record RangeRead (m at : ℕ) (g : Range) (p : Place) : Type 0 where
    pub spans : (o r q d : ℕ) (n k : List ℕ) → Spans s at (range_fields m (parted o r q d n k g.offset (stretch s g.content) (objects_of (stretch s g.list)))) p.at
    pub good : (o r q d : ℕ) (n k : List ℕ) → valid_range m (parted o r q d n k g.offset (stretch s g.content) (objects_of (stretch s g.list))) ≡ true
    pub answered : (o r q d : ℕ) (n k : List ℕ) → range_in m (parted o r q d n k g.offset (stretch s g.content) (objects_of (stretch s g.list))) at ≡ g
    pub long : length (field (stands_in m 128) (stretch s g.content)) ≡ g.content.len

  stretch-long : (b : Bool) (a start k : ℕ) → span_if b a (length (stretch s (span start k))) ≡ span start k → length (field b (stretch s (span start k))) ≡ k
  stretch-long true a start k e = ap (λ (x : Span). x.len) e
  stretch-long false a start k e = ap (λ (x : Span). x.len) e

  pub range-sound : (m at : ℕ) (g : Range) (p : Place) → range_at m s at ≡ with_next g p → RangeRead m at g p
  unfolding range_at range_fields valid_range
  range-sound m at g p e =
      let i₁ = number-went (offset_at (stands_in m 64) s at) None (with_next g p) _ (no-range g p) e in
      let i₂ = part-went (block_at (stands_in m 128) s i₁.1.at) None (with_next g p) _ (no-range g p) i₁.3 in
      let i₃ = part-went (list_at (stands_in m 256) s i₂.2.at) None (with_next g p) _ (no-range g p) i₂.4 in
      let r₁ = offset-sound s byte (stands_in m 64) at i₁.0 i₁.1 i₁.2 in
      let r₂ = block-sound s byte (stands_in m 128) i₁.1.at i₂.0 i₂.1 i₂.2 i₂.3 in
      let r₃ = list-sound s byte (stands_in m 256) i₂.2.at i₃.0 i₃.1 i₃.2 i₃.3 in
      let lp = list-pairs s byte (stands_in m 256) i₂.2.at i₃.0 i₃.1 i₃.2 i₃.3 in
      let g₀ : Range = record { offset = i₁.0; content = span i₂.0 i₂.1; list = span i₃.0 i₃.1 } in
      let last : with_next g₀ i₃.2 ≡ with_next g p = i₃.4 in
      let eg : g₀ ≡ g = (same-next last).0 in
      let ep : i₃.2 ≡ p = (same-next last).1 in
      let t₂ = stretch s (span i₂.0 i₂.1) in
      let t₃ = stretch s (span i₃.0 i₃.1) in
      let w₁ = field (stands_in m 64) (bytes 4 i₁.0) in
      let w₂ = field (stands_in m 128) (bytes 2 (length t₂) ++ t₂) in
      let w₃ = field (stands_in m 256) (bytes 1 (length (objects_of t₃)) ++ pairs (objects_of t₃)) in
      let s₃ : Spans s i₂.2.at w₃ i₃.2.at =
      subst (λ (u : List ℕ). Spans s i₂.2.at (field (stands_in m 256) (bytes 1 (length (objects_of t₃)) ++ u)) i₃.2.at) {x = t₃} {y = pairs (objects_of t₃)} (sym {a = pairs (objects_of t₃)} {b = t₃} lp) r₃.spans in
      let lies₂ : span_if (stands_in m 128) (at + length w₁ + 2) (length t₂) ≡ span i₂.0 i₂.1 =
      ap (λ (k : ℕ). span_if (stands_in m 128) (k + 2) (length t₂)) (sym r₁.spans.after) ∙ r₂.lies in
      let lies₃ : span_if (stands_in m 256) (at + length w₁ + length w₂ + 1) (length (pairs (objects_of t₃))) ≡ span i₃.0 i₃.1 =
      ap (λ (k : ℕ). span_if (stands_in m 256) (k + 1) (length (pairs (objects_of t₃)))) (ap (λ (k : ℕ). k + length w₂) (sym r₁.spans.after) ∙ sym r₂.spans.after)
      ∙ ap (λ (u : List ℕ). span_if (stands_in m 256) (i₂.2.at + 1) (length u)) lp ∙ r₃.lies in
      let read : RangeRead m at g₀ i₃.2 =
      record {
        spans = λ o r q d n k.
            spans-append s at i₁.1.at i₃.2.at w₁ (w₂ ++ w₃) r₁.spans
            (spans-append s i₁.1.at i₂.2.at i₃.2.at w₂ w₃ r₂.spans s₃);
        good = λ o r q d n k. rw (r₂.good, r₃.good);
        answered = λ o r q d n k. λ i. record { offset = r₁.kept i; content = lies₂ i; list = lies₃ i };
        long = stretch-long (stands_in m 128) _ i₂.0 i₂.1 r₂.lies;
      } in
      subst (λ (y : Place). RangeRead m at g y) {x = i₃.2} ep (subst (λ (y : Range). RangeRead m at y i₃.2) {x = g₀} eg read)

  pub record HeadRead (at : ℕ) (h : Head) (p : Place) : Type 0 where
    pub spans : Spans s at (head_bytes h.map h.sequence h.program (code_of h.kind)) p.at
    pub good : valid_head h.sequence h.program ≡ true
    pub of_kind : has_map h.kind h.map ≡ true

  pub head-sound : (at : ℕ) (h : Head) (p : Place) → head_at s at ≡ with_next h p → HeadRead at h p
  unfolding head_at head_of head_bytes
  head-sound at h p e =
      let i₁ = number-went (number_at 2 s at) None (with_next h p) _ (no-head h p) e in
      let i₂ = number-went (number_at 4 s i₁.1.at) None (with_next h p) _ (no-head h p) i₁.3 in
      let i₃ = number-went (number_at 1 s i₂.1.at) None (with_next h p) _ (no-head h p) i₂.3 in
      let i₄ = number-went (number_at 1 s i₃.1.at) None (with_next h p) _ (no-head h p) i₃.3 in
      kinds i₁.0 i₂.0 i₃.0 i₄.0 i₄.1
      (spans-append s at i₁.1.at i₄.1.at (bytes 2 i₁.0) (bytes 4 i₂.0 ++ (bytes 1 i₃.0 ++ bytes 1 i₄.0)) (number-sound s byte 2 at i₁.0 i₁.1 i₁.2)
      (spans-append s i₁.1.at i₂.1.at i₄.1.at (bytes 4 i₂.0) (bytes 1 i₃.0 ++ bytes 1 i₄.0) (number-sound s byte 4 i₁.1.at i₂.0 i₂.1 i₂.2)
      (spans-append s i₂.1.at i₃.1.at i₄.1.at (bytes 1 i₃.0) (bytes 1 i₄.0) (number-sound s byte 1 i₂.1.at i₃.0 i₃.1 i₃.2)
      (number-sound s byte 1 i₃.1.at i₄.0 i₄.1 i₄.2))))
      (kind_of_code i₄.0) refl i₄.3
    where
      tested : (map sequence program code : ℕ) (q : Place) → Spans s at (bytes 2 map ++ (bytes 4 sequence ++ (bytes 1 program ++ bytes 1 code))) q.at
          → (k : Kind) → code_of k ≡ code → (a b : Bool) → valid_head sequence program ≡ a → has_map k map ≡ b
          → cond (a && b) (with_next (record { map = map; sequence = sequence; program = program; kind = k }) q) None ≡ with_next h p → HeadRead at h p
      tested map sequence program code q sp k ck true true va hm l =
          let eh : record { map = map; sequence = sequence; program = program; kind = k } ≡ h = (same-next l).0 in
          let ep : q ≡ p = (same-next l).1 in
          let read : HeadRead at (record { map = map; sequence = sequence; program = program; kind = k }) q =
          record { spans = rw ck sp; good = va; of_kind = hm } in
          subst (λ (y : Place). HeadRead at h y) ep (subst (λ (y : Head). HeadRead at y q) eh read)
      tested map sequence program code q sp k ck true false va hm l = let z : ◌≡◌ {A = ℕ} 0 1 = cc in absurd (omega arith)
      tested map sequence program code q sp k ck false b va hm l = let z : ◌≡◌ {A = ℕ} 0 1 = cc in absurd (omega arith)

      kinds : (map sequence program code : ℕ) (q : Place) → Spans s at (bytes 2 map ++ (bytes 4 sequence ++ (bytes 1 program ++ bytes 1 code))) q.at
          → (k : Option Kind) → kind_of_code code ≡ k → head_of map sequence program k q ≡ with_next h p → HeadRead at h p
      kinds map sequence program code q sp (Some k) ek l = tested map sequence program code q sp k (code-inv code k ek) (valid_head sequence program) (has_map k map) refl refl l
      kinds map sequence program code q sp None ek l = let z : ◌≡◌ {A = ℕ} 0 1 = cc in absurd (omega arith)

-- an operation whose fields are taken from the nine has the bytes, the limits and the answer of the nine under its map
record Agrees (k : Kind) (m : ℕ) (x : Parts) : Type 0 where
  map : map_of (operation_of k m x) ≡ m
  kind : kind_of (operation_of k m x) ≡ k
  written : fields m (parts (operation_of k m x)) ≡ fields m x
  object_bytes : object_fields m (parts (operation_of k m x)) ≡ object_fields m x
  name_bytes : name_fields m (parts (operation_of k m x)) ≡ name_fields m x
  good : valid_parts m (parts (operation_of k m x)) ≡ valid_parts m x
  objects : objects_in m (parts (operation_of k m x)) ≡ objects_in m x
  names : (at : ℕ) → names_in m (parts (operation_of k m x)) at ≡ names_in m x at
  range : (at : ℕ) → range_in m (parts (operation_of k m x)) at ≡ range_in m x at

agree-plain : (k : Kind) (x : Parts) → Agrees k (map_of_kind k) x
unfolding fields object_fields name_fields range_fields valid_parts valid_objects valid_names valid_range tied differing in_block
agree-plain CreateFile x = record { map = refl; kind = refl; written = refl; object_bytes = refl; name_bytes = refl; good = refl; objects = refl; names = λ at. refl; range = λ at. refl }
agree-plain MakeDirectory x = record { map = refl; kind = refl; written = refl; object_bytes = refl; name_bytes = refl; good = refl; objects = refl; names = λ at. refl; range = λ at. refl }
agree-plain Remove x = record { map = refl; kind = refl; written = refl; object_bytes = refl; name_bytes = refl; good = refl; objects = refl; names = λ at. refl; range = λ at. refl }
agree-plain Rename x = record { map = refl; kind = refl; written = refl; object_bytes = refl; name_bytes = refl; good = refl; objects = refl; names = λ at. refl; range = λ at. refl }
agree-plain Overwrite x = record { map = refl; kind = refl; written = refl; object_bytes = refl; name_bytes = refl; good = refl; objects = refl; names = λ at. refl; range = λ at. refl }
agree-plain Append x = record { map = refl; kind = refl; written = refl; object_bytes = refl; name_bytes = refl; good = refl; objects = refl; names = λ at. refl; range = λ at. refl }
agree-plain SetLength x = record { map = refl; kind = refl; written = refl; object_bytes = refl; name_bytes = refl; good = refl; objects = refl; names = λ at. refl; range = λ at. refl }
agree-plain Forder x = record { map = refl; kind = refl; written = refl; object_bytes = refl; name_bytes = refl; good = refl; objects = refl; names = λ at. refl; range = λ at. refl }

agree-displacing : (k : Kind) (x : Parts) → Agrees k (displacing_map_of k) x
unfolding fields object_fields name_fields range_fields valid_parts valid_objects valid_names valid_range tied differing in_block
agree-displacing CreateFile x = agree-plain CreateFile x
agree-displacing MakeDirectory x = agree-plain MakeDirectory x
agree-displacing Remove x = agree-plain Remove x
agree-displacing Rename x = record { map = refl; kind = refl; written = refl; object_bytes = refl; name_bytes = refl; good = refl; objects = refl; names = λ at. refl; range = λ at. refl }
agree-displacing Overwrite x = agree-plain Overwrite x
agree-displacing Append x = agree-plain Append x
agree-displacing SetLength x = agree-plain SetLength x
agree-displacing Forder x = agree-plain Forder x

agree : (k : Kind) (m : ℕ) (x : Parts) → has_map k m ≡ true → Agrees k m x
unfolding has_map
agree k m x h = go (eqb m (map_of_kind k)) (eqb m (displacing_map_of k)) refl refl h
  where
    go : (a b : Bool) → eqb m (map_of_kind k) ≡ a → eqb m (displacing_map_of k) ≡ b → (a || b) ≡ true → Agrees k m x
    go true b e f t = subst (λ (n : ℕ). Agrees k n x) (sym (eqb-true _ _ e)) (agree-plain k x)
    go false true e f t = subst (λ (n : ℕ). Agrees k n x) (sym (eqb-true _ _ f)) (agree-displacing k x)
    go false false e f t = let z : ◌≡◌ {A = ℕ} 0 1 = cc in absurd (omega arith)

-- a record that the reader answers: its bytes stand at the place, it is valid, and it is what was answered
pub record Sound (s : List ℕ) (at : ℕ) (w : Whole) : Type 0 where
  pub found : Record
  pub good : valid found ≡ true
  pub spans : Spans s at (encode found) w.next.at
  pub answered : whole_of found at ≡ w

after-head-inv : (f : Option (Head × Place)) (g : Head → Place → Option Whole) (w : Whole) → after_head f g ≡ Some w → (h : Head) × (p : Place) × (f ≡ with_next h p) × (g h p ≡ Some w)
after-head-inv (Some (h, p)) g w e = (h, p, refl, e)
after-head-inv None g w e = let z : ◌≡◌ {A = ℕ} 0 1 = cc in absurd (omega arith)

after-objects-inv : (f : Option (Objects × Place)) (g : Objects → Place → Option Whole) (w : Whole) → after_objects f g ≡ Some w → (o : Objects) × (p : Place) × (f ≡ with_next o p) × (g o p ≡ Some w)
after-objects-inv (Some (o, p)) g w e = (o, p, refl, e)
after-objects-inv None g w e = let z : ◌≡◌ {A = ℕ} 0 1 = cc in absurd (omega arith)

after-names-inv : (f : Option (Names × Place)) (g : Names → Place → Option Whole) (w : Whole) → after_names f g ≡ Some w → (n : Names) × (p : Place) × (f ≡ with_next n p) × (g n p ≡ Some w)
after-names-inv (Some (n, p)) g w e = (n, p, refl, e)
after-names-inv None g w e = let z : ◌≡◌ {A = ℕ} 0 1 = cc in absurd (omega arith)

after-range-inv : (f : Option (Range × Place)) (g : Range → Place → Option Whole) (w : Whole) → after_range f g ≡ Some w → (r : Range) × (p : Place) × (f ≡ with_next r p) × (g r p ≡ Some w)
after-range-inv (Some (r, p)) g w e = (r, p, refl, e)
after-range-inv None g w e = let z : ◌≡◌ {A = ℕ} 0 1 = cc in absurd (omega arith)

module _ (s : List ℕ) (byte : Bytes s) (at : ℕ) where
  -- a head and three groups of fields that were read one after the other, and are tied as they must be
  joined-sound : (h : Head) (p : Place) (o : Objects) (q : Place) (n : Names) (r : Place) (g : Range) (t : Place)
      → HeadRead s byte at h p → ObjectsRead s byte h.map p.at o q → NamesRead s byte h.map q.at n r → RangeRead s byte h.map r.at g t
      → tied_at h.map o g ≡ true → Sound s at (record { head = h; objects = o; names = n; range = g; next = t })
  unfolding encode valid valid_parts tied tied_at fields whole_of
  joined-sound h p o q n r g t hr or nr gr ti =
      let m = h.map in
      let x = parts_from s o n g in
      let ag = agree h.kind m x hr.of_kind in
      let so = or.spans x.name x.second_name x.offset x.block x.list in
      let sn = nr.spans x.object x.parent x.second x.displaced x.offset x.block x.list in
      let sg = gr.spans x.object x.parent x.second x.displaced x.name x.second_name in
      let found : Record = record { sequence = h.sequence; program = h.program; operation = operation_of h.kind m x } in
      let op = operation_of h.kind m x in
      let hb = head_bytes m h.sequence h.program (code_of h.kind) in
      let enc : encode found ≡ hb ++ (object_fields m x ++ (name_fields m x ++ range_fields m x)) =
      ap (λ (y : ℕ). head_bytes y h.sequence h.program (code_of (kind_of op)) ++ fields y (parts op)) ag.map
      ∙ ap (λ (y : Kind). head_bytes m h.sequence h.program (code_of y) ++ fields m (parts op)) ag.kind
      ∙ ap (λ (y : List ℕ). hb ++ y) ag.written in
      let all : Spans s at (hb ++ (object_fields m x ++ (name_fields m x ++ range_fields m x))) t.at =
      spans-append s at p.at t.at hb (object_fields m x ++ (name_fields m x ++ range_fields m x)) hr.spans
      (spans-append s p.at q.at t.at (object_fields m x) (name_fields m x ++ range_fields m x) so
      (spans-append s q.at r.at t.at (name_fields m x) (range_fields m x) sn sg)) in
      let spans : Spans s at (encode found) t.at = subst (λ (y : List ℕ). Spans s at y t.at) (sym enc) all in
      let pq : at + 8 + length (object_fields m x) ≡ q.at =
      ap (λ (k : ℕ). at + k + length (object_fields m x)) (sym (length-head m h.sequence h.program (code_of h.kind)))
      ∙ ap (λ (k : ℕ). k + length (object_fields m x)) (sym hr.spans.after) ∙ sym so.after in
      let pr : at + 8 + length (object_fields m x) + length (name_fields m x) ≡ r.at = ap (λ (k : ℕ). k + length (name_fields m x)) pq ∙ sym sn.after in
      let objects : objects_in (map_of op) (parts op) ≡ o =
      ap (λ (y : ℕ). objects_in y (parts op)) ag.map ∙ ag.objects ∙ or.answered x.name x.second_name x.offset x.block x.list in
      let names : names_in (map_of op) (parts op) (at + 8 + length (object_fields (map_of op) (parts op))) ≡ n =
      ap (λ (y : ℕ). names_in y (parts op) (at + 8 + length (object_fields y (parts op)))) ag.map
      ∙ ap (λ (y : List ℕ). names_in m (parts op) (at + 8 + length y)) ag.object_bytes
      ∙ ap (λ (k : ℕ). names_in m (parts op) k) pq ∙ ag.names q.at
      ∙ nr.answered x.object x.parent x.second x.displaced x.offset x.block x.list in
      let range : range_in (map_of op) (parts op) (at + 8 + length (object_fields (map_of op) (parts op)) + length (name_fields (map_of op) (parts op))) ≡ g =
      ap (λ (y : ℕ). range_in y (parts op) (at + 8 + length (object_fields y (parts op)) + length (name_fields y (parts op)))) ag.map
      ∙ ap (λ (y : List ℕ). range_in m (parts op) (at + 8 + length y + length (name_fields m (parts op)))) ag.object_bytes
      ∙ ap (λ (y : List ℕ). range_in m (parts op) (at + 8 + length (object_fields m x) + length y)) ag.name_bytes
      ∙ ap (λ (k : ℕ). range_in m (parts op) k) pr ∙ ag.range r.at
      ∙ gr.answered x.object x.parent x.second x.displaced x.name x.second_name in
      let tie : tied m x ≡ true = rw gr.long ti in
      let parts-good : valid_parts m x ≡ true =
      rw (or.good x.name x.second_name x.offset x.block x.list, nr.good x.object x.parent x.second x.displaced x.offset x.block x.list, gr.good x.object x.parent x.second x.displaced x.name x.second_name) tie in
      record {
        found = found;
        good = rw hr.good (ap (λ (y : ℕ). valid_parts y (parts op)) ag.map ∙ ag.good ∙ parts-good);
        spans = spans;
        answered = λ i.
            record {
              head = record { map = ag.map i; sequence = h.sequence; program = h.program; kind = ag.kind i };
              objects = objects i;
              names = names i;
              range = range i;
              next = record { at = sym spans.after i };
            };
      }

  pub record-sound : (w : Whole) → record_at s at ≡ Some w → Sound s at w
  unfolding record_at
  record-sound w e =
      let i₁ = after-head-inv (head_at s at) _ w e in
      let i₂ = after-objects-inv (objects_at i₁.0.map s i₁.1.at) _ w i₁.3 in
      let i₃ = after-names-inv (names_at i₁.0.map s i₂.1.at) _ w i₂.3 in
      let i₄ = after-range-inv (range_at i₁.0.map s i₃.1.at) _ w i₃.3 in
      last i₁.0 i₁.1 i₂.0 i₂.1 i₃.0 i₃.1 i₄.0 i₄.1
      (head-sound s byte at i₁.0 i₁.1 i₁.2) (objects-sound s byte i₁.0.map i₁.1.at i₂.0 i₂.1 i₂.2)
      (names-sound s byte i₁.0.map i₂.1.at i₃.0 i₃.1 i₃.2) (range-sound s byte i₁.0.map i₃.1.at i₄.0 i₄.1 i₄.2)
      (tied_at i₁.0.map i₂.0 i₄.0) refl i₄.3
    where
      last : (h : Head) (p : Place) (o : Objects) (q : Place) (n : Names) (r : Place) (g : Range) (t : Place)
          → HeadRead s byte at h p → ObjectsRead s byte h.map p.at o q → NamesRead s byte h.map q.at n r → RangeRead s byte h.map r.at g t
          → (b : Bool) → tied_at h.map o g ≡ b → cond b (Some (record { head = h; objects = o; names = n; range = g; next = t })) None ≡ Some w → Sound s at w
      last h p o q n r g t hr or nr gr true ti l =
          let ew : record { head = h; objects = o; names = n; range = g; next = t } ≡ w = cc in
          subst (λ (y : Whole). Sound s at y) ew (joined-sound h p o q n r g t hr or nr gr ti)
      last h p o q n r g t hr or nr gr false ti l = let z : ◌≡◌ {A = ℕ} 0 1 = cc in absurd (omega arith)
