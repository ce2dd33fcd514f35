-- The bytes of every valid record are accepted, and its answer is given: field by field, then the whole.
use Rattle.record_reader.specs.declared.Whole.{Whole}
use Rattle.buffer.specs.Code.Span.{span}
use Rattle.std.specs.Prelude.{ℕ, ◌+◌, ◌^◌, ◌≤◌, ◌<◌, ◌≡◌, Bool, ◌&&◌, take, leb, Option, Some}
use Rattle.std.proofs.Common.{add_assoc, sym, ◌∙◌}
use native.Mathlib.Omega.{arith}
use Rattle.std.proofs.Math.Path.{refl, ap}
use Rattle.std.proofs.Math.Bool.{true, false, and-eq-true_iff}
use mathlib.Core.List.{List, ◌++◌, append_assoc}
use Rattle.std.specs.Prelude.{None, Some}
use Rattle.std.proofs.Math.ListN.{length, drop, length-append}
use borrow.Author.Tests.{leb-true}
use Rattle.names.specs.Name.{valid_name}
use Rattle.names.proofs.Laws.Name.{valid-length}
use Rattle.record.specs.Kind.{code_of}
use Rattle.buffer.specs.Numeral.{bytes, numeral}
use Rattle.buffer.specs.Laws.Numeral.{length-bytes, numeral-bytes}
use Rattle.record.specs.Operation.{Operation, create_file, make_directory, remove, rename, overwrite, append, set_length, forder, Record, kind_of, map_of}
use Rattle.record.specs.Fields.{Parts, parts, stands_in, field, text, pairs, object_fields, name_fields, range_fields, fields, head_bytes, encode, if_stands, between, all_up_to, different, valid_list, valid_objects, valid_names, valid_range, tied, differing, in_block, valid_parts, valid_head, valid, objects_of, number_if}
use Rattle.record_reader.specs.Code.Reader.{with_next, place, number_at, part_at, object_at, offset_at, name_at, block_at, list_at, on_number, part_if, head_of, head_at, objects_at, names_at, range_at, tied_at, record_at}
use Rattle.record_reader.specs.Laws.Reader.{number-there, part-there}
use Rattle.record.proofs.Laws.Kind.{kind-of-code, code-small, has-its-map, map-small}
use Rattle.record.proofs.Laws.List.{objects-pairs, length_pairs}
use Rattle.buffer.specs.Laws.Span.{drop-after, take-there, left_there}
use Rattle.record.proofs.Laws.Record.{length-head, offset-small}
use Rattle.record_reader.specs.Answer.{span_if, objects_in, names_in, range_in, whole_of}

module _ (s : List ℕ) where
  pub number-complete : (w at v : ℕ) (rest : List ℕ) → v < 256 ^ w → drop at s ≡ bytes w v ++ rest → number_at w s at ≡ with_next v (place (at + w))
  number-complete w at v rest h e =
      let l : length (bytes w v) ≡ w = length-bytes w v in
      let t : take w (drop at s) ≡ bytes w v = ap (λ (k : ℕ). take k (drop at s)) (sym l) ∙ take-there s at (bytes w v) rest e in
      number-there w s at v (rw l at (left_there s at (bytes w v) rest e)) (ap numeral t ∙ numeral-bytes w v h)

  pub object-complete : (b : Bool) (least at v : ℕ) (rest : List ℕ) → if_stands b (between least 255 v) ≡ true → drop at s ≡ field b (bytes 2 v) ++ rest
      → object_at b least s at ≡ with_next (number_if b v) (place (at + length (field b (bytes 2 v))))
  unfolding object_at
  object-complete false least at v rest h e = ap (λ (k : ℕ). with_next 0 (place k)) (omega arith)
  object-complete true least at v rest h e =
      let k : v ≤ 255 = leb-true v 255 ((and-eq-true_iff (leb least v) (leb v 255)).0 h).1 in
      rw (number-complete 2 at v rest (omega arith) e, h, length-bytes 2 v)

  pub offset-complete : (b : Bool) (at v : ℕ) (rest : List ℕ) → (b ≡ true → v < 256 ^ 4) → drop at s ≡ field b (bytes 4 v) ++ rest
      → offset_at b s at ≡ with_next (number_if b v) (place (at + length (field b (bytes 4 v))))
  unfolding offset_at
  offset-complete false at v rest h e = ap (λ (k : ℕ). with_next 0 (place k)) (omega arith)
  offset-complete true at v rest h e = rw (length-bytes 4 v) (number-complete 4 at v rest (h refl) e)

  -- a stretch that stands at a place
  part-complete : (at : ℕ) (t rest : List ℕ) → at ≤ length s → drop at s ≡ t ++ rest → part_at (length t) s at ≡ with_next (span at (length t)) (place (at + length t))
  part-complete at t rest h e = part-there (length t) s at h (left_there s at t rest e)

  -- a number v and a stretch behind it
  behind-left : (w at v : ℕ) (rest : List ℕ) → 1 ≤ w → drop at s ≡ bytes w v ++ rest → at + w ≤ length s
  behind-left w at v rest h e = let k = rw (length-bytes w v) at (left_there s at (bytes w v) rest e) in omega arith

  behind-drop : (w at v : ℕ) (t rest : List ℕ) → drop at s ≡ (bytes w v ++ t) ++ rest → drop (at + w) s ≡ t ++ rest
  behind-drop w at v t rest e =
      ap (λ (k : ℕ). drop (at + k) s) (sym (length-bytes w v)) ∙ drop-after s at (bytes w v) (t ++ rest) (e ∙ append_assoc (bytes w v) t rest)

  behind-length : (w at v : ℕ) (t : List ℕ) → at + w + length t ≡ at + length (bytes w v ++ t)
  behind-length w at v t = rw (length-append (bytes w v) t, length-bytes w v) (add_assoc at w (length t))

  tested-complete : (ok : List ℕ → Bool) (w : ℕ) (size : ℕ → ℕ) (at v : ℕ) (t rest : List ℕ) → 1 ≤ w → v < 256 ^ w → size v ≡ length t → ok t ≡ true
      → drop at s ≡ (bytes w v ++ t) ++ rest
      → on_number (number_at w s at) None (λ n q. part_if (λ a j. ok (take j (drop a s))) (part_at (size n) s q.at)) ≡ with_next (span (at + w) (length t)) (place (at + length (bytes w v ++ t)))
  tested-complete ok w size at v t rest one h sz good e =
      let f = e ∙ append_assoc (bytes w v) t rest in
      let d = behind-drop w at v t rest e in
      let p = part-complete (at + w) t rest (behind-left w at v (t ++ rest) one f) d in
      let k : take (length t) (drop (at + w) s) ≡ t = take-there s (at + w) t rest d in
      rw (number-complete w at v (t ++ rest) h f, sz, p, k, good, behind-length w at v t)

  pub name-complete : (b : Bool) (at : ℕ) (n rest : List ℕ) → if_stands b (valid_name n) ≡ true → drop at s ≡ field b (text n) ++ rest
      → name_at b s at ≡ with_next (span_if b (at + 1) (length n)) (place (at + length (field b (text n))))
  unfolding name_at
  name-complete false at n rest h e = ap (λ (k : ℕ). with_next (span 0 0) (place k)) (omega arith)
  name-complete true at n rest h e =
      let l = valid-length n h in
      tested-complete valid_name 1 (λ k. k) at (length n) n rest (omega arith) (omega (arith, l.0, l.1)) refl h e

  pub block-complete : (b : Bool) (at : ℕ) (t rest : List ℕ) → if_stands b (between 1 1024 (length t)) ≡ true → drop at s ≡ field b (bytes 2 (length t) ++ t) ++ rest
      → block_at b s at ≡ with_next (span_if b (at + 2) (length t)) (place (at + length (field b (bytes 2 (length t) ++ t))))
  unfolding block_at
  block-complete false at t rest h e = ap (λ (k : ℕ). with_next (span 0 0) (place k)) (omega arith)
  block-complete true at t rest h e =
      let f = e ∙ append_assoc (bytes 2 (length t)) t rest in
      let k : length t ≤ 1024 = leb-true _ _ ((and-eq-true_iff (leb 1 (length t)) (leb (length t) 1024)).0 h).1 in
      let d = behind-drop 2 at (length t) t rest e in
      let p = part-complete (at + 2) t rest (behind-left 2 at (length t) (t ++ rest) (omega arith) f) d in
      rw (number-complete 2 at (length t) (t ++ rest) (omega arith) f, h, p, behind-length 2 at (length t) t)

  pub list-complete : (b : Bool) (at : ℕ) (l rest : List ℕ) → if_stands b (valid_list l) ≡ true → drop at s ≡ field b (bytes 1 (length l) ++ pairs l) ++ rest
      → list_at b s at ≡ with_next (span_if b (at + 1) (length (pairs l))) (place (at + length (field b (bytes 1 (length l) ++ pairs l))))
  unfolding list_at valid_list
  list-complete false at l rest h e = ap (λ (k : ℕ). with_next (span 0 0) (place k)) (omega arith)
  list-complete true at l rest h e =
      let a = (and-eq-true_iff (between 1 8 (length l)) (all_up_to 255 l && different l)).0 h in
      let k : length l ≤ 8 = leb-true _ _ ((and-eq-true_iff (leb 1 (length l)) (leb (length l) 8)).0 a.0).1 in
      let u : all_up_to 255 l ≡ true = ((and-eq-true_iff (all_up_to 255 l) (different l)).0 a.1).0 in
      let good : valid_list (objects_of (pairs l)) ≡ true = rw (objects-pairs l u) h in
      tested-complete (λ t. valid_list (objects_of t)) 1 (λ n. n + n) at (length l) (pairs l) rest (omega arith) (omega arith) (length_pairs l) good e

  pub objects-complete : (m at : ℕ) (x : Parts) (rest : List ℕ) → valid_objects m x ≡ true → drop at s ≡ object_fields m x ++ rest
      → objects_at m s at ≡ with_next (objects_in m x) (place (at + length (object_fields m x)))
  unfolding objects_at object_fields valid_objects
  objects-complete m at x rest h e =
      let w₁ = field (stands_in m 1) (bytes 2 x.object) in
      let w₂ = field (stands_in m 2) (bytes 2 x.parent) in
      let w₃ = field (stands_in m 4) (bytes 2 x.second) in
      let w₄ = field (stands_in m 8) (bytes 2 x.displaced) in
      let g₁ = (and-eq-true_iff _ _).0 h in
      let g₂ = (and-eq-true_iff _ _).0 g₁.1 in
      let g₃ = (and-eq-true_iff _ _).0 g₂.1 in
      let d₁ : drop at s ≡ w₁ ++ (w₂ ++ (w₃ ++ (w₄ ++ rest))) = e ∙ simp append_assoc in
      let d₂ = drop-after s at w₁ (w₂ ++ (w₃ ++ (w₄ ++ rest))) d₁ in
      let d₃ = drop-after s (at + length w₁) w₂ (w₃ ++ (w₄ ++ rest)) d₂ in
      let d₄ = drop-after s (at + length w₁ + length w₂) w₃ (w₄ ++ rest) d₃ in
      let e₁ = object-complete (stands_in m 1) 1 at x.object (w₂ ++ (w₃ ++ (w₄ ++ rest))) g₁.0 d₁ in
      let e₂ = object-complete (stands_in m 2) 0 (at + length w₁) x.parent (w₃ ++ (w₄ ++ rest)) g₂.0 d₂ in
      let e₃ = object-complete (stands_in m 4) 0 (at + length w₁ + length w₂) x.second (w₄ ++ rest) g₃.0 d₃ in
      let e₄ = object-complete (stands_in m 8) 1 (at + length w₁ + length w₂ + length w₃) x.displaced rest g₃.1 d₄ in
      let l : at + length w₁ + length w₂ + length w₃ + length w₄ ≡ at + length (w₁ ++ (w₂ ++ (w₃ ++ w₄))) = simp length-append (omega arith) in
      rw (e₁, e₂, e₃, e₄) (ap (λ (k : ℕ). with_next (objects_in m x) (place k)) l)

  pub names-complete : (m at : ℕ) (x : Parts) (rest : List ℕ) → valid_names m x ≡ true → drop at s ≡ name_fields m x ++ rest
      → names_at m s at ≡ with_next (names_in m x at) (place (at + length (name_fields m x)))
  unfolding names_at name_fields valid_names
  names-complete m at x rest h e =
      let w₁ = field (stands_in m 16) (text x.name) in
      let w₂ = field (stands_in m 32) (text x.second_name) in
      let g = (and-eq-true_iff _ _).0 h in
      let d₁ : drop at s ≡ w₁ ++ (w₂ ++ rest) = e ∙ append_assoc w₁ w₂ rest in
      let d₂ = drop-after s at w₁ (w₂ ++ rest) d₁ in
      let e₁ = name-complete (stands_in m 16) at x.name (w₂ ++ rest) g.0 d₁ in
      let e₂ = name-complete (stands_in m 32) (at + length w₁) x.second_name rest g.1 d₂ in
      let l : at + length w₁ + length w₂ ≡ at + length (w₁ ++ w₂) = simp length-append (omega arith) in
      rw (e₁, e₂) (ap (λ (k : ℕ). with_next (names_in m x at) (place k)) l)

  pub range-complete : (m at : ℕ) (x : Parts) (rest : List ℕ) → valid_range m x ≡ true → (stands_in m 64 ≡ true → x.offset < 256 ^ 4) → drop at s ≡ range_fields m x ++ rest
      → range_at m s at ≡ with_next (range_in m x at) (place (at + length (range_fields m x)))
  unfolding range_at range_fields valid_range
  range-complete m at x rest h o e =
      let w₁ = field (stands_in m 64) (bytes 4 x.offset) in
      let w₂ = field (stands_in m 128) (bytes 2 (length x.block) ++ x.block) in
      let w₃ = field (stands_in m 256) (bytes 1 (length x.list) ++ pairs x.list) in
      let g = (and-eq-true_iff _ _).0 h in
      let d₁ : drop at s ≡ w₁ ++ (w₂ ++ (w₃ ++ rest)) = e ∙ simp append_assoc in
      let d₂ = drop-after s at w₁ (w₂ ++ (w₃ ++ rest)) d₁ in
      let d₃ = drop-after s (at + length w₁) w₂ (w₃ ++ rest) d₂ in
      let e₁ = offset-complete (stands_in m 64) at x.offset (w₂ ++ (w₃ ++ rest)) o d₁ in
      let e₂ = block-complete (stands_in m 128) (at + length w₁) x.block (w₃ ++ rest) g.0 d₂ in
      let e₃ = list-complete (stands_in m 256) (at + length w₁ + length w₂) x.list rest g.1 d₃ in
      let l : at + length w₁ + length w₂ + length w₃ ≡ at + length (w₁ ++ (w₂ ++ w₃)) = simp length-append (omega arith) in
      rw (e₁, e₂, e₃) (ap (λ (k : ℕ). with_next (range_in m x at) (place k)) l)

-- what ties two fields of an operation is asked of what is answered of them
tied-answered : (o : Operation) (at : ℕ) → tied_at (map_of o) (objects_in (map_of o) (parts o)) (range_in (map_of o) (parts o) at) ≡ tied (map_of o) (parts o)
unfolding tied tied_at differing in_block
tied-answered (create_file o p n) at = refl
tied-answered (make_directory o p n) at = refl
tied-answered (remove o p n) at = refl
tied-answered (rename o p q None n m) at = refl
tied-answered (rename o p q (Some d) n m) at = refl
tied-answered (overwrite o f b) at = refl
tied-answered (append o f b) at = refl
tied-answered (set_length o f) at = refl
tied-answered (forder l) at = refl

module _ (s : List ℕ) (at : ℕ) where
  head-complete : (o : Operation) (sequence program : ℕ) (rest : List ℕ) → valid_head sequence program ≡ true
      → drop at s ≡ head_bytes (map_of o) sequence program (code_of (kind_of o)) ++ rest
      → head_at s at ≡ with_next (record { map = map_of o; sequence = sequence; program = program; kind = kind_of o }) (place (at + 8))
  unfolding head_at head_of head_bytes valid_head
  head-complete o sequence program rest h e =
      let m = map_of o in
      let c = code_of (kind_of o) in
      let g = (and-eq-true_iff (between 1 4294967294 sequence) (between 0 31 program)).0 h in
      let hs : sequence ≤ 4294967294 = leb-true _ _ ((and-eq-true_iff (leb 1 sequence) (leb sequence 4294967294)).0 g.0).1 in
      let hp : program ≤ 31 = leb-true _ _ ((and-eq-true_iff (leb 0 program) (leb program 31)).0 g.1).1 in
      let a = bytes 2 m in
      let b = bytes 4 sequence in
      let p = bytes 1 program in
      let k = bytes 1 c in
      let d₁ : drop at s ≡ a ++ (b ++ (p ++ (k ++ rest))) = e ∙ simp append_assoc in
      let d₂ : drop (at + 2) s ≡ b ++ (p ++ (k ++ rest)) = rw (length-bytes 2 m) at (drop-after s at a (b ++ (p ++ (k ++ rest))) d₁) in
      let d₃ : drop (at + 2 + 4) s ≡ p ++ (k ++ rest) = rw (length-bytes 4 sequence) at (drop-after s (at + 2) b (p ++ (k ++ rest)) d₂) in
      let d₄ : drop (at + 2 + 4 + 1) s ≡ k ++ rest = rw (length-bytes 1 program) at (drop-after s (at + 2 + 4) p (k ++ rest) d₃) in
      let e₁ = number-complete s 2 at m (b ++ (p ++ (k ++ rest))) (omega (arith, map-small o)) d₁ in
      let e₂ = number-complete s 4 (at + 2) sequence (p ++ (k ++ rest)) (omega arith) d₂ in
      let e₃ = number-complete s 1 (at + 2 + 4) program (k ++ rest) (omega arith) d₃ in
      let e₄ = number-complete s 1 (at + 2 + 4 + 1) c rest (omega (arith, code-small (kind_of o))) d₄ in
      let l : at + 2 + 4 + 1 + 1 ≡ at + 8 = omega arith in
      rw (e₁, e₂, e₃, e₄, kind-of-code (kind_of o), has-its-map o, h, l)

  pub record-complete : (r : Record) (rest : List ℕ) → valid r ≡ true → drop at s ≡ encode r ++ rest → record_at s at ≡ Some (whole_of r at)
  unfolding record_at valid valid_parts encode fields whole_of
  record-complete r rest h e =
      let o = r.operation in
      let m = map_of o in
      let x = parts o in
      let hb = head_bytes m r.sequence r.program (code_of (kind_of o)) in
      let fo = object_fields m x in
      let fn = name_fields m x in
      let fr = range_fields m x in
      let g₁ = (and-eq-true_iff _ _).0 h in
      let g₂ = (and-eq-true_iff _ _).0 g₁.1 in
      let g₃ = (and-eq-true_iff _ _).0 g₂.1 in
      let g₄ = (and-eq-true_iff _ _).0 g₃.1 in
      let lh = length-head m r.sequence r.program (code_of (kind_of o)) in
      let d₁ : drop at s ≡ hb ++ (fo ++ (fn ++ (fr ++ rest))) = e ∙ simp append_assoc in
      let d₂ : drop (at + 8) s ≡ fo ++ (fn ++ (fr ++ rest)) = rw lh at (drop-after s at hb (fo ++ (fn ++ (fr ++ rest))) d₁) in
      let d₃ = drop-after s (at + 8) fo (fn ++ (fr ++ rest)) d₂ in
      let d₄ = drop-after s (at + 8 + length fo) fn (fr ++ rest) d₃ in
      let e₁ = head-complete o r.sequence r.program (fo ++ (fn ++ (fr ++ rest))) g₁.0 d₁ in
      let e₂ = objects-complete s m (at + 8) x (fn ++ (fr ++ rest)) g₂.0 d₂ in
      let e₃ = names-complete s m (at + 8 + length fo) x (fr ++ rest) g₃.0 d₃ in
      let e₄ = range-complete s m (at + 8 + length fo + length fn) x rest g₄.0 (offset-small m x g₄.1) d₄ in
      let t = tied-answered o (at + 8 + length fo + length fn) ∙ g₄.1 in
      let l : at + 8 + length fo + length fn + length fr ≡ at + length (hb ++ (fo ++ (fn ++ fr))) = simp (length-append, lh) (omega arith) in
      rw (e₁, e₂, e₃, e₄, t)
      (ap {B = Option Whole}
      (λ (k : ℕ).
      Some
      (record {
        head = record { map = m; sequence = r.sequence; program = r.program; kind = kind_of o };
        objects = objects_in m x;
        names = names_in m x (at + 8 + length fo);
        range = range_in m x (at + 8 + length fo + length fn);
        next = record { at = k };
      }))
      l)
