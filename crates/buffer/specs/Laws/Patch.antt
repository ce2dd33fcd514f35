-- Puts one after another are one put.
use Rattle.std.specs.Prelude.{ℕ, ◌+◌, ◌/◌, ◌≤◌, ◌<◌, ◌≡◌, refl, List, [], ◌∷◌, ◌++◌, length, get_or, take, drop, set}
use Rattle.std.proofs.Common.{add-zero, add_assoc, add-one, arith, sym, ap, ◌∙◌, append_assoc, append-nil, length-append, take-append-drop, drop_of_length-le, length-take-le, take_at, drop-drop, take_all}
use Rattle.std.proofs.Math.Decide.{dec_le}
use Rattle.std.proofs.lemmas.List.{set_split}
use Rattle.std.proofs.Math.Seq.{take-length, drop-append-add, paste, paste-suc}
use Rattle.buffer.specs.Numeral.{bytes}
use Rattle.buffer.specs.Patch.{patch, Put}

-- one store
pub put-set : (l : List ℕ) (i v : ℕ) → i < length l → Put (v ∷ []) i l (set l i v) (i + 1)
unfolding patch
put-set l i v h = record { placed = set_split l i v h ∙ rw add-one; ends = refl }

-- nothing put
pub put-none : (l : List ℕ) (at : ℕ) → Put [] at l l at
unfolding patch
put-none l at = record { placed = rw add-zero (sym (take-append-drop at l)); ends = sym (add-zero at) }

-- a whole copy
pub put-paste : (l : List ℕ) (at : ℕ) (s m : List ℕ) (i : ℕ) → m ≡ paste l at s i → i ≡ length s → Put s at l m (at + i)
unfolding patch
put-paste l at s m i e k =
    record { placed = e ∙ rw (k, take-length) (append_assoc (take at l) s (drop (at + length s) l)); ends = rw k }

-- a turn of a copy
pub paste-on : (l : List ℕ) (at : ℕ) (s m : List ℕ) (i : ℕ) → m ≡ paste l at s i → at + i < length l → i < length s → set m (at + i) (get_or s i 0) ≡ paste l at s (i + 1)
paste-on l at s m i e h k = rw (e, add-one) (paste-suc l at s i 0 h k)

-- 4 bytes are twice 2
pub bytes-four : (v : ℕ) → bytes 4 v ≡ bytes 2 v ++ bytes 2 (v / 65536)
unfolding bytes
bytes-four v =
    let e : v / 256 / 256 ≡ v / 65536 = omega arith in
    rw e

-- one put right after another is one put of both
patch-within : (l : List ℕ) (at : ℕ) (v w : List ℕ) → at ≤ length l → patch (patch l at v) (at + length v) w ≡ patch l at (v ++ w)
unfolding patch
patch-within l at v w h =
    let k = at + length v in
    let rest = drop k l in
    let p = take at l ++ v in
    let long : length p ≡ k = rw (length-append, length-take-le at l h) in
    let t : take k (take at l ++ (v ++ rest)) ≡ p = rw (← append_assoc (take at l) v rest) (take_at p rest k long) in
    let e = ap (λ (i : ℕ). drop (i + length w) (p ++ rest)) (sym long) ∙ drop-append-add p rest (length w) ∙ drop-drop (length w) k l in
    let n : k + length w ≡ at + length (v ++ w) = rw (length-append) (add_assoc at (length v) (length w)) in
    let d : drop (k + length w) (take at l ++ (v ++ rest)) ≡ drop (at + length (v ++ w)) l = rw (← append_assoc (take at l) v rest, ← n) e in
    rw (t, d) (simp append_assoc)

-- past the end it is an append
patch-past : (l : List ℕ) (at : ℕ) (v : List ℕ) → length l ≤ at → patch l at v ≡ l ++ v
unfolding patch
patch-past l at v h = rw (take_all at l h, drop_of_length-le l {i = at + length v} (omega arith), append-nil)

patch-then : (l : List ℕ) (at : ℕ) (v w : List ℕ) → patch (patch l at v) (at + length v) w ≡ patch l at (v ++ w)
patch-then l at v w = go (dec_le at (length l))
  where
    go : Dec (at ≤ length l) → patch (patch l at v) (at + length v) w ≡ patch l at (v ++ w)
    go (yes h) = patch-within l at v w h
    go (no h) =
        rw (patch-past l at v (omega arith), patch-past l at (v ++ w) (omega arith), patch-past (l ++ v) (at + length v) w (rw length-append (omega arith)))
        (append_assoc l v w)

pub put_then : {v w a b c : List ℕ} {at n m : ℕ} → Put v at a b n → Put w n b c m → Put (v ++ w) at a c m
put_then {v} {w} {a} {b} {c} {at} {n} {m} p q =
    record { placed = q.placed ∙ rw (p.placed, p.ends) (patch-then a at v w); ends = rw length-append (omega arith) }

-- the place after a put of known length
pub put-end : (w : ℕ) {v a b : List ℕ} {at n : ℕ} → Put v at a b n → length v ≡ w → n ≡ at + w
put-end w p e = rw e at p.ends

-- for the functions that put
pub ruleset puts = (put-set, paste-on)
