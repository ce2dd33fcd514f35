-- Bytes of a list moved down within it, byte by byte, and what is cleared behind them.
-- Assumes nothing.
use Rattle.std.specs.Prelude.{ℕ, ◌+◌, ◌*◌, ◌-◌, ◌≤◌, ◌<◌, ◌≡◌, List, ◌++◌, length, get_or, set, take, drop, replicate}
use Rattle.std.proofs.Common.{add-one, arith, sym, ap, ap₂, ◌∙◌, append_assoc, append-nil, length-drop, take-append-drop, drop_of_length-le, length-take-le, get_or-drop, take_all, drop-drop}
use Rattle.std.proofs.Math.Seq.{paste, paste-suc}
use Rattle.std.proofs.lemmas.List.Edits.{take-paste, drop-paste}
use Rattle.buffer.specs.Patch.{patch}
use Rattle.log_rules.specs.Stored.{slot_bytes}
use Rattle.log_rules.specs.Code.Slots.{slot_part}

-- a slot's part of bytes that reach over it
pub length_part : (s : List ℕ) (i : ℕ) → i * slot_bytes + slot_bytes ≤ length s → length (slot_part s i) ≡ slot_bytes
length_part s i h = length-take-le slot_bytes (drop (i * slot_bytes) s) (rw length-drop (omega arith))

-- a turn of a move down: what was moved so far does not reach the next byte, which is still the one that stood there
pub move-on : (l : List ℕ) (at from : ℕ) (m : List ℕ) (j : ℕ) → m ≡ paste l at (drop from l) j → at ≤ from → from + j < length l
    → set m (at + j) (get_or m (from + j) 0) ≡ paste l at (drop from l) (j + 1)
move-on l at from m j e h k =
    let n : j < length (drop from l) = rw length-drop (omega arith) in
    let d : drop (at + j) m ≡ drop (at + j) l = rw e (drop-paste l at (drop from l) j (omega arith) (omega arith)) in
    let p : at + j + (from - at) ≡ from + j = omega arith in
    let g : get_or m (from + j) 0 ≡ get_or (drop from l) j 0 =
    rw (← p, ← get_or-drop (at + j) m (from - at) 0, d, get_or-drop (at + j) l (from - at) 0, p, get_or-drop from l j 0) in
    rw (g, e, add-one) (paste-suc l at (drop from l) j 0 (omega arith) n)

-- the same with the place of the byte that is written
pub gap-on : (l : List ℕ) (at len : ℕ) (m : List ℕ) (i : ℕ) → m ≡ paste l at (drop (at + len) l) (i - at) → at ≤ i → i + len < length l
    → set m i (get_or m (i + len) 0) ≡ paste l at (drop (at + len) l) (i + 1 - at)
gap-on l at len m i e h k =
    let p : at + (i - at) ≡ i = omega arith in
    let q : at + len + (i - at) ≡ i + len = omega arith in
    let r : i - at + 1 ≡ i + 1 - at = omega arith in
    rw (p, q, r) at (move-on l at (at + len) m (i - at) e (omega arith) (omega arith))

-- a tail that was lent and came back all zero
pub tail-cleared : (m : List ℕ) (e : ℕ) (x : List ℕ) → x ≡ replicate (length (take (length m - e) (drop e m))) 0
    → take e m ++ (x ++ drop (length m - e) (drop e m)) ≡ take e m ++ replicate (length m - e) 0
tail-cleared m e x q =
    let k : length (drop e m) ≡ length m - e = length-drop e m in
    let z : x ≡ replicate (length m - e) 0 = q ∙ rw (take_all (length m - e) (drop e m) (omega arith), k) in
    rw (drop_of_length-le (drop e m) {i = length m - e} (omega arith), append-nil, z)

-- all bytes behind a gap have moved down, and the tail is cleared
pub moved_down : (l : List ℕ) (at len : ℕ) (m : List ℕ) (e : ℕ) (x : List ℕ) → m ≡ paste l at (drop (at + len) l) (e - at) → length m ≡ length l
    → at ≤ e → e + len ≡ length l → x ≡ replicate (length (take (length m - e) (drop e m))) 0
    → take e m ++ (x ++ drop (length m - e) (drop e m)) ≡ take at l ++ (drop (at + len) l ++ replicate len 0)
moved_down l at len m e x p n h k q =
    let d : length (drop (at + len) l) ≡ e - at = rw length-drop (omega arith) in
    let j : at + (e - at) ≡ e = omega arith in
    let t : take e m ≡ take at l ++ drop (at + len) l =
    ap₂ take (sym j) p ∙ take-paste l at (drop (at + len) l) (e - at) (omega arith) (omega arith)
    ∙ ap (λ (r : List ℕ). take at l ++ r) (take_all (e - at) (drop (at + len) l) (omega arith)) in
    let r : length m - e ≡ len = omega arith in
    tail-cleared m e x q ∙ rw (t, r) (append_assoc (take at l) (drop (at + len) l) (replicate len 0))

-- a slot's bytes, all moved
pub slot-moved : (l : List ℕ) (from to : ℕ) (m : List ℕ) (i : ℕ) → m ≡ paste l (to * slot_bytes) (drop (from * slot_bytes) l) i → i ≡ slot_bytes
    → from * slot_bytes + slot_bytes ≤ length l → m ≡ patch l (to * slot_bytes) (slot_part l from)
unfolding patch
slot-moved l from to m i e k h =
    e ∙ rw (k, length_part l from h) (append_assoc (take (to * slot_bytes) l) (slot_part l from) (drop (to * slot_bytes + slot_bytes) l))

-- a slot that stands at its place already
pub slot-stays : (l : List ℕ) (from to : ℕ) → to ≡ from → from * slot_bytes + slot_bytes ≤ length l → l ≡ patch l (to * slot_bytes) (slot_part l from)
unfolding patch
slot-stays l from to e h =
    sym (rw (e, length_part l from h, ← drop-drop slot_bytes (from * slot_bytes) l, take-append-drop, take-append-drop))
