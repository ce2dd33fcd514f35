-- A log's head in its bytes: how long it is, where its numbers stand, and what a put of one leaves. Assumes nothing.
use Rattle.std.specs.Prelude.{ℕ, ◌^◌, ◌<◌, ◌≡◌, refl, List, ◌++◌, length, take, drop, set, replicate}
use Rattle.std.proofs.Common.{sym, ap, ◌∙◌, append_assoc, length-append, take_at, drop_at}
use Rattle.buffer.specs.Numeral.{bytes, numeral}
use Rattle.buffer.specs.Patch.{patch}
use Rattle.buffer.specs.Laws.Numeral.{length-bytes, numeral-bytes}
use Rattle.volume_entry.specs.Laws.Write.{patch-first, patch-between}
use Rattle.log_rules.specs.Slot.{Head, Log, with_next, with_marks, empty_head}
use Rattle.log_rules.specs.Stored.{next_at, marks_at, head_bytes, encode_head, read_head}
use Rattle.log_rules.proofs.Laws.Slot.{GoodHead}

-- the head's bytes, number by number, before others
head-parts : (h : Head) (t : List ℕ) → encode_head h ++ t ≡ bytes 4 h.next ++ (bytes 4 h.marks ++ t)
unfolding encode_head
head-parts h t = append_assoc (bytes 4 h.next) (bytes 4 h.marks) t

-- a head is so many bytes
pub length-head : (h : Head) → length (encode_head h) ≡ head_bytes
unfolding encode_head
length-head h = simp (length-append, length-bytes)

-- the head that a mount begins is zeros, but for the next number 1
pub empty-head : set (replicate head_bytes 0) next_at 1 ≡ encode_head empty_head
unfolding encode_head bytes
empty-head = refl

-- the bytes behind a head
pub behind-head : (h : Head) (t : List ℕ) → drop head_bytes (encode_head h ++ t) ≡ t
behind-head h t = drop_at (encode_head h) t head_bytes (length-head h)

first-four : (v : ℕ) (t : List ℕ) → v < 2 ^ 32 → numeral (take 4 (bytes 4 v ++ t)) ≡ v
first-four v t h = ap numeral (take_at (bytes 4 v) t 4 (length-bytes 4 v)) ∙ numeral-bytes 4 v h

-- a good head is read back from its bytes, whatever stands behind them
pub read-head : (h : Head) (t : List ℕ) → GoodHead h → read_head (encode_head h ++ t) ≡ h
unfolding read_head
read-head h t g =
    let e = head-parts h t in
    let d : (x : List ℕ) → drop marks_at (bytes 4 h.next ++ x) ≡ x = λ x. drop_at (bytes 4 h.next) x marks_at (length-bytes 4 h.next) in
    let n : numeral (take 4 (drop next_at (encode_head h ++ t))) ≡ h.next = rw e (first-four h.next _ g.in_four) in
    let k : numeral (take 4 (drop marks_at (encode_head h ++ t))) ≡ h.marks = rw (e, d _) (first-four h.marks _ g.marks-small) in
    λ i. record { next = n i; marks = k i }

-- another next number, and other marks, are 4 bytes put at their place
pub next-put : (v : ℕ) (l : Log) (t : List ℕ) → patch (encode_head l.head ++ t) next_at (bytes 4 v) ≡ encode_head (with_next v l).head ++ t
next-put v l t =
    ap (λ (x : List ℕ). patch x next_at (bytes 4 v)) (head-parts l.head t)
    ∙ patch-first (bytes 4 l.head.next) _ (bytes 4 v) (length-bytes 4 l.head.next ∙ sym (length-bytes 4 v))
    ∙ sym (head-parts (with_next v l).head t)

pub marks-put : (v : ℕ) (l : Log) (t : List ℕ) → patch (encode_head l.head ++ t) marks_at (bytes 4 v) ≡ encode_head (with_marks v l).head ++ t
marks-put v l t =
    ap (λ (x : List ℕ). patch x marks_at (bytes 4 v)) (head-parts l.head t)
    ∙ patch-between (bytes 4 l.head.next) (bytes 4 l.head.marks) _ marks_at (bytes 4 v) (length-bytes 4 l.head.next)
    (length-bytes 4 l.head.marks ∙ sym (length-bytes 4 v))
    ∙ sym (head-parts (with_marks v l).head t)
