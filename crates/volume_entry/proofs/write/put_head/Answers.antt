-- `volume_entry::write::put_head` meets its contract: the fields are put one after another, and what is left of the 64 bytes is made zero.
-- Assumes nothing.
use Prim.Native.Nat.{ℕ, ◌+◌, ◌≤◌, ◌-◌}
use native.Mathlib.Omega.{arith}
use mathlib.Core.Path.{◌≡◌, ap, ◌∙◌}
use mathlib.Core.List.{List, [], ◌++◌, append_assoc, append-nil}
use lib.ListN.{length, take, drop, replicate, length-append, length-drop, drop_of_length-le}
use lib.Seq.{take_at, take_all}
use Rattle.buffer.specs.Numeral.{bytes}
use Rattle.buffer.specs.Laws.Numeral.{length-bytes}
use Rattle.buffer.specs.Patch.{patch, Put}
use Rattle.buffer.specs.Laws.Patch.{put_then, put-end}
use Rattle.volume_entry.specs.Write.{head_field}
use Rattle.volume_entry.specs.Laws.Write.{length-patch}
use Rattle.volume_entry.proofs.write.put_head.Goals as goal

pub put_one-b-requires : goal.put_one-b-requires
put_one-b-requires c =
    let k : c.put_one-a.result ≡ 1 = omega (arith, put-end 1 c.put_one-a.ensures (length-bytes 1 _)) in
    omega arith

pub put_two-c-requires : goal.put_two-c-requires
put_two-c-requires c =
    let k : c.put_one-a.result ≡ 1 = omega (arith, put-end 1 c.put_one-a.ensures (length-bytes 1 _)) in
    let s : c.put_one-b.result ≡ 2 = omega (arith, put-end 1 c.put_one-b.ensures (length-bytes 1 _)) in
    omega arith

pub put_bytes-d-requires : goal.put_bytes-d-requires
put_bytes-d-requires c =
    let k : c.put_one-a.result ≡ 1 = omega (arith, put-end 1 c.put_one-a.ensures (length-bytes 1 _)) in
    let s : c.put_one-b.result ≡ 2 = omega (arith, put-end 1 c.put_one-b.ensures (length-bytes 1 _)) in
    let p : c.put_two-c.result ≡ 4 = omega (arith, put-end 2 c.put_two-c.ensures (length-bytes 2 _)) in
    omega arith

pub slice_bounds-clear-count : goal.slice_bounds-clear-count
slice_bounds-clear-count c =
    let k : c.put_one-a.result ≡ 1 = omega (arith, put-end 1 c.put_one-a.ensures (length-bytes 1 _)) in
    let s : c.put_one-b.result ≡ 2 = omega (arith, put-end 1 c.put_one-b.ensures (length-bytes 1 _)) in
    let p : c.put_two-c.result ≡ 4 = omega (arith, put-end 2 c.put_two-c.ensures (length-bytes 2 _)) in
    omega (arith, c.put_bytes-d.ensures.ends)

pub slice_bounds-clear-start : goal.slice_bounds-clear-start
slice_bounds-clear-start c =
    let k : c.put_one-a.result ≡ 1 = omega (arith, put-end 1 c.put_one-a.ensures (length-bytes 1 _)) in
    let s : c.put_one-b.result ≡ 2 = omega (arith, put-end 1 c.put_one-b.ensures (length-bytes 1 _)) in
    let p : c.put_two-c.result ≡ 4 = omega (arith, put-end 2 c.put_two-c.ensures (length-bytes 2 _)) in
    omega (arith, c.put_bytes-d.ensures.ends)

-- The fields put at the start of 64 bytes, and zeros behind them, are the head.
filled : (k p : ℕ) (n l m z : List ℕ) (d : ℕ) → length l ≡ 64 → length n ≤ 60 → Put (bytes 1 k ++ (bytes 1 (length n) ++ (bytes 2 p ++ n))) 0 l m d
    → z ≡ replicate (length (take (length m - d) (drop d m))) 0 → take d m ++ (z ++ drop (length m - d) (drop d m)) ≡ head_field k p n
unfolding patch head_field
filled k p n l m z d h s put zeros =
    let v = bytes 1 k ++ (bytes 1 (length n) ++ (bytes 2 p ++ n)) in
    let size : length v ≡ 4 + length n = simp (length-append, length-bytes) (omega arith) in
    let e : length v ≡ d = omega (arith, put.ends) in
    let long : length m ≡ 64 = ap length put.placed ∙ length-patch l 0 v (omega arith) ∙ h in
    let front : take d m ≡ v = ap (take d) put.placed ∙ take_at v _ d e in
    let left : length (drop d m) ≡ 60 - length n = length-drop d m ∙ omega arith in
    let all : length (drop d m) ≤ length m - d = omega arith in
    let none : drop (length m - d) (drop d m) ≡ [] = drop_of_length-le (drop d m) all in
    let part : take (length m - d) (drop d m) ≡ drop d m = take_all (length m - d) (drop d m) all in
    rw (front, none, append-nil, zeros, part, left) (simp append_assoc)

pub returns : goal.returns
returns c =
    let a = c.args in
    filled a.kind a.parent a.name.now a.head.now c.put_bytes-d.new.buf c.clear.new.s c.put_bytes-d.result c.requires.head_len c.requires.name_len_bound
    (put_then c.put_one-a.ensures (put_then c.put_one-b.ensures (put_then c.put_two-c.ensures c.put_bytes-d.ensures)))
    c.clear.ensures
