-- Bytes that stand at a place of a buffer, and the place after them; a stretch for any start and length.
use Rattle.std.specs.Prelude.{ℕ, ◌+◌, ◌-◌, ◌≤◌, ◌≡◌, refl, List, [], ◌++◌, length, take, drop}
use Rattle.std.proofs.Common.{add-zero, add_assoc, arith, sym, ap, ◌∙◌, append_assoc, length-append, length-drop, take-append-drop, drop_of_length-le, drop-drop, take_all}
use Rattle.std.proofs.Math.Seq.{drop-append_seam, take-append_seam, take-nil}

-- The bytes from a place on, as many as there are, are all bytes from there on.
pub take_rest : (n : ℕ) (s : List ℕ) → take (length s - n) (drop n s) ≡ drop n s
take_rest n s = take_all (length s - n) (drop n s) (omega (arith, length-drop n s))

-- the bytes w stand at a place, and q is the place after them
pub record Spans (s : List ℕ) (at : ℕ) (w : List ℕ) (q : ℕ) : Type 0 where
  pub begins : drop at s ≡ w ++ drop q s
  pub after : q ≡ at + length w

pub spans-none : (s : List ℕ) (at : ℕ) → Spans s at [] at
spans-none s at = record { begins = refl; after = sym (add-zero at) }

pub spans-append : (s : List ℕ) (at q r : ℕ) (w v : List ℕ) → Spans s at w q → Spans s q v r → Spans s at (w ++ v) r
spans-append s at q r w v a b =
    record {
      begins = a.begins ∙ ap (λ (t : List ℕ). w ++ t) b.begins ∙ sym (append_assoc w v (drop r s));
      after = b.after ∙ rw (length-append w v, a.after) (add_assoc at (length w) (length v));
    }

-- the bytes after those that stand at a place
pub drop-after : (s : List ℕ) (at : ℕ) (w rest : List ℕ) → drop at s ≡ w ++ rest → drop (at + length w) s ≡ rest
drop-after s at w rest e = sym (drop-drop (length w) at s) ∙ ap (drop (length w)) e ∙ drop-append_seam w rest

-- the bytes that stand at a place, taken out again
pub take-there : (s : List ℕ) (at : ℕ) (w rest : List ℕ) → drop at s ≡ w ++ rest → take (length w) (drop at s) ≡ w
take-there s at w rest e = ap (take (length w)) e ∙ take-append_seam w rest

-- so many bytes are left
pub left_there : (s : List ℕ) (at : ℕ) (w rest : List ℕ) → drop at s ≡ w ++ rest → length w ≤ length s - at
left_there s at w rest e =
    let l : length s - at ≡ length w + length rest = sym (length-drop at s) ∙ ap length e ∙ length-append w rest in
    omega arith

-- what is dropped and taken stands at its place
pub spans-taken : (s : List ℕ) (at n : ℕ) → n ≤ length (drop at s) → length (take n (drop at s)) ≡ n → Spans s at (take n (drop at s)) (at + n)
spans-taken s at n h l =
    record {
      begins = sym (ap (λ (t : List ℕ). take n (drop at s) ++ t) (sym (drop-drop n at s)) ∙ take-append-drop n (drop at s));
      after = rw l;
    }

-- a stretch for any start and length: nothing past the end, and no more than is left
pub stretch-past : (s : List ℕ) (start n : ℕ) → length s ≤ start → take 0 s ≡ take n (drop start s)
stretch-past s start n h = rw (drop_of_length-le s {i = start} h) (sym (take-nil n))

pub stretch-rest : (s : List ℕ) (start n : ℕ) → length s - start ≤ n → take (length s - start) (drop start s) ≡ take n (drop start s)
stretch-rest s start n h =
    take_all (length s - start) (drop start s) (rw (length-drop start s) (omega arith)) ∙ sym (take_all n (drop start s) (rw (length-drop start s) h))

-- for the function that cuts out a stretch
pub ruleset stretches = (stretch-past, stretch-rest)
