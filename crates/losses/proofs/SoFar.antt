-- What a turn of the loop adds to what was printed.
use Rattle.std.proofs.Common.{ℕ, ◌≡◌, ◌+◌, ◌^◌, ◌≤◌, List, [], ◌++◌, length, drop, Bool, true, false, ap, sym, ◌∙◌, Option, None, Some, arith, length-append, length-drop, append_assoc, append-nil, zero-add}
use Rattle.std.specs.Prelude.{⊤}
use Rattle.std.specs.Io.KnownBytes.{Appends, Consumes, IsAtEnd}
use Rattle.losses_report.specs.declared.State.TheVariants.{Going, Done}
use Rattle.losses_report.specs.Pass.{Pass}
use Rattle.losses_report.specs.Report.{Report}
use Rattle.losses_report.specs.Laws.Report.{pass-done, pass-going, pass-within}
use Rattle.losses.specs.Reported.{Reported}

-- the input at first and now, the output at first and now, the bytes held and the offset of their first: what was printed, and behind it the report
-- of what is still to be told, are the report of the whole input
abbrev pub SoFar : Option (List ℕ) → Option (List ℕ) → Option (List ℕ) → Option (List ℕ) → List ℕ → ℕ → Type 0
SoFar None now before after held base = ⊤
SoFar (Some s) None before after held base = ⊥
SoFar (Some s) (Some rest) before after held base =
    (length s ≡ base + length held + length rest) × (printed : List ℕ) × Appends before after printed ×
    ((out : List ℕ) → Report base (held ++ rest) out → Report 0 s (printed ++ out))

-- nothing was printed yet
appends-none : (before : Option (List ℕ)) → Appends before before []
appends-none None = tt
appends-none (Some x) = sym (append-nil x)

appends-more : (a b c : Option (List ℕ)) (x y : List ℕ) → Appends a b x → Appends b c y → Appends a c (x ++ y)
appends-more None b c x y h k = tt
appends-more (Some a) None c x y h k = absurd h
appends-more (Some a) (Some b) None x y h k = absurd k
appends-more (Some a) (Some b) (Some c) x y h k = k ∙ rw h (append_assoc a x y)

-- before the first turn
pub begun : (input output : Option (List ℕ)) → SoFar input input output output [] 0
begun None output = tt
begun (Some s) output = (sym (zero-add (length s)), [], appends-none output, λ out r. r)

-- a pass that wants more
pub gone_on : (first now next before after then : Option (List ℕ)) (held new text : List ℕ) (base n : ℕ) →
    SoFar first now before after held base → Consumes now next new → Appends after then text → Pass false base (held ++ new) Going n text →
    SoFar first next before then (drop n (held ++ new)) (base + n)
gone_on None now next before after then held new text base n h c a p = tt
gone_on (Some s) None next before after then held new text base n h c a p = absurd h
gone_on (Some s) (Some rest) None before after then held new text base n h c a p = absurd c
gone_on (Some s) (Some rest) (Some more) before after then held new text base n h c a p =
    let l : length rest ≡ length new + length more = ap length c ∙ length-append new more in (
      omega (arith, h.0, l, pass-within p, length-append held new, length-drop n (held ++ new)),
      h.1 ++ text,
      appends-more before after then h.1 text h.2 a,
      λ out r. rw append_assoc (h.3 (text ++ out) (rw (c, ← append_assoc held new more) (pass-going p more out r))),
    )

-- a pass that is the last
pub gone_through : (first now next before after then : Option (List ℕ)) (held new text : List ℕ) (base n : ℕ) (ended : Bool) →
    SoFar first now before after held base → Consumes now next new → Appends after then text → Pass ended base (held ++ new) Done n text →
    (ended ≡ true → IsAtEnd next) → Reported first before then
gone_through None now next before after then held new text base n ended h c a p e = tt
gone_through (Some s) None next before after then held new text base n ended h c a p e = absurd h
gone_through (Some s) (Some rest) None before after then held new text base n ended h c a p e = absurd c
gone_through (Some s) (Some rest) (Some more) before after then held new text base n ended h c a p e =
    λ k. (h.1 ++ text, h.3 text (rw (c, ← append_assoc held new more) (pass-done p more e)), appends-more before after then h.1 text h.2 a)

-- more bytes than an offset can count
pub too_long : (first now next before after : Option (List ℕ)) (held new : List ℕ) (base : ℕ) → SoFar first now before after held base →
    Consumes now next new → 2 ^ 64 ≤ base + length held + length new → Reported first before after
too_long None now next before after held new base h c k = tt
too_long (Some s) None next before after held new base h c k = absurd h
too_long (Some s) (Some rest) None before after held new base h c k = absurd c
too_long (Some s) (Some rest) (Some more) before after held new base h c k =
    let l : length rest ≡ length new + length more = ap length c ∙ length-append new more in
    λ b. absurd (omega (arith, h.0, l))
