-- What passes tell is the report of the whole input, and a report and a pass are each the only one of their bytes.
use Rattle.record_reader.specs.declared.Whole.{Whole}
use Rattle.std.specs.Prelude.{ℕ, zero, suc, ◌+◌, ◌≤◌, ◌<◌, ◌≡◌, refl, List, [], ◌∷◌, ◌++◌, Bool, true, false, length, get_or, take, drop, Option}
use Rattle.std.proofs.Common.{arith, ap, sym, ◌∙◌, subst, append_assoc, append-nil, length-append, take-append-drop, get_or-append-add}
use Rattle.std.proofs.Math.Seq.{drop-append-add, take-append_seam}
use Rattle.std.proofs.lemmas.List.{take-append-le}
use Rattle.record.specs.Operation.{Record}
use Rattle.record.specs.Fields.{encode, valid}
use Rattle.buffer.specs.Numeral.{Bytes}
use Rattle.record_reader.specs.Code.Reader.{record_at}
use Rattle.record_reader.specs.Answer.{Exact, read, refused}
use Rattle.record.proofs.Laws.Decode.{encode-unique}
use Rattle.record_reader.specs.Laws.Exact.{exact}
use Rattle.record.proofs.Laws.Record.{encode-length}
use Rattle.losses_report.specs.declared.State.{State}
use Rattle.losses_report.specs.declared.State.TheVariants.{Going, Done}
use Rattle.losses_line.specs.Line.{bad_line}
use Rattle.losses_report.specs.Report.{line_of, NotOne, Report, ends, told, bad}
use Rattle.losses_report.specs.Run.{Run, goes, stops}
use Rattle.losses_report.specs.Pass.{longest, Decides, Pass, told as pass_told, bad as pass_bad, waits, ends as pass_ends}

-- bytes that begin with no record begin with none whatever follows, if any record would be whole in them
pub not-one-more : (s more : List ℕ) → NotOne s → longest ≤ length s → NotOne (s ++ more)
not-one-more s more n h =
    record {
      some = λ e. let z : length s + length more ≡ 0 = sym (length-append s more) ∙ ap length e in omega arith;
      none =
          λ r rest v e.
          let l = (encode-length r v).1 in
          let k : length (encode r) ≤ length s = omega arith in
          let t : take (length (encode r)) s ≡ encode r =
          sym (take-append-le (length (encode r)) s more k) ∙ ap (take (length (encode r))) e ∙ take-append_seam (encode r) rest in
          n.none r (drop (length (encode r)) s) v (sym (take-append-drop (length (encode r)) s) ∙ ap (λ (x : List ℕ). x ++ drop (length (encode r)) s) t);
    }

-- a pass that is done has told the whole report, whatever follows the bytes at hand; at the end of the input nothing does
pub pass-done : {ended : Bool} {at n : ℕ} {s out : List ℕ} → Pass ended at s Done n out → (more : List ℕ) → (ended ≡ true → more ≡ []) →
    Report at (s ++ more) out
pass-done {ended} p more e = go p refl
  where
    go : {at n : ℕ} {s out : List ℕ} {state : State} → Pass ended at s state n out → state ≡ Done → Report at (s ++ more) out
    go {at} (pass_told {rest = rest} {out = out} r v d p) f = rw append_assoc (told r v (go p f))
    go {at} {s = s} (pass_bad n d) f = bad (more-bad ended e s n d)
      where
        more-bad : (x : Bool) → (x ≡ true → more ≡ []) → (s : List ℕ) → NotOne s → Decides x s → NotOne (s ++ more)
        more-bad true e s n d = rw (e refl, append-nil) n
        more-bad false e s n d = not-one-more s more n d
    go (waits t h) f = let z : ◌≡◌ {A = ℕ} 0 1 = cc in absurd (omega arith)
    go (pass_ends t) f = rw (e t) ends

-- a pass that wants more has told the report's first lines: the rest is the report from its next place on
pub pass-going : {ended : Bool} {at n : ℕ} {s out : List ℕ} → Pass ended at s Going n out → (more o : List ℕ) →
    Report (at + n) (drop n s ++ more) o → Report at (s ++ more) (out ++ o)
pass-going {ended} p more o q = go p refl q
  where
    go : {at n : ℕ} {s out : List ℕ} {state : State} → Pass ended at s state n out → state ≡ Going → Report (at + n) (drop n s ++ more) o → Report at (s ++ more) (out ++ o)
    go {at} (pass_told {n = n} {rest = rest} {out = out} r v d p) f q =
        let a : at + (length (encode r) + n) ≡ at + length (encode r) + n = omega arith in
        let q' : Report (at + length (encode r) + n) (drop n rest ++ more) o = rw (a, drop-append-add (encode r) rest n) at q in
        rw (append_assoc (encode r) rest more, append_assoc (line_of r) out o) (told r v (go p f q'))
    go (pass_bad n d) f q = let z : ◌≡◌ {A = ℕ} 0 1 = cc in absurd (omega arith)
    go {at} (waits t h) f q = let a : at + 0 ≡ at = omega arith in rw a at q
    go (pass_ends t) f q = let z : ◌≡◌ {A = ℕ} 0 1 = cc in absurd (omega arith)

-- a pass stays within the bytes, and leaves less than the longest record where it wants more
pub pass-within : {ended : Bool} {at n : ℕ} {s out : List ℕ} {state : State} → Pass ended at s state n out → n ≤ length s
pass-within (pass_told {n = n} {rest = rest} r v d p) = omega (arith, pass-within p, length-append (encode r) rest)
pass-within (pass_bad o d) = omega arith
pass-within (waits t h) = omega arith
pass-within (pass_ends t) = omega arith

pub pass-left : {ended : Bool} {at n : ℕ} {s out : List ℕ} → Pass ended at s Going n out → length s < n + longest
pass-left {ended} p = go p refl
  where
    go : {at n : ℕ} {s out : List ℕ} {state : State} → Pass ended at s state n out → state ≡ Going → length s < n + longest
    go (pass_told {n = n} {rest = rest} r v d p) f = omega (arith, go p f, length-append (encode r) rest)
    go (pass_bad o d) f = let z : ◌≡◌ {A = ℕ} 0 1 = cc in absurd (omega arith)
    go (waits t h) f = omega arith
    go (pass_ends t) f = let z : ◌≡◌ {A = ℕ} 0 1 = cc in absurd (omega arith)

-- some bytes begin no record of no bytes
some_bytes : (r : Record) (rest : List ℕ) → valid r ≡ true → [] ≡ encode r ++ rest → ⊥
some_bytes r rest v e = let l : 0 ≡ length (encode r) + length rest = ap length e ∙ length-append (encode r) rest in omega (arith, encode-length r v)

-- an input has one report
pub report-unique : {at : ℕ} {s o o' : List ℕ} → Report at s o → Report at s o' → o ≡ o'
report-unique p q = go p q refl refl
  where
    go : {at at' : ℕ} {s s' o o' : List ℕ} → Report at s o → Report at' s' o' → at ≡ at' → s ≡ s' → o ≡ o'
    go ends ends a e = refl
    go ends (told {rest = rest} r v q) a e = absurd (some_bytes r rest v e)
    go ends (bad n) a e = absurd (n.some (sym e))
    go (told {rest = rest} r v p) ends a e = absurd (some_bytes r rest v (sym e))
    go (told {at = at} {rest = rest} {out = out} r v p) (told {at = at'} {rest = rest'} {out = out'} r' v' q) a e =
        let u = encode-unique r r' rest rest' v v' e in
        let b : at + length (encode r) ≡ at' + length (encode r') = cc (u.0, a) in
        let i : out ≡ out' = go p q b u.1 in
        cc (u.0, i)
    go (told {rest = rest} r v p) (bad n) a e = absurd (n.none r rest v (sym e))
    go (bad n) ends a e = absurd (n.some e)
    go (bad n) (told {rest = rest} r v q) a e = absurd (n.none r rest v e)
    go (bad n) (bad m) a e = ap bad_line a

-- every input has one
pub report-exists : (s : List ℕ) → Bytes s → (at : ℕ) → (o : List ℕ) × Report at s o
report-exists s byte at = go (suc (length s)) s byte at (omega arith)
  where
    go : (f : ℕ) (s : List ℕ) → Bytes s → (at : ℕ) → length s < f → (o : List ℕ) × Report at s o
    go zero s byte at h = absurd (omega arith)
    go (suc f) [] byte at h = ([], ends)
    go (suc f) (b ∷ t) byte at h = at-start (record_at (b ∷ t) 0) (exact (b ∷ t) byte 0) (go f)
      where
        at-start : (x : Option Whole) → Exact (b ∷ t) 0 x → ((s : List ℕ) → Bytes s → (at : ℕ) → length s < f → (o : List ℕ) × Report at s o) → (o : List ℕ) × Report at (b ∷ t) o
        at-start x (read r rest v d) ih =
            let l : suc (length t) ≡ length (encode r) + length rest = ap length d ∙ length-append (encode r) rest in
            let y : Bytes rest = λ i. subst (λ (n : ℕ). n < 256) (ap (λ (l : List ℕ). get_or l (length (encode r) + i) 0) d ∙ get_or-append-add (encode r) rest i 0) (byte (length (encode r) + i)) in
            let p = ih rest y (at + length (encode r)) (omega (arith, encode-length r v)) in
            (line_of r ++ p.0, subst (λ (x : List ℕ). Report at x (line_of r ++ p.0)) (sym d) (told r v p.1))
        at-start x (refused n) ih = (bad_line at, bad record { some = λ (e : b ∷ t ≡ []). let z : suc (length t) ≡ 0 = ap length e in omega arith; none = n })

-- bytes that decide are not waited for
not-both : (ended : Bool) (s : List ℕ) → Decides ended s → ended ≡ false → length s < longest → ⊥
not-both true s d e h = let z : ◌≡◌ {A = ℕ} 0 1 = cc in omega arith
not-both false s d e h = omega arith

-- the bytes at hand determine a pass
pub pass-unique : {ended : Bool} {at n n' : ℕ} {s o o' : List ℕ} {state state' : State} → Pass ended at s state n o → Pass ended at s state' n' o' →
    (state ≡ state') × (n ≡ n') × (o ≡ o')
pass-unique {ended} p q = go p q refl refl
  where
    go : {at at' n n' : ℕ} {s s' o o' : List ℕ} {state state' : State} → Pass ended at s state n o → Pass ended at' s' state' n' o' → at ≡ at' → s ≡ s' →
        (state ≡ state') × (n ≡ n') × (o ≡ o')
    go (pass_told {at = at} {n = n} {rest = rest} {out = out} r v d p) (pass_told {at = at'} {n = n'} {rest = rest'} {out = out'} r' v' d' q) a e =
        let u = encode-unique r r' rest rest' v v' e in
        let b : at + length (encode r) ≡ at' + length (encode r') = cc (u.0, a) in
        let i = go p q b u.1 in
        let k : length (encode r) + n ≡ length (encode r') + n' = cc (u.0, i.1) in
        let l : line_of r ++ out ≡ line_of r' ++ out' = cc (u.0, i.2) in
        (i.0, k, l)
    go (pass_told {rest = rest} r v d p) (pass_bad n d') a e = absurd (n.none r rest v (sym e))
    go (pass_told {rest = rest} r v d p) (waits t h) a e = absurd (not-both ended (encode r ++ rest) d t (rw e h))
    go (pass_told {rest = rest} r v d p) (pass_ends t) a e = absurd (some_bytes r rest v (sym e))
    go (pass_bad n d) (pass_told {rest = rest} r v d' q) a e = absurd (n.none r rest v e)
    go (pass_bad n d) (pass_bad n' d') a e = (refl, refl, ap bad_line a)
    go (pass_bad {s = s} n d) (waits t h) a e = absurd (not-both ended s d t (rw e h))
    go (pass_bad n d) (pass_ends t) a e = absurd (n.some e)
    go (waits {s = s} t h) (pass_told {rest = rest} r v d q) a e = absurd (not-both ended (encode r ++ rest) d t (rw e at h))
    go (waits t h) (pass_bad {s = s} n d) a e = absurd (not-both ended s d t (rw e at h))
    go (waits t h) (waits t' h') a e = (refl, refl, refl)
    go (waits t h) (pass_ends t') a e = let z : ◌≡◌ {A = ℕ} 0 1 = cc in absurd (omega arith)
    go (pass_ends t) (pass_told {rest = rest} r v d q) a e = absurd (some_bytes r rest v e)
    go (pass_ends t) (pass_bad n d) a e = absurd (n.some (sym e))
    go (pass_ends t) (waits t' h) a e = let z : ◌≡◌ {A = ℕ} 0 1 = cc in absurd (omega arith)
    go (pass_ends t) (pass_ends t') a e = (refl, refl, refl)

-- however the input comes in pieces, what is printed is its report
pub run-report : {at : ℕ} {held rest out : List ℕ} → Run at held rest out → Report at (held ++ rest) out
run-report (goes {out = out} chunk rest p q) =
    pass-going p (chunk ++ rest) out (rw append_assoc at (run-report q))
run-report (stops {rest = rest} p e) = pass-done p rest e

-- only a pass over an input that has not ended wants more
pub pass-open : {ended : Bool} {at n : ℕ} {s out : List ℕ} → Pass ended at s Going n out → ended ≡ false
pass-open {ended} p = go p refl
  where
    go : {at n : ℕ} {s out : List ℕ} {state : State} → Pass ended at s state n out → state ≡ Going → ended ≡ false
    go (pass_told r v d p) f = go p f
    go (pass_bad o d) f = let z : ◌≡◌ {A = ℕ} 0 1 = cc in absurd (omega arith)
    go (waits t h) f = t
    go (pass_ends t) f = let z : ◌≡◌ {A = ℕ} 0 1 = cc in absurd (omega arith)
