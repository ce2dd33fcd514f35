-- How a pass goes from place to place.
use Rattle.std.specs.Prelude.{ℕ, ◌+◌, ◌*◌, ◌-◌, ◌^◌, ◌≤◌, ◌<◌, ◌≡◌, refl, List, [], ◌++◌, Bool, true, false, not, length, drop, leb, Option, None, Some}
use Rattle.std.proofs.Common.{arith, ap, sym, ◌∙◌, append_assoc, append-nil, length-append, length-drop, drop_of_length-le, drop-drop, leb-true}
use Rattle.std.proofs.Math.Bool.{and-eq-true_iff}
use Rattle.std.proofs.Math.Seq.{drop-append_seam}
use Rattle.record.specs.declared.kind.Kind.{Kind}
use Rattle.record.specs.declared.kind.Kind.TheVariants.{CreateFile, MakeDirectory, Remove, Rename, Overwrite, Append, SetLength, Forder}
use Rattle.record_reader.specs.declared.Whole.{Whole}
use Rattle.record.specs.Kind.{code_of}
use Rattle.buffer.specs.Numeral.{Bytes}
use Rattle.buffer.specs.Patch.{Put}
use Rattle.buffer.specs.Laws.Patch.{put-none, put_then}
use Rattle.record.specs.Operation.{Record, kind_of}
use Rattle.record.specs.Fields.{encode, valid, between, valid_head}
use Rattle.record_reader.specs.Code.Reader.{record_at}
use Rattle.record_reader.specs.Answer.{whole_of, Exact, read, refused}
use Rattle.record_reader.specs.Laws.Exact.{exact}
use Rattle.record.proofs.Laws.Record.{valid-inv, encode-length}
use Rattle.losses_report.specs.declared.State.{State}
use Rattle.losses_report.specs.declared.State.TheVariants.{Going, Done}
use Rattle.losses_line.specs.Line.{line, bad_line}
use Rattle.losses_line.specs.Laws.Line.{line-short, bad-short}
use Rattle.losses_report.specs.Report.{line_of, NotOne}
use Rattle.losses_report.specs.Pass.{longest, Decides, Pass, told, bad, waits, ends, Passed}

-- a valid record's line has at most 16 bytes
pub line-of-short : (r : Record) → valid r ≡ true → length (line_of r) ≤ 16
unfolding valid_head
line-of-short r h =
    let v = (and-eq-true_iff (between 1 4294967294 r.sequence) (between 0 31 r.program)).0 (valid-inv r h).head in
    let s = (and-eq-true_iff (leb 1 r.sequence) (leb r.sequence 4294967294)).0 v.0 in
    let p = (and-eq-true_iff (leb 0 r.program) (leb r.program 31)).0 v.1 in
    line-short r.sequence r.program (code_of (kind_of r.operation))
    (omega (arith, leb-true r.sequence 4294967294 s.1)) (omega (arith, leb-true r.program 31 p.1)) (code-small (kind_of r.operation))
  where
    code-small : (k : Kind) → code_of k < 10
    code-small CreateFile = omega arith
    code-small MakeDirectory = omega arith
    code-small Remove = omega arith
    code-small Rename = omega arith
    code-small Overwrite = omega arith
    code-small Append = omega arith
    code-small SetLength = omega arith
    code-small Forder = omega arith

-- what a record that is read at a place says of it
pub record ReadAt (s : List ℕ) (at : ℕ) (w : Whole) : Type 0 where
  pub found : Record
  pub rest : List ℕ
  pub good : valid found ≡ true
  pub begins : drop at s ≡ encode found ++ rest
  pub answer : w ≡ whole_of found at

pub read_at : (s : List ℕ) → Bytes s → (at : ℕ) (w : Whole) → record_at s at ≡ Some w → ReadAt s at w
read_at s byte at w e = go (record_at s at) (exact s byte at) e
  where
    go : (x : Option Whole) → Exact s at x → x ≡ Some w → ReadAt s at w
    go x (read r rest h d) f = record { found = r; rest = rest; good = h; begins = d; answer = cc }
    go x (refused n) f = let z : ◌≡◌ {A = ℕ} 0 1 = cc in absurd (omega arith)

pub not-one : (s : List ℕ) → Bytes s → (at : ℕ) → at < length s → record_at s at ≡ None → NotOne (drop at s)
not-one s byte at l e = go (record_at s at) (exact s byte at) e
  where
    go : (x : Option Whole) → Exact s at x → x ≡ None → NotOne (drop at s)
    go x (read r rest h d) f = let z : ◌≡◌ {A = ℕ} 0 1 = cc in absurd (omega arith)
    go x (refused n) f = record { some = λ z. let y : length (drop at s) ≡ 0 = ap length z in omega (arith, length-drop at s); none = n }

-- the line of the record that was read is that of its numbers
pub line_read : (s : List ℕ) (at : ℕ) (w : Whole) (x : ReadAt s at w) → line w.head.sequence w.head.program (code_of w.head.kind) ≡ line_of x.found
unfolding whole_of
line_read s at w x = ap (λ (v : Whole). line v.head.sequence v.head.program (code_of v.head.kind)) x.answer

pub next-read : (s : List ℕ) (at : ℕ) (w : Whole) (x : ReadAt s at w) → w.next.at ≡ at + length (encode x.found)
unfolding whole_of
next-read s at w x = ap (λ (v : Whole). v.next.at) x.answer

-- a record that is read lies in the bytes, and has at least 8 of them
pub next-within : (s : List ℕ) (at : ℕ) (w : Whole) → at ≤ length s → ReadAt s at w → (at + 8 ≤ w.next.at) × (w.next.at ≤ length s)
next-within s at w h x =
    let n = next-read s at w x in
    let l : length s - at ≡ length (encode x.found) + length x.rest =
    sym (length-drop at s) ∙ ap length x.begins ∙ length-append (encode x.found) x.rest in
    let e = encode-length x.found x.good in
    (omega arith, omega arith)

pub rest_read : (s : List ℕ) (at : ℕ) (w : Whole) (x : ReadAt s at w) → drop w.next.at s ≡ x.rest
rest_read s at w x =
    ap (λ (n : ℕ). drop n s) (next-read s at w x) ∙ sym (drop-drop (length (encode x.found)) at s)
    ∙ ap (drop (length (encode x.found))) x.begins ∙ drop-append_seam (encode x.found) x.rest

pub decides : (ended : Bool) (s : List ℕ) (at : ℕ) → (ended ≡ false → longest ≤ length s - at) → Decides ended (drop at s)
decides true s at h = tt
decides false s at h = rw length-drop (h refl)

-- a pass that has come to a place of the bytes, and to another of the buffer
pub record Begun (s : List ℕ) (base : ℕ) (ended : Bool) (before : List ℕ) (at to : ℕ) (out : List ℕ) : Type 0 where
  pub text : List ℕ
  pub wrote : Put text 0 before out to
  pub long : length out ≡ length before
  pub within : at ≤ length s
  pub few : to ≤ 2 * at
  pub goes : (state : State) (n : ℕ) (t : List ℕ) → Pass ended (base + at) (drop at s) state n t → Pass ended base s state (at + n) (text ++ t)

module _ (s : List ℕ) (base : ℕ) (ended : Bool) (before : List ℕ) where
  pub begun-start : Begun s base ended before 0 0 before
  begun-start =
      record {
        text = [];
        wrote = put-none before 0;
        long = refl;
        within = omega arith;
        few = omega arith;
        goes =
            λ state n t p.
            let e : base + 0 ≡ base = omega arith in
            let f : 0 + n ≡ n = omega arith in
            rw f (rw e at p);
      }

  module _ (at to : ℕ) (out : List ℕ) (b : Begun s base ended before at to out) (enough : 2 * length s + 25 ≤ length before) where
    pub bad-room : base + at < 2 ^ 64 → to + length (bad_line (base + at)) ≤ length out
    bad-room h = omega (arith, b.long, bad-short (base + at) h, b.within, b.few)

    pub line-room : (w : Whole) → ReadAt s at w → to + length (line w.head.sequence w.head.program (code_of w.head.kind)) ≤ length out
    line-room w x =
        omega (arith, b.long, ap length (line_read s at w x), line-of-short x.found x.good, next-within s at w b.within x, b.few)

    -- one record and its line further
    pub begun-line : (w : Whole) → ReadAt s at w → Decides ended (drop at s) → (to' : ℕ) (out' : List ℕ) → length out' ≡ length out →
        Put (line w.head.sequence w.head.program (code_of w.head.kind)) to out out' to' → Begun s base ended before w.next.at to' out'
    begun-line w x d to' out' l p =
        let m = next-read s at w x in
        let q : Put (line_of x.found) to out out' to' = rw (line_read s at w x) at p in
        record {
          text = b.text ++ line_of x.found;
          wrote = put_then b.wrote q;
          long = l ∙ b.long;
          within = (next-within s at w b.within x).1;
          few = omega (arith, q.ends, line-of-short x.found x.good, next-within s at w b.within x, b.few);
          goes =
              λ state c t p.
              let a : base + w.next.at ≡ base + at + length (encode x.found) = omega arith in
              let q : Pass ended (base + at + length (encode x.found)) x.rest state c t = rw (a, rest_read s at w x) at p in
              let dd : Decides ended (encode x.found ++ x.rest) = rw x.begins at d in
              let u : Pass ended (base + at) (encode x.found ++ x.rest) state (length (encode x.found) + c) (line_of x.found ++ t) = told x.found x.good dd q in
              let v : Pass ended (base + at) (drop at s) state (length (encode x.found) + c) (line_of x.found ++ t) = rw x.begins u in
              let f : w.next.at + c ≡ at + (length (encode x.found) + c) = omega arith in
              rw (f, append_assoc) (b.goes state (length (encode x.found) + c) (line_of x.found ++ t) v);
        }

    -- a bad record
    pub begun-bad : NotOne (drop at s) → Decides ended (drop at s) → (end : ℕ) (out' : List ℕ) → base + at < 2 ^ 64 →
        Put (bad_line (base + at)) to out out' end → Passed s base ended before out' (record { next = at; written = end; state = Done })
    begun-bad o d end out' h p =
        let r = bad-room h in
        let f : at + 0 ≡ at = omega arith in
        let w = put_then b.wrote p in
        record {
          text = b.text ++ bad_line (base + at);
          wrote = w;
          room = omega (arith, w.ends, p.ends, b.long);
          pass = rw f at (b.goes Done 0 (bad_line (base + at)) (bad o d));
        }

    -- more input is wanted
    pub begun-waits : ended ≡ false → length s < at + longest → Passed s base ended before out (record { next = at; written = to; state = Going })
    begun-waits f h =
        let z : at + 0 ≡ at = omega arith in
        record {
          text = b.text;
          wrote = b.wrote;
          room = omega (arith, b.wrote.ends, b.few, b.within);
          pass = rw (z, append-nil) at (b.goes Going 0 [] (waits f (rw length-drop (omega arith))));
        }

    -- the end of the input
    pub begun-ends : ended ≡ true → length s ≤ at → Passed s base ended before out (record { next = at; written = to; state = Done })
    begun-ends f h =
        let z : at + 0 ≡ at = omega arith in
        let e : drop at s ≡ [] = drop_of_length-le s h in
        let p : Pass ended (base + at) (drop at s) Done 0 [] = rw e (ends f) in
        record {
          text = b.text;
          wrote = b.wrote;
          room = omega (arith, b.wrote.ends, b.few, b.within);
          pass = rw (z, append-nil) at (b.goes Done 0 [] p);
        }

-- a test of a flag that led past a wait: the input has ended, or enough is left
pub kept_on : (ended : Bool) (n : ℕ) → not ended ≡ true → longest ≤ n → ended ≡ false → longest ≤ n
kept_on ended n t h e = h

pub had-ended : (ended : Bool) (n : ℕ) → not ended ≡ false → ended ≡ false → longest ≤ n
had-ended true n t e = let z : ◌≡◌ {A = ℕ} 0 1 = cc in absurd (omega arith)
had-ended false n t e = let z : ◌≡◌ {A = ℕ} 0 1 = cc in absurd (omega arith)
