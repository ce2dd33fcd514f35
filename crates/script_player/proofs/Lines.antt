-- Bytes up to a newline, and what is known of those that are still to come.
use Rattle.std.proofs.Common.{ℕ, ◌≡◌, ◌+◌, ◌-◌, ◌<◌, ◌≤◌, List, [], ◌∷◌, ◌++◌, length, take, drop, Bool, true, false, cond, eqb, refl, ap, sym, ◌∙◌, Option, None, Some, arith, append_assoc, append-nil, add-one, inl, inr, ◌⊎◌, take-add, drop_of_length-le}
use Rattle.std.specs.Io.KnownBytes.{prepend_known, Keeps, Consumes, IsAtEnd}
use Rattle.std.proofs.lemmas.List.{take-append-le, take-append-drop, drop-take, drop-drop, length-take, length-drop}
use borrow.Author.Tests.{eqb-true}
use Rattle.script_words.specs.Word.{before}
use Rattle.script_player.specs.Line.{coming, Taken, Unfinished}

-- no byte of the kind stands before the first of them
pub before-twice : (b : ℕ) (s : List ℕ) → before b (before b s) ≡ before b s
unfolding before
before-twice b [] = refl
before-twice b (x ∷ s) = go (eqb x b) refl (before-twice b s)
  where
    go : (t : Bool) → eqb x b ≡ t → before b (before b s) ≡ before b s → before b (cond t [] (x ∷ before b s)) ≡ cond t [] (x ∷ before b s)
    go true e h = refl
    go false e h = rw e (ap (λ (l : List ℕ). x ∷ l) h)

-- what stands before the first of a kind, that byte, and what stands behind it
pub parts : (b : ℕ) (s : List ℕ) → length (before b s) < length s → s ≡ before b s ++ (b ∷ drop (length (before b s) + 1) s)
unfolding before
parts b [] h = absurd (omega arith)
parts b (x ∷ s) h = go (eqb x b) refl h (λ k. parts b s k)
  where
    go : (t : Bool) → eqb x b ≡ t → length (cond t [] (x ∷ before b s)) < length (x ∷ s) →
        (length (before b s) < length s → s ≡ before b s ++ (b ∷ drop (length (before b s) + 1) s)) →
        x ∷ s ≡ cond t [] (x ∷ before b s) ++ (b ∷ drop (length (cond t [] (x ∷ before b s)) + 1) (x ∷ s))
    go true e h f = ap (λ (y : ℕ). y ∷ s) (eqb-true x b e)
    go false e h f = let k : length (before b s) < length s = omega arith in rw add-one (ap (λ (l : List ℕ). x ∷ l) (rw add-one at (f k)))

-- known bytes are as they were
pub keeps_self : (first : Option (List ℕ)) → Keeps first first
keeps_self None = tt
keeps_self (Some f) = refl

-- some of the bytes held are taken
pub taken : (first rest : Option (List ℕ)) (s x y : List ℕ) → Keeps first (prepend_known s rest) → s ≡ x ++ y → Consumes first (prepend_known y rest) x
taken None rest s x y k e = tt
taken (Some f) None s x y k e = absurd k
taken (Some f) (Some r) s x y k e = sym k ∙ rw e (append_assoc x y r)

-- some bytes are read behind those held
pub grown : (first rest more : Option (List ℕ)) (s new : List ℕ) → Keeps first (prepend_known s rest) → Consumes rest more new → Keeps first (prepend_known (s ++ new) more)
grown None rest more s new k c = tt
grown (Some f) None more s new k c = absurd k
grown (Some f) (Some r) None s new k c = absurd c
grown (Some f) (Some r) (Some m) s new k c = rw (append_assoc, ← c) k

-- the bytes held from a place on
abbrev pub here : List ℕ → ℕ → ℕ → List ℕ
here buf at held = drop at (take held buf)

pub length-here : (buf : List ℕ) (at held : ℕ) → held ≤ length buf → length (here buf at held) ≡ held - at
length-here buf at held h = simp (length-drop, length-take) (omega arith)

pub here_is : (buf : List ℕ) (at held : ℕ) → at ≤ held → here buf at held ≡ take (held - at) (drop at buf)
here_is buf at held h =
    let k : at + (held - at) ≡ held = omega arith in
    ap (λ (n : ℕ). drop at (take n buf)) (sym k) ∙ drop-take at (held - at) buf

front : (r k : ℕ) (d : List ℕ) → r ≤ k → k ≤ length d → take r (take k d) ≡ take r d
front r k d h l =
    let q : r ≤ length (take k d) = simp length-take (omega arith) in
    sym (take-append-le r (take k d) (drop k d) q) ∙ ap (take r) (take-append-drop k d)

-- a part of the buffer is a part of the bytes held
within : (buf : List ℕ) (at held r : ℕ) → held ≤ length buf → at + r ≤ held → drop at (take (at + r) buf) ≡ take r (here buf at held)
within buf at held r h l =
    let e = here_is buf at held (omega arith) in
    let d : held - at ≤ length (drop at buf) = simp length-drop (omega arith) in
    drop-take at r buf ∙ sym (front r (held - at) (drop at buf) (omega arith) d) ∙ ap (take r) (sym e)

-- a line up to a newline
pub up_to_newline : (first rest : Option (List ℕ)) (buf : List ℕ) (at held r : ℕ) → held ≤ length buf → Keeps first (coming buf at held rest) →
    take r (here buf at held) ≡ before 10 (here buf at held) → at + r < held →
    Taken first rest buf (record { start = at; end = at + r; next = at + r + 1; held = held; last = false })
up_to_newline first rest buf at held r h k t l =
    let s = here buf at held in
    let b : drop at (take (at + r) buf) ≡ before 10 s = within buf at held r h (omega arith) ∙ t in
    let n : length (before 10 s) ≡ r = ap length (sym t) ∙ simp length-take (omega (arith, length-here buf at held h)) in
    let m : length (before 10 s) < length s = omega (arith, n, length-here buf at held h) in
    let d : drop (r + 1) s ≡ drop (at + r + 1) (take held buf) =
    drop-drop (r + 1) at (take held buf) ∙ ap (λ (n : ℕ). drop n (take held buf)) (omega arith) in
    let e : s ≡ (before 10 s ++ (10 ∷ [])) ++ drop (at + r + 1) (take held buf) =
    parts 10 s m ∙ rw (n, d) (sym (append_assoc (before 10 s) (10 ∷ []) (drop (at + r + 1) (take held buf)))) in record {
      one = rw b (before-twice 10 s);
      from = rw b (taken first rest s (before 10 s ++ (10 ∷ [])) (drop (at + r + 1) (take held buf)) k e);
      last = λ z. absurd (cc);
    }

-- a line that is all that is held
pub all_held : (first rest : Option (List ℕ)) (buf : List ℕ) (at held : ℕ) → held ≤ length buf → Keeps first (coming buf at held rest) →
    before 10 (here buf at held) ≡ here buf at held → IsAtEnd rest ⊎ (8191 < held - at) →
    Taken first rest buf (record { start = at; end = held; next = held; held = held; last = true })
all_held first rest buf at held h k t l =
    let s = here buf at held in
    let z : drop held (take held buf) ≡ [] = drop_of_length-le (take held buf) (simp length-take (omega arith)) in
    let e : s ≡ (s ++ []) ++ drop held (take held buf) = sym (ap (λ (d : List ℕ). (s ++ []) ++ d) z ∙ append-nil (s ++ []) ∙ append-nil s) in record {
      one = t;
      from = taken first rest s (s ++ []) (drop held (take held buf)) k e;
      last = λ z. elim l [ inl a ↦ inl a | inr b ↦ inr (omega (arith, length-here buf at held h)) ];
    }

-- the bytes held are moved to the start, and some are read behind them
pub read_behind : (first rest more : Option (List ℕ)) (buf moved read : List ℕ) (at held got : ℕ) → Keeps first (coming buf at held rest) →
    take (held - at) moved ≡ here buf at held → take (held - at) read ≡ take (held - at) moved → Consumes rest more (take got (drop (held - at) read)) →
    Keeps first (coming read 0 (held - at + got) more)
read_behind first rest more buf moved read at held got k m t c =
    rw (take-add, t, m) (grown first rest more (here buf at held) (take got (drop (held - at) read)) k c)

-- the bytes held now: those held first, and all that the input gave since
pub record Since (held : List ℕ) (before after : Option (List ℕ)) (now : List ℕ) : Type 0 where
  pub since : List ℕ
  pub held_now : now ≡ held ++ since
  pub given : Consumes before after since

-- before the first read
pub since_none : (held : List ℕ) (before : Option (List ℕ)) → Since held before before held
since_none held None = record { since = []; held_now = sym (append-nil held); given = tt }
since_none held (Some x) = record { since = []; held_now = sym (append-nil held); given = refl }

consumes-more : (a b c : Option (List ℕ)) (x y : List ℕ) → Consumes a b x → Consumes b c y → Consumes a c (x ++ y)
consumes-more None b c x y h k = tt
consumes-more (Some a) None c x y h k = absurd h
consumes-more (Some a) (Some b) None x y h k = absurd k
consumes-more (Some a) (Some b) (Some c) x y h k = h ∙ rw k (sym (append_assoc x y c))

consumes-keeps : (a b c : Option (List ℕ)) (x : List ℕ) → Consumes a b x → Keeps b c → Consumes a c x
consumes-keeps None b c x h k = tt
consumes-keeps (Some a) None c x h k = absurd h
consumes-keeps (Some a) (Some b) None x h k = absurd k
consumes-keeps (Some a) (Some b) (Some c) x h k = rw k h

-- some more bytes are read behind those held
pub since_more : (held : List ℕ) (before rest more : Option (List ℕ)) (now read : List ℕ) (n got : ℕ) → Since held before rest now → take n read ≡ now →
    Consumes rest more (take got (drop n read)) → Since held before more (take (n + got) read)
since_more held before rest more now read n got s t c =
    let new = take got (drop n read) in record {
      since = s.since ++ new;
      held_now = take-add n got read ∙ rw (t, s.held_now) (append_assoc held s.since new);
      given = consumes-more before rest more s.since new s.given c;
    }

-- the read fails, behind the bytes held
pub since_failed : (held : List ℕ) (before rest more : Option (List ℕ)) (now read : List ℕ) (n : ℕ) → Since held before rest now → take n read ≡ now →
    length now ≡ n → Keeps rest more → Unfinished held before more read
since_failed held before rest more now read n s t l k = record {
  since = s.since;
  stands = rw (← s.held_now, l) t;
  given = consumes-keeps before rest more s.since s.given k;
}
