-- What a sent operation meets on the server, where it stands among the sent ones, is at each of its operands what it met in the view that it
-- was issued on, unless it is an overwrite: whatever had a common operand with it then was sent before it.
use Rattle.std.specs.Prelude.{ℕ, ◌+◌, ◌<◌, ◌≡◌, refl, ◌⊎◌, List, [], ◌∷◌, ◌++◌, map, Bool, true, false, not, cond, length}
use Rattle.std.proofs.Common.{arith, sym, ap, ◌∙◌, subst, ⊎_elim, append_assoc, lt-ltb}
use mathlib.Core.List.Memᴰ
use Rattle.std.proofs.lemmas.List.{map-append}
use Rattle.std.specs.Prelude.{Option, None, Some}
use Rattle.std.proofs.lemmas.Bool.{not-true}
use Rattle.record.specs.Operation.{Operation, Record, operands, Stretch, overwrite_of}
use Rattle.record.specs.Fields.{member}
use Rattle.volume_tree.specs.Volume.{Volume}
use Rattle.volume_apply.proofs.Laws.Local.{Same, same_refl, same-trans, apply-elsewhere}
use Rattle.volume_apply.specs.Apply.{apply}
use Rattle.log_rules.specs.Order.{separate, directly_precedes}
use Rattle.log_rules.proofs.Laws.Order.{Rising}
use Rattle.log_rules.proofs.Laws.Swap.{swap, in_both}
use Rattle.log_rules.proofs.Laws.Partition.{apply_each, EachApplies, picked, picked-yes, picked-in, Closed, Parted, partition}
use Rattle.session.specs.Call.{Geometry}
use Rattle.session.specs.Model.{Model}
use Rattle.register.specs.Replay.{replay}
use Rattle.register.specs.Register.{Register, Acknowledged, is_sent, chosen, sent_in, recorded_of}
use Rattle.register.specs.History.{Is, gone_by}
use Rattle.register.specs.Claim.{SentAt}
use Rattle.register.proofs.Laws.Fate.{Among, is_live, FateIs, waits, went, gone, fate-is, no_both, sent-live, waiting-live, live-there}
use Rattle.register.proofs.Laws.Invariant.{NumberedFrom, Kept, Good}
use Rattle.register.proofs.Laws.Pick.{picked_none, picked_same, picked-twice, picked-append}
use Rattle.register.proofs.Laws.Operation.{numbers-rise, numbers-below, chosen-picked}
use Rattle.register.proofs.Laws.Send.{in-picked}
use Rattle.register.proofs.Laws.Kept.{rise-picked, replay-all}
use Rattle.register.proofs.Laws.Timed.{directly-of}
use Rattle.register.proofs.Laws.Since.{Since}
use Rattle.register.proofs.Laws.Could.{has_number, number-chosen}

-- operations numbered on from k that all stand in another list so numbered: that list begins with their records
record Begins (l t : List Acknowledged) : Type 0 where
  first : List Acknowledged
  rest : List Acknowledged
  is : t ≡ first ++ rest
  same : map recorded_of first ≡ map recorded_of l

begins : (k : ℕ) (l t : List Acknowledged) → NumberedFrom k l → NumberedFrom k t → ((b : Acknowledged) → Among b l → (c : Acknowledged) × Among c t × (c.recorded ≡ b.recorded)) → Begins l t
begins k [] t nl nt h = record { first = []; rest = t; is = refl; same = refl }
begins k (b ∷ l) [] nl nt h = absurd (Memᴰ.not-nil (h b (Memᴰ.head refl)).1)
begins k (b ∷ l) (c ∷ t) nl nt h =
    let x = h b (Memᴰ.head refl) in
    let own : c.recorded ≡ b.recorded =
    ⊎_elim (λ (e : x.0 ≡ c). ap recorded_of (sym e) ∙ x.2) (λ (m : Among x.0 t). absurd (apart x.0 b m x.2 nl.0)) (Memᴰ.cases_cons x.1) in
    let rest = begins (k + 1) l t nl.1 nt.1 (λ d m. let y = h d (Memᴰ.tail m) in (y.0, within d m y.0 y.2 (Memᴰ.cases_cons y.1), y.2)) in
    record {
      first = c ∷ rest.first;
      rest = rest.rest;
      is = ap (λ (z : List Acknowledged). c ∷ z) rest.is;
      same = λ i. own i ∷ rest.same i;
    }
  where
    number : {q r : Record} → q ≡ r → q.sequence ≡ r.sequence
    number e = ap (λ (q : Record). q.sequence) e

    apart : (x y : Acknowledged) → Among x t → x.recorded ≡ y.recorded → y.recorded.sequence ≡ k → ⊥
    apart x y m e z = let lt = (numbers-rise k (c ∷ t) nt).0 x m in let head = nt.0 in let same = number e in omega arith

    within : (d : Acknowledged) → Among d l → (y : Acknowledged) → y.recorded ≡ d.recorded → (y ≡ c) ⊎ Among y t → Among y t
    within d m y e o =
        ⊎_elim (λ (z : y ≡ c).
        let lt = (numbers-rise k (b ∷ l) nl).0 d m in
        let head = nt.0 in
        let first = nl.0 in
        let same = number e in
        let here = ap (λ (w : Acknowledged). w.recorded.sequence) z in
        absurd (omega arith)) (λ (z : Among y t). z) o

-- what is chosen by its number
chosen-numbers : (f : ℕ → Bool) (l : List Acknowledged) → chosen (λ b. f b.recorded.sequence) l ≡ picked (λ q. f q.sequence) (map recorded_of l)
unfolding chosen picked
chosen-numbers f [] = refl
chosen-numbers f (a ∷ l) = ap (λ (k : List Record). cond (f a.recorded.sequence) (a.recorded ∷ k) k) (chosen-numbers f l)

-- a test that passes whatever directly precedes what it passes picks a closed part
closed_of : (f : Acknowledged → Bool) (l : List Acknowledged) → Rising (λ a. a.recorded.sequence) l
    → ((b c : Acknowledged) → Among b l → Among c l → b.recorded.sequence < c.recorded.sequence → f c ≡ true → directly_precedes b.recorded.operation c.recorded.operation ≡ true → f b ≡ true)
    → Closed recorded_of f l
closed_of f [] rise h = tt
closed_of f (b ∷ l) rise h =
    ((λ e c m. go e c m (directly_precedes b.recorded.operation c.recorded.operation) refl), closed_of f l rise.1 (λ c d mc md. h c d (Memᴰ.tail mc) (Memᴰ.tail md)))
  where
    go : f b ≡ false → (c : Acknowledged) → Among c (picked f l) → (t : Bool) → directly_precedes b.recorded.operation c.recorded.operation ≡ t
        → directly_precedes b.recorded.operation c.recorded.operation ≡ false
    go e c m true d =
        let there = picked-in f l c m in
        no_both (f b) (h b c (Memᴰ.head refl) (Memᴰ.tail there) (rise.0 c there) (in-picked recorded_of f l c m) d) e
    go e c m false d = d

-- operations that do not have an operand leave it as it is
elsewhere-all : (v : Volume) (l : List Acknowledged) (i : ℕ) → EachApplies recorded_of v l → ((b : Acknowledged) → Among b l → member i (operands b.recorded.operation) ≡ false)
    → Same (apply_each recorded_of v l) v i
unfolding apply_each
elsewhere-all v [] i t h = same_refl v i
elsewhere-all v (b ∷ l) i t h =
    same-trans (elsewhere-all (apply v b.recorded.operation) l i t.1 (λ c m. h c (Memᴰ.tail m))) (apply-elsewhere v b.recorded.operation t.0 i (h b (Memᴰ.head refl)))

-- an operation that is no overwrite follows whatever has a common operand with it
follows : (a b : Operation) (i : ℕ) → overwrite_of b ≡ None → member i (operands a) ≡ true → member i (operands b) ≡ true → directly_precedes a b ≡ true
unfolding directly_precedes
follows a b i e ha hb = rw (in_both i (operands a) (operands b) ha hb, e) (ap not (go (overwrite_of a)))
  where
    go : (s : Option Stretch) → separate s None ≡ false
    go None = refl
    go (Some s) = refl

-- an operation a that was issued on a register r, which r₁ is then, and that was sent by the time of s
module _ (g : Geometry) (r r₁ s : Register) (x x₁ y : Model) (kept : Kept g r x) (issued : Good g r₁ x₁) (good : Good g s y) (since : Since r₁ s) (a : Acknowledged)
    (added : r₁.operations ≡ r.operations ++ (a ∷ [])) (number : a.recorded.sequence ≡ length r.operations + 1) (plain : overwrite_of a.recorded.operation ≡ None)
    (sent_by : SentAt s a.recorded.sequence) where
  abbrev ops : List Acknowledged
  ops = r.operations

  rises : Rising (λ b. b.recorded.sequence) s.operations
  rises = numbers-rise 1 s.operations good.kept.numbers

  -- whether the operation of a number was sent by then
  abbrev was_sent : ℕ → Bool
  was_sent q = has_number q (sent_in s)

  abbrev pick : Acknowledged → Bool
  pick b = was_sent b.recorded.sequence

  -- the operations of r are operations of r₁, and a is one
  later : (b : Acknowledged) → Is b r → Is b r₁
  later b m = subst (λ (l : List Acknowledged). Among b l) (sym added) (Memᴰ.append_left _ m)

  last : Is a r₁
  last = subst (λ (l : List Acknowledged). Among a l) (sym added) (Memᴰ.append_right r.operations (Memᴰ.head refl))

  -- an operation was sent by then exactly if it stands in s as a sent one
  stood : (b : Acknowledged) (m : Is b r₁) → pick b ≡ is_sent (since.stands b m).0
  stood b m =
      let z = since.stands b m in
      ap (λ (q : Record). was_sent q.sequence) (sym z.2.recorded) ∙ number-chosen is_sent s.operations rises z.0 z.1

  picked_last : pick a ≡ true
  picked_last = ap was_sent (sym sent_by.2) ∙ number-chosen is_sent s.operations rises sent_by.0 sent_by.1 ∙ sent_by.3

  -- what was live when r was and directly precedes a sent one was sent
  forced : (b c : Acknowledged) → Is b r → Is c r₁ → is_live b ≡ true → b.recorded.sequence < c.recorded.sequence → directly_precedes b.recorded.operation c.recorded.operation ≡ true
      → pick c ≡ true → pick b ≡ true
  forced b c mb mc lb lt d e =
      let u = since.stands b (later b mb) in
      let w = since.stands c mc in
      let old = issued.timed.issued c mc in
      let earlier : u.0.recorded.sequence < w.0.recorded.sequence =
      subst (λ (q : Record). q.sequence < w.0.recorded.sequence) (sym u.2.recorded) (subst (λ (q : Record). b.recorded.sequence < q.sequence) (sym w.2.recorded) lt) in
      let direct = directly-of u.0 w.0 (record {
        earlier = earlier;
        there = ap (λ (n : ℕ). gone_by n u.0.fate) w.2.issued ∙ u.2.gone c.issued (omega arith) ∙ live-there b c.issued lb;
        ordered = (λ i. directly_precedes (u.2.recorded i).operation (w.2.recorded i).operation) ∙ d;
      }) in
      stood b (later b mb) ∙ good.timed.shut u.0 w.0 u.1 w.1 (sym (stood c mc) ∙ e) direct

  -- what was sent by then was not lost before
  live-pick : (b : Acknowledged) → Is b r → pick b ≡ true → is_live b ≡ true
  live-pick b m e = go (fate-is b)
    where
      go : FateIs b → is_live b ≡ true
      go (waits w n) = waiting-live b w
      go (went w n) = sent-live b w
      go (gone u f n w) =
          let z = since.stands b (later b m) in
          let still = sym (z.2.gone r₁.happened (omega arith)) ∙ live-there z.0 r₁.happened (sent-live z.0 (sym (stood b (later b m)) ∙ e)) in
          no_both (gone_by r₁.happened b.fate) (ap (gone_by r₁.happened) f ∙ lt-ltb u r₁.happened (issued.timed.past b u (later b m) f)) still

  abbrev live : List Acknowledged
  live = picked is_live ops

  -- so the sent ones leave out no direct predecessor
  closed : Closed recorded_of pick live
  closed =
      closed_of pick live (rise-picked (λ b. b.recorded.sequence) is_live ops (numbers-rise 1 ops kept.numbers))
      (λ b c mb mc lt e d. forced b c (picked-in is_live ops b mb) (later c (picked-in is_live ops c mc)) (in-picked recorded_of is_live ops b mb) lt d e)

  -- so of the view's operations those that were sent apply first, and then the others
  parts : Parted recorded_of g.objects g.blocks (swap g.objects g.blocks) r.mounted pick live
  parts =
      partition recorded_of g.objects g.blocks (swap g.objects g.blocks) pick live r.mounted kept.mounted (λ b m. kept.fit b (picked-in is_live ops b m)) closed kept.turn

  -- what was live and not sent has no operand of it
  untouched : (i : ℕ) → member i (operands a.recorded.operation) ≡ true → (b : Acknowledged) → Among b (picked (λ c. not (pick c)) live) → member i (operands b.recorded.operation) ≡ false
  untouched i h b m = go (member i (operands b.recorded.operation)) refl
    where
      go : (t : Bool) → member i (operands b.recorded.operation) ≡ t → t ≡ false
      go true e =
          let there = picked-in (λ c. not (pick c)) live b m in
          let below = numbers-below 1 ops kept.numbers b (picked-in is_live ops b there) in
          no_both (pick b)
          (forced b a (picked-in is_live ops b there) last (in-picked recorded_of is_live ops b there) (omega (arith, number)) (follows b.recorded.operation a.recorded.operation i plain e h) picked_last)
          (not-true (pick b) (in-picked recorded_of (λ c. not (pick c)) live b m))
      go false e = refl

  -- the sent ones that were issued before it
  abbrev before : List Record
  before = map recorded_of (picked pick live)

  -- the replay of these agrees with the view on its operands
  meets : (i : ℕ) → member i (operands a.recorded.operation) ≡ true → Same x.view (replay r.mounted before) i
  meets i h =
      subst (λ (w : Volume). Same w (replay r.mounted before) i) (parts.whole ∙ sym kept.view)
      (subst (λ (w : Volume). Same (apply_each recorded_of (apply_each recorded_of r.mounted (picked pick live)) (picked (λ c. not (pick c)) live)) w i)
      (sym (replay-all r.mounted (picked pick live) parts.part))
      (elsewhere-all (apply_each recorded_of r.mounted (picked pick live)) (picked (λ c. not (pick c)) live) i parts.rest (untouched i h)))

  -- the operations begin with those of r and then a
  whole : Begins r₁.operations s.operations
  whole = begins 1 r₁.operations s.operations issued.kept.numbers good.kept.numbers (λ b m. let z = since.stands b m in (z.0, z.1, z.2.recorded))

  records : map recorded_of s.operations ≡ (map recorded_of ops ++ (a.recorded ∷ [])) ++ map recorded_of whole.rest
  records =
      ap (map recorded_of) whole.is ∙ map-append recorded_of whole.first whole.rest
      ∙ ap (λ (l : List Record). l ++ map recorded_of whole.rest) (whole.same ∙ ap (map recorded_of) added ∙ map-append recorded_of ops (a ∷ []))

  abbrev yes : Record → Bool
  yes q = was_sent q.sequence

  abbrev after : List Record
  after = picked yes (map recorded_of whole.rest)

  by_number : sent_in s ≡ picked yes (map recorded_of s.operations)
  by_number =
      chosen-picked is_sent s.operations ∙ ap (map recorded_of) (picked_same is_sent pick s.operations (λ b m. sym (number-chosen is_sent s.operations rises b m)))
      ∙ sym (chosen-picked pick s.operations) ∙ chosen-numbers was_sent s.operations

  earlier : picked yes (map recorded_of ops) ≡ before
  earlier = sym (chosen-numbers was_sent ops) ∙ chosen-picked pick ops ∙ ap (map recorded_of) (sym (picked-twice pick is_live ops live-pick))

  up_to : picked yes (map recorded_of ops ++ (a.recorded ∷ [])) ≡ before ++ (a.recorded ∷ [])
  up_to =
      picked-append yes (map recorded_of ops) (a.recorded ∷ [])
      ∙ (λ i. earlier i ++ (picked-yes yes a.recorded [] picked_last ∙ ap (λ (l : List Record). a.recorded ∷ l) (picked_none yes)) i)

  -- so the sent ones issued before it stand before it among all sent ones
  stands : sent_in s ≡ before ++ (a.recorded ∷ after)
  stands =
      by_number ∙ ap (picked yes) records ∙ picked-append yes (map recorded_of ops ++ (a.recorded ∷ [])) (map recorded_of whole.rest)
      ∙ ap (λ (l : List Record). l ++ after) up_to ∙ append_assoc before (a.recorded ∷ []) after

  -- it met the same on the server, where it stands among the sent ones, as in the view
  pub as-issued : (b : List Record) × (c : List Record) × (sent_in s ≡ b ++ (a.recorded ∷ c))
      × ((i : ℕ) → member i (operands a.recorded.operation) ≡ true → Same x.view (replay r.mounted b) i)
  as-issued = (before, after, stands, meets)
