-- The records of a program's losses: each of a lost operation of its own and none twice; and that what is lost and what was sent
-- determine each other where none waits.
use Rattle.std.specs.Prelude.{ℕ, ◌<◌, ◌≡◌, refl, Bool, true, false, not, ◌&&◌, ◌||◌, cond, leb, eqb}
use Rattle.std.proofs.Common.{arith, sym, ap, ◌∙◌, subst, leb-true, eqb-true, eq-eqb}
use mathlib.Core.List.{List, [], ◌∷◌, ◌++◌, map, Memᴰ, append-nil}
use Rattle.std.proofs.Math.Bool.{and-eq-true_iff}
use Rattle.std.specs.Prelude.{Some}
use Rattle.record.specs.Operation.{Record}
use Rattle.record.specs.Fields.{encode, between, valid, valid_head}
use Rattle.record.specs.Decode.{decode_record}
use Rattle.record.proofs.Laws.Decode.{decode-encoded, encode-unique}
use Rattle.record.proofs.Laws.Record.{valid-inv}
use Rattle.log_rules.specs.Order.{any}
use Rattle.log_rules.proofs.Laws.Order.{Rising, InOrder, any-in, in-any}
use Rattle.log_rules.proofs.Laws.Partition.{picked}
use Rattle.session.specs.Effect.{Effect, discard}
use Rattle.register.specs.Register.{Register, Acknowledged, is_waiting, is_sent, is_lost, chosen, recorded_of}
use Rattle.register.specs.Feed.{losing}
use Rattle.register.proofs.Laws.Happen.{happen, happen_all}
use Rattle.register.specs.Takes.{lost_by, Distinct}
use Rattle.register.proofs.Laws.Fate.{Among, FateIs, waits, went, gone, fate-is, no_both, and-all, lose-waiting}
use Rattle.register.proofs.Laws.Pick.{picked_same, map-in}
use Rattle.register.proofs.Laws.Send.{rising-unique, there-picked}
use Rattle.register.proofs.Laws.Operation.{record-in, from-records, chosen-picked, chosen-in, chosen-rising}

-- every record of some operations is valid
abbrev pub AllValid : List Acknowledged → Type 0
AllValid l = (a : Acknowledged) → Among a l → valid a.recorded ≡ true

-- none of them waits
abbrev pub Settled : List Acknowledged → Type 0
Settled l = (a : Acknowledged) → Among a l → is_waiting a ≡ false

-- a valid record is of one of the 32 programs
pub valid-program : (r : Record) → valid r ≡ true → r.program < 32
unfolding valid_head
valid-program r h =
    let head = ((and-eq-true_iff (between 1 4294967294 r.sequence) (between 0 31 r.program)).0 (valid-inv r h).head).1 in
    let le = leb-true r.program 31 ((and-eq-true_iff (leb 0 r.program) (leb r.program 31)).0 head).1 in
    omega arith

-- the bytes of a valid record are read as it
pub decoded-record : (r : Record) → valid r ≡ true → decode_record (encode r) ≡ Some r
decoded-record r h = ap decode_record (sym (append-nil (encode r))) ∙ decode-encoded r [] h

pub encode_same : (r q : Record) → valid r ≡ true → valid q ≡ true → encode r ≡ encode q → r ≡ q
encode_same r q h k e = (encode-unique r q [] [] h k (ap (λ (l : List ℕ). l ++ []) e)).0

-- and so of lists of valid records
pub encodes_same : (u v : List Record) → ((r : Record) → Memᴰ r u → valid r ≡ true) → ((r : Record) → Memᴰ r v → valid r ≡ true) → map encode u ≡ map encode v → u ≡ v
encodes_same [] [] h k e = refl
encodes_same [] (q ∷ v) h k e = let z : ◌≡◌ {A = ℕ} 0 1 = cc in absurd (omega arith)
encodes_same (r ∷ u) [] h k e = let z : ◌≡◌ {A = ℕ} 0 1 = cc in absurd (omega arith)
encodes_same (r ∷ u) (q ∷ v) h k e =
    let one : encode r ≡ encode q = cc in
    let rest : map encode u ≡ map encode v = cc in
    let first = encode_same r q (h r (mathlib.Core.List.Memᴰ.head refl)) (k q (mathlib.Core.List.Memᴰ.head refl)) one in
    let more = encodes_same u v (λ s m. h s (mathlib.Core.List.Memᴰ.tail m)) (λ s m. k s (mathlib.Core.List.Memᴰ.tail m)) rest in
    (λ i. first i ∷ more i)

-- what comes first of a list that has none twice
pub distinct-prefix : (u v : List (List ℕ)) → Distinct (u ++ v) → Distinct u
distinct-prefix [] v d = tt
distinct-prefix (b ∷ u) v d = ((λ c m. d.0 c (mathlib.Core.List.Memᴰ.append_left v m)), distinct-prefix u v d.1)

-- the bytes of valid records in rising sequence
pub encodes-distinct : (l : List Record) → InOrder l → ((r : Record) → Memᴰ r l → valid r ≡ true) → Distinct (map encode l)
encodes-distinct [] o h = tt
encodes-distinct (r ∷ l) o h = (
  (λ c m e.
      let k = mathlib.Core.List.Memᴰ.of_map encode l m in
      let lt = o.0 k.0 k.1 in
      let same = ap (λ (z : Record). z.sequence) (encode_same r k.0 (h r (mathlib.Core.List.Memᴰ.head refl)) (h k.0 (mathlib.Core.List.Memᴰ.tail k.1)) (e ∙ sym k.2)) in
      omega arith),
  encodes-distinct l o.1 (λ q m. h q (mathlib.Core.List.Memᴰ.tail m)),
)

pub chosen-valid : (f : Acknowledged → Bool) (l : List Acknowledged) → AllValid l → (r : Record) → Memᴰ r (chosen f l) → valid r ≡ true
chosen-valid f l h r m = let c = chosen-in f l r m in subst (λ (z : Record). valid z ≡ true) c.3 (h c.0 c.1)

-- the records of a program's lost operations have none twice
pub fetched-distinct : (ops : List Acknowledged) (p : ℕ) → Rising (λ a. a.recorded.sequence) ops → AllValid ops → Distinct (map encode (chosen (lost_by p) ops))
fetched-distinct ops p rise h = encodes-distinct (chosen (lost_by p) ops) (chosen-rising (lost_by p) ops rise) (chosen-valid (lost_by p) ops h)

-- and each is read as the record of a lost operation of that program
pub decoded-own : (ops : List Acknowledged) (p : ℕ) → AllValid ops → (b : List ℕ) → Memᴰ b (map encode (chosen (lost_by p) ops))
    → (a : Acknowledged) × Among a ops × (is_lost a ≡ true) × (a.recorded.program ≡ p) × (valid a.recorded ≡ true) × (decode_record b ≡ Some a.recorded)
decoded-own ops p h b m =
    let k = mathlib.Core.List.Memᴰ.of_map encode (chosen (lost_by p) ops) m in
    let c = chosen-in (lost_by p) ops k.0 k.1 in
    let a = c.0 in
    let both = (and-eq-true_iff (is_lost a) (eqb a.recorded.program p)).0 c.2 in
    let good = h a c.1 in
    (a, c.1, both.0, eqb-true _ _ both.1, good, ap decode_record (sym (ap encode c.3 ∙ k.2)) ∙ decoded-record a.recorded good)

-- a number is among those of some records
abbrev numbered : ℕ → List Record → Bool
numbered q l = any (λ r. eqb r.sequence q) l

-- a member's number is among those of what is chosen exactly if it is chosen
numbered-by : (f : Acknowledged → Bool) (l : List Acknowledged) → Rising (λ a. a.recorded.sequence) l → (a : Acknowledged) → Among a l → numbered a.recorded.sequence (chosen f l) ≡ f a
numbered-by f l rise a m = go (f a) (numbered a.recorded.sequence (chosen f l)) refl refl
  where
    go : (s t : Bool) → f a ≡ s → numbered a.recorded.sequence (chosen f l) ≡ t → t ≡ s
    go true true e k = refl
    go false false e k = refl
    go true false e k =
        let there : Memᴰ a.recorded (chosen f l) = subst (λ (z : List Record). Memᴰ a.recorded z) (sym (chosen-picked f l)) (record-in (picked f l) a (there-picked recorded_of f l a m e)) in
        no_both (numbered a.recorded.sequence (chosen f l)) (in-any (λ r. eqb r.sequence a.recorded.sequence) (chosen f l) there (eq-eqb a.recorded.sequence a.recorded.sequence refl)) k
    go false true e k =
        let x = any-in (λ r. eqb r.sequence a.recorded.sequence) (chosen f l) k in
        let c = chosen-in f l x.0 x.1 in
        let is : c.0 ≡ a = rising-unique recorded_of l rise c.0 a c.1 m (ap (λ (r : Record). r.sequence) c.3 ∙ eqb-true _ _ x.2) in
        no_both (f a) (ap f (sym is) ∙ c.2) e

-- what is chosen by a test on records
chosen-records : (f : Acknowledged → Bool) (k : Record → Bool) (l : List Acknowledged) → ((a : Acknowledged) → Among a l → f a ≡ k a.recorded) → chosen f l ≡ picked k (map recorded_of l)
unfolding chosen picked
chosen-records f k [] h = refl
chosen-records f k (a ∷ l) h =
    (λ i. cond (h a (mathlib.Core.List.Memᴰ.head refl) i) (a.recorded ∷ chosen f l) (chosen f l)) ∙ ap (λ (x : List Record). cond (k a.recorded) (a.recorded ∷ x) x) (chosen-records f k l (λ b m. h b (mathlib.Core.List.Memᴰ.tail m)))

-- where none waits, the sent ones are those that are not lost, and the lost ones those that are not sent
sent-not-lost : (a : Acknowledged) → is_waiting a ≡ false → is_sent a ≡ not (is_lost a)
sent-not-lost a n = go (fate-is a)
  where
    go : FateIs a → is_sent a ≡ not (is_lost a)
    go (waits w s) = no_both (is_waiting a) w n
    go (went s w) = s ∙ sym (λ i. not (not (w i || s i)))
    go (gone u f s w) = s ∙ sym (λ i. not (not (w i || s i)))

lost-not-sent : (a : Acknowledged) → is_waiting a ≡ false → is_lost a ≡ not (is_sent a)
lost-not-sent a n = (λ i. not (n i || is_sent a))

module _ (l : List Acknowledged) (rise : Rising (λ a. a.recorded.sequence) l) (none : Settled l) where
  sent-by-lost : chosen is_sent l ≡ picked (λ r. not (numbered r.sequence (chosen is_lost l))) (map recorded_of l)
  sent-by-lost = chosen-records is_sent _ l (λ a m. sent-not-lost a (none a m) ∙ ap not (sym (numbered-by is_lost l rise a m)))

  -- a lost operation is among the lost ones of its own program
  sent-by-own : chosen is_sent l ≡ picked (λ r. not (numbered r.sequence (chosen (lost_by r.program) l))) (map recorded_of l)
  sent-by-own =
      chosen-records is_sent _ l
      (λ a m.
      let own : lost_by a.recorded.program a ≡ is_lost a = ap (λ (b : Bool). is_lost a && b) (eq-eqb a.recorded.program a.recorded.program refl) ∙ and-all (is_lost a) in
      sent-not-lost a (none a m) ∙ ap not (sym (numbered-by (lost_by a.recorded.program) l rise a m ∙ own)))

  lost-by-sent : chosen is_lost l ≡ picked (λ r. not (numbered r.sequence (chosen is_sent l))) (map recorded_of l)
  lost-by-sent = chosen-records is_lost _ l (λ a m. lost-not-sent a (none a m) ∙ ap not (sym (numbered-by is_sent l rise a m)))

  own-by-sent : (p : ℕ) → chosen (lost_by p) l ≡ picked (λ r. not (numbered r.sequence (chosen is_sent l)) && eqb r.program p) (map recorded_of l)
  own-by-sent p = chosen-records (lost_by p) _ l (λ a m. ap (λ (b : Bool). b && eqb a.recorded.program p) (lost-not-sent a (none a m) ∙ ap not (sym (numbered-by is_sent l rise a m))))

-- two lists of operations with the same records, of which none waits
module _ (l k : List Acknowledged) (riseₗ : Rising (λ a. a.recorded.sequence) l) (riseₖ : Rising (λ a. a.recorded.sequence) k) (noneₗ : Settled l) (noneₖ : Settled k)
    (same : map recorded_of l ≡ map recorded_of k) where
  -- what is lost tells what was sent
  pub same-lost-sent : chosen is_lost l ≡ chosen is_lost k → chosen is_sent l ≡ chosen is_sent k
  same-lost-sent e = sent-by-lost l riseₗ noneₗ ∙ (λ i. picked (λ z. not (numbered z.sequence (e i))) (same i)) ∙ sym (sent-by-lost k riseₖ noneₖ)

  -- and what was sent what is lost
  pub same-sent-lost : chosen is_sent l ≡ chosen is_sent k → chosen is_lost l ≡ chosen is_lost k
  same-sent-lost e = lost-by-sent l riseₗ noneₗ ∙ (λ i. picked (λ z. not (numbered z.sequence (e i))) (same i)) ∙ sym (lost-by-sent k riseₖ noneₖ)

  -- also program by program, as the bytes of the records
  pub same-records-sent : AllValid l → AllValid k → ((p : ℕ) → p < 32 → map encode (chosen (lost_by p) l) ≡ map encode (chosen (lost_by p) k)) → chosen is_sent l ≡ chosen is_sent k
  same-records-sent hl hk e =
      let own : (p : ℕ) → p < 32 → chosen (lost_by p) l ≡ chosen (lost_by p) k =
      λ p lt. encodes_same (chosen (lost_by p) l) (chosen (lost_by p) k) (chosen-valid (lost_by p) l hl) (chosen-valid (lost_by p) k hk) (e p lt) in
      let few : (r : Record) → Memᴰ r (map recorded_of l) → r.program < 32 =
      λ r m. let a = from-records l r m in valid-program r (subst (λ (z : Record). valid z ≡ true) (sym a.2) (hl a.0 a.1)) in
      sent-by-own l riseₗ noneₗ
      ∙ picked_same (λ r. not (numbered r.sequence (chosen (lost_by r.program) l))) (λ r. not (numbered r.sequence (chosen (lost_by r.program) k))) (map recorded_of l)
      (λ r m. ap (λ (z : List Record). not (numbered r.sequence z)) (own r.program (few r m)))
      ∙ ap (picked (λ r. not (numbered r.sequence (chosen (lost_by r.program) k)))) same ∙ sym (sent-by-own k riseₖ noneₖ)

  pub same-sent-records : chosen is_sent l ≡ chosen is_sent k → (p : ℕ) → map encode (chosen (lost_by p) l) ≡ map encode (chosen (lost_by p) k)
  same-sent-records e p =
      ap (map encode) (own-by-sent l riseₗ noneₗ p ∙ (λ i. picked (λ r. not (numbered r.sequence (e i)) && eqb r.program p) (same i)) ∙ sym (own-by-sent k riseₖ noneₖ p))

-- after a cut nothing waits
pub lost-settled : (t : ℕ) (l : List Acknowledged) → Settled (map (losing t) l)
lost-settled t l a m = let x = map-in recorded_of (losing t) l a m in ap is_waiting x.2 ∙ lose-waiting t x.0

-- nor after effects of which the last is a cut
pub discard-settled : (es : List Effect) (r : Register) → Settled (happen_all (es ++ (discard ∷ [])) r).operations
unfolding happen_all happen
discard-settled [] r = lost-settled r.happened r.operations
discard-settled (e ∷ es) r = discard-settled es (happen e r)
