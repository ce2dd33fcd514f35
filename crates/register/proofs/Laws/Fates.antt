-- What the steps by which a register is fed make of its operations and its history.
use Rattle.std.specs.Prelude.{ℕ, ◌+◌, ◌≤◌, ◌≡◌, refl, Bool, true, false, ◌||◌, cond, length, eqb}
use Rattle.std.proofs.Common.{arith, sym, ap, ◌∙◌, subst, ⊎_elim, length-append, eqb-true, eq-eqb, ne_eqb}
use mathlib.Core.List.Memᴰ
use mathlib.Core.List.{List, [], ◌∷◌, map, Memᴰ, append-nil, append_assoc}
use Rattle.record.specs.Operation.{Operation, Record, operands}
use Rattle.log_rules.specs.Order.{any}
use Rattle.log_rules.proofs.Laws.Order.{Rising, any-in, in-any}
use Rattle.register.specs.Register.{Register, Acknowledged, Touch, Renewal, sent, lost, is_waiting, recorded_of, fated}
use Rattle.register.specs.History.{Is}
use Rattle.register.specs.Feed.{enter, acknowledged, add, add_all, sending, send_one, send_all, losing, lose_all, renewing}
use Rattle.register.specs.Fates.{Fates, Nobody, numbered, Adds, Enters}
use Rattle.register.proofs.Laws.Fate.{send_by, send-record, lose-by, lose-record}
use Rattle.register.proofs.Laws.Send.{rising-unique}
use Rattle.register.proofs.Laws.Operation.{in_map, map-record}
use Rattle.register.proofs.Laws.Could.{sending_all, has_number, all-record, map-map, no-map}

-- nothing is entered
pub enters_none : (r s : Register) → s.touches ≡ r.touches → s.renewals ≡ r.renewals → Enters r s [] []
enters_none r s t n =
    record {
      touches = [];
      called = t ∙ sym (append-nil r.touches);
      these = refl;
      now = λ u m. absurd (Memᴰ.not-nil m);
      renewals = [];
      renewed = n ∙ sym (append-nil r.renewals);
      those = refl;
      since = λ u m. absurd (Memᴰ.not-nil m);
    }

-- one call with its operands
pub enters-call : (p : ℕ) (ops : List ℕ) (r s : Register) → s.touches ≡ (enter p ops r).touches → s.renewals ≡ r.renewals → Enters r s ((p, ops) ∷ []) []
enters-call p ops r s t n =
    record {
      touches = record { program = p; touched = ops; time = r.happened } ∷ [];
      called = t;
      these = refl;
      now = λ u m. let e = ap (λ (v : Touch). v.time) (Memᴰ.eq_of_singleton m) in omega arith;
      renewals = [];
      renewed = n ∙ sym (append-nil r.renewals);
      those = refl;
      since = λ u m. absurd (Memᴰ.not-nil m);
    }

-- a renewal
pub enters-renewal : (p : ℕ) (r : Register) → Enters r (renewing p r) [] (p ∷ [])
enters-renewal p r =
    record {
      touches = [];
      called = sym (append-nil r.touches);
      these = refl;
      now = λ u m. absurd (Memᴰ.not-nil m);
      renewals = record { program = p; time = r.happened } ∷ [];
      renewed = refl;
      those = refl;
      since = λ u m. let e = ap (λ (v : Renewal). v.time) (Memᴰ.eq_of_singleton m) in omega arith;
    }

-- the operations of a change, each with its operands
pub adds-all : (p : ℕ) (os : List Operation) (r : Register) → Adds r (add_all p os r) p os
unfolding add_all
adds-all p [] r = record { added = []; behind = sym (append-nil r.operations); records = refl; wait = λ a m. absurd (Memᴰ.not-nil m) }
adds-all p (o ∷ os) r =
    let s = add p o (enter p (operands o) r) in
    let a = acknowledged p o (enter p (operands o) r) in
    let rest = adds-all p os s in
    let n : length s.operations + 1 ≡ length r.operations + 1 + 1 = let k = length-append r.operations (a ∷ []) in omega arith in
    record {
      added = a ∷ rest.added;
      behind = rest.behind ∙ append_assoc r.operations (a ∷ []) rest.added;
      records = ap (λ (l : List Record). a.recorded ∷ l) (rest.records ∙ ap (λ (k : ℕ). numbered k p os) n);
      wait = λ b m.
          ⊎_elim (λ (e : b ≡ a). let z = ap (λ (c : Acknowledged). c.issued) e in (ap (λ (c : Acknowledged). c.fate) e, omega arith))
          (λ (k : Memᴰ b rest.added). let y = rest.wait b k in let z = y.1 in (y.0, omega arith)) (Memᴰ.cases_cons m);
    }

pub enters-all : (p : ℕ) (os : List Operation) (r : Register) → Enters r (add_all p os r) (map (λ (o : Operation). (p, operands o)) os) []
unfolding add_all
enters-all p [] r = enters_none r r refl refl
enters-all p (o ∷ os) r =
    let s = add p o (enter p (operands o) r) in
    let t : Touch = record { program = p; touched = operands o; time = r.happened } in
    let rest = enters-all p os s in
    record {
      touches = t ∷ rest.touches;
      called = rest.called ∙ append_assoc r.touches (t ∷ []) rest.touches;
      these = ap (λ (l : List (ℕ × List ℕ)). (p, operands o) ∷ l) rest.these;
      now = λ u m.
          ⊎_elim (λ (e : u ≡ t). let z = ap (λ (v : Touch). v.time) e in omega arith) (λ (k : Memᴰ u rest.touches). let z = rest.now u k in omega arith) (Memᴰ.cases_cons m);
      renewals = rest.renewals;
      renewed = rest.renewed;
      those = rest.those;
      since = λ u m. let z = rest.since u m in omega arith;
    }

-- what stays over sends
pub sent-history : (l : List Record) (r : Register) → ((send_all l r).touches ≡ r.touches) × ((send_all l r).renewals ≡ r.renewals) × ((send_all l r).happened ≡ r.happened)
unfolding send_all
sent-history [] r = (refl, refl, refl)
sent-history (q ∷ l) r = sent-history l (send_one q.sequence r)

pub sent-operations : (l : List Record) (r : Register) → (send_all l r).operations ≡ map (sending_all l) r.operations
unfolding send_all sending_all
sent-operations [] r = sym (no-map r.operations)
sent-operations (q ∷ l) r = sent-operations l (send_one q.sequence r) ∙ map-map (sending_all l) (sending q.sequence) r.operations

-- an operation after the sends of a list: sent, if its number is there
pub sent-if : (l : List Record) (a : Acknowledged) → sending_all l a ≡ cond (has_number a.recorded.sequence l) (fated sent a) a
unfolding sending_all any
sent-if [] a = refl
sent-if (q ∷ l) a = go (eqb a.recorded.sequence q.sequence) (sent-if l)
  where
    both : (t : Bool) → cond t (fated sent a) (fated sent a) ≡ fated sent a
    both true = refl
    both false = refl

    go : (t : Bool) → ((b : Acknowledged) → sending_all l b ≡ cond (has_number b.recorded.sequence l) (fated sent b) b)
        → sending_all l (cond t (fated sent a) a) ≡ cond (t || has_number a.recorded.sequence l) (fated sent a) a
    go true rest = rest (fated sent a) ∙ both (has_number a.recorded.sequence l)
    go false rest = rest a

-- and after a cut besides
abbrev pub broken_at : List Record → ℕ → Acknowledged → Acknowledged
broken_at l t a = losing t (sending_all l a)

pub broken-if : (l : List Record) (t : ℕ) (a : Acknowledged) → broken_at l t a ≡ cond (has_number a.recorded.sequence l) (fated sent a) (losing t a)
broken-if l t a = ap (losing t) (sent-if l a) ∙ go (has_number a.recorded.sequence l)
  where
    go : (b : Bool) → losing t (cond b (fated sent a) a) ≡ cond b (fated sent a) (losing t a)
    go true = refl
    go false = refl

-- the push of a number
pub push-fates : (q : ℕ) (r : Register) → Fates r (send_one q r) (λ b. b.recorded.sequence ≡ q) Nobody
push-fates q r =
    record {
      records = map-record (sending q) (send-record q) r.operations;
      sends = λ a m e. subst (λ (b : Acknowledged). Is b (send_one q r)) (send_by q a true (eq-eqb _ _ e)) (in_map (sending q) r.operations a m);
      loses = λ a m e. absurd e;
      keeps = λ a m n k. subst (λ (b : Acknowledged). Is b (send_one q r)) (send_by q a false (ne_eqb _ _ n)) (in_map (sending q) r.operations a m);
    }

-- a cut
pub cut-fates : (r : Register) → Fates r (lose_all r) Nobody (λ b. is_waiting b ≡ true)
cut-fates r =
    let t = r.happened in
    record {
      records = map-record (losing t) (lose-record t) r.operations;
      sends = λ a m e. absurd e;
      loses = λ a m e. (t, omega arith, subst (λ (b : Acknowledged). Is b (lose_all r)) (lose-by t a true e) (in_map (losing t) r.operations a m));
      keeps = λ a m n k. subst (λ (b : Acknowledged). Is b (lose_all r)) (lose-by t a false (no a (is_waiting a) refl k)) (in_map (losing t) r.operations a m);
    }
  where
    no : (a : Acknowledged) (b : Bool) → is_waiting a ≡ b → (is_waiting a ≡ true → ⊥) → is_waiting a ≡ false
    no a true e k = absurd (k e)
    no a false e k = e

-- sends of records of the register's operations
module _ (r : Register) (rise : Rising (λ a. a.recorded.sequence) r.operations) (l : List Record)
    (own : (q : Record) → Memᴰ q l → (a : Acknowledged) × Is a r × (a.recorded ≡ q)) where
  -- one that is not among them has no number of theirs
  pub number_in : (a : Acknowledged) → Is a r → has_number a.recorded.sequence l ≡ true → Memᴰ a.recorded l
  number_in a m e =
      let z = any-in (λ (q : Record). eqb a.recorded.sequence q.sequence) l e in
      let b = own z.0 z.1 in
      let same : b.0 ≡ a = rising-unique recorded_of r.operations rise b.0 a b.1 m (ap (λ (q : Record). q.sequence) b.2 ∙ sym (eqb-true _ _ z.2)) in
      subst (λ (q : Record). Memᴰ q l) (sym b.2 ∙ ap recorded_of same) z.1

  pub sent-these : (a : Acknowledged) → Memᴰ a.recorded l → sending_all l a ≡ fated sent a
  sent-these a m = sent-if l a ∙ ap (λ (t : Bool). cond t (fated sent a) a) (in-any (λ (q : Record). eqb a.recorded.sequence q.sequence) l m (eq-eqb a.recorded.sequence a.recorded.sequence refl))

  pub sent-others : (a : Acknowledged) → Is a r → (Memᴰ a.recorded l → ⊥) → sending_all l a ≡ a
  sent-others a m n = sent-if l a ∙ ap (λ (t : Bool). cond t (fated sent a) a) (go (has_number a.recorded.sequence l) refl)
    where
      go : (t : Bool) → has_number a.recorded.sequence l ≡ t → has_number a.recorded.sequence l ≡ false
      go true e = absurd (n (number_in a m e))
      go false e = e

  pub sent-fates : (s : Register) → s.operations ≡ map (sending_all l) r.operations → Fates r s (λ a. Memᴰ a.recorded l) Nobody
  sent-fates s e =
      let there : (a b : Acknowledged) → Is a r → sending_all l a ≡ b → Is b s =
      λ a b m k. subst (λ (j : List Acknowledged). Memᴰ b j) (sym e) (subst (λ (c : Acknowledged). Memᴰ c (map (sending_all l) r.operations)) k (in_map (sending_all l) r.operations a m)) in
      record {
        records = ap (map recorded_of) e ∙ map-record (sending_all l) (all-record l) r.operations;
        sends = λ a m k. there a (fated sent a) m (sent-these a k);
        loses = λ a m k. absurd k;
        keeps = λ a m n k. there a a m (sent-others a m n);
      }

  -- and then a cut
  pub broken-waiting : (t : ℕ) (a : Acknowledged) → Is a r → (Memᴰ a.recorded l → ⊥) → is_waiting a ≡ true → broken_at l t a ≡ fated (lost t) a
  broken-waiting t a m n w = ap (losing t) (sent-others a m n) ∙ lose-by t a true w

  pub broken-sent : (t : ℕ) (a : Acknowledged) → Memᴰ a.recorded l → broken_at l t a ≡ fated sent a
  broken-sent t a k = ap (losing t) (sent-these a k)

  pub broken-kept : (t : ℕ) (a : Acknowledged) → Is a r → (Memᴰ a.recorded l → ⊥) → is_waiting a ≡ false → broken_at l t a ≡ a
  broken-kept t a m n w = ap (losing t) (sent-others a m n) ∙ lose-by t a false w

  pub broken-fates : (t : ℕ) (s : Register) → r.happened ≤ t → s.operations ≡ map (broken_at l t) r.operations
      → Fates r s (λ a. Memᴰ a.recorded l) (λ a. (is_waiting a ≡ true) × (Memᴰ a.recorded l → ⊥))
  broken-fates t s le e =
      let there : (a b : Acknowledged) → Is a r → broken_at l t a ≡ b → Is b s =
      λ a b m k. subst (λ (j : List Acknowledged). Memᴰ b j) (sym e) (subst (λ (c : Acknowledged). Memᴰ c (map (broken_at l t) r.operations)) k (in_map (broken_at l t) r.operations a m)) in
      record {
        records = ap (map recorded_of) e ∙ map-record (broken_at l t) (λ a. lose-record t (sending_all l a) ∙ all-record l a) r.operations;
        sends = λ a m k. there a (fated sent a) m (broken-sent t a k);
        loses = λ a m k. (t, le, there a (fated (lost t) a) m (broken-waiting t a m k.1 k.0));
        keeps = λ a m n k. there a a m (broken-kept t a m n (no a (is_waiting a) refl n k));
      }
    where
      no : (a : Acknowledged) (b : Bool) → is_waiting a ≡ b → (Memᴰ a.recorded l → ⊥) → ((is_waiting a ≡ true) × (Memᴰ a.recorded l → ⊥) → ⊥) → is_waiting a ≡ false
      no a true e n k = absurd (k (e, n))
      no a false e n k = e
