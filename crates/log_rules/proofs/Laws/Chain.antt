-- Which waiting slots a call reaches: just those from which a chain of touching later waiting operations leads to its operands.
use Rattle.std.specs.Prelude.{ℕ, ◌<◌, ◌≤◌, ◌≡◌, refl, ◌↔◌, ◌⊎◌, Bool, true, false, ◌&&◌, ◌||◌, cond, eqb}
use Rattle.std.proofs.Common.{arith, sym, ap, ◌∙◌, subst, inl, inr, ⊎_elim, eqb-true, eq-eqb}
use mathlib.Core.List.Memᴰ
use mathlib.Core.List.{List, [], ◌∷◌, ◌++◌, Memᴰ}
use Rattle.std.proofs.Math.Bool.{or_assoc}
use Rattle.buffer.specs.Laws.Test.{or_cases, or_left, or_right}
use Rattle.record.specs.Operation.{Record, operands}
use Rattle.record.specs.Fields.{member}
use Rattle.log_rules.specs.Programs.{holds, with}
use Rattle.log_rules.proofs.Laws.Program.{holds-with}
use Rattle.log_rules.specs.Slot.{Slot, with_dependents, is_waiting, sequence_of}
use Rattle.log_rules.specs.Order.{shares, touches}
use Rattle.log_rules.proofs.Laws.Order.{Rising}
use Rattle.log_rules.specs.Depend.{reach, noted}
use Rattle.log_rules.specs.Change.{waiting_of}
use Rattle.log_rules.proofs.Laws.Change.{Ordered, waiting-in}

-- from an operation, through later ones of a list that each touch the next, to some operands
pub data Chain (ops : List ℕ) (w : List Record) : Record → Type 0 where
  last : {r : Record} → shares (operands r.operation) ops ≡ true → Chain ops w r
  next : {r q : Record} → Memᴰ q w → r.sequence < q.sequence → touches r.operation q.operation ≡ true → Chain ops w q → Chain ops w r

shuffle : (a b c d : Bool) → ((a || b) || (c || d)) ≡ ((a || c) || (b || d))
shuffle true b c d = refl
shuffle false true true d = refl
shuffle false true false d = refl
shuffle false false true d = refl
shuffle false false false d = refl

member-append : (o : ℕ) (a b : List ℕ) → member o (a ++ b) ≡ (member o a || member o b)
unfolding member
member-append o [] b = refl
member-append o (x ∷ a) b = ap (λ (t : Bool). eqb o x || t) (member-append o a b) ∙ sym (or_assoc (eqb o x) (member o a) (member o b))

pub shares-append : (k a b : List ℕ) → shares k (a ++ b) ≡ (shares k a || shares k b)
unfolding shares
shares-append [] a b = refl
shares-append (o ∷ k) a b = (λ i. member-append o a b i || shares-append k a b i) ∙ shuffle (member o a) (member o b) (shares k a) (shares k b)

-- a chain within a list is one within a longer list, and one from behind its first member does without it
chain_more : {ops : List ℕ} {w : List Record} (x : Record) {r : Record} → Chain ops w r → Chain ops (x ∷ w) r
chain_more x (last e) = last e
chain_more x (next m lt sh c) = next (Memᴰ.tail m) lt sh (chain_more x c)

chain-less : {ops : List ℕ} {w : List Record} (x : Record) {r : Record} → Chain ops (x ∷ w) r → x.sequence ≤ r.sequence → Chain ops w r
chain-less x (last e) le = last e
chain-less {ops} {w} x (next {r} {q} m lt sh c) le =
    ⊎_elim (λ (e : q ≡ x). let z = ap (λ (y : Record). y.sequence) e in absurd (omega arith))
    (λ (k : Memᴰ q w). next k lt sh (chain-less x c (omega arith))) (Memᴰ.cases_cons m)

-- some operands are among those of a call, or of an operation from which a chain leads there
abbrev pub Reached : List ℕ → List ℕ → List Record → Type 0
Reached k ops w =
    (shares k ops ≡ true) ⊎ ((q : Record) × Memᴰ q w × (shares k (operands q.operation) ≡ true) × Chain ops w q)

reached-more : (k ops : List ℕ) (w : List Record) (x : Record) → Reached k ops w → Reached k ops (x ∷ w)
reached-more k ops w x (inl e) = inl e
reached-more k ops w x (inr r) = inr (r.0, Memᴰ.tail r.1, r.2, chain_more x r.3)

chain-reached : (ops : List ℕ) (w : List Record) {r : Record} → Chain ops w r → Reached (operands r.operation) ops w
chain-reached ops w (last e) = inl e
chain-reached ops w (next {r} {q} m lt sh c) = inr (q, m, sh, c)

later-waiting : (s : Slot) (l : List Slot) → Rising sequence_of (s ∷ l) → (q : Record) → Memᴰ q (waiting_of l) → s.recorded.sequence < q.sequence
later-waiting s l rise q m =
    let u = waiting-in l m in
    subst (λ (y : Record). s.recorded.sequence < y.sequence) (sym u.3) (rise.0 u.0 u.1)

reached-chain : (ops : List ℕ) (s : Slot) (l : List Slot) → Rising sequence_of (s ∷ l) → Reached (operands s.recorded.operation) ops (waiting_of l) → Chain ops (waiting_of l) s.recorded
reached-chain ops s l rise (inl e) = last e
reached-chain ops s l rise (inr r) = next r.1 (later-waiting s l rise r.0 r.1) r.2 r.3

pub reach-inv : (k ops : List ℕ) (l : List Slot) → Rising sequence_of l → shares k (reach ops l) ≡ true → Reached k ops (waiting_of l)
unfolding reach waiting_of
reach-inv k ops [] rise e = inl e
reach-inv k ops (s ∷ l) rise e =
    go (is_waiting s) (shares (operands s.recorded.operation) (reach ops l)) refl (reach-inv (operands s.recorded.operation) ops l rise.1) (reach-inv k ops l rise.1) e
  where
    go : (w t : Bool) → shares (operands s.recorded.operation) (reach ops l) ≡ t
        → (shares (operands s.recorded.operation) (reach ops l) ≡ true → Reached (operands s.recorded.operation) ops (waiting_of l))
        → (shares k (reach ops l) ≡ true → Reached k ops (waiting_of l))
        → shares k (cond (w && t) (operands s.recorded.operation ++ reach ops l) (reach ops l)) ≡ true
        → Reached k ops (cond w (s.recorded ∷ waiting_of l) (waiting_of l))
    go true true t mine ih h =
        ⊎_elim
        (λ (x : shares k (operands s.recorded.operation) ≡ true). inr (s.recorded, Memᴰ.head refl, x, chain_more s.recorded (reached-chain ops s l rise (mine t))))
        (λ (x : shares k (reach ops l) ≡ true). reached-more k ops (waiting_of l) s.recorded (ih x))
        (or_cases (shares k (operands s.recorded.operation)) (shares k (reach ops l)) (sym (shares-append k (operands s.recorded.operation) (reach ops l)) ∙ h))
    go true false t mine ih h = reached-more k ops (waiting_of l) s.recorded (ih h)
    go false t e mine ih h = ih h

pub reach_of : (k ops : List ℕ) (l : List Slot) → Rising sequence_of l → Reached k ops (waiting_of l) → shares k (reach ops l) ≡ true
unfolding reach waiting_of
reach_of k ops [] rise (inl e) = e
reach_of k ops [] rise (inr r) = absurd (Memᴰ.not-nil r.1)
reach_of k ops (s ∷ l) rise x =
    go (is_waiting s) (shares (operands s.recorded.operation) (reach ops l)) refl (reach_of (operands s.recorded.operation) ops l rise.1) (reach_of k ops l rise.1) x
  where
    o : List ℕ
    o = operands s.recorded.operation

    both : (t : Bool) → shares k (reach ops l) ≡ true → shares k (cond t (o ++ reach ops l) (reach ops l)) ≡ true
    both true e = shares-append k o (reach ops l) ∙ or_right (shares k o) (shares k (reach ops l)) e
    both false e = e

    here : (t : Bool) → t ≡ true → shares k o ≡ true → shares k (cond t (o ++ reach ops l) (reach ops l)) ≡ true
    here true e h = shares-append k o (reach ops l) ∙ or_left (shares k o) (shares k (reach ops l)) h
    here false e h = let z : ◌≡◌ {A = ℕ} 0 1 = cc in absurd (omega arith)

    go : (w t : Bool) → shares o (reach ops l) ≡ t → (Reached o ops (waiting_of l) → shares o (reach ops l) ≡ true) → (Reached k ops (waiting_of l) → shares k (reach ops l) ≡ true)
        → Reached k ops (cond w (s.recorded ∷ waiting_of l) (waiting_of l)) → shares k (cond (w && t) (o ++ reach ops l) (reach ops l)) ≡ true
    go true t e mine ih (inl h) = both t (ih (inl h))
    go true t e mine ih (inr r) =
        ⊎_elim
        (λ (z : r.0 ≡ s.recorded).
        here t (sym e ∙ mine (chain-reached ops (waiting_of l) (chain-less s.recorded (subst (λ (y : Record). Chain ops (s.recorded ∷ waiting_of l) y) z r.3) (omega arith))))
        (subst (λ (y : Record). shares k (operands y.operation) ≡ true) z r.2))
        (λ (m : Memᴰ r.0 (waiting_of l)).
        let lt = later-waiting s l rise r.0 m in
        both t (ih (inr (r.0, m, r.2, chain-less s.recorded r.3 (omega arith)))))
        (Memᴰ.cases_cons r.1)
    go false t e mine ih h = ih h

-- a slot of the log after an accepted call, and the slot that it was: it has the program's bit if it had it or reaches the call
pub record NotedFrom (p : ℕ) (ops : List ℕ) (l : List Slot) (t : Slot) : Type 0 where
  pub was : Slot
  pub among : Memᴰ was l
  pub recorded : t.recorded ≡ was.recorded
  pub state : is_waiting t ≡ is_waiting was
  pub bits : is_waiting was ≡ true → (q : ℕ) → (holds t.dependents q ≡ true) ↔ ((holds was.dependents q ≡ true) ⊎ ((p ≡ q) × Chain ops (waiting_of l) was.recorded))

chain-tail : (ops : List ℕ) (s : Slot) (l : List Slot) → Rising sequence_of (s ∷ l) → (r : Record) → s.recorded.sequence ≤ r.sequence → Chain ops (waiting_of (s ∷ l)) r ↔ Chain ops (waiting_of l) r
unfolding waiting_of
chain-tail ops s l rise r le = go (is_waiting s)
  where
    go : (w : Bool) → Chain ops (cond w (s.recorded ∷ waiting_of l) (waiting_of l)) r ↔ Chain ops (waiting_of l) r
    go true = ((λ c. chain-less s.recorded c le), λ c. chain_more s.recorded c)
    go false = ((λ c. c), λ c. c)

pub noted-slot : (p : ℕ) (ops : List ℕ) (l : List Slot) → Rising sequence_of l → (t : Slot) → Memᴰ t (noted p ops l) → NotedFrom p ops l t
unfolding noted
noted-slot p ops [] rise t m = absurd (Memᴰ.not-nil m)
noted-slot p ops (s ∷ l) rise t m = ⊎_elim first (λ (k : Memᴰ t (noted p ops l)). later (noted-slot p ops l rise.1 t k)) (Memᴰ.cases_cons m)
  where
    o : List ℕ
    o = operands s.recorded.operation

    iff : Chain ops (waiting_of (s ∷ l)) s.recorded ↔ Chain ops (waiting_of l) s.recorded
    iff = chain-tail ops s l rise s.recorded (omega arith)

    made : (w c : Bool) → is_waiting s ≡ w → shares o (reach ops l) ≡ c → NotedFrom p ops (s ∷ l) (cond (w && c) (with_dependents (with s.dependents p) s) s)
    made true true w c =
        record {
          was = s;
          among = Memᴰ.head refl;
          recorded = refl;
          state = refl;
          bits = λ h q.
              let ch : Chain ops (waiting_of (s ∷ l)) s.recorded = iff.1 (reached-chain ops s l rise (reach-inv o ops l rise.1 c)) in
              let e = holds-with s.dependents p q in (
                λ b. ⊎_elim (λ (z : eqb p q ≡ true). inr (eqb-true p q z, ch)) (λ (z : holds s.dependents q ≡ true). inl z) (or_cases (eqb p q) (holds s.dependents q) (sym e ∙ b)),
                λ x. e ∙ ⊎_elim (λ (z : holds s.dependents q ≡ true). or_right (eqb p q) (holds s.dependents q) z)
                    (λ (z : (p ≡ q) × Chain ops (waiting_of (s ∷ l)) s.recorded). or_left (eqb p q) (holds s.dependents q) (eq-eqb p q z.0)) x,
              );
        }
    made true false w c =
        record {
          was = s;
          among = Memᴰ.head refl;
          recorded = refl;
          state = refl;
          bits = λ h q. (
            λ b. inl b,
            λ x. ⊎_elim (λ (z : holds s.dependents q ≡ true). z)
                (λ (z : (p ≡ q) × Chain ops (waiting_of (s ∷ l)) s.recorded).
                let y : true ≡ false = sym (reach_of o ops l rise.1 (chain-reached ops (waiting_of l) (iff.0 z.1))) ∙ c in
                let n : ◌≡◌ {A = ℕ} 0 1 = cc in absurd (omega arith)) x,
          );
        }
    made false c w e =
        record {
          was = s;
          among = Memᴰ.head refl;
          recorded = refl;
          state = refl;
          bits = λ h q. let y : true ≡ false = sym h ∙ w in let n : ◌≡◌ {A = ℕ} 0 1 = cc in absurd (omega arith);
        }

    first : t ≡ cond (is_waiting s && shares o (reach ops l)) (with_dependents (with s.dependents p) s) s → NotedFrom p ops (s ∷ l) t
    first e = subst (NotedFrom p ops (s ∷ l)) (sym e) (made (is_waiting s) (shares o (reach ops l)) refl refl)

    later : NotedFrom p ops l t → NotedFrom p ops (s ∷ l) t
    later n =
        let lt = rise.0 n.was n.among in
        let same = chain-tail ops s l rise n.was.recorded (omega arith) in
        record {
          was = n.was;
          among = Memᴰ.tail n.among;
          recorded = n.recorded;
          state = n.state;
          bits = λ h q. (
            λ b. ⊎_elim (λ (z : holds n.was.dependents q ≡ true). inl z) (λ (z : (p ≡ q) × Chain ops (waiting_of l) n.was.recorded). inr (z.0, same.1 z.1)) ((n.bits h q).0 b),
            λ x. (n.bits h q).1 (⊎_elim (λ (z : holds n.was.dependents q ≡ true). inl z) (λ (z : (p ≡ q) × Chain ops (waiting_of (s ∷ l)) n.was.recorded). inr (z.0, same.0 z.1)) x),
          );
        }

pub ordered-rising : (n : ℕ) (l : List Slot) → Ordered n l → Rising sequence_of l
ordered-rising n [] o = tt
ordered-rising n (s ∷ l) o = ((λ t m. (o.1 t m).0), ordered-rising n l o.2)
