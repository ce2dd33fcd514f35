-- Each change of the log keeps it well formed, and what each leaves waiting.
use Rattle.std.specs.Prelude.{ℕ, suc, ◌+◌, ◌≤◌, ◌<◌, ◌≡◌, refl, Bool, true, false, not, ◌&&◌, ◌||◌, cond, length, ltb, eqb}
use Rattle.std.proofs.Common.{arith, sym, ap, ◌∙◌, subst, ⊎_elim, length-append, ltb-true, lt-ltb, eqb-true, eq-eqb, ne_eqb}
use mathlib.Core.List.Memᴰ
use mathlib.Core.List.{List, [], ◌∷◌, ◌++◌, map, Memᴰ}
use Rattle.std.proofs.lemmas.Bool.{false≢true, not-true}
use Rattle.std.proofs.Math.Bool.{and-eq-true_iff, and-false}
use Rattle.std.specs.Prelude.{None, Some}
use Rattle.std.proofs.lemmas.List.{length-map}
use Rattle.buffer.specs.Laws.Test.{or_left}
use Rattle.record.specs.Operation.{Operation, Record, operands}
use Rattle.record.specs.Fields.{valid, fits}
use Rattle.log_rules.specs.Programs.{without, union, holds, with}
use Rattle.log_rules.specs.Slot.{State, waiting, lost, state_number, Slot, with_state, with_dependents, Log, with_slots, is_waiting, sequence_of, good_slots, follows, rising, well_formed_log}
use Rattle.log_rules.specs.Order.{shares, any}
use Rattle.log_rules.specs.Depend.{reach, noted}
use Rattle.log_rules.specs.Change.{waiting_of, note, waiting_slot, issue, removed, is_sequence, sent, discarded, dependents_of, discard, is_loss_of, earliest, taken, renewed, waiting_at}
use Rattle.log_rules.proofs.Laws.Program.{with-below, without-below, union-below, holds-without, holds-union, holds-none}
use Rattle.log_rules.proofs.Laws.Slot.{next-good, marks-good, and_both, GoodSlot, slots-inv, slots-of, formed-inv, formed-of}
use Rattle.log_rules.proofs.Laws.Order.{InOrder}

then-inv : (a b : Bool) → (not a || b) ≡ true → a ≡ true → b ≡ true
then-inv true b h e = h
then-inv false b h e = absurd (false≢true e)

then-of : (a b : Bool) → (a ≡ true → b ≡ true) → (not a || b) ≡ true
then-of true b h = h refl
then-of false b h = refl

-- what the order of a log's slots says of each slot and all behind it
abbrev pub Ordered : ℕ → List Slot → Type 0
Ordered next [] = Unit {0}
Ordered next (s ∷ l) =
    (sequence_of s < next) × ((t : Slot) → Memᴰ t l → (sequence_of s < sequence_of t) × (is_waiting s ≡ true → is_waiting t ≡ true))
    × Ordered next l

-- neighbours in order make all in order
pub rising-inv : (next : ℕ) (l : List Slot) → rising next l ≡ true → Ordered next l
unfolding rising
rising-inv next [] h = tt
rising-inv next (s ∷ []) h = (ltb-true (sequence_of s) next h, λ t m. absurd (Memᴰ.not-nil m), tt)
rising-inv next (s ∷ t ∷ l) h =
    let g = (and-eq-true_iff (follows s t) (rising next (t ∷ l))).0 h in
    let f = (and-eq-true_iff (ltb (sequence_of s) (sequence_of t)) (not (is_waiting s) || is_waiting t)).0 g.0 in
    let r = rising-inv next (t ∷ l) g.1 in
    let a : sequence_of s < sequence_of t = ltb-true (sequence_of s) (sequence_of t) f.0 in
    let w : is_waiting s ≡ true → is_waiting t ≡ true = then-inv (is_waiting s) (is_waiting t) f.1 in
    let b : sequence_of t < next = r.0 in (
      omega arith,
      λ u m. ⊎_elim (λ (e : u ≡ t). subst (λ (v : Slot). (sequence_of s < sequence_of v) × (is_waiting s ≡ true → is_waiting v ≡ true)) (sym e) (a, w))
          (λ (k : Memᴰ u l). let c : sequence_of t < sequence_of u = (r.1 u k).0 in (omega arith, λ x. (r.1 u k).1 (w x)))
          (Memᴰ.cases_cons m),
      r,
    )

-- what is in order behind each slot is in order between neighbours
pub rising-of : (next : ℕ) (l : List Slot) → Ordered next l → rising next l ≡ true
unfolding rising
rising-of next [] o = refl
rising-of next (s ∷ []) o = lt-ltb (sequence_of s) next o.0
rising-of next (s ∷ t ∷ l) o =
    let f = o.1 t (Memᴰ.head refl) in
    and_both (follows s t) (rising next (t ∷ l))
    (and_both (ltb (sequence_of s) (sequence_of t)) (not (is_waiting s) || is_waiting t) (lt-ltb (sequence_of s) (sequence_of t) f.0) (then-of (is_waiting s) (is_waiting t) f.1))
    (rising-of next (t ∷ l) o.2)

-- no slot waits after a cut, and each keeps its loss
pub discarded-lost : (s : Slot) → ((discarded s).state ≡ lost) × ((discarded s).recorded ≡ s.recorded)
discarded-lost s = on (is_waiting s) refl
  where
    is_lost : (t : State) → eqb (state_number t) 1 ≡ false → t ≡ lost
    is_lost waiting e = absurd (false≢true (sym e))
    is_lost lost e = refl

    on : (b : Bool) → is_waiting s ≡ b → ((cond b (with_state lost (with_dependents 0 s)) s).state ≡ lost) × ((cond b (with_state lost (with_dependents 0 s)) s).recorded ≡ s.recorded)
    on true e = (refl, refl)
    on false e = (is_lost s.state e, refl)

-- "Cut turns all waiting ones into lost ones": none waits
pub discard-waiting : (l : Log) → waiting_of (discard l).slots ≡ []
unfolding discard waiting_of
discard-waiting l = all l.slots
  where
    all : (k : List Slot) → waiting_of (map discarded k) ≡ []
    all [] = refl
    all (s ∷ k) = (λ i. cond (eqb (state_number ((discarded-lost s).0 i)) 1) ((discarded s).recorded ∷ waiting_of (map discarded k)) (waiting_of (map discarded k))) ∙ all k

-- what a call leaves of one slot
abbrev noting : ℕ → Bool → Slot → Slot
noting p t s = cond t (with_dependents (with s.dependents p) s) s

noting-state : (p : ℕ) (t : Bool) (s : Slot) → (noting p t s).state ≡ s.state
noting-state p true s = refl
noting-state p false s = refl

noting-record : (p : ℕ) (t : Bool) (s : Slot) → (noting p t s).recorded ≡ s.recorded
noting-record p true s = refl
noting-record p false s = refl

noting-good : (n b p : ℕ) (c : Bool) (s : Slot) → p < 32 → GoodSlot n b s → GoodSlot n b (noting p (is_waiting s && c) s)
noting-good n b p c s h g = go (is_waiting s && c) refl
  where
    go : (t : Bool) → (is_waiting s && c) ≡ t → GoodSlot n b (noting p t s)
    go true e =
        record {
          sound = g.sound;
          fit = g.fit;
          small = with-below s.dependents p g.small h;
          none-if-lost = or_left (is_waiting s) (eqb (with s.dependents p) 0) ((and-eq-true_iff (is_waiting s) c).0 e).0;
        }
    go false e = g

pub noted-good : (n b p : ℕ) (ops : List ℕ) (l : List Slot) → p < 32 → good_slots n b l ≡ true → good_slots n b (noted p ops l) ≡ true
unfolding noted
noted-good n b p ops [] h g = g
noted-good n b p ops (s ∷ l) h g =
    let k = slots-inv n b s l g in
    let c = shares (operands s.recorded.operation) (reach ops l) in
    slots-of n b (noting p (is_waiting s && c) s) (noted p ops l) (noting-good n b p c s h k.0) (noted-good n b p ops l h k.1)

-- noting a call keeps the number of slots
pub noted-length : (p : ℕ) (ops : List ℕ) (l : List Slot) → length (noted p ops l) ≡ length l
unfolding noted
noted-length p ops [] = refl
noted-length p ops (s ∷ l) = ap suc (noted-length p ops l)

-- noting a call keeps the sequence numbers
pub noted-sequences : (p : ℕ) (ops : List ℕ) (l : List Slot) → map sequence_of (noted p ops l) ≡ map sequence_of l
unfolding noted
noted-sequences p ops [] = refl
noted-sequences p ops (s ∷ l) =
    let t = is_waiting s && shares (operands s.recorded.operation) (reach ops l) in
    λ i. (noting-record p t s i).sequence ∷ noted-sequences p ops l i

-- noting a call keeps what waits
pub noted-waiting : (p : ℕ) (ops : List ℕ) (l : List Slot) → waiting_of (noted p ops l) ≡ waiting_of l
unfolding noted waiting_of
noted-waiting p ops [] = refl
noted-waiting p ops (s ∷ l) =
    let t = is_waiting s && shares (operands s.recorded.operation) (reach ops l) in
    rw (noting-state p t s, noting-record p t s, noted-waiting p ops l)

noted-rising : (next p : ℕ) (ops : List ℕ) (l : List Slot) → rising next (noted p ops l) ≡ rising next l
unfolding noted rising
noted-rising next p ops [] = refl
noted-rising next p ops (s ∷ []) =
    let t = is_waiting s && shares (operands s.recorded.operation) (reach ops []) in
    λ i. ltb (noting-record p t s i).sequence next
noted-rising next p ops (s ∷ u ∷ l) =
    let t = is_waiting s && shares (operands s.recorded.operation) (reach ops (u ∷ l)) in
    let v = is_waiting u && shares (operands u.recorded.operation) (reach ops l) in
    λ i. (ltb (noting-record p t s i).sequence (noting-record p v u i).sequence
    && (not (eqb (state_number (noting-state p t s i)) 1) || eqb (state_number (noting-state p v u i)) 1)) && noted-rising next p ops (u ∷ l) i

-- a call that is noted keeps the log well formed
pub note-good : (n b m p : ℕ) (ops : List ℕ) (l : Log) → p < 32 → well_formed_log n b m l ≡ true → well_formed_log n b m (note p ops l) ≡ true
note-good n b m p ops l h w =
    let f = formed-inv n b m l w in
    let e = noted-length p ops l.slots in
    let c = f.count in
    formed-of n b m (note p ops l)
    (record {
      head = f.head;
      count = omega arith;
      good = noted-good n b p ops l.slots h f.good;
      order = noted-rising l.head.next p ops l.slots ∙ f.order;
    })

-- what waits in slots behind others waits behind what waits in those
pub waiting-append : (u v : List Slot) → waiting_of (u ++ v) ≡ waiting_of u ++ waiting_of v
unfolding waiting_of
waiting-append [] v = refl
waiting-append (s ∷ u) v = rw (waiting-append u v) (go (is_waiting s))
  where
    go : (t : Bool) → cond t (s.recorded ∷ (waiting_of u ++ waiting_of v)) (waiting_of u ++ waiting_of v) ≡ cond t (s.recorded ∷ waiting_of u) (waiting_of u) ++ waiting_of v
    go true = refl
    go false = refl

-- the operation that a call issues waits last
pub issue-waiting : (p : ℕ) (o : Operation) (l : Log) → waiting_of (issue p o l).slots ≡ waiting_of l.slots ++ (record { sequence = l.head.next; program = p; operation = o } ∷ [])
unfolding issue waiting_of
issue-waiting p o l = waiting-append l.slots (waiting_slot (record { sequence = l.head.next; program = p; operation = o }) ∷ [])

good-append : (n b : ℕ) (l : List Slot) (s : Slot) → good_slots n b l ≡ true → GoodSlot n b s → good_slots n b (l ++ (s ∷ [])) ≡ true
unfolding good_slots
good-append n b [] s h g = slots-of n b s [] g refl
good-append n b (t ∷ l) s h g = let k = slots-inv n b t l h in slots-of n b t (l ++ (s ∷ [])) k.0 (good-append n b l s k.1 g)

rising-append : (next : ℕ) (l : List Slot) (s : Slot) → rising next l ≡ true → sequence_of s ≡ next → is_waiting s ≡ true → rising (next + 1) (l ++ (s ∷ [])) ≡ true
unfolding rising
rising-append next [] s h e w = lt-ltb (sequence_of s) (next + 1) (omega arith)
rising-append next (t ∷ []) s h e w =
    let k : sequence_of t < next = ltb-true (sequence_of t) next h in
    and_both (follows t s) (ltb (sequence_of s) (next + 1))
    (and_both (ltb (sequence_of t) (sequence_of s)) (not (is_waiting t) || is_waiting s) (lt-ltb (sequence_of t) (sequence_of s) (omega arith))
    (then-of (is_waiting t) (is_waiting s) (λ _. w)))
    (lt-ltb (sequence_of s) (next + 1) (omega arith))
rising-append next (t ∷ u ∷ l) s h e w =
    let g = (and-eq-true_iff (follows t u) (rising next (u ∷ l))).0 h in
    and_both (follows t u) (rising (next + 1) (u ∷ (l ++ (s ∷ [])))) g.0 (rising-append next (u ∷ l) s g.1 e w)

-- "takes one sequence number and waits": with a free slot and a number left, the log stays well formed
pub issue-good : (n b m p : ℕ) (o : Operation) (l : Log) → p < 32 → well_formed_log n b m l ≡ true → length l.slots < m → l.head.next < 4294967295
    → valid (record { sequence = l.head.next; program = p; operation = o }) ≡ true → fits n b (record { sequence = l.head.next; program = p; operation = o }) ≡ true
    → well_formed_log n b m (issue p o l) ≡ true
unfolding issue
issue-good n b m p o l h w c x v t =
    let f = formed-inv n b m l w in
    let s = waiting_slot (record { sequence = l.head.next; program = p; operation = o }) in
    let a = length-append l.slots (s ∷ []) in
    formed-of n b m (issue p o l)
    (record {
      head = next-good (l.head.next + 1) l (omega arith) (omega arith) f.head;
      count = omega arith;
      good = good-append n b l.slots s f.good (record { sound = v; fit = t; small = with-below 0 p (omega arith) h; none-if-lost = refl });
      order = rising-append l.head.next l.slots s f.order refl refl;
    })

-- where the earliest slot that passes a test stands, what it holds, and what its removal leaves
pub record Found (f : Slot → Bool) (l : List Slot) (r : Record) : Type 0 where
  pub before : List Slot
  pub slot : Slot
  pub after : List Slot
  pub stands : l ≡ before ++ (slot ∷ after)
  pub first : any f before ≡ false
  pub passes : f slot ≡ true
  pub tells : slot.recorded ≡ r
  pub leaves : removed f l ≡ before ++ after

-- what is told of the earliest slot is found, and just that slot is removed
pub earliest-found : (f : Slot → Bool) (l : List Slot) (r : Record) → earliest f l ≡ Some r → Found f l r
unfolding earliest removed any
earliest-found f [] r e = let z : ◌≡◌ {A = ℕ} 0 1 = cc in absurd (omega arith)
earliest-found f (s ∷ l) r e = go (f s) refl e (earliest-found f l r)
  where
    go : (t : Bool) → f s ≡ t → cond t (Some s.recorded) (earliest f l) ≡ Some r → (earliest f l ≡ Some r → Found f l r) → Found f (s ∷ l) r
    go true h k down =
        record {
          before = [];
          slot = s;
          after = l;
          stands = refl;
          first = refl;
          passes = h;
          tells = cc;
          leaves = rw h;
        }
    go false h k down =
        let w = down k in
        record {
          before = s ∷ w.before;
          slot = w.slot;
          after = w.after;
          stands = λ i. s ∷ w.stands i;
          first = rw h w.first;
          passes = w.passes;
          tells = w.tells;
          leaves = rw h (λ i. s ∷ w.leaves i);
        }

-- where no earliest slot is told of, none passes and none is removed
pub earliest-none : (f : Slot → Bool) (l : List Slot) → earliest f l ≡ None → (any f l ≡ false) × (removed f l ≡ l)
unfolding earliest removed any
earliest-none f [] e = (refl, refl)
earliest-none f (s ∷ l) e = go (f s) refl e (earliest-none f l)
  where
    go : (t : Bool) → f s ≡ t → cond t (Some s.recorded) (earliest f l) ≡ None → (earliest f l ≡ None → (any f l ≡ false) × (removed f l ≡ l))
        → ((t || any f l) ≡ false) × (cond t l (s ∷ removed f l) ≡ s ∷ l)
    go true h k down = let z : ◌≡◌ {A = ℕ} 0 1 = cc in absurd (omega arith)
    go false h k down = let w = down k in (w.0, λ i. s ∷ w.1 i)

-- what stays after a removal was there
pub removed-in : (f : Slot → Bool) (l : List Slot) {t : Slot} → Memᴰ t (removed f l) → Memᴰ t l
unfolding removed
removed-in f [] m = m
removed-in f (s ∷ l) {t} m = go (f s) m (removed-in f l)
  where
    go : (c : Bool) → Memᴰ t (cond c l (s ∷ removed f l)) → (Memᴰ t (removed f l) → Memᴰ t l) → Memᴰ t (s ∷ l)
    go true k down = Memᴰ.tail k
    go false k down = ⊎_elim (λ (e : t ≡ s). Memᴰ.head e) (λ (j : Memᴰ t (removed f l)). Memᴰ.tail (down j)) (Memᴰ.cases_cons k)

-- a removal leaves no more slots
pub removed-length : (f : Slot → Bool) (l : List Slot) → length (removed f l) ≤ length l
unfolding removed
removed-length f [] = omega arith
removed-length f (s ∷ l) = go (f s) (removed-length f l)
  where
    go : (c : Bool) → length (removed f l) ≤ length l → length (cond c l (s ∷ removed f l)) ≤ suc (length l)
    go true k = omega arith
    go false k = omega arith

removed-good : (n b : ℕ) (f : Slot → Bool) (l : List Slot) → good_slots n b l ≡ true → good_slots n b (removed f l) ≡ true
unfolding removed
removed-good n b f [] h = h
removed-good n b f (s ∷ l) h = let k = slots-inv n b s l h in go (f s) k.0 k.1 (removed-good n b f l k.1)
  where
    go : (c : Bool) → GoodSlot n b s → good_slots n b l ≡ true → good_slots n b (removed f l) ≡ true → good_slots n b (cond c l (s ∷ removed f l)) ≡ true
    go true g i j = i
    go false g i j = slots-of n b s (removed f l) g j

removed-ordered : (next : ℕ) (f : Slot → Bool) (l : List Slot) → Ordered next l → Ordered next (removed f l)
unfolding removed
removed-ordered next f [] o = tt
removed-ordered next f (s ∷ l) o = go (f s) (removed-ordered next f l o.2)
  where
    go : (c : Bool) → Ordered next (removed f l) → Ordered next (cond c l (s ∷ removed f l))
    go true r = o.2
    go false r = (o.0, λ t m. o.1 t (removed-in f l m), r)

-- "frees its slot": freeing a slot keeps the log well formed
pub removed-formed : (n b m : ℕ) (f : Slot → Bool) (l : Log) → well_formed_log n b m l ≡ true → well_formed_log n b m (with_slots (removed f l.slots) l) ≡ true
removed-formed n b m f l w =
    let g = formed-inv n b m l w in
    let e = removed-length f l.slots in
    let c = g.count in
    formed-of n b m (with_slots (removed f l.slots) l)
    (record {
      head = g.head;
      count = omega arith;
      good = removed-good n b f l.slots g.good;
      order = rising-of l.head.next (removed f l.slots) (removed-ordered l.head.next f l.slots (rising-inv l.head.next l.slots g.order));
    })

-- a push keeps the log well formed
pub sent-good : (n b m k : ℕ) (l : Log) → well_formed_log n b m l ≡ true → well_formed_log n b m (sent k l) ≡ true
sent-good n b m k l w = removed-formed n b m (is_sequence k) l w

-- a take keeps the log well formed
pub taken-good : (n b m p : ℕ) (l : Log) → well_formed_log n b m l ≡ true → well_formed_log n b m (taken p l) ≡ true
taken-good n b m p l w = removed-formed n b m (is_loss_of p) l w

-- "Renew clears its mark", and no other
pub renewed-marks : (p q : ℕ) (l : Log) → holds (renewed p l).head.marks q ≡ (not (eqb p q) && holds l.head.marks q)
renewed-marks p q l = holds-without l.head.marks p q

-- a renew keeps the log well formed
pub renewed-good : (n b m p : ℕ) (l : Log) → well_formed_log n b m l ≡ true → well_formed_log n b m (renewed p l) ≡ true
renewed-good n b m p l w =
    let g = formed-inv n b m l w in
    formed-of n b m (renewed p l)
    (record {
      head = marks-good (without l.head.marks p) l (without-below l.head.marks p g.head.marks-small) g.head;
      count = g.count;
      good = g.good;
      order = g.order;
    })

discarded-good : (n b : ℕ) (s : Slot) → GoodSlot n b s → GoodSlot n b (discarded s)
discarded-good n b s g = go (is_waiting s)
  where
    go : (t : Bool) → GoodSlot n b (cond t (with_state lost (with_dependents 0 s)) s)
    go true = record { sound = g.sound; fit = g.fit; small = omega arith; none-if-lost = refl }
    go false = g

-- good slots are good when they are discarded
pub all-discarded-good : (n b : ℕ) (l : List Slot) → good_slots n b l ≡ true → good_slots n b (map discarded l) ≡ true
all-discarded-good n b [] h = h
all-discarded-good n b (s ∷ l) h = let k = slots-inv n b s l h in slots-of n b (discarded s) (map discarded l) (discarded-good n b s k.0) (all-discarded-good n b l k.1)

discarded-rising : (next : ℕ) (l : List Slot) → rising next l ≡ true → rising next (map discarded l) ≡ true
unfolding rising
discarded-rising next [] h = refl
discarded-rising next (s ∷ []) h = (λ i. ltb ((discarded-lost s).1 i).sequence next) ∙ h
discarded-rising next (s ∷ t ∷ l) h =
    let g = (and-eq-true_iff (follows s t) (rising next (t ∷ l))).0 h in
    let f = (and-eq-true_iff (ltb (sequence_of s) (sequence_of t)) (not (is_waiting s) || is_waiting t)).0 g.0 in
    and_both (follows (discarded s) (discarded t)) (rising next (map discarded (t ∷ l)))
    (and_both (ltb (sequence_of (discarded s)) (sequence_of (discarded t))) (not (is_waiting (discarded s)) || is_waiting (discarded t))
    ((λ i. ltb ((discarded-lost s).1 i).sequence ((discarded-lost t).1 i).sequence) ∙ f.0)
    (λ i. not (eqb (state_number ((discarded-lost s).0 i)) 1) || is_waiting (discarded t)))
    (discarded-rising next (t ∷ l) g.1)

-- a cut keeps the log well formed
pub discard-good : (n b m : ℕ) (l : Log) → well_formed_log n b m l ≡ true → well_formed_log n b m (discard l) ≡ true
unfolding discard
discard-good n b m l w =
    let g = formed-inv n b m l w in
    let e = length-map l.slots discarded in
    let c = g.count in
    formed-of n b m (discard l)
    (record {
      head = marks-good (union l.head.marks (dependents_of l.slots)) l (union-below l.head.marks _) g.head;
      count = omega arith;
      good = all-discarded-good n b l.slots g.good;
      order = discarded-rising l.head.next l.slots g.order;
    })

-- a cut keeps all losses, those that waited with those that were lost
pub discard-losses : (l : List Slot) → map (λ (s : Slot). s.recorded) (map discarded l) ≡ map (λ (s : Slot). s.recorded) l
discard-losses [] = refl
discard-losses (s ∷ l) = λ i. (discarded-lost s).1 i ∷ discard-losses l i

-- whether a program depends on a waiting operation
abbrev pub depends_on : ℕ → Slot → Bool
depends_on p s = is_waiting s && holds s.dependents p

-- the dependents of a log are the programs that depend on some waiting operation
pub holds-dependents : (l : List Slot) (p : ℕ) → p < 32 → holds (dependents_of l) p ≡ any (depends_on p) l
unfolding dependents_of any
holds-dependents [] p h = holds-none p
holds-dependents (s ∷ l) p h =
    holds-union (cond (is_waiting s) s.dependents 0) (dependents_of l) p h ∙ (λ i. one (is_waiting s) s.dependents i || holds-dependents l p h i)
  where
    one : (t : Bool) (d : ℕ) → holds (cond t d 0) p ≡ (t && holds d p)
    one true d = refl
    one false d = holds-none p

-- "marks the dependents": a cut marks exactly those programs besides
pub discard-marks : (l : Log) (p : ℕ) → p < 32 → holds (discard l).head.marks p ≡ (holds l.head.marks p || any (depends_on p) l.slots)
unfolding discard
discard-marks l p h = holds-union l.head.marks (dependents_of l.slots) p h ∙ (λ i. holds l.head.marks p || holds-dependents l.slots p h i)

-- what waits stands in a waiting slot
pub waiting-in : (l : List Slot) {r : Record} → Memᴰ r (waiting_of l) → (s : Slot) × Memᴰ s l × (is_waiting s ≡ true) × (r ≡ s.recorded)
unfolding waiting_of
waiting-in [] m = absurd (Memᴰ.not-nil m)
waiting-in (s ∷ l) {r} m = go (is_waiting s) refl m (waiting-in l)
  where
    later : ((u : Slot) × Memᴰ u l × (is_waiting u ≡ true) × (r ≡ u.recorded)) → (u : Slot) × Memᴰ u (s ∷ l) × (is_waiting u ≡ true) × (r ≡ u.recorded)
    later w = (w.0, Memᴰ.tail w.1, w.2, w.3)

    go : (t : Bool) → is_waiting s ≡ t → Memᴰ r (cond t (s.recorded ∷ waiting_of l) (waiting_of l))
        → (Memᴰ r (waiting_of l) → (u : Slot) × Memᴰ u l × (is_waiting u ≡ true) × (r ≡ u.recorded))
        → (u : Slot) × Memᴰ u (s ∷ l) × (is_waiting u ≡ true) × (r ≡ u.recorded)
    go true e k down =
        ⊎_elim (λ (x : r ≡ s.recorded). (s, Memᴰ.head refl, e, x)) (λ (j : Memᴰ r (waiting_of l)). later (down j)) (Memᴰ.cases_cons k)
    go false e k down = later (down k)

-- what a waiting slot holds waits
pub in-waiting : (l : List Slot) {s : Slot} → Memᴰ s l → is_waiting s ≡ true → Memᴰ s.recorded (waiting_of l)
unfolding waiting_of
in-waiting [] m h = elim m [ ]
in-waiting (u ∷ l) {s} (Memᴰ.head e) h =
    let k : is_waiting u ≡ true = ap is_waiting (sym e) ∙ h in
    rw k (Memᴰ.head (ap (λ (v : Slot). v.recorded) e))
in-waiting (u ∷ l) {s} (Memᴰ.tail m) h = go (is_waiting u) (in-waiting l m h)
  where
    go : (t : Bool) → Memᴰ s.recorded (waiting_of l) → Memᴰ s.recorded (cond t (u.recorded ∷ waiting_of l) (waiting_of l))
    go true k = Memᴰ.tail k
    go false k = k

-- what waits has rising sequence numbers
pub ordered-waiting : (next : ℕ) (l : List Slot) → Ordered next l → InOrder (waiting_of l)
unfolding waiting_of
ordered-waiting next [] o = tt
ordered-waiting next (s ∷ l) o = go (is_waiting s) (ordered-waiting next l o.2)
  where
    go : (t : Bool) → InOrder (waiting_of l) → InOrder (cond t (s.recorded ∷ waiting_of l) (waiting_of l))
    go true r = (λ b m. let w = waiting-in l m in let e : b.sequence ≡ sequence_of w.0 = ap (λ (x : Record). x.sequence) w.3 in let k = (o.1 w.0 w.1).0 in omega arith, r)
    go false r = r

-- the waiting operations of a well-formed log are in order
pub waiting-in-order : (n b m : ℕ) (l : Log) → well_formed_log n b m l ≡ true → InOrder (waiting_of l.slots)
waiting-in-order n b m l w = ordered-waiting l.head.next l.slots (rising-inv l.head.next l.slots (formed-inv n b m l w).order)

ordered-below : (next : ℕ) (l : List Slot) → Ordered next l → {s : Slot} → Memᴰ s l → sequence_of s < next
ordered-below next [] o m = elim m [ ]
ordered-below next (t ∷ l) o (Memᴰ.head e) = let k = o.0 in let z = ap sequence_of e in omega arith
ordered-below next (t ∷ l) o (Memᴰ.tail m) = ordered-below next l o.2 m

good-in : (n b : ℕ) (l : List Slot) → good_slots n b l ≡ true → {s : Slot} → Memᴰ s l → GoodSlot n b s
good-in n b [] h m = elim m [ ]
good-in n b (t ∷ l) h (Memᴰ.head e) = subst (GoodSlot n b) (sym e) (slots-inv n b t l h).0
good-in n b (t ∷ l) h (Memᴰ.tail m) = good-in n b l (slots-inv n b t l h).1 m

-- each waiting operation of a well-formed log is valid and fits
pub waiting-good : (n b m : ℕ) (l : Log) → well_formed_log n b m l ≡ true → {r : Record} → Memᴰ r (waiting_of l.slots) → (valid r ≡ true) × (fits n b r ≡ true)
waiting-good n b m l w k =
    let u = waiting-in l.slots k in
    let g = good-in n b l.slots (formed-inv n b m l w).good u.1 in
    (ap valid u.3 ∙ g.sound, ap (fits n b) u.3 ∙ g.fit)

first-waits : (s : Slot) (l : List Slot) → is_waiting s ≡ true → waiting_of (s ∷ l) ≡ s.recorded ∷ waiting_of l
unfolding waiting_of
first-waits s l h = rw h

first-lost : (s : Slot) (l : List Slot) → is_waiting s ≡ false → waiting_of (s ∷ l) ≡ waiting_of l
unfolding waiting_of
first-lost s l h = rw h

-- "Push sends the waiting operation of a given sequence number and frees its slot": just that one no longer waits
pub sent-waiting : (k : ℕ) (l : Log) (r : Record) → waiting_at k l ≡ Some r
    → (u : List Record) × (v : List Record) × (waiting_of l.slots ≡ u ++ (r ∷ v)) × (waiting_of (sent k l).slots ≡ u ++ v) × (r.sequence ≡ k)
unfolding waiting_at
sent-waiting k l r e =
    let w = earliest-found (is_sequence k) l.slots r e in
    let p = (and-eq-true_iff (is_waiting w.slot) (eqb (sequence_of w.slot) k)).0 w.passes in
    let c : waiting_of (w.slot ∷ w.after) ≡ r ∷ waiting_of w.after = first-waits w.slot w.after p.0 ∙ ap (λ (x : Record). x ∷ waiting_of w.after) w.tells in (
      waiting_of w.before,
      waiting_of w.after,
      ap waiting_of w.stands ∙ waiting-append w.before (w.slot ∷ w.after) ∙ ap (λ (x : List Record). waiting_of w.before ++ x) c,
      ap waiting_of w.leaves ∙ waiting-append w.before w.after,
      sym (ap (λ (x : Record). x.sequence) w.tells) ∙ eqb-true (sequence_of w.slot) k p.1,
    )

losses-waiting : (p : ℕ) (l : List Slot) → waiting_of (removed (is_loss_of p) l) ≡ waiting_of l
unfolding removed waiting_of
losses-waiting p [] = refl
losses-waiting p (s ∷ l) = go (is_loss_of p s) refl (losses-waiting p l)
  where
    go : (t : Bool) → is_loss_of p s ≡ t → waiting_of (removed (is_loss_of p) l) ≡ waiting_of l → waiting_of (cond t l (s ∷ removed (is_loss_of p) l)) ≡ waiting_of (s ∷ l)
    go true h k = sym (first-lost s l (not-true (is_waiting s) ((and-eq-true_iff (not (is_waiting s)) (eqb s.recorded.program p)).0 h).0))
    go false h k = λ i. cond (is_waiting s) (s.recorded ∷ k i) (k i)

-- a take leaves what waits
pub taken-waiting : (p : ℕ) (l : Log) → waiting_of (taken p l).slots ≡ waiting_of l.slots
taken-waiting p l = losses-waiting p l.slots

-- the waiting operation of a sequence number waits and has that number
pub at-waiting : (k : ℕ) (l : Log) (r : Record) → waiting_at k l ≡ Some r → Memᴰ r (waiting_of l.slots) × (r.sequence ≡ k)
at-waiting k l r e =
    let w = sent-waiting k l r e in
    (subst (Memᴰ r) (sym w.2) (Memᴰ.append_right w.0 (Memᴰ.head refl)), w.4)

earliest-at : (next : ℕ) (l : List Slot) → Ordered next l → {s : Slot} → Memᴰ s l → is_waiting s ≡ true → earliest (is_sequence (sequence_of s)) l ≡ Some s.recorded
unfolding earliest
earliest-at next [] o m h = elim m [ ]
earliest-at next (t ∷ l) o {s} (Memᴰ.head e) h =
    let a : is_sequence (sequence_of s) t ≡ true = ap (is_sequence (sequence_of s)) (sym e) ∙ and_both (is_waiting s) (eqb (sequence_of s) (sequence_of s)) h (eq-eqb (sequence_of s) (sequence_of s) refl) in
    rw a (ap (λ (v : Slot). Some v.recorded) (sym e))
earliest-at next (t ∷ l) o {s} (Memᴰ.tail m) h =
    let k : sequence_of t < sequence_of s = (o.1 s m).0 in
    let a : is_sequence (sequence_of s) t ≡ false = rw (ne_eqb (sequence_of t) (sequence_of s) (λ e. omega arith)) (and-false (is_waiting t)) in
    rw a (earliest-at next l o.2 m h)

-- each waiting operation of a well-formed log is found by its sequence number
pub waiting-at : (n b m : ℕ) (l : Log) → well_formed_log n b m l ≡ true → {r : Record} → Memᴰ r (waiting_of l.slots) → waiting_at r.sequence l ≡ Some r
unfolding waiting_at
waiting-at n b m l w {r} k =
    let u = waiting-in l.slots k in
    let e = earliest-at l.head.next l.slots (rising-inv l.head.next l.slots (formed-inv n b m l w).order) u.1 u.2 in
    subst (λ (x : Record). earliest (is_sequence x.sequence) l.slots ≡ Some x) (sym u.3) e
