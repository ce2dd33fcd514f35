-- What the register keeps by itself, over each effect: the times of issues and losses, and that the sent ones leave out no direct
-- predecessor.
use Rattle.std.specs.Prelude.{ℕ, ◌+◌, ◌<◌, ◌≤◌, ◌≡◌, refl, ◌⊎◌, List, [], ◌∷◌, ◌++◌, map, Bool, true, false, not, ◌&&◌, cond, ltb, eqb}
use Rattle.std.proofs.Common.{arith, sym, ap, ◌∙◌, subst, inl, inr, ⊎_elim, ltb-true, lt-ltb, le-ltb, eqb-true}
use mathlib.Core.List.Memᴰ
use Rattle.std.proofs.Math.Bool.{and-eq-true_iff}
use Rattle.std.proofs.lemmas.Bool.{not-true}
use Rattle.buffer.specs.Laws.Test.{or_cases, or_left}
use Rattle.log_rules.specs.Order.{directly_precedes}
use Rattle.log_rules.proofs.Laws.Order.{Rising}
use Rattle.register.specs.Register.{Fate, waiting, sent, lost, Acknowledged, is_waiting, is_sent, fated, recorded_of}
use Rattle.register.specs.Feed.{sending, losing}
use Rattle.register.specs.History.{gone_by, lost_before, directly}
use Rattle.register.proofs.Laws.Fate.{Among, no_both, FateIs, waits, went, gone, fate-is, send-record, send-issued, send-sent, send-waiting, send-fate, send-gone, lose-record, lose-issued, lose-waiting, lose-sent}
use Rattle.register.proofs.Laws.Invariant.{Timed}
use Rattle.register.proofs.Laws.Pick.{map-in}
use Rattle.register.proofs.Laws.Send.{rising-unique}
use Rattle.register.proofs.Laws.Kept.{Free}

-- what an operation's directly preceding another goes by
pub record Before (a c : Acknowledged) : Type 0 where
  pub earlier : a.recorded.sequence < c.recorded.sequence
  pub there : lost_before a c ≡ false
  pub ordered : directly_precedes a.recorded.operation c.recorded.operation ≡ true

pub directly-inv : (a c : Acknowledged) → directly a c ≡ true → Before a c
unfolding directly
directly-inv a c e =
    let x = (and-eq-true_iff (ltb a.recorded.sequence c.recorded.sequence) _).0 e in
    let y = (and-eq-true_iff (not (lost_before a c)) _).0 x.1 in
    record { earlier = ltb-true _ _ x.0; there = not-true _ y.0; ordered = y.1 }

pub directly-of : (a c : Acknowledged) → Before a c → directly a c ≡ true
unfolding directly
directly-of a c b = rw (lt-ltb _ _ b.earlier, b.there, b.ordered)

-- operations with the same records, of which the first is lost before the second alike
pub same-directly : (a c b d : Acknowledged) → recorded_of a ≡ recorded_of b → recorded_of c ≡ recorded_of d → lost_before a c ≡ lost_before b d → directly a c ≡ directly b d
unfolding directly
same-directly a c b d x y z = λ i. ltb (x i).sequence (y i).sequence && (not (z i) && directly_precedes (x i).operation (y i).operation)

module _ (l : List Acknowledged) (happened : ℕ) (t : Timed l happened) where
  -- an effect that sends, issues and discards nothing
  pub timed-on : Timed l (happened + 1)
  timed-on =
      record {
        issued = λ a m. let x = t.issued a m in omega arith;
        past = λ a u m f. let x = t.past a u m f in omega arith;
        later = t.later;
        shut = t.shut;
      }

  -- a change of fates that keeps who was lost before whom
  module _ (h : Acknowledged → Acknowledged) (same : (a : Acknowledged) → recorded_of (h a) ≡ recorded_of a) (when : (a : Acknowledged) → (h a).issued ≡ a.issued) (now : ℕ) (on : happened ≤ now) where
    timed-map : ((a c : Acknowledged) → Among a l → Among c l → gone_by c.issued (h a).fate ≡ gone_by c.issued a.fate)
        → ((a : Acknowledged) (u : ℕ) → Among a l → (h a).fate ≡ lost u → u < now)
        → ((a b : Acknowledged) (u : ℕ) → Among a l → Among b l → (h a).fate ≡ lost u → is_waiting (h b) ≡ true → u < b.issued)
        → ((a c : Acknowledged) → Among a l → Among c l → is_sent (h c) ≡ true → directly a c ≡ true → is_sent (h a) ≡ true)
        → Timed (map h l) now
    timed-map there past later shut =
        record {
          issued = λ b m. let x = map-in recorded_of h l b m in let y = t.issued x.0 x.1 in let z = ap (λ (k : Acknowledged). k.issued) x.2 ∙ when x.0 in omega arith;
          past = λ b u m f. let x = map-in recorded_of h l b m in past x.0 u x.1 (ap (λ (y : Acknowledged). y.fate) (sym x.2) ∙ f);
          later = λ b d u mb md f w.
              let x = map-in recorded_of h l b mb in
              let y = map-in recorded_of h l d md in
              let lt = later x.0 y.0 u x.1 y.1 (ap (λ (z : Acknowledged). z.fate) (sym x.2) ∙ f) (ap is_waiting (sym y.2) ∙ w) in
              subst (λ (k : ℕ). u < k) (sym (ap (λ (z : Acknowledged). z.issued) y.2 ∙ when y.0)) lt;
          shut = λ b d mb md s e.
              let x = map-in recorded_of h l b mb in
              let y = map-in recorded_of h l d md in
              let gone_same : lost_before (h x.0) (h y.0) ≡ lost_before x.0 y.0 = ap (λ (k : ℕ). gone_by k (h x.0).fate) (when y.0) ∙ there x.0 y.0 x.1 y.1 in
              let first : directly x.0 y.0 ≡ true = sym (same-directly (h x.0) (h y.0) x.0 y.0 (same x.0) (same y.0) gone_same) ∙ (λ i. directly (sym x.2 i) (sym y.2 i)) ∙ e in
              ap is_sent x.2 ∙ shut x.0 y.0 x.1 y.1 (ap is_sent (sym y.2) ∙ s) first;
        }

  -- whoever directly precedes a waiting operation that no waiting one directly precedes was sent
  before-free : (a : Acknowledged) → Free l a → (c : Acknowledged) → Among c l → directly c a ≡ true → is_sent c ≡ true
  before-free a f c m d = go (fate-is c)
    where
      x : Before c a
      x = directly-inv c a d

      go : FateIs c → is_sent c ≡ true
      go (waits w n) = no_both (directly_precedes c.recorded.operation a.recorded.operation) x.ordered (f.clear c m w x.earlier)
      go (went s n) = s
      go (gone u k n j) = no_both (lost_before c a) (ap (gone_by a.issued) k ∙ lt-ltb u a.issued (t.later c a u m f.among k f.waiting)) x.there

  -- the send of a waiting operation that no waiting one directly precedes
  pub timed-send : Rising (λ a. a.recorded.sequence) l → (a : Acknowledged) → Free l a → Timed (map (sending a.recorded.sequence) l) happened
  timed-send rise a f =
      let q = a.recorded.sequence in
      let is : (c : Acknowledged) → Among c l → eqb c.recorded.sequence q ≡ true → a ≡ c = λ c m e. rising-unique recorded_of l rise a c f.among m (sym (eqb-true _ _ e)) in
      timed-map (sending q) (send-record q) (send-issued q) happened (omega arith)
      (λ b c mb mc. send-gone q b (λ e. subst (λ (y : Acknowledged). is_waiting y ≡ true) (is b mb e) f.waiting) c.issued)
      (λ b u m k. t.past b u m (send-fate q b u k))
      (λ b d u mb md k w. t.later b d u mb md (send-fate q b u k) ((and-eq-true_iff (is_waiting d) (not (eqb d.recorded.sequence q))).0 (sym (send-waiting q d) ∙ w)).0)
      (λ b d mb md s e.
      send-sent q b
      ∙ or_left (is_sent b) (eqb b.recorded.sequence q)
      (⊎_elim (λ (z : is_sent d ≡ true). t.shut b d mb md z e)
      (λ (z : eqb d.recorded.sequence q ≡ true). before-free a f b mb (subst (λ (y : Acknowledged). directly b y ≡ true) (sym (is d md z)) e))
      (or_cases (is_sent d) (eqb d.recorded.sequence q) (sym (send-sent q d) ∙ s))))

  lose-fate : (a : Acknowledged) (u : ℕ) → (losing happened a).fate ≡ lost u → (a.fate ≡ lost u) ⊎ (u ≡ happened)
  lose-fate a u = go (is_waiting a)
    where
      go : (b : Bool) → (cond b (fated (lost happened) a) a).fate ≡ lost u → (a.fate ≡ lost u) ⊎ (u ≡ happened)
      go true f = inr (cc)
      go false f = inl f

  -- one that is lost now was lost before nobody issued so far
  lose-gone : (a c : Acknowledged) → Among c l → gone_by c.issued (losing happened a).fate ≡ gone_by c.issued a.fate
  lose-gone a c m = go a.fate
    where
      go : (f : Fate) → gone_by c.issued (losing happened (fated f a)).fate ≡ gone_by c.issued f
      go waiting = le-ltb happened c.issued (let x = t.issued c m in omega arith)
      go sent = refl
      go (lost u) = refl

  -- all waiting ones become lost
  pub timed-cut : Timed (map (losing happened) l) (happened + 1)
  timed-cut =
      timed-map (losing happened) (lose-record happened) (lose-issued happened) (happened + 1) (omega arith) (λ a c ma mc. lose-gone a c mc)
      (λ a u m f. ⊎_elim (λ (z : a.fate ≡ lost u). let y = t.past a u m z in omega arith) (λ (z : u ≡ happened). omega arith) (lose-fate a u f))
      (λ a b u ma mb f w. no_both (is_waiting (losing happened b)) w (lose-waiting happened b))
      (λ a c ma mc s e. lose-sent happened a ∙ t.shut a c ma mc (sym (lose-sent happened c) ∙ s) e)

  -- one more operation, waiting, with a number above all others
  pub timed-issue : (a : Acknowledged) → a.issued ≡ happened → a.fate ≡ waiting → ((b : Acknowledged) → Among b l → b.recorded.sequence < a.recorded.sequence) → Timed (l ++ (a ∷ [])) (happened + 1)
  timed-issue a ia fa above =
      record {
        issued = λ b m. ⊎_elim (λ (z : Among b l). let x = t.issued b z in omega arith) (λ (z : b ≡ a). let x = ap (λ (k : Acknowledged). k.issued) z in omega arith) (old-or-new b m);
        past = λ b u m f. ⊎_elim (λ (z : Among b l). let x = t.past b u z f in omega arith) (λ (z : b ≡ a). not-lost b u z f) (old-or-new b m);
        later = λ b d u mb md f w.
            ⊎_elim
            (λ (z : Among b l).
            ⊎_elim (λ (y : Among d l). t.later b d u z y f w) (λ (y : d ≡ a). let x = ap (λ (k : Acknowledged). k.issued) y in let v = t.past b u z f in omega arith) (old-or-new d md))
            (λ (z : b ≡ a). not-lost b u z f) (old-or-new b mb);
        shut = λ b d mb md s e.
            ⊎_elim
            (λ (y : Among d l).
            ⊎_elim (λ (z : Among b l). t.shut b d z y s e)
            (λ (z : b ≡ a). let x = (directly-inv b d e).earlier in let v = above d y in let k = ap (λ (k : Acknowledged). k.recorded.sequence) z in absurd (omega arith)) (old-or-new b mb))
            (λ (y : d ≡ a). no_both (is_sent d) s (ap is_sent y ∙ ap (λ (f : Fate). is_sent (fated f a)) fa)) (old-or-new d md);
      }
    where
      old-or-new : (b : Acknowledged) → Among b (l ++ (a ∷ [])) → (Among b l) ⊎ (b ≡ a)
      old-or-new b m = ⊎_elim (λ (z : Among b l). inl z) (λ z. inr (Memᴰ.eq_of_singleton z)) (Memᴰ.append_cases l m)

      not-lost : {C : Type 0} (b : Acknowledged) (u : ℕ) → b ≡ a → b.fate ≡ lost u → C
      not-lost b u e f =
          let x : waiting ≡ lost u = sym fa ∙ ap (λ (k : Acknowledged). k.fate) (sym e) ∙ f in
          let z : ◌≡◌ {A = ℕ} 0 1 = cc in absurd (omega arith)
