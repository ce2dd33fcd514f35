-- The chains of the history of calls are those through the waiting operations alone, and what an effect leaves of them.
use Rattle.std.specs.Prelude.{ℕ, ◌<◌, ◌≤◌, ◌≡◌, ◌⊎◌, Bool, not, ◌&&◌, ltb}
use Rattle.std.proofs.Common.{arith, sym, ap, ◌∙◌, subst, inl, inr, ⊎_elim}
use Rattle.std.proofs.Math.Path.{refl}
use mathlib.Core.List.{List, map, Memᴰ}
use Rattle.std.proofs.Math.Bool.{true, false, and-eq-true_iff}
use borrow.Author.Tests.{ltb-true, lt-ltb, le-ltb, not-true}
use Rattle.record.specs.Operation.{Operation, Record, operands}
use Rattle.log_rules.specs.Order.{shares, touches, directly_precedes}
use Rattle.log_rules.proofs.Laws.Swap.{Apart, disjoint, stretches, apart}
use Rattle.log_rules.proofs.Laws.Partition.{picked}
use Rattle.log_rules.proofs.Laws.Chain.{Chain, last, next}
use Rattle.register.specs.Register.{Register, Fate, waiting, sent, lost, Acknowledged, Touch, Renewal, is_waiting, is_sent, fated, recorded_of}
use Rattle.register.specs.History.{gone_by, lost_before, directly, touches_later, touches_call, Reaches, here, chain, Depends, issuer, caller, Marked}
use Rattle.register.proofs.Laws.Fate.{Among, no_both, FateIs, waits, went, gone, fate-is, waits-not-sent, sent-live, live-there, waiting-there}
use Rattle.register.proofs.Laws.Invariant.{Timed}
use Rattle.register.proofs.Laws.Send.{there-picked}
use Rattle.register.proofs.Laws.Operation.{record-in, waits-of}

-- an operation that touches another but does not directly precede it is, with it, an overwrite of one file
pub same_operands : (a b : Operation) → touches a b ≡ true → directly_precedes a b ≡ false → operands a ≡ operands b
unfolding operands
same_operands a b t d = go (apart a b d)
  where
    go : Apart a b → operands a ≡ operands b
    go (disjoint e) = no_both (touches a b) t e
    go (stretches o f g c e is also over) = ap operands is ∙ sym (ap operands also)

-- what an operation's touching a later one, or a call, goes by
pub record Touching (a b : Acknowledged) : Type 0 where
  pub earlier : a.recorded.sequence < b.recorded.sequence
  pub there : lost_before a b ≡ false
  pub shared : touches a.recorded.operation b.recorded.operation ≡ true

pub later-inv : (a b : Acknowledged) → touches_later a b ≡ true → Touching a b
later-inv a b e =
    let x = (and-eq-true_iff (ltb a.recorded.sequence b.recorded.sequence) _).0 e in
    let y = (and-eq-true_iff (not (lost_before a b)) _).0 x.1 in
    record { earlier = ltb-true _ _ x.0; there = not-true _ y.0; shared = y.1 }

pub later_of : (a b : Acknowledged) → Touching a b → touches_later a b ≡ true
later_of a b t = λ i. lt-ltb _ _ t.earlier i && (not (t.there i) && t.shared i)

pub record Calling (a : Acknowledged) (t : Touch) : Type 0 where
  pub earlier : a.issued < t.time
  pub there : gone_by t.time a.fate ≡ false
  pub shared : shares (operands a.recorded.operation) t.touched ≡ true

pub call-inv : (a : Acknowledged) (t : Touch) → touches_call a t ≡ true → Calling a t
call-inv a t e =
    let x = (and-eq-true_iff (ltb a.issued t.time) _).0 e in
    let y = (and-eq-true_iff (not (gone_by t.time a.fate)) _).0 x.1 in
    record { earlier = ltb-true _ _ x.0; there = not-true _ y.0; shared = y.1 }

pub call-of : (a : Acknowledged) (t : Touch) → Calling a t → touches_call a t ≡ true
call-of a t c = λ i. lt-ltb _ _ c.earlier i && (not (c.there i) && c.shared i)

-- whoever reaches a call was not lost before it
pub reaches-there : {r : Register} {a : Acknowledged} {t : Touch} → Reaches r a t → gone_by t.time a.fate ≡ false
reaches-there {r} {a} {t} (here e) = (call-inv a t e).there
reaches-there (chain m e g x) = g

pub not-waiting : {C : Type 0} (a : Acknowledged) (u : ℕ) → is_waiting a ≡ true → a.fate ≡ lost u → C
not-waiting a u w f = no_both (is_waiting a) w (ap (λ (x : Fate). is_waiting (fated x a)) f)

module _ (r : Register) (timed : Timed r.operations r.happened) (t : Touch) (now : t.time ≡ r.happened) where
  abbrev waiting_records : List Record
  waiting_records = map recorded_of (picked is_waiting r.operations)

  -- nobody that was lost reaches a call that is made now
  pub lost-none : (a : Acknowledged) (u : ℕ) → Among a r.operations → a.fate ≡ lost u → gone_by t.time a.fate ≡ false → ⊥
  lost-none a u m f g =
      let p = timed.past a u m f in
      no_both (gone_by t.time a.fate) (ap (gone_by t.time) f ∙ lt-ltb u t.time (omega arith)) g

  -- a waiting one that touches a sent one has its operands
  swap : (a b : Acknowledged) → Among a r.operations → Among b r.operations → is_waiting a ≡ true → is_sent b ≡ true → a.recorded.sequence < b.recorded.sequence
      → touches a.recorded.operation b.recorded.operation ≡ true → operands a.recorded.operation ≡ operands b.recorded.operation
  unfolding directly
  swap a b ma mb wa sb lt sh = same_operands a.recorded.operation b.recorded.operation sh (no (directly_precedes a.recorded.operation b.recorded.operation) refl)
    where
      no : (d : Bool) → directly_precedes a.recorded.operation b.recorded.operation ≡ d → d ≡ false
      no true e = no_both (is_sent a) (timed.shut a b ma mb sb (λ i. lt-ltb _ _ lt i && (not (waiting-there a b.issued wa i) && e i))) (waits-not-sent a wa)
      no false e = refl

  waits_among : (b : Acknowledged) → Among b r.operations → is_waiting b ≡ true → Memᴰ b.recorded waiting_records
  waits_among b m w = record-in (picked is_waiting r.operations) b (there-picked recorded_of is_waiting r.operations b m w)

  -- from a waiting one that touches one from which the history has a chain
  step-chain : {b : Acknowledged} → Reaches r b t → Among b r.operations → (a : Acknowledged) → Among a r.operations → is_waiting a ≡ true → a.recorded.sequence < b.recorded.sequence
      → touches a.recorded.operation b.recorded.operation ≡ true → Chain t.touched waiting_records a.recorded
  step-chain {b} (here e) mb a ma wa lt sh = go (fate-is b)
    where
      go : FateIs b → Chain t.touched waiting_records a.recorded
      go (waits w s) = next (waits_among b mb w) lt sh (last (call-inv b t e).shared)
      go (went s w) = last (ap (λ (k : List ℕ). shares k t.touched) (swap a b ma mb wa s lt sh) ∙ (call-inv b t e).shared)
      go (gone u f s w) = absurd (lost-none b u mb f (call-inv b t e).there)
  step-chain {b} (chain {b = d} md e g x) mb a ma wa lt sh =
      let l = later-inv b d e in
      let far = l.earlier in
      go (fate-is b) (λ w. step-chain x md b mb w l.earlier l.shared) (λ same. step-chain x md a ma wa (omega arith) (ap (λ (k : List ℕ). shares k (operands d.recorded.operation)) same ∙ l.shared))
    where
      go : FateIs b → (is_waiting b ≡ true → Chain t.touched waiting_records b.recorded)
          → (operands a.recorded.operation ≡ operands b.recorded.operation → Chain t.touched waiting_records a.recorded) → Chain t.touched waiting_records a.recorded
      go (waits w s) on past = next (waits_among b mb w) lt sh (on w)
      go (went s w) on past = past (swap a b ma mb wa s lt sh)
      go (gone u f s w) on past = absurd (lost-none b u mb f g)

  -- a chain of the history from a waiting operation to a call that is made now leads through waiting ones
  pub reaches-chain : (a : Acknowledged) → Among a r.operations → is_waiting a ≡ true → Reaches r a t → Chain t.touched (map recorded_of (picked is_waiting r.operations)) a.recorded
  reaches-chain a ma wa (here e) = last (call-inv a t e).shared
  reaches-chain a ma wa (chain {b = b} mb e g x) = let l = later-inv a b e in step-chain x mb a ma wa l.earlier l.shared

  -- and a chain through waiting ones is one of the history
  pub chain-reaches : {q : Record} → Chain t.touched (map recorded_of (picked is_waiting r.operations)) q → (a : Acknowledged) → Among a r.operations → is_waiting a ≡ true → a.recorded ≡ q → Reaches r a t
  chain-reaches (last e) a ma wa is =
      let i = timed.issued a ma in
      here (call-of a t (record { earlier = omega arith; there = waiting-there a t.time wa; shared = ap (λ (z : Record). shares (operands z.operation) t.touched) is ∙ e }))
  chain-reaches (next {r = q} {q = z} m lt sh x) a ma wa is =
      let w = waits-of r.operations z m in
      let touching : Touching a w.who =
      record {
        earlier = subst (λ (y : Record). y.sequence < w.who.recorded.sequence) (sym is) (subst (λ (y : Record). q.sequence < y.sequence) (sym w.recorded) lt);
        there = waiting-there a w.who.issued wa;
        shared = (λ i. touches (is i).operation (w.recorded i).operation) ∙ sh;
      } in
      chain w.among (later_of a w.who touching) (waiting-there a t.time wa) (chain-reaches x w.who w.among w.waiting w.recorded)

-- an operation that is issued now, behind all others
pub record Newest (r : Register) (c : ℕ) (b : Acknowledged) : Type 0 where
  pub now : b.issued ≡ c
  pub waiting : is_waiting b ≡ true
  pub last : (d : Acknowledged) → Among d r.operations → d.recorded.sequence ≤ b.recorded.sequence

-- a register and a later one: the same operations under changed fates and newest ones besides, of which those are newly lost that
-- waited and are lost now; and the same history with calls and renewals made now
pub record Renamed (r s : Register) (h : Acknowledged → Acknowledged) : Type 0 where
  pub to : (a : Acknowledged) → Among a r.operations → Among (h a) s.operations
  pub from : (b : Acknowledged) → Among b s.operations → ((a : Acknowledged) × Among a r.operations × (b ≡ h a)) ⊎ Newest s r.happened b
  pub recorded : (a : Acknowledged) → (h a).recorded ≡ a.recorded
  pub issued : (a : Acknowledged) → (h a).issued ≡ a.issued
  pub still : (a : Acknowledged) (u : ℕ) → Among a r.operations → a.fate ≡ lost u → (h a).fate ≡ lost u
  pub newly : (a : Acknowledged) (u : ℕ) → (h a).fate ≡ lost u → (a.fate ≡ lost u) ⊎ ((is_waiting a ≡ true) × (u ≡ r.happened))
  pub touches : (t : Touch) → Memᴰ t r.touches → Memᴰ t s.touches
  pub calls : (t : Touch) → Memᴰ t s.touches → Memᴰ t r.touches ⊎ (t.time ≡ r.happened)
  pub renewals : (n : Renewal) → Memᴰ n r.renewals → Memᴰ n s.renewals

-- every call and every renewal of the history was before a time
pub record Recalled (r : Register) (c : ℕ) : Type 0 where
  pub touches : (t : Touch) → Memᴰ t r.touches → t.time < c
  pub renewals : (n : Renewal) → Memᴰ n r.renewals → n.time < c

-- a call of a program that is made now, and that an operation reaches
pub record Called (r s : Register) (p : ℕ) (a : Acknowledged) : Type 0 where
  pub call : Touch
  pub among : Memᴰ call s.touches
  pub now : call.time ≡ r.happened
  pub own : call.program ≡ p
  pub reaches : Reaches r a call

-- an operation that waited and is lost now, on which a program depends
pub record Discards (r s : Register) (h : Acknowledged → Acknowledged) (p : ℕ) : Type 0 where
  pub on : Acknowledged
  pub among : Among on r.operations
  pub waited : is_waiting on ≡ true
  pub gone : (h on).fate ≡ lost r.happened
  pub depends : Depends s p (h on)

module _ (r s : Register) (h : Acknowledged → Acknowledged) (timed : Timed r.operations r.happened) (known : Recalled r r.happened) (n : Renamed r s h) where
  gone-alike : (a : Acknowledged) → Among a r.operations → (time : ℕ) → time ≤ r.happened → gone_by time (h a).fate ≡ gone_by time a.fate
  gone-alike a ma time le = go (fate-is a)
    where
      live : gone_by time a.fate ≡ false → (f : Fate) → (h a).fate ≡ f → gone_by time f ≡ gone_by time a.fate
      live e waiting k = sym e
      live e sent k = sym e
      live e (lost u) k =
          ⊎_elim (λ (z : a.fate ≡ lost u). ap (gone_by time) (sym z)) (λ (z : (is_waiting a ≡ true) × (u ≡ r.happened)). let y = z.1 in le-ltb u time (omega arith) ∙ sym e) (n.newly a u k)

      go : FateIs a → gone_by time (h a).fate ≡ gone_by time a.fate
      go (waits w g) = live (waiting-there a time w) (h a).fate refl
      go (went g w) = live (live-there a time (sent-live a g)) (h a).fate refl
      go (gone u f g w) = ap (gone_by time) (n.still a u ma f ∙ sym f)

  later-alike : (a b : Acknowledged) → Among a r.operations → Among b r.operations → touches_later (h a) (h b) ≡ touches_later a b
  later-alike a b ma mb =
      let past = timed.issued b mb in
      let g : gone_by (h b).issued (h a).fate ≡ gone_by b.issued a.fate = ap (λ (k : ℕ). gone_by k (h a).fate) (n.issued b) ∙ gone-alike a ma b.issued (omega arith) in
      λ i. ltb (n.recorded a i).sequence (n.recorded b i).sequence && (not (g i) && touches (n.recorded a i).operation (n.recorded b i).operation)

  call-alike : (a : Acknowledged) (t : Touch) → Among a r.operations → t.time ≤ r.happened → touches_call (h a) t ≡ touches_call a t
  call-alike a t ma le = λ i. ltb (n.issued a i) t.time && (not (gone-alike a ma t.time le i) && shares (operands (n.recorded a i).operation) t.touched)

  reaches-to : {a : Acknowledged} {t : Touch} → Reaches r a t → Among a r.operations → t.time ≤ r.happened → Reaches s (h a) t
  reaches-to {a} {t} (here e) ma le = here (call-alike a t ma le ∙ e)
  reaches-to {a} {t} (chain {b = b} mb e g x) ma le = chain (n.to b mb) (later-alike a b ma mb ∙ e) (gone-alike a ma t.time le ∙ g) (reaches-to x mb le)

  -- the newest reaches no call
  pub newest-none : {b : Acknowledged} {t : Touch} → Newest s r.happened b → Reaches s b t → t.time ≤ r.happened → ⊥
  newest-none {b} {t} w (here e) le = let x = (call-inv b t e).earlier in let y = w.now in omega arith
  newest-none {b} {t} w (chain {b = d} md e g x) le = let y = (later-inv b d e).earlier in let z = w.last d md in omega arith

  reaches-from : {b : Acknowledged} {t : Touch} → Reaches s b t → (a : Acknowledged) → Among a r.operations → b ≡ h a → t.time ≤ r.happened → Reaches r a t
  reaches-from {b} {t} (here e) a ma is le = here (sym (call-alike a t ma le) ∙ ap (λ (y : Acknowledged). touches_call y t) (sym is) ∙ e)
  reaches-from {b} {t} (chain {b = d} md e g x) a ma is le =
      ⊎_elim
      (λ (f : (c : Acknowledged) × Among c r.operations × (d ≡ h c)).
      let back : touches_later (h a) (h f.0) ≡ touches_later b d = λ i. touches_later (sym is i) (sym f.2 i) in
      chain f.1 (sym (later-alike a f.0 ma f.1) ∙ back ∙ e)
      (sym (gone-alike a ma t.time le) ∙ ap (λ (y : Acknowledged). gone_by t.time y.fate) (sym is) ∙ g) (reaches-from x f.0 f.1 f.2 le))
      (λ (f : Newest s r.happened d). absurd (newest-none f x le)) (n.from d md)

  -- whoever depended still does
  pub depends-to : (p : ℕ) (a : Acknowledged) → Among a r.operations → Depends r p a → Depends s p (h a)
  depends-to p a ma (issuer e) = issuer (ap (λ (z : Record). z.program) (n.recorded a) ∙ e)
  depends-to p a ma (caller {t = t} mt e x) = let y = known.touches t mt in caller (n.touches t mt) e (reaches-to x ma (omega arith))

  pub depends-called : (p : ℕ) (a : Acknowledged) → Among a r.operations → Called r s p a → Depends s p (h a)
  depends-called p a ma c = let y = c.now in caller c.among c.own (reaches-to c.reaches ma (omega arith))

  -- and whoever depends did, or makes a call now
  pub depends-from : (p : ℕ) (a : Acknowledged) → Among a r.operations → Depends s p (h a) → Depends r p a ⊎ Called r s p a
  depends-from p a ma (issuer e) = inl (issuer (ap (λ (z : Record). z.program) (sym (n.recorded a)) ∙ e))
  depends-from p a ma (caller {t = t} mt e x) =
      ⊎_elim (λ (k : Memᴰ t r.touches). let y = known.touches t k in inl (caller k e (reaches-from x a ma refl (omega arith))))
      (λ (k : t.time ≡ r.happened). inr (record { call = t; among = mt; now = k; own = e; reaches = reaches-from x a ma refl (omega arith) })) (n.calls t mt)

  -- a mark stays, unless its program renews
  pub marked-to : (p : ℕ) → ((z : Renewal) → Memᴰ z s.renewals → z.program ≡ p → Memᴰ z r.renewals) → Marked r p → Marked s p
  marked-to p old m =
      record {
        on = h m.on;
        acknowledged = n.to m.on m.acknowledged;
        time = m.time;
        discarded = n.still m.on m.time m.acknowledged m.discarded;
        renewed = λ z mz e. m.renewed z (old z mz e) e;
        depended = depends-to p m.on m.acknowledged m.depended;
      }

  -- and a mark was there, or is for one that waited and is lost now
  pub marked_from : (p : ℕ) → Marked s p → Marked r p ⊎ Discards r s h p
  marked_from p m = ⊎_elim old (λ (w : Newest s r.happened m.on). not-waiting m.on m.time w.waiting m.discarded) (n.from m.on m.acknowledged)
    where
      old : ((a : Acknowledged) × Among a r.operations × (m.on ≡ h a)) → Marked r p ⊎ Discards r s h p
      old f =
          let a = f.0 in
          let fate : (h a).fate ≡ lost m.time = ap (λ (b : Acknowledged). b.fate) (sym f.2) ∙ m.discarded in
          let dep : Depends s p (h a) = subst (Depends s p) f.2 m.depended in
          ⊎_elim
          (λ (k : a.fate ≡ lost m.time).
          inl
          (record {
            on = a;
            acknowledged = f.1;
            time = m.time;
            discarded = k;
            renewed = λ z mz e. m.renewed z (n.renewals z mz) e;
            depended = ⊎_elim (λ (d : Depends r p a). d) (λ (c : Called r s p a). absurd (lost-none r timed c.call c.now a m.time f.1 k (reaches-there c.reaches))) (depends-from p a f.1 dep);
          }))
          (λ (k : (is_waiting a ≡ true) × (m.time ≡ r.happened)). inr (record { on = a; among = f.1; waited = k.0; gone = fate ∙ ap lost k.1; depends = dep })) (n.newly a m.time fate)
