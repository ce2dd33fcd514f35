-- The fates of operations: by cases, and after a send and after a cut.
use Rattle.std.specs.Prelude.{ℕ, ◌≡◌, refl, Bool, true, false, not, ◌&&◌, ◌||◌, cond, eqb}
use Rattle.std.proofs.Common.{arith, sym, ap, ◌∙◌}
use mathlib.Core.List.{List, Memᴰ}
use Rattle.std.proofs.Math.Bool.{or-false}
use Rattle.register.specs.Register.{Fate, waiting, sent, lost, Acknowledged, is_waiting, is_sent, is_lost, fated, recorded_of}
use Rattle.register.specs.Feed.{sending, losing}
use Rattle.register.specs.History.{gone_by}

abbrev pub Among : Acknowledged → List Acknowledged → Type 0
Among a l = Memᴰ a l

-- an operation that is sent or waits
abbrev pub is_live : Acknowledged → Bool
is_live a = is_sent a || is_waiting a

pub no_both : {C : Type 0} (b : Bool) → b ≡ true → b ≡ false → C
no_both true e k = let z : ◌≡◌ {A = ℕ} 0 1 = cc in absurd (omega arith)
no_both false e k = let z : ◌≡◌ {A = ℕ} 0 1 = cc in absurd (omega arith)

pub or-true : (b : Bool) → (b || true) ≡ true
or-true true = refl
or-true false = refl

pub and_none : (b : Bool) → (b && false) ≡ false
and_none true = refl
and_none false = refl

pub and-all : (b : Bool) → (b && true) ≡ b
and-all true = refl
and-all false = refl

-- the fate of an operation, by cases
pub data FateIs (a : Acknowledged) : Type 0 where
  waits : is_waiting a ≡ true → is_sent a ≡ false → FateIs a
  went : is_sent a ≡ true → is_waiting a ≡ false → FateIs a
  gone : (t : ℕ) → a.fate ≡ lost t → is_sent a ≡ false → is_waiting a ≡ false → FateIs a

pub fate-is : (a : Acknowledged) → FateIs a
fate-is a = go a.fate refl
  where
    go : (f : Fate) → a.fate ≡ f → FateIs a
    go waiting e = waits (ap (λ (f : Fate). is_waiting (fated f a)) e) (ap (λ (f : Fate). is_sent (fated f a)) e)
    go sent e = went (ap (λ (f : Fate). is_sent (fated f a)) e) (ap (λ (f : Fate). is_waiting (fated f a)) e)
    go (lost t) e = gone t e (ap (λ (f : Fate). is_sent (fated f a)) e) (ap (λ (f : Fate). is_waiting (fated f a)) e)

pub waits-not-sent : (a : Acknowledged) → is_waiting a ≡ true → is_sent a ≡ false
waits-not-sent a h = go (fate-is a)
  where
    go : FateIs a → is_sent a ≡ false
    go (waits w s) = s
    go (went s w) = no_both (is_waiting a) h w
    go (gone t f s w) = s

pub sent-live : (a : Acknowledged) → is_sent a ≡ true → is_live a ≡ true
sent-live a h = ap (λ (t : Bool). t || is_waiting a) h

pub waiting-live : (a : Acknowledged) → is_waiting a ≡ true → is_live a ≡ true
waiting-live a h = ap (λ (t : Bool). is_sent a || t) h ∙ or-true (is_sent a)

pub live-waits : (a : Acknowledged) → is_live a ≡ true → is_sent a ≡ false → is_waiting a ≡ true
live-waits a l s = ap (λ (t : Bool). t || is_waiting a) (sym s) ∙ l

-- whoever waits or was sent was not lost before any time
pub live-there : (a : Acknowledged) (time : ℕ) → is_live a ≡ true → gone_by time a.fate ≡ false
live-there a time h = go a.fate h
  where
    go : (f : Fate) → is_live (fated f a) ≡ true → gone_by time f ≡ false
    go waiting k = refl
    go sent k = refl
    go (lost t) k = no_both false k refl

pub waiting-there : (a : Acknowledged) (time : ℕ) → is_waiting a ≡ true → gone_by time a.fate ≡ false
waiting-there a time h = live-there a time (waiting-live a h)

-- an operation after the send of a number
module _ (q : ℕ) (a : Acknowledged) where
  pub send_by : (t : Bool) → eqb a.recorded.sequence q ≡ t → sending q a ≡ cond t (fated sent a) a
  send_by t e = ap (λ (s : Bool). cond s (fated sent a) a) e

  pub send-record : recorded_of (sending q a) ≡ recorded_of a
  send-record = go (eqb a.recorded.sequence q)
    where
      go : (t : Bool) → recorded_of (cond t (fated sent a) a) ≡ recorded_of a
      go true = refl
      go false = refl

  pub send-issued : (sending q a).issued ≡ a.issued
  send-issued = go (eqb a.recorded.sequence q)
    where
      go : (t : Bool) → (cond t (fated sent a) a).issued ≡ a.issued
      go true = refl
      go false = refl

  -- who is sent: who was, and the one of the number
  pub send-sent : is_sent (sending q a) ≡ (is_sent a || eqb a.recorded.sequence q)
  send-sent = go (eqb a.recorded.sequence q)
    where
      go : (t : Bool) → is_sent (cond t (fated sent a) a) ≡ (is_sent a || t)
      go true = sym (or-true (is_sent a))
      go false = sym (or-false (is_sent a))

  -- who waits: who did, but for the one of the number
  pub send-waiting : is_waiting (sending q a) ≡ (is_waiting a && not (eqb a.recorded.sequence q))
  send-waiting = go (eqb a.recorded.sequence q)
    where
      go : (t : Bool) → is_waiting (cond t (fated sent a) a) ≡ (is_waiting a && not t)
      go true = sym (and_none (is_waiting a))
      go false = sym (and-all (is_waiting a))

  -- who is lost stays lost, and nobody else is
  pub send-fate : (u : ℕ) → (sending q a).fate ≡ lost u → a.fate ≡ lost u
  send-fate u = go (eqb a.recorded.sequence q)
    where
      go : (t : Bool) → (cond t (fated sent a) a).fate ≡ lost u → a.fate ≡ lost u
      go true e = let z : ◌≡◌ {A = ℕ} 0 1 = cc in absurd (omega arith)
      go false e = e

  module _ (own : eqb a.recorded.sequence q ≡ true → is_waiting a ≡ true) where
    -- who is live stays so, where the one of the number waits
    pub send-live : is_live (sending q a) ≡ is_live a
    send-live = go (eqb a.recorded.sequence q) refl
      where
        go : (t : Bool) → eqb a.recorded.sequence q ≡ t → is_live (cond t (fated sent a) a) ≡ is_live a
        go true e = sym (waiting-live a (own e))
        go false e = refl

    -- and who was lost before a time still was
    pub send-gone : (time : ℕ) → gone_by time (sending q a).fate ≡ gone_by time a.fate
    send-gone time = go (eqb a.recorded.sequence q) refl
      where
        go : (t : Bool) → eqb a.recorded.sequence q ≡ t → gone_by time (cond t (fated sent a) a).fate ≡ gone_by time a.fate
        go true e = sym (waiting-there a time (own e))
        go false e = refl

    pub send-lost : is_lost (sending q a) ≡ is_lost a
    send-lost = go (eqb a.recorded.sequence q) refl
      where
        go : (t : Bool) → eqb a.recorded.sequence q ≡ t → is_lost (cond t (fated sent a) a) ≡ is_lost a
        go true e = sym (ap (λ (b : Bool). not (b || is_sent a)) (own e))
        go false e = refl

-- an operation after all waiting ones are lost
module _ (t : ℕ) (a : Acknowledged) where
  pub lose-by : (b : Bool) → is_waiting a ≡ b → losing t a ≡ cond b (fated (lost t) a) a
  lose-by b e = ap (λ (c : Bool). cond c (fated (lost t) a) a) e

  pub lose-record : recorded_of (losing t a) ≡ recorded_of a
  lose-record = go (is_waiting a)
    where
      go : (b : Bool) → recorded_of (cond b (fated (lost t) a) a) ≡ recorded_of a
      go true = refl
      go false = refl

  pub lose-issued : (losing t a).issued ≡ a.issued
  lose-issued = go (is_waiting a)
    where
      go : (b : Bool) → (cond b (fated (lost t) a) a).issued ≡ a.issued
      go true = refl
      go false = refl

  pub lose-waiting : is_waiting (losing t a) ≡ false
  lose-waiting = go a.fate
    where
      go : (f : Fate) → is_waiting (losing t (fated f a)) ≡ false
      go waiting = refl
      go sent = refl
      go (lost u) = refl

  pub lose-sent : is_sent (losing t a) ≡ is_sent a
  lose-sent = go a.fate
    where
      go : (f : Fate) → is_sent (losing t (fated f a)) ≡ is_sent (fated f a)
      go waiting = refl
      go sent = refl
      go (lost u) = refl

  pub lose-live : is_live (losing t a) ≡ is_sent a
  lose-live = ap (λ (b : Bool). is_sent (losing t a) || b) lose-waiting ∙ or-false (is_sent (losing t a)) ∙ lose-sent

  pub lose-lost : is_lost (losing t a) ≡ not (is_sent a)
  lose-lost = (λ i. not (lose-waiting i || lose-sent i))
