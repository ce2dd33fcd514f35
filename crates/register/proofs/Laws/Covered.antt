-- What the register's own closure covers is what the closure over the records of those that wait has; so what an fsync covers is what it needs.
use Rattle.std.specs.Prelude.{ℕ, ◌≡◌, refl, Bool, true, false, not, ◌&&◌, ◌||◌, cond, ltb}
use Rattle.std.proofs.Common.{ap, ◌∙◌}
use mathlib.Core.List.{List, [], ◌∷◌, map, Memᴰ}
use Rattle.record.specs.Operation.{Record}
use Rattle.log_rules.specs.Order.{directly_precedes, any, closure, before, needed}
use Rattle.log_rules.proofs.Laws.Order.{has_operand}
use Rattle.register.specs.Register.{Acknowledged, is_waiting, chosen, recorded_of}
use Rattle.register.specs.History.{directly}
use Rattle.register.specs.Feed.{precedes_some, covered, has_object}
use Rattle.register.proofs.Laws.Fate.{waiting-there}

-- among waiting operations "directly precedes" goes by the records
directly-before : (a b : Acknowledged) → is_waiting a ≡ true → directly a b ≡ before a.recorded b.recorded
unfolding directly
directly-before a b w =
    ap (λ (t : Bool). ltb a.recorded.sequence b.recorded.sequence && (not t && directly_precedes a.recorded.operation b.recorded.operation)) (waiting-there a b.issued w)

some-before : (a : Acknowledged) → is_waiting a ≡ true → (l : List Acknowledged) → precedes_some a l ≡ any (before a.recorded) (map recorded_of l)
unfolding precedes_some any
some-before a w [] = refl
some-before a w (b ∷ l) = λ i. directly-before a b w i || some-before a w l i

-- a test of the records that says the same of those that wait
abbrev pub Alike : (Acknowledged → Bool) → (Record → Bool) → List Acknowledged → Type 0
Alike pick test l = (a : Acknowledged) → Memᴰ a l → is_waiting a ≡ true → pick a ≡ test a.recorded

pub covered-closure : (pick : Acknowledged → Bool) (test : Record → Bool) (l : List Acknowledged) → Alike pick test l
    → map recorded_of (covered pick l) ≡ closure test before (chosen is_waiting l)
unfolding covered closure chosen
covered-closure pick test [] same = refl
covered-closure pick test (a ∷ l) same = go (is_waiting a) refl (covered-closure pick test l (λ b m w. same b (Memᴰ.tail m) w))
  where
    records : (t : Bool) → map recorded_of (cond t (a ∷ covered pick l) (covered pick l)) ≡ cond t (a.recorded ∷ map recorded_of (covered pick l)) (map recorded_of (covered pick l))
    records true = refl
    records false = refl

    go : (t : Bool) → is_waiting a ≡ t → map recorded_of (covered pick l) ≡ closure test before (chosen is_waiting l)
        → map recorded_of (cond (t && (pick a || precedes_some a (covered pick l))) (a ∷ covered pick l) (covered pick l))
        ≡ closure test before (cond t (a.recorded ∷ chosen is_waiting l) (chosen is_waiting l))
    go false e ih = ih
    go true e ih =
        records (pick a || precedes_some a (covered pick l))
        ∙ (λ i. cond (same a (Memᴰ.head refl) e i || (some-before a e (covered pick l) ∙ ap (any (before a.recorded)) ih) i) (a.recorded ∷ ih i) (ih i))

pub covered-needed : (o : ℕ) (l : List Acknowledged) → map recorded_of (covered (has_object o) l) ≡ needed o (chosen is_waiting l)
unfolding needed
covered-needed o l = covered-closure (has_object o) (has_operand o) l (λ a m w. refl)
