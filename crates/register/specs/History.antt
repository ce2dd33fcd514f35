-- Document 01, "Order and dependence", told from the history of calls: predecessors, dependence and marks.
use Rattle.std.specs.Prelude.{ℕ, ◌<◌, ◌≡◌, Bool, true, false, not, ◌&&◌, ltb}
use mathlib.Core.List.{Memᴰ}
use Rattle.record.specs.Operation.{operands}
use Rattle.log_rules.specs.Order.{shares, touches, directly_precedes}
use Rattle.register.specs.Register.{Acknowledged, Touch, Renewal, Register, Fate, waiting, sent, lost}

abbrev pub Is : Acknowledged → Register → Type 0
Is a r = Memᴰ a r.operations

-- "One lost before B was issued neither touches nor precedes B."
abbrev pub gone_by : ℕ → Fate → Bool
gone_by time waiting = false
gone_by time sent = false
gone_by time (lost t) = ltb t time

abbrev pub lost_before : Acknowledged → Acknowledged → Bool
lost_before a b = gone_by b.issued a.fate

-- "A directly precedes B", of two acknowledged operations
unfoldable pub directly : Acknowledged → Acknowledged → Bool
directly a b =
    ltb a.recorded.sequence b.recorded.sequence
    && (not (lost_before a b) && directly_precedes a.recorded.operation b.recorded.operation)

-- "An operation precedes another also through a third and further ones. One lost before B was issued neither touches nor
-- precedes B."
pub data Precedes (r : Register) : Acknowledged → Acknowledged → Type 0 where
  direct : {a b : Acknowledged} → directly a b ≡ true → Precedes r a b
  through : {a b c : Acknowledged} → Is c r → Precedes r a c → Precedes r c b → lost_before a b ≡ false → Precedes r a b

-- "A earlier than B touches B if they share an operand."
abbrev pub touches_later : Acknowledged → Acknowledged → Bool
touches_later a b =
    ltb a.recorded.sequence b.recorded.sequence
    && (not (lost_before a b) && touches a.recorded.operation b.recorded.operation)

-- an operation touches the operands of a later call
abbrev pub touches_call : Acknowledged → Touch → Bool
touches_call a t =
    ltb a.issued t.time && (not (gone_by t.time a.fate) && shares (operands a.recorded.operation) t.touched)

-- "a later successful call of its own has an operand which that operation, directly or through a chain of touching operations,
-- touches"; an operation that was lost before the call touches it neither way
pub data Reaches (r : Register) : Acknowledged → Touch → Type 0 where
  here : {a : Acknowledged} {t : Touch} → touches_call a t ≡ true → Reaches r a t
  chain : {a b : Acknowledged} {t : Touch} → Is b r → touches_later a b ≡ true → gone_by t.time a.fate ≡ false → Reaches r b t → Reaches r a t

-- "A program depends on a waiting operation if it issued it, or ..": asked of an operation that waits, or waited until it was
-- discarded
pub data Depends (r : Register) (p : ℕ) (a : Acknowledged) : Type 0 where
  issuer : a.recorded.program ≡ p → Depends r p a
  caller : {t : Touch} → Memᴰ t r.touches → t.program ≡ p → Reaches r a t → Depends r p a

-- discarded at a time that is after every renewal of a program
abbrev pub IsSince : Register → ℕ → ℕ → Type 0
IsSince r p time = (n : Renewal) → Memᴰ n r.renewals → n.program ≡ p → n.time < time

-- a program is marked if it depended on something discarded since mount or its last renewal
pub record Marked (r : Register) (p : ℕ) : Type 0 where
  pub on : Acknowledged
  pub acknowledged : Is on r
  pub time : ℕ
  pub discarded : on.fate ≡ lost time
  pub renewed : IsSince r p time
  pub depended : Depends r p on
