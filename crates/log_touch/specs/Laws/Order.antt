-- What two operations have to do with each other, by what is told of them.
use Rattle.std.specs.Prelude.{ℕ, ◌+◌, ◌≡◌, List, Bool, not, ◌&&◌, ltb}
use Rattle.std.specs.Prelude.{Option, None, Some}
use Rattle.record.specs.Operation.{Operation, operands, Stretch, overwrite_of}
use Rattle.log_rules.specs.Order.{separate, shares, directly_precedes}
use Rattle.log_operands.specs.declared.Order.{Order}
use Rattle.log_operands.specs.Code.Ordering.{Stretched, Ordering}
use Rattle.log_touch.specs.Code.Later.{Later}

-- two overwrites with no common byte, by what is told of them
abbrev pub apart : Order → Bool → ℕ → ℕ → Bool
apart a w f n = a.overwrite && (w && not (ltb a.offset (f + n) && ltb f (a.offset + a.len)))

separate-told : (x y : Option Stretch) (a : Order) (w : Bool) (f n : ℕ) → Stretched x a.overwrite a.offset a.len → Stretched y w f n → separate x y ≡ apart a w f n
separate-told None y a w f n e g = rw e
separate-told (Some t) None a w f n e g = rw (e.0, g)
separate-told (Some t) (Some u) a w f n e g = rw (e.0, g.0, e.1, e.2, g.1, g.2)

-- "A directly precedes B", by what is told of them
pub precedes-told : (s : List ℕ) (p q : Operation) (a : Order) (set : List ℕ) (w : Bool) (f n : ℕ) → Ordering s p a → Later q set w f n
    → directly_precedes p q ≡ (shares (operands p) (operands q) && not (apart a w f n))
unfolding directly_precedes
precedes-told s p q a set w f n e g = rw (separate-told (overwrite_of p) (overwrite_of q) a w f n e.stretch g.stretch)
