-- The register after the effects that a call has on the model, in which its laws are proved.
use Rattle.std.specs.Prelude.{List, [], ◌∷◌}
use Rattle.session.specs.Effect.{Effect, note, issue, send, discard, take, renew}
use Rattle.register.specs.Register.{Register}
use Rattle.register.specs.Feed.{enter, add, send_one, lose_all, renewing}

unfoldable pub happen : Effect → Register → Register
happen (note p ops) r = enter p ops r
happen (issue p o) r = add p o r
happen (send q) r = send_one q r
happen discard r = lose_all r
happen (take p) r = r
happen (renew p) r = renewing p r

unfoldable pub happen_all : List Effect → Register → Register
happen_all [] r = r
happen_all (e ∷ es) r = happen_all es (happen e r)
