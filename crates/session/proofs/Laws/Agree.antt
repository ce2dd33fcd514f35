-- What ties the server, the view and the log to each other holds after a mount, and every effect that may take place keeps it. Assumes
-- nothing.
use Rattle.std.specs.Prelude.{◌≡◌, refl, true}
use Rattle.volume_tree.specs.Volume.{Volume}
use Rattle.session.specs.Call.{Geometry}
use Rattle.session.specs.Model.{Model, mounted_model, agreeing}
use Rattle.session.specs.Effect.{Effect, perform}
use Rattle.session.proofs.Laws.Possible.{Possible}

pub mounted-agrees : (v : Volume) → agreeing (mounted_model v) ≡ true
unfolding agreeing
mounted-agrees v = refl

pub effect-agrees : (g : Geometry) (x : Model) (e : Effect) → Possible g x e → agreeing x ≡ true → agreeing (perform e x) ≡ true
unfolding agreeing
effect-agrees g x e h a = refl
