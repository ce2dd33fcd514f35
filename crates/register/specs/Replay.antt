-- Document 01, "The register": "A replay applies a set in issue order to the volume as mounted, passing over what does not
-- apply".
use Rattle.std.specs.Prelude.{List, [], ◌∷◌, cond}
use Rattle.record.specs.Operation.{Record}
use Rattle.volume_tree.specs.Volume.{Volume}
use Rattle.volume_apply.specs.Apply.{applies, apply}

unfoldable pub replay : Volume → List Record → Volume
replay v [] = v
replay v (r ∷ l) = replay (cond (applies v r.operation) (apply v r.operation) v) l
