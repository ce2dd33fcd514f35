-- What a call is told besides its arguments and its answer: all that the operations which it issues, and what it does, may depend on. The
-- register tells it too, from its own replay.
use Rattle.std.specs.Prelude.{List}
use Rattle.record.specs.Operation.{Record}
use Rattle.volume_tree.specs.Volume.{Volume}

pub record Told : Type 0 where
  pub view : Volume
  pub waiting : List Record
