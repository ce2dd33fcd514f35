-- A set of objects in the code: 256 marks, 1 at the number of each object that is in it.
use Rattle.std.specs.Prelude.{ℕ, List, [], ◌∷◌, set}

-- the marks with some objects added
unfoldable pub objects_marked : List ℕ → List ℕ → List ℕ
objects_marked [] m = m
objects_marked (o ∷ l) m = objects_marked l (set m o 1)
