-- "1 Wrong buffer": what a call asks of n, b and a volume's length is what the volume's code tests.
-- Assumes nothing.
use Rattle.std.specs.Prelude.{◌≡◌, refl, Bool, true, false, ◌&&◌, List, ℕ, length, leb, eqb}
use Rattle.volume_tree.specs.Stored.{volume_bytes}
use Rattle.volume_tree.specs.Stored.{lent}
use Rattle.session.specs.Call.{Geometry, in_range, server_fits}

-- a test may change places with another
swapped : (a b c d : Bool) → (a && (b && c)) && d ≡ (a && (b && d)) && c
swapped false b c d = refl
swapped true false c d = refl
swapped true true false false = refl
swapped true true false true = refl
swapped true true true false = refl
swapped true true true true = refl

-- n, b, m and a volume's length are right exactly if n, b and the length are, and m is.
pub range-lent : (g : Geometry) (s : List ℕ)
    → in_range g && server_fits g s ≡ lent g.objects g.blocks s && (leb 1 g.capacity && leb g.capacity 1024)
unfolding in_range server_fits lent
range-lent g s =
    swapped (leb 2 g.objects && leb g.objects 256) (leb 1 g.blocks && leb g.blocks 64)
    (leb 1 g.capacity && leb g.capacity 1024) (eqb (length s) (volume_bytes g.objects g.blocks))
