-- Document 01, "Calls": "Usage is length / 1,024 to the nearest whole number, half upwards", for all lengths, and case C5.
use Rattle.std.specs.Prelude.{ℕ, ◌+◌, ◌*◌, ◌<◌, ◌≤◌, ◌≡◌, refl, [], ◌∷◌, map}
use Rattle.std.proofs.Common.{arith}
use Rattle.volume_entry.specs.Entry.{usage}

-- no length is more than half of 1,024 away from its usage, and one that is just half away is rounded upwards
pub usage-nearest : (len : ℕ) → (1024 * usage len ≤ len + 512) × (len < 1024 * usage len + 512)
unfolding usage
usage-nearest len = omega arith

-- "C5 length 511 has usage 0, 512 has 1."; the same at the next half
pub usage-cases : map usage (511 ∷ 512 ∷ 1535 ∷ 1536 ∷ []) ≡ (0 ∷ 1 ∷ 1 ∷ 2 ∷ [])
unfolding usage
usage-cases = refl
