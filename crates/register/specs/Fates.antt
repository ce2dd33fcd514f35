-- Document 01, "The register": what may come between two registers of which one is the other after a call.
use Rattle.std.specs.Prelude.{ℕ, ◌+◌, ◌≤◌, ◌≡◌, length}
use mathlib.Core.List.{List, [], ◌∷◌, ◌++◌, map, Memᴰ}
use Rattle.record.specs.Operation.{Operation, Record, record_of}
use Rattle.register.specs.Register.{Register, Acknowledged, Touch, Renewal, waiting, sent, lost, recorded_of, fated}
use Rattle.register.specs.History.{Is}

-- no operation is added; of those that there are, some are now sent, some are now lost, and each other stands as it stood
pub record Fates (r s : Register) (Sent Lost : Acknowledged → Type 0) : Type 0 where
  pub records : map recorded_of s.operations ≡ map recorded_of r.operations
  pub sends : (a : Acknowledged) → Is a r → Sent a → Is (fated sent a) s
  pub loses : (a : Acknowledged) → Is a r → Lost a → (time : ℕ) × (r.happened ≤ time) × Is (fated (lost time) a) s
  pub keeps : (a : Acknowledged) → Is a r → (Sent a → ⊥) → (Lost a → ⊥) → Is a s

abbrev pub Nobody : Acknowledged → Type 0
Nobody a = ⊥

-- the records of operations "numbered on"
abbrev pub numbered : ℕ → ℕ → List Operation → List Record
numbered n p [] = []
numbered n p (o ∷ os) = record_of n p o ∷ numbered (n + 1) p os

-- operations of a program are added behind the others, "waiting, numbered on from 1", and each other stands as it stood
pub record Adds (r s : Register) (p : ℕ) (os : List Operation) : Type 0 where
  pub added : List Acknowledged
  pub behind : s.operations ≡ r.operations ++ added
  pub records : map recorded_of added ≡ numbered (length r.operations + 1) p os
  pub wait : (a : Acknowledged) → Memᴰ a added → (a.fate ≡ waiting) × (r.happened ≤ a.issued)

-- calls of programs with their operands, and renewals by their programs, are added to the history, each made now
pub record Enters (r s : Register) (calls : List (ℕ × List ℕ)) (programs : List ℕ) : Type 0 where
  pub touches : List Touch
  pub called : s.touches ≡ r.touches ++ touches
  pub these : map (λ (t : Touch). (t.program, t.touched)) touches ≡ calls
  pub now : (t : Touch) → Memᴰ t touches → r.happened ≤ t.time
  pub renewals : List Renewal
  pub renewed : s.renewals ≡ r.renewals ++ renewals
  pub those : map (λ (n : Renewal). n.program) renewals ≡ programs
  pub since : (n : Renewal) → Memᴰ n renewals → r.happened ≤ n.time
