-- What an operation's operands and map say of it. Assumes nothing.
use Rattle.std.specs.Prelude.{ℕ, ◌≡◌, refl, ◌⊎◌, [], ◌∷◌, false}
use Rattle.std.proofs.Common.{arith, ap, inl, inr}
use Rattle.std.specs.Prelude.{None, Some}
use Rattle.record.specs.Operation.{Operation, create_file, make_directory, remove, rename, overwrite, append, set_length, forder, map_of, operands, Stretch, overwrite_of}
use Rattle.record.specs.Fields.{stands_in}

-- an operation that has a stretch is an overwrite of its one operand
pub record Overwrites (a : Operation) (s : Stretch) : Type 0 where
  pub object : ℕ
  pub is : a ≡ overwrite object s.offset s.content
  pub operand : operands a ≡ object ∷ []

no-stretch : {C : Type 0} {s : Stretch} → None ≡ Some s → C
no-stretch e = let z : ◌≡◌ {A = ℕ} 0 1 = cc in absurd (omega arith)

pub overwrites : (a : Operation) (s : Stretch) → overwrite_of a ≡ Some s → Overwrites a s
unfolding operands
overwrites (create_file o p n) s e = no-stretch e
overwrites (make_directory o p n) s e = no-stretch e
overwrites (remove o p n) s e = no-stretch e
overwrites (rename o p q d n m) s e = no-stretch e
overwrites (overwrite o f b) s e =
    let z : ◌≡◌ {A = Stretch} (record { offset = f; content = b }) s = cc in
    record { object = o; is = ap (λ (t : Stretch). overwrite o t.offset t.content) z; operand = refl }
overwrites (append o f b) s e = no-stretch e
overwrites (set_length o f) s e = no-stretch e
overwrites (forder l) s e = no-stretch e

-- no operation has both names and fields 6 to 8
pub one-group : (o : Operation) → ((stands_in (map_of o) 16 ≡ false) × (stands_in (map_of o) 32 ≡ false)) ⊎ ((stands_in (map_of o) 64 ≡ false) × (stands_in (map_of o) 128 ≡ false) × (stands_in (map_of o) 256 ≡ false))
one-group (create_file o p n) = inr (refl, refl, refl)
one-group (make_directory o p n) = inr (refl, refl, refl)
one-group (remove o p n) = inr (refl, refl, refl)
one-group (rename o p q None n m) = inr (refl, refl, refl)
one-group (rename o p q (Some d) n m) = inr (refl, refl, refl)
one-group (overwrite o f b) = inl (refl, refl)
one-group (append o f b) = inl (refl, refl)
one-group (set_length o f) = inl (refl, refl)
one-group (forder l) = inl (refl, refl)
