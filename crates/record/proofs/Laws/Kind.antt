-- The kind of a code, and the maps of an operation.
use Rattle.std.specs.Prelude.{ℕ, ◌<◌, ◌≡◌, refl, ◌⊎◌, Bool, true, false, cond, eqb, Option}
use Rattle.std.proofs.Common.{arith, sym, ap, ◌∙◌, inl, inr, ⊎_elim, lit<, eqb-true}
use Rattle.std.specs.Prelude.{None, Some}
use Rattle.record.specs.declared.kind.Kind.{Kind}
use Rattle.record.specs.declared.kind.Kind.TheVariants.{CreateFile, MakeDirectory, Remove, Rename, Overwrite, Append, SetLength, Forder}
use Rattle.record.specs.Kind.{code_of, code_is, kind_of_code, has_map}
use Rattle.record.specs.Operation.{Operation, create_file, make_directory, remove, rename, overwrite, append, set_length, forder, kind_of, map_of}

-- a code that is a kind's is that kind's code
code-is-inv : (c : ℕ) (k j : Kind) (other : Option Kind) → code_is c j other ≡ Some k → (code_of k ≡ c) ⊎ (other ≡ Some k)
code-is-inv c k j other e = go (eqb c (code_of j)) refl e
  where
    go : (b : Bool) → eqb c (code_of j) ≡ b → cond b (Some j) other ≡ Some k → (code_of k ≡ c) ⊎ (other ≡ Some k)
    go true t l = let z : j ≡ k = cc in inl (ap code_of (sym z) ∙ sym (eqb-true _ _ t))
    go false t l = inr l

unknown-no-kind : (c : ℕ) (k : Kind) → None ≡ Some k → code_of k ≡ c
unknown-no-kind c k e = let z : ◌≡◌ {A = ℕ} 0 1 = cc in absurd (omega arith)

pub code-inv : (c : ℕ) (k : Kind) → kind_of_code c ≡ Some k → code_of k ≡ c
unfolding kind_of_code
code-inv c k e =
    ⊎_elim (λ h. h) (λ e₁.
    ⊎_elim (λ h. h) (λ e₂.
    ⊎_elim (λ h. h) (λ e₃.
    ⊎_elim (λ h. h) (λ e₄.
    ⊎_elim (λ h. h) (λ e₅.
    ⊎_elim (λ h. h) (λ e₆.
    ⊎_elim (λ h. h) (λ e₇.
    ⊎_elim (λ h. h) (unknown-no-kind c k)
    (code-is-inv c k Forder None e₇))
    (code-is-inv c k SetLength _ e₆))
    (code-is-inv c k Append _ e₅))
    (code-is-inv c k Overwrite _ e₄))
    (code-is-inv c k Rename _ e₃))
    (code-is-inv c k Remove _ e₂))
    (code-is-inv c k MakeDirectory _ e₁))
    (code-is-inv c k CreateFile _ e)

-- a kind is found by its code, and has the maps of its operations, which fit 2 bytes
pub kind-of-code : (k : Kind) → kind_of_code (code_of k) ≡ Some k
unfolding kind_of_code
kind-of-code CreateFile = refl
kind-of-code MakeDirectory = refl
kind-of-code Remove = refl
kind-of-code Rename = refl
kind-of-code Overwrite = refl
kind-of-code Append = refl
kind-of-code SetLength = refl
kind-of-code Forder = refl

pub code-small : (k : Kind) → code_of k < 256
code-small CreateFile = lit< tt
code-small MakeDirectory = lit< tt
code-small Remove = lit< tt
code-small Rename = lit< tt
code-small Overwrite = lit< tt
code-small Append = lit< tt
code-small SetLength = lit< tt
code-small Forder = lit< tt

pub has-its-map : (o : Operation) → has_map (kind_of o) (map_of o) ≡ true
unfolding has_map
has-its-map (create_file o p n) = refl
has-its-map (make_directory o p n) = refl
has-its-map (remove o p n) = refl
has-its-map (rename o p q None n m) = refl
has-its-map (rename o p q (Some d) n m) = refl
has-its-map (overwrite o f b) = refl
has-its-map (append o f b) = refl
has-its-map (set_length o f) = refl
has-its-map (forder l) = refl

pub map-small : (o : Operation) → map_of o < 65536
map-small (create_file o p n) = lit< tt
map-small (make_directory o p n) = lit< tt
map-small (remove o p n) = lit< tt
map-small (rename o p q None n m) = lit< tt
map-small (rename o p q (Some d) n m) = lit< tt
map-small (overwrite o f b) = lit< tt
map-small (append o f b) = lit< tt
map-small (set_length o f) = lit< tt
map-small (forder l) = lit< tt
