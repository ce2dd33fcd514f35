-- What a call on buffers that store a model comes to, from what it answers: a refused call changes nothing, and an accepted one leaves
-- what its effects leave. Assumes nothing.
use Rattle.std.specs.Prelude.{ℕ, ◌≡◌, refl, List, [], Bool, true, false, cond, eqb}
use Rattle.std.proofs.Common.{ap, ◌∙◌, eqb-true}
use Rattle.std.proofs.lemmas.Bool.{eqb-false}
use Rattle.returned.specs.Returned
use Rattle.session.specs.Call.{Geometry, Buffers, Call, Answer, refusal}
use Rattle.session.specs.Model.{Model, told_of}
use Rattle.session.specs.Effect.{Effect, perform_all, accepted_effects, refused_effects, effects_of}
use Rattle.session.specs.Step.{answer_of, leaves_of, encode_model, turned_down, step}
use Rattle.session.proofs.Laws.Step.{Holds, step-holds}

accepted-effects : (c : Call) (a : Answer) (x : Model) → a.returned ≡ 0 → effects_of c a (told_of x) ≡ accepted_effects c (told_of x)
unfolding effects_of
accepted-effects c a x e = go (eqb a.returned Returned.accepted) refl
  where
    go : (t : Bool) → eqb a.returned Returned.accepted ≡ t
        → cond t (accepted_effects c (told_of x)) (refused_effects c a (told_of x)) ≡ accepted_effects c (told_of x)
    go true z = refl
    go false z = absurd (eqb-false a.returned 0 z e)

refused-effects : (c : Call) (a : Answer) (x : Model) → (a.returned ≡ 0 → ⊥) → effects_of c a (told_of x) ≡ refused_effects c a (told_of x)
unfolding effects_of
refused-effects c a x n = go (eqb a.returned Returned.accepted) refl
  where
    go : (t : Bool) → eqb a.returned Returned.accepted ≡ t
        → cond t (accepted_effects c (told_of x)) (refused_effects c a (told_of x)) ≡ refused_effects c a (told_of x)
    go true z = absurd (n (eqb-true a.returned 0 z))
    go false z = refl

-- what a call gives and leaves, from its answer and its effects
pub outcome : (g : Geometry) (c : Call) (s : Buffers) (x : Model) (a : Answer) (es : List Effect) → Holds g s x → answer_of g c x ≡ a
    → effects_of c a (told_of x) ≡ es → step g c s ≡ record { gives = a; leaves = encode_model g (perform_all es x) }
unfolding leaves_of
outcome g c s x a es h e f =
    let t = step-holds g c s x h in
    let same : answer_of g c x ≡ a = e in
    let left : leaves_of g c x ≡ perform_all es x =
    ap (λ (y : Answer). perform_all (effects_of c y (told_of x)) x) same ∙ ap (λ (l : List Effect). perform_all l x) f in
    λ i. record { gives = (t.gives ∙ same) i; leaves = (t.leaves ∙ ap (encode_model g) left) i }

-- Accepted: it leaves what its effects leave.
pub accepted-outcome : (g : Geometry) (c : Call) (s : Buffers) (x : Model) (a : Answer) → Holds g s x → answer_of g c x ≡ a → a.returned ≡ 0
    → step g c s ≡ record { gives = a; leaves = encode_model g (perform_all (accepted_effects c (told_of x)) x) }
accepted-outcome g c s x a h e z = outcome g c s x a (accepted_effects c (told_of x)) h e (accepted-effects c a x z)

-- "no buffer changes" where a call is refused that has no effect then.
pub refused-outcome : (g : Geometry) (c : Call) (s : Buffers) (x : Model) (k : ℕ) → Holds g s x → answer_of g c x ≡ refusal k c → (k ≡ 0 → ⊥)
    → refused_effects c (refusal k c) (told_of x) ≡ [] → step g c s ≡ turned_down k c s
unfolding perform_all
refused-outcome g c s x k h e n f =
    outcome g c s x (refusal k c) [] h e (refused-effects c (refusal k c) x n ∙ f) ∙ (λ i. record { gives = refusal k c; leaves = h.stored i })
