-- Laws of paths (document 01, "Names and paths"): the components of a path, put behind a slash each, are the path again; no
-- component has a slash; and where one component ends and the next begins.
-- Assumes nothing.
use Rattle.std.specs.Prelude.{ℕ, zero, suc, ◌+◌, ◌-◌, ◌≤◌, ◌<◌, ◌≡◌, refl, Bool, true, false, ◌&&◌, cond, List, [], ◌∷◌, length, get_or, take, drop, replicate, leb, ltb, eqb, None, Some}
use Rattle.std.proofs.Common.{sym, ap, ◌∙◌, le_of_suc-le-suc, not-suc-le-zero, add_assoc, add-one, arith, length-drop, drop_of_length-le, drop-cons, drop-drop, lt-ltb, le-ltb, ltb-true, ltb-false, leb-true, le-leb, eq-eqb, ne_eqb, eqb-true}
use Rattle.std.proofs.Math.Bool.{and-eq-true_iff}
use Rattle.std.proofs.Math.Dec.{leb-suc-suc}
use Rattle.std.proofs.lemmas.Bool.{eqb-false}
use Rattle.paths.specs.declared.PathText.TheVariants.{Root, Components}
use Rattle.paths.specs.Path.{path_text_of, up_to_slash, component_at, on_first, split, components, joined}

-- ---- the bytes before the first slash

-- From a slash on, no byte stands before the first slash.
pub up-slash : (s : List ℕ) (i : ℕ) → i < length s → get_or s i 0 ≡ 47 → up_to_slash (drop i s) ≡ []
unfolding up_to_slash
up-slash s i h e = simp (drop-cons s i 0 h, eq-eqb (get_or s i 0) 47 e)

-- From another byte on, that byte stands before the first slash, and then what does from the next place on.
pub up-byte : (s : List ℕ) (i : ℕ) → i < length s → (get_or s i 0 ≡ 47 → ⊥)
    → up_to_slash (drop i s) ≡ get_or s i 0 ∷ up_to_slash (drop (i + 1) s)
unfolding up_to_slash
up-byte s i h e = simp (add-one, drop-cons s i 0 h, ne_eqb (get_or s i 0) 47 e)

-- From the end on, no byte stands before a slash.
pub up-end : (s : List ℕ) (i : ℕ) → length s ≤ i → up_to_slash (drop i s) ≡ []
unfolding up_to_slash
up-end s i h = simp (drop_of_length-le s h)

-- The bytes before the first slash are the text's first bytes, unchanged.
pub up-part : (s : List ℕ) → take (length (up_to_slash s)) s ≡ up_to_slash s
unfolding up_to_slash
up-part [] = refl
up-part (b ∷ bs) = go (eqb b 47) refl (up-part bs)
  where
    go : (t : Bool) → eqb b 47 ≡ t → take (length (up_to_slash bs)) bs ≡ up_to_slash bs
        → take (length (up_to_slash (b ∷ bs))) (b ∷ bs) ≡ up_to_slash (b ∷ bs)
    go true q e = simp q
    go false q e = simp (q, e)

-- The bytes before the first slash are no more than the text has.
pub up-length : (s : List ℕ) → length (up_to_slash s) ≤ length s
unfolding up_to_slash
up-length [] = omega arith
up-length (b ∷ bs) = go (eqb b 47) refl (up-length bs)
  where
    go : (t : Bool) → eqb b 47 ≡ t → length (up_to_slash bs) ≤ length bs → length (up_to_slash (b ∷ bs)) ≤ length (b ∷ bs)
    go true q h = simp q (omega arith)
    go false q h = simp q (omega arith)

-- A text has no slash: none of its bytes is 47.
abbrev pub NoSlash : List ℕ → Type 0
NoSlash s = (i : ℕ) → i < length s → get_or s i 0 ≡ 47 → ⊥

nothing-no-slash : NoSlash []
nothing-no-slash i h e = not-suc-le-zero h

more-no-slash : (b : ℕ) (s : List ℕ) → (b ≡ 47 → ⊥) → NoSlash s → NoSlash (b ∷ s)
more-no-slash b s n h zero k e = n e
more-no-slash b s n h (suc i) k e = h i (le_of_suc-le-suc k) e

-- The bytes before the first slash have no slash.
pub no_slash : (s : List ℕ) → NoSlash (up_to_slash s)
unfolding up_to_slash
no_slash [] = nothing-no-slash
no_slash (b ∷ bs) = go (eqb b 47) refl (no_slash bs)
  where
    go : (t : Bool) → eqb b 47 ≡ t → NoSlash (up_to_slash bs) → NoSlash (up_to_slash (b ∷ bs))
    go true q h = simp q nothing-no-slash
    go false q h = simp q (more-no-slash b (up_to_slash bs) (eqb-false b 47 q) h)

-- ---- a text, cut at each slash

-- The first part of a text is what stands before its first slash; the others are the parts of what stands after that slash,
-- and there are none where the text has no slash.
pub split_step : (s : List ℕ)
    → split s
    ≡ up_to_slash s ∷ cond (ltb (length (up_to_slash s)) (length s)) (split (drop (length (up_to_slash s) + 1) s)) []
unfolding split up_to_slash on_first
split_step [] = refl
split_step (b ∷ bs) = go (eqb b 47) refl (split_step bs)
  where
    go : (t : Bool) → eqb b 47 ≡ t
        → split bs
        ≡ up_to_slash bs ∷ cond (ltb (length (up_to_slash bs)) (length bs)) (split (drop (length (up_to_slash bs) + 1) bs)) []
        → split (b ∷ bs)
        ≡ up_to_slash (b ∷ bs)
        ∷ cond (ltb (length (up_to_slash (b ∷ bs))) (length (b ∷ bs)))
        (split (drop (length (up_to_slash (b ∷ bs)) + 1) (b ∷ bs)))
        []
    go true q e = simp (q, lt-ltb 0 (suc (length bs)) (omega arith))
    go false q e = simp (q, add-one, leb-suc-suc, e)

joined-first : (b : ℕ) (cs : List (List ℕ)) (s : List ℕ) → joined cs ≡ 47 ∷ s → joined (on_first b cs) ≡ 47 ∷ b ∷ s
unfolding joined on_first
joined-first b [] s e = cc
joined-first b (c ∷ cs) s e = cc

-- The parts of a text, each behind a slash, are a slash and the text: nothing is lost and nothing is shortened.
pub joined-split : (s : List ℕ) → joined (split s) ≡ 47 ∷ s
unfolding split joined on_first
joined-split [] = refl
joined-split (b ∷ bs) = go (eqb b 47) refl (joined-split bs)
  where
    go : (t : Bool) → eqb b 47 ≡ t → joined (split bs) ≡ 47 ∷ bs → joined (split (b ∷ bs)) ≡ 47 ∷ b ∷ bs
    go true q e = simp (e, eqb-true b 47 q)
    go false q e = simp q (joined-first b (split bs) bs e)

first-no-slash : (b : ℕ) (cs : List (List ℕ)) → (b ≡ 47 → ⊥) → ((k : ℕ) → NoSlash (get_or cs k [])) → (k : ℕ)
    → NoSlash (get_or (on_first b cs) k [])
unfolding on_first
first-no-slash b [] n h zero = more-no-slash b [] n nothing-no-slash
first-no-slash b [] n h (suc k) = nothing-no-slash
first-no-slash b (c ∷ cs) n h zero = more-no-slash b c n (h 0)
first-no-slash b (c ∷ cs) n h (suc k) = h (suc k)

-- No part of a text has a slash.
pub split-no-slash : (s : List ℕ) (k : ℕ) → NoSlash (get_or (split s) k [])
unfolding split
split-no-slash [] zero = nothing-no-slash
split-no-slash [] (suc k) = nothing-no-slash
split-no-slash (b ∷ bs) k = go (eqb b 47) refl (split-no-slash bs) k
  where
    go : (t : Bool) → eqb b 47 ≡ t → ((k : ℕ) → NoSlash (get_or (split bs) k [])) → (k : ℕ)
        → NoSlash (get_or (split (b ∷ bs)) k [])
    go true q h zero = simp q nothing-no-slash
    go true q h (suc k) = simp q (h k)
    go false q h k = simp q (first-no-slash b (split bs) (eqb-false b 47 q) h k)

-- ---- the components of a path

starts : (p : List ℕ) → 1 ≤ length p → get_or p 0 0 ≡ 47 → p ≡ 47 ∷ drop 1 p
starts [] h e = absurd (not-suc-le-zero h)
starts (b ∷ bs) h e = ap (λ (v : ℕ). v ∷ bs) e

good-path : (p : List ℕ) → leb 1 (length p) && (leb (length p) 1023 && eqb (get_or p 0 0) 47) ≡ true
    → (1 ≤ length p) × (length p ≤ 1023) × (p ≡ 47 ∷ drop 1 p)
good-path p e =
    let g = (and-eq-true_iff (leb 1 (length p)) (leb (length p) 1023 && eqb (get_or p 0 0) 47)).0 e in
    let r = (and-eq-true_iff (leb (length p) 1023) (eqb (get_or p 0 0) 47)).0 g.1 in
    let h = leb-true 1 (length p) g.0 in
    (h, leb-true (length p) 1023 r.0, starts p h (eqb-true (get_or p 0 0) 47 r.1))

-- A path with components has 2 to 1,023 bytes, the first a slash.
pub components-path : (p : List ℕ) → path_text_of p ≡ Some Components → (2 ≤ length p) × (length p ≤ 1023) × (p ≡ 47 ∷ drop 1 p)
unfolding path_text_of
components-path p e =
    let c = pick (leb 1 (length p) && (leb (length p) 1023 && eqb (get_or p 0 0) 47)) (eqb (length p) 1) e in
    let g = good-path p c.0 in
    let n = eqb-false (length p) 1 c.1 in
    (omega arith, g.1, g.2)
  where
    pick : (g r : Bool) → cond g (cond r (Some Root) (Some Components)) None ≡ Some Components → (g ≡ true) × (r ≡ false)
    pick true true e = (refl, cc)
    pick true false e = (refl, refl)
    pick false r e = (cc, cc)

-- A text of 2 to 1,023 bytes, the first a slash, is a path with components.
pub path_components : (p : List ℕ) → 2 ≤ length p → length p ≤ 1023 → get_or p 0 0 ≡ 47 → path_text_of p ≡ Some Components
unfolding path_text_of
path_components p l m e =
    simp (
      le-leb 1 (length p) (omega arith),
      le-leb (length p) 1023 m,
      eq-eqb (get_or p 0 0) 47 e,
      ne_eqb (length p) 1 (omega arith),
    )

-- The path of the root is a slash alone.
pub root-path : (p : List ℕ) → path_text_of p ≡ Some Root → p ≡ 47 ∷ []
unfolding path_text_of
root-path p e =
    let c = pick (leb 1 (length p) && (leb (length p) 1023 && eqb (get_or p 0 0) 47)) (eqb (length p) 1) e in
    let g = good-path p c.0 in
    let n = eqb-true (length p) 1 c.1 in
    g.2 ∙ ap (λ (r : List ℕ). 47 ∷ r) (drop_of_length-le p {i = 1} (omega arith))
  where
    pick : (g r : Bool) → cond g (cond r (Some Root) (Some Components)) None ≡ Some Root → (g ≡ true) × (r ≡ true)
    pick true true e = (refl, refl)
    pick true false e = (refl, cc)
    pick false r e = (cc, cc)

-- The components of a path, each behind a slash, are the path: nothing is lost and nothing is shortened.
pub joined-components : (p : List ℕ) → path_text_of p ≡ Some Components → joined (components p) ≡ p
unfolding components
joined-components p e = joined-split (drop 1 p) ∙ sym (components-path p e).2

-- No component has a slash.
pub components-no-slash : (p : List ℕ) (k : ℕ) → NoSlash (get_or (components p) k [])
unfolding components
components-no-slash p k = split-no-slash (drop 1 p) k

-- The component at a place of a path ends within the path.
pub component-fits : (p : List ℕ) (at : ℕ) → at ≤ length p → at + length (component_at p at) ≤ length p
unfolding component_at
component-fits p at h = omega (arith, up-length (drop at p), length-drop at p)

ltb-back : (n k m : ℕ) → k ≤ m → ltb n (m - k) ≡ ltb (k + n) m
ltb-back n k m h = go (ltb n (m - k)) refl
  where
    go : (t : Bool) → ltb n (m - k) ≡ t → t ≡ ltb (k + n) m
    go true e = let l = ltb-true n (m - k) e in sym (lt-ltb (k + n) m (omega arith))
    go false e = let l = ltb-false n (m - k) e in sym (le-ltb (k + n) m (omega arith))

-- The components from a place on are the one at that place and, unless it ends where the path does, those from one past the slash
-- at its end on.
pub split-place : (p : List ℕ) (at : ℕ) → at ≤ length p
    → split (drop at p)
    ≡ component_at p at
    ∷ cond (ltb (at + length (component_at p at)) (length p)) (split (drop (at + length (component_at p at) + 1) p)) []
unfolding component_at
split-place p at h =
    split_step (drop at p)
    ∙ simp (length-drop, drop-drop, ltb-back (length (up_to_slash (drop at p))) at (length p) h, add_assoc)

-- Doubled and trailing slashes give an empty name; 1,023 bytes are a path, and 1,024 are not.
pub path-examples :
    (path_text_of [] ≡ None)
    × (path_text_of (97 ∷ []) ≡ None)
    × (path_text_of (47 ∷ []) ≡ Some Root)
    × (path_text_of (47 ∷ 47 ∷ []) ≡ Some Components)
    × (path_text_of (47 ∷ replicate 1022 97) ≡ Some Components)
    × (path_text_of (47 ∷ replicate 1023 97) ≡ None)
    × (components (47 ∷ 97 ∷ []) ≡ (97 ∷ []) ∷ [])
    × (components (47 ∷ 47 ∷ []) ≡ [] ∷ [] ∷ [])
    × (components (47 ∷ 102 ∷ 47 ∷ []) ≡ (102 ∷ []) ∷ [] ∷ [])
    × (components (47 ∷ 102 ∷ 47 ∷ 120 ∷ []) ≡ (102 ∷ []) ∷ (120 ∷ []) ∷ [])
unfolding path_text_of components split on_first
path-examples = (refl, refl, refl, refl, refl, refl, refl, refl, refl, refl)
