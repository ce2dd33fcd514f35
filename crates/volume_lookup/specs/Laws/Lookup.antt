-- Laws of lookup: the numbers of its refusals, and a path that is followed component by component, with an answer and an object to mark
-- at each. Assumes nothing.
use Rattle.volume_lookup.specs.declared.lookup.LookupError.TheVariants.{BadName, LongName, NoObject, WrongKind}
use Rattle.volume_lookup.specs.declared.lookup.LookupError.{LookupError}
use Rattle.std.specs.Prelude.{ℕ, suc, ◌+◌, ◌≤◌, ◌<◌, refl, List, [], ◌∷◌, Bool, true, cond, length, set, drop, leb, Result, Ok, Err}
use Rattle.std.proofs.Common.{arith, ◌∙◌, le-leb}
use Rattle.std.proofs.Math.Path.{◌≡◌, sym}
use Rattle.std.proofs.Math.Bool.{false}
use Rattle.std.specs.Prelude.{Option, None, Some}
use Rattle.std.proofs.lemmas.Bool.{lt-leb}
use Rattle.names.specs.declared.NameError.{NameError}
use Rattle.names.specs.declared.NameError.TheVariants.{Bad, Long}
use Rattle.paths.specs.declared.PathText.{PathText}
use Rattle.paths.specs.declared.PathText.TheVariants.{Root, Components}
use Rattle.names.specs.Name.{name_text_of, name_number}
use Rattle.paths.specs.Path.{path_number, component_at, split, components}
use Rattle.paths.specs.Laws.Path.{split-place}
use Rattle.volume_entry.specs.Entry.{is_directory}
use Rattle.volume_tree.specs.Volume.{Volume, entry_at, search}
use Rattle.volume_tree.specs.Laws.Search.{search-found}
use Rattle.volume_tree.specs.Answer.{found_number}
use Rattle.volume_lookup.specs.Lookup.{sought_answer, checked_answer, component_answer, next_answer, components_answer, path_answer, next_objects, components_objects, reached_number}
use Rattle.volume_lookup.specs.Code.Marks.{objects_marked}

-- ---- the numbers

-- A path, a component and a search are each refused with their own number.
pub path-number : (t : Option PathText) (o : ℕ) → reached_number (path_answer t (Ok o)) ≡ path_number t
path-number None o = refl
path-number (Some Root) o = refl
path-number (Some Components) o = refl

pub name-number : (t : Result (Unit {0}) NameError) (o : ℕ) → reached_number (checked_answer t (Ok o)) ≡ name_number t
name-number (Ok x) o = refl
name-number (Err Bad) o = refl
name-number (Err Long) o = refl

pub reached_number-sought_answer : (x : Option ℕ) → reached_number (sought_answer x) ≡ found_number (x)
reached_number-sought_answer None = refl
reached_number-sought_answer (Some i) = refl

-- ---- one component

-- An object that is found is one of the volume's.
pub found_below : (v : Volume) (o : ℕ) (c : List ℕ) (i : ℕ) → component_answer v o c ≡ Ok i → i < length v
unfolding component_answer
found_below v o c i e = go (name_text_of c) (is_directory (entry_at v o)) (search v o c) refl e
  where
    go : (t : Result (Unit {0}) NameError) (d : Bool) (s : Option ℕ) → search v o c ≡ s → checked_answer t (cond d (sought_answer s) (Err WrongKind)) ≡ Ok i → i < length v
    go (Ok x) true (Some j) q e = let k : j ≡ i = cc in (search-found v o c i (rw k at q)).1
    go (Ok x) true None q e = let z : ◌≡◌ {A = ℕ} 0 1 = cc in absurd (omega arith)
    go (Ok x) false s q e = let z : ◌≡◌ {A = ℕ} 0 1 = cc in absurd (omega arith)
    go (Err Bad) d s q e = let z : ◌≡◌ {A = ℕ} 0 1 = cc in absurd (omega arith)
    go (Err Long) d s q e = let z : ◌≡◌ {A = ℕ} 0 1 = cc in absurd (omega arith)

-- an answer that is no refusal
abbrev pub is_found : Result ℕ LookupError → Bool
is_found (Ok i) = true
is_found (Err BadName) = false
is_found (Err LongName) = false
is_found (Err NoObject) = false
is_found (Err WrongKind) = false

-- where a lookup stands: the answer still to come from an object on, and the marks with what is still to be found
pub record Stands (v : Volume) (from : ℕ) (all : List (List ℕ)) (before : List ℕ) (o : ℕ) (rest : List (List ℕ)) (now : List ℕ) : Type 0 where
  pub answer : components_answer v from all ≡ components_answer v o rest
  pub marks : objects_marked (components_objects v from all) before ≡ objects_marked (components_objects v o rest) now

module _ (v : Volume) (from : ℕ) (all : List (List ℕ)) (before : List ℕ) (o : ℕ) (now : List ℕ) where
  -- An answer and the marks that are left are those of all the components.
  abbrev pub Walks : Result ℕ LookupError → Type 0
  Walks r = (r ≡ components_answer v from all) × (now ≡ objects_marked (components_objects v from all) before)

  -- A component that leads to an object is passed, and the object marked.
  pub step-found : (c : List ℕ) (cs : List (List ℕ)) (i : ℕ) → component_answer v o c ≡ Ok i → Stands v from all before o (c ∷ cs) now
      → Stands v from all before i cs (set now i 1)
  unfolding components_answer components_objects objects_marked
  step-found c cs i e w = record { answer = rw e at w.answer; marks = rw e at w.marks }

  -- A refusal is the answer, and nothing more is marked.
  pub step-refused : (c : List ℕ) (cs : List (List ℕ)) (r : Result ℕ LookupError) → component_answer v o c ≡ r → is_found r ≡ false
      → Stands v from all before o (c ∷ cs) now → Walks r
  unfolding components_answer components_objects objects_marked
  step-refused c cs r e f w = go r f (rw e at w.answer) (rw e at w.marks)
    where
      go : (r : Result ℕ LookupError) → is_found r ≡ false → components_answer v from all ≡ next_answer r (λ i. components_answer v i cs)
          → objects_marked (components_objects v from all) before ≡ objects_marked (next_objects r (λ i. components_objects v i cs)) now
          → Walks r
      go (Ok i) f a m = let z : ◌≡◌ {A = ℕ} 0 1 = cc in absurd (omega arith)
      go (Err BadName) f a m = (sym a, sym m)
      go (Err LongName) f a m = (sym a, sym m)
      go (Err NoObject) f a m = (sym a, sym m)
      go (Err WrongKind) f a m = (sym a, sym m)

  -- Where no component is left, the object is found.
  pub step-ended : Stands v from all before o [] now → Walks (Ok o)
  unfolding components_answer components_objects objects_marked
  step-ended w = (sym w.answer, sym w.marks)

-- ---- the components from a place of the path on

-- the components from a place on, none past the path's end
unfoldable pub rest_at : List ℕ → ℕ → List (List ℕ)
rest_at p at = cond (leb at (length p)) (split (drop at p)) []

-- A path that is not empty has its components from place 1 on.
pub rest-whole : (p : List ℕ) → 1 ≤ length p → components p ≡ rest_at p 1
unfolding rest_at components
rest-whole p h = rw (le-leb 1 (length p) h)

-- From a place on there is the component at that place, and then those from one past its end on.
pub rest-step : (p : List ℕ) (at : ℕ) → at ≤ length p → rest_at p at ≡ component_at p at ∷ rest_at p (at + (length (component_at p at) + 1))
unfolding rest_at
rest-step p at h =
    let k : at + length (component_at p at) + 1 ≡ at + (length (component_at p at) + 1) = omega arith in
    let l : suc (at + length (component_at p at)) ≡ at + (length (component_at p at) + 1) = omega arith in
    rw (le-leb at (length p) h) (split-place p at h ∙ rw (k, l))

-- Past the path's end there is none.
pub rest-none : (p : List ℕ) (at : ℕ) → length p < at → rest_at p at ≡ []
unfolding rest_at
rest-none p at h = rw (lt-leb at (length p) h)
