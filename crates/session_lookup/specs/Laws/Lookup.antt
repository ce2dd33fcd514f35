-- Lookup asks of the view, and the objects that it meets are the volume's. Assumes nothing.
use Rattle.volume_lookup.specs.declared.lookup.LookupError.TheVariants.{BadName, LongName, NoObject, WrongKind}
use Rattle.volume_lookup.specs.declared.lookup.LookupError.{LookupError}
use Rattle.std.specs.Prelude.{ℕ, ◌≤◌, ◌<◌, ◌≡◌, refl, List, [], ◌∷◌, Bool, true, false, ◌||◌, length, set, replicate, eqb, ltb, Result, Ok, Err, Option, None, Some}
use Rattle.std.proofs.Common.{arith, ap, ◌∙◌, length-set, get_or-set_same, get_or-set_other, eqb-true, ltb-true, lt-ltb}
use Rattle.std.proofs.Math.Bool.{and-eq-true_iff}
use Rattle.std.proofs.lemmas.Bool.{eqb-false}
use Rattle.buffer.specs.Laws.Zero.{zeros-at}
use Rattle.paths.specs.declared.PathText.{PathText}
use Rattle.paths.specs.declared.PathText.TheVariants.{Root, Components}
use Rattle.paths.specs.Path.{path_text_of, components}
use Rattle.record.specs.Fields.{member, all_below}
use Rattle.volume_tree.specs.Volume.{Volume}
use Rattle.volume_tree.specs.Stored.{read_volume}
use Rattle.volume_tree.specs.Laws.Lent.{length-read}
use Rattle.log_rules.specs.Code.Flags.{stands, Holds}
use Rattle.volume_lookup.specs.Lookup.{component_answer, next_objects, components_objects, path_objects, lookup_answer, lookup_operands, reached_number, reached_results}
use Rattle.volume_lookup.specs.Laws.Lookup.{found_below}
use Rattle.volume_lookup.specs.Code.Marks.{objects_marked}
use Rattle.session.specs.Call.{Answer, answer}
use Rattle.session.specs.Call
use Rattle.session.specs.Step.{answer_of}
use Rattle.session_questions.specs.Code.Asked.{MayAsk}
use Rattle.session_questions.specs.Laws.Noted.{Asks}

-- what lookup answers
abbrev pub lookup_gives : Volume → List ℕ → Answer
lookup_gives v path = answer (reached_number (lookup_answer v path)) (reached_results (lookup_answer v path)) []

-- It is refused for its program, or answers of the view.
pub lookup-asks : {n b m p : ℕ} {s v l path : List ℕ} → Asks n b m p s v l (Call.lookup p path) (lookup_gives (read_volume n b v) path)
unfolding answer_of
lookup-asks = record { is = refl; quiet = λ x. refl }

-- "The other results of a refusal are 0."
pub lookup-refused : (e : LookupError) → reached_results (Err e) ≡ 0 ∷ []
lookup-refused BadName = refl
lookup-refused LongName = refl
lookup-refused NoObject = refl
lookup-refused WrongKind = refl

-- the marks with some objects added have these and what they had
marked-stands : (l m : List ℕ) → all_below (length m) l ≡ true → (x : ℕ) → stands (objects_marked l m) x ≡ (member x l || stands m x)
unfolding objects_marked member all_below
marked-stands [] m h x = refl
marked-stands (o ∷ l) m h x =
    let g = (and-eq-true_iff (ltb o (length m)) (all_below (length m) l)).0 h in
    let below = ltb-true o (length m) g.0 in
    marked-stands l (set m o 1) (ap (λ (k : ℕ). all_below k l) (length-set m o 1) ∙ g.1) x ∙ at (eqb x o) refl below
  where
    or-true : (t : Bool) → (t || true) ≡ true
    or-true true = refl
    or-true false = refl

    at : (t : Bool) → eqb x o ≡ t → o < length m → (member x l || stands (set m o 1) x) ≡ ((eqb x o || member x l) || stands m x)
    at true e below = let z = eqb-true x o e in rw (e, z, get_or-set_same m o 1 0 below) (or-true (member o l))
    at false e below = rw (e, get_or-set_other m o x 1 0 (eqb-false x o e))

-- the objects that components lead to are the volume's
objects-below : (v : Volume) (k : ℕ) → length v ≤ k → (o : ℕ) (cs : List (List ℕ)) → all_below k (components_objects v o cs) ≡ true
unfolding components_objects all_below
objects-below v k le o [] = refl
objects-below v k le o (c ∷ cs) = go (component_answer v o c) refl (λ i. objects-below v k le i cs)
  where
    go : (r : Result ℕ LookupError) → component_answer v o c ≡ r → ((i : ℕ) → all_below k (components_objects v i cs) ≡ true)
        → all_below k (next_objects r (λ i. components_objects v i cs)) ≡ true
    go (Ok i) e rest = let lt = found_below v o c i e in rw (lt-ltb i k (omega arith)) (rest i)
    go (Err BadName) e rest = refl
    go (Err LongName) e rest = refl
    go (Err NoObject) e rest = refl
    go (Err WrongKind) e rest = refl

operands-below : (v : Volume) (k : ℕ) → length v ≤ k → 0 < k → (path : List ℕ) → all_below k (lookup_operands v path) ≡ true
unfolding lookup_operands all_below
operands-below v k le h path = go (path_text_of path)
  where
    go : (t : Option PathText) → all_below k (path_objects t (components_objects v 0 (components path))) ≡ true
    go None = refl
    go (Some Root) = rw (lt-ltb 0 k h)
    go (Some Components) = rw (lt-ltb 0 k h) (objects-below v k le 0 (components path))

-- Marks that were none hold just lookup's operands.
pub marks-held : {n b m p : ℕ} {s v l : List ℕ} → MayAsk n b m p s v l → (path : List ℕ) {marks : List ℕ}
    → marks ≡ objects_marked (lookup_operands (read_volume n b v) path) (replicate 256 0) → Holds marks (lookup_operands (read_volume n b v) path)
marks-held {n} {b} {v = v} h path e =
    let w = read_volume n b v in
    let z = length-read n b v in
    let most = h.admitted.view.lent.most in
    let below = operands-below w 256 (omega arith) (omega arith) path in
    record {
      same =
          λ x.
          ap (λ (k : List ℕ). stands k x) e ∙ marked-stands (lookup_operands w path) (replicate 256 0) below x
          ∙ rw (zeros-at 256 x) (or-none (member x (lookup_operands w path)));
    }
  where
    or-none : (t : Bool) → (t || false) ≡ t
    or-none true = refl
    or-none false = refl
