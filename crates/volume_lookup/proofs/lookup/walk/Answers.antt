-- `volume_lookup::lookup::walk` meets its contract. The loop's invariant: what is still to come of the path, from the object reached and with
-- the marks so far, gives the answer and the marks of the whole. The measure is what is left of the path. Assumes nothing.
use Rattle.volume_lookup.specs.declared.lookup.LookupError.TheVariants.{BadName, LongName, NoObject, WrongKind}
use Rattle.volume_lookup.specs.declared.lookup.LookupError.{LookupError}
use Rattle.std.specs.Prelude.{Result, Ok, Err}
use Prim.Native.Nat.{ℕ, ◌+◌, ◌≤◌, ◌<◌}
use native.Mathlib.Omega.{arith}
use mathlib.Core.Path.{◌≡◌, refl, sym, ◌∙◌}
use mathlib.Core.List.{List, ◌∷◌}
use mathlib.Core.Bool.{false}
use lib.ListN.{length, set}
use Rattle.paths.specs.Path.{components, component_at}
use Rattle.paths.specs.Laws.Path.{component-fits}
use Rattle.volume_tree.specs.Volume.{Volume}
use Rattle.volume_tree.specs.Stored.{read_volume}
use Rattle.volume_tree.specs.Laws.Lent.{length-read}
use Rattle.volume_lookup.specs.Lookup.{component_answer}
use Rattle.volume_lookup.specs.Laws.Lookup.{Stands, Walks, is_found, found_below, step-found, step-refused, step-ended, rest_at, rest-whole, rest-step, rest-none}
use Rattle.volume_lookup.proofs.lookup.walk.Goals as goal

module _ (v : Volume) (p m₀ : List ℕ) where
  -- the walk begins at the root, with all components before it
  starts : 1 ≤ length p → Stands v 0 (components p) m₀ 0 (rest_at p 1) m₀
  starts h = rw (rest-whole p h) (record { answer = refl; marks = refl })

  module _ (o at : ℕ) (m : List ℕ) (l : at ≤ length p) (w : Stands v 0 (components p) m₀ o (rest_at p at) m) (c : List ℕ) (e : c ≡ component_at p at) (r : Result ℕ LookupError) (q : r ≡ component_answer v o c) where
    -- the component at hand is the first of those left
    here : Stands v 0 (components p) m₀ o (c ∷ rest_at p (at + (length c + 1))) m
    here = rw e (rw (rest-step p at l) at w)

    goes : (i : ℕ) → r ≡ Ok i → Stands v 0 (components p) m₀ i (rest_at p (at + (length c + 1))) (set m i 1)
    goes i f = step-found v 0 (components p) m₀ o m c _ i (sym q ∙ f) here

    stops : is_found r ≡ false → Walks v 0 (components p) m₀ o m r
    stops f = step-refused v 0 (components p) m₀ o m c _ r (sym q) f here

  ends : (o at : ℕ) (m : List ℕ) → length p < at → Stands v 0 (components p) m₀ o (rest_at p at) m → Walks v 0 (components p) m₀ o m (Ok o)
  ends o at m l w = step-ended v 0 (components p) m₀ o m (rw (rest-none p at l) at w)

-- a component ends within the path
fits : (p : List ℕ) (at : ℕ) (c : List ℕ) → c ≡ component_at p at → at ≤ length p → at + length c ≤ length p
fits p at c e l = rw e (component-fits p at l)

-- what is found is one of the n objects
within : (n b : ℕ) (s : List ℕ) (o : ℕ) (c : List ℕ) (r : Result ℕ LookupError) → r ≡ component_answer (read_volume n b s) o c → (i : ℕ) → r ≡ Ok i → i < n
within n b s o c r q i f = rw (length-read n b s) at (found_below (read_volume n b s) o c i (sym q ∙ f))

-- what is not found is a refusal
refusal : (r : Result ℕ LookupError) → ((i : ℕ) → r ≡ Ok i → ⊥) → is_found r ≡ false
refusal (Ok i) k = absurd (k i refl)
refusal (Err BadName) k = refl
refusal (Err LongName) k = refl
refusal (Err NoObject) k = refl
refusal (Err WrongKind) k = refl

pub loop-at-init : goal.loop-at-init
loop-at-init c =
    let a = c.args in
    (omega arith, starts (read_volume a.n a.b a.s.now) a.path.now a.marks.now (omega arith))

pub returns-in_default : goal.returns-in_default
returns-in_default c =
    let a = c.args in
    let w = stops (read_volume a.n a.b a.s.now) a.path.now a.marks.now c.loop-at.o c.loop-at.at c.loop-at.marks
    c.loop-at-test.true c.loop-at.invariant.1 c.component-text.result.now c.component-text.ensures c.seek-answer.result c.seek-answer.ensures
    (refusal c.seek-answer.result c.in_default.not-Ok) in
    record { answer = w.0; operands = w.1 }

pub bounds-marks-i : goal.bounds-marks-i
bounds-marks-i c =
    let a = c.args in
    omega (arith, within a.n a.b a.s.now c.loop-at.o c.component-text.result.now c.seek-answer.result c.seek-answer.ensures c.in-Ok.i c.in-Ok.is)

pub overflow_add-at : goal.overflow_add-at
overflow_add-at c =
    omega (arith, fits _ c.loop-at.at c.component-text.result.now c.component-text.ensures c.loop-at-test.true)

pub overflow_add-at-in-loop-at : goal.overflow_add-at-in-loop-at
overflow_add-at-in-loop-at c =
    omega (arith, fits _ c.loop-at.at c.component-text.result.now c.component-text.ensures c.loop-at-test.true)

pub loop-at-preserved : goal.loop-at-preserved
loop-at-preserved c =
    let a = c.args in (
      within a.n a.b a.s.now c.loop-at.o c.component-text.result.now c.seek-answer.result c.seek-answer.ensures c.in-Ok.i c.in-Ok.is,
      goes (read_volume a.n a.b a.s.now) a.path.now a.marks.now c.loop-at.o c.loop-at.at c.loop-at.marks
          c.loop-at-test.true c.loop-at.invariant.1 c.component-text.result.now c.component-text.ensures c.seek-answer.result c.seek-answer.ensures
          c.in-Ok.i c.in-Ok.is,
    )

pub returns : goal.returns
returns c =
    let a = c.args in
    let w = ends (read_volume a.n a.b a.s.now) a.path.now a.marks.now c.loop-at.o c.loop-at.at c.loop-at.marks c.loop-at-test.false c.loop-at.invariant.1 in
    record { answer = w.0; operands = w.1 }
