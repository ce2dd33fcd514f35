-- `volume_lookup::lookup::lookup` meets its contract: the path's text settles whether it is refused, the root, or walked from the root.
-- Assumes nothing.
use Rattle.volume_lookup.specs.declared.lookup.LookupError.TheVariants.{BadName}
use Rattle.volume_lookup.specs.declared.lookup.LookupError.{LookupError}
use Rattle.std.specs.Prelude.{Result, Ok, Err, None, Some}
use Prim.Native.Nat.{ℕ}
use mathlib.Core.Path.{◌≡◌, sym}
use mathlib.Core.List.{List}
use native.Mathlib.Omega.{arith}
use lib.ListN.{set}
use Rattle.paths.specs.declared.PathText.TheVariants.{Root, Components}
use Rattle.paths.specs.Path.{path_text_of, components}
use Rattle.paths.specs.Laws.Path.{components-path}
use Rattle.volume_tree.specs.Volume.{Volume}
use Rattle.volume_tree.specs.Stored.{read_volume}
use Rattle.volume_lookup.specs.Lookup.{lookup_answer, lookup_operands, components_answer, components_objects}
use Rattle.volume_lookup.specs.Code.Marks.{objects_marked}
use Rattle.volume_lookup.proofs.lookup.lookup.Goals as goal

module _ (v : Volume) (path m : List ℕ) where
  -- an answer and the marks that are left are those of lookup
  abbrev Looks : List ℕ → Result ℕ LookupError → Type 0
  Looks after r = record { answer : r ≡ lookup_answer v path; operands : after ≡ objects_marked (lookup_operands v path) m }

  bad : None ≡ path_text_of path → Looks m (Err BadName)
  unfolding lookup_answer lookup_operands objects_marked
  bad e = record { answer = rw (← e); operands = rw (← e) }

  root : Some Root ≡ path_text_of path → Looks (set m 0 1) (Ok 0)
  unfolding lookup_answer lookup_operands objects_marked
  root e = record { answer = rw (← e); operands = rw (← e) }

  -- the root is marked, and then what the components lead to
  through : Some Components ≡ path_text_of path → (after : List ℕ) (r : Result ℕ LookupError) → r ≡ components_answer v 0 (components path)
      → after ≡ objects_marked (components_objects v 0 (components path)) (set m 0 1) → Looks after r
  unfolding lookup_answer lookup_operands objects_marked
  through e after r a w = record { answer = rw (← e) a; operands = rw (← e) w }

pub walk-requires : goal.walk-requires
walk-requires c =
    record {
      lent = c.requires;
      in_bounds = omega (arith, (components-path c.args.path.now (sym (rw c.in-Some-Components.field-0-is at c.in-Some-Components.ensures))).0);
    }

pub returns-in-None : goal.returns-in-None
returns-in-None c = let a = c.args in bad (read_volume a.n a.b a.s.now) a.path.now a.marks.now c.in-None.ensures

pub returns-in-Some-Root : goal.returns-in-Some-Root
returns-in-Some-Root c = let a = c.args in root (read_volume a.n a.b a.s.now) a.path.now a.marks.now (rw c.in-Some-Root.field-0-is at c.in-Some-Root.ensures)

pub returns-in-Some-Components : goal.returns-in-Some-Components
returns-in-Some-Components c =
    let a = c.args in
    through (read_volume a.n a.b a.s.now) a.path.now a.marks.now (rw c.in-Some-Components.field-0-is at c.in-Some-Components.ensures)
    c.walk.new.marks c.walk.result c.walk.ensures.answer c.walk.ensures.operands
