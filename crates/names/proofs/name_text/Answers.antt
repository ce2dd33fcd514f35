-- `names::name_text` meets its contract: the tests before each return settle `good_text` and the length.
-- Assumes nothing.
use Prim.Native.Nat.{ℕ, ◌≤◌, ◌<◌}
use mathlib.Core.Bool.{true, false, and-false}
use mathlib.Core.List.{List}
use mathlib.Core.Path.{◌≡◌, sym, ◌∙◌}
use native.Mathlib.Omega.{arith}
use lib.ListN.{length}
use borrow.Author.Tests.{le-leb, lt-leb}
use Rattle.std.specs.Prelude.{Ok, Err}
use Rattle.names.specs.declared.NameError.TheVariants.{Bad, Long}
use Rattle.names.specs.Name.{all_permitted, is_dots, good_text, name_text_of}
use Rattle.names.proofs.name_text.Goals as goal

module _ (s : List ℕ) where
  empty : length s ≡ 0 → Err Bad ≡ name_text_of s
  unfolding name_text_of good_text
  empty h = simp (lt-leb 1 (length s) (omega arith))

  dotted : is_dots s ≡ true → Err Bad ≡ name_text_of s
  unfolding name_text_of good_text
  dotted d = simp (d, and-false)

  unpermitted : all_permitted s ≡ false → Err Bad ≡ name_text_of s
  unfolding name_text_of good_text
  unpermitted p = simp (p, and-false)

  module _ (some : length s ≡ 0 → ⊥) (d : is_dots s ≡ false) (p : all_permitted s ≡ true) where
    fine : length s ≤ 60 → Ok (tt {0}) ≡ name_text_of s
    unfolding name_text_of good_text
    fine h = simp (le-leb 1 (length s) (omega arith), d, p, le-leb (length s) 60 h)

    long : 60 < length s → Err Long ≡ name_text_of s
    unfolding name_text_of good_text
    long h = simp (le-leb 1 (length s) (omega arith), d, p, lt-leb (length s) 60 h)

pub returns-then-s-eq0 : goal.returns-then-s-eq0
returns-then-s-eq0 c = empty c.args.s.now (omega arith)

pub returns-then-is_dots : goal.returns-then-is_dots
returns-then-is_dots c = dotted _ (sym c.is_dots.ensures ∙ c.if-is_dots.true)

pub returns-then-s-le-LONGEST_NAME : goal.returns-then-s-le-LONGEST_NAME
returns-then-s-le-LONGEST_NAME c =
    fine c.args.s.now
    (omega arith)
    (sym c.is_dots.ensures ∙ c.if-is_dots.false)
    (sym c.all_permitted.ensures ∙ c.if-all_permitted.true)
    (omega arith)

pub returns-then-all_permitted : goal.returns-then-all_permitted
returns-then-all_permitted c =
    long c.args.s.now
    (omega arith)
    (sym c.is_dots.ensures ∙ c.if-is_dots.false)
    (sym c.all_permitted.ensures ∙ c.if-all_permitted.true)
    (omega arith)

pub returns : goal.returns
returns c = unpermitted _ (sym c.all_permitted.ensures ∙ c.if-all_permitted.false)
