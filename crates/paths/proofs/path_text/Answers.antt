-- `paths::path_text` meets its contract: the tests before each return settle those of `path_text_of`.
-- Assumes nothing.
use Rattle.std.specs.Prelude.{None, Some}
use Prim.Native.Nat.{ℕ, ◌<◌}
use mathlib.Core.Bool.{and-false}
use mathlib.Core.List.{List}
use mathlib.Core.Path.{◌≡◌, sym}
use native.Mathlib.Omega.{arith}
use lib.ListN.{length, get_or}
use borrow.Author.Tests.{le-leb, lt-leb, eq-eqb, ne_eqb}
use Rattle.paths.specs.declared.PathText.TheVariants.{Root}
use Rattle.paths.specs.Path.{path_text_of}
use Rattle.paths.specs.Laws.Path.{path_components}
use Rattle.paths.proofs.path_text.Goals as goal

module _ (p : List ℕ) where
  empty : length p ≡ 0 → None ≡ path_text_of p
  unfolding path_text_of
  empty h = simp (lt-leb 1 (length p) (omega arith))

  long : 1023 < length p → None ≡ path_text_of p
  unfolding path_text_of
  long h = simp (lt-leb (length p) 1023 h, and-false)

  no_slash : (get_or p 0 0 ≡ 47 → ⊥) → None ≡ path_text_of p
  unfolding path_text_of
  no_slash h = simp (ne_eqb (get_or p 0 0) 47 h, and-false)

  root : length p ≡ 1 → get_or p 0 0 ≡ 47 → Some Root ≡ path_text_of p
  unfolding path_text_of
  root n h =
      simp (
        le-leb 1 (length p) (omega arith),
        le-leb (length p) 1023 (omega arith),
        eq-eqb (get_or p 0 0) 47 h,
        eq-eqb (length p) 1 n,
      )

pub returns-then-path-eq0 : goal.returns-then-path-eq0
returns-then-path-eq0 c = empty c.args.path.now (omega arith)

pub returns-then-path-gt1023 : goal.returns-then-path-gt1023
returns-then-path-gt1023 c = long c.args.path.now (omega arith)

pub returns-then-path-ne47 : goal.returns-then-path-ne47
returns-then-path-ne47 c = no_slash _ c.if-path-ne47.true

pub returns-then-path-eq1 : goal.returns-then-path-eq1
returns-then-path-eq1 c = root c.args.path.now (omega arith) c.if-path-ne47.false

pub returns : goal.returns
returns c =
    let p = c.args.path.now in
    sym (path_components p (omega arith) (omega arith) c.if-path-ne47.false)
