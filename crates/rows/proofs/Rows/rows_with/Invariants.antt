-- `rows::Rows::rows_with` meets its contract. The loop's invariant: the rows counted, and those from i on that hold the length, are all
-- that do. Assumes nothing.
use Prim.Native.Nat.{◌+◌, ◌≤◌}
use mathlib.Core.Path.{◌≡◌}
use lib.ListN.{drop}
use Rattle.rows.specs.Rows.{rows_with}
use Rattle.rows.proofs.Rows.rows_with.Given as goal

abbrev pub invariant-loop-i : goal.invariant-loop-i
invariant-loop-i l = (l.held ≤ l.i) × (l.held + rows_with l.n (drop l.i l.self) ≡ rows_with l.n l.self)
