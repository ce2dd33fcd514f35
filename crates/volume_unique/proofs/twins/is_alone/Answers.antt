-- `volume_unique::twins::is_alone` meets its contract. The loop's invariant: no entry passed behind the given one shares parent and name with it.
-- Assumes nothing.
use Prim.Native.Nat.{ℕ, ◌+◌, ◌<◌}
use mathlib.Core.Bool.{Bool, true, false, not}
use mathlib.Core.Path.{◌≡◌, sym, ap}
use native.Mathlib.Omega.{arith}
use lib.ListN.{length}
use borrow.Author.Count.{below_more}
use borrow.Author.Tests.{le-leb, lt-leb}
use Rattle.volume_tree.specs.Volume.{Volume}
use Rattle.volume_tree.specs.Form.{twins}
use Rattle.volume_tree.specs.Stored.{read_volume}
use Rattle.volume_tree.specs.Laws.Answer.{settled}
use Rattle.volume_tree.specs.Laws.Lent.{length-read}
use Rattle.volume_unique.specs.Code.Checks.{alone_from}
use Rattle.volume_unique.specs.Laws.Loop.{stopped, passed, no-child-alone}
use Rattle.volume_unique.proofs.twins.is_alone.Invariants.{test}
use Rattle.volume_unique.proofs.twins.is_alone.Goals as goal

module _ (v : Volume) (i : ℕ) where
  first : (k : ℕ) → k < i + 1 → test v i k ≡ true
  first k h = let t = le-leb k i (omega arith) in rw t

  later : (j : ℕ) → i < j → (t : Bool) → t ≡ twins v i j → test v i j ≡ not t
  later j h t e = rw (lt-leb j i h) (ap not (sym e))

pub is_child-requires : goal.is_child-requires
is_child-requires c = record { lent = c.requires.lent; i_lt_n = omega arith }

pub loop-j-init : goal.loop-j-init
loop-j-init c =
    let a = c.args in
    first (read_volume a.n a.b a.s.now) a.i

pub are_twins-requires : goal.are_twins-requires
are_twins-requires c =
    record {
      lent = c.requires.lent;
      gathered = c.requires.gathered;
      digested = c.requires.digested;
      i_lt_n = (omega arith, omega arith);
    }

pub returns-then-are_twins : goal.returns-then-are_twins
unfolding alone_from
returns-then-are_twins c =
    let a = c.args in
    let v = read_volume a.n a.b a.s.now in
    stopped (length v) a.n (test v a.i) (length-read a.n a.b a.s.now) c.loop-j.j (omega arith)
    (later v a.i c.loop-j.j (omega arith) true (settled c.if-are_twins.true c.are_twins.ensures))

pub loop-j-preserved : goal.loop-j-preserved
loop-j-preserved c =
    let a = c.args in
    let v = read_volume a.n a.b a.s.now in
    let t = later v a.i c.loop-j.j (omega arith) false (settled c.if-are_twins.false c.are_twins.ensures) in
    below_more _ c.loop-j.j c.loop-j.invariant t

pub returns-after-loop-j : goal.returns-after-loop-j
unfolding alone_from
returns-after-loop-j c =
    let a = c.args in
    let v = read_volume a.n a.b a.s.now in
    passed (length v) a.n (test v a.i) (length-read a.n a.b a.s.now) c.loop-j.j (omega arith) c.loop-j.invariant

pub returns-else-is_child : goal.returns-else-is_child
returns-else-is_child c =
    let a = c.args in
    no-child-alone (read_volume a.n a.b a.s.now) a.i _ (c.requires.gathered a.i) (settled c.is_child.ensures c.if-is_child.false)
