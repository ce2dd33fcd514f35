-- `log_compact::free_slots` meets its contract. The loop's invariant: of the slots read those that are kept stand in front, and the
-- others are where they were. Assumes nothing.
use Prim.Native.Nat.{◌≤◌, ◌<◌}
use mathlib.Core.Path.{◌≡◌}
use lib.ListN.{length, get_or}
use native.Mathlib.Omega.{arith}
use Rattle.log_rules.specs.Code.Slots.{slots_in}
use Rattle.log_compact.specs.Laws.Free.{none_read, turn-freed, turn-kept, all-counted, all-freed}
use Rattle.log_compact.proofs.free_slots.Goals as goal

pub loop-read-init : goal.loop-read-init
loop-read-init c = none_read c.args.s.now c.args.freed.now c.requires.slotted

pub loop-read-preserved : goal.loop-read-preserved
loop-read-preserved c =
    let e = c.args.s.now in
    let f = c.args.freed.now in
    let l = c.loop-read in
    let more : l.read < length (slots_in e) = omega arith in
    let stays = λ (h : get_or f l.read 0 ≡ 1 → ⊥). turn-kept e f l.s l.read l.write c.requires.slotted c.requires.s_in_bounds l.invariant more h in
    let goes = λ (h : get_or f l.read 0 ≡ 1). turn-freed e f l.s l.read l.write c.requires.slotted c.requires.s_in_bounds l.invariant more h in
    grind (arith, stays, goes)

pub returns : goal.returns
returns c =
    let all : length (slots_in c.args.s.now) ≤ c.loop-read.read = omega arith in record {
      s_after = all-freed c.args.s.now c.args.freed.now c.loop-read.s c.loop-read.read c.loop-read.write c.loop-read.invariant all c.clear.new.s c.clear.ensures;
      value = all-counted c.args.s.now c.args.freed.now c.loop-read.s c.loop-read.read c.loop-read.write c.loop-read.invariant all;
    }
