-- `volume_form::parents::parents_of` meets its contract. The loop's invariant: the parents of the entries passed are gathered, and 0 stands
-- behind them. Assumes nothing.
use mathlib.Core.Path.{refl, ap, ◌∙◌}
use native.Mathlib.Omega.{arith}
use lib.ListN.{length-set}
use Rattle.volume_entry.specs.Entry.{parent_of}
use Rattle.volume_tree.specs.Stored.{read_volume}
use Rattle.volume_tree.specs.Laws.Lent.{length-read}
use Rattle.buffer.specs.Laws.Zero.{zeros-at}
use Rattle.volume_unique.specs.Laws.Loop.{gather-next, gather-ended}
use Rattle.volume_form.proofs.parents.parents_of.Goals as goal

pub loop-i-init : goal.loop-i-init
loop-i-init c = (refl, (λ j h. absurd (omega arith), λ j h. zeros-at 256 j))

pub entry-requires : goal.entry-requires
entry-requires c = record { lent = c.requires; i_lt_n = omega arith }

pub loop-i-preserved : goal.loop-i-preserved
loop-i-preserved c =
    let a = c.args in
    let v = read_volume a.n a.b a.s.now in
    let p = c.loop-i.parents in (
      length-set p c.loop-i.i c.parent.result ∙ c.loop-i.invariant.0,
      gather-next parent_of v c.loop-i.i p c.loop-i.invariant.1 (omega arith) c.parent.result (c.parent.ensures.0 ∙ ap parent_of c.entry.ensures.tells),
    )

pub returns : goal.returns
returns c =
    let a = c.args in
    gather-ended parent_of (read_volume a.n a.b a.s.now) c.loop-i.i c.loop-i.parents c.loop-i.invariant.1 refl
    (omega (arith, length-read a.n a.b a.s.now))
