-- `volume_unique::digest::digests_of` meets its contract. The loop's invariant: the digests of the entries passed are gathered, and 0 stands
-- behind them. Assumes nothing.
use mathlib.Core.Path.{refl, ap, ◌∙◌}
use native.Mathlib.Omega.{arith}
use lib.ListN.{length-set}
use Rattle.volume_entry.specs.Entry.{name_of}
use Rattle.volume_tree.specs.Stored.{read_volume}
use Rattle.volume_tree.specs.Laws.Lent.{length-read}
use Rattle.volume_unique.specs.Code.Checks.{digest_from, digest}
use Rattle.buffer.specs.Laws.Zero.{zeros-at}
use Rattle.volume_unique.specs.Laws.Loop.{gather-next, gather-ended}
use Rattle.volume_unique.proofs.digest.digests_of.Goals as goal

pub loop-i-init : goal.loop-i-init
loop-i-init c = (refl, (λ j h. absurd (omega arith), λ j h. zeros-at 256 j))

pub entry-requires : goal.entry-requires
entry-requires c = record { lent = c.requires; i_lt_n = omega arith }

pub loop-i-preserved : goal.loop-i-preserved
loop-i-preserved c =
    let a = c.args in
    let v = read_volume a.n a.b a.s.now in
    let p = c.loop-i.digests in (
      length-set p c.loop-i.i c.digest_of.result ∙ c.loop-i.invariant.0,
      gather-next (λ e. digest (name_of e)) v c.loop-i.i p c.loop-i.invariant.1 (omega arith) c.digest_of.result
          (c.digest_of.ensures ∙ ap digest (c.name.ensures ∙ ap name_of c.entry.ensures.tells)),
    )

pub returns : goal.returns
unfolding digest_from
returns c =
    let a = c.args in
    gather-ended (λ e. digest (name_of e)) (read_volume a.n a.b a.s.now) c.loop-i.i c.loop-i.digests c.loop-i.invariant.1 refl
    (omega (arith, length-read a.n a.b a.s.now))
