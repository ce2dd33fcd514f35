-- `script_bytes::put_hex` meets its contract.
-- Assumes nothing.
use Rattle.std.proofs.Common.{◌+◌, set, refl, arith}
use Rattle.std.proofs.Math.ListN.{length-set}
use Rattle.script_bytes.specs.Laws.Bytes.{digits-none, digits_more, digits-whole}
use Rattle.script_bytes.proofs.put_hex.Goals as goal

pub loop-b-init : goal.loop-b-init
loop-b-init c =
    let a = c.args in
    (omega arith, refl, digits-none (set a.out.now a.at 61) a.s.now (a.at + 1))

pub loop-b-preserved : goal.loop-b-preserved
loop-b-preserved c =
    let a = c.args in
    let l = c.loop-b in (
      omega arith,
      simp length-set (simp length-set at l.invariant.1),
      digits_more a.s.now l.b-index _ _ l.invariant.2 (omega arith) (omega (arith, length-set a.out.now a.at 61)) c.digit_of.ensures c.digit_of-in-loop-b.ensures,
    )

pub returns : goal.returns
returns c =
    let a = c.args in
    let l = c.loop-b in
    (omega arith, (digits-whole a.out.now a.s.now l.b-index l.invariant.2 (omega arith) (omega arith)).placed)
