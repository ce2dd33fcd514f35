-- `log_draft::set_waiting` meets its contract: one put right behind another. Assumes nothing.
use native.Mathlib.Omega.{arith}
use Prim.Native.Nat.{ℕ}
use mathlib.Core.Path.{ap, ◌∙◌}
use mathlib.Core.List.{◌++◌}
use Rattle.buffer.specs.Numeral.{bytes}
use Rattle.buffer.specs.Laws.Numeral.{length-bytes}
use Rattle.buffer.specs.Patch.{patch}
use Rattle.buffer.specs.Laws.Patch.{put_then, put-end}
use Rattle.log_draft.proofs.set_waiting.Goals as goal

pub put_four-requires : goal.put_four-requires
put_four-requires c = omega (arith, put-end 4 c.put_four-next.ensures (length-bytes 4 _))

pub returns : goal.returns
returns c =
    let a = c.args in
    (put_then c.put_four-next.ensures c.put_four.ensures).placed
    ∙ ap (λ (d : ℕ). patch a.log.now a.at (bytes 4 1 ++ bytes 4 d)) c.with_program.ensures
