-- `volume_entry_form::data_formed` meets its contract: the file length, and the bytes behind so much data. Assumes nothing.
use Prim.Native.Nat.{◌+◌}
use mathlib.Core.Path.{sym, ap, ◌∙◌}
use Rattle.buffer.specs.Code.Zero.{zeros}
use Rattle.buffer.specs.Laws.Span.{take_rest}
use Rattle.volume_entry_form.specs.Laws.Test.{data-long, data-short}
use Rattle.volume_entry_form.proofs.data_formed.Goals as goal

pub returns-then-b-len : goal.returns-then-b-len
returns-then-b-len c =
    let a = c.args in
    sym (data-long a.b a.e.now c.four_at-len.result c.four_at-len.ensures.0 c.if-b-len.true)

pub returns : goal.returns
returns c =
    let a = c.args in
    c.all_zero.ensures
    ∙ ap zeros (take_rest (68 + c.four_at-len.result) a.e.now)
    ∙ sym (data-short a.b a.e.now c.four_at-len.result c.four_at-len.ensures.0 c.if-b-len.false)
