-- `volume_entry_form::entry_formed` meets its contract, by the kind's byte. Assumes nothing.
use mathlib.Core.Path.{sym, ap, ◌∙◌}
use Rattle.buffer.specs.Code.Zero.{zeros}
use Rattle.buffer.specs.Laws.Span.{take_rest}
use Rattle.volume_entry_form.specs.Laws.Test.{free-formed, kind-unknown, name-unformed, file-formed, directory-formed}
use Rattle.volume_entry_form.proofs.entry_formed.Goals as goal

pub returns-then-kind-eq-FREE : goal.returns-then-kind-eq-FREE
returns-then-kind-eq-FREE c =
    let a = c.args in
    c.all_zero.ensures ∙ sym (free-formed a.b a.e.now c.byte_at-kind.result c.byte_at-kind.ensures.0 c.if-kind-eq-FREE.true)

pub returns-then-kind-gt-DIRECTORY : goal.returns-then-kind-gt-DIRECTORY
returns-then-kind-gt-DIRECTORY c =
    let a = c.args in
    sym (kind-unknown a.b a.e.now c.byte_at-kind.result c.byte_at-kind.ensures.0 c.if-kind-gt-DIRECTORY.true)

pub returns-then-kind-eq-FILE : goal.returns-then-kind-eq-FILE
returns-then-kind-eq-FILE c =
    let a = c.args in
    let named = sym c.name_formed.ensures ∙ c.if-name_formed.true in
    c.data_formed.ensures ∙ sym (file-formed a.b a.e.now c.byte_at-kind.result c.byte_at-kind.ensures.0 c.if-kind-eq-FILE.true named)

pub returns-then-name_formed : goal.returns-then-name_formed
returns-then-name_formed c =
    let a = c.args in
    let named = sym c.name_formed.ensures ∙ c.if-name_formed.true in
    c.all_zero-then-name_formed.ensures
    ∙ ap zeros (take_rest 64 a.e.now)
    ∙ sym (directory-formed a.b a.e.now c.byte_at-kind.result c.byte_at-kind.ensures.0 c.if-kind-eq-FREE.false c.if-kind-eq-FILE.false
    c.if-kind-gt-DIRECTORY.false named)

pub returns : goal.returns
returns c =
    let a = c.args in
    sym (name-unformed a.b a.e.now c.byte_at-kind.result c.byte_at-kind.ensures.0 c.if-kind-eq-FREE.false
    (sym c.name_formed.ensures ∙ c.if-name_formed.false))
