-- `log_draft::apply_record` meets its contract: the reader finds the record that the slice begins with. Assumes nothing.
use mathlib.Core.Path.{ap, ◌∙◌}
use Rattle.record.specs.Operation.{Record}
use Rattle.volume_tree.specs.Stored.{encode_volume, read_volume}
use Rattle.volume_tree.specs.Laws.Answer.{settled}
use Rattle.volume_apply.specs.Apply.{applies, apply}
use Rattle.volume_applies.specs.Laws.Held.{held-there, held_found, held-fitting}
use Rattle.log_draft.proofs.apply_record.Goals as goal

pub returns-in_default : goal.returns-in_default
returns-in_default c r g i =
    let a = c.args in
    absurd (held-there a.rec.now r g.rest i.sound g.bytes (settled c.in_default.is c.read_record.ensures.value))

pub apply-requires : goal.apply-requires
apply-requires c =
    let a = c.args in
    let p = c.requires.begins in
    let q = c.in-Some.ensures.value in
    let w = c.in-Some.w in record {
      formed = c.requires.formed;
      fitting = held-fitting a.rec.now p.0 p.1.rest p.2.sound p.1.bytes w q a.n a.b p.2.fit;
      w_value = ap (λ (r : Record). applies (read_volume a.n a.b a.view.now) r.operation) (held_found a.rec.now p.0 p.1.rest p.2.sound p.1.bytes w q) ∙ p.2.ready;
    }

pub returns : goal.returns
returns c r g i =
    let a = c.args in
    let q = c.in-Some.ensures.value in
    c.apply.ensures
    ∙ ap (λ (r : Record). encode_volume a.b (apply (read_volume a.n a.b a.view.now) r.operation)) (held_found a.rec.now r g.rest i.sound g.bytes c.in-Some.w q)
