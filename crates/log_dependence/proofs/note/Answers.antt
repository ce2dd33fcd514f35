-- `log_dependence::note` meets its contract: the used slots are lent on as a part. Assumes nothing.
use Prim.Native.Nat.{ℕ, ◌*◌}
use mathlib.Core.Path.{◌≡◌, ap, ◌∙◌, subst}
use mathlib.Core.List.{List}
use Rattle.log_rules.specs.Slot.{Slot}
use Rattle.log_rules.specs.Stored.{slot_bytes, encode_slots, read_log}
use Rattle.log_rules.proofs.Laws.Stored.{length-slots}
use Rattle.log_rules.specs.Depend.{reach, noted}
use Rattle.log_rules.proofs.Laws.Change.{noted-good, noted-length}
use Rattle.log_rules.proofs.Laws.Geometry.{used-good}
use Rattle.log_rules.specs.Code.Slots.{slots_in}
use Rattle.log_rules.specs.Code.Flags.{Holds}
use Rattle.log_slots.specs.Laws.Head.{lent_part, lent-slotted, lent-slots, used-back}
use Rattle.log_dependence.proofs.note.Goals as goal

pub note_slots-requires : goal.note_slots-requires
note_slots-requires c =
    let a = c.args in
    let u = c.used.ensures.1 256 64 c.requires.logged in
    record {
      slotted = lent-slotted 256 64 a.m a.log.now c.requires.logged c.used.result u;
      program_bound = c.requires.program_bound;
      by_index = c.requires.by_index;
    }

pub returns : goal.returns
returns c =
    let a = c.args in
    let s = a.log.now in
    let q = c.requires.logged in
    let u = c.used.ensures.1 256 64 q in
    let l = (read_log a.m s).slots in
    let is : slots_in (lent_part c.used.result s) ≡ l = lent-slots 256 64 a.m s q c.used.result u in
    let g = used-good 256 64 a.m s q in record {
      by_index_2 = λ ops k. used-back 256 64 a.m s q c.used.result u c.note_slots.new.s (noted a.program ops l)
          (c.note_slots.ensures.by_index_2 ops k ∙ ap (λ (x : List Slot). encode_slots (noted a.program ops x)) is)
          (length-slots 256 64 (noted a.program ops l) (noted-good 256 64 a.program ops l c.requires.program_bound g) ∙ ap (λ (i : ℕ). i * slot_bytes) (noted-length a.program ops l));
      by_index_3 = λ ops k. subst (λ (x : List Slot). Holds c.note_slots.new.reached (reach ops x)) is (c.note_slots.ensures.by_index_3 ops k);
    }
