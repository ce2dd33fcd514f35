-- `log_draft::issue_log` meets its contract: the used slots are noted as a part of the log, and the slot is opened behind them. Assumes
-- nothing.
use native.Mathlib.Omega.{arith}
use Prim.Native.Nat.{ℕ, ◌≤◌, ◌<◌}
use mathlib.Core.Path.{◌≡◌}
use mathlib.Core.List.{List, []}
use Rattle.record.specs.Operation.{Record}
use Rattle.log_rules.specs.Slot.{Log}
use Rattle.log_draft.specs.declared.Draft.{Draft}
use Rattle.log_draft.specs.Code.Draft.{Placed}
use lib.ListN.{length}
use Rattle.log_slots.specs.Laws.Slot.{head-limits}
use Rattle.log_draft.specs.Laws.Draft.{draft-within, draft-part, draft-slotted, draft-next, issued-all}
use borrow.Author.Rules.{rules}
use Rattle.log_draft.proofs.issue_log.Goals as goal

-- what has room in as many bytes has room in these
room-kept : {k i j : ℕ} → i ≡ j → k ≤ j → k ≤ i
room-kept e h = omega arith

-- its issuer is one of the 32 programs
small : {n b m : ℕ} {d : Draft} {s : List ℕ} {l : Log} {r : Record} → Placed n b m d s l r → d.by.program < 32
small {r = r} p = omega (arith, (head-limits r p.sound).1, p.issuer)

pub slice_bounds-rec-count : goal.slice_bounds-rec-count
slice_bounds-rec-count c = let w = draft-within c.requires.2 in omega arith

pub slice_bounds-rec-start : goal.slice_bounds-rec-start
slice_bounds-rec-start c = let w = draft-within c.requires.2 in omega arith

pub slice_bounds-rec-end : goal.slice_bounds-rec-end
slice_bounds-rec-end c = let w = draft-within c.requires.2 in omega arith

pub slice_bounds-note_slots-count : goal.slice_bounds-note_slots-count
slice_bounds-note_slots-count c = let w = draft-within c.requires.2 in omega arith

pub slice_bounds-note_slots-start : goal.slice_bounds-note_slots-start
slice_bounds-note_slots-start c = let w = draft-within c.requires.2 in omega arith

pub slice_bounds-note_slots-end : goal.slice_bounds-note_slots-end
slice_bounds-note_slots-end c = let w = draft-within c.requires.2 in omega arith

pub note_slots-requires : goal.note_slots-requires
note_slots-requires c =
    let w = c.order_of.ensures.told c.requires.1 _ c.requires.2.sound (draft-part c.requires.2) in
    record {
      slotted = draft-slotted c.requires.2;
      program_bound = small c.requires.2;
      by_index = (_, c.add.ensures c.requires.1.operation [] w c.none-reached.ensures);
    }

pub set_waiting-requires : goal.set_waiting-requires
set_waiting-requires c =
    (room-kept {j = length c.args.log.now} (search rules) (draft-within c.requires.2).slot, small c.requires.2)

pub overflow_add-next : goal.overflow_add-next
overflow_add-next c = let h = c.requires.2 in record { fits = omega (arith, draft-next h, h.numbers) }

pub put_four-requires : goal.put_four-requires
put_four-requires c =
    room-kept {j = length c.args.log.now} (search rules) (omega (arith, (draft-within c.requires.2).slot))

pub returns : goal.returns
returns c l r h =
    let w = c.order_of.ensures.told r _ h.sound (draft-part h) in
    record {
      gives = draft-next h;
      log = issued-all h c.note_slots.new.s c.set_waiting.new.log c.put_four.new.buf
          (c.note_slots.ensures.by_index_2 _ (c.add.ensures r.operation [] w c.none-reached.ensures)) c.set_waiting.ensures c.put_four.ensures.placed;
    }
