-- `log_send::send_at` meets its contract: a slot that is not in the set is passed over, one that is sent stays in it, and another is taken out.
-- Assumes nothing.
use Prim.Native.Nat.{ℕ, ◌≤◌, ◌<◌}
use native.Mathlib.Omega.{arith}
use mathlib.Core.Path.{◌≡◌, refl, sym, ◌∙◌}
use mathlib.Core.List.{List}
use mathlib.Core.Bool.{Bool, true, false}
use borrow.Author.Tests.{eq-eqb, ne_eqb}
use Rattle.record.specs.Operation.{Operation}
use Rattle.volume_tree.specs.Volume.{Volume}
use Rattle.volume_tree.specs.Stored.{encode_volume, read_volume}
use Rattle.volume_tree.specs.Laws.Answer.{settled}
use Rattle.volume_apply.specs.Apply.{applies, apply}
use Rattle.log_rules.specs.Code.Slots.{slots_in, slot_at}
use Rattle.log_send.specs.declared.Tally.{Tally}
use Rattle.log_send.specs.Code.Sends.{Sent, passed, went, stopped}
use Rattle.log_send.proofs.send_at.Goals as goal
use Rattle.log_send.proofs.send_at.Goals.{then-sent-tally+else-send_slot, else-sent-tally}

module _ (b : ℕ) (v : Volume) (o : Operation) where
  -- an operation that was sent applied, and the server has it
  applied : (s : List ℕ) (r : Bool) → Sent b v o s r → r ≡ true → (applies v o ≡ true) × (s ≡ encode_volume b (apply v o))
  applied s r x e = let f : applies v o ≡ true = settled x.answer e in (f, rw f at x.server)

  -- one that was not sent left the server: it did not apply, or no more could be sent
  refused : (t : Tally) (s u : List ℕ) (r : Bool) → Sent b v o s r → r ≡ false → u ≡ s → (u ≡ encode_volume b v) × (t.sent < t.most → applies v o ≡ false)
  refused t s u r x e q = let f : applies v o ≡ false = settled x.answer e in (q ∙ (rw f at x.server), λ l. f)

  full : (t : Tally) (u : List ℕ) → t.most ≤ t.sent → u ≡ encode_volume b v → (u ≡ encode_volume b v) × (t.sent < t.most → applies v o ≡ false)
  full t u l q = (q, λ h. absurd (omega arith))

pub returns-then-found-i-ne1 : goal.returns-then-found-i-ne1
returns-then-found-i-ne1 c =
    passed (ne_eqb _ 1 c.if-found-i-ne1.true) (sym c.requires.formed.stored) refl refl

pub returns-then-send_slot : goal.returns-then-send_slot
returns-then-send_slot c =
    let a = c.args in
    let x = applied a.b (read_volume a.n a.b a.server.now) (slot_at (slots_in a.s.now) a.i).recorded.operation c.send_slot.new.server c.send_slot.result
    c.send_slot.ensures c.if-send_slot.true in
    went (eq-eqb _ 1 c.if-found-i-ne1.false) c.if-sent-tally.true x.0 x.1 refl refl

pub returns : goal.returns
returns c =
    let a = c.args in
    let v = read_volume a.n a.b a.server.now in
    let o = (slot_at (slots_in a.s.now) a.i).recorded.operation in
    let x : (c.if-sent-tally.server ≡ encode_volume a.b v) × (a.tally.sent < a.tally.most → applies v o ≡ false) = elim c.if-sent-tally.branch [
      | then-sent-tally+else-send_slot w ↦
          refused a.b v o a.tally w.send_slot.new.server c.if-sent-tally.server w.send_slot.result w.send_slot.ensures w.if-send_slot.false w.server-is
      | else-sent-tally w ↦ full a.b v o a.tally c.if-sent-tally.server w.if-sent-tally.false (w.server-is ∙ sym c.requires.formed.stored)
    ] in
    stopped (eq-eqb _ 1 c.if-found-i-ne1.false) x.1 x.0 refl refl
