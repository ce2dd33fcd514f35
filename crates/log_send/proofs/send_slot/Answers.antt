-- `log_send::send_slot` meets its contract: the reader finds the slot's record, which fits, and its operation is applied if it applies.
-- Assumes nothing.
use Prim.Native.Nat.{ℕ}
use mathlib.Core.Path.{◌≡◌, sym, ap}
use mathlib.Core.List.{List}
use mathlib.Core.Bool.{true, false}
use Rattle.record.specs.Operation.{Operation, Record}
use Rattle.volume_tree.specs.Volume.{Volume}
use Rattle.volume_tree.specs.Stored.{encode_volume, read_volume}
use Rattle.volume_tree.specs.Laws.Answer.{settled}
use Rattle.volume_apply.specs.Apply.{applies, apply}
use Rattle.log_rules.specs.Code.Slots.{slots_in}
use Rattle.log_send.specs.Code.Sends.{Sent}
use Rattle.log_send.specs.Laws.Send.{record-there, record-found, record-fitting}
use Rattle.log_send.proofs.send_slot.Goals as goal

-- the operation that was found, which is the slot's, applied or did not
module _ (b : ℕ) (v : Volume) (x o : Operation) (e : x ≡ o) (s : List ℕ) where
  did-apply : applies v x ≡ true → s ≡ encode_volume b (apply v x) → Sent b v o s true
  did-apply a h = let f : applies v o ≡ true = rw e at a in record { answer = sym f; server = rw f (rw e at h) }

  did-not : applies v x ≡ false → s ≡ encode_volume b v → Sent b v o s false
  did-not a h = let f : applies v o ≡ false = rw e at a in record { answer = sym f; server = rw f h }

pub returns-in_default : goal.returns-in_default
returns-in_default c =
    let a = c.args in
    let p = c.requires.s_value in
    absurd (record-there a.n a.b (slots_in a.s.now) p.0 a.i p.1 c.recorded-rec.result.now c.recorded-rec.ensures.0
    (settled c.in_default.is c.read_record.ensures.value))

pub applies-requires : goal.applies-requires
applies-requires c =
    let a = c.args in
    let p = c.requires.s_value in record {
      lent = c.requires.formed.lent;
      fitting = record-fitting a.n a.b (slots_in a.s.now) p.0 a.i p.1 c.recorded-rec.result.now c.recorded-rec.ensures.0
          c.in-Some.w c.in-Some.ensures.value;
    }

pub apply-requires : goal.apply-requires
apply-requires c =
    let a = c.args in
    let p = c.requires.s_value in record {
      formed = c.requires.formed;
      fitting = record-fitting a.n a.b (slots_in a.s.now) p.0 a.i p.1 c.recorded-rec.result.now c.recorded-rec.ensures.0
          c.in-Some.w c.in-Some.ensures.value;
      w_value = settled c.applies.ensures c.if-applies.true;
    }

pub returns-then-applies : goal.returns-then-applies
returns-then-applies c =
    let a = c.args in
    let p = c.requires.s_value in
    let v = read_volume a.n a.b a.server.now in
    let e = ap (λ (r : Record). r.operation) (record-found a.n a.b (slots_in a.s.now) p.0 a.i p.1 c.recorded-rec.result.now c.recorded-rec.ensures.0
    c.in-Some.w c.in-Some.ensures.value) in
    did-apply a.b v _ _ e c.apply.new.s (settled c.applies.ensures c.if-applies.true) c.apply.ensures

pub returns : goal.returns
returns c =
    let a = c.args in
    let p = c.requires.s_value in
    let v = read_volume a.n a.b a.server.now in
    let e = ap (λ (r : Record). r.operation) (record-found a.n a.b (slots_in a.s.now) p.0 a.i p.1 c.recorded-rec.result.now c.recorded-rec.ensures.0
    c.in-Some.w c.in-Some.ensures.value) in
    did-not a.b v _ _ e a.server.now (settled c.applies.ensures c.if-applies.false) (sym c.requires.formed.stored)
