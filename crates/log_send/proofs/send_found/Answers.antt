-- `log_send::send_found` meets its contract. The loop's invariant: the server has the operations that the set holds before the slot at i,
-- and with those that can yet be sent from there on they are all that can be sent.
-- Assumes nothing.
use Prim.Native.Nat.{ℕ, ◌<◌, ◌/◌}
use native.Mathlib.Omega.{arith}
use mathlib.Core.Path.{◌≡◌, refl, sym, ◌∙◌}
use mathlib.Core.List.{List}
use lib.ListN.{length}
use Rattle.volume_tree.specs.Stored.{read_volume}
use Rattle.log_rules.specs.Stored.{slot_bytes}
use Rattle.log_rules.specs.Code.Slots.{slots_in, Slotted}
use Rattle.log_rules.proofs.Laws.Geometry.{slotted-length}
use Rattle.log_send.specs.Laws.Turn.{sending-first, sending-next, sending-last}
use Rattle.log_send.proofs.send_found.Goals as goal

-- a turn is that of a used slot
used-slots : (s : List ℕ) → Slotted s → (i : ℕ) → i < length s / slot_bytes → i < length (slots_in s)
used-slots s u i h = omega (arith, slotted-length s u)

pub loop-i-init : goal.loop-i-init
loop-i-init c =
    let a = c.args in
    (refl, sending-first a.n a.b a.k (slots_in a.s.now) (read_volume a.n a.b a.server.now) a.found.now a.server.now c.requires.formed refl)

pub send_at-tally-requires : goal.send_at-tally-requires
send_at-tally-requires c =
    let l = c.loop-i in
    let p = c.requires.s_value in
    let h = used-slots c.args.s.now c.requires.slotted l.i (omega arith) in
    record { formed = l.invariant.1.formed; slotted = c.requires.slotted; s_value = (p.0, h, omega arith) }

pub loop-i-preserved : goal.loop-i-preserved
loop-i-preserved c =
    let l = c.loop-i in
    let a = c.args in
    let p = c.requires.s_value in
    let h = used-slots a.s.now c.requires.slotted l.i (omega arith) in
    let g : l.i < length l.found = omega arith in
    (omega arith, sending-next a.n a.b a.k (slots_in a.s.now) (read_volume a.n a.b a.server.now) a.found.now p.0 l.i l.server l.found l.tally l.invariant.1 h g _ _ _ c.send_at-tally.ensures)

pub shape_of-server : goal.shape_of-server
shape_of-server c =
    let l = c.loop-i in
    l.invariant.1.formed.lent.whole ∙ sym c.requires.formed.lent.whole

pub shape_of-found : goal.shape_of-found
shape_of-found c = c.loop-i.invariant.0

pub returns : goal.returns
returns c =
    let l = c.loop-i in
    let a = c.args in
    let e : l.i ≡ length (slots_in a.s.now) = omega (arith, slotted-length a.s.now c.requires.slotted) in
    sending-last a.n a.b a.k (slots_in a.s.now) (read_volume a.n a.b a.server.now) a.found.now l.i e l.server l.found l.tally l.invariant.1
