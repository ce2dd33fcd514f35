-- `log_fsync::sync_object` meets its contract: what is needed is found and sent with the log lent on to be read; then the log is changed.
-- Assumes nothing.
use native.Mathlib.Omega.{arith}
use Prim.Native.Nat.{ℕ, ◌≤◌}
use mathlib.Core.Path.{◌≡◌, refl, sym, ap, ◌∙◌, subst}
use mathlib.Core.List.{List, [], ◌∷◌}
use lib.ListN.{length}
use Rattle.volume_tree.specs.Stored.{read_volume}
use Rattle.log_rules.specs.Slot.{Slot, sequence_of, good_slots}
use Rattle.log_rules.specs.Stored.{read_log}
use Rattle.log_rules.proofs.Laws.Order.{Rising}
use Rattle.log_rules.proofs.Laws.Freed.{formed-rising}
use Rattle.log_rules.proofs.Laws.Geometry.{used-most, used-good, logged-most}
use Rattle.log_slots.specs.Laws.Head.{lent-slotted, lent-slots}
use Rattle.log_fsync.specs.Laws.Sync.{counted, stopped, carried, fell, noted-logged, noted-waits, freed, freed-logged, cut-after}
use borrow.Author.Rules.{rules}
use Rattle.log_fsync.proofs.sync_object.Goals as goal

-- what has room in so many bytes has room in these
room-kept : {k i j : ℕ} → i ≡ j → k ≤ j → k ≤ i
room-kept e h = omega arith

pub needed-d-requires : goal.needed-d-requires
needed-d-requires c =
    let a = c.args in
    let u = c.requires.logged in
    let q = c.used.ensures.1 a.n a.b u in
    let e = lent-slots a.n a.b a.m a.log.now u c.used.result q in record {
      slotted = lent-slotted a.n a.b a.m a.log.now u c.used.result q;
      object_bound = (c.requires.program_bound.1, omega (arith, ap (λ (x : List Slot). length x) e, used-most a.n a.b a.m a.log.now u, u.most));
      rising = subst (Rising sequence_of) (sym e) (formed-rising a.n a.b a.m (read_log a.m a.log.now) u.form);
    }

pub send_found-sent-requires : goal.send_found-sent-requires
send_found-sent-requires c =
    let a = c.args in
    let u = c.requires.logged in
    let q = c.used.ensures.1 a.n a.b u in
    let e = lent-slots a.n a.b a.m a.log.now u c.used.result q in record {
      formed = c.requires.formed;
      slotted = lent-slotted a.n a.b a.m a.log.now u c.used.result q;
      s_value = (
        ap (good_slots a.n a.b) e ∙ used-good a.n a.b a.m a.log.now u,
        room-kept {j = 1024} (search rules) (omega (arith, ap (λ (x : List Slot). length x) e, used-most a.n a.b a.m a.log.now u, u.most)),
      );
    }

pub free_sent-requires : goal.free_sent-requires
free_sent-requires c =
    let a = c.args in
    let u = c.requires.logged in
    let q = c.used.ensures.1 a.n a.b u in
    let e = lent-slots a.n a.b a.m a.log.now u c.used.result q in
    let l = read_log a.m a.log.now in
    let v = read_volume a.n a.b a.server.now in
    let h = counted a.b _ a.object v l _ c.send_found-sent.new.server c.needed-d.new.found c.send_found-sent.new.found c.send_found-sent.result c.needed-d.result e
    c.needed-d.ensures.these c.needed-d.ensures.wait c.needed-d.ensures.count c.send_found-sent.ensures in
    record {
      logged = logged-most a.n a.b a.m a.log.now u;
      log_in_bounds = (room-kept {j = 1024} (search rules) (omega (arith, used-most a.n a.b a.m a.log.now u, u.most)), h.waits);
    }

pub returns-then-sent-least : goal.returns-then-sent-least
returns-then-sent-least c =
    let a = c.args in
    let u = c.requires.logged in
    let q = c.used.ensures.1 a.n a.b u in
    let e = lent-slots a.n a.b a.m a.log.now u c.used.result q in
    let l = read_log a.m a.log.now in
    let v = read_volume a.n a.b a.server.now in
    let h = counted a.b a.k a.object v l _ c.send_found-sent.new.server c.needed-d.new.found c.send_found-sent.new.found c.send_found-sent.result c.needed-d.result e
    c.needed-d.ensures.these c.needed-d.ensures.wait c.needed-d.ensures.count c.send_found-sent.ensures in
    stopped a.b a.k a.program a.object a.m v l c.send_found-sent.new.server c.send_found-sent.new.found c.send_found-sent.result c.needed-d.result h (omega (arith, c.least.ensures, c.if-sent-least.true)) c.free_sent.new.log c.free_sent.ensures

pub note-requires : goal.note-requires
note-requires c =
    let a = c.args in
    let u = c.requires.logged in
    let q = c.used.ensures.1 a.n a.b u in
    let e = lent-slots a.n a.b a.m a.log.now u c.used.result q in
    record {
      logged = logged-most a.n a.b a.m a.log.now u;
      program_bound = c.requires.program_bound.0;
      by_index = (_, c.one-reached.ensures);
    }

pub free_sent-requires-2 : goal.free_sent-requires-2
free_sent-requires-2 c =
    let a = c.args in
    let u = c.requires.logged in
    let q = c.used.ensures.1 a.n a.b u in
    let e = lent-slots a.n a.b a.m a.log.now u c.used.result q in
    let l = read_log a.m a.log.now in
    let v = read_volume a.n a.b a.server.now in
    let h = counted a.b a.k a.object v l _ c.send_found-sent.new.server c.needed-d.new.found c.send_found-sent.new.found c.send_found-sent.result c.needed-d.result e
    c.needed-d.ensures.these c.needed-d.ensures.wait c.needed-d.ensures.count c.send_found-sent.ensures in
    let z = c.note.ensures.by_index_2 (a.object ∷ []) c.one-reached.ensures in
    let r : length c.send_found-sent.new.found ≡ 1024 = search rules in
    let set = c.send_found-sent.new.found in
    let logged = logged-most a.n a.b a.m a.log.now u in
    let noted =
    noted-logged a.b a.k a.program a.object a.m v l c.send_found-sent.new.server set c.send_found-sent.result c.needed-d.result h
    a.log.now logged refl c.requires.program_bound.0 c.note.new.log z in record {
      logged = noted;
      log_in_bounds = (
        room-kept {j = 1024} r (omega (arith, used-most 256 64 a.m c.note.new.log noted, u.most)),
        noted-waits a.b a.k a.program a.object a.m v l c.send_found-sent.new.server set c.send_found-sent.result c.needed-d.result h
            a.log.now logged refl c.requires.program_bound.0 c.note.new.log z,
      );
    }

pub returns-then-d-k : goal.returns-then-d-k
returns-then-d-k c =
    let a = c.args in
    let u = c.requires.logged in
    let q = c.used.ensures.1 a.n a.b u in
    let e = lent-slots a.n a.b a.m a.log.now u c.used.result q in
    let l = read_log a.m a.log.now in
    let v = read_volume a.n a.b a.server.now in
    let h = counted a.b a.k a.object v l _ c.send_found-sent.new.server c.needed-d.new.found c.send_found-sent.new.found c.send_found-sent.result c.needed-d.result e
    c.needed-d.ensures.these c.needed-d.ensures.wait c.needed-d.ensures.count c.send_found-sent.ensures in
    let z = c.note.ensures.by_index_2 (a.object ∷ []) c.one-reached.ensures in
    carried a.b a.k a.program a.object a.m v l c.send_found-sent.new.server c.send_found-sent.new.found c.send_found-sent.result c.needed-d.result h (omega (arith, c.least.ensures, c.if-sent-least.false)) c.if-d-k.true c.free_sent-2.new.log
    (freed a.b a.k a.program a.object a.m v l c.send_found-sent.new.server c.send_found-sent.new.found c.send_found-sent.result c.needed-d.result h a.log.now (logged-most a.n a.b a.m a.log.now u) refl c.requires.program_bound.0 c.note.new.log z c.free_sent-2.new.log c.free_sent-2.ensures)

pub discard-requires : goal.discard-requires
discard-requires c =
    let a = c.args in
    let u = c.requires.logged in
    let q = c.used.ensures.1 a.n a.b u in
    let e = lent-slots a.n a.b a.m a.log.now u c.used.result q in
    let l = read_log a.m a.log.now in
    let v = read_volume a.n a.b a.server.now in
    let h = counted a.b a.k a.object v l _ c.send_found-sent.new.server c.needed-d.new.found c.send_found-sent.new.found c.send_found-sent.result c.needed-d.result e
    c.needed-d.ensures.these c.needed-d.ensures.wait c.needed-d.ensures.count c.send_found-sent.ensures in
    let z = c.note.ensures.by_index_2 (a.object ∷ []) c.one-reached.ensures in
    freed-logged a.b a.k a.program a.object a.m v l c.send_found-sent.new.server c.send_found-sent.new.found c.send_found-sent.result c.needed-d.result h a.log.now (logged-most a.n a.b a.m a.log.now u) refl c.requires.program_bound.0 c.note.new.log z c.free_sent-2.new.log c.free_sent-2.ensures

pub returns : goal.returns
returns c =
    let a = c.args in
    let u = c.requires.logged in
    let q = c.used.ensures.1 a.n a.b u in
    let e = lent-slots a.n a.b a.m a.log.now u c.used.result q in
    let l = read_log a.m a.log.now in
    let v = read_volume a.n a.b a.server.now in
    let h = counted a.b a.k a.object v l _ c.send_found-sent.new.server c.needed-d.new.found c.send_found-sent.new.found c.send_found-sent.result c.needed-d.result e
    c.needed-d.ensures.these c.needed-d.ensures.wait c.needed-d.ensures.count c.send_found-sent.ensures in
    let z = c.note.ensures.by_index_2 (a.object ∷ []) c.one-reached.ensures in
    fell a.b a.k a.program a.object a.m v l c.send_found-sent.new.server c.send_found-sent.new.found c.send_found-sent.result c.needed-d.result h (omega (arith, c.least.ensures, c.if-sent-least.false)) (omega (arith, c.if-d-k.false)) c.discard.new.log
    (cut-after a.b a.k a.program a.object a.m v l c.send_found-sent.new.server c.send_found-sent.new.found c.send_found-sent.result c.needed-d.result h a.log.now (logged-most a.n a.b a.m a.log.now u) refl c.requires.program_bound.0 c.note.new.log z c.free_sent-2.new.log c.free_sent-2.ensures c.discard.new.log c.discard.ensures)
