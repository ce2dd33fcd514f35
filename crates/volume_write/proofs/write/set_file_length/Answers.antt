-- `volume_write::write::set_file_length` meets its contract: what is cut off or added is zeroed, and then the length is written.
-- Assumes nothing.
use Prim.Native.Nat.{ℕ, ◌+◌, ◌*◌, ◌≤◌, ◌<◌, ◌-◌}
use mathlib.Core.Path.{◌≡◌, ap, ◌∙◌}
use mathlib.Core.List.{List}
use native.Mathlib.Omega.{arith}
use lib.ListN.{length, replicate}
use Rattle.buffer.specs.Numeral.{bytes}
use Rattle.buffer.specs.Patch.{patch}
use Rattle.volume_entry.specs.Entry.{contents_of}
use Rattle.volume_entry.specs.Stored.{entry_bytes}
use Rattle.volume_tree.specs.Code.Lent.{entry_in}
use Rattle.volume_write.specs.Laws.Write.{formed-entry, shortened-at, lengthened-at}
use Rattle.volume_write.proofs.write.set_file_length.Goals as goal

pub clear_data-requires : goal.clear_data-requires
clear_data-requires c =
    let h : c.args.i < c.args.n = omega arith in
    let z = formed-entry c.args.n c.args.b c.args.s.now c.requires.formed c.args.i h in
    let q = ap length (c.contents-old.ensures ∙ ap contents_of c.entry.ensures.tells) in
    record { lent = c.requires.formed.lent; i_lt_n = h; from_le_to = (omega arith, omega (arith, q, z.contents)) }

pub returns-then-len-old : goal.returns-then-len-old
returns-then-len-old c =
    let a = c.args in
    let o = entry_in a.n a.b a.s.now a.i in
    let q : length c.contents-old.result.now ≡ length (contents_of o) = ap length (c.contents-old.ensures ∙ ap contents_of c.entry.ensures.tells) in
    let m : a.len ≤ length (contents_of o) = omega (arith, q) in
    c.write_len.ensures
    ∙ ap (λ (r : List ℕ). patch r (a.i * entry_bytes a.b + 64) (bytes 4 a.len)) c.clear_data.ensures
    ∙ ap (λ (k : ℕ). patch (patch a.s.now (a.i * entry_bytes a.b + (68 + a.len)) (replicate (k - a.len) 0)) (a.i * entry_bytes a.b + 64) (bytes 4 a.len)) q
    ∙ shortened-at a.n a.b a.s.now c.requires.formed a.i c.requires.i_lt_n.0 a.len c.requires.i_lt_n.1 c.requires.i_lt_n.2 m

pub returns : goal.returns
returns c =
    let a = c.args in
    let o = entry_in a.n a.b a.s.now a.i in
    let q : length c.contents-old.result.now ≡ length (contents_of o) = ap length (c.contents-old.ensures ∙ ap contents_of c.entry.ensures.tells) in
    let m : length (contents_of o) ≤ a.len = omega (arith, q) in
    c.write_len-2.ensures
    ∙ ap (λ (r : List ℕ). patch r (a.i * entry_bytes a.b + 64) (bytes 4 a.len)) c.clear_data-2.ensures
    ∙ ap (λ (k : ℕ). patch (patch a.s.now (a.i * entry_bytes a.b + (68 + k)) (replicate (a.len - k) 0)) (a.i * entry_bytes a.b + 64) (bytes 4 a.len)) q
    ∙ lengthened-at a.n a.b a.s.now c.requires.formed a.i c.requires.i_lt_n.0 a.len c.requires.i_lt_n.1 c.requires.i_lt_n.2 m
