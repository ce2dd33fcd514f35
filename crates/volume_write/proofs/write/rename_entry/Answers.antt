-- `volume_write::write::rename_entry` meets its contract: a head with the entry's own kind renames it.
-- Assumes nothing.
use Prim.Native.Nat.{ℕ, ◌*◌}
use mathlib.Core.Path.{◌≡◌, ap, ◌∙◌}
use Rattle.buffer.specs.Patch.{patch}
use Rattle.volume_entry.specs.Entry.{kind_number}
use Rattle.volume_entry.specs.Stored.{entry_bytes}
use Rattle.volume_tree.specs.Code.Lent.{entry_in}
use Rattle.volume_entry.specs.Write.{head_field}
use Rattle.volume_write.specs.Laws.Write.{renamed-to}
use Rattle.volume_write.proofs.write.rename_entry.Goals as goal

pub returns : goal.returns
returns c =
    let a = c.args in
    let q : c.kind-code.result ≡ kind_number (entry_in a.n a.b a.s.now a.i) = c.kind-code.ensures ∙ ap kind_number c.entry.ensures.tells in
    c.write_head.ensures
    ∙ ap (λ (j : ℕ). patch a.s.now (a.i * entry_bytes a.b) (head_field j a.parent a.name.now)) q
    ∙ renamed-to a.n a.b a.s.now c.requires.formed a.i c.requires.i_lt_n.0 a.parent a.name.now c.requires.i_lt_n.1 c.requires.i_lt_n.2
