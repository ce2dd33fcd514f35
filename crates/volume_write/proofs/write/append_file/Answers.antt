-- `volume_write::write::append_file` meets its contract: the data are written behind the file's, and then its length.
-- Assumes nothing.
use Prim.Native.Nat.{ℕ, ◌+◌, ◌*◌}
use mathlib.Core.Path.{ap, ◌∙◌}
use mathlib.Core.List.{List}
use lib.ListN.{length}
use Rattle.buffer.specs.Numeral.{bytes}
use Rattle.buffer.specs.Patch.{patch}
use Rattle.volume_entry.specs.Stored.{entry_bytes}
use Rattle.volume_write.specs.Laws.Write.{appended-at}
use Rattle.volume_write.proofs.write.append_file.Goals as goal

pub returns : goal.returns
returns c =
    let a = c.args in
    c.write_len.ensures
    ∙ ap (λ (r : List ℕ). patch r (a.i * entry_bytes a.b + 64) (bytes 4 (a.offset + length a.src.now))) c.write_block.ensures
    ∙ appended-at a.n a.b a.s.now c.requires.formed a.i c.requires.i_lt_n.0 a.offset a.src.now c.requires.i_lt_n.1 c.requires.i_lt_n.2 c.requires.in_bounds.2
