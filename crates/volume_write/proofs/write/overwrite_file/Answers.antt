-- `volume_write::write::overwrite_file` meets its contract: the bytes of the block are those of the file.
-- Assumes nothing.
use Prim.Native.Nat.{◌<◌}
use mathlib.Core.Path.{◌∙◌}
use native.Mathlib.Omega.{arith}
use Rattle.volume_write.specs.Laws.Write.{formed-entry, overwritten-at}
use Rattle.volume_write.proofs.write.overwrite_file.Goals as goal

pub write_block-requires : goal.write_block-requires
write_block-requires c =
    let h : c.args.i < c.args.n = omega arith in
    let z = formed-entry c.args.n c.args.b c.args.s.now c.requires.formed c.args.i h in
    record {
      lent = c.requires.formed.lent;
      i_lt_n = h;
      in_bounds = (omega arith, omega arith, omega (arith, z.contents));
    }

pub returns : goal.returns
returns c =
    let a = c.args in
    c.write_block.ensures
    ∙ overwritten-at a.n a.b a.s.now c.requires.formed a.i c.requires.i_lt_n.0 a.offset a.src.now c.requires.i_lt_n.1 c.requires.in_bounds.2
