-- `rows::Row::read` meets its contract: each number of 4 bytes stands at its place of the row. Assumes nothing.
use mathlib.Core.Path.{refl}
use Rattle.std.proofs.Common.{drop-drop}
use Rattle.rows.proofs.Row.read.Goals as goal

pub returns : goal.returns
returns c =
    let s = c.args.bytes.now in
    rw (c.four_at.ensures.0, c.four_at-2.ensures.0, c.four_at-3.ensures.0, drop-drop 4 c.args.at s, drop-drop 8 c.args.at s) refl
