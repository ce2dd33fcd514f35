-- `volume_entry::field::contents` meets its contract: the stretch behind the file length of a file, and nothing of any other entry.
-- Assumes nothing.
use Prim.Native.Nat.{ℕ}
use mathlib.Core.Path.{sym, ap, ◌∙◌}
use lib.ListN.{take, drop}
use Rattle.volume_entry.specs.Stored.{read_entry}
use Rattle.volume_entry.specs.Laws.Field.{file-contents, other-contents}
use Rattle.volume_entry.proofs.field.contents.Goals as goal

pub returns-then-is_file : goal.returns-then-is_file
returns-then-is_file c =
    let s = c.args.e.now in
    c.stretch_of.ensures
    ∙ ap (λ (k : ℕ). take k (drop 68 s)) c.four_at.ensures.0
    ∙ sym (file-contents s (sym c.is_file.ensures ∙ c.if-is_file.true))

pub returns : goal.returns
returns c =
    sym (other-contents (read_entry c.args.e.now) (sym c.is_file.ensures ∙ c.if-is_file.false))
