-- `log_slots::head::set_marks` meets its contract: 4 bytes put into the head. Assumes nothing.
use Prim.Native.Nat.{ℕ}
use mathlib.Core.Path.{ap, sym, ◌∙◌}
use mathlib.Core.List.{List}
use Rattle.buffer.specs.Numeral.{bytes}
use Rattle.buffer.specs.Patch.{patch}
use Rattle.log_rules.specs.Stored.{marks_at, read_log}
use Rattle.log_rules.proofs.Laws.Stored.{marks-stored}
use Rattle.log_slots.proofs.head.set_marks.Goals as goal

pub returns : goal.returns
returns c n b u =
    let a = c.args in
    c.put_four.ensures.placed ∙ ap (λ (t : List ℕ). patch t marks_at (bytes 4 a.v)) (sym u.stored) ∙ marks-stored a.m a.v (read_log a.m a.s.now)
