-- `paths::component` meets its contract: the part up to where `component_end` found the end, and nothing past the path's end.
-- Assumes nothing.
use mathlib.Core.Path.{sym}
use native.Mathlib.Omega.{arith}
use Rattle.paths.specs.Path.{component_at}
use Rattle.paths.specs.Laws.Path.{up-end}
use Rattle.paths.proofs.component.Goals as goal

pub returns-then-at-path : goal.returns-then-at-path
unfolding component_at
returns-then-at-path c = c.component_end-end.ensures.2

pub returns-else-at-path : goal.returns-else-at-path
unfolding component_at
returns-else-at-path c =
    let a = c.args in
    sym (up-end a.path.now a.at (omega arith))
