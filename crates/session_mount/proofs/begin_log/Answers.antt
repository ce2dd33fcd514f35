-- `session_mount::begin_log` meets its contract. Assumes nothing.
use Prim.Native.Nat.{ℕ}
use mathlib.Core.Path.{ap, ◌∙◌}
use mathlib.Core.List.{List}
use lib.ListN.{set, replicate}
use Rattle.session_mount.specs.Laws.Mount.{empty-log}
use Rattle.session_mount.proofs.begin_log.Goals as goal

pub returns : goal.returns
returns c =
    ap (λ (z : List ℕ). set z 0 1) (c.clear.ensures ∙ ap (λ (k : ℕ). replicate k 0) c.requires) ∙ empty-log c.args.m
