-- `log_draft::draft_of` meets its contract: the used slots are counted, and the places behind them are told. Assumes nothing.
use mathlib.Core.Path.{ap₂}
use Prim.Native.Nat.{ℕ}
use Rattle.log_draft.specs.Code.Draft.{draft_at}
use Rattle.log_draft.proofs.draft_of.Goals as goal

pub returns : goal.returns
returns c =
    ap₂ (λ (i j : ℕ). draft_at i j c.args.by) c.next_number-next.ensures.0 (c.used-used.ensures.1 c.requires.0 c.requires.1 c.requires.2)
