-- `record_reader::read_record` meets its contract: what the fields give one after the other is exact, by `Laws/Exact`.
-- Assumes nothing.
use Rattle.record_reader.specs.declared.Whole.{Whole}
use Rattle.std.specs.Prelude.{Option}
use native.Mathlib.Omega.{arith}
use mathlib.Core.Path.{sym, subst}
use Rattle.record_reader.specs.Answer.{Exact}
use Rattle.record_reader.specs.Laws.Exact.{exact}
use Rattle.record_reader.proofs.read_record.Goals as goal

pub returns : goal.returns
returns c =
    let s = c.args.s.now in
    let at = c.args.at in
    record {
      value = c.record.ensures;
      exact = subst (λ (y : Option Whole). Exact s at y) (sym c.record.ensures) (exact s (λ i. omega (arith, c.type_inv.s i)) at);
    }
