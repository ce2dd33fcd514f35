-- `volume_entry::field::usage_of` meets its contract, by the remainder. Assumes nothing.
use native.Mathlib.Omega.{arith}
use Rattle.volume_entry.specs.Entry.{usage}
use Rattle.volume_entry.proofs.field.usage_of.Goals as goal

pub returns-then-len-lt512 : goal.returns-then-len-lt512
unfolding usage
returns-then-len-lt512 c = omega arith

pub returns : goal.returns
unfolding usage
returns c = omega arith
