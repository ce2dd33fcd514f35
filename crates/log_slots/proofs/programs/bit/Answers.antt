-- `log_slots::programs::bit` meets its contract. Assumes nothing.
use Prim.Native.Nat.{◌*◌, ◌%◌, ◌^◌}
use mathlib.Core.Path.{◌≡◌}
use native.Mathlib.Omega.{arith}
use Rattle.log_slots.specs.Laws.Program.{bit-limits}
use Rattle.log_slots.proofs.programs.bit.Goals as goal

pub returns : goal.returns
returns c =
    let l = bit-limits c.args.p c.requires in
    let e : 1 * 2 ^ c.args.p % 18446744073709551616 ≡ 2 ^ c.args.p = omega arith in
    (e, omega arith, omega arith)
