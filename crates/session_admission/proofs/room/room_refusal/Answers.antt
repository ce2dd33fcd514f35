-- `session_admission::room::room_refusal` meets its contract. Assumes nothing.
use native.Mathlib.Omega.{arith}
use Prim.Native.Nat.{◌+◌}
use borrow.Author.Tests.{lt-ltb, le-ltb}
use lib.ListN.{length}
use Rattle.log_rules.specs.Stored.{read_log}
use Rattle.session.specs.Code.Table.{first_number}
use Rattle.session_admission.proofs.room.room_refusal.Goals as goal

pub returns-then-m-used : goal.returns-then-m-used
unfolding first_number
returns-then-m-used c =
    let a = c.args in
    rw (lt-ltb a.m (length (read_log a.m a.log.now).slots + a.count) (omega (arith, c.used.ensures.1 a.n a.b c.requires.logged)))

pub returns-then-next_number-count-gt-LAST : goal.returns-then-next_number-count-gt-LAST
unfolding first_number
returns-then-next_number-count-gt-LAST c =
    let a = c.args in
    rw (
      le-ltb a.m (length (read_log a.m a.log.now).slots + a.count) (omega (arith, c.used.ensures.1 a.n a.b c.requires.logged)),
      lt-ltb 4294967295 ((read_log a.m a.log.now).head.next + a.count) (omega (arith, c.next_number.ensures.0)),
    )

pub returns : goal.returns
unfolding first_number
returns c =
    let a = c.args in
    rw (
      le-ltb a.m (length (read_log a.m a.log.now).slots + a.count) (omega (arith, c.used.ensures.1 a.n a.b c.requires.logged)),
      le-ltb 4294967295 ((read_log a.m a.log.now).head.next + a.count) (omega (arith, c.next_number.ensures.0)),
    )
