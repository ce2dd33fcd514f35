-- `log_find::first_slot` meets its contract. The loop's invariant: no slot passed passes the test. Assumes nothing.
use native.Mathlib.Omega.{arith}
use mathlib.Core.Bool.{true, false}
use mathlib.Core.Path.{sym}
use Rattle.log_find.proofs.first_slot.Goals as goal

pub returns-then-test : goal.returns-then-test
returns-then-test g c =
    λ f l e h. (omega arith, sym (h c.loop-i.i true (omega arith) c.if-test.ensures), λ j k. sym (h j false (omega arith) (c.loop-i.invariant j k)))

pub returns : goal.returns
returns g c = λ f l e h j k. sym (h j false (omega arith) (c.loop-i.invariant j (omega arith)))
