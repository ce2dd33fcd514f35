-- `script_words::number::read_number` meets its contract.
-- Assumes nothing.
use native.Mathlib.Omega.{arith}
use Rattle.std.proofs.Common.{◌≡◌, ◌+◌, ◌*◌, ◌-◌, get_or}
use Rattle.script_words.specs.Laws.Number.{begun-none, begun_more, begun-whole, whole-zero, refused-empty, refused-zero, refused-byte, refused-large}
use Rattle.script_words.proofs.number.read_number.Goals as goal

pub returns-in_default : goal.returns-in_default
returns-in_default c = λ x s e. refused-empty c.args.w.now (omega arith) x e

pub returns-then-w-eq1 : goal.returns-then-w-eq1
returns-then-w-eq1 c = (whole-zero c.args.w.now c.if-first-eq-ZERO.true c.if-w-eq1.true, omega arith)

pub returns-else-w-eq1 : goal.returns-else-w-eq1
returns-else-w-eq1 c = λ x s e. refused-zero c.args.w.now c.if-first-eq-ZERO.true c.if-w-eq1.false x e

pub loop-c-init : goal.loop-c-init
loop-c-init c = (omega arith, begun-none _)

pub returns-in_err-d : goal.returns-in_err-d
returns-in_err-d c =
    let w = c.args.w.now in
    let i = c.loop-c.c-index in
    rw c.from_residual.ensures (λ x s e. refused-byte w i (omega arith) (λ d. c.in_err-d.ensures (get_or w i 0 - 48) (omega arith) (omega arith)) x e)

pub returns-in_err-checked_mul : goal.returns-in_err-checked_mul
returns-in_err-checked_mul c =
    let l = c.loop-c in
    let d = c.in_ok-d.ensures in
    let b = begun_more c.args.w.now l.c-index l.v c.in_ok-d.d l.invariant.1 (omega arith) c.if-first-eq-ZERO.false d.0 (omega arith) in
    let over = c.in_err-checked_mul.ensures in
    rw c.from_residual-in_err-checked_mul.ensures (λ x s e. refused-large c.args.w.now l.c-index _ b (omega (arith, over)) x s e)

pub returns-in_err-v : goal.returns-in_err-v
returns-in_err-v c =
    let l = c.loop-c in
    let d = c.in_ok-d.ensures in
    let b = begun_more c.args.w.now l.c-index l.v c.in_ok-d.d l.invariant.1 (omega arith) c.if-first-eq-ZERO.false d.0 (omega arith) in
    let over = c.in_err-v.ensures in
    let m = c.in_ok-checked_mul.ensures in
    rw c.from_residual-in_err-v.ensures (λ x s e. refused-large c.args.w.now l.c-index _ b (omega (arith, over, m)) x s e)

pub loop-c-preserved : goal.loop-c-preserved
loop-c-preserved c =
    let l = c.loop-c in
    let d = c.in_ok-d.ensures in
    let b = begun_more c.args.w.now l.c-index l.v c.in_ok-d.d l.invariant.1 (omega arith) c.if-first-eq-ZERO.false d.0 (omega arith) in
    let m = c.in_ok-checked_mul.ensures in
    let a = c.in_ok-v.ensures in
    let e : 10 * l.v + c.in_ok-d.d ≡ c.in_ok-v.v = omega (arith, m, a) in
    (omega (arith, a), rw e at b)

pub returns : goal.returns
returns c =
    let l = c.loop-c in
    (begun-whole _ l.c-index l.v l.invariant.1 (omega arith) (omega arith), l.invariant.0)
