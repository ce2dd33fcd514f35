-- `losses::run` meets its contract, and ends: bytes that came are no longer to come.
use Rattle.std.proofs.Common.{ℕ, ◌≡◌, ◌+◌, ◌-◌, ◌^◌, ◌<◌, ◌≤◌, List, ◌++◌, nat_eq, length, take, drop, sym, ◌∙◌, arith, take-add, take_at, length-take-le, length-drop, zero-add}
use borrow.Author.Tests.{eqb-true, eqb-false}
use Rattle.buffer.specs.Patch.{patch, Put}
use Rattle.losses_report.specs.Laws.Report.{pass-within, pass-left, pass-open}
use Rattle.losses.proofs.SoFar.{gone_on, gone_through, too_long}
use Rattle.losses.proofs.run.Goals as goal

falls : (base held got next : ℕ) → next ≤ held + got → 0 < got → base + held + got < 2 ^ 64 →
    2 ^ 64 - (base + next + (held + got - next)) < 2 ^ 64 - (base + held)
falls base held got next h g b = let e : base + next + (held + got - next) ≡ base + held + got = omega arith in omega arith

-- the bytes held after a read
read_on : (held got : ℕ) (old new : List ℕ) → take held new ≡ take held old → take (held + got) new ≡ take held old ++ take got (drop held new)
read_on held got old new k = rw take-add (rw k)

-- what a put at the start wrote
written : {text before after : List ℕ} {end : ℕ} → Put text 0 before after end → take end after ≡ text
unfolding patch
written {text} {before} {after} {end} p =
    rw (p.placed) (take_at text (drop (0 + length text) before) end (sym (p.ends ∙ zero-add (length text))))

pub returns-then-base-held : goal.returns-then-base-held
returns-then-base-held g c =
    let gives = g.R.Read.remaining in
    let holds = g.W.Write.contents in
    let l = c.loop-got in
    let got = c.in_ok-got.got in
    let held = take l.held l.buf in
    let new = take got (drop l.held c.refill.new.buf) in
    let all : length held ≡ l.held = length-take-le l.held l.buf (omega arith) in
    let rest : length (drop l.held c.refill.new.buf) ≡ length c.refill.new.buf - l.held = length-drop l.held c.refill.new.buf in
    let came : length new ≡ got = length-take-le got (drop l.held c.refill.new.buf) (omega (arith, c.in_ok-got.ensures.fits, c.refill.auto.buf)) in
    too_long (gives c.args.input.now) (gives l.input) (gives c.refill.new.input) (holds c.args.output.now) (holds l.output)
    held new l.base l.invariant.so_far c.in_ok-got.ensures.taken.0 (omega arith)

pub returns-in_default : goal.returns-in_default
returns-in_default g c =
    let gives = g.R.Read.remaining in
    let holds = g.W.Write.contents in
    let l = c.loop-got in
    let p = c.pass-told in
    let got = c.in_ok-got.got in
    let held = take l.held l.buf in
    let new = take got (drop l.held c.refill.new.buf) in
    let e = read_on l.held got l.buf c.refill.new.buf c.refill.ensures.kept in
    let w = rw (written p.ensures.wrote) at c.in_ok-write_all.ensures.bytes in
    let room : 0 < length (drop l.held c.refill.new.buf) = omega (arith, length-drop l.held c.refill.new.buf, c.refill.auto.buf) in
    gone_through (gives c.args.input.now) (gives l.input) (gives c.refill.new.input) (holds c.args.output.now) (holds l.output) (holds c.write_all.new.self)
    held new p.ensures.text l.base p.result.next (nat_eq got 0) l.invariant.so_far c.in_ok-got.ensures.taken.0 w
    (rw (e, c.in_default.is) at p.ensures.pass) (λ z. c.in_ok-got.ensures.taken.1 (eqb-true got 0 z) room)

pub keep_rest-requires : goal.keep_rest-requires
keep_rest-requires g c =
    let fits : c.loop-got.held + c.in_ok-got.got ≤ length c.refill.new.buf = omega (arith, c.in_ok-got.ensures.fits) in
    let t = length-take-le (c.loop-got.held + c.in_ok-got.got) c.refill.new.buf fits in
    (omega (arith, t, pass-within c.pass-told.ensures.pass), omega arith)

pub overflow_add-base : goal.overflow_add-base
overflow_add-base g c =
    let fits : c.loop-got.held + c.in_ok-got.got ≤ length c.refill.new.buf = omega (arith, c.in_ok-got.ensures.fits) in
    let t = length-take-le (c.loop-got.held + c.in_ok-got.got) c.refill.new.buf fits in
    omega (arith, t, pass-within c.pass-told.ensures.pass)

pub overflow_sub-held : goal.overflow_sub-held
overflow_sub-held g c =
    let fits : c.loop-got.held + c.in_ok-got.got ≤ length c.refill.new.buf = omega (arith, c.in_ok-got.ensures.fits) in
    let t = length-take-le (c.loop-got.held + c.in_ok-got.got) c.refill.new.buf fits in
    omega (arith, t, pass-within c.pass-told.ensures.pass)

pub loop-got-smaller : goal.loop-got-smaller
loop-got-smaller g c =
    let fits : c.loop-got.held + c.in_ok-got.got ≤ length c.refill.new.buf = omega (arith, c.in_ok-got.ensures.fits) in
    let t = length-take-le (c.loop-got.held + c.in_ok-got.got) c.refill.new.buf fits in
    let p = rw c.in-Going.is at c.pass-told.ensures.pass in
    let some = eqb-false c.in_ok-got.got 0 (pass-open p) in
    falls c.loop-got.base c.loop-got.held c.in_ok-got.got c.pass-told.result.next (omega (arith, t, pass-within p)) (omega (arith, some)) (omega arith)

pub loop-got-preserved : goal.loop-got-preserved
loop-got-preserved g c =
    let fits : c.loop-got.held + c.in_ok-got.got ≤ length c.refill.new.buf = omega (arith, c.in_ok-got.ensures.fits) in
    let t = length-take-le (c.loop-got.held + c.in_ok-got.got) c.refill.new.buf fits in
    let gives = g.R.Read.remaining in
    let holds = g.W.Write.contents in
    let l = c.loop-got in
    let p = c.pass-told in
    let got = c.in_ok-got.got in
    let held = take l.held l.buf in
    let new = take got (drop l.held c.refill.new.buf) in
    let e = read_on l.held got l.buf c.refill.new.buf c.refill.ensures.kept in
    let w = rw (written p.ensures.wrote) at c.in_ok-write_all.ensures.bytes in
    let a = rw c.in-Going.is at p.ensures.pass in record {
      buf_long = c.keep_rest.auto.buf ∙ c.refill.auto.buf ∙ l.invariant.buf_long;
      out_long = p.auto.out ∙ l.invariant.out_long;
      short = omega (arith, t, pass-within a, pass-left a);
      counted = omega (arith, t, pass-within a);
      so_far =
          rw (c.keep_rest.ensures.kept, e)
          (gone_on (gives c.args.input.now) (gives l.input) (gives c.refill.new.input) (holds c.args.output.now) (holds l.output) (holds c.write_all.new.self)
          held new p.ensures.text l.base p.result.next l.invariant.so_far c.in_ok-got.ensures.taken.0 w (rw (e, pass-open a) at a));
    }
