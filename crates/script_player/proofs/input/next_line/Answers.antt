-- `script_player::input::next_line` meets its contract.
use Rattle.std.proofs.Common.{ℕ, ◌≡◌, ◌+◌, ◌-◌, ◌<◌, ◌≤◌, List, length, take, drop, arith, sym, ◌∙◌, inl, inr, add-zero, length-drop}
use Rattle.std.proofs.lemmas.List.{take_all}
use Rattle.script_words.specs.Word.{before}
use Rattle.script_player.specs.Line.{coming}
use Rattle.script_player.proofs.Lines.{here, here_is, length-here, up_to_newline, all_held, read_behind, since_more}
use Rattle.script_player.proofs.input.next_line.Goals as goal

-- no newline came
without : (buf : List ℕ) (at held r : ℕ) → at ≤ held → held ≤ length buf → take r (take (held - at) (drop at buf)) ≡ before 10 (take (held - at) (drop at buf)) →
    held ≤ at + r → before 10 (here buf at held) ≡ here buf at held
without buf at held r h k t l =
    let u = rw (← here_is buf at held h) at t in sym u ∙ take_all r (here buf at held) (omega (arith, length-here buf at held k))

pub returns-then-end-held-clause-taken : goal.returns-then-end-held-clause-taken
returns-then-end-held-clause-taken g c =
    let gives = g.R.Read.remaining in
    let a = c.args in
    let l = c.loop-held in
    let i = l.invariant in
    up_to_newline (coming a.buf.now a.from a.to (gives a.input.now)) (gives l.input) l.buf l.at l.held c.until.result i.room i.known
    (rw (← here_is l.buf l.at l.held i.place) at c.until.ensures.1) c.if-end-held.true

pub returns-then-held-at-gt-LONGEST-clause-taken : goal.returns-then-held-at-gt-LONGEST-clause-taken
returns-then-held-at-gt-LONGEST-clause-taken g c =
    let gives = g.R.Read.remaining in
    let a = c.args in
    let l = c.loop-held in
    let i = l.invariant in
    all_held (coming a.buf.now a.from a.to (gives a.input.now)) (gives l.input) l.buf l.at l.held i.room i.known
    (without l.buf l.at l.held c.until.result i.place i.room c.until.ensures.1 c.if-end-held.false) (inr c.if-held-at-gt-LONGEST.true)

pub returns-then-got-eq0-clause-taken : goal.returns-then-got-eq0-clause-taken
returns-then-got-eq0-clause-taken g c =
    let gives = g.R.Read.remaining in
    let a = c.args in
    let l = c.loop-held in
    let i = l.invariant in
    let n = l.held - l.at in
    let first = coming a.buf.now a.from a.to (gives a.input.now) in
    let rest = gives c.refill.new.input in
    let k = read_behind first (gives l.input) rest l.buf c.keep_rest.new.buf c.refill.new.buf l.at l.held c.in_ok-got.got i.known
    c.keep_rest.ensures.kept c.refill.ensures.kept c.in_ok-got.ensures.taken.0 in
    let room : 0 < length (drop n c.refill.new.buf) = omega (arith, length-drop n c.refill.new.buf, c.refill.auto.buf, c.keep_rest.auto.buf) in
    let e : here c.refill.new.buf 0 n ≡ here l.buf l.at l.held = c.refill.ensures.kept ∙ c.keep_rest.ensures.kept in
    all_held first rest c.refill.new.buf 0 n (omega (arith, c.refill.auto.buf, c.keep_rest.auto.buf)) (rw (c.if-got-eq0.true, add-zero) at k)
    (rw e (without l.buf l.at l.held c.until.result i.place i.room c.until.ensures.1 c.if-end-held.false))
    (inl (c.in_ok-got.ensures.taken.1 c.if-got-eq0.true room))

pub loop-held-preserved : goal.loop-held-preserved
loop-held-preserved g c =
    let gives = g.R.Read.remaining in
    let a = c.args in
    let l = c.loop-held in
    let i = l.invariant in record {
      place = omega arith;
      room = omega (arith, c.in_ok-got.ensures.fits, c.refill.auto.buf);
      long = c.refill.auto.buf ∙ c.keep_rest.auto.buf ∙ i.long;
      known =
          read_behind (coming a.buf.now a.from a.to (gives a.input.now)) (gives l.input) (gives c.refill.new.input) l.buf c.keep_rest.new.buf c.refill.new.buf l.at l.held
          c.in_ok-got.got i.known c.keep_rest.ensures.kept c.refill.ensures.kept c.in_ok-got.ensures.taken.0;
      since =
          since_more (here a.buf.now a.from a.to) (gives a.input.now) (gives l.input) (gives c.refill.new.input) (here l.buf l.at l.held) c.refill.new.buf
          (l.held - l.at) c.in_ok-got.got i.since (c.refill.ensures.kept ∙ c.keep_rest.ensures.kept) c.in_ok-got.ensures.taken.0;
    }
