-- `script_words::word::until` meets its contract: the first place of the byte counts what stands before it.
-- Assumes nothing.
use Rattle.std.proofs.Common.{◌≡◌, ◌≢◌, sym, rules}
use borrow.Author.Tests.{tests}
use Rattle.std.proofs.lemmas.Iterator.{IsFirst-from_position, YieldsList-from_slice}
use Rattle.script_words.specs.Laws.Word.{before-first, before-counted}
use Rattle.script_words.proofs.word.until.Goals as goal

pub returns : goal.returns
returns c =
    let a = c.args in
    let first = IsFirst-from_position _ _ _ (λ x. x ≡ a.b) (λ x. x ≢ a.b) c.position.ensures.ran (YieldsList-from_slice a.s.now cc) (λ x q k. search (rules, tests)) (λ x q k. search (rules, tests)) in
    let n = sym (before-counted a.b a.s.now c.position.result first) in
    rw (c.unwrap_or.ensures, n) (before-first a.b a.s.now)
