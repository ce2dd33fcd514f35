-- `script_bytes::read_bytes` meets its contract.
-- Assumes nothing.
use Rattle.std.proofs.Common.{ℕ, ◌≡◌, ◌+◌, ◌*◌, ◌/◌, List, [], ◌∷◌, length, refl, arith, ap, ◌∙◌, None, Some}
use Rattle.std.proofs.Math.ListN.{length-set}
use Rattle.std.proofs.lemmas.Bool.Decides.{Decides-eqb}
use Rattle.std.proofs.lemmas.Slice.Eq.{strip_prefix_is}
use Rattle.script_bytes.specs.Bytes.{hex}
use Rattle.script_bytes.specs.Laws.Digits.{begun-none, begun_more, begun-whole, refused-even, refused-long, refused-digit}
use Rattle.script_bytes.proofs.read_bytes.Goals as goal

-- the digits behind the `=`
behind : (w d s : List ℕ) → w ≡ 61 ∷ d → w ≡ 61 ∷ hex s → d ≡ hex s
behind w d s e f = cc

pub returns-in_err-digits : goal.returns-in_err-digits
returns-in_err-digits c =
    let none = strip_prefix_is Decides-eqb c.args.w.now (61 ∷ []) None c.in_err-digits.ensures.cases in
    rw c.from_residual.ensures (λ s a l e. none (hex s) e)

pub returns-then-digits-ne0 : goal.returns-then-digits-ne0
returns-then-digits-ne0 c =
    let d = c.in_ok-digits.digits in
    let w = strip_prefix_is Decides-eqb c.args.w.now (61 ∷ []) (Some d) c.in_ok-digits.ensures.cases in
    λ s a l e. refused-even d.now c.if-digits-ne0.true s (behind c.args.w.now d.now s w e)

pub returns-then-n-gt-MOST : goal.returns-then-n-gt-MOST
returns-then-n-gt-MOST c =
    let d = c.in_ok-digits.digits in
    let w = strip_prefix_is Decides-eqb c.args.w.now (61 ∷ []) (Some d) c.in_ok-digits.ensures.cases in
    λ s a l e. refused-long d.now c.if-n-gt-MOST.true s l (behind c.args.w.now d.now s w e)

pub loop-i-init : goal.loop-i-init
loop-i-init c = (refl, begun-none c.in_ok-digits.digits.now c.args.out.now)

pub returns-in_err-value_of : goal.returns-in_err-value_of
returns-in_err-value_of c =
    let d = c.in_ok-digits.digits in
    let w = strip_prefix_is Decides-eqb c.args.w.now (61 ∷ []) (Some d) c.in_ok-digits.ensures.cases in
    rw c.from_residual-in_err-value_of.ensures
    (λ s a l e. refused-digit d.now (2 * c.loop-i.i) (omega arith) c.in_err-value_of.ensures s a (behind c.args.w.now d.now s w e))

pub returns-in_err-out : goal.returns-in_err-out
returns-in_err-out c =
    let d = c.in_ok-digits.digits in
    let w = strip_prefix_is Decides-eqb c.args.w.now (61 ∷ []) (Some d) c.in_ok-digits.ensures.cases in
    rw c.from_residual-in_err-out.ensures
    (λ s a l e. refused-digit d.now (2 * c.loop-i.i + 1) (omega arith) c.in_err-out.ensures s a (behind c.args.w.now d.now s w e))

pub loop-i-preserved : goal.loop-i-preserved
loop-i-preserved c =
    let l = c.loop-i in
    let h = c.in_ok-value_of in
    let o = c.in_ok-out in (
      simp length-set l.invariant.0,
      begun_more c.in_ok-digits.digits.now l.out l.i h.field-0 o.field-0 l.invariant.1 (omega arith) (omega arith) h.ensures.0 o.ensures.0 h.ensures.1 o.ensures.1,
    )

pub returns : goal.returns
returns c =
    let d = c.in_ok-digits.digits in
    let w = strip_prefix_is Decides-eqb c.args.w.now (61 ∷ []) (Some d) c.in_ok-digits.ensures.cases in
    let l = c.loop-i in
    (omega arith, omega arith, w ∙ ap (λ (t : List ℕ). 61 ∷ t) (begun-whole d.now l.out l.i (length d.now / 2) l.invariant.1 (omega arith) (omega arith)))
