use Rattle.std.proofs.Common.{◌≡◌, ◌-◌, get_or, ap, sym, subst, ◌∙◌, arith}
use Rattle.polys.specs.Poly.{IsVector}
use Rattle.digit_space.specs.Model.{IsDigitSpace}
use Rattle.digit_space.proofs.BlockPolys.{BlockTerms, term_kept, term_passed, terms_vector}
use Rattle.digit_space.proofs.digits.Digits.block_poly.Goals as goal

pub loop-i-preserved-in-Continue-1 : goal.loop-i-preserved-in-Continue-1
loop-i-preserved-in-Continue-1 c =
    let g = c.args.self.now in
    let s = subst IsDigitSpace c.self.view_is c.self.invariant.0 in
    let block = c.args.block.now in
    let m = c.index-corners-i.result in
    let i = c.loop-i.i in
    let eb = c.as_slice-corners.ensures ∙ ap (λ z. z.basis) c.self.view_is in
    let some = c.if-block-i-ne0.true in
    subst (BlockTerms g block (i - 1)) (sym c.in_ok-push.ensures.items)
    (term_kept g s block i m c.loop-i.terms.items c.requires c.loop-i-test.true c.loop-i.invariant
    (c.index-corners-i.is ∙ ap (λ b. get_or b (i - 1) m) eb) (omega arith))

pub loop-i-preserved : goal.loop-i-preserved
loop-i-preserved c =
    let g = c.args.self.now in
    let s = subst IsDigitSpace c.self.view_is c.self.invariant.0 in
    term_passed g s c.args.block.now c.loop-i.i c.loop-i.terms.items c.requires c.loop-i-test.true c.loop-i.invariant c.if-block-i-ne0.false

pub of_terms-requires : goal.of_terms-requires
of_terms-requires c =
    let g = c.args.self.now in
    let s = subst IsDigitSpace c.self.view_is c.self.invariant.0 in
    let ep : c.deref.result.now.prime ≡ g.curve.prime = ap (λ z. z.prime) (c.deref.ensures ∙ ap (λ z. z.curve) c.self.view_is) in
    subst (λ p. IsVector p c.loop-i.terms.items) (sym ep) (terms_vector g s c.args.block.now c.loop-i.i c.loop-i.terms.items c.loop-i.invariant)
