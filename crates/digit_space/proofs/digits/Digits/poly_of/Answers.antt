use Rattle.std.proofs.Common.{◌≡◌, ◌+◌, ◌-◌, length, take, drop, ap, subst, ◌∙◌, arith}
use Rattle.polys.specs.Terms.{IsAffine, add, degree_of, mul}
use Rattle.polys.specs.Poly.{IsPlain}
use Rattle.polys.proofs.Each.{every_more}
use Rattle.digit_space.specs.Model.{IsDigitSpace}
use Rattle.digit_space.specs.Adding.{corner_sum}
use Rattle.digit_space.proofs.BlockPolys.{blocks_begin, one_block_more, blocks_poly, blocks_low, blocks_end}
use Rattle.digit_space.proofs.digits.Digits.poly_of.Goals as goal

pub loop-from-init : goal.loop-from-init
loop-from-init c =
    let g = c.args.self.now in
    let s = subst IsDigitSpace c.self.view_is c.self.invariant.0 in
    let ep : c.deref.result.now.prime ≡ g.curve.prime = ap (λ z. z.prime) (c.deref.ensures ∙ ap (λ z. z.curve) c.self.view_is) in
    blocks_begin g s c.args.row.now c.zero-f.result c.requires (ap (λ z. z.prime) c.zero-f.ensures ∙ ep) (ap (λ z. z.terms) c.zero-f.ensures)

pub mul-requires-clause-plain : goal.mul-requires-clause-plain
mul-requires-clause-plain c =
    let g = c.args.self.now in
    let s = subst IsDigitSpace c.self.view_is c.self.invariant.0 in
    every_more (IsAffine g.curve.variables) IsPlain c.loop-from.f.terms (λ m a. a.plain) (blocks_poly g s c.args.row.now c.loop-from.from c.loop-from.f c.loop-from.invariant).affine

pub mul-requires-clause-room : goal.mul-requires-clause-room
mul-requires-clause-room c =
    let g = c.args.self.now in
    let s = subst IsDigitSpace c.self.view_is c.self.invariant.0 in
    let e : degree_of c.deref-in-loop-from.result.now.denominator.terms ≡ degree_of g.curve.denominator.terms = ap (λ z. degree_of z.denominator.terms) (c.deref-in-loop-from.ensures ∙ ap (λ z. z.curve) c.self.view_is) in
    let low = blocks_low g s c.args.row.now c.loop-from.from c.loop-from.f c.loop-from.invariant in
    let d = s.fit.low in
    let deep = s.shallow in
    omega arith

pub loop-from-preserved : goal.loop-from-preserved
loop-from-preserved c =
    let g = c.args.self.now in
    let s = subst IsDigitSpace c.self.view_is c.self.invariant.0 in
    let N = c.len-corners.result in
    let en : N ≡ length g.basis = c.len-corners.ensures ∙ ap (λ z. length z.basis) c.self.view_is in
    let from = c.loop-from.from in
    let to = from - N in
    let f = c.loop-from.f in
    let row = c.args.row.now in
    let p = g.curve.prime in
    let d = g.curve.denominator.terms in
    let a = take (to + N - to) (drop to row) in
    let behind = c.in_ok-behind.behind in
    let ed : c.deref-in-loop-from.result.now.denominator ≡ g.curve.denominator = ap (λ z. z.denominator) (c.deref-in-loop-from.ensures ∙ ap (λ z. z.curve) c.self.view_is) in
    let ea : a ≡ take (length g.basis) (drop to row) = ap (λ n. take n (drop to row)) (let w : to + N - to ≡ length g.basis = omega arith in w) in
    one_block_more g s row from to f c.in_ok-f.f c.requires c.loop-from.invariant c.loop-from-test.true (ap (λ n. from - n) en)
    (ap (λ z. z.prime) c.in_ok-f.ensures ∙ ap (λ z. z.prime) c.in_ok-block.ensures)
    (ap (λ z. z.terms) c.in_ok-f.ensures
    ∙ ap (λ z. add z.prime z.terms behind.terms) c.in_ok-block.ensures
    ∙ ap (λ z. add p (corner_sum g a) z.terms) c.in_ok-behind.ensures
    ∙ ap (λ z. add p (corner_sum g a) (mul z.prime z.terms f.terms)) ed
    ∙ ap (λ q. add p (corner_sum g a) (mul q d f.terms)) s.fit.denominator.prime
    ∙ ap (λ b. add p (corner_sum g b) (mul p d f.terms)) ea)

pub returns-clause-over : goal.returns-clause-over
returns-clause-over c =
    let g = c.args.self.now in
    let s = subst IsDigitSpace c.self.view_is c.self.invariant.0 in
    record { prime = c.loop-from.invariant.prime; poly = blocks_poly g s c.args.row.now c.loop-from.from c.loop-from.f c.loop-from.invariant }

pub returns-clause-digits : goal.returns-clause-digits
returns-clause-digits c =
    let g = c.args.self.now in
    let s = subst IsDigitSpace c.self.view_is c.self.invariant.0 in
    blocks_end g s c.args.row.now c.loop-from.from c.loop-from.f c.requires c.loop-from.invariant (let w = c.loop-from-test.false in omega arith)

pub returns-clause-low : goal.returns-clause-low
returns-clause-low c =
    let g = c.args.self.now in
    let s = subst IsDigitSpace c.self.view_is c.self.invariant.0 in
    let low = blocks_low g s c.args.row.now c.loop-from.from c.loop-from.f c.loop-from.invariant in
    omega arith
