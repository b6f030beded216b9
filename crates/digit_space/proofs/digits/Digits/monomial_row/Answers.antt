use Rattle.std.proofs.Common.{◌≡◌, ◌*◌, ◌<◌, length, ap, ap₂, sym, subst, ◌∙◌, arith, set}
use Rattle.polys.specs.Terms.{IsAffine}
use Rattle.digit_space.specs.Model.{IsDigitSpace, IsDigitRow, IsDigitsOf, times_variable, value_of, width}
use Rattle.digit_space.proofs.Spaced.{width_small}
use Rattle.digit_space.proofs.MonomialRows.{way_begins, way_goes_on, way_smaller, way_ends}
use Rattle.digit_space.proofs.digits.Digits.monomial_row.Goals as goal

pub overflow_mul-corners : goal.overflow_mul-corners
overflow_mul-corners c =
    let g = c.args.self.now in
    let s = subst IsDigitSpace c.self.view_is c.self.invariant.0 in
    let same : c.len-corners.result * c.self.inside.depth ≡ width g = ap₂ (λ n d. n * d) (c.len-corners.ensures ∙ ap (λ z. length z.basis) c.self.view_is) (ap (λ z. z.depth) c.self.view_is) in
    let w = width_small g s in
    omega arith

pub loop-rest-init : goal.loop-rest-init
loop-rest-init c =
    let g = c.args.self.now in
    let s = subst IsDigitSpace c.self.view_is c.self.invariant.0 in
    let n = c.len-corners.result * c.self.inside.depth in
    let same : n ≡ width g = ap₂ (λ n d. n * d) (c.len-corners.ensures ∙ ap (λ z. length z.basis) c.self.view_is) (ap (λ z. z.depth) c.self.view_is) in
    way_begins g s c.args.m.now n c.of_vec-made.result c.requires.affine c.requires.some same (c.of_vec-made.ensures ∙ ap (λ z. set z 0 1) c.in_ok-row.ensures)

pub by_variable-found-requires-clause-affine : goal.by_variable-found-requires-clause-affine
by_variable-found-requires-clause-affine c =
    let ev = ap (λ z. z.variables) (c.deref.ensures ∙ ap (λ z. z.curve) c.self.view_is) in
    subst (λ n. IsAffine n c.loop-rest.rest) (sym ev) c.loop-rest.invariant.affine

pub variable_multiple-requires-clause-row : goal.variable_multiple-requires-clause-row
variable_multiple-requires-clause-row c = subst (IsDigitRow c.args.self.now) (sym c.as_slice.ensures) c.loop-rest.invariant.digits.fits

pub loop-rest-smaller : goal.loop-rest-smaller
loop-rest-smaller c =
    let g = c.args.self.now in
    let s = subst IsDigitSpace c.self.view_is c.self.invariant.0 in
    let ev = c.deref.ensures ∙ ap (λ z. z.curve) c.self.view_is in
    let v = c.by_variable-found.result.variable in
    way_smaller g s c.loop-rest.rest c.by_variable-found.result.factor v (subst (λ z. v < z.variables) ev c.by_variable-found.ensures.among) c.by_variable-found.ensures.product

pub loop-rest-preserved : goal.loop-rest-preserved
loop-rest-preserved c =
    let g = c.args.self.now in
    let s = subst IsDigitSpace c.self.view_is c.self.invariant.0 in
    let ev = c.deref.ensures ∙ ap (λ z. z.curve) c.self.view_is in
    let v = c.by_variable-found.result.variable in
    let new = c.in_ok-made.made in
    way_goes_on g s c.args.m.now c.loop-rest.rest c.by_variable-found.result.factor v c.loop-rest.made new c.loop-rest.invariant (subst (λ z. v < z.variables) ev c.by_variable-found.ensures.among)
    c.by_variable-found.ensures.product c.by_variable-found.ensures.known (subst (λ z. IsDigitsOf g (times_variable g v (value_of g z)) new) c.as_slice.ensures c.in_ok-made.ensures)

pub returns : goal.returns
returns c =
    let g = c.args.self.now in
    let s = subst IsDigitSpace c.self.view_is c.self.invariant.0 in
    way_ends g s c.args.m.now c.loop-rest.rest c.loop-rest.made c.loop-rest.invariant (let w = c.loop-rest-test.false in let e = c.degree.ensures.value in omega arith)
