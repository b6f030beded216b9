use Rattle.std.proofs.Common.{◌≡◌, ◌≤◌, ◌<◌, [], length, get_or, sym, ap, subst, ◌∙◌, arith}
use Rattle.std.proofs.lemmas.List.{get_or_default}
use Rattle.std.proofs.lemmas.Result.{IfOk-weaker}
use Rattle.prime_field.proofs.Table.{above_one}
use Rattle.monomials.specs.Mono.{times, unit, variable}
use Rattle.polys.specs.declared.curve.Curve.{Curve}
use Rattle.polys.specs.Terms.{IsAffine}
use Rattle.standard_monomials.specs.Standard.{polynomial_of}
use Rattle.digit_space.specs.Model.{IsDigitsOf, times_variable, value_of}
use Rattle.corner_basis.proofs.Fronts.{row_by}
use Rattle.corner_basis.proofs.staircase.Staircase.row_of.Goals as goal

pub find_parent-requires-clause-variables : goal.find_parent-requires-clause-variables
find_parent-requires-clause-variables c = subst (λ (z : Curve). z.variables ≤ 6) (sym (c.deref.ensures ∙ c.curve-curve.ensures)) c.basis-corners.ensures.known.fit.six_variables

pub from_term-requires : goal.from_term-requires
from_term-requires c = subst (λ (z : Curve). 1 < z.prime) (sym (c.deref-in-None.ensures ∙ c.curve-curve.ensures)) (above_one c.args.digits.now.curve.prime c.basis-corners.ensures.known.prime)

pub returns-in-Some : goal.returns-in-Some
returns-in-Some c =
    let g = c.args.digits.now in
    let m = c.args.m.now in
    let ss = c.args.self.now.standard in
    let rows = c.args.self.now.standard_rows in
    let j = c.in-Some.p.place in
    let v = c.in-Some.p.variable in
    let p = c.in-Some.ensures in
    let before = c.as_slice-before.result.now in
    let e = c.as_slice.ensures in
    let inside : j < length ss = subst (λ z. j < length z) e p.1 in
    let product : times (get_or ss j unit) (variable v) ≡ m = subst (λ z. times (get_or z j unit) (variable v) ≡ m) e p.2 in
    let among : v < g.curve.variables = subst (λ (z : Curve). v < z.variables) (c.deref.ensures ∙ c.curve-curve.ensures) p.0 in
    let same : before ≡ get_or rows j [] =
    c.as_slice-before.ensures ∙ c.index-as_slice-p.is ∙ ap (λ rs. get_or rs j c.index-as_slice-p.result) c.as_slice-in-Some.ensures
    ∙ get_or_default rows j c.index-as_slice-p.result [] (let n = c.requires.rows.count in omega arith) in
    let d : IsDigitsOf g (polynomial_of (get_or ss j unit)) before = subst (IsDigitsOf g (polynomial_of (get_or ss j unit))) (sym same) (c.requires.rows.digits j inside) in
    let affine : IsAffine g.curve.variables (get_or ss j unit) = c.requires.standard j unit inside in
    IfOk-weaker c.variable_multiple.result (λ made. IsDigitsOf g (times_variable g v (value_of g before)) made) (λ made. IsDigitsOf g (polynomial_of m) made)
    (λ made x. row_by g c.basis-corners.ensures.known (get_or ss j unit) m v before made among affine d product x) c.variable_multiple.ensures
