use Rattle.std.proofs.Common.{◌≡◌, ◌↔◌, sym, ◌∙◌, subst}
use Rattle.polys.specs.declared.curve.Curve.{Curve}
use Rattle.polys.specs.Curve.{data_of}
use Rattle.polys.specs.Poly.{terms_of}
use Rattle.polys.specs.Reduced.{IsReducedBasis}
use Rattle.curve_model.specs.Closure.{Closure}
use Rattle.digit_laws.specs.Digits.{IsIdealSpace}
use Rattle.corner_basis.specs.Fronts.{IsFrontIn}
use Rattle.over_laws.specs.Over.{OverData, InOver, IsLeastPower}
use Rattle.local_closure.proofs.ByRows.{front_ideal, closes}
use Rattle.local_closure.proofs.closing.closure_of.Goals as goal

pub reduced_basis_of_front-requires-clause-ideal : goal.reduced_basis_of_front-requires-clause-ideal
reduced_basis_of_front-requires-clause-ideal c =
    let g = c.args.digits.now in
    let q = c.in_ok-least.least in
    subst (λ k. IsIdealSpace (data_of g.curve) g.basis k c.rows-rows.result.now) (sym c.power-power.ensures)
    (subst (IsIdealSpace (data_of g.curve) g.basis q.power) (sym c.rows-rows.ensures.value)
    (front_ideal g c.basis-basis.ensures.known q c.rows-rows.ensures.known (c.requires.curve ∙ sym c.in_ok-least.ensures.curve)))

pub returns-clause-closure : goal.returns-clause-closure
returns-clause-closure c S holds =
    let g = c.args.digits.now in
    let o = c.args.over.now in
    let q = c.in_ok-least.least in
    let Q = terms_of c.in_ok-numerators.numerators in
    let at : Curve → OverData = λ C. record { curve = C; dimension = c.in_ok-least.least.dimension; power = c.in_ok-least.least.power; rows = c.in_ok-least.least.rows } in
    let basis = subst (λ k. IsReducedBasis g.curve.prime g.curve.variables (IsFrontIn g k q.rows) Q) c.power-power.ensures
    (subst (λ R. IsReducedBasis g.curve.prime g.curve.variables (IsFrontIn g c.power-power.result R) Q) c.rows-rows.ensures.value c.in_ok-numerators.ensures.reduced) in
    subst (λ k. Closure (data_of o.curve) S k Q) (sym c.power-power.ensures)
    (closes g c.basis-basis.ensures.known q c.rows-rows.ensures.known S Q basis o.curve c.requires.curve
    (λ f hf.
    let same = subst (λ C. InOver o f ↔ InOver (at C) f) c.in_ok-least.ensures.curve (c.in_ok-least.ensures.same f hf) in
    ((λ i. (holds f hf).0 (same.1 i)), λ l. same.0 ((holds f hf).1 l)))
    (subst (λ C. IsLeastPower (at C)) c.in_ok-least.ensures.curve c.in_ok-least.ensures.least))
