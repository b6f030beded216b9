use Rattle.std.proofs.Common.{◌≡◌, sym, subst, ◌∙◌}
use Rattle.polys.specs.Curve.{Fit}
use Rattle.jacobian_pick.specs.Choice.{curve_of_lifted}
use Rattle.digit_plan.specs.Lifts.{IsLiftedOf}
use Rattle.digit_examples.proofs.samples.sample_of.Goals as goal

pub returns-clause-lifted : goal.returns-clause-lifted
returns-clause-lifted c = subst (λ z. IsLiftedOf z c.in_ok-lifted.lifted) (sym c.in_ok-new.ensures.ok) (record {
  prime = sym c.prime.ensures;
  variables = sym c.variables.ensures;
  ideal = sym (c.in_ok-copied.ensures ∙ c.ideal_basis.ensures.value);
  denominator = sym (c.in_ok-clone_poly.ensures ∙ c.denominator.ensures);
})

pub returns-clause-fit : goal.returns-clause-fit
returns-clause-fit c =
    let p = sym c.prime.ensures in
    let v = sym c.variables.ensures in
    let i = sym (c.in_ok-copied.ensures ∙ c.ideal_basis.ensures.value) in
    let d = sym (c.in_ok-clone_poly.ensures ∙ c.denominator.ensures) in
    let l = c.in_ok-lifted.lifted in
    let same : curve_of_lifted c.in_ok-lifted.lifted ≡ _ = λ j. record { prime = p j; variables = v j; ideal = i j; denominator = d j } in
    subst Fit (sym c.in_ok-new.ensures.ok) (subst Fit same c.in_ok-lifted.ensures)
