use Rattle.std.proofs.Common.{rules, ◌≡◌, ◌↔◌, refl, sym, subst}
use Rattle.polys.specs.Curve.{data_of}
use Rattle.curve_model.specs.Fraction.{Fraction, IsFraction, InA}
use Rattle.digit_plan.specs.Lifts.{IsLiftedOf}
use Rattle.over_laws.specs.Over.{InOver}
use Rattle.stratum_chain.specs.Chain.{AreOfCurve}
use Rattle.stratum_chain.proofs.Enlarging.{begun}
use Rattle.stratum_chain.proofs.chain.Chain.of_digits.Goals as goal
use Rattle.stratum_chain.proofs.chain.Chain.of_digits.Goals.{After-rows-rows}

-- the module is over the curve of the digits
on_curve : (c : After-rows-rows) → c.plain-over.result.curve ≡ c.args.digits.value.curve
on_curve c = search rules

-- and is A there
plain_there : (c : After-rows-rows) → (f : Fraction) → IsFraction (data_of c.args.digits.value.curve) f → InOver c.plain-over.result f ↔ InA (data_of c.args.digits.value.curve) f
plain_there c =
    let same : c.in_ok-curve.curve.value ≡ c.args.digits.value.curve = search rules in
    subst (λ C. (f : Fraction) → IsFraction (data_of C) f → InOver c.plain-over.result f ↔ InA (data_of C) f) same c.plain-over.ensures.fractions

pub invariant_of-result : goal.invariant_of-result
invariant_of-result c =
    let d = (goal.at.invariant_of-result c).After-rows-rows in
    let g = c.args.digits.value in (
      begun c.chains_are_steps.ensures.begin c.plain-over.result g c.args.point c.args.stratum c.args.limit g.curve c.rows-rows.ensures.known (on_curve d) c.plain-over.ensures.power
          (plain_there d) c.requires.point c.requires.limit.0 c.requires.limit.1 refl c.requires.depth,
      subst (λ C. IsLiftedOf C c.args.lifted.value) (sym (on_curve d)) c.requires.lifted,
      subst (λ C. AreOfCurve C c.args.deeper) (sym (on_curve d)) c.requires.deeper,
    )

pub returns : goal.returns
returns c =
    let d = (goal.at.returns c).After-rows-rows in
    record { curve = on_curve d; point = refl; stratum = refl; limit = refl; plain = plain_there d; open_still = refl }
