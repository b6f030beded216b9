-- A plan by its parts.
use Rattle.std.proofs.Common.{◌≡◌, ◌<◌, ◌≤◌, List, [], length, sym, ap, ◌∙◌, subst}
use Rattle.std.specs.List.{All, Contains}
use Rattle.prime_field.specs.Primes.{IsPrime}
use Rattle.monomials.specs.Mono.{Monomial}
use Rattle.polys.specs.declared.curve.Curve.{Curve}
use Rattle.polys.specs.Terms.{IsAffine}
use Rattle.polys.specs.Poly.{terms_of}
use Rattle.polys.specs.Curve.{CurveData, Fit, data_of}
use Rattle.lift_colon.specs.Lifted.{LiftedData}
use Rattle.digit_laws.specs.Digits.{AreCornersOf}
use Rattle.digit_plan.specs.declared.plan.Plan.{Plan}
use Rattle.digit_plan.specs.Lifts.{IsLiftedOf, curve_of_lifted}
use Rattle.digit_plan.specs.Planned.{AreProductsIn, AreRulesIn, IsPlan, NamesOnly, curve_of}
use Rattle.digit_plan.specs.Playing.{AreRising}
use Rattle.digit_plan.proofs.Corners.{few_corners}

-- the curve of the bases
pub one_curve : (c : Curve) (l : LiftedData) → IsLiftedOf c l → curve_of_lifted l ≡ data_of c
one_curve c l h i = record { prime = h.prime i; variables = h.variables i; ideal = terms_of (h.ideal i); denominator = (h.denominator i).terms }

-- a plan by its parts
pub plan_by : (c : Curve) (l : LiftedData) (plan : Plan) (corners : List Monomial) → IsLiftedOf c l → IsPrime l.prime → l.prime ≤ 32003 → Fit c → plan.curve.value ≡ c → AreCornersOf (data_of c) corners
    → plan.corners ≡ corners → 0 < length corners → All (IsAffine l.variables) plan.border → All (IsAffine l.variables) plan.outer
    → AreProductsIn l.variables plan.corners plan.border plan.products → AreRulesIn (curve_of_lifted l) plan.corners plan.border plan.outer plan.border plan.border_rules
    → AreRulesIn (curve_of_lifted l) plan.corners plan.border plan.outer plan.outer plan.outer_rules
    → AreRising plan.corners plan.border plan.outer → ((m : Monomial) → Contains plan.border m → Contains plan.corners m → ⊥) → All (NamesOnly plan.corners plan.border []) plan.border_rules → All (NamesOnly plan.corners plan.border plan.outer) plan.outer_rules → IsPlan plan
plan_by c l plan corners h prime small fit e k ce some border outer products border_rules outer_rules rising outside inner further = record {
  prime = subst IsPrime (ap (λ (A : CurveData). A.prime) same) prime;
  small = subst (λ z. z ≤ 32003) (ap (λ (A : CurveData). A.prime) same) small;
  fit = subst Fit (sym e) fit;
  corners = subst (λ z. AreCornersOf (data_of plan.curve.value) z) (sym ce) (subst (λ z. AreCornersOf (data_of z) corners) (sym e) k);
  some = subst (λ z. 0 < length z) (sym ce) some;
  few = subst (λ z. length z ≤ 256) (sym ce) (few_corners c (subst IsPrime h.prime prime) fit corners k);
  border = subst (λ (A : CurveData). All (IsAffine A.variables) plan.border) same border;
  outer = subst (λ (A : CurveData). All (IsAffine A.variables) plan.outer) same outer;
  products = subst (λ (A : CurveData). AreProductsIn A.variables plan.corners plan.border plan.products) same products;
  border_rules = subst (λ A. AreRulesIn A plan.corners plan.border plan.outer plan.border plan.border_rules) same border_rules;
  outer_rules = subst (λ A. AreRulesIn A plan.corners plan.border plan.outer plan.outer plan.outer_rules) same outer_rules;
  rising = rising;
  outside = outside;
  inner = inner;
  further = further;
}
  where
    same : curve_of_lifted l ≡ curve_of plan
    same = one_curve c l h ∙ ap data_of (sym e)
