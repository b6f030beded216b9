-- What holds of a plan.
use Rattle.std.specs.Prelude.{◌≡◌, ℕ, ◌+◌, ◌*◌, ◌<◌, ◌≤◌, List, [], length, map, slice_index_or, All, Contains}
use Rattle.prime_field.specs.Primes.{IsPrime}
use Rattle.monomials.specs.Mono.{Monomial, unit, times, variable}
use Rattle.polys.specs.declared.term.Term.{Term}
use Rattle.polys.specs.Terms.{IsAffine, add, sub, mul, normal}
use Rattle.polys.specs.Ideal.{InIdeal}
use Rattle.polys.specs.Curve.{CurveData, Fit, data_of}
use Rattle.standard_monomials.specs.Standard.{polynomial_of}
use Rattle.digit_laws.specs.Digits.{AreCornersOf}
use Rattle.digit_space.specs.declared.products.Product.{Product}
use Rattle.digit_space.specs.declared.products.Product.TheVariants.{Corner as AtCorner, Border as AtBorder}
use Rattle.lift_colon.specs.Lifted.{LiftedData}
use Rattle.digit_plan.specs.Lifts.{AreLifts, curve_of_lifted}
use Rattle.digit_plan.specs.Playing.{AreClosed, AreRising, AreVariables, IsBorder, IsCovered, IsOuter}
use Rattle.digit_plan.specs.declared.rules.Play.{Play}
use Rattle.digit_plan.specs.declared.plan.Place.{Place}
use Rattle.digit_plan.specs.declared.plan.Place.TheVariants.{Corner, Border, Outer}
use Rattle.digit_plan.specs.declared.plan.Plan.{Plan}
use Rattle.digit_plan.specs.declared.plan.Rule.{Rule}
use Rattle.digit_plan.specs.declared.plan.Rule.TheVariants.{Lead, Multiple}
use Rattle.digit_plan.specs.declared.plan.Share.{Share}

-- the curve of a plan
abbrev pub curve_of : Plan → CurveData
curve_of plan = data_of plan.curve.value

-- the monomial at a place, of those in play
abbrev pub monomial_in : (corners border outer : List Monomial) → Place → Monomial
monomial_in corners border outer (Corner i) = slice_index_or corners i unit
monomial_in corners border outer (Border j) = slice_index_or border j unit
monomial_in corners border outer (Outer j) = slice_index_or outer j unit

-- the place is there
abbrev pub IsPlaceIn : (corners border outer : List Monomial) → Place → Type 0
IsPlaceIn corners border outer (Corner i) = i < length corners
IsPlaceIn corners border outer (Border j) = j < length border
IsPlaceIn corners border outer (Outer j) = j < length outer

-- the place is there, and is no corner's
abbrev pub IsOutsidePlace : (border outer : List Monomial) → Place → Type 0
IsOutsidePlace border outer (Corner i) = ⊥
IsOutsidePlace border outer (Border j) = j < length border
IsOutsidePlace border outer (Outer j) = j < length outer

-- the terms that shares stand for
abbrev pub terms_in : (corners border outer : List Monomial) → List Share → List Term
terms_in corners border outer shares = map (λ s. record { coeff = s.coeff; mono = monomial_in corners border outer s.place }) shares

-- each coefficient is a residue, and each place is there
abbrev pub AreSharesIn : ℕ → (corners border outer : List Monomial) → List Share → Type 0
AreSharesIn p corners border outer shares = All (λ s. (s.coeff < p) × IsPlaceIn corners border outer s.place) shares

-- modulo the ideal m is the sum of the first shares, plus d times that of the second ones
abbrev pub IsLeadSumIn : CurveData → (corners border outer : List Monomial) → Monomial → (tail lift : List Share) → Type 0
IsLeadSumIn A corners border outer m tail lift =
    InIdeal A.prime A.variables A.ideal
    (sub A.prime (polynomial_of m)
    (add A.prime (mul A.prime A.denominator (normal A.prime (terms_in corners border outer lift))) (normal A.prime (terms_in corners border outer tail))))

-- the rule says of m what is so
abbrev pub IsRuleIn : CurveData → (corners border outer : List Monomial) → Monomial → Rule → Type 0
IsRuleIn A corners border outer m (Lead tail lift) =
    AreSharesIn A.prime corners border outer tail × AreSharesIn A.prime corners border outer lift × IsLeadSumIn A corners border outer m tail lift
IsRuleIn A corners border outer m (Multiple v place) =
    (v < A.variables) × IsOutsidePlace border outer place × (times (monomial_in corners border outer place) (variable v) ≡ m)

-- the rule multiplies a monomial outside the corners by the variable
abbrev pub IsMultipleRule : ℕ → (corners border outer : List Monomial) → Monomial → Rule → Type 0
IsMultipleRule v corners border outer m rule =
    (place : Place) × (rule ≡ Multiple v place) × IsOutsidePlace border outer place × (times (monomial_in corners border outer place) (variable v) ≡ m)

-- each share is one of a corner
abbrev pub AreInner : (corners : List Monomial) → List Share → Type 0
AreInner corners shares = All (λ s. IsPlaceIn corners [] [] s.place) shares

-- the tail of a lead has corners alone, and a monomial that is multiplied is in one of the lists
abbrev pub NamesOnly : (corners border around : List Monomial) → Rule → Type 0
NamesOnly corners border around (Lead tail lift) = AreInner corners tail
NamesOnly corners border around (Multiple v place) = IsOutsidePlace border around place

-- what holds of the monomials in play for these bases
pub record IsPlay (l : LiftedData) (play : Play) : Type 0 where
  pub order : AreVariables l.variables play.order.items
  pub corners : AreCornersOf (curve_of_lifted l) play.corners
  pub closed : AreClosed l.variables play.corners
  pub border : IsBorder l.variables play.corners play.border
  pub outer : IsOuter l.variables play.border play.outer
  pub lifts : AreLifts l play.lifts
  pub covered : All (λ f. IsCovered play.corners play.border play.outer f.terms) play.lifts

-- w is the corner or the monomial of the border with this number
abbrev pub IsFoundIn : (corners border : List Monomial) → Monomial → Product → Type 0
IsFoundIn corners border w (AtCorner j) = (j < length corners) × (w ≡ slice_index_or corners j unit)
IsFoundIn corners border w (AtBorder j) = (j < length border) × (w ≡ slice_index_or border j unit)

-- one rule for each monomial
pub record AreRulesIn (A : CurveData) (corners border outer : List Monomial) (monomials : List Monomial) (rules : List Rule) : Type 0 where
  pub count : length rules ≡ length monomials
  pub each : (j : ℕ) (d : Rule) → j < length monomials → IsRuleIn A corners border outer (slice_index_or monomials j unit) (slice_index_or rules j d)

-- number v * N + i is the product of variable v and corner i, as far as the list goes
abbrev pub AreFirstProducts : (corners border : List Monomial) → List Product → Type 0
AreFirstProducts corners border products =
    (v i : ℕ) (d : Product) → i < length corners → v * length corners + i < length products
    → IsFoundIn corners border (times (slice_index_or corners i unit) (variable v)) (slice_index_or products (v * length corners + i) d)

-- and it goes as far as the variables
pub record AreProductsIn (variables : ℕ) (corners border : List Monomial) (products : List Product) : Type 0 where
  pub count : length products ≡ variables * length corners
  pub each : AreFirstProducts corners border products

-- ---- the same for a plan

abbrev pub monomial_at : Plan → Place → Monomial
monomial_at plan place = monomial_in plan.corners plan.border plan.outer place

abbrev pub IsPlace : Plan → Place → Type 0
IsPlace plan place = IsPlaceIn plan.corners plan.border plan.outer place

abbrev pub terms_at : Plan → List Share → List Term
terms_at plan shares = terms_in plan.corners plan.border plan.outer shares

abbrev pub AreShares : Plan → List Share → Type 0
AreShares plan shares = AreSharesIn (curve_of plan).prime plan.corners plan.border plan.outer shares

-- the sum of the shares
abbrev pub sum_of : Plan → List Share → List Term
sum_of plan shares = normal (curve_of plan).prime (terms_at plan shares)

abbrev pub IsLeadSum : Plan → Monomial → (tail lift : List Share) → Type 0
IsLeadSum plan m tail lift = IsLeadSumIn (curve_of plan) plan.corners plan.border plan.outer m tail lift

abbrev pub IsRule : Plan → Monomial → Rule → Type 0
IsRule plan m rule = IsRuleIn (curve_of plan) plan.corners plan.border plan.outer m rule

abbrev pub AreRules : Plan → List Monomial → List Rule → Type 0
AreRules plan monomials rules = AreRulesIn (curve_of plan) plan.corners plan.border plan.outer monomials rules

-- a curve that is fit and has corners, with a rule for each monomial outside them
pub record IsPlan (plan : Plan) : Type 0 where
  pub prime : IsPrime plan.curve.value.prime
  pub small : plan.curve.value.prime ≤ 32003
  pub fit : Fit plan.curve.value
  pub corners : AreCornersOf (curve_of plan) plan.corners
  pub some : 0 < length plan.corners
  pub few : length plan.corners ≤ 256
  pub border : All (IsAffine (curve_of plan).variables) plan.border
  pub outer : All (IsAffine (curve_of plan).variables) plan.outer
  pub products : AreProductsIn (curve_of plan).variables plan.corners plan.border plan.products
  pub rising : AreRising plan.corners plan.border plan.outer
  pub outside : (m : Monomial) → Contains plan.border m → Contains plan.corners m → ⊥
  pub border_rules : AreRules plan plan.border plan.border_rules
  pub inner : All (NamesOnly plan.corners plan.border []) plan.border_rules
  pub outer_rules : AreRules plan plan.outer plan.outer_rules
  pub further : All (NamesOnly plan.corners plan.border plan.outer) plan.outer_rules
