-- The products of a ring of fractions B and a point P, by rows of digits of their numerators.
use Rattle.std.specs.Prelude.{◌≡◌, ◌↔◌, ℕ, suc, ◌*◌, List, length, All, Contains}
use Rattle.comm_ring.specs.Rows.{rows}
use Rattle.comm_ring.specs.Modules.{InSpan}
use Rattle.monomials.specs.Mono.{Monomial}
use Rattle.polys.specs.declared.term.Term.{Term}
use Rattle.polys.specs.Terms.{IsPoly, sub, mul}
use Rattle.polys.specs.Ideal.{InIdeal, number_combination}
use Rattle.polys.specs.Curve.{CurveData}
use Rattle.row_space.specs.Subspace.{Subspace, IsIn}
use Rattle.curve_model.specs.Fraction.{Fraction, IsFraction, AreEqual, InA, over}
use Rattle.curve_model.specs.Closure.{InModule}
use Rattle.curve_model.specs.Laws.{IsFinite, ArePolys}
use Rattle.curve_model.specs.OneExponent.{InPower}
use Rattle.curve_model.specs.Rings.{IsFractionRing, IsProduct}
use Rattle.digit_laws.specs.Digits.{AreCornersOf, AreDigits, IsOfDigits}
use Rattle.over_laws.specs.Over.{InRows}

-- the ideal of P holds I and d
pub record HoldsCurve (A : CurveData) (P : List (List Term)) : Type 0 where
  pub polys : ArePolys A P
  pub ideal : All (InIdeal A.prime A.variables P) A.ideal
  pub denominator : InIdeal A.prime A.variables P A.denominator

-- the polynomials over d^k are in B, and every fraction of B is some b over d^k with b a sum of multiples of them by residues,
-- modulo I and d^(k+1)
pub record SpanNumerators (A : CurveData) (k : ℕ) (B : Fraction → Type 0) (vs : List (List Term)) : Type 0 where
  pub polys : ArePolys A vs
  pub members : All (λ v. B (over v k)) vs
  pub spans : (f : Fraction) → IsFraction A f → B f
      → (b : List Term) × IsPoly A.prime A.variables b × AreEqual A f (over b k)
      × ((cs : List ℕ) × length cs ≡ length vs × InPower A (suc k) (sub A.prime b (number_combination A.prime cs vs)))

-- the row has the digits of a product of a member of P and one of vs
pub record IsProductRow (A : CurveData) (ms : List Monomial) (T : ℕ) (P vs : List (List Term)) (row : List ℕ) : Type 0 where
  pub factor : List Term
  pub numerator : List Term
  pub factor_in : Contains P factor
  pub numerator_in : Contains vs numerator
  pub digits : AreDigits A ms T (mul A.prime factor numerator) row

-- the space is spanned by the digits of the products of the members of P and vs
pub record IsProductSpace (A : CurveData) (ms : List Monomial) (T : ℕ) (P vs : List (List Term)) (space : Subspace) : Type 0 where
  pub of_digits : IsOfDigits A ms T space
  pub basis : (row : List ℕ) → IsIn space row
      → (list : List (List ℕ)) × All (IsProductRow A ms T P vs) list × InSpan (rows A.prime (length ms * T)) list row
  pub holds : (q v : List Term) → Contains P q → Contains vs v → (row : List ℕ) × AreDigits A ms T (mul A.prime q v) row × IsIn space row

-- then a fraction is a sum of products of members of P and B exactly where it is some b over d^k with the digits of b in the space
abbrev pub ProductsByRows : Type 0
ProductsByRows =
    (A : CurveData) → IsFinite A → (ms : List Monomial) → AreCornersOf A ms → (P : List (List Term)) → HoldsCurve A P
    → (K : ℕ) (L : List (List Term)) → ArePolys A L → IsFractionRing A (InModule A K L) → ((f : Fraction) → IsFraction A f → InA A f → InModule A K L f)
    → (k : ℕ) (vs : List (List Term)) → SpanNumerators A k (InModule A K L) vs → (space : Subspace) → IsProductSpace A ms (suc k) P vs space
    → (f : Fraction) → IsFraction A f → InRows A k (suc k) space f ↔ IsProduct A P (InModule A K L) f
