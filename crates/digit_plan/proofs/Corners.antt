-- The corners of a fit curve.
use Rattle.std.proofs.Common.{◌≡◌, ℕ, ◌<◌, ◌≤◌, List, ◌∷◌, length, refl, sym, ◌∙◌, subst}
use Rattle.std.specs.List.{All}
use Rattle.std.proofs.lemmas.List.Elements.{All-weaker, All-contains_itself}
use Rattle.std.specs.List.{Contains}
use Rattle.prime_field.specs.Primes.{IsPrime}
use Rattle.monomials.specs.Mono.{Monomial, times, variable}
use Rattle.monomials.proofs.Factors.{divides_law}
use Rattle.polys.specs.declared.curve.Curve.{Curve}
use Rattle.polys.specs.Terms.{IsAffine}
use Rattle.polys.specs.Curve.{CurveData, Fit, data_of}
use Rattle.curve_laws.proofs.FitLaws.{fit_law}
use Rattle.standard_monomials.proofs.Powers.{length_power}
use Rattle.standard_monomials.proofs.Search.{found_law}
use Rattle.standard_monomials.proofs.Unique.{unique_law}
use Rattle.digit_laws.specs.Digits.{AreCornersOf}
use Rattle.digit_laws.proofs.DigitLaws.{digit_law}
use Rattle.digit_plan.specs.Playing.{AreClosed}

pub corners_affine : (A : CurveData) (ms : List Monomial) → AreCornersOf A ms → All (IsAffine A.variables) ms
corners_affine A ms k = All-weaker (Contains ms) (IsAffine A.variables) (λ m c. ((k.all.exact m).0 c).affine) ms (All-contains_itself ms)

-- the corners are as many as the dimension of a fit curve
pub few_corners : (c : Curve) → IsPrime c.prime → Fit c → (ms : List Monomial) → AreCornersOf (data_of c) ms → length ms ≤ 256
few_corners c prime fit ms k =
    let A = data_of c in
    let d = (digit_law A (fit_law c prime fit) ms k 0).dimension in
    let n = fit.finite.1 in
    subst (λ z. z ≤ 256) (unique_law.one A.prime A.variables (A.denominator ∷ A.ideal) fit.finite.0 (length ms) fit.finite.2 d) n

-- what divides a corner is one
pub closed_of : (A : CurveData) (ms : List Monomial) → AreCornersOf A ms → A.variables ≤ 6 → length ms ≤ 256 → AreClosed A.variables ms
closed_of A ms k six few = record { rising = k.rising; affine = corners_affine A ms k; few = few; closed = closed }
  where
    closed : (m : Monomial) (v : ℕ) → IsAffine A.variables m → v < A.variables → Contains ms (times m (variable v)) → Contains ms m
    closed m v a l c =
        let s = (k.all.exact (times m (variable v))).0 c in
        let seven : length m.exponents ≡ length (times m (variable v)).exponents = a.seven ∙ sym s.affine.seven in
        (k.all.exact m).1
        (found_law.divisor A.variables k.basis m (times m (variable v)) a
        ((divides_law m (times m (variable v)) seven).1 (variable v, a.seven ∙ sym (length_power 7 v 1), refl, refl)) s)
