-- Polynomials modulo an ideal of finite dimension: coordinates, decided membership, and powers of the denominator.
use Rattle.std.specs.Prelude.{◌≡◌, ℕ, ◌*◌, ◌<◌, List, ◌∷◌, length, All}
use Rattle.prime_field.specs.Primes.{IsPrime}
use Rattle.polys.specs.declared.term.Term.{Term}
use Rattle.polys.specs.Terms.{IsPoly, sub}
use Rattle.polys.specs.Ideal.{InIdeal, number_combination, Spans, HasDim}
use Rattle.polys.specs.Curve.{CurveData}
use Rattle.curve_model.specs.Fraction.{denominator_power}
use Rattle.curve_model.specs.Laws.{IsFinite}

-- residues whose combinations of a spanning list of least length agree modulo the ideal are equal
abbrev pub CoordinatesAreUnique : Type 0
CoordinatesAreUnique =
    (p n : ℕ) → IsPrime p → (gs : List (List Term)) → All (IsPoly p n) gs → (N : ℕ) (D : HasDim p n gs N) → (cs es : List ℕ)
    → All (λ c. c < p) cs → All (λ c. c < p) es → length cs ≡ N → length es ≡ N
    → InIdeal p n gs (sub p (number_combination p cs D.basis) (number_combination p es D.basis)) → cs ≡ es

-- where the dimension is finite, membership in the ideal is decided
abbrev pub MembershipIsDecided : Type 0
MembershipIsDecided =
    (p n : ℕ) → IsPrime p → (gs : List (List Term)) → All (IsPoly p n) gs → (N : ℕ) → HasDim p n gs N
    → (f : List Term) → IsPoly p n f → Dec (InIdeal p n gs f)

-- polynomials that span modulo the ideal, and whose combinations by residues are in it only where every residue is 0, count the dimension
abbrev pub BasesCountDimension : Type 0
BasesCountDimension =
    (p n : ℕ) → IsPrime p → (gs : List (List Term)) → All (IsPoly p n) gs → (us : List (List Term)) → Spans p n gs us
    → ((cs : List ℕ) → All (λ c. c < p) cs → length cs ≡ length us → InIdeal p n gs (number_combination p cs us) → All (λ c. c ≡ 0) cs)
    → HasDim p n gs (length us)

-- the dimension modulo I and d^t is t times that modulo I and d
abbrev pub PowersHaveDimension : Type 0
PowersHaveDimension = (A : CurveData) (c : IsFinite A) (t : ℕ) → HasDim A.prime A.variables (denominator_power A t ∷ A.ideal) (c.dimension.0 * t)
