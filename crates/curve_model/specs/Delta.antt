-- How many fractions that are local at a point are independent modulo A.
use Rattle.std.specs.Prelude.{◌≡◌, ℕ, suc, ◌<◌, List, [], ◌∷◌, length, All}
use Rattle.polys.specs.declared.term.Term.{Term}
use Rattle.polys.specs.Curve.{CurveData}
use Rattle.curve_model.specs.Fraction.{Fraction, IsFraction, InA, over, sum_of, multiple_of}
use Rattle.curve_model.specs.Local.{Local}

-- c_1 f_1 + .. + c_r f_r
abbrev pub combination : CurveData → List ℕ → List Fraction → Fraction
combination A [] fs = over [] 0
combination A (c ∷ cs) [] = over [] 0
combination A (c ∷ cs) (f ∷ fs) = sum_of A (multiple_of A c f) (combination A cs fs)

-- a sum of multiples by residues is in A only if every residue is 0
abbrev pub AreIndependent : CurveData → List Fraction → Type 0
AreIndependent A fs = (cs : List ℕ) → All (λ c. c < A.prime) cs → length cs ≡ length fs → InA A (combination A cs fs) → All (λ c. c ≡ 0) cs

-- some r fractions that are local at P are independent modulo A
pub record HasIndependent (A : CurveData) (P : List (List Term)) (r : ℕ) : Type 0 where
  pub fractions : List Fraction
  pub as_many : length fractions ≡ r
  pub are_fractions : All (IsFraction A) fractions
  pub local : All (Local A P) fractions
  pub independent : AreIndependent A fractions

-- delta of P is r: some r are independent, and no r + 1 are
pub record HasDelta (A : CurveData) (P : List (List Term)) (r : ℕ) : Type 0 where
  pub reached : HasIndependent A P r
  pub no_more : HasIndependent A P (suc r) → ⊥

-- delta of P is above L: some L + 1 are independent
abbrev pub IsDeltaAbove : CurveData → List (List Term) → ℕ → Type 0
IsDeltaAbove A P L = HasIndependent A P (suc L)
