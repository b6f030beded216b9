-- A curve: an ideal and a denominator.
use Rattle.std.specs.Prelude.{◌≡◌, ℕ, ◌≤◌, List, ◌∷◌, map, All}
use Rattle.polys.specs.declared.curve.TheConstants.{LARGEST_DIMENSION, MAX_DENOMINATOR_DEGREE}
use Rattle.monomials.specs.declared.mono.TheConstants.{MAX_VARIABLES}
use Rattle.polys.specs.declared.term.Term.{Term}
use Rattle.polys.specs.declared.curve.Curve.{Curve}
use Rattle.polys.specs.Poly.{Polynomial}
use Rattle.polys.specs.Terms.{IsPoly, one, degree_of}
use Rattle.polys.specs.Ideal.{InIdeal, Regular, HasDim}
use Rattle.polys.specs.Reduced.{Reduced}

-- the ring A = F_p[x_1, .., x_n]/I and the denominator d of its fractions, as lists of terms
pub record CurveData : Type 0 where
  pub prime : ℕ
  pub variables : ℕ
  pub ideal : List (List Term)
  pub denominator : List Term

-- the data of a curve of the program
abbrev pub data_of : Curve → CurveData
data_of c = record { prime = c.prime; variables = c.variables; ideal = map (λ f. f.terms) c.ideal; denominator = c.denominator.terms }

-- a polynomial of the program over this prime and in these variables
pub record IsOver (p n : ℕ) (f : Polynomial) : Type 0 where
  pub prime : f.prime ≡ p
  pub poly : IsPoly p n f.terms

-- the dimension of A modulo d is this number
abbrev pub HasDimModulo : CurveData → ℕ → Type 0
HasDimModulo A N = HasDim A.prime A.variables (A.denominator ∷ A.ideal) N

-- d is regular in A
abbrev pub HasRegular : CurveData → Type 0
HasRegular A = Regular A.prime A.variables A.ideal A.denominator

-- 1 to 6 variables, a proper ideal by its reduced basis, and a regular denominator of degree at most 119 modulo which
-- the dimension is at most 256
pub record Fit (c : Curve) : Type 0 where
  pub some_variables : 1 ≤ c.variables
  pub six_variables : c.variables ≤ MAX_VARIABLES
  pub ideal : All (IsOver c.prime c.variables) c.ideal
  pub denominator : IsOver c.prime c.variables c.denominator
  pub reduced : Reduced c.prime c.variables (data_of c).ideal
  pub proper : InIdeal c.prime c.variables (data_of c).ideal one → ⊥
  pub regular : HasRegular (data_of c)
  pub low : degree_of c.denominator.terms ≤ MAX_DENOMINATOR_DEGREE
  pub finite : (N : ℕ) × (N ≤ LARGEST_DIMENSION) × HasDimModulo (data_of c) N
