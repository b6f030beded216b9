-- All polynomials in n variables, with the denominator 1.
use Rattle.std.specs.Prelude.{ℕ, ◌<◌, List, [], ◌∷◌}
use Rattle.polys.specs.declared.term.Term.{Term}
use Rattle.polys.specs.Terms.{one}
use Rattle.polys.specs.Ideal.{InIdeal}
use Rattle.polys.specs.Reduced.{Reduced}
use Rattle.polys.specs.Curve.{CurveData, HasDimModulo, HasRegular}
use Rattle.curve_model.specs.Fraction.{Fraction, IsFraction, InA}
use Rattle.curve_model.specs.Point.{IsPoint}
use Rattle.curve_model.specs.Closure.{Closure}

-- F_p[x_1, .., x_n] itself, and d = 1
abbrev pub affine_space : ℕ → ℕ → CurveData
affine_space p n = record { prime = p; variables = n; ideal = []; denominator = one }

-- the ideal 0 is proper and has the empty reduced basis, d is regular, nothing is left modulo d, there is no point, every
-- fraction is in A, and the closure at no point has the power 0 and the numerator 1
pub record IsClosedAlready (p n : ℕ) : Type 0 where
  pub reduced : Reduced p n []
  pub proper : InIdeal p n [] one → ⊥
  pub regular : HasRegular (affine_space p n)
  pub dimension : HasDimModulo (affine_space p n) 0
  pub no_point : (P : List (List Term)) → IsPoint (affine_space p n) P → ⊥
  pub no_fractions : (f : Fraction) → IsFraction (affine_space p n) f → InA (affine_space p n) f
  pub closure : Closure (affine_space p n) [] 0 (one ∷ [])

-- so it is for each number p above 1
abbrev pub UnitsCloseNothing : Type 0
UnitsCloseNothing = (p n : ℕ) → 1 < p → IsClosedAlready p n
