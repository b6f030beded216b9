-- Integral fractions (Greuel and Pfister, section on integral closure).
use Rattle.std.specs.Prelude.{ℕ, suc, ◌<◌, List, [], ◌∷◌, length, All}
use Rattle.polys.specs.declared.term.Term.{Term}
use Rattle.polys.specs.Terms.{IsPoly, add, mul, power}
use Rattle.polys.specs.Ideal.{InIdeal}
use Rattle.polys.specs.Curve.{CurveData}
use Rattle.curve_model.specs.Fraction.{Fraction, denominator_power}

-- c_i e^i a^(m-i) + .. + c_m e^m
abbrev pub lower_sum : ℕ → List Term → List Term → ℕ → List (List Term) → List Term
lower_sum p a e i [] = []
lower_sum p a e i (c ∷ cs) = add p (mul p c (mul p (power p e i) (power p a (length cs)))) (lower_sum p a e (suc i) cs)

-- a^m + c_1 e a^(m-1) + .. + c_m e^m
abbrev pub monic_sum : ℕ → List Term → List Term → List (List Term) → List Term
monic_sum p a e cs = add p (power p a (length cs)) (lower_sum p a e 1 cs)

-- a over d^k meets a monic equation, written without division: a^m + c_1 d^k a^(m-1) + .. + c_m (d^k)^m is in I
pub record Integral (A : CurveData) (f : Fraction) : Type 0 where
  pub coefficients : List (List Term)
  pub polys : All (IsPoly A.prime A.variables) coefficients
  pub some : 0 < length coefficients
  pub equation : InIdeal A.prime A.variables A.ideal (monic_sum A.prime f.numerator (denominator_power A f.exponent) coefficients)
