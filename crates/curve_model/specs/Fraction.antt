-- Fractions of A over powers of d.
use Rattle.std.specs.Prelude.{ℕ, ◌+◌, List}
use Rattle.polys.specs.declared.term.Term.{Term}
use Rattle.polys.specs.Terms.{IsPoly, add, sub, mul, multiple, power}
use Rattle.polys.specs.Ideal.{InIdeal}
use Rattle.polys.specs.Curve.{CurveData}

-- a polynomial a and a number k, read as a over d^k
pub record Fraction : Type 0 where
  pub numerator : List Term
  pub exponent : ℕ

abbrev pub over : List Term → ℕ → Fraction
over a k = record { numerator = a; exponent = k }

-- the numerator is a polynomial in the variables of A
abbrev pub IsFraction : CurveData → Fraction → Type 0
IsFraction A f = IsPoly A.prime A.variables f.numerator

-- d^k
abbrev pub denominator_power : CurveData → ℕ → List Term
denominator_power A k = power A.prime A.denominator k

-- a over d^k and b over d^l are equal where a d^l - b d^k is in I
abbrev pub AreEqual : CurveData → Fraction → Fraction → Type 0
AreEqual A f g =
    InIdeal A.prime A.variables A.ideal
    (sub A.prime (mul A.prime f.numerator (denominator_power A g.exponent)) (mul A.prime g.numerator (denominator_power A f.exponent)))

-- f equals some b over d^k
abbrev pub EqualsOver : CurveData → ℕ → Fraction → Type 0
EqualsOver A k f = (b : List Term) × IsPoly A.prime A.variables b × AreEqual A f (over b k)

-- f equals some b over 1
abbrev pub InA : CurveData → Fraction → Type 0
InA A f = EqualsOver A 0 f

-- a over d^k and b over d^l have the sum a d^l + b d^k over d^(k+l)
abbrev pub sum_of : CurveData → Fraction → Fraction → Fraction
sum_of A f g =
    over (add A.prime (mul A.prime f.numerator (denominator_power A g.exponent)) (mul A.prime g.numerator (denominator_power A f.exponent)))
    (f.exponent + g.exponent)

-- the product of the numerators over d^(k+l)
abbrev pub product_of : CurveData → Fraction → Fraction → Fraction
product_of A f g = over (mul A.prime f.numerator g.numerator) (f.exponent + g.exponent)

-- the multiple by a number
abbrev pub multiple_of : CurveData → ℕ → Fraction → Fraction
multiple_of A c f = over (multiple A.prime c f.numerator) f.exponent
