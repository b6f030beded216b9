-- Algebras of digits.
use Rattle.std.specs.Prelude.{◌≡◌, ℕ, ◌+◌, ◌*◌, ◌<◌, List, [], length, slice_index_or}
use Rattle.polys.specs.Terms.{one, mul}
use Rattle.polys.specs.Curve.{data_of}
use Rattle.finite_algebra.specs.Elements.{FiniteAlgebra}
use Rattle.standard_monomials.specs.Standard.{polynomial_of}
use Rattle.digit_laws.specs.Digits.{AreDigits}
use Rattle.digit_space.specs.Model.{DigitData, IsDigitsOf, corner}
use Rattle.over_laws.specs.BaseIdeals.{IsDigitAlgebra}

-- A modulo d: an element is the row of digits of its class
pub record IsBaseAlgebra (g : DigitData) (a : FiniteAlgebra) : Type 0 where
  pub one : AreDigits (data_of g.curve) g.basis 1 one a.one
  pub algebra : IsDigitAlgebra (data_of g.curve) g.basis 1 a

-- one row for each corner: its digits
pub record AreCornerRows (g : DigitData) (rows : List (List ℕ)) : Type 0 where
  pub count : length rows ≡ length g.basis
  pub each : (i : ℕ) → i < length g.basis → IsDigitsOf g (polynomial_of (corner g i)) (slice_index_or rows i [])

-- the row i N + j has the digits of the product of the corners i and j, for the first corners i
pub record AreFirstProducts (g : DigitData) (first : ℕ) (rows : List (List ℕ)) : Type 0 where
  pub count : length rows ≡ first * length g.basis
  pub each : (i j : ℕ) → i < first → j < length g.basis
      → IsDigitsOf g (mul g.curve.prime (polynomial_of (corner g i)) (polynomial_of (corner g j))) (slice_index_or rows (i * length g.basis + j) [])
