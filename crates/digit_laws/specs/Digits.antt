-- Polynomials modulo I and d^T as rows of digits (Greuel and Pfister, sections on standard bases and on modules).
use Rattle.std.specs.Prelude.{◌≡◌, ℕ, zero, suc, ◌*◌, ◌<◌, List, [], ◌∷◌, ◌++◌, map, length}
use Rattle.monomials.specs.Mono.{Monomial, variable}
use Rattle.polys.specs.declared.term.Term.{Term}
use Rattle.polys.specs.Terms.{sub, mul}
use Rattle.polys.specs.Ideal.{number_combination}
use Rattle.polys.specs.Curve.{CurveData}
use Rattle.curve_model.specs.Fraction.{denominator_power}
use Rattle.curve_model.specs.OneExponent.{InPower}
use Rattle.standard_monomials.specs.Standard.{AreCorners, polynomial_of}
use Rattle.row_space.specs.Echelon.{IsRow}
use Rattle.row_space.specs.Subspace.{Subspace, IsIn}

-- the corners of a curve: the monomials that are no lead of a member of I + (d), in rising order
abbrev pub AreCornersOf : CurveData → List Monomial → Type 0
AreCornersOf A ms = AreCorners A.prime A.variables (A.denominator ∷ A.ideal) ms

-- us, then d times us, and so on to d^(T-1) times us
unfoldable pub spread : ℕ → List Term → List (List Term) → ℕ → List (List Term)
spread p d us zero = []
spread p d us (suc t) = us ++ map (mul p d) (spread p d us t)

-- the products of the corners and d^0, .., d^(T-1)
abbrev pub places : CurveData → List Monomial → ℕ → List (List Term)
places A ms T = spread A.prime A.denominator (map polynomial_of ms) T

-- the polynomial with the digits of a row
abbrev pub value : CurveData → List Monomial → ℕ → List ℕ → List Term
value A ms T row = number_combination A.prime row (places A ms T)

-- the row has the digits of f: T blocks of N residues, and f is their sum modulo I and d^T, block t times d^t
pub record AreDigits (A : CurveData) (ms : List Monomial) (T : ℕ) (f : List Term) (row : List ℕ) : Type 0 where
  pub fits : IsRow A.prime (length ms * T) row
  pub close : InPower A T (sub A.prime f (value A ms T row))

-- a space of rows of digits
pub record IsOfDigits (A : CurveData) (ms : List Monomial) (T : ℕ) (space : Subspace) : Type 0 where
  pub prime : space.prime ≡ A.prime
  pub width : space.width ≡ length ms * T

-- the digits of f are in the space
abbrev pub HasDigitsIn : CurveData → List Monomial → ℕ → Subspace → List Term → Type 0
HasDigitsIn A ms T space f = (row : List ℕ) × AreDigits A ms T f row × IsIn space row

-- the space holds the digits of each variable times a member of it
pub record IsIdealSpace (A : CurveData) (ms : List Monomial) (T : ℕ) (space : Subspace) : Type 0 where
  pub of_digits : IsOfDigits A ms T space
  pub closed : (v : ℕ) → v < A.variables → (f : List Term) → HasDigitsIn A ms T space f → HasDigitsIn A ms T space (mul A.prime (polynomial_of (variable v)) f)

-- the polynomials of the rows of a basis, with d^T and the generators of I
abbrev pub numerators : CurveData → List Monomial → ℕ → Subspace → List (List Term)
numerators A ms T space = map (value A ms T) space.basis ++ (denominator_power A T ∷ A.ideal)
