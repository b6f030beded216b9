-- Laws of digits.
use Rattle.std.specs.Prelude.{◌≡◌, ◌↔◌, ℕ, suc, ◌+◌, ◌*◌, List, ◌++◌, map, length, take, replicate, All}
use Rattle.monomials.specs.Mono.{Monomial}
use Rattle.polys.specs.declared.term.Term.{Term}
use Rattle.polys.specs.Terms.{IsPoly, add, sub, mul, multiple}
use Rattle.polys.specs.Ideal.{InIdeal, number_combination}
use Rattle.standard_monomials.specs.Standard.{polynomial_of}
use Rattle.polys.specs.Curve.{CurveData, HasDimModulo}
use Rattle.comm_ring.specs.Rows.{rows}
use Rattle.comm_ring.specs.Modules.{Independent}
use Rattle.comm_ring.specs.Residues.{residue_ops}
use Rattle.curve_model.specs.Closure.{InModule}
use Rattle.curve_model.specs.Laws.{IsFinite, ArePolys}
use Rattle.curve_model.specs.Enlarging.{IsBasisModuloA}
use Rattle.curve_model.specs.OneExponent.{InPower, all_over}
use Rattle.row_space.specs.Echelon.{IsRow}
use Rattle.row_space.specs.Subspace.{Subspace, FitsIn}
use Rattle.digit_laws.specs.Digits.{AreCornersOf, value, AreDigits, HasDigitsIn, IsIdealSpace, numerators}

-- digits are there, and are unique
pub record DigitsAreCoordinates (A : CurveData) (ms : List Monomial) (T : ℕ) : Type 0 where
  -- there are as many corners as the dimension modulo I and d
  pub dimension : HasDimModulo A (length ms)
  -- every polynomial has digits
  pub exist : (f : List Term) → IsPoly A.prime A.variables f → (row : List ℕ) × AreDigits A ms T f row
  -- every row of residues has those of its value
  pub row : (row : List ℕ) → IsRow A.prime (length ms * T) row → IsPoly A.prime A.variables (value A ms T row) × AreDigits A ms T (value A ms T row) row
  -- what is equal modulo I and d^T has the same digits
  pub same : (f g : List Term) (row : List ℕ) → IsPoly A.prime A.variables f → IsPoly A.prime A.variables g → InPower A T (sub A.prime f g)
      → AreDigits A ms T f row → AreDigits A ms T g row
  -- and what has the same digits is equal modulo I and d^T
  pub close : (f g : List Term) (row : List ℕ) → IsPoly A.prime A.variables f → IsPoly A.prime A.variables g → AreDigits A ms T f row
      → AreDigits A ms T g row → InPower A T (sub A.prime f g)
  -- a polynomial has one row of digits
  pub unique : (f : List Term) (row other : List ℕ) → IsPoly A.prime A.variables f → AreDigits A ms T f row → AreDigits A ms T f other → row ≡ other
  -- digits of sums and multiples
  pub sum : (f g : List Term) (row other : List ℕ) → IsPoly A.prime A.variables f → IsPoly A.prime A.variables g → AreDigits A ms T f row
      → AreDigits A ms T g other
      → AreDigits A ms T (add A.prime f g) ((rows A.prime (length ms * T)).◌⊞◌ row other)
  -- a product may be worked with the value of a row in place of a polynomial with these digits
  pub product : (q f : List Term) (row out : List ℕ) → IsPoly A.prime A.variables q → IsPoly A.prime A.variables f → AreDigits A ms T f row
      → AreDigits A ms T (mul A.prime q (value A ms T row)) out → AreDigits A ms T (mul A.prime q f) out
  pub multiple : (c : ℕ) (f : List Term) (row : List ℕ) → IsPoly A.prime A.variables f → AreDigits A ms T f row
      → AreDigits A ms T (multiple A.prime c f) ((rows A.prime (length ms * T)).◌·◌ c row)

abbrev pub DigitLaws : Type 0
DigitLaws = (A : CurveData) → IsFinite A → (ms : List Monomial) → AreCornersOf A ms → (T : ℕ) → DigitsAreCoordinates A ms T

-- the corners of a curve are one list
abbrev pub CornersAreUnique : Type 0
CornersAreUnique = (A : CurveData) → IsFinite A → (ms ns : List Monomial) → AreCornersOf A ms → AreCornersOf A ns → ms ≡ ns

-- a space that is closed under the variables is an ideal: a polynomial is in the ideal of its numerators exactly where its digits are in it
pub record SpaceIsIdeal (A : CurveData) (ms : List Monomial) (T : ℕ) (space : Subspace) : Type 0 where
  pub polys : ArePolys A (numerators A ms T space)
  pub exact : (f : List Term) → IsPoly A.prime A.variables f → InIdeal A.prime A.variables (numerators A ms T space) f ↔ HasDigitsIn A ms T space f
  -- its rows over d^T are a basis modulo A of the module of its numerators over d^T
  pub basis : Independent (residue_ops A.prime) (rows A.prime (length ms * T)) space.basis
      → IsBasisModuloA A (InModule A T (numerators A ms T space)) (all_over T (map (value A ms T) space.basis))

abbrev pub SpacesAreIdeals : Type 0
SpacesAreIdeals =
    (A : CurveData) → IsFinite A → (ms : List Monomial) → AreCornersOf A ms → (T : ℕ) (space : Subspace) → All (FitsIn space) space.basis
    → IsIdealSpace A ms T space
    → SpaceIsIdeal A ms T space

-- depths: the first blocks are the digits at a smaller depth, and a block of zeros in front is a factor d
pub record BlocksAreDepths (A : CurveData) (ms : List Monomial) : Type 0 where
  pub truncated : (T s : ℕ) (f : List Term) (row : List ℕ) → IsPoly A.prime A.variables f → AreDigits A ms (T + s) f row
      → AreDigits A ms T f (take (length ms * T) row)
  pub up : (T : ℕ) (f : List Term) (row : List ℕ) → IsPoly A.prime A.variables f
      → AreDigits A ms T f row ↔ AreDigits A ms (suc T) (mul A.prime A.denominator f) (replicate (length ms) 0 ++ row)
  -- a first block a and the digits of g are those of a sum of corners plus d g
  pub append : (T : ℕ) (f g : List Term) (a b : List ℕ) → IsPoly A.prime A.variables f → IsPoly A.prime A.variables g → IsRow A.prime (length ms) a
      → AreDigits A ms T g b
      → InPower A (suc T) (sub A.prime f (add A.prime (number_combination A.prime a (map polynomial_of ms)) (mul A.prime A.denominator g)))
      → AreDigits A ms (suc T) f (a ++ b)

abbrev pub BlockLaws : Type 0
BlockLaws = (A : CurveData) → IsFinite A → (ms : List Monomial) → AreCornersOf A ms → BlocksAreDepths A ms
