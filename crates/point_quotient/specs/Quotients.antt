-- The numerators of a ring of fractions over d^k modulo d^(k+1), those of its products with a point, and what is left of the
-- former modulo the latter.
use Rattle.std.specs.Prelude.{◌≡◌, ◌↔◌, ℕ, suc, ◌+◌, ◌-◌, ◌*◌, ◌<◌, All, Contains}
use Rattle.std.specs.Prelude.{List, [], ◌++◌, length, take, drop, replicate, slice_index_or}
use Rattle.monomials.specs.Mono.{Monomial}
use Rattle.polys.specs.declared.term.Term.{Term}
use Rattle.polys.specs.Terms.{mul}
use Rattle.polys.specs.Curve.{CurveData, data_of}
use Rattle.row_space.specs.Echelon.{IsRow}
use Rattle.row_space.specs.Subspace.{Subspace, IsIn, IsReduced}
use Rattle.finite_algebra.specs.Elements.{unit_row}
use Rattle.digit_laws.specs.Digits.{AreDigits}
use Rattle.digit_space.specs.Model.{DigitData, IsDigitsOf, value_of}
use Rattle.over_laws.specs.Over.{OverData}
use Rattle.quotient_laws.specs.ProductRows.{IsProductRow}
use Rattle.point_quotient.specs.Complements.{AreCoordinates, IsInWhole}

-- the basis rows of m entries, each with zeros behind it up to w entries, and then the unit rows for so many places from m on
pub record AreFirstGenerators (m w many : ℕ) (basis made : List (List ℕ)) : Type 0 where
  pub count : length made ≡ length basis + many
  pub filled : (i : ℕ) → i < length basis → slice_index_or made i [] ≡ slice_index_or basis i [] ++ replicate (w - m) 0
  pub units : (j : ℕ) → j < many → slice_index_or made (length basis + j) [] ≡ unit_row w (m + j)

-- the unit rows for all other places
abbrev pub AreGenerators : ℕ → ℕ → List (List ℕ) → List (List ℕ) → Type 0
AreGenerators m w basis made = AreFirstGenerators m w (w - m) basis made

-- the rows of w entries whose first m entries are in the low space
pub record HasFronts (w m : ℕ) (low space : Subspace) : Type 0 where
  pub prime : space.prime ≡ low.prime
  pub width : space.width ≡ w
  pub reduced : IsReduced space
  pub members : (row : List ℕ) → IsRow low.prime w row → IsIn space row ↔ IsIn low (take m row)

-- the digits at the depth k + 1 of the module's numerators over d^k, for n corners
abbrev pub HoldsNumerators : OverData → ℕ → Subspace → Type 0
HoldsNumerators o n space = HasFronts (n * suc o.power) (n * o.power) o.rows space

-- the product of the polynomials of two rows
abbrev pub row_product : DigitData → List ℕ → List ℕ → List Term
row_product g u v = mul g.curve.prime (value_of g u) (value_of g v)

-- the rows have the digits at the depth T of the products of q and the polynomials of the other rows
pub record AreTimes (g : DigitData) (T : ℕ) (q : List Term) (list made : List (List ℕ)) : Type 0 where
  pub count : length made ≡ length list
  pub each : (i : ℕ) → i < length list
      → AreDigits (data_of g.curve) g.basis T (mul g.curve.prime q (value_of g (slice_index_or list i []))) (slice_index_or made i [])

-- each row has the digits of a product of a member of P and one of vs, and each such product has a row
pub record AreAllProducts (A : CurveData) (ms : List Monomial) (T : ℕ) (P vs : List (List Term)) (list : List (List ℕ)) : Type 0 where
  pub rows : All (IsProductRow A ms T P vs) list
  pub each : (q v : List Term) → Contains P q → Contains vs v → (row : List ℕ) × AreDigits A ms T (mul A.prime q v) row × Contains list row

-- the row is the blocks from number k on, one more than k, of the digits of f
pub record IsDividedProduct (g : DigitData) (k : ℕ) (f : List Term) (made : List ℕ) : Type 0 where
  pub whole : List ℕ
  pub digits : IsDigitsOf g f whole
  pub part : made ≡ take (length g.basis * suc k) (drop (length g.basis * k) whole)

-- the row x has the coordinates of the product of u and v divided by d^k
pub record AreProductCoordinates (g : DigitData) (k : ℕ) (products rest : Subspace) (u v : List Term) (x : List ℕ) : Type 0 where
  pub divided : List ℕ
  pub part : IsDividedProduct g k (mul g.curve.prime u v) divided
  pub coordinates : AreCoordinates products rest divided x

-- the coordinates of the products of u and the polynomials of the first rows
pub record AreProductsWith (g : DigitData) (k : ℕ) (products rest : Subspace) (u : List Term) (many : ℕ) (list made : List (List ℕ)) : Type 0 where
  pub count : length made ≡ many
  pub each : (j : ℕ) → j < many → AreProductCoordinates g k products rest u (value_of g (slice_index_or list j [])) (slice_index_or made j [])

-- the row i n + j of the table has the coordinates of the product of the polynomials of the rows i and j, for the first rows i
pub record IsProductTable (g : DigitData) (k : ℕ) (products rest : Subspace) (list : List (List ℕ)) (first : ℕ) (table : List (List ℕ)) : Type 0 where
  pub count : length table ≡ first * length list
  pub each : (i j : ℕ) → i < first → j < length list
      → AreProductCoordinates g k products rest (value_of g (slice_index_or list i [])) (value_of g (slice_index_or list j []))
      (slice_index_or table (i * length list + j) [])

-- every divided product of two of the rows has coordinates
abbrev pub HasCoordinates : DigitData → ℕ → Subspace → Subspace → List (List ℕ) → Type 0
HasCoordinates g k products rest list =
    (i j : ℕ) → i < length list → j < length list → (made : List ℕ)
    → IsDividedProduct g k (row_product g (slice_index_or list i []) (slice_index_or list j [])) made → IsInWhole products rest made
