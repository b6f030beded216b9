-- A ring of fractions B modulo its products with a point, by rows of digits of numerators over d^k at the depth k + 1.
use Rattle.std.specs.Prelude.{◌≡◌, ◌↔◌, ℕ, suc, ◌+◌, ◌*◌, ◌<◌, List, [], length, take, slice_index_or, All}
use Rattle.comm_ring.specs.Rows.{rows}
use Rattle.comm_ring.specs.Modules.{InSpan, combination}
use Rattle.monomials.specs.Mono.{Monomial}
use Rattle.polys.specs.declared.term.Term.{Term}
use Rattle.polys.specs.Terms.{IsPoly}
use Rattle.polys.specs.Curve.{data_of}
use Rattle.row_space.specs.Echelon.{IsRow}
use Rattle.row_space.specs.Subspace.{Subspace, IsIn, DifferIn}
use Rattle.curve_model.specs.Fraction.{Fraction, IsFraction, AreEqual, denominator_power, over, product_of}
use Rattle.curve_model.specs.Laws.{ArePolys}
use Rattle.curve_model.specs.Rings.{IsProduct}
use Rattle.digit_laws.specs.Digits.{AreCornersOf, AreDigits, IsOfDigits}
use Rattle.finite_algebra.specs.Elements.{FiniteAlgebra, IsElement}
use Rattle.over_laws.specs.Over.{OverData, InOver, InRows, HasRows}
use Rattle.quotient_laws.specs.Quotients.{HasQuotientProducts}
use Rattle.quotient_laws.specs.ProductRows.{SpanNumerators}

-- a row of digits at the depth k + 1 whose polynomial over d^k is in the module
pub record IsMemberRow (o : OverData) (ms : List Monomial) (row : List ℕ) : Type 0 where
  pub fits : IsRow o.curve.prime (length ms * suc o.power) row
  pub inside : IsIn o.rows (take (length ms * o.power) row)

-- polynomials with such rows, and every such row is a sum of multiples of these
pub record AreMemberRows (o : OverData) (ms : List Monomial) (vs : List (List Term)) (list : List (List ℕ)) : Type 0 where
  pub polys : ArePolys (data_of o.curve) vs
  pub count : length list ≡ length vs
  pub digits : (i : ℕ) → i < length vs → AreDigits (data_of o.curve) ms (suc o.power) (slice_index_or vs i []) (slice_index_or list i [])
  pub members : All (IsMemberRow o ms) list
  pub spans : (row : List ℕ) → IsMemberRow o ms row → InSpan (rows o.curve.prime (length ms * suc o.power)) list row

-- then the polynomials span the numerators of the module
abbrev pub MemberRowsSpan : Type 0
MemberRowsSpan =
    (o : OverData) → HasRows o → (ms : List Monomial) → AreCornersOf (data_of o.curve) ms → (vs : List (List Term)) (list : List (List ℕ))
    → AreMemberRows o ms vs list → SpanNumerators (data_of o.curve) o.power (InOver o) vs

-- polynomials whose rows are a basis of such rows modulo a space, and an algebra with the coordinates of d^k and of the products
pub record AreQuotientRows (o : OverData) (ms : List Monomial) (space : Subspace) (a : FiniteAlgebra) (us : List (List Term)) (list : List (List ℕ)) : Type 0 where
  pub prime : a.prime ≡ o.curve.prime
  pub count : length us ≡ a.dimension
  pub long : length list ≡ length us
  pub squares : length a.products ≡ a.dimension * a.dimension
  pub coordinates : All (IsElement a) a.products
  pub unit : IsElement a a.one
  pub polys : ArePolys (data_of o.curve) us
  pub digits : (i : ℕ) → i < length us → AreDigits (data_of o.curve) ms (suc o.power) (slice_index_or us i []) (slice_index_or list i [])
  pub members : All (IsMemberRow o ms) list
  pub onto : (row : List ℕ) → IsMemberRow o ms row
      → (x : List ℕ) × IsElement a x × DifferIn space row (combination (rows o.curve.prime (length ms * suc o.power)) x list)
  pub zero : (x : List ℕ) → IsElement a x → IsIn space (combination (rows o.curve.prime (length ms * suc o.power)) x list) → All (λ c. c ≡ 0) x
  pub one : (row : List ℕ) → AreDigits (data_of o.curve) ms (suc o.power) (denominator_power (data_of o.curve) o.power) row
      → DifferIn space row (combination (rows o.curve.prime (length ms * suc o.power)) a.one list)
  pub products : (i j : ℕ) → i < a.dimension → j < a.dimension
      → (b : List Term) × (row : List ℕ) × IsPoly o.curve.prime o.curve.variables b
      × AreEqual (data_of o.curve) (product_of (data_of o.curve) (over (slice_index_or us i []) o.power) (over (slice_index_or us j []) o.power)) (over b o.power)
      × AreDigits (data_of o.curve) ms (suc o.power) b row
      × DifferIn space row (combination (rows o.curve.prime (length ms * suc o.power)) (slice_index_or a.products (i * a.dimension + j) []) list)

-- where the space holds the numerators of the sums of products, they are a basis of B modulo PB with its products
abbrev pub QuotientRowsAreProducts : Type 0
QuotientRowsAreProducts =
    (o : OverData) → HasRows o → (ms : List Monomial) → AreCornersOf (data_of o.curve) ms → (P : List (List Term))
    → (space : Subspace) → IsOfDigits (data_of o.curve) ms (suc o.power) space
    → ((f : Fraction) → IsFraction (data_of o.curve) f → InRows (data_of o.curve) o.power (suc o.power) space f ↔ IsProduct (data_of o.curve) P (InOver o) f)
    → (a : FiniteAlgebra) (us : List (List Term)) (list : List (List ℕ)) → AreQuotientRows o ms space a us list
    → HasQuotientProducts (data_of o.curve) P o.power (InOver o) a us
