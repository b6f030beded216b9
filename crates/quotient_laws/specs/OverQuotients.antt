-- A ring of fractions by rows, modulo its products with a point, and its radical there.
use Rattle.std.specs.Prelude.{◌↔◌, ℕ, suc, ◌*◌, List, length}
use Rattle.comm_ring.specs.Rows.{rows}
use Rattle.comm_ring.specs.Modules.{combination}
use Rattle.monomials.specs.Mono.{Monomial}
use Rattle.polys.specs.declared.term.Term.{Term}
use Rattle.polys.specs.Curve.{data_of}
use Rattle.row_space.specs.Echelon.{IsRow}
use Rattle.row_space.specs.Subspace.{Subspace, IsIn, DifferIn}
use Rattle.curve_model.specs.Fraction.{Fraction, IsFraction}
use Rattle.curve_model.specs.Rings.{IsFractionRing, IsProduct, InRadical}
use Rattle.digit_laws.specs.Digits.{AreCornersOf, IsOfDigits}
use Rattle.finite_algebra.specs.Elements.{FiniteAlgebra, IsAlgebra, IsElement, IsNilpotent}
use Rattle.over_laws.specs.Over.{OverData, InOver, InRows, HasRows}
use Rattle.quotient_laws.specs.Quotients.{IsQuotientAt}
use Rattle.quotient_laws.specs.ProductRows.{HoldsCurve, IsProductSpace}
use Rattle.quotient_laws.specs.QuotientRows.{AreMemberRows, AreQuotientRows}

-- the space has the digits at the depth k + 1 of the numerators over d^k of the sums of products of P and the module
pub record HoldsProducts (o : OverData) (ms : List Monomial) (P : List (List Term)) (space : Subspace) : Type 0 where
  pub of_digits : IsOfDigits (data_of o.curve) ms (suc o.power) space
  pub exact : (f : Fraction) → IsFraction (data_of o.curve) f → InRows (data_of o.curve) o.power (suc o.power) space f ↔ IsProduct (data_of o.curve) P (InOver o) f

-- it is spanned by the products of generators of P and of the module
abbrev pub ProductSpacesHoldProducts : Type 0
ProductSpacesHoldProducts =
    (o : OverData) → HasRows o → IsFractionRing (data_of o.curve) (InOver o) → (ms : List Monomial) → AreCornersOf (data_of o.curve) ms
    → (P : List (List Term)) → HoldsCurve (data_of o.curve) P → (vs : List (List Term)) (list : List (List ℕ)) → AreMemberRows o ms vs list
    → (space : Subspace) → IsProductSpace (data_of o.curve) ms (suc o.power) P vs space → HoldsProducts o ms P space

-- rows that are a basis modulo it, with the coordinates of their products, are an algebra, which is the module modulo the products
abbrev pub QuotientRowsAreAlgebras : Type 0
QuotientRowsAreAlgebras =
    (o : OverData) → HasRows o → IsFractionRing (data_of o.curve) (InOver o) → (ms : List Monomial) → AreCornersOf (data_of o.curve) ms
    → (P : List (List Term)) → HoldsCurve (data_of o.curve) P → (space : Subspace) → HoldsProducts o ms P space
    → (a : FiniteAlgebra) (us : List (List Term)) (list : List (List ℕ)) → AreQuotientRows o ms space a us list
    → IsAlgebra a × IsQuotientAt (data_of o.curve) P o.power (InOver o) a us

-- a row differs by the space of the products from the row of a nilpotent element
pub record IsRadicalRow (o : OverData) (ms : List Monomial) (space : Subspace) (a : FiniteAlgebra) (list : List (List ℕ)) (row : List ℕ) : Type 0 where
  pub element : List ℕ
  pub fits : IsElement a element
  pub nilpotent : IsNilpotent a element
  pub near : DifferIn space row (combination (rows o.curve.prime (length ms * suc o.power)) element list)

-- these rows are the numerators of the radical
abbrev pub RadicalsByRows : Type 0
RadicalsByRows =
    (o : OverData) → HasRows o → IsFractionRing (data_of o.curve) (InOver o) → (ms : List Monomial) → AreCornersOf (data_of o.curve) ms
    → (P : List (List Term)) → HoldsCurve (data_of o.curve) P → (space : Subspace) → HoldsProducts o ms P space
    → (a : FiniteAlgebra) (us : List (List Term)) (list : List (List ℕ)) → AreQuotientRows o ms space a us list
    → (radical : Subspace) → IsOfDigits (data_of o.curve) ms (suc o.power) radical
    → ((row : List ℕ) → IsRow o.curve.prime (length ms * suc o.power) row → IsIn radical row ↔ IsRadicalRow o ms space a list row)
    → (f : Fraction) → IsFraction (data_of o.curve) f
    → InRows (data_of o.curve) o.power (suc o.power) radical f ↔ InRadical (data_of o.curve) P (InOver o) f
