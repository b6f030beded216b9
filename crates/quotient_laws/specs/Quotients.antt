-- A ring of fractions B modulo its products with a point P, as a finite algebra (Greuel and Pfister, sections on finite
-- extensions and on normalization).
use Rattle.std.specs.Prelude.{◌≡◌, ◌↔◌, ℕ, ◌+◌, ◌*◌, ◌<◌, List, [], length, slice_index_or, All}
use Rattle.polys.specs.declared.term.Term.{Term}
use Rattle.polys.specs.Terms.{one}
use Rattle.polys.specs.Ideal.{number_combination}
use Rattle.polys.specs.Curve.{CurveData}
use Rattle.curve_model.specs.Fraction.{Fraction, IsFraction, InA, over, product_of}
use Rattle.curve_model.specs.Closure.{InModule}
use Rattle.curve_model.specs.Laws.{IsFinite, ArePolys}
use Rattle.curve_model.specs.Rings.{IsFractionRing, IsProduct, InRadical}
use Rattle.curve_model.specs.Enlarging.{difference_of}
use Rattle.finite_algebra.specs.Elements.{FiniteAlgebra, IsAlgebra, IsElement, times, IsNilpotent}

-- the fraction with these coordinates: the sum of the numerators, each times its coordinate, over d^k
abbrev pub fraction_of : CurveData → ℕ → List (List Term) → List ℕ → Fraction
fraction_of A k us x = over (number_combination A.prime x us) k

-- f and g differ by a sum of products of members of P and B
abbrev pub DifferByProducts : CurveData → List (List Term) → (Fraction → Type 0) → Fraction → Fraction → Type 0
DifferByProducts A P B f g = IsProduct A P B (difference_of A f g)

-- the algebra is B modulo PB: an element x stands for the fraction with the coordinates x over the numerators us
pub record IsQuotientAt (A : CurveData) (P : List (List Term)) (k : ℕ) (B : Fraction → Type 0) (a : FiniteAlgebra) (us : List (List Term)) : Type 0 where
  pub prime : a.prime ≡ A.prime
  pub count : length us ≡ a.dimension
  pub polys : ArePolys A us
  pub members : All (λ u. B (over u k)) us
  -- every fraction of B is one of these modulo PB, and only the element 0 stands for a fraction of PB
  pub onto : (f : Fraction) → IsFraction A f → B f → (x : List ℕ) × IsElement a x × DifferByProducts A P B f (fraction_of A k us x)
  pub zero : (x : List ℕ) → IsElement a x → IsProduct A P B (fraction_of A k us x) → All (λ c. c ≡ 0) x
  -- the one and products
  pub one : DifferByProducts A P B (over one 0) (fraction_of A k us a.one)
  pub product : (x y : List ℕ) → IsElement a x → IsElement a y
      → DifferByProducts A P B (product_of A (fraction_of A k us x) (fraction_of A k us y)) (fraction_of A k us (times a x y))

-- numerators that are a basis of B modulo PB, with the coordinates of 1 and of the products of two of them
pub record HasQuotientProducts (A : CurveData) (P : List (List Term)) (k : ℕ) (B : Fraction → Type 0) (a : FiniteAlgebra) (us : List (List Term)) : Type 0 where
  pub prime : a.prime ≡ A.prime
  pub count : length us ≡ a.dimension
  pub squares : length a.products ≡ a.dimension * a.dimension
  pub rows : All (IsElement a) a.products
  pub unit : IsElement a a.one
  pub polys : ArePolys A us
  pub members : All (λ u. B (over u k)) us
  pub onto : (f : Fraction) → IsFraction A f → B f → (x : List ℕ) × IsElement a x × DifferByProducts A P B f (fraction_of A k us x)
  pub zero : (x : List ℕ) → IsElement a x → IsProduct A P B (fraction_of A k us x) → All (λ c. c ≡ 0) x
  pub one : DifferByProducts A P B (over one 0) (fraction_of A k us a.one)
  pub products : (i j : ℕ) → i < a.dimension → j < a.dimension
      → DifferByProducts A P B (product_of A (over (slice_index_or us i []) k) (over (slice_index_or us j []) k)) (fraction_of A k us (slice_index_or a.products (i * a.dimension + j) []))

-- such rows are an algebra, and it is B modulo PB
abbrev pub QuotientProductsAreAlgebras : Type 0
QuotientProductsAreAlgebras =
    (A : CurveData) → IsFinite A → (P : List (List Term)) → ArePolys A P → (K : ℕ) (L : List (List Term)) → ArePolys A L
    → IsFractionRing A (InModule A K L) → ((f : Fraction) → IsFraction A f → InA A f → InModule A K L f)
    → (k : ℕ) (a : FiniteAlgebra) (us : List (List Term)) → HasQuotientProducts A P k (InModule A K L) a us
    → IsAlgebra a × IsQuotientAt A P k (InModule A K L) a us

-- a fraction of B is in the radical of PB exactly where the element that stands for it is nilpotent
abbrev pub NilpotentsAreRadical : Type 0
NilpotentsAreRadical =
    (A : CurveData) → IsFinite A → (P : List (List Term)) → ArePolys A P → (K : ℕ) (L : List (List Term)) → ArePolys A L
    → IsFractionRing A (InModule A K L) → ((f : Fraction) → IsFraction A f → InA A f → InModule A K L f)
    → (k : ℕ) (a : FiniteAlgebra) (us : List (List Term)) → IsAlgebra a → IsQuotientAt A P k (InModule A K L) a us
    → (f : Fraction) → IsFraction A f → InModule A K L f → (x : List ℕ) → IsElement a x → DifferByProducts A P (InModule A K L) f (fraction_of A k us x)
    → InRadical A P (InModule A K L) f ↔ IsNilpotent a x
