-- Rings of fractions, their radicals at a point, and the descent law.
use Rattle.std.specs.Prelude.{ℕ, ◌-◌, List, [], Contains, All}
use Rattle.polys.specs.declared.term.Term.{Term}
use Rattle.polys.specs.Terms.{one}
use Rattle.polys.specs.Curve.{CurveData}
use Rattle.curve_model.specs.Fraction.{Fraction, IsFraction, AreEqual, InA, over, sum_of, product_of, multiple_of}
use Rattle.curve_model.specs.Local.{Local, LocalAt}
use Rattle.curve_model.specs.Point.{IsPoint}
use Rattle.curve_model.specs.Closure.{InModule}
use Rattle.curve_model.specs.Laws.{IsFinite, ArePolys, power_of}

-- B holds 1, sums, products and negatives, and with a fraction all that equal it
pub record IsFractionRing (A : CurveData) (B : Fraction → Type 0) : Type 0 where
  pub respects : (f g : Fraction) → IsFraction A f → IsFraction A g → AreEqual A f g → B f → B g
  pub one : B (over one 0)
  pub sum : (f g : Fraction) → IsFraction A f → IsFraction A g → B f → B g → B (sum_of A f g)
  pub product : (f g : Fraction) → IsFraction A f → IsFraction A g → B f → B g → B (product_of A f g)
  pub negative : (f : Fraction) → IsFraction A f → B f → B (multiple_of A (A.prime - 1) f)

-- the fractions local at a list of points, or at any lists of polynomials, are a ring
abbrev pub LocalAtIsRing : Type 0
LocalAtIsRing = (A : CurveData) → IsFinite A → (S : List (List (List Term))) → All (ArePolys A) S → IsFractionRing A (LocalAt A S)

-- the finite sums of products of a member of P and a member of B
pub data IsProduct (A : CurveData) (P : List (List Term)) (B : Fraction → Type 0) : Fraction → Type 0 where
  no_product : (f : Fraction) → IsFraction A f → AreEqual A f (over [] 0) → IsProduct A P B f
  one_more : (f b g : Fraction) (q : List Term) → IsFraction A f → IsFraction A b → IsFraction A g → Contains P q → B b → IsProduct A P B g
      → AreEqual A f (sum_of A (product_of A (over q 0) b) g) → IsProduct A P B f

-- f is in B, and a power of f is in PB
abbrev pub InRadical : CurveData → List (List Term) → (Fraction → Type 0) → Fraction → Type 0
InRadical A P B f = B f × ((n : ℕ) × IsProduct A P B (power_of A f n))

-- h takes the radical of B at P into itself
abbrev pub KeepsRadical : CurveData → List (List Term) → (Fraction → Type 0) → Fraction → Type 0
KeepsRadical A P B h = (f : Fraction) → IsFraction A f → InRadical A P B f → InRadical A P B (product_of A h f)

-- B holds every fraction that takes its radical at P into itself
abbrev pub IsFull : CurveData → List (List Term) → (Fraction → Type 0) → Type 0
IsFull A P B = (h : Fraction) → IsFraction A h → KeepsRadical A P B h → B h

-- descent: a ring of fractions over d^K that holds A and cannot be enlarged at a point has every fraction local there
abbrev pub DescentLaw : Type 0
DescentLaw =
    (A : CurveData) → IsFinite A → (P : List (List Term)) → IsPoint A P → (K : ℕ) (L : List (List Term)) → ArePolys A L
    → IsFractionRing A (InModule A K L) → ((f : Fraction) → IsFraction A f → InA A f → InModule A K L f) → IsFull A P (InModule A K L)
    → (f : Fraction) → IsFraction A f → Local A P f → InModule A K L f
