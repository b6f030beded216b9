-- Rings of fractions that are local at a point: enlarging them, and counting delta by a basis.
use Rattle.std.specs.Prelude.{◌≡◌, ◌↔◌, ℕ, suc, ◌-◌, ◌<◌, List, length, All}
use Rattle.polys.specs.declared.term.Term.{Term}
use Rattle.polys.specs.Curve.{CurveData}
use Rattle.curve_model.specs.Fraction.{Fraction, IsFraction, EqualsOver, InA, over, sum_of, multiple_of}
use Rattle.curve_model.specs.Local.{Local}
use Rattle.curve_model.specs.Point.{IsPoint}
use Rattle.curve_model.specs.Closure.{InModule}
use Rattle.curve_model.specs.Delta.{combination, AreIndependent, HasIndependent, HasDelta}
use Rattle.curve_model.specs.Laws.{IsFinite, ArePolys}
use Rattle.curve_model.specs.Rings.{IsFractionRing, KeepsRadical, IsFull}

-- the fractions over d^K with numerators in the ideal of L are a ring that holds A, and L is local at P over d^K
pub record IsLocalRing (A : CurveData) (P : List (List Term)) (K : ℕ) (L : List (List Term)) : Type 0 where
  pub ring : IsFractionRing A (InModule A K L)
  pub holds : (f : Fraction) → IsFraction A f → InA A f → InModule A K L f
  pub local : All (λ b. Local A P (over b K)) L

-- W is a ring that holds B, lies over d^(K+1), and is local at P
pub record Enlarges (A : CurveData) (P : List (List Term)) (K : ℕ) (B W : Fraction → Type 0) : Type 0 where
  pub ring : IsFractionRing A W
  pub holds : (f : Fraction) → IsFraction A f → B f → W f
  pub over : (f : Fraction) → IsFraction A f → W f → EqualsOver A (suc K) f
  pub local : (f : Fraction) → IsFraction A f → W f → Local A P f

-- all fractions that take the radical of such a ring into itself enlarge it
abbrev pub Enlargement : Type 0
Enlargement =
    (A : CurveData) → IsFinite A → (P : List (List Term)) → IsPoint A P → (K : ℕ) (L : List (List Term)) → ArePolys A L
    → IsLocalRing A P K L → Enlarges A P K (InModule A K L) (KeepsRadical A P (InModule A K L))

-- such a ring that cannot be enlarged has exactly the fractions local at P
abbrev pub FullIsLocal : Type 0
FullIsLocal =
    (A : CurveData) → IsFinite A → (P : List (List Term)) → IsPoint A P → (K : ℕ) (L : List (List Term)) → ArePolys A L
    → IsLocalRing A P K L → IsFull A P (InModule A K L) → (f : Fraction) → IsFraction A f → InModule A K L f ↔ Local A P f

-- f - g
abbrev pub difference_of : CurveData → Fraction → Fraction → Fraction
difference_of A f g = sum_of A f (multiple_of A (A.prime - 1) g)

-- us are in B, independent modulo A, and span B modulo A
pub record IsBasisModuloA (A : CurveData) (B : Fraction → Type 0) (us : List Fraction) : Type 0 where
  pub fractions : All (IsFraction A) us
  pub members : All B us
  pub independent : AreIndependent A us
  pub spans : (f : Fraction) → IsFraction A f → B f → (cs : List ℕ) × All (λ c. c < A.prime) cs × length cs ≡ length us × InA A (difference_of A f (combination A cs us))

-- a basis of such a ring that cannot be enlarged counts delta
abbrev pub BasisCountsDelta : Type 0
BasisCountsDelta =
    (A : CurveData) → IsFinite A → (P : List (List Term)) → IsPoint A P → (K : ℕ) (L : List (List Term)) → ArePolys A L
    → IsLocalRing A P K L → IsFull A P (InModule A K L) → (us : List Fraction) → IsBasisModuloA A (InModule A K L) us → HasDelta A P (length us)

-- independent members of such a ring are that many independent local fractions
abbrev pub MembersAreLocal : Type 0
MembersAreLocal =
    (A : CurveData) → IsFinite A → (P : List (List Term)) → IsPoint A P → (K : ℕ) (L : List (List Term)) → ArePolys A L → IsLocalRing A P K L
    → (us : List Fraction) → All (IsFraction A) us → All (InModule A K L) us → AreIndependent A us → HasIndependent A P (length us)
