-- What a closure says of fractions, that there is one at most, and chains of rings of local fractions.
use Rattle.std.specs.Prelude.{◌≡◌, ◌↔◌, ℕ, suc, List, [], ◌∷◌, All}
use Rattle.polys.specs.declared.term.Term.{Term}
use Rattle.polys.specs.Terms.{one}
use Rattle.polys.specs.Curve.{CurveData}
use Rattle.curve_model.specs.Fraction.{Fraction, IsFraction}
use Rattle.curve_model.specs.Integral.{Integral}
use Rattle.curve_model.specs.Local.{LocalAt}
use Rattle.curve_model.specs.Point.{IsPoint}
use Rattle.curve_model.specs.Closure.{Closure, InModule}
use Rattle.curve_model.specs.Laws.{IsFinite, ArePolys, HasAllPoints}
use Rattle.curve_model.specs.Rings.{KeepsRadical}
use Rattle.curve_model.specs.Enlarging.{IsLocalRing}

-- a fraction is in the module of a closure exactly where it is local at the listed points
abbrev pub ClosureIsExact : Type 0
ClosureIsExact =
    (A : CurveData) → IsFinite A → (S : List (List (List Term))) → All (ArePolys A) S → (K : ℕ) (Q : List (List Term)) → Closure A S K Q
    → (f : Fraction) → IsFraction A f → InModule A K Q f ↔ LocalAt A S f

-- where S lists all points, exactly where it is integral
abbrev pub ClosureIsIntegral : Type 0
ClosureIsIntegral =
    (A : CurveData) → IsFinite A → (S : List (List (List Term))) → All (IsPoint A) S → HasAllPoints A S → (K : ℕ) (Q : List (List Term)) → Closure A S K Q
    → (f : Fraction) → IsFraction A f → InModule A K Q f ↔ Integral A f

-- a closure is determined by the points
abbrev pub ClosureIsUnique : Type 0
ClosureIsUnique =
    (A : CurveData) → IsFinite A → (S : List (List (List Term))) → (K L : ℕ) (Q R : List (List Term)) → Closure A S K Q → Closure A S L R → (K ≡ L) × (Q ≡ R)

-- A, as the fractions with numerators in the ideal of 1 over d^0, is a ring of local fractions
abbrev pub ChainStarts : Type 0
ChainStarts = (A : CurveData) → IsFinite A → (P : List (List Term)) → IsPoint A P → IsLocalRing A P 0 (one ∷ [])

-- where M over d^(K+1) has exactly what takes the radical of such a ring into itself, it is one too
abbrev pub ChainGoesOn : Type 0
ChainGoesOn =
    (A : CurveData) → IsFinite A → (P : List (List Term)) → IsPoint A P → (K : ℕ) (L : List (List Term)) → ArePolys A L → IsLocalRing A P K L
    → (M : List (List Term)) → ArePolys A M
    → ((f : Fraction) → IsFraction A f → InModule A (suc K) M f ↔ KeepsRadical A P (InModule A K L) f) → IsLocalRing A P (suc K) M
