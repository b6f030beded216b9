-- The fractions that are local at a list of points, as one power of d and the reduced basis of their numerators.
use Rattle.std.specs.Prelude.{ℕ, ◌<◌, List}
use Rattle.polys.specs.declared.term.Term.{Term}
use Rattle.polys.specs.Ideal.{InIdeal}
use Rattle.polys.specs.Reduced.{IsReducedBasis}
use Rattle.polys.specs.Curve.{CurveData}
use Rattle.curve_model.specs.Fraction.{Fraction, IsFraction, AreEqual, EqualsOver, over}
use Rattle.curve_model.specs.Local.{LocalAt}

-- every fraction that is local at S equals some b over d^K
abbrev pub Suffices : CurveData → List (List (List Term)) → ℕ → Type 0
Suffices A S K = (f : Fraction) → IsFraction A f → LocalAt A S f → EqualsOver A K f

-- K is the least power that suffices, and Q is the reduced basis of the numerators over d^K
pub record Closure (A : CurveData) (S : List (List (List Term))) (K : ℕ) (Q : List (List Term)) : Type 0 where
  pub suffices : Suffices A S K
  pub least : (L : ℕ) → L < K → Suffices A S L → ⊥
  pub basis : IsReducedBasis A.prime A.variables (λ b. LocalAt A S (over b K)) Q

-- f equals some b over d^K with b in the ideal of Q
abbrev pub InModule : CurveData → ℕ → List (List Term) → Fraction → Type 0
InModule A K Q f = (b : List Term) × InIdeal A.prime A.variables Q b × AreEqual A f (over b K)
