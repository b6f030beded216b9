-- The deltas of the points bound the power of the closure: each local fraction is a sum of parts over powers up to theirs.
use Rattle.std.proofs.Common.{◌≡◌, ℕ, zero, suc, ◌+◌, ◌-◌, ◌<◌, ◌≤◌, List, [], ◌∷◌, All, subst, arith}
use Rattle.std.specs.List.{AllZip}
use Rattle.std.proofs.lemmas.List.Elements.{All-head, All-tail}
use Rattle.polys.specs.declared.term.Term.{Term}
use Rattle.polys.specs.Terms.{add}
use Rattle.polys.specs.Curve.{CurveData}
use Rattle.polys.proofs.Affine.{poly_none, poly_add, positive}
use Rattle.ideal_laws.proofs.Ideals.{in_none}
use Rattle.curve_model.specs.Fraction.{Fraction, IsFraction, AreEqual, EqualsOver, over, sum_of}
use Rattle.curve_model.specs.Local.{Local}
use Rattle.curve_model.specs.Point.{IsPoint}
use Rattle.curve_model.specs.Closure.{Suffices}
use Rattle.curve_model.specs.Laws.{IsFinite, ArePoints, total}
use Rattle.curve_model.specs.PowerBound.{HasDeltaUpTo, DeltasBoundClosure}
use Rattle.curve_laws.proofs.Base.{high}
use Rattle.curve_laws.proofs.StatedLaws.{sum_poly}
use Rattle.curve_laws.proofs.SplitLaws.{parts_law, total_poly}
use Rattle.curve_laws.proofs.DeltaLaws.{bound_law}
use Rattle.chain_laws.proofs.OneExponent.{eq_trans, eq_sum, one_sum, one_raised}

module _ (A : CurveData) (c : IsFinite A) where
  raised : (k j : ℕ) (f : Fraction) → IsFraction A f → EqualsOver A k f → EqualsOver A (j + k) f
  raised k zero f h w = let e : k ≡ 0 + k = omega arith in subst (λ n. EqualsOver A n f) e w
  raised k (suc j) f h w = let e : suc (j + k) ≡ suc j + k = omega arith in subst (λ n. EqualsOver A n f) e (one_raised A c (j + k) f h (raised k j f h w))

  module _ (r : ℕ) where
    up_to : (s : ℕ) → s ≤ r → (f : Fraction) → IsFraction A f → EqualsOver A s f → EqualsOver A r f
    up_to s l f h w = let e : (r - s) + s ≡ r = omega arith in subst (λ n. EqualsOver A n f) e (raised s (r - s) f h w)

    moved : (f g : Fraction) → IsFraction A f → IsFraction A g → AreEqual A f g → EqualsOver A r g → EqualsOver A r f
    moved f g h k e w = (w.0, w.1, eq_trans A c f g (over w.0 r) h k w.1 e w.2)

    sum_over : (f g : Fraction) → IsFraction A f → IsFraction A g → EqualsOver A r f → EqualsOver A r g → EqualsOver A r (sum_of A f g)
    sum_over f g h k u v =
        let p = poly_add A.prime A.variables u.0 v.0 (positive A.prime (high A c.curve)) u.1 v.1 in (
          add A.prime u.0 v.0,
          p,
          eq_trans A c (sum_of A f g) (sum_of A (over u.0 r) (over v.0 r)) (over (add A.prime u.0 v.0) r) (sum_poly A c f g h k) (sum_poly A c (over u.0 r) (over v.0 r) u.1 v.1) p
              (eq_sum A c f g (over u.0 r) (over v.0 r) h k u.1 v.1 u.2 v.2) (one_sum A c r u.0 v.0 u.1 v.1),
        )

    total_over : (S : List (List (List Term))) → All (IsPoint A) S → All (HasDeltaUpTo A r) S → (fs : List Fraction) → All (IsFraction A) fs → AllZip (Local A) S fs → EqualsOver A r (total A fs)
    total_over [] p d [] h z = up_to 0 (omega arith) (over [] 0) (poly_none A.prime A.variables) ([], poly_none A.prime A.variables, in_none A.prime A.variables A.ideal)
    total_over [] p d (f ∷ fs) h z = absurd z
    total_over (P ∷ S) p d [] h z = absurd z
    total_over (P ∷ S) p d (f ∷ fs) h z =
        let hf = All-head (IsFraction A) f fs h in
        let ht = All-tail (IsFraction A) f fs h in
        let s = All-head (HasDeltaUpTo A r) P S d in
        sum_over f (total A fs) hf (total_poly A c fs ht)
        (up_to s.0 s.1 f hf (bound_law A c P (All-head (IsPoint A) P S p) s.0 s.2 f hf z.0))
        (total_over S (All-tail (IsPoint A) P S p) (All-tail (HasDeltaUpTo A r) P S d) fs ht z.1)

    -- powers up to their greatest delta suffice for what is local at points
    pub suffices : (S : List (List (List Term))) → ArePoints A S → All (HasDeltaUpTo A r) S → Suffices A S r
    suffices S p d f h l =
        let s = (parts_law A c S p f h).0 l in
        let t = total_poly A c s.parts s.fractions in
        moved f (sum_of A s.whole (total A s.parts)) h (sum_poly A c s.whole (total A s.parts) s.whole_fraction t) s.equal
        (sum_over s.whole (total A s.parts) s.whole_fraction t (up_to 0 (omega arith) s.whole s.whole_fraction s.whole_in) (total_over S p.points d s.parts s.fractions s.local))

pub closure_bound_law : DeltasBoundClosure
closure_bound_law A c S p r d K Q w = let a : r < K → ⊥ = λ l. w.least r l (suffices A c r S p d) in omega arith
