-- What an enlargement owes.
use Rattle.std.proofs.Common.{◌≡◌, ◌≢◌, ◌↔◌, ℕ, ◌+◌, ◌*◌, ◌<◌, ◌≤◌, false, List, arith, refl, sym, subst, ◌∙◌}
use Rattle.polys.specs.declared.term.Term.{Term}
use Rattle.polys.specs.declared.curve.Curve.{Curve}
use Rattle.polys.specs.Curve.{CurveData, data_of}
use Rattle.curve_model.specs.declared.point.Point.{Point}
use Rattle.curve_model.specs.Closure.{InModule}
use Rattle.curve_model.specs.Delta.{HasDelta, IsDeltaAbove}
use Rattle.curve_model.specs.Fraction.{Fraction, IsFraction, EqualsOver, InA, product_of}
use Rattle.curve_model.specs.Laws.{IsFinite}
use Rattle.curve_model.specs.Point.{IsPointOf, basis_of}
use Rattle.curve_model.specs.Rings.{IsFractionRing, InRadical, KeepsRadical}
use Rattle.curve_laws.proofs.FitLaws.{fit_law}
use Rattle.curve_laws.proofs.StatedLaws.{product_poly}
use Rattle.chain_laws.proofs.ChainLaws.{transfer}
use Rattle.digit_space.specs.Model.{DigitData}
use Rattle.over_laws.specs.Over.{OverData, InOver, HasRows, HaveSameFractions, IsLeastPower, TakesIntoItself}
use Rattle.over_laws.specs.Chain.{IsLocalOver, IsEnlarged, EnlargementSays, ChainSteps, ChainBegins, EnlargementsAreOne, rank}
use Rattle.over_module.specs.Done.{HoldsLocal, IsDone}
use Rattle.over_module.specs.declared.done.Verdict.TheVariants.{Finished, TooLarge}
use Rattle.stratum_chain.specs.Chain.{IsChain}

-- ---- the radical

-- a ring by rows is a ring of fractions
pub ring_of : (o : OverData) → HasRows o → (P : List (List Term)) → IsLocalOver o P → IsFractionRing (data_of o.curve) (InOver o)
ring_of o h P w =
    let c : IsFinite (data_of o.curve) = fit_law o.curve h.prime h.fit in
    transfer (data_of o.curve) c (InModule (data_of o.curve) o.power w.list) (InOver o) (λ f hf. ((w.same f hf).1, (w.same f hf).0)) w.ring.ring

module _ (A : CurveData) (c : IsFinite A) (J W : Fraction → Type 0) (same : (f : Fraction) → IsFraction A f → J f ↔ W f) where
  -- what takes a set of fractions into itself depends on the fractions alone
  takes_moved : (h : Fraction) → IsFraction A h → TakesIntoItself A J h → TakesIntoItself A W h
  takes_moved h hh t f hf w = (same (product_of A h f) (product_poly A c h f hh hf)).0 (t f hf ((same f hf).1 w))

-- the fractions that take the radical into itself are those that keep it
pub kept : (o q : OverData) → HasRows o → (P : List (List Term)) (J : Fraction → Type 0)
    → ((f : Fraction) → IsFraction (data_of o.curve) f → J f ↔ InRadical (data_of o.curve) P (InOver o) f)
    → ((f : Fraction) → IsFraction (data_of o.curve) f → InOver q f ↔ TakesIntoItself (data_of o.curve) J f)
    → (f : Fraction) → IsFraction (data_of o.curve) f → InOver q f ↔ KeepsRadical (data_of o.curve) P (InOver o) f
kept o q h P J same exact f hf =
    let c : IsFinite (data_of o.curve) = fit_law o.curve h.prime h.fit in (
      (λ i. takes_moved (data_of o.curve) c J (InRadical (data_of o.curve) P (InOver o)) same f hf ((exact f hf).0 i)),
      λ k. (exact f hf).1 (takes_moved (data_of o.curve) c (InRadical (data_of o.curve) P (InOver o)) J (λ g hg. ((same g hg).1, (same g hg).0)) f hf k),
    )

-- ---- what is done

-- a module of the same fractions is that of a finished point too
pub done_of : (o q : OverData) (P : Point) (i L : ℕ) → HasRows o → IsPointOf (data_of o.curve) P → 1 ≤ L → L ≤ 64 → HoldsLocal o.curve P L o
    → q.curve ≡ o.curve → HaveSameFractions o q → rank q ≡ rank o → IsDone (record { curve = q.curve; point = P; stratum = i; limit = L; verdict = Finished q })
done_of o q P i L h point some low holds e same many =
    subst (λ C. IsDone (record { curve = C; point = P; stratum = i; limit = L; verdict = Finished q })) (sym e) (record {
      prime = h.prime;
      fit = h.fit;
      point = point;
      some_limit = some;
      low_limit = low;
      says = record {
        same_curve = e;
        exact = λ f hf. ((λ z. (holds.exact f hf).0 ((same f hf).1 z)), λ l. (same f hf).0 ((holds.exact f hf).1 l));
        delta = subst (HasDelta (data_of o.curve) (basis_of P)) (sym many) holds.delta;
        few = let a : rank o ≤ L = holds.few in let b : rank q ≡ rank o = many in let z : rank q ≤ L = omega arith in z;
      };
    })

pub above_of : (o : OverData) (P : Point) (i L : ℕ) → HasRows o → IsPointOf (data_of o.curve) P → 1 ≤ L → L ≤ 64 → IsDeltaAbove (data_of o.curve) (basis_of P) L
    → IsDone (record { curve = o.curve; point = P; stratum = i; limit = L; verdict = TooLarge })
above_of o P i L h point some low above = record { prime = h.prime; fit = h.fit; point = point; some_limit = some; low_limit = low; says = above }

-- ---- the first ring

pub begun : ChainBegins → (o : OverData) (g : DigitData) (P : Point) (i L : ℕ) (C : Curve) → HasRows o → o.curve ≡ C → o.power ≡ 0
    → ((f : Fraction) → IsFraction (data_of C) f → InOver o f ↔ InA (data_of C) f) → IsPointOf (data_of C) P → 1 ≤ L → L ≤ 64 → g.curve ≡ C → g.depth ≡ 2
    → IsChain (record { point = P; stratum = i; limit = L; digits = g; over = o; whole = false })
begun begin o g P i L C h e zero plain point some low curve depth =
    let there = subst (λ C. IsPointOf (data_of C) P) (sym e) point in
    let plain_there = subst (λ C. (f : Fraction) → IsFraction (data_of C) f → InOver o f ↔ InA (data_of C) f) (sym e) plain in
    record {
      point = there;
      some_limit = some;
      low_limit = low;
      digits_curve = curve ∙ sym e;
      local = begin o h (basis_of P) there.is_point plain_there;
      least = λ K l more. absurd (let z : o.power ≡ 0 = zero in let k : K < o.power = l in omega arith);
      low_power = let z : o.power ≡ 0 = zero in let k : o.power ≤ rank o = omega arith in k;
      depth = let z : o.power ≡ 0 = zero in let d : g.depth ≡ 2 = depth in let k : g.depth ≡ 2 * o.power + 2 = omega arith in k;
    }

-- ---- one enlargement

-- over the same fractions it is one too
pub enlarged_moved : (o q r : OverData) (P : List (List Term)) → IsEnlarged o P q → r.curve ≡ q.curve → HaveSameFractions q r → IsEnlarged o P r
enlarged_moved o q r P e curve same = record {
  curve = curve ∙ e.curve;
  exact = λ f hf.
      let s = same f (subst (λ C. IsFraction (data_of C) f) (sym e.curve) hf) in
      ((λ i. (e.exact f hf).0 (s.1 i)), λ k. s.0 ((e.exact f hf).1 k));
}

-- a greater module needs no smaller power
pub least_grows : (o r : OverData) → r.curve ≡ o.curve → ((f : Fraction) → IsFraction (data_of o.curve) f → InOver o f → InOver r f) → IsLeastPower o → o.power ≤ r.power
least_grows o r e holds least =
    let never : r.power < o.power → ⊥ = λ l. least r.power l (λ f hf i.
    let w = holds f hf i in
    subst (λ C. EqualsOver (data_of C) r.power f) e (w.numerator, w.poly, w.equal)) in
    omega arith

module _ (step : ChainSteps) (o q : OverData) (P : Point) (L : ℕ) (ho : HasRows o) (hq : HasRows q) (point : IsPointOf (data_of o.curve) P) (w : IsLocalOver o (basis_of P))
    (e : IsEnlarged o (basis_of P) q) where
  pub says : EnlargementSays o (basis_of P) q
  says = step o q ho hq (basis_of P) point.is_point w e

  -- of as many dimensions, at most the limit
  pub is_full : rank q ≤ L → rank q ≡ rank o → HoldsLocal o.curve P L o
  is_full le same = record {
    same_curve = refl;
    exact = says.full (sym same);
    delta = says.delta (sym same);
    few = let a : rank q ≤ L = le in let b : rank q ≡ rank o = same in let z : rank o ≤ L = omega arith in z;
  }

  pub is_above : L < rank q → IsDeltaAbove (data_of o.curve) (basis_of P) L
  is_above l = says.above L l

  -- no ring of these fractions has more dimensions than the limit
  pub not_above : EnlargementsAreOne → rank q ≤ L → ((r : OverData) × HasRows r × IsEnlarged o (basis_of P) r × (L < rank r)) → ⊥
  not_above one le t =
      let a : rank q ≡ rank t.0 = one o q t.0 ho hq t.1 (basis_of P) point.is_point w e t.2 in
      let b : L < rank t.0 = t.3 in
      let c : rank q ≤ L = le in
      omega arith

  -- the next chain
  module _ (g : DigitData) (i : ℕ) (some : 1 ≤ L) (low : L ≤ 64) (least : IsLeastPower q) (curve : g.curve ≡ o.curve) (depth : g.depth ≡ 2 * q.power + 2) (high : q.power ≤ rank q) where
    pub goes_on : IsChain (record { point = P; stratum = i; limit = L; digits = g; over = q; whole = false })
    goes_on = record {
      point = subst (λ C. IsPointOf (data_of C) P) (sym e.curve) point;
      some_limit = some;
      low_limit = low;
      digits_curve = curve ∙ sym e.curve;
      local = says.ring;
      least = least;
      low_power = high;
      depth = depth;
    }

-- where the enlarged ring q is larger and within the limit, over its least power it is r
module _ (step : ChainSteps) (o q r : OverData) (P : Point) (L : ℕ) (ho : HasRows o) (hq : HasRows q) (hr : HasRows r) (point : IsPointOf (data_of o.curve) P)
    (w : IsLocalOver o (basis_of P)) (e : IsEnlarged o (basis_of P) q) (curve : r.curve ≡ q.curve) (same : HaveSameFractions q r) (many : rank r ≡ rank q) (power : r.power ≤ q.power)
    (next : q.power ≡ o.power + 1) (least : IsLeastPower o) (low : o.power ≤ rank o) (le : rank q ≤ L) (ne : rank q ≢ rank o) where
  pub enlarged_least : IsEnlarged o (basis_of P) r
  enlarged_least = enlarged_moved o q r (basis_of P) e curve same

  says_least : EnlargementSays o (basis_of P) r
  says_least = step o r ho hr (basis_of P) point.is_point w enlarged_least

  pub larger : rank o < rank r
  larger =
      let a : rank o ≤ rank q = (step o q ho hq (basis_of P) point.is_point w e).grows in
      let b : rank q ≢ rank o = ne in
      let m : rank r ≡ rank q = many in
      omega arith

  pub within : rank r ≤ L
  within = let a : rank q ≤ L = le in let m : rank r ≡ rank q = many in omega arith

  pub no_less : o.power ≤ r.power
  no_less = least_grows o r (curve ∙ e.curve) says_least.holds least

  pub high : r.power ≤ rank r
  high =
      let a : rank o < rank r = larger in
      let b : o.power ≤ rank o = low in
      let c : r.power ≤ q.power = power in
      let d : q.power ≡ o.power + 1 = next in
      omega arith
