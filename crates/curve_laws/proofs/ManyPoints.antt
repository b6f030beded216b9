-- Lists of points, and fractions local at them, as those of the ring modulo I.
use Rattle.std.proofs.Common.{◌≡◌, ◌≢◌, ℕ, zero, suc, ◌<◌, List, [], ◌∷◌, map, length, All, get_or, refl, sym, ap, ap₂, ◌∙◌, subst, arith}
use Rattle.std.specs.List.{Any, AllPairs, AllZip}
use Rattle.std.proofs.lemmas.List.{length-map}
use Rattle.std.proofs.lemmas.List.Elements.{All-nil, All-cons, All-head, All-tail}
use Rattle.comm_ring.specs.Sums as Sums
use Rattle.comm_ring.specs.Sums.{joined}
use Rattle.comm_ring.specs.Ideals as Ideals
use Rattle.point_laws.specs.Points as Pt
use Rattle.point_laws.specs.Points.{PointOver}
use Rattle.point_laws.proofs.CurvePoints as CurvePoints
use Rattle.polys.specs.declared.term.Term.{Term}
use Rattle.polys.specs.Terms.{IsPoly, mul, product, one}
use Rattle.polys.specs.Ideal.{InIdeal}
use Rattle.polys.specs.Curve.{CurveData}
use Rattle.ideal_laws.proofs.Unique.{unique_law}
use Rattle.curve_model.specs.Fraction.{Fraction, IsFraction, denominator_power}
use Rattle.curve_model.specs.Local.{AreMembers, LocalAt}
use Rattle.curve_model.specs.Point.{IsPoint}
use Rattle.curve_model.specs.Laws.{IsFinite, ArePolys, IsMaximal, HaveOneIdeal, HasAllPoints, ArePoints}
use Rattle.curve_laws.proofs.Members.{ideal_from, ideal_to, ideal_up, ideal_down}
use Rattle.ideal_laws.proofs.Members.{terms_of, lift, terms-lift, polys_of, length-lift}
use Rattle.curve_laws.proofs.Base.{high, Ring, Poly, I, d, Q, member}
use Rattle.curve_laws.proofs.Equations.{integral_up, integral_down}
use Rattle.curve_laws.proofs.Locals.{product-terms, members_poly, contained_up, contained_down, taken_up, taken_down}

-- pairs of a longer list
pub all_pairs_cons : {X : Type 0} (R : X → X → Type 0) (x : X) (xs : List X) → All (R x) xs → AllPairs R xs → AllPairs R (x ∷ xs)
all_pairs_cons R x xs h f zero zero e l m = absurd (omega arith)
all_pairs_cons R x xs h f zero (suc j) e l m = h j e (omega arith)
all_pairs_cons R x xs h f (suc i) zero e l m = absurd (omega arith)
all_pairs_cons R x xs h f (suc i) (suc j) e l m = f i j e (omega arith) (omega arith)

pub all_pairs_first : {X : Type 0} (R : X → X → Type 0) (x : X) (xs : List X) → AllPairs R (x ∷ xs) → All (R x) xs
all_pairs_first R x xs f k e l = f 0 (suc k) e (omega arith) (omega arith)

pub all_pairs_rest : {X : Type 0} (R : X → X → Type 0) (x : X) (xs : List X) → AllPairs R (x ∷ xs) → AllPairs R xs
all_pairs_rest R x xs f i j e l m = f (suc i) (suc j) e (omega arith) (omega arith)

module _ (A : CurveData) (c : IsFinite A) where
  abbrev pub Lists : List (List (List Term)) → Type 0
  Lists S = All (ArePolys A) S

  unfoldable pub lift_all : (S : List (List (List Term))) → All (ArePolys A) S → List (List (Poly A c.curve))
  lift_all [] a = []
  lift_all (P ∷ S) a = lift A.prime A.variables P (All-head (ArePolys A) P S a) ∷ lift_all S (All-tail (ArePolys A) P S a)

  products-terms : (ls : List (List (Poly A c.curve))) → (Sums.product (Q A c.curve) (λ l. Sums.product (Q A c.curve) (λ x. x) l) ls).terms ≡ product A.prime (map (product A.prime) (map terms_of ls))
  unfolding joined
  products-terms [] = refl
  products-terms (l ∷ ls) = ap₂ (mul A.prime) (product-terms A c.curve l) (products-terms ls)

  chosen_down : (S : List (List (List Term))) (a : All (ArePolys A) S) (m : ℕ) (ls : List (List (Poly A c.curve))) → Pt.Chosen (Q A c.curve) (d A c.curve) (lift_all S a) m ls → AllZip (AreMembers m) S (map terms_of ls)
  unfolding lift_all
  chosen_down [] a m [] h = tt
  chosen_down [] a m (l ∷ ls) h = absurd h
  chosen_down (P ∷ S) a m [] h = absurd h
  chosen_down (P ∷ S) a m (l ∷ ls) h = (
    record { as_many = length-map l (λ g. g.terms) ∙ h.0.0; members = contained_down A.prime A.variables P (All-head (ArePolys A) P S a) l h.0.1 },
    chosen_down S (All-tail (ArePolys A) P S a) m ls h.1,
  )

  abbrev Lifted : (S : List (List (List Term))) → All (ArePolys A) S → ℕ → List (List (List Term)) → Type 0
  Lifted S a m ls = (ks : List (List (Poly A c.curve))) × Pt.Chosen (Q A c.curve) (d A c.curve) (lift_all S a) m ks × (map terms_of ks ≡ ls)

  chosen_up : (S : List (List (List Term))) (a : All (ArePolys A) S) (m : ℕ) (ls : List (List (List Term))) → AllZip (AreMembers m) S ls → Lifted S a m ls
  unfolding lift_all
  chosen_up [] a m [] h = ([], tt, refl)
  chosen_up [] a m (l ∷ ls) h = absurd h
  chosen_up (P ∷ S) a m [] h = absurd h
  chosen_up (P ∷ S) a m (l ∷ ls) h =
      let q = All-head (ArePolys A) P S a in
      let b = members_poly A.prime A.variables P l q h.0.members in
      let r = chosen_up S (All-tail (ArePolys A) P S a) m ls h.1 in (
        lift A.prime A.variables l b ∷ r.0,
        ((length-lift A.prime A.variables l b ∙ h.0.as_many, contained_up A.prime A.variables P q l b h.0.members), r.1),
        ap₂ ◌∷◌ (terms-lift A.prime A.variables l b) r.2,
      )

  module _ (S : List (List (List Term))) (a : All (ArePolys A) S) (f : Fraction) (h : IsFraction A f) where
    pub local_at_up : LocalAt A S f → Pt.LocalAt (Q A c.curve) (d A c.curve) (lift_all S a) (member A c.curve f.numerator h) f.exponent
    local_at_up w = (
      integral_up A c.curve f h w.integral,
      (
        w.m,
        λ ls q. taken_up A c.curve f.exponent ((Q A c.curve).◌⊗◌ (Sums.product (Q A c.curve) (λ l. Sums.product (Q A c.curve) (λ x. x) l) ls) (member A c.curve f.numerator h))
            (subst (λ z. InIdeal A.prime A.variables (denominator_power A f.exponent ∷ A.ideal) (mul A.prime z f.numerator)) (sym (products-terms ls))
            (w.takes (map terms_of ls) (chosen_down S a w.m ls q))),
      ),
    )

    pub local_at_down : Pt.LocalAt (Q A c.curve) (d A c.curve) (lift_all S a) (member A c.curve f.numerator h) f.exponent → LocalAt A S f
    local_at_down w = record {
      integral = integral_down A c.curve f h w.0;
      m = w.1.0;
      takes = λ ls s.
          let r = chosen_up S a w.1.0 ls s in
          subst (λ z. InIdeal A.prime A.variables (denominator_power A f.exponent ∷ A.ideal) (mul A.prime z f.numerator)) (products-terms r.0 ∙ ap (λ l. product A.prime (map (product A.prime) l)) r.2)
          (taken_down A c.curve f.exponent ((Q A c.curve).◌⊗◌ (Sums.product (Q A c.curve) (λ l. Sums.product (Q A c.curve) (λ x. x) l) r.0) (member A c.curve f.numerator h)) (w.1.1 r.0 r.1));
    }

  -- ---- points

  pub polys_of_points : (S : List (List (List Term))) → All (IsPoint A) S → All (ArePolys A) S
  polys_of_points [] h = All-nil (ArePolys A)
  polys_of_points (P ∷ S) h = All-cons (ArePolys A) P S (All-head (IsPoint A) P S h).reduced.polys (polys_of_points S (All-tail (IsPoint A) P S h))

  all_up : (P : List (List Term)) (a : ArePolys A P) (fs : List (List Term)) (b : All (IsPoly A.prime A.variables) fs) → All (InIdeal A.prime A.variables P) fs → All (Ideals.InIdeal (Ring A c.curve).ops (lift A.prime A.variables P a)) (lift A.prime A.variables fs b)
  unfolding lift
  all_up P a [] b h = All-nil _
  all_up P a (f ∷ fs) b h = All-cons (Ideals.InIdeal (Ring A c.curve).ops (lift A.prime A.variables P a)) (member A c.curve f (All-head (IsPoly A.prime A.variables) f fs b)) (lift A.prime A.variables fs (All-tail (IsPoly A.prime A.variables) f fs b))
      (ideal_from A.prime A.variables (high A c.curve) P a (member A c.curve f (All-head (IsPoly A.prime A.variables) f fs b)) (All-head (InIdeal A.prime A.variables P) f fs h))
      (all_up P a fs (All-tail (IsPoly A.prime A.variables) f fs b) (All-tail (InIdeal A.prime A.variables P) f fs h))

  all_down : (P : List (Poly A c.curve)) (fs : List (List Term)) (b : All (IsPoly A.prime A.variables) fs) → All (Ideals.InIdeal (Ring A c.curve).ops P) (lift A.prime A.variables fs b) → All (InIdeal A.prime A.variables (terms_of P)) fs
  unfolding lift
  all_down P [] b h = All-nil _
  all_down P (f ∷ fs) b h = All-cons (InIdeal A.prime A.variables (terms_of P)) f fs
      (ideal_down A.prime A.variables (high A c.curve) P (member A c.curve f (All-head (IsPoly A.prime A.variables) f fs b)) (All-head (Ideals.InIdeal (Ring A c.curve).ops P) (member A c.curve f (All-head (IsPoly A.prime A.variables) f fs b)) (lift A.prime A.variables fs (All-tail (IsPoly A.prime A.variables) f fs b)) h))
      (all_down P fs (All-tail (IsPoly A.prime A.variables) f fs b) (All-tail (Ideals.InIdeal (Ring A c.curve).ops P) (member A c.curve f (All-head (IsPoly A.prime A.variables) f fs b)) (lift A.prime A.variables fs (All-tail (IsPoly A.prime A.variables) f fs b)) h))

  pub point_up : (P : List (List Term)) (a : ArePolys A P) → IsPoint A P → PointOver (Ring A c.curve).ops (I A c.curve) (d A c.curve) (lift A.prime A.variables P a)
  point_up P a w = (
    all_up P a A.ideal c.curve.ideal w.holds_ideal,
    ideal_from A.prime A.variables (high A c.curve) P a (d A c.curve) w.holds_denominator,
    (λ i. w.proper (ideal_to A.prime A.variables (high A c.curve) P a (Ring A c.curve).𝟙 i)),
    λ f out. ideal_up A.prime A.variables (high A c.curve) (f ∷ lift A.prime A.variables P a) (Ring A c.curve).𝟙
        (subst (λ g. InIdeal A.prime A.variables (f.terms ∷ g) one) (sym (terms-lift A.prime A.variables P a))
        (w.maximal f.terms f.is_poly (λ i. out (ideal_from A.prime A.variables (high A c.curve) P a f i)))),
  )

  maximal_down : (P : List (Poly A c.curve)) → PointOver (Ring A c.curve).ops (I A c.curve) (d A c.curve) P → IsMaximal A (terms_of P)
  maximal_down P w = record {
    polys = polys_of A.prime A.variables P;
    holds_ideal = all_down P A.ideal c.curve.ideal w.0;
    holds_denominator = ideal_down A.prime A.variables (high A c.curve) P (d A c.curve) w.1;
    proper = λ i. w.2 (ideal_up A.prime A.variables (high A c.curve) P (Ring A c.curve).𝟙 i);
    maximal = λ f h out. ideal_down A.prime A.variables (high A c.curve) (member A c.curve f h ∷ P) (Ring A c.curve).𝟙
        (w.3 (member A c.curve f h) (λ i. out (ideal_down A.prime A.variables (high A c.curve) P (member A c.curve f h) i)));
  }

  pub points_up : (S : List (List (List Term))) (a : All (ArePolys A) S) → All (IsPoint A) S → All (PointOver (Ring A c.curve).ops (I A c.curve) (d A c.curve)) (lift_all S a)
  unfolding lift_all
  points_up [] a h = All-nil _
  points_up (P ∷ S) a h = All-cons (PointOver (Ring A c.curve).ops (I A c.curve) (d A c.curve)) (lift A.prime A.variables P (All-head (ArePolys A) P S a)) (lift_all S (All-tail (ArePolys A) P S a))
      (point_up P (All-head (ArePolys A) P S a) (All-head (IsPoint A) P S h)) (points_up S (All-tail (ArePolys A) P S a) (All-tail (IsPoint A) P S h))

  same_up : (P : List (List Term)) (a : ArePolys A P) (M : List (Poly A c.curve)) → HaveOneIdeal A P (terms_of M) → Pt.SameIdeal (Ring A c.curve).ops (d A c.curve) (lift A.prime A.variables P a) M
  same_up P a M s x = (
    (λ i. ideal_up A.prime A.variables (high A c.curve) M x ((s x.terms x.is_poly).0 (ideal_to A.prime A.variables (high A c.curve) P a x i))),
    λ i. ideal_from A.prime A.variables (high A c.curve) P a x ((s x.terms x.is_poly).1 (ideal_down A.prime A.variables (high A c.curve) M x i)),
  )

  any_up : (S : List (List (List Term))) (a : All (ArePolys A) S) (M : List (Poly A c.curve)) → Any (λ R. HaveOneIdeal A R (terms_of M)) S → Any (λ T. Pt.SameIdeal (Ring A c.curve).ops (d A c.curve) T M) (lift_all S a)
  unfolding lift_all
  any_up [] a M w = absurd (let l : w.0 < 0 = w.2 in omega arith)
  any_up (P ∷ S) a M w = go (any_up S (All-tail (ArePolys A) P S a) M) w.0 w.2 w.3
    where
      go : (Any (λ R. HaveOneIdeal A R (terms_of M)) S → Any (λ T. Pt.SameIdeal (Ring A c.curve).ops (d A c.curve) T M) (lift_all S (All-tail (ArePolys A) P S a)))
          → (k : ℕ) → k < length (P ∷ S) → get_or (P ∷ S) k w.1 ≡ w.1 → Any (λ T. Pt.SameIdeal (Ring A c.curve).ops (d A c.curve) T M) (lift_all (P ∷ S) a)
      go r zero l e = (0, lift A.prime A.variables P (All-head (ArePolys A) P S a), omega arith, refl, same_up P (All-head (ArePolys A) P S a) M (subst (λ R. HaveOneIdeal A R (terms_of M)) (sym e) w.4))
      go r (suc k) l e = let q = r (k, w.1, omega arith, e, w.4) in (suc q.0, q.1, (let m : q.0 < length (lift_all S (All-tail (ArePolys A) P S a)) = q.2 in omega arith), q.3, q.4)

  pub all_points_up : (S : List (List (List Term))) (a : All (ArePolys A) S) → All (IsPoint A) S → HasAllPoints A S → Pt.HasAllPoints (Q A c.curve) (d A c.curve) (lift_all S a)
  all_points_up S a h f = CurvePoints.all_points_of_curve (Ring A c.curve) (I A c.curve) (d A c.curve) (lift_all S a) (points_up S a h) (λ M w. any_up S a M (f (terms_of M) (maximal_down M w)))

  differ : (P R : List (List Term)) (a : ArePolys A P) (b : ArePolys A R) → IsPoint A P → IsPoint A R → P ≢ R → ¬ (Pt.SameIdeal (Ring A c.curve).ops (d A c.curve) (lift A.prime A.variables P a) (lift A.prime A.variables R b))
  differ P R a b p r never s = never (unique_law A.prime A.variables P R c.curve.prime p.reduced r.reduced
      (λ f h. (
        (λ i. ideal_to A.prime A.variables (high A c.curve) R b (member A c.curve f h) ((s (member A c.curve f h)).0 (ideal_from A.prime A.variables (high A c.curve) P a (member A c.curve f h) i))),
        λ i. ideal_to A.prime A.variables (high A c.curve) P a (member A c.curve f h) ((s (member A c.curve f h)).1 (ideal_from A.prime A.variables (high A c.curve) R b (member A c.curve f h) i)),
      )))

  abbrev Other : List (Poly A c.curve) → List (Poly A c.curve) → Type 0
  Other M N = ¬ (Pt.SameIdeal (Ring A c.curve).ops (d A c.curve) M N)

  others : (P : List (List Term)) (q : ArePolys A P) → IsPoint A P → (S : List (List (List Term))) (a : All (ArePolys A) S) → All (IsPoint A) S → All (λ R. P ≢ R) S → All (Other (lift A.prime A.variables P q)) (lift_all S a)
  unfolding lift_all
  others P q p [] a h f = All-nil _
  others P q p (R ∷ S) a h f = All-cons (Other (lift A.prime A.variables P q)) (lift A.prime A.variables R (All-head (ArePolys A) R S a)) (lift_all S (All-tail (ArePolys A) R S a))
      (differ P R q (All-head (ArePolys A) R S a) p (All-head (IsPoint A) R S h) (All-head (λ T. P ≢ T) R S f))
      (others P q p S (All-tail (ArePolys A) R S a) (All-tail (IsPoint A) R S h) (All-tail (λ T. P ≢ T) R S f))

  pairs_up : (S : List (List (List Term))) (a : All (ArePolys A) S) → All (IsPoint A) S → AllPairs (λ P R. P ≢ R) S → AllPairs Other (lift_all S a)
  unfolding lift_all
  pairs_up [] a h f = λ i j e l m. absurd (let q : j < 0 = m in omega arith)
  pairs_up (P ∷ S) a h f = all_pairs_cons Other (lift A.prime A.variables P (All-head (ArePolys A) P S a)) (lift_all S (All-tail (ArePolys A) P S a))
      (others P (All-head (ArePolys A) P S a) (All-head (IsPoint A) P S h) S (All-tail (ArePolys A) P S a) (All-tail (IsPoint A) P S h) (all_pairs_first (λ T R. T ≢ R) P S f))
      (pairs_up S (All-tail (ArePolys A) P S a) (All-tail (IsPoint A) P S h) (all_pairs_rest (λ T R. T ≢ R) P S f))

  pub distinct_up : (S : List (List (List Term))) (a : All (ArePolys A) S) → ArePoints A S → Pt.DistinctPoints (Q A c.curve) (d A c.curve) (lift_all S a)
  distinct_up S a w = CurvePoints.distinct_of_curve (Ring A c.curve) (I A c.curve) (d A c.curve) (lift_all S a) (points_up S a w.points) (pairs_up S a w.points w.distinct)
