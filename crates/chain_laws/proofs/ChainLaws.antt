-- The chain of rings of local fractions: it starts with A, and each enlargement goes on.
use Rattle.std.proofs.Common.{◌≡◌, ◌↔◌, ◌-◌, ℕ, suc, List, [], ◌∷◌, sym, ap, ◌∙◌, subst}
use Rattle.std.specs.List.{Contains}
use Rattle.std.proofs.lemmas.List.Elements.{All-nil, All-cons, All-head, All-weaker, All-contains, All-contains_itself}
use Rattle.comm_ring.specs.Ring.{pow}
use Rattle.comm_ring.specs.Ideals as Ideals
use Rattle.comm_ring.specs.Sums as Sums
use Rattle.comm_ring.proofs.Ideals as IdealLaws
use Rattle.polys.specs.declared.term.Term.{Term}
use Rattle.polys.specs.Terms.{IsPoly, one, product}
use Rattle.polys.specs.Ideal.{InIdeal}
use Rattle.polys.specs.Curve.{CurveData}
use Rattle.polys.proofs.Affine.{positive}
use Rattle.ideal_laws.proofs.Ideals.{in_poly}
use Rattle.curve_model.specs.Fraction.{Fraction, IsFraction, InA, over, sum_of, product_of, multiple_of}
use Rattle.curve_model.specs.Local.{Local, LocalAt, AreMembers, TakesIntoA}
use Rattle.curve_model.specs.Point.{IsPoint}
use Rattle.curve_model.specs.Closure.{InModule}
use Rattle.curve_model.specs.Laws.{IsFinite, ArePolys}
use Rattle.curve_model.specs.Rings.{IsFractionRing, KeepsRadical}
use Rattle.curve_model.specs.Enlarging.{IsLocalRing}
use Rattle.curve_model.specs.Closing.{ChainStarts, ChainGoesOn}
use Rattle.curve_laws.proofs.Members.{ideal_to}
use Rattle.ideal_laws.proofs.Members.{lift, terms-lift}
use Rattle.curve_laws.proofs.Facts.{contains_member}
use Rattle.curve_laws.proofs.Chains.{flip, over_none}
use Rattle.curve_laws.proofs.Base.{high, Ring, d, Q, Curve, member, equal_down}
use Rattle.curve_laws.proofs.Locals.{members_poly, product-terms, taken_down}
use Rattle.curve_laws.proofs.StatedLaws.{sum_poly, product_poly}
use Rattle.curve_laws.proofs.SplitLaws.{none_law}
use Rattle.curve_laws.proofs.LocalRingLaws.{local_ring_law}
use Rattle.curve_laws.proofs.EnlargingLaws.{enlargement_law}
use Rattle.curve_laws.proofs.DeltaLaws.{multiple_poly}

module _ (A : CurveData) (c : IsFinite A) where
  pub one_poly : IsPoly A.prime A.variables one
  one_poly = (Ring A c.curve).𝟙.is_poly

  -- two properties that agree are rings together
  pub transfer : (V W : Fraction → Type 0) → ((f : Fraction) → IsFraction A f → V f ↔ W f) → IsFractionRing A V → IsFractionRing A W
  transfer V W e r = record {
    respects = λ f g hf hg s w. (e g hg).0 (r.respects f g hf hg s ((e f hf).1 w));
    one = (e (over one 0) one_poly).0 r.one;
    sum = λ f g hf hg v w. (e (sum_of A f g) (sum_poly A c f g hf hg)).0 (r.sum f g hf hg ((e f hf).1 v) ((e g hg).1 w));
    product = λ f g hf hg v w. (e (product_of A f g) (product_poly A c f g hf hg)).0 (r.product f g hf hg ((e f hf).1 v) ((e g hg).1 w));
    negative = λ f hf v. (e (multiple_of A (A.prime - 1) f) (multiple_poly A c (A.prime - 1) f hf)).0 (r.negative f hf ((e f hf).1 v));
  }

  -- each b of M over d^K is in the module of K and M
  pub itself : (K : ℕ) (M : List (List Term)) (m : ArePolys A M) (b : List Term) → Contains M b → InModule A K M (over b K)
  itself K M m b k =
      let h = All-contains (IsPoly A.prime A.variables) M b m k in
      let x = member A c.curve b h in (
        b,
        ideal_to A.prime A.variables (high A c.curve) M m x
            (All-contains (Ideals.InIdeal (Ring A c.curve).ops (lift A.prime A.variables M m)) (lift A.prime A.variables M m) x (IdealLaws.generators_in (Ring A c.curve) (lift A.prime A.variables M m))
            (contains_member (lift A.prime A.variables M m) x (subst (λ l. Contains l b) (sym (terms-lift A.prime A.variables M m)) k))),
        equal_down A c.curve (over b K) (over b K) h h ((Curve A c.curve).rfl ((Q A c.curve).◌⊗◌ x (pow (Q A c.curve) (d A c.curve) K))),
      )

  -- the ideal of 1 holds every polynomial
  pub in_one : (b : List Term) → IsPoly A.prime A.variables b → InIdeal A.prime A.variables (one ∷ []) b
  unfolding lift
  in_one b h =
      let o : ArePolys A (one ∷ []) = All-cons (IsPoly A.prime A.variables) one [] one_poly (All-nil (IsPoly A.prime A.variables)) in
      let x = member A c.curve b h in
      let u = member A c.curve one (All-head (IsPoly A.prime A.variables) one [] o) in
      let i = IdealLaws.ideal_of_list (Ring A c.curve) (lift A.prime A.variables (one ∷ []) o) in
      ideal_to A.prime A.variables (high A c.curve) (one ∷ []) o x
      (i.resp ((Ring A c.curve).◌⊗◌ x u) x ((Ring A c.curve).mul_one x)
      (i.scale x u (All-head (Ideals.InIdeal (Ring A c.curve).ops (lift A.prime A.variables (one ∷ []) o)) u [] (IdealLaws.generators_in (Ring A c.curve) (lift A.prime A.variables (one ∷ []) o)))))

  pub whole : (f : Fraction) → IsFraction A f → InA A f ↔ InModule A 0 (one ∷ []) f
  whole f h = ((λ w. (w.0, in_one w.0 w.1, w.2)), λ w. (w.0, in_poly A.prime A.variables (one ∷ []) w.0 (positive A.prime (high A c.curve)) (All-cons (IsPoly A.prime A.variables) one [] one_poly (All-nil (IsPoly A.prime A.variables))) w.1, w.2))

  pub whole_ring : IsFractionRing A (InA A)
  whole_ring = transfer (LocalAt A []) (InA A) (λ f h. none_law A c f h) (local_ring_law A c [] (All-nil (ArePolys A)))

  one_in : InA A (over one 0)
  one_in = whole_ring.one

  module _ (P : List (List Term)) (point : IsPoint A P) where
    takes : (l : List (List Term)) → AreMembers 0 P l → TakesIntoA A (product A.prime l) (over one 0)
    takes l k =
        let b = members_poly A.prime A.variables P l point.reduced.polys k.members in
        let xs = lift A.prime A.variables l b in
        let x = (Q A c.curve).◌⊗◌ (Sums.product (Q A c.curve) (λ z. z) xs) (Ring A c.curve).𝟙 in
        let e : (Sums.product (Q A c.curve) (λ z. z) xs).terms ≡ product A.prime l = product-terms A c.curve xs ∙ ap (product A.prime) (terms-lift A.prime A.variables l b) in
        subst (λ z. TakesIntoA A z (over one 0)) e
        (taken_down A c.curve 0 x (x, flip (Curve A c.curve) ((Q A c.curve).◌⊗◌ x (pow (Q A c.curve) (d A c.curve) 0)) x (over_none (Curve A c.curve) (d A c.curve) x x ((Curve A c.curve).rfl x))))

    starts : IsLocalRing A P 0 (one ∷ [])
    starts = record {
      ring = transfer (InA A) (InModule A 0 (one ∷ [])) whole whole_ring;
      holds = λ f h i. (whole f h).0 i;
      local = All-cons (λ b. Local A P (over b 0)) one [] (record { integral = ((none_law A c (over one 0) one_poly).1 one_in).integral; m = 0; takes = takes }) (All-nil (λ b. Local A P (over b 0)));
    }

    module _ (K : ℕ) (L : List (List Term)) (l : ArePolys A L) (w : IsLocalRing A P K L) (M : List (List Term)) (m : ArePolys A M)
        (e : (f : Fraction) → IsFraction A f → InModule A (suc K) M f ↔ KeepsRadical A P (InModule A K L) f) where
      goes_on : IsLocalRing A P (suc K) M
      goes_on =
          let n = enlargement_law A c P point K L l w in record {
            ring = transfer (KeepsRadical A P (InModule A K L)) (InModule A (suc K) M) (λ f h. ((e f h).1, (e f h).0)) n.ring;
            holds = λ f h i. (e f h).1 (n.holds f h (w.holds f h i));
            local = All-weaker (Contains M) (λ b. Local A P (over b (suc K)))
                (λ b k. n.local (over b (suc K)) (All-contains (IsPoly A.prime A.variables) M b m k) ((e (over b (suc K)) (All-contains (IsPoly A.prime A.variables) M b m k)).0 (itself (suc K) M m b k)))
                M (All-contains_itself M);
          }

pub goes_on_law : ChainGoesOn
goes_on_law A c P point K L l w M m e = goes_on A c P point K L l w M m e

pub starts_law : ChainStarts
starts_law A c P point = starts A c P point
