-- Points of a ring modulo an ideal, and the laws at them, from what is asked of the ideal and d.
use Rattle.std.proofs.Common.{subst, arith, ℕ, List, ◌∷◌, ◌++◌, All}
use Rattle.std.specs.List.{Any, AllPairs}
use Rattle.prime_field.specs.Primes.{IsPrime}
use Rattle.comm_ring.specs.Ring.{CommRing, IsRingMap}
use Rattle.comm_ring.specs.Residues.{residue_ops}
use Rattle.comm_ring.specs.Modules.{Dimension}
use Rattle.comm_ring.specs.Ideals.{InIdeal}
use Rattle.comm_ring.proofs.Ideals as Ideals
use Rattle.comm_ring.proofs.Modules as Modules
use Rattle.comm_ring.proofs.Residues.{residues}
use Rattle.prime_field.proofs.Table.{positive_of_prime}
use Rattle.fraction_laws.specs.Curves.{curve_ops, RegularOver, space_over}
use Rattle.fraction_laws.proofs.CurveLaws as CurveLaws
use Rattle.point_laws.specs.Points.{Point, PointOver, SameIdeal, DistinctPoints, HasAllPoints}
use Rattle.point_laws.specs.Laws.{PointLaws}
use Rattle.point_laws.proofs.PointLawsHold.{point_laws}

module _ (R : CommRing) (I : List R.carrier) where
  open R use {ops, carrier, ◌≈◌, ◌⊕◌, ◌⊗◌, neg, 𝟘, 𝟙, rfl, symm, trans, add_cong, mul_cong, add_zero}

  infix 40 ◌≈◌
  infixl 60 ◌⊕◌
  infixl 70 ◌⊗◌
  in_first : (f : carrier) (P : List carrier) → All (InIdeal ops P) I → All (InIdeal ops (f ∷ P)) I
  in_first f P h k e l = Modules.span_tail R (Modules.own R) f P _ (h k e l)

  -- a point over I is a point of the ring modulo I
  pub point_of_curve : (d : carrier) (P : List carrier) → PointOver ops I d P → Point (curve_ops ops I) d P
  point_of_curve d P p = (
    (CurveLaws.held R I P p.0 d).1 p.1,
    (λ w. p.2 ((CurveLaws.held R I P p.0 𝟙).0 w)),
    λ f n. (CurveLaws.held R I (f ∷ P) (in_first f P p.0) 𝟙).1 (p.3 f (λ w. n ((CurveLaws.held R I P p.0 f).1 w))),
  )

  -- and a point of the ring modulo I, with I, is one over I
  pub point_over_curve : (d : carrier) (P : List carrier) → Point (curve_ops ops I) d P → PointOver ops I d (P ++ I)
  point_over_curve d P p = (
    (λ k e l. Modules.span_right R (Modules.own R) P I _ (Ideals.generators_in R I k e l)),
    CurveLaws.together R I P d p.0,
    (λ w. p.1 (CurveLaws.apart R I P 𝟙 w)),
    λ f n. CurveLaws.together R I (f ∷ P) 𝟙 (p.2 f (λ w. n (CurveLaws.together R I P f w))),
  )

  -- points over I with different ideals have different ideals modulo I
  pub distinct_of_curve : (d : carrier) (s : List (List carrier)) → All (PointOver ops I d) s → AllPairs (λ P S. ¬ (SameIdeal ops d P S)) s → DistinctPoints (curve_ops ops I) d s
  distinct_of_curve d s h f = (
    (λ k e l. point_of_curve d _ (h k e l)),
    λ i j e l m t. f i j e l m (λ x. (
      (λ w. (CurveLaws.held R I _ (h j e m).0 x).0 ((t x).0 ((CurveLaws.held R I _ (h i e (omega arith)).0 x).1 w))),
      λ w. (CurveLaws.held R I _ (h i e (omega arith)).0 x).0 ((t x).1 ((CurveLaws.held R I _ (h j e m).0 x).1 w)),
    )),
  )

  -- a list that has the ideal of every point over I has all points of the ring modulo I
  pub all_points_of_curve : (d : carrier) (s : List (List carrier)) → All (PointOver ops I d) s → ((P : List carrier) → PointOver ops I d P → Any (λ S. SameIdeal ops d S P) s)
      → HasAllPoints (curve_ops ops I) d s
  all_points_of_curve d s h f P p =
      let a = f (P ++ I) (point_over_curve d P p) in
      let q : PointOver ops I d a.1 = subst (PointOver ops I d) a.3 (h a.0 a.1 a.2) in
      (a.0, a.1, a.2, a.3, λ x. ((λ w. CurveLaws.apart R I P x ((a.4 x).0 ((CurveLaws.held R I a.1 q.0 x).0 w))), λ w. (CurveLaws.held R I a.1 q.0 x).1 ((a.4 x).1 (CurveLaws.together R I P x w))))

  -- the laws, where d is regular modulo I and the dimension modulo I and d is finite
  pub curve_point_laws : (d : carrier) → RegularOver ops I d → (p : ℕ) (prime : IsPrime p) (scalar : ℕ → carrier) → IsRingMap (residue_ops p) ops scalar
      → (n : ℕ) → Dimension (space_over ops I scalar d) n → PointLaws (curve_ops ops I) d p scalar
  curve_point_laws d r p prime scalar m n D = point_laws (CurveLaws.curve R I) d (CurveLaws.regular_of_curve R I d r) p prime scalar
      (CurveLaws.map_to_curve R I (residues p (positive_of_prime p prime)) scalar m) n (CurveLaws.dimension_of_curve R I scalar d n D)
