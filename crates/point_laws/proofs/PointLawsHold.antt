-- The laws of integral fractions at points hold where d is regular and the ring has a dimension modulo d.
use Rattle.std.proofs.Common.{sym, subst, ℕ, suc, List, [], ◌∷◌}
use Rattle.prime_field.specs.Primes.{IsPrime}
use Rattle.comm_ring.specs.Ring.{CommRing, IsRingMap, pow}
use Rattle.comm_ring.specs.Residues.{residue_ops}
use Rattle.comm_ring.specs.Sums.{joined, sum, product}
use Rattle.comm_ring.specs.Modules.{Dimension}
use Rattle.comm_ring.specs.Ideals.{InIdeal}
use Rattle.comm_ring.proofs.Derived as Derived
use Rattle.comm_ring.proofs.Expressions.{ring_as, v0, c1, ◌*:◌, minus}
use Rattle.prime_field.proofs.Table.{positive_of_prime}
use Rattle.fraction_laws.specs.Fractions.{Regular, Frac, fraction_ops, InA, IsFractionRing}
use Rattle.point_laws.specs.Points.{LocalAt, SumOfParts}
use Rattle.fraction_laws.specs.Laws.{IsClosed}
use Rattle.point_laws.specs.Laws.{ModuleOf, Descent, AllPointsSuffice, LocalIsSumOfParts, PartsAreDirect, NoPoints, LocalAtIsRing, DeltaIsUnique, PointLaws}
use Rattle.fraction_laws.proofs.Settings.{Setting, gr, Digits}
use Rattle.fraction_laws.proofs.Scalars.{Scalars, Dim}
use Rattle.fraction_laws.proofs.Forms as Forms
use Rattle.point_laws.proofs.PointForms as PointForms
use Rattle.fraction_laws.proofs.FractionRing.{plus, times}
use Rattle.fraction_laws.proofs.WrittenOut.{em_whole, Finite, Gens, setting, digits, local_up, integral_down}
use Rattle.point_laws.proofs.AllPoints.{sums_up, gens, members}
use Rattle.fraction_laws.proofs.Coordinates.{finite}
use Rattle.fraction_laws.proofs.Integrals.{integral_A, integral_resp}
use Rattle.point_laws.proofs.Splitting.{all_resp, local_at_add, local_at_mul}
use Rattle.point_laws.proofs.SeveralPoints.{local_at_up, local_at_down}
use Rattle.point_laws.proofs.Deltas.{delta_unique}
use Rattle.point_laws.proofs.FewPoints.{few}
use Rattle.fraction_laws.proofs.FractionLaws.{residues}
use Rattle.point_laws.proofs.DescentWritten.{descent_written}
use Rattle.point_laws.proofs.PointLaws.{all_points_suffice, local_is_sum, sum_is_direct}
use Rattle.fraction_laws.proofs.Translations.{local_in}
use Rattle.point_laws.proofs.PointTranslations.{to_sums, points_in, distinct_in, all_points_in, local_at_in, local_at_out, parts_in, parts_out, sum_is, all_in}
use Rattle.fraction_laws.proofs.Premises.{Space, scalars, dimension_in}
use Rattle.fraction_laws.proofs.Independence.{beyond_in, beyond_out}
use Rattle.point_laws.proofs.LocalRings.{ring_in, full_in, enlargement, full_is_local, full_counts_delta, local_ring_is_bounded}

module _ (Q : CommRing) (d : Q.carrier) (regular : Regular Q.ops d) (p : ℕ) (prime : IsPrime p) (scalar : ℕ → Q.carrier)
    (m : IsRingMap (residue_ops p) Q.ops scalar) (n : ℕ) (D : Dimension (Space Q p prime scalar m d) n) where
  open Q use {ops, carrier, ◌≈◌, ◌⊕◌, ◌⊗◌, neg, 𝟘, 𝟙, rfl, symm, trans, mul_cong, mul_one}

  infix 40 ◌≈◌
  infixl 60 ◌⊕◌
  infixl 70 ◌⊗◌
  abbrev S : Scalars ops
  S = scalars Q p prime scalar m

  abbrev Fin : Dim ops p scalar d n
  Fin = dimension_in Q p prime scalar m d n D

  abbrev F : Finite Q d
  F = finite Q S d n Fin

  abbrev K : Setting
  K = setting Q d regular

  abbrev N : Digits (gr K)
  N = digits Q d regular F

  abbrev Mem : List carrier → carrier → Type 0
  Mem P = Forms.Mem ops d P

  abbrev G : List carrier → Frac ops d → Type 0
  G P = Gens Q d regular (Mem P)

  -- sums and products of fractions local at s are local at s
  closed_at : (s : List (List carrier)) → IsClosed ops d (λ x. LocalAt ops d s x.0 x.1)
  closed_at s x y h k =
      let u = local_at_up Q d regular F s x.0 x.1 (local_at_in Q d s x.0 x.1 h) in
      let v = local_at_up Q d regular F s y.0 y.1 (local_at_in Q d s y.0 y.1 k) in (
        local_at_out Q d s (plus Q d regular x y).0 (plus Q d regular x y).1 (local_at_down Q d regular F s (plus Q d regular x y).0 (plus Q d regular x y).1 (local_at_add K N (List carrier) (gens Q d regular F) s (members Q d regular F s) x y u v)),
        local_at_out Q d s (times Q d regular x y).0 (times Q d regular x y).1 (local_at_down Q d regular F s (times Q d regular x y).0 (times Q d regular x y).1 (local_at_mul K N (List carrier) (gens Q d regular F) s x y u v)),
      )

  descent : Descent ops d
  descent P point k L r holds full a l w =
      descent_written Q d regular S n Fin P (sums_up Q d regular P d (to_sums Q d P d point.0)) k (InIdeal ops L) (ring_in Q d regular p prime scalar m n D (ModuleOf ops d k L) r) holds (full_in Q d regular p prime scalar m n D P (ModuleOf ops d k L) full)
      (a, l) (local_up Q d regular (Mem P) a l (local_in Q d P a l w))

  unique : DeltaIsUnique ops d p scalar
  unfolding residues
  unique P r s h g = delta_unique K (residues Q d regular S n Fin) (positive_of_prime p prime) (G P) r s
      (beyond_in Q d regular p prime scalar m P r h.0, λ b. h.1 (beyond_out Q d regular p prime scalar m P (suc r) b))
      (beyond_in Q d regular p prime scalar m P s g.0, λ b. g.1 (beyond_out Q d regular p prime scalar m P (suc s) b))

  all_points : AllPointsSuffice ops d
  all_points s h a k =
      let e = all_points_suffice Q d regular S n Fin s (all_points_in Q d s h) a k in
      ((λ i. local_at_out Q d s a k (e.0 i)), λ l. e.1 (local_at_in Q d s a k l))

  abbrev Total : List (Frac ops d) → Frac ops d
  Total fs = sum (fraction_ops ops d) (λ f. f) fs

  sum_in : (s : List (List carrier)) (a : carrier) (k : ℕ) → SumOfParts ops d s a k → PointForms.SumOfParts ops d s a k
  sum_in s a k w = (w.0, w.1, w.2, parts_in Q d s w.1 w.3, subst (λ z. (fraction_ops ops d).◌≈◌ (a, k) ((fraction_ops ops d).◌⊕◌ w.0 z)) (sym (sum_is Q d w.1)) w.4)

  sum_out : (s : List (List carrier)) (a : carrier) (k : ℕ) → PointForms.SumOfParts ops d s a k → SumOfParts ops d s a k
  sum_out s a k w = (w.0, w.1, w.2, parts_out Q d s w.1 w.3, subst (λ z. (fraction_ops ops d).◌≈◌ (a, k) ((fraction_ops ops d).◌⊕◌ w.0 z)) (sum_is Q d w.1) w.4)

  parts : LocalIsSumOfParts ops d
  parts s h a k =
      let e = local_is_sum Q d regular S n Fin s (points_in Q d s h.0) (distinct_in Q d s h.1) a k in
      ((λ l. sum_out s a k (e.0 (local_at_in Q d s a k l))), λ w. local_at_out Q d s a k (e.1 (sum_in s a k w)))

  direct : PartsAreDirect ops d
  direct s h fs q i = all_in Q d fs (sum_is_direct Q d regular S n Fin s (points_in Q d s h.0) (distinct_in Q d s h.1) fs (parts_in Q d s fs q) (subst (InA ops d) (sym (sum_is Q d fs)) i))

  none : NoPoints ops d
  unfolding joined
  none h a k i = let l = (all_points [] h a k).0 i in let q = l.1.1 [] tt in (q.0, trans (symm (Derived.one_mul Q a)) q.1)

  local_at_resp : (s : List (List carrier)) (x y : Frac ops d) → (fraction_ops ops d).◌≈◌ x y → LocalAt ops d s x.0 x.1 → LocalAt ops d s y.0 y.1
  local_at_resp s x y e h =
      let u = local_at_up Q d regular F s x.0 x.1 (local_at_in Q d s x.0 x.1 h) in
      local_at_out Q d s y.0 y.1 (local_at_down Q d regular F s y.0 y.1
      (integral_resp K x y e u.0, (u.1.0, all_resp K N (List carrier) (gens Q d regular F) (InA ops d) K.A_ring.resp s u.1.0 x y e u.1.1)))

  whole_local : (s : List (List carrier)) (a : carrier) (k : ℕ) → InA ops d (a, k) → LocalAt ops d s a k
  whole_local s a k h = (
    integral_down Q d regular a k (integral_A K (a, k) h),
    (0, λ ls c. let t = product ops (λ l. product ops (λ x. x) l) ls in (t ⊗ h.0, trans (mul_cong (rfl t) h.1) (symm (Q.mul_assoc t h.0 (pow ops d k))))),
  )

  -- the fractions local at s
  abbrev At : List (List carrier) → Frac ops d → Type 0
  At s x = LocalAt ops d s x.0 x.1

  rings : LocalAtIsRing ops d
  unfolding joined
  rings = (ring_at, λ a k. ((λ l. let q = l.1.1 [] tt in (q.0, trans (symm (Derived.one_mul Q a)) q.1)), whole_local [] a k))
    where
      minus_one_local : (s : List (List carrier)) → At s (neg 𝟙, 0)
      minus_one_local s = whole_local s (neg 𝟙) 0 (em_whole Q d regular (neg 𝟙))

      ring_at : (s : List (List carrier)) → IsFractionRing ops d (At s)
      ring_at s = record {
        resp = local_at_resp s;
        one = whole_local s 𝟙 0 (em_whole Q d regular 𝟙);
        add = λ x y h k. (closed_at s x y h k).0;
        mul = λ x y h k. (closed_at s x y h k).1;
        neg = λ x h. local_at_resp s ((fraction_ops ops d).◌⊗◌ (neg 𝟙, 0) x) ((fraction_ops ops d).neg x) (ring_as K.ring (x ∷ []) (minus c1 *: v0) (minus v0) tt) (closed_at s (neg 𝟙, 0) x (minus_one_local s) h).1;
      }

  pub point_laws : PointLaws ops d p scalar
  point_laws = record {
    descent = descent;
    enlargement = enlargement Q d regular p prime scalar m n D;
    full = full_is_local Q d regular p prime scalar m n D;
    unique = unique;
    counts = full_counts_delta Q d regular p prime scalar m n D;
    bounded = local_ring_is_bounded Q d regular p prime scalar m n D;
    all_points = all_points;
    parts = parts;
    direct = direct;
    none = none;
    rings = rings;
    few = λ k E. few Q d regular p prime scalar m k E;
  }
