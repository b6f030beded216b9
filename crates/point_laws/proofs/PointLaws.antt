-- The laws on several points, written out.
use Rattle.std.proofs.Common.{◌≡◌, refl, sym, subst, ℕ, ◌↔◌, List, [], ◌∷◌}
use Rattle.comm_ring.specs.Ring.{pow, CommRing}
use Rattle.point_laws.proofs.AllPoints.{gens, members}
use Rattle.fraction_laws.proofs.Coordinates.{finite}
use Rattle.point_laws.proofs.DistinctPoints.{all_apart, covers_of_holds}
use Rattle.point_laws.proofs.DescentWritten.{local_where_all_points}
use Rattle.fraction_laws.proofs.FractionRing.{Eq, plus, whole_ring}
use Rattle.fraction_laws.proofs.Integrals.{integral_resp}
use Rattle.point_laws.proofs.SeveralPoints.{local_at_up, local_at_down}
use Rattle.point_laws.proofs.Splitting.{parts_of_local, local_of_parts, direct, all_resp}
use Rattle.fraction_laws.proofs.WrittenOut.{Finite, setting, digits, Wh, local_up, local_down, integral_up}
use Rattle.fraction_laws.specs.Fractions.{IntegralAt, fraction_ops, InA}
use Rattle.fraction_laws.proofs.Forms.{Mem}
use Rattle.point_laws.proofs.PointForms.{Point, EachPoint, Distinct, Holds, LocalAtAll, PartsAt, sum_all, SumOfParts, AllInA}
use Rattle.fraction_laws.proofs.Scalars.{Scalars, Dim}
use Rattle.fraction_laws.proofs.Settings.{Each, Setting, gr, Digits, Parts, total, AllApart}

module _ (Q : CommRing) (d : Q.carrier) (cancel : (x : Q.carrier) → Q.◌≈◌ (Q.◌⊗◌ d x) Q.𝟘 → Q.◌≈◌ x Q.𝟘) (S : Scalars Q.ops) (n : ℕ) (D : Dim Q.ops S.p S.scal d n) where
  open Q use {carrier}

  abbrev F : Finite Q d
  F = finite Q S d n D

  abbrev K : Setting
  K = setting Q d cancel

  abbrev N : Digits (gr K)
  N = digits Q d cancel F

  abbrev G : List carrier → carrier × ℕ → Type 0
  G = gens Q d cancel F

  parts_up : (s : List (List carrier)) (fs : List (carrier × ℕ)) → PartsAt Q.ops d s fs → Parts (gr K) (List carrier) G s fs
  parts_up [] [] h = tt
  parts_up [] (f ∷ fs) h = absurd h
  parts_up (t ∷ s) [] h = absurd h
  parts_up (t ∷ s) (f ∷ fs) h = (local_up Q d cancel (Mem Q.ops d t) f.0 f.1 h.0, parts_up s fs h.1)

  parts_down : (s : List (List carrier)) (fs : List (carrier × ℕ)) → Parts (gr K) (List carrier) G s fs → PartsAt Q.ops d s fs
  parts_down [] [] h = tt
  parts_down [] (f ∷ fs) h = absurd h
  parts_down (t ∷ s) [] h = absurd h
  parts_down (t ∷ s) (f ∷ fs) h = (local_down Q d cancel (Mem Q.ops d t) f.0 f.1 h.0, parts_down s fs h.1)

  total_sum : (fs : List (carrier × ℕ)) → total (gr K) (List carrier) G fs ≡ sum_all Q.ops d fs
  total_sum [] = refl
  total_sum (f ∷ fs) = rw (total_sum fs)

  -- a list with all points: integral is local at all of them
  pub all_points_suffice : (s : List (List carrier)) → ((m : List carrier) → Point Q.ops d m → Holds Q.ops d s m) → (a : carrier) (k : ℕ) → IntegralAt Q.ops d a k ↔ LocalAtAll Q.ops d s a k
  unfolding pow
  all_points_suffice s c a k = ((λ h. local_at_down Q d cancel F s a k (local_where_all_points Q d cancel S n D s (covers_of_holds Q d cancel S n D s c) (a, k) (integral_up Q d cancel a k h))), λ h. h.0)

  module _ (s : List (List carrier)) (points : EachPoint Q.ops d s) (distinct : Distinct Q.ops d s) where
    apart : AllApart (gr K) (List carrier) G s
    unfolding pow
    apart = all_apart Q d cancel S n D s points distinct

    pub local_is_sum : (a : carrier) (k : ℕ) → LocalAtAll Q.ops d s a k ↔ SumOfParts Q.ops d s a k
    unfolding pow
    local_is_sum a k = (to, from)
      where
        to : LocalAtAll Q.ops d s a k → SumOfParts Q.ops d s a k
        to h = let w = parts_of_local K N (List carrier) G s (members Q d cancel F s) apart (a, k) (local_at_up Q d cancel F s a k h) in
            (w.0, w.1, w.2, parts_down s w.1 w.3, subst (λ (z : carrier × ℕ). Eq Q d cancel (a, k) (plus Q d cancel w.0 z)) (total_sum w.1) w.4)

        from : SumOfParts Q.ops d s a k → LocalAtAll Q.ops d s a k
        from w = local_at_down Q d cancel F s a k
            (let h = local_of_parts K N (List carrier) G s (members Q d cancel F s) w.1 w.0 w.2 (parts_up s w.1 w.3) in
            let t = plus Q d cancel w.0 (total (gr K) (List carrier) G w.1) in
            let e : Eq Q d cancel t (a, k) = subst (λ (z : carrier × ℕ). Eq Q d cancel (plus Q d cancel w.0 z) (a, k)) (sym (total_sum w.1)) (Q.symm w.4) in
            (integral_resp K t (a, k) e h.0, (h.1.0, all_resp K N (List carrier) G (Wh Q d cancel) (whole_ring Q d cancel).resp s h.1.0 t (a, k) e h.1.1)))

    pub sum_is_direct : (fs : List (carrier × ℕ)) → PartsAt Q.ops d s fs → InA Q.ops d (sum_all Q.ops d fs) → AllInA Q.ops d fs
    sum_is_direct fs h a = each_in fs (direct K N (List carrier) G s (members Q d cancel F s) apart fs (parts_up s fs h) (subst (InA Q.ops d) (sym (total_sum fs)) a))
      where
        each_in : (fs : List (carrier × ℕ)) → Each (fraction_ops Q.ops d) (InA Q.ops d) fs → AllInA Q.ops d fs
        each_in [] h = tt
        each_in (f ∷ fs) h = (h.0, each_in fs h.1)
