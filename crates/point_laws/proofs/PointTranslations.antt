-- Between the definitions of points and the forms that the proofs use.
use Rattle.std.proofs.Common.{◌≡◌, refl, sym, ap, subst, ◌∙◌, ◌↔◌, inl, inr, ℕ, zero, suc, ◌<◌, List, [], ◌∷◌, length, All, get_or, arith}
use Rattle.std.specs.List.{Contains, Any, AllPairs}
use Rattle.std.proofs.lemmas.List.Elements.{All-nil, All-cons, All-head, All-tail, All-weaker, All-contains, All-contains_itself}
use Rattle.comm_ring.specs.Ring.{CommRing}
use Rattle.comm_ring.specs.Sums.{joined, sum, product}
use Rattle.comm_ring.specs.Ideals.{InIdeal, IsIdeal, ProductOf}
use Rattle.comm_ring.proofs.Ideals as Ideals
use Rattle.fraction_laws.specs.Fractions.{Frac, fraction_ops, InA}
use Rattle.point_laws.specs.Points.{Point, SameIdeal, HasAllPoints, Chosen, LocalAt, Parts}
use Rattle.fraction_laws.proofs.Forms.{Mem}
use Rattle.fraction_laws.proofs.Translations.{member, member_back, product_is, each_member, choose, multiple_resp, local_in, local_out}
use Rattle.point_laws.proofs.PointForms as Forms

module _ (Q : CommRing) (d : Q.carrier) where
  open Q use {ops, carrier, ◌≈◌, ◌⊕◌, ◌⊗◌, neg, 𝟘, 𝟙, rfl, symm, trans, add_cong, mul_cong, mul_comm, mul_one}

  infix 40 ◌≈◌
  infixl 60 ◌⊕◌
  infixl 70 ◌⊗◌
  -- the ideal of a list, as sums of products
  abbrev Sums : List carrier → carrier → Type 0
  Sums P x = ProductOf ops (Mem ops d P) (λ y. Unit {0}) x

  sums_ideal : (P : List carrier) → IsIdeal ops (Sums P)
  sums_ideal P = Ideals.product_ideal Q (Mem ops d P) (λ y. Unit {0}) (λ c x h. tt)

  pub to_sums : (P : List carrier) (x : carrier) → InIdeal ops P x → Sums P x
  to_sums P x h = Ideals.ideal_least Q (Sums P) (sums_ideal P) P
      (All-weaker (Contains P) (Sums P) (λ p c. Ideals.product_resp Q (Mem ops d P) (λ y. Unit {0}) (p ⊗ 𝟙) p (mul_one p) (Ideals.product_of Q (Mem ops d P) (λ y. Unit {0}) p 𝟙 (member Q d P p c) tt)) P (All-contains_itself P))
      x h

  pub from_sums : (P : List carrier) (x : carrier) → Sums P x → InIdeal ops P x
  from_sums P x h = Ideals.product_least Q (Mem ops d P) (λ y. Unit {0}) (InIdeal ops P) (Ideals.ideal_of_list Q P)
      (λ u v hu hv. let q = member_back Q d P u hu in
      Ideals.right_in Q (InIdeal ops P) (Ideals.ideal_of_list Q P) u v ((Ideals.ideal_of_list Q P).resp q.0 u (symm q.2) (All-contains (InIdeal ops P) P q.0 (Ideals.generators_in Q P) q.1)))
      x h

  pub point_in : (P : List carrier) → Point ops d P → Forms.Point ops d P
  point_in P p = (to_sums P d p.0, (λ h. p.1 (from_sums P 𝟙 h)), λ f n. to_sums (f ∷ P) 𝟙 (p.2 f (λ h. n (to_sums P f h))))

  pub point_out : (P : List carrier) → Forms.Point ops d P → Point ops d P
  point_out P p = (from_sums P d p.0, (λ h. p.1 (to_sums P 𝟙 h)), λ f n. from_sums (f ∷ P) 𝟙 (p.2 f (λ h. n (from_sums P f h))))

  pub same_in : (P R : List carrier) → SameIdeal ops d P R → (x : carrier) → Sums P x ↔ Sums R x
  same_in P R s x = ((λ h. to_sums R x ((s x).0 (from_sums P x h))), λ h. to_sums P x ((s x).1 (from_sums R x h)))

  same_out : (P R : List carrier) → ((x : carrier) → Sums P x ↔ Sums R x) → SameIdeal ops d P R
  same_out P R s x = ((λ h. from_sums R x ((s x).0 (to_sums P x h))), λ h. from_sums P x ((s x).1 (to_sums R x h)))

  pub points_in : (s : List (List carrier)) → All (Point ops d) s → Forms.EachPoint ops d s
  points_in [] h = tt
  points_in (t ∷ s) h = (point_in t (All-head (Point ops d) t s h), points_in s (All-tail (Point ops d) t s h))

  abbrev Other : List carrier → List carrier → Type 0
  Other P R = ¬ (SameIdeal ops d P R)

  differs_in : (t : List carrier) (s : List (List carrier)) → All (Other t) s → Forms.Differs ops d t s
  differs_in t [] h = tt
  differs_in t (u ∷ s) h = ((λ f. All-head (Other t) u s h (same_out t u f)), differs_in t s (All-tail (Other t) u s h))

  pub distinct_in : (s : List (List carrier)) → AllPairs Other s → Forms.Distinct ops d s
  distinct_in [] h = tt
  distinct_in (t ∷ s) h = (differs_in t s (λ k e l. h 0 (suc k) e (omega arith) (omega arith)), distinct_in s (λ i j e l m. h (suc i) (suc j) e (omega arith) (omega arith)))

  pub holds_in : (s : List (List carrier)) (P : List carrier) → Any (λ R. SameIdeal ops d R P) s → Forms.Holds ops d s P
  holds_in [] P a = absurd (let l : a.0 < 0 = a.2 in omega arith)
  holds_in (t ∷ s) P a = go (holds_in s P) a.0 a.2 a.3
    where
      go : (Any (λ R. SameIdeal ops d R P) s → Forms.Holds ops d s P) → (k : ℕ) → k < length (t ∷ s) → get_or (t ∷ s) k a.1 ≡ a.1 → Forms.Holds ops d (t ∷ s) P
      go f zero l e = inl (same_in t P (subst (λ z. SameIdeal ops d z P) (sym e) a.4))
      go f (suc k) l e = inr (f (k, a.1, omega arith, e, a.4))

  pub all_points_in : (s : List (List carrier)) → HasAllPoints ops d s → (m : List carrier) → Forms.Point ops d m → Forms.Holds ops d s m
  all_points_in s h m p = holds_in s m (h m (point_out m p))

  abbrev Lists_for : List (List carrier) → ℕ → List (List carrier) → Type 0
  Lists_for s m ls = (ks : List (List carrier)) × Chosen ops d s m ks × Forms.prod_all ops d ls ≈ product ops (λ l. product ops (λ x. x) l) ks

  choose_all : (s : List (List carrier)) (m : ℕ) (ls : List (List carrier)) → Forms.Chosen ops d s m ls → Lists_for s m ls
  unfolding joined
  choose_all [] m [] c = ([], tt, rfl 𝟙)
  choose_all [] m (l ∷ ls) c = absurd c
  choose_all (t ∷ s) m [] c = absurd c
  choose_all (t ∷ s) m (l ∷ ls) c = let q = choose Q d t l c.1 in let r = choose_all s m ls c.2 in
      (q.0 ∷ r.0, ((q.1 ∙ c.0, q.2), r.1), mul_cong q.3 r.2)

  chosen_in : (s : List (List carrier)) (m : ℕ) (ls : List (List carrier)) → Chosen ops d s m ls → Forms.Chosen ops d s m ls
  chosen_in [] m [] c = tt
  chosen_in [] m (l ∷ ls) c = absurd c
  chosen_in (t ∷ s) m [] c = absurd c
  chosen_in (t ∷ s) m (l ∷ ls) c = (c.0.0, each_member Q d t l c.0.1, chosen_in s m ls c.1)

  products_are : (ls : List (List carrier)) → Forms.prod_all ops d ls ≈ product ops (λ l. product ops (λ x. x) l) ls
  unfolding joined
  products_are [] = rfl 𝟙
  products_are (l ∷ ls) = mul_cong (product_is Q d l) (products_are ls)

  pub local_at_in : (s : List (List carrier)) (a : carrier) (k : ℕ) → LocalAt ops d s a k → Forms.LocalAtAll ops d s a k
  local_at_in s a k h = (
    h.0,
    (
      h.1.0,
      λ ls c. let q = choose_all s h.1.0 ls c in
          multiple_resp Q d k (product ops (λ l. product ops (λ x. x) l) q.0 ⊗ a) (Forms.prod_all ops d ls ⊗ a) (mul_cong (symm q.2) (rfl a)) (h.1.1 q.0 q.1),
    ),
  )

  pub local_at_out : (s : List (List carrier)) (a : carrier) (k : ℕ) → Forms.LocalAtAll ops d s a k → LocalAt ops d s a k
  local_at_out s a k h = (h.0, (h.1.0, λ ls c. multiple_resp Q d k (Forms.prod_all ops d ls ⊗ a) (product ops (λ l. product ops (λ x. x) l) ls ⊗ a) (mul_cong (products_are ls) (rfl a)) (h.1.1 ls (chosen_in s h.1.0 ls c))))

  pub parts_in : (s : List (List carrier)) (fs : List (Frac ops d)) → Parts ops d s fs → Forms.PartsAt ops d s fs
  parts_in [] [] h = tt
  parts_in [] (f ∷ fs) h = absurd h
  parts_in (t ∷ s) [] h = absurd h
  parts_in (t ∷ s) (f ∷ fs) h = (local_in Q d t f.0 f.1 h.0, parts_in s fs h.1)

  pub parts_out : (s : List (List carrier)) (fs : List (Frac ops d)) → Forms.PartsAt ops d s fs → Parts ops d s fs
  parts_out [] [] h = tt
  parts_out [] (f ∷ fs) h = absurd h
  parts_out (t ∷ s) [] h = absurd h
  parts_out (t ∷ s) (f ∷ fs) h = (local_out Q d t f.0 f.1 h.0, parts_out s fs h.1)

  pub sum_is : (fs : List (Frac ops d)) → Forms.sum_all ops d fs ≡ sum (fraction_ops ops d) (λ f. f) fs
  unfolding joined
  sum_is [] = refl
  sum_is (f ∷ fs) = ap (λ z. (fraction_ops ops d).◌⊕◌ f z) (sum_is fs)

  pub all_in : (fs : List (Frac ops d)) → Forms.AllInA ops d fs → All (InA ops d) fs
  all_in [] h = All-nil (InA ops d)
  all_in (f ∷ fs) h = All-cons (InA ops d) f fs h.0 (all_in fs h.1)
