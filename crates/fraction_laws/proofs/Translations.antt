-- Between the definition of a local fraction and the form that the proofs use.
use Rattle.std.proofs.Common.{◌≡◌, refl, sym, ap, ◌∙◌, inl, inr, ℕ, zero, suc, ◌<◌, List, [], ◌∷◌, length, All, get_or, arith}
use Rattle.std.specs.List.{Contains}
use Rattle.std.proofs.lemmas.List.Elements.{All-nil, All-cons, All-head, All-tail}
use Rattle.comm_ring.specs.Ring.{CommRing}
use Rattle.comm_ring.specs.Sums.{joined, product}
use Rattle.comm_ring.proofs.Derived as Derived
use Rattle.fraction_laws.specs.Fractions.{MultipleOf, LocalTo}
use Rattle.fraction_laws.proofs.Settings.{Each, prod}
use Rattle.fraction_laws.proofs.Forms as Forms

module _ (Q : CommRing) (d : Q.carrier) where
  open Q use {ops, carrier, ◌≈◌, ◌⊕◌, ◌⊗◌, neg, 𝟘, 𝟙, rfl, symm, trans, add_cong, mul_cong, mul_comm, mul_one}

  infix 40 ◌≈◌
  infixl 60 ◌⊕◌
  infixl 70 ◌⊗◌
  -- a member of a list, up to the ring's equality
  pub member : (P : List carrier) (p : carrier) → Contains P p → Forms.Mem ops d P p
  member [] p c = absurd (let l : c.0 < 0 = c.1 in omega arith)
  member (y ∷ P) p c = go (member P p) c.0 c.1 c.2
    where
      go : (Contains P p → Forms.Mem ops d P p) → (k : ℕ) → k < length (y ∷ P) → get_or (y ∷ P) k p ≡ p → Forms.Mem ops d (y ∷ P) p
      go f zero l e = inl (Derived.of_path Q (sym e))
      go f (suc k) l e = inr (f (k, omega arith, e))

  pub member_back : (P : List carrier) (p : carrier) → Forms.Mem ops d P p → (q : carrier) × Contains P q × p ≈ q
  member_back [] p m = absurd m
  member_back (y ∷ P) p (inl e) = (y, (0, omega arith, refl), e)
  member_back (y ∷ P) p (inr m) = let h = member_back P p m in (h.0, (suc h.1.0, (let l : h.1.0 < length P = h.1.1 in omega arith), h.1.2), h.2)

  pub product_is : (l : List carrier) → prod ops l ≈ product ops (λ x. x) l
  unfolding joined
  product_is [] = rfl 𝟙
  product_is (x ∷ l) = mul_cong (rfl x) (product_is l)

  pub each_member : (P l : List carrier) → All (Contains P) l → Each ops (Forms.Mem ops d P) l
  each_member P [] h = tt
  each_member P (x ∷ l) h = (member P x (All-head (Contains P) x l h), each_member P l (All-tail (Contains P) x l h))

  abbrev Chosen_for : List carrier → List carrier → Type 0
  Chosen_for P l = (m : List carrier) × length m ≡ length l × All (Contains P) m × prod ops l ≈ product ops (λ x. x) m

  pub choose : (P l : List carrier) → Each ops (Forms.Mem ops d P) l → Chosen_for P l
  unfolding joined
  choose P [] h = ([], refl, All-nil (Contains P), rfl 𝟙)
  choose P (x ∷ l) h = let q = member_back P x h.0 in let r = choose P l h.1 in
      (q.0 ∷ r.0, ap suc r.1, All-cons (Contains P) q.0 r.0 q.1 r.2, mul_cong q.2 r.3)

  pub multiple_resp : (k : ℕ) (x y : carrier) → x ≈ y → MultipleOf ops d k x → MultipleOf ops d k y
  multiple_resp k x y e h = (h.0, trans (symm e) h.1)

  pub local_in : (P : List carrier) (a : carrier) (k : ℕ) → LocalTo ops d (Contains P) a k → Forms.LocalTo ops d (Forms.Mem ops d P) a k
  local_in P a k h = (
    h.0,
    (
      h.1.0,
      λ l e m. let c = choose P l m in
          multiple_resp k (product ops (λ x. x) c.0 ⊗ a) (prod ops l ⊗ a) (mul_cong (symm c.3) (rfl a)) (h.1.1 c.0 (c.1 ∙ e) c.2),
    ),
  )

  pub local_out : (P : List carrier) (a : carrier) (k : ℕ) → Forms.LocalTo ops d (Forms.Mem ops d P) a k → LocalTo ops d (Contains P) a k
  local_out P a k h = (h.0, (h.1.0, λ l e m. multiple_resp k (prod ops l ⊗ a) (product ops (λ x. x) l ⊗ a) (mul_cong (product_is l) (rfl a)) (h.1.1 l e (each_member P l m))))
