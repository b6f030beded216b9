-- Subrings, and sums of products with a factor from a subring.
use Rattle.std.proofs.Common.{◌≡◌, refl, ap, ℕ, zero, suc, List, [], ◌∷◌, length}
use Rattle.comm_ring.proofs.Derived.{zero_mul, zero_add, one_mul}
use Rattle.comm_ring.proofs.Expressions.{◌+:◌, ◌*:◌, v0, v1, v2, v3, ring_as}
use Rattle.comm_ring.specs.Ideals.{Into, Respects, ProductOf, no_product, one_more}
use Rattle.comm_ring.specs.Ring.{CommRing, pow}
use Rattle.fraction_laws.proofs.Settings.{prod, Each, IsModule, IsRing}

module _ (R : CommRing) where
  open R use {carrier, ◌≈◌, ◌⊕◌, ◌⊗◌, neg, 𝟘, 𝟙, rfl, symm, trans, add_cong, mul_cong, neg_cong, add_assoc, add_comm, add_zero, add_neg, mul_assoc, mul_comm, mul_one, distrib}

  infix 40 ◌≈◌
  infixl 60 ◌⊕◌
  infixl 70 ◌⊗◌
  pub swap : (x y z : carrier) → x ⊗ (y ⊗ z) ≈ y ⊗ (x ⊗ z)
  swap x y z = ring_as R (x ∷ y ∷ z ∷ []) (v0 *: (v1 *: v2)) (v1 *: (v0 *: v2)) tt

  pub pow_in : (B : carrier → Type 0) → IsRing R.ops B → (x : carrier) (n : ℕ) → B x → B (pow R.ops x n)
  unfolding pow
  pow_in B r x zero b = r.one
  pow_in B r x (suc n) b = r.mul _ _ b (pow_in B r x n b)

  pub gen_resp : (P B : carrier → Type 0) (x y : carrier) → x ≈ y → ProductOf R.ops P B x → ProductOf R.ops P B y
  gen_resp P B _ w e (no_product x z) = no_product _ (trans (symm e) z)
  gen_resp P B _ w e (one_more x p b y hp hb hy z) = one_more _ p b y hp hb hy (trans (symm e) z)

  pub gen_add : (P B : carrier → Type 0) {x y : carrier} → ProductOf R.ops P B x → ProductOf R.ops P B y → ProductOf R.ops P B (x ⊕ y)
  gen_add P B (no_product x z) g = gen_resp P B _ _ (trans (symm (zero_add R _)) (add_cong (symm z) (rfl _))) g
  gen_add P B (one_more x p b y hp hb hy z) g = one_more _ p b _ hp hb (gen_add P B hy g) (trans (add_cong z (rfl _)) (add_assoc _ _ _))

  pub gen_mul : (P B : carrier → Type 0) → ((x y : carrier) → B x → B y → B (x ⊗ y)) → (c : carrier) {x : carrier} → B c → ProductOf R.ops P B x → ProductOf R.ops P B (c ⊗ x)
  gen_mul P B f c hc (no_product x z) = no_product _ (trans (mul_cong (rfl c) z) (trans (mul_comm _ _) (zero_mul R c)))
  gen_mul P B f c hc (one_more x p b y hp hb hy z) = one_more _ p (c ⊗ b) (c ⊗ y) hp (f c b hc hb) (gen_mul P B f c hc hy) (trans (mul_cong (rfl c) z) (trans (distrib _ _ _) (add_cong (swap c p b) (rfl _))))

  pub gen_module : (P B : carrier → Type 0) → IsRing R.ops B → IsModule R.ops B (ProductOf R.ops P B)
  gen_module P B r = record { resp = gen_resp P B; none = no_product 𝟘 (rfl 𝟘); add = λ x y h k. gen_add P B h k; mul = λ b x hb h. gen_mul P B r.mul b hb h }

  -- what the generators take into a module, all of the ideal does
  pub gen_into : (P B M : carrier → Type 0) → IsModule R.ops B M → (g : carrier) → ((p : carrier) → P p → M (p ⊗ g)) → (x : carrier) → ProductOf R.ops P B x → M (x ⊗ g)
  gen_into P B M r g f x (no_product _ z) = r.resp _ _ (symm (trans (mul_cong z (rfl g)) (zero_mul R g))) r.none
  gen_into P B M r g f x (one_more _ p b y hp hb hy z) =
      r.resp _ _ (trans (ring_as R (b ∷ p ∷ g ∷ y ∷ []) (v0 *: (v1 *: v2) +: v3 *: v2) ((v1 *: v0 +: v3) *: v2) tt) (mul_cong (symm z) (rfl g)))
      (r.add _ _ (r.mul b (p ⊗ g) hb (f p hp)) (gen_into P B M r g f y hy))

  pub gen_one : (P B : carrier → Type 0) → B 𝟙 → (p : carrier) → P p → ProductOf R.ops P B p
  gen_one P B o p hp = one_more p p 𝟙 𝟘 hp o (no_product 𝟘 (rfl 𝟘)) (symm (trans (add_zero _) (mul_one _)))

  pub gen_times : (P B : carrier → Type 0) → (p b : carrier) → P p → B b → ProductOf R.ops P B (p ⊗ b)
  gen_times P B p b hp hb = one_more _ p b 𝟘 hp hb (no_product 𝟘 (rfl 𝟘)) (symm (add_zero _))

  -- being taken into M by every m members of P, over lists of m members
  pub into_list : (P M : carrier → Type 0) → Respects R.ops M → (m : ℕ) (g : carrier) → ((l : List carrier) → length l ≡ m → Each R.ops P l → M (prod R.ops l ⊗ g)) → Into R.ops P m M g
  into_list P M r zero g f = r _ _ (one_mul R g) (f [] refl tt)
  into_list P M r (suc m) g f = λ p q. into_list P M r m (p ⊗ g) (λ l e h. r _ _ (ring_as R (p ∷ prod R.ops l ∷ g ∷ []) (v0 *: v1 *: v2) (v1 *: (v0 *: v2)) tt) (f (p ∷ l) (ap suc e) (q, h)))

  pub list_into : (P M : carrier → Type 0) → Respects R.ops M → (l : List carrier) (g : carrier) → Each R.ops P l → Into R.ops P (length l) M g → M (prod R.ops l ⊗ g)
  list_into P M r [] g h i = r _ _ (symm (one_mul R g)) i
  list_into P M r (p ∷ l) g h i = r _ _ (ring_as R (p ∷ prod R.ops l ∷ g ∷ []) (v1 *: (v0 *: v2)) (v0 *: v1 *: v2) tt) (list_into P M r l (p ⊗ g) h.1 (i p h.0))
