-- What products of members of a set take into another set.
use Rattle.std.proofs.Common.{◌≡◌, ℕ, zero, suc, ◌+◌, ◌-◌, ◌≤◌, [], ◌∷◌, length, subst, arith, suc-add, zero-add}
use Rattle.std.proofs.lemmas.List.Elements.{All-nil, All-cons, All-head, All-tail, All-weaker, All-contains_itself}
use Rattle.comm_ring.specs.Ring.{CommRing, pow}
use Rattle.comm_ring.specs.Sums.{joined, product}
use Rattle.std.specs.List.{Contains}
use Rattle.comm_ring.specs.Ideals.{InIdeal, IsIdeal, PowerOf, Takes, Into, Respects}
use Rattle.comm_ring.specs.Laws.{TakenByGenerators}
use Rattle.comm_ring.proofs.Derived as Derived
use Rattle.comm_ring.proofs.Quote.{ring, quote}
use Rattle.comm_ring.proofs.Ideals as Ideals

module _ (R : CommRing) where
  open R use {ops, carrier, ◌≈◌, ◌⊕◌, ◌⊗◌, neg, 𝟘, 𝟙, rfl, symm, trans, add_cong, mul_cong, mul_assoc, mul_comm, mul_one, distrib}

  infix 40 ◌≈◌
  infixl 60 ◌⊕◌
  infixl 70 ◌⊗◌
  -- factors one at a time or all at once
  pub into_of_takes : (P M : carrier → Type 0) → Respects ops M → (m : ℕ) (f : carrier) → Takes ops P m M f → Into ops P m M f
  unfolding joined
  into_of_takes P M r zero f t = r _ _ (Derived.one_mul R f) (t [] (omega arith) (All-nil P))
  into_of_takes P M r (suc m) f t = λ p hp. into_of_takes P M r m (p ⊗ f)
      (λ l e h. r _ _ (ring R (p ∷ product ops (λ x. x) l ∷ f ∷ []) (search quote depth 20) tt) (t (p ∷ l) (omega arith) (All-cons P p l hp h)))

  pub takes_of_into : (P M : carrier → Type 0) → Respects ops M → (m : ℕ) (f : carrier) → Into ops P m M f → Takes ops P m M f
  unfolding joined
  takes_of_into P M r zero f t [] e h = r _ _ (symm (Derived.one_mul R f)) t
  takes_of_into P M r zero f t (p ∷ l) e h = absurd (omega arith)
  takes_of_into P M r (suc m) f t [] e h = absurd (omega arith)
  takes_of_into P M r (suc m) f t (p ∷ l) e h = r _ _ (ring R (p ∷ product ops (λ x. x) l ∷ f ∷ []) (search quote depth 20) tt)
      (takes_of_into P M r m (p ⊗ f) (t p (All-head P p l h)) l (let k : length (p ∷ l) ≡ suc m = e in omega arith) (All-tail P p l h))

  -- what equals f is taken as well, and into a larger set too
  pub into_resp : (P M : carrier → Type 0) → Respects ops M → (m : ℕ) (x y : carrier) → x ≈ y → Into ops P m M x → Into ops P m M y
  into_resp P M r zero x y e h = r x y e h
  into_resp P M r (suc m) x y e h = λ p q. into_resp P M r m (p ⊗ x) (p ⊗ y) (mul_cong (rfl p) e) (h p q)

  pub into_mono : (P M N : carrier → Type 0) → ((x : carrier) → M x → N x) → (m : ℕ) (x : carrier) → Into ops P m M x → Into ops P m N x
  into_mono P M N f zero x h = f x h
  into_mono P M N f (suc m) x h = λ p q. into_mono P M N f m (p ⊗ x) (h p q)

  -- fewer factors to choose from
  pub into_fewer : (P Q M : carrier → Type 0) → ((x : carrier) → Q x → P x) → (m : ℕ) (x : carrier) → Into ops P m M x → Into ops Q m M x
  into_fewer P Q M f zero x h = h
  into_fewer P Q M f (suc m) x h = λ p q. into_fewer P Q M f m (p ⊗ x) (h p (f p q))

  -- multiples and sums are taken as well
  pub into_map : (P M N : carrier → Type 0) → Respects ops N → (c : carrier) → ((x : carrier) → M x → N (c ⊗ x)) → (m : ℕ) (x : carrier) → Into ops P m M x → Into ops P m N (c ⊗ x)
  into_map P M N r c f zero x h = f x h
  into_map P M N r c f (suc m) x h = λ p q. into_resp P N r m (c ⊗ (p ⊗ x)) (p ⊗ (c ⊗ x)) (Derived.mul_left_comm R c p x) (into_map P M N r c f m (p ⊗ x) (h p q))

  pub into_add : (P M : carrier → Type 0) → Respects ops M → ((x y : carrier) → M x → M y → M (x ⊕ y)) → (m : ℕ) (x y : carrier) → Into ops P m M x → Into ops P m M y → Into ops P m M (x ⊕ y)
  into_add P M r f zero x y h k = f x y h k
  into_add P M r f (suc m) x y h k = λ p q. into_resp P M r m ((p ⊗ x) ⊕ (p ⊗ y)) (p ⊗ (x ⊕ y)) (symm (distrib p x y)) (into_add P M r f m (p ⊗ x) (p ⊗ y) (h p q) (k p q))

  -- where P takes M into itself, M is taken into itself
  pub into_const : (P M : carrier → Type 0) → ((p x : carrier) → P p → M x → M (p ⊗ x)) → (m : ℕ) (x : carrier) → M x → Into ops P m M x
  into_const P M f zero x h = h
  into_const P M f (suc m) x h = λ p q. into_const P M f m (p ⊗ x) (f p x q h)

  -- m factors and then n factors are m + n factors
  pub into_join : (P M : carrier → Type 0) (m n : ℕ) (x : carrier) → Into ops P m (Into ops P n M) x → Into ops P (m + n) M x
  into_join P M zero n x h = rw zero-add h
  into_join P M (suc m) n x h = rw suc-add (λ p q. into_join P M m n (p ⊗ x) (h p q))

  -- a power of one member
  pub into_pow : (P M : carrier → Type 0) → Respects ops M → (n : ℕ) (j g : carrier) → P j → Into ops P n M g → M (pow ops j n ⊗ g)
  unfolding pow
  into_pow P M r zero j g q h = r _ _ (symm (Derived.one_mul R g)) h
  into_pow P M r (suc n) j g q h = r _ _ (ring R (j ∷ g ∷ pow ops j n ∷ []) (search quote depth 20) tt) (into_pow P M r n j (j ⊗ g) q (h j q))

  module _ (P M : carrier → Type 0) (ideal : IsIdeal ops M) where
    -- what m members of P take into an ideal is an ideal
    pub into_ideal : (m : ℕ) → IsIdeal ops (Into ops P m M)
    into_ideal m = record {
      resp = into_resp P M ideal.resp m;
      none = into_const P M (λ p x q h. ideal.scale p x h) m 𝟘 ideal.none;
      add = into_add P M ideal.resp ideal.add m;
      scale = λ c x h. into_map P M M ideal.resp c (λ y k. ideal.scale c y k) m x h;
    }

    -- more factors do as well
    pub into_more : (m n : ℕ) (f : carrier) → m ≤ n → Into ops P m M f → Into ops P n M f
    into_more m n f q h = let e : m + (n - m) ≡ n = omega arith in
        subst (λ k. Into ops P k M f) e (into_join P M m (n - m) f (into_mono P M (Into ops P (n - m) M) (λ x a. into_const P M (λ p y hp hy. ideal.scale p y hy) (n - m) x a) m f h))

    -- what the generators take into an ideal, all members of their ideal do
    pub into_generated : (J : carrier → Type 0) → IsIdeal ops J → ((K : carrier → Type 0) → IsIdeal ops K → ((x : carrier) → P x → K x) → (x : carrier) → J x → K x)
        → (m : ℕ) (f : carrier) → Into ops P m M f → Into ops J m M f
    into_generated J j least zero f h = h
    into_generated J j least (suc m) f h = λ x hx. least (λ y. Into ops J m M (y ⊗ f)) taken (λ p hp. into_generated J j least m (p ⊗ f) (h p hp)) x hx
      where
        into_J : IsIdeal ops (Into ops J m M)
        into_J = record {
          resp = into_resp J M ideal.resp m;
          none = into_const J M (λ p x q k. ideal.scale p x k) m 𝟘 ideal.none;
          add = into_add J M ideal.resp ideal.add m;
          scale = λ c x k. into_map J M M ideal.resp c (λ y l. ideal.scale c y l) m x k;
        }

        taken : IsIdeal ops (λ y. Into ops J m M (y ⊗ f))
        taken = record {
          resp = λ x y e k. into_J.resp (x ⊗ f) (y ⊗ f) (mul_cong e (rfl f)) k;
          none = into_J.resp 𝟘 (𝟘 ⊗ f) (symm (Derived.zero_mul R f)) into_J.none;
          add = λ x y k l. into_J.resp (x ⊗ f ⊕ y ⊗ f) ((x ⊕ y) ⊗ f) (symm (Derived.distrib_right R x y f)) (into_J.add (x ⊗ f) (y ⊗ f) k l);
          scale = λ c x k. into_J.resp (c ⊗ (x ⊗ f)) ((c ⊗ x) ⊗ f) (symm (mul_assoc c x f)) (into_J.scale c (x ⊗ f) k);
        }

    -- what every product of m members takes into an ideal, the whole power does
    pub into_power : (m : ℕ) (f : carrier) → Into ops P m M f → (x : carrier) → PowerOf ops P m x → M (x ⊗ f)
    into_power zero f h x k = ideal.scale x f h
    into_power (suc m) f h x k = Ideals.product_least R P (PowerOf ops P m) (λ y. M (y ⊗ f)) taken
        (λ u v hu hv. ideal.resp (v ⊗ (u ⊗ f)) ((u ⊗ v) ⊗ f) (ring R (u ∷ v ∷ f ∷ []) (search quote depth 20) tt) (into_power m (u ⊗ f) (h u hu) v hv)) x k
      where
        taken : IsIdeal ops (λ y. M (y ⊗ f))
        taken = record {
          resp = λ y z e l. ideal.resp (y ⊗ f) (z ⊗ f) (mul_cong e (rfl f)) l;
          none = ideal.resp 𝟘 (𝟘 ⊗ f) (symm (Derived.zero_mul R f)) ideal.none;
          add = λ y z a b. ideal.resp (y ⊗ f ⊕ z ⊗ f) ((y ⊕ z) ⊗ f) (symm (Derived.distrib_right R y z f)) (ideal.add (y ⊗ f) (z ⊗ f) a b);
          scale = λ c y l. ideal.resp (c ⊗ (y ⊗ f)) ((c ⊗ y) ⊗ f) (symm (mul_assoc c y f)) (ideal.scale c (y ⊗ f) l);
        }

  -- what products of m generators take into the ideal of a list, products of m members and members of the power do
  pub taken_by_generators : TakenByGenerators ops
  taken_by_generators gs ks m f t = (takes_of_into (InIdeal ops gs) (InIdeal ops ks) k.resp m f members, into_power (InIdeal ops gs) (InIdeal ops ks) k m f members)
    where
      k : IsIdeal ops (InIdeal ops ks)
      k = Ideals.ideal_of_list R ks

      members : Into ops (InIdeal ops gs) m (InIdeal ops ks) f
      members = into_generated (Contains gs) (InIdeal ops ks) k (InIdeal ops gs) (Ideals.ideal_of_list R gs)
          (λ K ideal holds x h. Ideals.ideal_least R K ideal gs (All-weaker (Contains gs) K holds gs (All-contains_itself gs)) x h)
          m f (into_of_takes (Contains gs) (InIdeal ops ks) k.resp m f t)
