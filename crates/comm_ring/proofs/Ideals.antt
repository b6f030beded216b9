-- Ideals: generators, sums, products, powers, and the ring modulo an ideal.
use Rattle.std.proofs.Common.{ℕ, zero, suc, List, [], ◌∷◌, ◌++◌, All}
use Rattle.std.proofs.lemmas.List.Elements.{All-append, All-weaker}
use Rattle.comm_ring.specs.Ring.{IsCommRing, CommRing}
use Rattle.comm_ring.specs.Ideals.{InIdeal, IsIdeal, SumOf, ProductOf, no_product, one_more, PowerOf, Apart, quotient_ops}
use Rattle.comm_ring.proofs.Derived as Derived
use Rattle.comm_ring.proofs.Quote.{ring, quote}
use Rattle.comm_ring.proofs.Modules as Modules
use Rattle.comm_ring.proofs.Modules.{own}

module _ (R : CommRing) where
  open R use {ops, carrier, ◌≈◌, ◌⊕◌, ◌⊗◌, neg, 𝟘, 𝟙, rfl, symm, trans, add_cong, mul_cong, neg_cong, add_assoc, add_comm, add_zero, add_neg, mul_assoc, mul_comm, mul_one, distrib}

  infix 40 ◌≈◌
  infixl 60 ◌⊕◌
  infixl 70 ◌⊗◌
  infixr 30 ◌⨾◌
  ◌⨾◌ : {x y z : carrier} → x ≈ y → y ≈ z → x ≈ z
  ◌⨾◌ e f = trans e f

  -- the ideal of a list is an ideal
  pub ideal_of_list : (gs : List carrier) → IsIdeal ops (InIdeal ops gs)
  ideal_of_list gs = Modules.span_submodule R (own R) gs

  -- it holds its generators
  pub generators_in : (gs : List carrier) → All (InIdeal ops gs) gs
  generators_in gs = Modules.span_self R (own R) gs

  -- an ideal that holds the generators holds all
  pub ideal_least : (I : carrier → Type 0) → IsIdeal ops I → (gs : List carrier) → All I gs → (f : carrier) → InIdeal ops gs f → I f
  ideal_least I i gs h f m = Modules.span_least R (own R) I i gs h f m

  module _ (I : carrier → Type 0) (i : IsIdeal ops I) where
    -- negatives, differences and multiples on the right stay in an ideal
    pub neg_in : (x : carrier) → I x → I (neg x)
    neg_in x h = Modules.opposite_in R (own R) I i x h

    pub sub_in : (x y : carrier) → I x → I y → I (x ⊕ neg y)
    sub_in x y h k = Modules.sub_in R (own R) I i x y h k

    pub right_in : (x y : carrier) → I x → I (x ⊗ y)
    right_in x y h = i.resp (y ⊗ x) (x ⊗ y) (mul_comm y x) (i.scale y x h)

    -- an ideal with 1 is everything
    pub everything : I 𝟙 → (f : carrier) → I f
    everything h f = i.resp (f ⊗ 𝟙) f (mul_one f) (i.scale f 𝟙 h)

  module _ (I J : carrier → Type 0) (i : IsIdeal ops I) (j : IsIdeal ops J) where
    -- the sum of two ideals is an ideal, and holds both
    pub sum_ideal : IsIdeal ops (SumOf ops I J)
    sum_ideal = record {
      resp = λ x y e h. (h.0, h.1, h.2, h.3, symm e ⨾ h.4);
      none = (𝟘, 𝟘, i.none, j.none, symm (add_zero 𝟘));
      add = λ x y h k. (h.0 ⊕ k.0, h.1 ⊕ k.1, i.add h.0 k.0 h.2 k.2, j.add h.1 k.1 h.3 k.3, add_cong h.4 k.4 ⨾ Derived.add_exchange R h.0 h.1 k.0 k.1);
      scale = λ c x h. (c ⊗ h.0, c ⊗ h.1, i.scale c h.0 h.2, j.scale c h.1 h.3, mul_cong (rfl c) h.4 ⨾ distrib c h.0 h.1);
    }

    pub sum_left : (f : carrier) → I f → SumOf ops I J f
    sum_left f h = (f, 𝟘, h, j.none, symm (add_zero f))

    pub sum_right : (f : carrier) → J f → SumOf ops I J f
    sum_right f h = (𝟘, f, i.none, h, symm (Derived.zero_add R f))

  -- the sum is the least ideal that holds both
  pub sum_least : (I J K : carrier → Type 0) → IsIdeal ops K → ((x : carrier) → I x → K x) → ((x : carrier) → J x → K x) → (f : carrier) → SumOf ops I J f → K f
  sum_least I J K k a b f s = k.resp (s.0 ⊕ s.1) f (symm s.4) (k.add s.0 s.1 (a s.0 s.2) (b s.1 s.3))

  -- the ideal of two lists together is the sum of their ideals
  pub append_is_sum : (gs hs : List carrier) (f : carrier) → InIdeal ops (gs ++ hs) f → SumOf ops (InIdeal ops gs) (InIdeal ops hs) f
  append_is_sum gs hs f h = ideal_least (SumOf ops (InIdeal ops gs) (InIdeal ops hs)) (sum_ideal (InIdeal ops gs) (InIdeal ops hs) (ideal_of_list gs) (ideal_of_list hs)) (gs ++ hs)
      (All-append (SumOf ops (InIdeal ops gs) (InIdeal ops hs)) gs hs
      (All-weaker (InIdeal ops gs) (SumOf ops (InIdeal ops gs) (InIdeal ops hs)) (sum_left (InIdeal ops gs) (InIdeal ops hs) (ideal_of_list gs) (ideal_of_list hs)) gs (generators_in gs))
      (All-weaker (InIdeal ops hs) (SumOf ops (InIdeal ops gs) (InIdeal ops hs)) (sum_right (InIdeal ops gs) (InIdeal ops hs) (ideal_of_list gs) (ideal_of_list hs)) hs (generators_in hs)))
      f h

  -- and conversely
  pub sum_is_append : (gs hs : List carrier) (f : carrier) → SumOf ops (InIdeal ops gs) (InIdeal ops hs) f → InIdeal ops (gs ++ hs) f
  sum_is_append gs hs f s = sum_least (InIdeal ops gs) (InIdeal ops hs) (InIdeal ops (gs ++ hs)) (ideal_of_list (gs ++ hs)) (Modules.span_left R (own R) gs hs) (Modules.span_right R (own R) gs hs) f s

  -- products. The second factor is closed under sums and multiples where an ideal is wanted
  module _ (P B : carrier → Type 0) where
    -- sums and multiples of sums of products
    pub product_resp : (x y : carrier) → x ≈ y → ProductOf ops P B x → ProductOf ops P B y
    product_resp _ y e (no_product x z) = no_product y (symm e ⨾ z)
    product_resp _ w e (one_more x u v y hu hv hy z) = one_more w u v y hu hv hy (symm e ⨾ z)

    pub product_add : (x y : carrier) → ProductOf ops P B x → ProductOf ops P B y → ProductOf ops P B (x ⊕ y)
    product_add _ y (no_product x z) k = product_resp y (x ⊕ y) (symm (add_cong z (rfl y) ⨾ Derived.zero_add R y)) k
    product_add _ w (one_more x u v y hu hv hy z) k = one_more (x ⊕ w) u v (y ⊕ w) hu hv (product_add y w hy k) (add_cong z (rfl w) ⨾ add_assoc (u ⊗ v) y w)

    pub product_scale : ((c x : carrier) → B x → B (c ⊗ x)) → (c x : carrier) → ProductOf ops P B x → ProductOf ops P B (c ⊗ x)
    product_scale b c _ (no_product x z) = no_product (c ⊗ x) (mul_cong (rfl c) z ⨾ Derived.mul_zero R c)
    product_scale b c _ (one_more x u v y hu hv hy z) =
        one_more (c ⊗ x) u (c ⊗ v) (c ⊗ y) hu (b c v hv) (product_scale b c y hy) (mul_cong (rfl c) z ⨾ ring R (c ∷ u ∷ v ∷ y ∷ []) (search quote depth 20) tt)

    -- the product of two ideals is an ideal
    pub product_ideal : ((c x : carrier) → B x → B (c ⊗ x)) → IsIdeal ops (ProductOf ops P B)
    product_ideal b = record { resp = product_resp; none = no_product 𝟘 (rfl 𝟘); add = product_add; scale = product_scale b }

    -- one product
    pub product_of : (u v : carrier) → P u → B v → ProductOf ops P B (u ⊗ v)
    product_of u v hu hv = one_more (u ⊗ v) u v 𝟘 hu hv (no_product 𝟘 (rfl 𝟘)) (symm (add_zero (u ⊗ v)))

    -- a set closed under sums that holds the products holds the sums of products
    pub product_least : (K : carrier → Type 0) → IsIdeal ops K → ((u v : carrier) → P u → B v → K (u ⊗ v)) → (f : carrier) → ProductOf ops P B f → K f
    product_least K k h _ (no_product x z) = k.resp 𝟘 x (symm z) k.none
    product_least K k h _ (one_more x u v y hu hv hy z) = k.resp (u ⊗ v ⊕ y) x (symm z) (k.add (u ⊗ v) y (h u v hu hv) (product_least K k h y hy))

  -- each power of an ideal is an ideal
  pub power_ideal : (I : carrier → Type 0) (m : ℕ) → IsIdeal ops (PowerOf ops I m)
  power_ideal I zero = record { resp = λ x y e h. tt; none = tt; add = λ x y h k. tt; scale = λ c x h. tt }
  power_ideal I (suc m) = product_ideal I (PowerOf ops I m) (λ c x h. (power_ideal I m).scale c x h)

  -- a higher power lies within a lower one
  pub power_within : (I : carrier → Type 0) (m : ℕ) (f : carrier) → PowerOf ops I (suc m) f → PowerOf ops I m f
  power_within I m f h = product_least I (PowerOf ops I m) (PowerOf ops I m) (power_ideal I m) (λ u v hu hv. (power_ideal I m).scale u v hv) f h

  -- an ideal with I and an ideal with J share 1 with the product as well
  pub apart_product : (I J K : carrier → Type 0) → IsIdeal ops I → IsIdeal ops J → IsIdeal ops K → Apart ops I J → Apart ops I K → Apart ops I (ProductOf ops J K)
  apart_product I J K i j k a b = (
    a.0 ⊗ (b.0 ⊕ b.1) ⊕ a.1 ⊗ b.0,
    a.1 ⊗ b.1,
    i.add (a.0 ⊗ (b.0 ⊕ b.1)) (a.1 ⊗ b.0) (right_in I i a.0 (b.0 ⊕ b.1) a.2) (i.scale a.1 b.0 b.2),
    product_of J K a.1 b.1 a.3 b.3,
    symm (mul_one 𝟙) ⨾ mul_cong a.4 b.4 ⨾ ring R (a.0 ∷ a.1 ∷ b.0 ∷ b.1 ∷ []) (search quote depth 20) tt,
  )

  -- which of the two comes first makes no difference
  pub apart_flip : (I J : carrier → Type 0) → Apart ops I J → Apart ops J I
  apart_flip I J a = (a.1, a.0, a.3, a.2, a.4 ⨾ add_comm a.0 a.1)

  apart_power_right : (I J : carrier → Type 0) → IsIdeal ops I → IsIdeal ops J → Apart ops I J → (n : ℕ) → Apart ops I (PowerOf ops J n)
  apart_power_right I J i j a zero = (𝟘, 𝟙, i.none, tt, symm (Derived.zero_add R 𝟙))
  apart_power_right I J i j a (suc n) = apart_product I J (PowerOf ops J n) i j (power_ideal J n) a (apart_power_right I J i j a n)

  -- powers of ideals that are apart are apart
  pub apart_powers : (I J : carrier → Type 0) → IsIdeal ops I → IsIdeal ops J → Apart ops I J → (m n : ℕ) → Apart ops (PowerOf ops I m) (PowerOf ops J n)
  apart_powers I J i j a m n = apart_power_right (PowerOf ops I m) J (power_ideal I m) j (apart_flip J (PowerOf ops I m) (apart_power_right J I j i (apart_flip I J a) m)) n

  -- where ideals are apart, what lies in both lies in their product
  pub apart_meet : (I J : carrier → Type 0) → IsIdeal ops I → IsIdeal ops J → Apart ops I J → (f : carrier) → I f → J f → ProductOf ops I J f
  apart_meet I J i j a f hi hj =
      product_resp I J (a.0 ⊗ f ⊕ f ⊗ a.1) f (ring R (a.0 ∷ a.1 ∷ f ∷ []) (search quote depth 20) tt ⨾ mul_cong (rfl f) (symm a.4) ⨾ mul_one f)
      (product_add I J (a.0 ⊗ f) (f ⊗ a.1) (product_of I J a.0 f a.2 hj) (product_of I J f a.1 hi a.3))

  module _ (I : carrier → Type 0) (i : IsIdeal ops I) where
    -- what is equal is equal modulo I
    pub equal_modulo : (x y : carrier) → x ≈ y → I (x ⊕ neg y)
    equal_modulo x y e = i.resp 𝟘 (x ⊕ neg y) (symm (add_cong e (rfl (neg y)) ⨾ add_neg y)) i.none

    -- the laws of a ring hold modulo an ideal
    pub quotient_laws : IsCommRing (quotient_ops ops I)
    quotient_laws = record {
      rfl = λ x. equal_modulo x x (rfl x);
      symm = λ {x} {y} h. i.resp (neg (x ⊕ neg y)) (y ⊕ neg x) (ring R (x ∷ y ∷ []) (search quote depth 20) tt) (neg_in I i (x ⊕ neg y) h);
      trans = λ {x} {y} {z} h k. i.resp ((x ⊕ neg y) ⊕ (y ⊕ neg z)) (x ⊕ neg z) (ring R (x ∷ y ∷ z ∷ []) (search quote depth 20) tt) (i.add (x ⊕ neg y) (y ⊕ neg z) h k);
      add_cong = λ {x} {x'} {y} {y'} h k. i.resp ((x ⊕ neg x') ⊕ (y ⊕ neg y')) ((x ⊕ y) ⊕ neg (x' ⊕ y')) (ring R (x ∷ x' ∷ y ∷ y' ∷ []) (search quote depth 20) tt) (i.add (x ⊕ neg x') (y ⊕ neg y') h k);
      mul_cong = λ {x} {x'} {y} {y'} h k. i.resp (y ⊗ (x ⊕ neg x') ⊕ x' ⊗ (y ⊕ neg y')) (x ⊗ y ⊕ neg (x' ⊗ y')) (ring R (x ∷ x' ∷ y ∷ y' ∷ []) (search quote depth 20) tt)
          (i.add (y ⊗ (x ⊕ neg x')) (x' ⊗ (y ⊕ neg y')) (i.scale y (x ⊕ neg x') h) (i.scale x' (y ⊕ neg y') k));
      neg_cong = λ {x} {x'} h. i.resp (neg (x ⊕ neg x')) (neg x ⊕ neg (neg x')) (ring R (x ∷ x' ∷ []) (search quote depth 20) tt) (neg_in I i (x ⊕ neg x') h);
      add_assoc = λ x y z. equal_modulo _ _ (add_assoc x y z);
      add_comm = λ x y. equal_modulo _ _ (add_comm x y);
      add_zero = λ x. equal_modulo _ _ (add_zero x);
      add_neg = λ x. equal_modulo _ _ (add_neg x);
      mul_assoc = λ x y z. equal_modulo _ _ (mul_assoc x y z);
      mul_comm = λ x y. equal_modulo _ _ (mul_comm x y);
      mul_one = λ x. equal_modulo _ _ (mul_one x);
      distrib = λ x y z. equal_modulo _ _ (distrib x y z);
    }

    -- the ring modulo an ideal
    abbrev pub quotient_ring : CommRing
    quotient_ring = record { ops = quotient_ops ops I; laws = quotient_laws }
