-- Finite sums and products over lists in a commutative ring.
use Rattle.std.proofs.Common.{◌≡◌, ℕ, zero, suc, ◌<◌, List, [], ◌∷◌, ◌++◌, map, flat_map, All, IsPermutation, arith, ⊎_elim, ap, ◌∙◌, ◌+◌}
use Rattle.std.specs.List.{range_with_len}
use Rattle.std.proofs.lemmas.Bool.{cases_eq}
use Rattle.comm_ring.specs.Ring.{CommRing, sub, pow}
use Rattle.comm_ring.specs.Sums.{joined, sum, product, below}
use Rattle.comm_ring.proofs.Derived as Derived
use Rattle.comm_ring.proofs.Quote.{ring, ring_by, fact, quote}
use Rattle.comm_ring.proofs.Joined as Joined
use Rattle.comm_ring.proofs.Joined.{additive, multiplicative}

-- a range, and the numbers below n, end in their last one
pub range-last : (a n : ℕ) → range_with_len a (suc n) ≡ range_with_len a n ++ ((a + n) ∷ [])
range-last a zero = let e : a ≡ a + 0 = omega arith in ap (λ k. k ∷ []) e
range-last a (suc n) = ap (λ l. a ∷ l) (range-last (a + 1) n ∙ (let e : (a + 1) + n ≡ a + suc n = omega arith in ap (λ k. range_with_len (a + 1) n ++ (k ∷ [])) e))

pub below-suc : (n : ℕ) → below (suc n) ≡ below n ++ (n ∷ [])
below-suc n = range-last 0 n ∙ (let e : 0 + n ≡ n = omega arith in ap (λ k. below n ++ (k ∷ [])) e)

module _ (R : CommRing) where
  open R use {ops, carrier, ◌≈◌, ◌⊕◌, ◌⊗◌, neg, 𝟘, 𝟙, rfl, symm, trans, add_cong, mul_cong}

  infix 40 ◌≈◌
  infixl 60 ◌⊕◌
  infixl 70 ◌⊗◌
  infixr 30 ◌⨾◌
  ◌⨾◌ : {x y z : carrier} → x ≈ y → y ≈ z → x ≈ z
  ◌⨾◌ e f = trans e f

  module _ {X : Type 0} where
    -- over two lists together
    pub sum-append : (f : X → carrier) (xs ys : List X) → sum ops f (xs ++ ys) ≈ sum ops f xs ⊕ sum ops f ys
    sum-append f xs ys = Joined.big-append (additive R) f xs ys

    pub product-append : (f : X → carrier) (xs ys : List X) → product ops f (xs ++ ys) ≈ product ops f xs ⊗ product ops f ys
    product-append f xs ys = Joined.big-append (multiplicative R) f xs ys

    -- a sum of sums is the sum of the two
    pub sum-add : (f g : X → carrier) (xs : List X) → sum ops (λ x. f x ⊕ g x) xs ≈ sum ops f xs ⊕ sum ops g xs
    sum-add f g xs = Joined.big-op (additive R) f g xs

    -- a product of products is the product of the two
    pub product-mul : (f g : X → carrier) (xs : List X) → product ops (λ x. f x ⊗ g x) xs ≈ product ops f xs ⊗ product ops g xs
    product-mul f g xs = Joined.big-op (multiplicative R) f g xs

    -- zeros add to 0, and ones multiply to 1
    pub sum-zero : (xs : List X) → sum ops (λ x. 𝟘) xs ≈ 𝟘
    sum-zero xs = Joined.big-unit (additive R) xs

    pub product-one : (xs : List X) → product ops (λ x. 𝟙) xs ≈ 𝟙
    product-one xs = Joined.big-unit (multiplicative R) xs

    -- equivalent summands
    pub sum_same : (f g : X → carrier) (xs : List X) → ((x : X) → f x ≈ g x) → sum ops f xs ≈ sum ops g xs
    sum_same f g xs h = Joined.big_same (additive R) f g xs h

    -- equivalent values at each member
    pub sum_ext : (f g : X → carrier) (xs : List X) → All (λ x. f x ≈ g x) xs → sum ops f xs ≈ sum ops g xs
    sum_ext f g xs h = Joined.big_ext (additive R) f g xs h

    -- equivalent factors
    pub product_same : (f g : X → carrier) (xs : List X) → ((x : X) → f x ≈ g x) → product ops f xs ≈ product ops g xs
    product_same f g xs h = Joined.big_same (multiplicative R) f g xs h

    -- the order of the list makes no difference
    pub sum-IsPermutation : (f : X → carrier) (xs ys : List X) → IsPermutation xs ys → sum ops f ys ≈ sum ops f xs
    sum-IsPermutation f xs ys h = Joined.big-IsPermutation (additive R) f xs ys h

    pub product-IsPermutation : (f : X → carrier) (xs ys : List X) → IsPermutation xs ys → product ops f ys ≈ product ops f xs
    product-IsPermutation f xs ys h = Joined.big-IsPermutation (multiplicative R) f xs ys h

    -- a common factor, negatives and differences can be taken out
    pub sum-mul_left : (c : carrier) (f : X → carrier) (xs : List X) → sum ops (λ x. c ⊗ f x) xs ≈ c ⊗ sum ops f xs
    unfolding joined
    sum-mul_left c f [] = ring R (c ∷ []) (search quote depth 20) tt
    sum-mul_left c f (x ∷ xs) = add_cong (rfl (c ⊗ f x)) (sum-mul_left c f xs) ⨾ ring R (c ∷ f x ∷ sum ops f xs ∷ []) (search quote depth 20) tt

    pub sum-mul_right : (c : carrier) (f : X → carrier) (xs : List X) → sum ops (λ x. f x ⊗ c) xs ≈ sum ops f xs ⊗ c
    unfolding joined
    sum-mul_right c f [] = ring R (c ∷ []) (search quote depth 20) tt
    sum-mul_right c f (x ∷ xs) = add_cong (rfl (f x ⊗ c)) (sum-mul_right c f xs) ⨾ ring R (c ∷ f x ∷ sum ops f xs ∷ []) (search quote depth 20) tt

    pub sum-neg : (f : X → carrier) (xs : List X) → sum ops (λ x. neg (f x)) xs ≈ neg (sum ops f xs)
    unfolding joined
    sum-neg f [] = ring R [] (search quote depth 20) tt
    sum-neg f (x ∷ xs) = add_cong (rfl (neg (f x))) (sum-neg f xs) ⨾ ring R (f x ∷ sum ops f xs ∷ []) (search quote depth 20) tt

    pub sum-sub : (f g : X → carrier) (xs : List X) → sum ops (λ x. sub ops (f x) (g x)) xs ≈ sub ops (sum ops f xs) (sum ops g xs)
    unfolding joined
    sum-sub f g [] = ring R [] (search quote depth 20) tt
    sum-sub f g (x ∷ xs) = add_cong (rfl (sub ops (f x) (g x))) (sum-sub f g xs) ⨾ ring R (f x ∷ g x ∷ sum ops f xs ∷ sum ops g xs ∷ []) (search quote depth 20) tt

  -- a product of two sums is the double sum of the products
  pub sum-mul-sum : {X Y : Type 0} (f : X → carrier) (g : Y → carrier) (xs : List X) (ys : List Y) →
      sum ops (λ x. sum ops (λ y. f x ⊗ g y) ys) xs ≈ sum ops f xs ⊗ sum ops g ys
  unfolding joined
  sum-mul-sum f g [] ys = ring R (sum ops g ys ∷ []) (search quote depth 20) tt
  sum-mul-sum f g (x ∷ xs) ys =
      add_cong (sum-mul_left (f x) g ys) (sum-mul-sum f g xs ys)
      ⨾ ring R (f x ∷ sum ops f xs ∷ sum ops g ys ∷ []) (search quote depth 20) tt

  -- over a mapped list, and over lists end to end
  pub sum-map : {X Y : Type 0} (f : Y → carrier) (g : X → Y) (xs : List X) → sum ops f (map g xs) ≈ sum ops (λ x. f (g x)) xs
  sum-map f g xs = Joined.big-map (additive R) f g xs

  pub product-map : {X Y : Type 0} (f : Y → carrier) (g : X → Y) (xs : List X) → product ops f (map g xs) ≈ product ops (λ x. f (g x)) xs
  product-map f g xs = Joined.big-map (multiplicative R) f g xs

  pub sum-flat_map : {X Y : Type 0} (f : Y → carrier) (g : X → List Y) (xs : List X) → sum ops f (flat_map g xs) ≈ sum ops (λ x. sum ops f (g x)) xs
  sum-flat_map f g xs = Joined.big-flat_map (additive R) f g xs

  -- a double sum in either order
  pub sum-swap : {X Y : Type 0} (f : X → Y → carrier) (xs : List X) (ys : List Y) → sum ops (λ x. sum ops (f x) ys) xs ≈ sum ops (λ y. sum ops (λ x. f x y) xs) ys
  sum-swap f xs ys = Joined.big-swap (additive R) f xs ys

  -- the last, or the first, summand of a range apart
  pub sum_below-suc : (f : ℕ → carrier) (n : ℕ) → sum ops f (below (suc n)) ≈ sum ops f (below n) ⊕ f n
  unfolding joined
  sum_below-suc f n = Derived.of_path R (ap (sum ops f) (below-suc n)) ⨾ sum-append f (below n) (n ∷ []) ⨾ ring R (sum ops f (below n) ∷ f n ∷ []) (search quote depth 20) tt

  pub sum_below-front : (f : ℕ → carrier) (n : ℕ) → sum ops f (below (suc n)) ≈ f 0 ⊕ sum ops (λ k. f (suc k)) (below n)
  unfolding joined
  sum_below-front f zero = rfl _
  sum_below-front f (suc n) =
      sum_below-suc f (suc n) ⨾ add_cong (sum_below-front f n) (rfl (f (suc n)))
      ⨾ ring R (f 0 ∷ sum ops (λ k. f (suc k)) (below n) ∷ f (suc n) ∷ []) (search quote depth 20) tt
      ⨾ add_cong (rfl (f 0)) (symm (sum_below-suc (λ k. f (suc k)) n))

  -- equivalent summands below n
  pub sum_below_ext : (f g : ℕ → carrier) (n : ℕ) → ((k : ℕ) → k < n → f k ≈ g k) → sum ops f (below n) ≈ sum ops g (below n)
  unfolding joined
  sum_below_ext f g zero e = rfl 𝟘
  sum_below_ext f g (suc n) e = sum_below-suc f n ⨾ add_cong (sum_below_ext f g n (λ k h. e k (omega arith))) (e n (omega arith)) ⨾ symm (sum_below-suc g n)

  sum_below-zeros : (f : ℕ → carrier) (n : ℕ) → ((k : ℕ) → k < n → f k ≈ 𝟘) → sum ops f (below n) ≈ 𝟘
  sum_below-zeros f n e = sum_below_ext f (λ k. 𝟘) n e ⨾ sum-zero (below n)

  -- only the summand at k counts
  pub sum_below-single : (f : ℕ → carrier) (n k : ℕ) → k < n → ((j : ℕ) → j < n → ¬ (j ≡ k) → f j ≈ 𝟘) → sum ops f (below n) ≈ f k
  sum_below-single f zero k h z = elim (absurd {A = ⊥} (omega arith)) [ ]
  sum_below-single f (suc n) k h z = sum_below-suc f n ⨾ ⊎_elim
      (λ (e : n ≡ k).
      add_cong (sum_below-zeros f n (λ j l. z j (omega arith) (λ s. absurd (omega arith)))) (Derived.of_path R (ap f e)) ⨾ Derived.zero_add R (f k))
      (λ (d : ¬ (n ≡ k)).
      add_cong (sum_below-single f n k (omega arith) (λ j l. z j (omega arith))) (z n (omega arith) d) ⨾ R.add_zero (f k))
      (cases_eq n k)

  -- (1 - x) (1 + x + .. + x^(n-1)) = 1 - x^n
  pub geometric : (x : carrier) (n : ℕ) → sub ops 𝟙 x ⊗ sum ops (pow ops x) (below n) ≈ sub ops 𝟙 (pow ops x n)
  unfolding joined pow
  geometric x zero = ring R (x ∷ []) (search quote depth 20) tt
  geometric x (suc n) =
      mul_cong (rfl (sub ops 𝟙 x)) (sum_below-suc (pow ops x) n)
      ⨾ ring_by R (x ∷ sum ops (pow ops x) (below n) ∷ pow ops x n ∷ []) (fact 𝟙 _ _ (geometric x n) ∷ []) (search quote depth 20) tt
