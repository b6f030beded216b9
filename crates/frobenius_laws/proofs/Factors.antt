-- A polynomial with leading coefficient 1 and as many roots as its degree is the product of its linear factors.
use Rattle.std.proofs.Common.{◌≡◌, ◌⊎◌, inl, inr, refl, sym, ap, ◌∙◌, ℕ, zero, suc, ◌+◌, ◌*◌, ◌-◌, ◌%◌, ◌<◌, ◌≤◌, List, [], ◌∷◌, length, arith, mod-eq_of_lt}
use Rattle.prime_field.specs.Primes.{IsPrime}
use Rattle.comm_ring.specs.Ring.{CommRing, pow, number}
use Rattle.comm_ring.proofs.Derived as Derived
use Rattle.comm_ring.proofs.Quote.{ring, ring_by, fact, quote}
use Rattle.frobenius_laws.proofs.PowerMap.{power-number, number_inverse}

module _ (R : CommRing) where
  open R use {ops, carrier, ◌≈◌, ◌⊕◌, ◌⊗◌, neg, 𝟘, 𝟙, rfl, symm, trans, add_cong, mul_cong}

  infix 40 ◌≈◌
  infixl 60 ◌⊕◌
  infixl 70 ◌⊗◌
  infixr 30 ◌⨾◌
  ◌⨾◌ : {u v w : carrier} → u ≈ v → v ≈ w → u ≈ w
  ◌⨾◌ e f = trans e f

  -- c_0 + c_1 u + .. + u^n
  abbrev pub monic : List carrier → carrier → carrier
  monic [] u = 𝟙
  monic (c ∷ cs) u = c ⊕ u ⊗ monic cs u

  -- the quotient of c + x f by x - a, with the coefficients of f
  abbrev pub quotient : carrier → List carrier → List carrier
  quotient a [] = []
  quotient a (c ∷ cs) = monic (c ∷ cs) a ∷ quotient a cs

  -- the product of the factors u - a
  abbrev pub factors : List carrier → carrier → carrier
  factors [] u = 𝟙
  factors (a ∷ rs) u = (u ⊕ neg a) ⊗ factors rs u

  -- each is 0 at the list's end
  abbrev pub Vanish : List carrier → List carrier → Type 0
  Vanish cs [] = Unit {0}
  Vanish cs (r ∷ rs) = (monic cs r ≈ 𝟘) × Vanish cs rs

  -- the differences with a have inverses
  abbrev pub AwayFrom : carrier → List carrier → Type 0
  AwayFrom a [] = Unit {0}
  AwayFrom a (b ∷ rs) = ((e : carrier) × (e ⊗ (b ⊕ neg a) ≈ 𝟙)) × AwayFrom a rs

  abbrev pub AllAway : List carrier → Type 0
  AllAway [] = Unit {0}
  AllAway (a ∷ rs) = AwayFrom a rs × AllAway rs

  length-quotient : (a : carrier) (cs : List carrier) → length (quotient a cs) ≡ length cs
  length-quotient a [] = refl
  length-quotient a (c ∷ cs) = ap suc (length-quotient a cs)

  last_ring : (c u a : carrier) → c ⊕ u ⊗ 𝟙 ≈ (c ⊕ a ⊗ 𝟙) ⊕ (u ⊕ neg a) ⊗ 𝟙
  last_ring c u a = ring R (c ∷ u ∷ a ∷ []) (search quote depth 20) tt

  step_ring : (c u a m n q : carrier) → m ≈ n ⊕ (u ⊕ neg a) ⊗ q → c ⊕ u ⊗ m ≈ (c ⊕ a ⊗ n) ⊕ (u ⊕ neg a) ⊗ (n ⊕ u ⊗ q)
  step_ring c u a m n q e = ring_by R (c ∷ u ∷ a ∷ m ∷ n ∷ q ∷ []) (fact u _ _ e ∷ []) (search quote depth 20) tt

  -- the rest of the division by x - a is the value at a
  divides : (c : carrier) (cs : List carrier) (u a : carrier) → monic (c ∷ cs) u ≈ monic (c ∷ cs) a ⊕ (u ⊕ neg a) ⊗ monic (quotient a cs) u
  divides c [] u a = last_ring c u a
  divides c (e ∷ es) u a = step_ring c u a (monic (e ∷ es) u) (monic (e ∷ es) a) (monic (quotient a es) u) (divides e es u a)

  -- at a root nothing is left
  at_root : (c : carrier) (cs : List carrier) (u a : carrier) → monic (c ∷ cs) a ≈ 𝟘 → monic (c ∷ cs) u ≈ (u ⊕ neg a) ⊗ monic (quotient a cs) u
  at_root c cs u a z = divides c cs u a ⨾ (add_cong z (rfl _) ⨾ Derived.zero_add R _)

  -- the other roots are roots of the quotient
  others : (c : carrier) (cs : List carrier) (a : carrier) → monic (c ∷ cs) a ≈ 𝟘 → (rs : List carrier) → AwayFrom a rs → Vanish (c ∷ cs) rs → Vanish (quotient a cs) rs
  others c cs a z [] w v = tt
  others c cs a z (b ∷ rs) w v = (
    symm (Derived.one_mul R (monic (quotient a cs) b)) ⨾ (mul_cong (symm w.0.1) (rfl (monic (quotient a cs) b)) ⨾ (R.mul_assoc w.0.0 (b ⊕ neg a) (monic (quotient a cs) b)
        ⨾ (mul_cong (rfl w.0.0) (symm (at_root c cs b a z) ⨾ v.0) ⨾ Derived.mul_zero R w.0.0))),
    others c cs a z rs w.1 v.1,
  )

  pub factored : (rs cs : List carrier) → length cs ≡ length rs → Vanish cs rs → AllAway rs → (u : carrier) → monic cs u ≈ factors rs u
  factored [] [] l v w u = rfl 𝟙
  factored [] (c ∷ cs) l v w u = absurd (omega arith)
  factored (a ∷ rs) [] l v w u = absurd (omega arith)
  factored (a ∷ rs) (c ∷ cs) l v w u = at_root c cs u a v.0
      ⨾ mul_cong (rfl (u ⊕ neg a)) (factored rs (quotient a cs) (length-quotient a cs ∙ (let h : suc (length cs) ≡ suc (length rs) = l in omega arith)) (others c cs a v.0 rs w.0 v.1) w.1 u)

  -- x^n
  abbrev pub zeros : ℕ → List carrier
  zeros zero = []
  zeros (suc n) = 𝟘 ∷ zeros n

  length-zeros : (n : ℕ) → length (zeros n) ≡ n
  length-zeros zero = refl
  length-zeros (suc n) = ap suc (length-zeros n)

  monic-zeros : (n : ℕ) (u : carrier) → monic (zeros n) u ≈ pow ops u n
  unfolding pow
  monic-zeros zero u = rfl 𝟙
  monic-zeros (suc n) u = Derived.zero_add R _ ⨾ mul_cong (rfl u) (monic-zeros n u)

  -- the numbers k, .., k + n - 1
  abbrev pub numbers : ℕ → ℕ → List carrier
  numbers k zero = []
  numbers k (suc n) = number ops k ∷ numbers (suc k) n

  length-numbers : (k n : ℕ) → length (numbers k n) ≡ n
  length-numbers k zero = refl
  length-numbers k (suc n) = ap suc (length-numbers (suc k) n)

  -- what divides a product of factors u - c divides one of them
  pub one_factor : (M : carrier → Type 0) → ((x y : carrier) → M (x ⊗ y) → M x ⊎ M y) → ¬ (M 𝟙) → (u : carrier) (k n : ℕ) → M (factors (numbers k n) u)
      → (c : ℕ) × (c < k + n) × M (u ⊕ neg (number ops c))
  one_factor M prime proper u k zero m = absurd (proper m)
  one_factor M prime proper u k (suc n) m = go (prime _ _ m) (one_factor M prime proper u (suc k) n)
    where
      go : M (u ⊕ neg (number ops k)) ⊎ M (factors (numbers (suc k) n) u) → (M (factors (numbers (suc k) n) u) → (c : ℕ) × (c < suc k + n) × M (u ⊕ neg (number ops c)))
          → (c : ℕ) × (c < k + suc n) × M (u ⊕ neg (number ops c))
      go (inl h) more = (k, omega arith, h)
      go (inr h) more = let r = more h in (r.0, (let l : r.0 < suc k + n = r.1 in omega arith), r.2)

  module _ (p : ℕ) (prime : IsPrime p) (vanishes : number ops p ≈ 𝟘) where
    difference_ring : (a b : carrier) → (a ⊕ b) ⊕ neg a ≈ b
    difference_ring a b = ring R (a ∷ b ∷ []) (search quote depth 20) tt

    difference : (k d : ℕ) → number ops (k + d) ⊕ neg (number ops k) ≈ number ops d
    difference k d = add_cong (Derived.number-add R k d) (rfl (neg (number ops k))) ⨾ difference_ring (number ops k) (number ops d)

    away : (k l n : ℕ) → k < l → l + n ≤ k + p → AwayFrom (number ops k) (numbers l n)
    away k l zero h e = tt
    away k l (suc n) h e =
        let i = number_inverse R p prime vanishes (l - k) (λ z. absurd (let m : l - k < p = omega arith in let q : (l - k) % p ≡ l - k = mod-eq_of_lt m in omega arith)) in (
          (number ops i.0, mul_cong (rfl (number ops i.0)) (add_cong (Derived.of_path R (ap (number ops) (let w : l ≡ k + (l - k) = omega arith in w))) (rfl (neg (number ops k))) ⨾ difference k (l - k)) ⨾ i.1),
          away k (suc l) n (omega arith) (omega arith),
        )

    all_away : (k n : ℕ) → n ≤ p → AllAway (numbers k n)
    all_away k zero h = tt
    all_away k (suc n) h = (away k (suc k) n (omega arith) (omega arith), all_away (suc k) n (omega arith))

    -- the coefficients of x^p - x
    abbrev coefficients : List carrier
    coefficients = 𝟘 ∷ (neg 𝟙 ∷ zeros (p - 2))

    value_ring : (u v : carrier) → 𝟘 ⊕ u ⊗ (neg 𝟙 ⊕ u ⊗ v) ≈ (u ⊗ (u ⊗ v)) ⊕ neg u
    value_ring u v = ring R (u ∷ v ∷ []) (search quote depth 20) tt

    up : (u : carrier) → u ⊗ (u ⊗ pow ops u (p - 2)) ≈ pow ops u p
    up u = mul_cong (rfl u) (symm (Derived.pow-suc R u (p - 2))) ⨾ (symm (Derived.pow-suc R u (suc (p - 2))) ⨾ Derived.pow_same R u (suc (suc (p - 2))) p (let h : 2 ≤ p = prime.0 in omega arith))

    value : (u : carrier) → monic coefficients u ≈ pow ops u p ⊕ neg u
    value u = add_cong (rfl 𝟘) (mul_cong (rfl u) (add_cong (rfl (neg 𝟙)) (mul_cong (rfl u) (monic-zeros (p - 2) u))))
        ⨾ (value_ring u (pow ops u (p - 2)) ⨾ add_cong (up u) (rfl (neg u)))

    vanish : (k n : ℕ) → Vanish coefficients (numbers k n)
    vanish k zero = tt
    vanish k (suc n) = (value (number ops k) ⨾ (add_cong (power-number R p prime vanishes k) (rfl (neg (number ops k))) ⨾ R.add_neg (number ops k)), vanish (suc k) n)

    -- the product of all u - c is u^p - u
    pub product-of_all : (u : carrier) → factors (numbers 0 p) u ≈ pow ops u p ⊕ neg u
    product-of_all u = symm (factored (numbers 0 p) coefficients (ap (λ n. suc (suc n)) (length-zeros (p - 2)) ∙ ((let h : 2 ≤ p = prime.0 in omega arith) ∙ sym (length-numbers 0 p))) (vanish 0 p) (all_away 0 p (omega arith)) u) ⨾ value u

    -- a prime set that holds u^p - u holds u - c for one c
    pub takes_value : (M : carrier → Type 0) → ((x y : carrier) → x ≈ y → M x → M y) → ((x y : carrier) → M (x ⊗ y) → M x ⊎ M y) → ¬ (M 𝟙) → M 𝟘
        → (u : carrier) → pow ops u p ≈ u → (c : ℕ) × (c < p) × M (u ⊕ neg (number ops c))
    takes_value M resp splits proper none u e =
        let r = one_factor M splits proper u 0 p (resp _ _ (symm (product-of_all u ⨾ (add_cong e (rfl (neg u)) ⨾ R.add_neg u))) none) in
        (r.0, (let l : r.0 < 0 + p = r.1 in omega arith), r.2)
