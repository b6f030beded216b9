-- What follows at once from a ring's laws.
use Rattle.comm_ring.specs.Ring.{CommRing, pow, number}
use Rattle.std.proofs.Common.{◌≡◌, subst, ap, ℕ, zero, suc, ◌+◌, ◌*◌, ◌-◌, ◌≤◌, arith, suc-add, zero-add}
use Prim.Native.Nat.mul

module _ (R : CommRing) where
  open R use {ops, carrier, ◌≈◌, ◌⊕◌, ◌⊗◌, neg, 𝟘, 𝟙, rfl, symm, trans, add_cong, mul_cong, neg_cong, add_assoc, add_comm, add_zero, add_neg, mul_assoc, mul_comm, mul_one, distrib}

  infix 40 ◌≈◌
  infixl 60 ◌⊕◌
  infixl 70 ◌⊗◌
  infixr 30 ◌⨾◌
  -- one equation after another
  pub ◌⨾◌ : {x y z : carrier} → x ≈ y → y ≈ z → x ≈ z
  ◌⨾◌ e f = trans e f

  -- equal members are equivalent
  pub of_path : {x y : carrier} → x ≡ y → x ≈ y
  of_path {x = x} e = subst (λ z. x ≈ z) e (rfl x)

  -- zeros, ones and the other distributive law
  pub zero_add : (x : carrier) → 𝟘 ⊕ x ≈ x
  zero_add x = add_comm 𝟘 x ⨾ add_zero x

  pub neg_add : (x : carrier) → neg x ⊕ x ≈ 𝟘
  neg_add x = add_comm (neg x) x ⨾ add_neg x

  pub one_mul : (x : carrier) → 𝟙 ⊗ x ≈ x
  one_mul x = mul_comm 𝟙 x ⨾ mul_one x

  pub distrib_right : (x y z : carrier) → (x ⊕ y) ⊗ z ≈ x ⊗ z ⊕ y ⊗ z
  distrib_right x y z = mul_comm (x ⊕ y) z ⨾ distrib z x y ⨾ add_cong (mul_comm z x) (mul_comm z y)

  -- regrouping of three and of four
  pub add_left_comm : (x y z : carrier) → x ⊕ (y ⊕ z) ≈ y ⊕ (x ⊕ z)
  add_left_comm x y z = symm (add_assoc x y z) ⨾ add_cong (add_comm x y) (rfl z) ⨾ add_assoc y x z

  pub mul_left_comm : (x y z : carrier) → x ⊗ (y ⊗ z) ≈ y ⊗ (x ⊗ z)
  mul_left_comm x y z = symm (mul_assoc x y z) ⨾ mul_cong (mul_comm x y) (rfl z) ⨾ mul_assoc y x z

  pub add_exchange : (x y z w : carrier) → (x ⊕ y) ⊕ (z ⊕ w) ≈ (x ⊕ z) ⊕ (y ⊕ w)
  add_exchange x y z w = add_assoc x y (z ⊕ w) ⨾ add_cong (rfl x) (add_left_comm y z w) ⨾ symm (add_assoc x z (y ⊕ w))

  pub mul_exchange : (x y z w : carrier) → (x ⊗ y) ⊗ (z ⊗ w) ≈ (x ⊗ z) ⊗ (y ⊗ w)
  mul_exchange x y z w = mul_assoc x y (z ⊗ w) ⨾ mul_cong (rfl x) (mul_left_comm y z w) ⨾ symm (mul_assoc x z (y ⊗ w))

  -- cancellation, and what follows for negatives and zeros
  pub add_right_cancel : (x y z : carrier) → x ⊕ z ≈ y ⊕ z → x ≈ y
  add_right_cancel x y z e = symm (undo x) ⨾ add_cong e (rfl (neg z)) ⨾ undo y
    where
      undo : (w : carrier) → (w ⊕ z) ⊕ neg z ≈ w
      undo w = add_assoc w z (neg z) ⨾ add_cong (rfl w) (add_neg z) ⨾ add_zero w

  pub neg_unique : (x y : carrier) → x ⊕ y ≈ 𝟘 → y ≈ neg x
  neg_unique x y e = add_right_cancel y (neg x) x (add_comm y x ⨾ e ⨾ symm (neg_add x))

  pub mul_zero : (x : carrier) → x ⊗ 𝟘 ≈ 𝟘
  mul_zero x = add_right_cancel (x ⊗ 𝟘) 𝟘 (x ⊗ 𝟘) (symm (distrib x 𝟘 𝟘) ⨾ mul_cong (rfl x) (add_zero 𝟘) ⨾ symm (zero_add (x ⊗ 𝟘)))

  pub zero_mul : (x : carrier) → 𝟘 ⊗ x ≈ 𝟘
  zero_mul x = mul_comm 𝟘 x ⨾ mul_zero x

  pub mul_neg : (x y : carrier) → x ⊗ neg y ≈ neg (x ⊗ y)
  mul_neg x y = neg_unique (x ⊗ y) (x ⊗ neg y) (symm (distrib x y (neg y)) ⨾ mul_cong (rfl x) (add_neg y) ⨾ mul_zero x)

  pub neg_mul : (x y : carrier) → neg x ⊗ y ≈ neg (x ⊗ y)
  neg_mul x y = mul_comm (neg x) y ⨾ mul_neg y x ⨾ neg_cong (mul_comm y x)

  pub neg_neg : (x : carrier) → neg (neg x) ≈ x
  neg_neg x = symm (neg_unique (neg x) x (neg_add x))

  pub neg_sum : (x y : carrier) → neg (x ⊕ y) ≈ neg x ⊕ neg y
  neg_sum x y = symm (neg_unique (x ⊕ y) (neg x ⊕ neg y) (add_exchange x y (neg x) (neg y) ⨾ add_cong (add_neg x) (add_neg y) ⨾ zero_add 𝟘))

  pub neg_zero : neg 𝟘 ≈ 𝟘
  neg_zero = symm (neg_unique 𝟘 𝟘 (zero_add 𝟘))

  -- x + y' = y + x' gives x - x' = y - y'
  pub sub_of_add : (x x' y y' : carrier) → x ⊕ y' ≈ y ⊕ x' → x ⊕ neg x' ≈ y ⊕ neg y'
  sub_of_add x x' y y' e = add_right_cancel (x ⊕ neg x') (y ⊕ neg y') (x' ⊕ y') (left ⨾ e ⨾ right)
    where
      left : (x ⊕ neg x') ⊕ (x' ⊕ y') ≈ x ⊕ y'
      left = add_assoc x (neg x') (x' ⊕ y') ⨾ add_cong (rfl x) (symm (add_assoc (neg x') x' y') ⨾ add_cong (neg_add x') (rfl y') ⨾ zero_add y')

      right : y ⊕ x' ≈ (y ⊕ neg y') ⊕ (x' ⊕ y')
      right = symm (add_exchange y (neg y') x' y' ⨾ add_cong (rfl (y ⊕ x')) (neg_add y') ⨾ add_zero (y ⊕ x'))

  -- m = d + n gives m - n = d
  pub sub_of_sum : (x y m n d : carrier) → x ≈ m → y ≈ n → m ≈ d ⊕ n → x ⊕ neg y ≈ d
  sub_of_sum x y m n d e f h = add_cong (e ⨾ h) (neg_cong f) ⨾ add_assoc d n (neg n) ⨾ add_cong (rfl d) (add_neg n) ⨾ add_zero d

  -- numerals are sums and products of numerals
  pub number-zero : number ops 0 ≈ 𝟘
  unfolding number
  number-zero = rfl 𝟘

  pub number-one : number ops 1 ≈ 𝟙
  unfolding number
  number-one = add_zero 𝟙

  pub number-add : (m n : ℕ) → number ops (m + n) ≈ number ops m ⊕ number ops n
  unfolding number
  number-add zero n = rw zero-add (symm (zero_add (number ops n)))
  number-add (suc m) n = rw suc-add (add_cong (rfl 𝟙) (number-add m n) ⨾ symm (add_assoc 𝟙 (number ops m) (number ops n)))

  pub number-mul : (m n : ℕ) → number ops (m * n) ≈ number ops m ⊗ number ops n
  unfolding number
  number-mul zero n = of_path (ap (number ops) (mul.zero n)) ⨾ symm (zero_mul (number ops n))
  number-mul (suc m) n =
      of_path (ap (number ops) (mul.suc m n)) ⨾ number-add n (m * n) ⨾ add_cong (symm (one_mul (number ops n))) (number-mul m n)
      ⨾ symm (distrib_right 𝟙 (number ops m) (number ops n))

  -- the laws of powers
  pub pow-zero : (x : carrier) → pow ops x 0 ≈ 𝟙
  unfolding pow
  pow-zero x = rfl 𝟙

  pub pow-suc : (x : carrier) (n : ℕ) → pow ops x (suc n) ≈ x ⊗ pow ops x n
  unfolding pow
  pow-suc x n = rfl (x ⊗ pow ops x n)

  pub pow-one : (x : carrier) → pow ops x 1 ≈ x
  unfolding pow
  pow-one x = mul_one x

  pub pow_cong : {x y : carrier} (n : ℕ) → x ≈ y → pow ops x n ≈ pow ops y n
  unfolding pow
  pow_cong zero e = rfl 𝟙
  pow_cong (suc n) e = mul_cong e (pow_cong n e)

  -- equal exponents
  pub pow_same : (x : carrier) (m n : ℕ) → m ≡ n → pow ops x m ≈ pow ops x n
  pow_same x m n e = of_path (ap (pow ops x) e)

  pub pow-add : (x : carrier) (m n : ℕ) → pow ops x (m + n) ≈ pow ops x m ⊗ pow ops x n
  unfolding pow
  pow-add x zero n = rw zero-add (symm (one_mul (pow ops x n)))
  pow-add x (suc m) n = rw suc-add (mul_cong (rfl x) (pow-add x m n) ⨾ symm (mul_assoc x (pow ops x m) (pow ops x n)))

  pub mul-pow : (x y : carrier) (n : ℕ) → pow ops (x ⊗ y) n ≈ pow ops x n ⊗ pow ops y n
  unfolding pow
  mul-pow x y zero = symm (one_mul 𝟙)
  mul-pow x y (suc n) = mul_cong (rfl (x ⊗ y)) (mul-pow x y n) ⨾ mul_exchange x y (pow ops x n) (pow ops y n)

  pub one-pow : (n : ℕ) → pow ops 𝟙 n ≈ 𝟙
  unfolding pow
  one-pow zero = rfl 𝟙
  one-pow (suc n) = one_mul (pow ops 𝟙 n) ⨾ one-pow n

  pub pow-mul : (x : carrier) (m n : ℕ) → pow ops x (m * n) ≈ pow ops (pow ops x m) n
  unfolding pow
  pow-mul x m zero = of_path (ap (pow ops x) (let e : m * 0 ≡ 0 = omega arith in e))
  pow-mul x m (suc n) = pow_same x (m * suc n) (m + m * n) (omega arith) ⨾ pow-add x m (m * n) ⨾ mul_cong (rfl (pow ops x m)) (pow-mul x m n)

  -- a power at a difference of exponents
  pub pow_split : (x : carrier) (m n : ℕ) → m ≤ n → pow ops x n ≈ pow ops x m ⊗ pow ops x (n - m)
  pow_split x m n h = pow_same x n (m + (n - m)) (omega arith) ⨾ pow-add x m (n - m)
