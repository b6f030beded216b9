-- Commutative rings whose equations hold up to an equivalence of their own.
use Rattle.std.specs.Prelude.{ℕ, zero, suc}

-- the operations of a ring, and the equality that they keep
pub record Ops : Type 1 where
  pub carrier : Type 0
  pub ◌≈◌ : carrier → carrier → Type 0
  pub ◌⊕◌ : carrier → carrier → carrier
  pub ◌⊗◌ : carrier → carrier → carrier
  pub neg : carrier → carrier
  pub 𝟘 : carrier
  pub 𝟙 : carrier
  infix 40 ◌≈◌
  infixl 60 ◌⊕◌
  infixl 70 ◌⊗◌

module _ (O : Ops) where
  open O use {carrier, ◌≈◌, ◌⊕◌, ◌⊗◌, neg, 𝟘, 𝟙}

  infix 40 ◌≈◌
  infixl 60 ◌⊕◌
  infixl 70 ◌⊗◌
  -- the laws of a commutative ring for given operations
  pub record IsCommRing : Type 0 where
    pub rfl : (x : carrier) → x ≈ x
    pub symm : {x y : carrier} → x ≈ y → y ≈ x
    pub trans : {x y z : carrier} → x ≈ y → y ≈ z → x ≈ z
    pub add_cong : {x x' y y' : carrier} → x ≈ x' → y ≈ y' → (x ⊕ y) ≈ (x' ⊕ y')
    pub mul_cong : {x x' y y' : carrier} → x ≈ x' → y ≈ y' → (x ⊗ y) ≈ (x' ⊗ y')
    pub neg_cong : {x x' : carrier} → x ≈ x' → neg x ≈ neg x'
    pub add_assoc : (x y z : carrier) → ((x ⊕ y) ⊕ z) ≈ (x ⊕ (y ⊕ z))
    pub add_comm : (x y : carrier) → (x ⊕ y) ≈ (y ⊕ x)
    pub add_zero : (x : carrier) → (x ⊕ 𝟘) ≈ x
    pub add_neg : (x : carrier) → (x ⊕ neg x) ≈ 𝟘
    pub mul_assoc : (x y z : carrier) → ((x ⊗ y) ⊗ z) ≈ (x ⊗ (y ⊗ z))
    pub mul_comm : (x y : carrier) → (x ⊗ y) ≈ (y ⊗ x)
    pub mul_one : (x : carrier) → (x ⊗ 𝟙) ≈ x
    pub distrib : (x y z : carrier) → (x ⊗ (y ⊕ z)) ≈ ((x ⊗ y) ⊕ (x ⊗ z))

  -- the difference of two members
  abbrev pub sub : carrier → carrier → carrier
  sub x y = x ⊕ neg y

  -- the product of n factors x
  unfoldable pub pow : carrier → ℕ → carrier
  pow x zero = 𝟙
  pow x (suc n) = x ⊗ pow x n

  -- the number n as a member: the sum of n ones
  unfoldable pub number : ℕ → carrier
  number zero = 𝟘
  number (suc n) = 𝟙 ⊕ number n

-- a commutative ring: operations together with their laws
pub record CommRing : Type 1 where
  pub ops : Ops
  pub open ops use {carrier, ◌≈◌, ◌⊕◌, ◌⊗◌, neg, 𝟘, 𝟙}
  pub laws : IsCommRing ops
  pub open laws use {rfl, symm, trans, add_cong, mul_cong, neg_cong, add_assoc, add_comm, add_zero, add_neg, mul_assoc, mul_comm, mul_one, distrib}

-- f keeps equality, 1, sums and products
pub record IsRingMap (O P : Ops) (f : O.carrier → P.carrier) : Type 0 where
  pub resp : (x y : O.carrier) → O.◌≈◌ x y → P.◌≈◌ (f x) (f y)
  pub one : P.◌≈◌ (f O.𝟙) P.𝟙
  pub add : (x y : O.carrier) → P.◌≈◌ (f (O.◌⊕◌ x y)) (P.◌⊕◌ (f x) (f y))
  pub mul : (x y : O.carrier) → P.◌≈◌ (f (O.◌⊗◌ x y)) (P.◌⊗◌ (f x) (f y))
