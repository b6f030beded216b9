-- Ideals of a ring: by generators, sums, products, powers, and what their members take into a set.
use Rattle.std.specs.Prelude.{◌≡◌, ℕ, zero, suc, List, length, All}
use Rattle.comm_ring.specs.Ring.{Ops}
use Rattle.comm_ring.specs.Sums.{product}
use Rattle.comm_ring.specs.Modules.{own_module, InSpan, IsSubmodule}

module _ (O : Ops) where
  open O use {carrier, ◌≈◌, ◌⊕◌, ◌⊗◌, neg, 𝟘, 𝟙}

  infix 40 ◌≈◌
  infixl 60 ◌⊕◌
  infixl 70 ◌⊗◌
  -- f is a sum of multiples of the members of the list
  abbrev pub InIdeal : List carrier → carrier → Type 0
  InIdeal gs f = InSpan (own_module O) gs f

  -- I holds 0, sums and multiples, and with a member all that equals it
  abbrev pub IsIdeal : (carrier → Type 0) → Type 0
  IsIdeal I = IsSubmodule (own_module O) I

  -- f is a sum of a member of I and one of J
  abbrev pub SumOf : (I J : carrier → Type 0) → carrier → Type 0
  SumOf I J f = (u : carrier) × (v : carrier) × I u × J v × f ≈ u ⊕ v

  -- the finite sums of products of a member of I and one of J
  pub data ProductOf (I J : carrier → Type 0) : carrier → Type 0 where
    no_product : (x : carrier) → x ≈ 𝟘 → ProductOf I J x
    one_more : (x u v y : carrier) → I u → J v → ProductOf I J y → x ≈ u ⊗ v ⊕ y → ProductOf I J x

  -- the power of an ideal; the power 0 is everything
  abbrev pub PowerOf : (carrier → Type 0) → ℕ → carrier → Type 0
  PowerOf I zero = λ f. Unit {0}
  PowerOf I (suc m) = ProductOf I (PowerOf I m)

  -- every product of m members of P takes f into M
  abbrev pub Takes : (P : carrier → Type 0) → ℕ → (M : carrier → Type 0) → carrier → Type 0
  Takes P m M f = (l : List carrier) → length l ≡ m → All P l → M (product O (λ x. x) l ⊗ f)

  -- the same, one factor at a time
  abbrev pub Into : (P : carrier → Type 0) → ℕ → (M : carrier → Type 0) → carrier → Type 0
  Into P zero M f = M f
  Into P (suc m) M f = (p : carrier) → P p → Into P m M (p ⊗ f)

  -- what equals a member of M is one
  abbrev pub Respects : (carrier → Type 0) → Type 0
  Respects M = (x y : carrier) → x ≈ y → M x → M y

  -- 1 is the sum of a member of I and one of J
  abbrev pub Apart : (I J : carrier → Type 0) → Type 0
  Apart I J = SumOf I J 𝟙

  -- the same ring, with members equal where their difference lies in I
  abbrev pub quotient_ops : (carrier → Type 0) → Ops
  quotient_ops I = record { carrier = carrier; ◌≈◌ = λ x y. I (x ⊕ neg y); ◌⊕◌ = ◌⊕◌; ◌⊗◌ = ◌⊗◌; neg = neg; 𝟘 = 𝟘; 𝟙 = 𝟙 }
