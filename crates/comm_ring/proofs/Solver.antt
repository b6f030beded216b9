-- Ring identities by reflection: an expression is computed to a normal form, and two expressions with one normal
-- form have equivalent values.
use Rattle.std.proofs.Common.{Bool, true, false, ◌≡◌, ℕ, zero, suc, ◌+◌, ◌*◌, List, [], ◌∷◌, refl, sym, ap, ap₂}
use Prim.Native.Nat.{compare, Ordering}
use lib.Dec.{T, compare_is_eq, eqb→eq}
use Rattle.comm_ring.specs.Ring.{CommRing, number}
use Rattle.comm_ring.proofs.Derived as Derived

-- an expression in variables by their index
pub data Expression : Type 0 where
  var : ℕ → Expression
  num : ℕ → Expression
  null unit : Expression
  add : Expression → Expression → Expression
  mul : Expression → Expression → Expression
  opp : Expression → Expression

-- a sum of products: a coefficient and a sorted list of variables each
pub data Poly : Type 0 where
  nil : Poly
  term : ℕ → List ℕ → Poly → Poly

-- products of variables, sorted
abbrev pub ins : ℕ → List ℕ → List ℕ
ins x [] = x ∷ []
ins x (y ∷ ys) = elim (compare x y) [ Ordering.lt ↦ x ∷ (y ∷ ys) | Ordering.eq ↦ x ∷ (y ∷ ys) | Ordering.gt ↦ y ∷ ins x ys ]

abbrev pub mono_mul : List ℕ → List ℕ → List ℕ
mono_mul [] n = n
mono_mul (x ∷ m) n = ins x (mono_mul m n)

-- the order of products
abbrev pub mono_cmp : List ℕ → List ℕ → Ordering
mono_cmp [] [] = Ordering.eq
mono_cmp [] (y ∷ n) = Ordering.lt
mono_cmp (x ∷ m) [] = Ordering.gt
mono_cmp (x ∷ m) (y ∷ n) = elim (compare x y) [ Ordering.lt ↦ Ordering.lt | Ordering.eq ↦ mono_cmp m n | Ordering.gt ↦ Ordering.gt ]

-- sums and products of sums of terms, sorted
abbrev pub term_add : ℕ → List ℕ → Poly → Poly
term_add c m nil = term c m nil
term_add c m (term d n p) = elim (mono_cmp m n) [ Ordering.lt ↦ term c m (term d n p) | Ordering.eq ↦ term (c + d) n p | Ordering.gt ↦ term d n (term_add c m p) ]

abbrev pub poly_add : Poly → Poly → Poly
poly_add nil q = q
poly_add (term c m p) q = term_add c m (poly_add p q)

abbrev pub term_mul : ℕ → List ℕ → Poly → Poly
term_mul c m nil = nil
term_mul c m (term d n q) = term_add (c * d) (mono_mul m n) (term_mul c m q)

abbrev pub poly_mul : Poly → Poly → Poly
poly_mul nil q = nil
poly_mul (term c m p) q = poly_add (term_mul c m q) (poly_mul p q)

-- what is added and what is subtracted
pub record Diff : Type 0 where
  pub up : Poly
  pub down : Poly

-- the sum of one number
abbrev pub constant : ℕ → Poly
constant zero = nil
constant (suc n) = term (suc n) [] nil

-- what an expression adds and what it subtracts
abbrev pub norm : Expression → Diff
norm (var i) = record { up = term 1 (i ∷ []) nil; down = nil }
norm (num n) = record { up = constant n; down = nil }
norm null = record { up = nil; down = nil }
norm unit = record { up = term 1 [] nil; down = nil }
norm (add e f) = let a : Diff = norm e in let b : Diff = norm f in record { up = poly_add a.up b.up; down = poly_add a.down b.down }
norm (mul e f) = let a : Diff = norm e in let b : Diff = norm f in
    record { up = poly_add (poly_mul a.up b.up) (poly_mul a.down b.down); down = poly_add (poly_mul a.up b.down) (poly_mul a.down b.up) }
norm (opp e) = let a : Diff = norm e in record { up = a.down; down = a.up }

-- whether two sums of terms are the same
abbrev pub poly_same : Poly → Poly → Bool
poly_same nil nil = true
poly_same nil (term d n q) = false
poly_same (term c m p) nil = false
poly_same (term c m p) (term d n q) =
    elim (compare c d) [
      | Ordering.lt ↦ false
      | Ordering.eq ↦ elim (mono_cmp m n) [ Ordering.lt ↦ false | Ordering.eq ↦ poly_same p q | Ordering.gt ↦ false ]
      | Ordering.gt ↦ false
    ]

-- the two sides with what the other subtracts
abbrev pub left_form : Expression → Expression → Poly
left_form e f = poly_add (norm e).up (norm f).down

abbrev pub right_form : Expression → Expression → Poly
right_form e f = poly_add (norm f).up (norm e).down

ordering_by : (P : Ordering → Type 0) (o : Ordering) → P Ordering.lt → P Ordering.eq → P Ordering.gt → P o
ordering_by P Ordering.lt a b c = a
ordering_by P Ordering.eq a b c = b
ordering_by P Ordering.gt a b c = c

abbrev AreSame : Ordering → List ℕ → List ℕ → Type 0
AreSame Ordering.lt m n = Unit {0}
AreSame Ordering.eq m n = m ≡ n
AreSame Ordering.gt m n = Unit {0}

abbrev AreEqual : Ordering → ℕ → ℕ → Type 0
AreEqual Ordering.lt x y = Unit {0}
AreEqual Ordering.eq x y = x ≡ y
AreEqual Ordering.gt x y = Unit {0}

compare_same : (x y : ℕ) → AreEqual (compare x y) x y
compare_same x y = by (compare x y) (eqb→eq x y)
  where
    by : (o : Ordering) → (T (compare_is_eq o) → x ≡ y) → AreEqual o x y
    by Ordering.lt f = tt
    by Ordering.eq f = f tt
    by Ordering.gt f = tt

mono_cmp_same : (m n : List ℕ) → AreSame (mono_cmp m n) m n
mono_cmp_same [] [] = refl
mono_cmp_same [] (y ∷ n) = tt
mono_cmp_same (x ∷ m) [] = tt
mono_cmp_same (x ∷ m) (y ∷ n) = by (compare x y) (compare_same x y) (mono_cmp m n) (mono_cmp_same m n)
  where
    by : (o : Ordering) → AreEqual o x y → (o' : Ordering) → AreSame o' m n →
        AreSame (elim o as (λ _. Ordering) [ Ordering.lt ↦ Ordering.lt | Ordering.eq ↦ o' | Ordering.gt ↦ Ordering.gt ]) (x ∷ m) (y ∷ n)
    by Ordering.lt e o' h = tt
    by Ordering.eq e Ordering.lt h = tt
    by Ordering.eq e Ordering.eq h = ap₂ ◌∷◌ e h
    by Ordering.eq e Ordering.gt h = tt
    by Ordering.gt e o' h = tt

poly_same_sound : (p q : Poly) → T (poly_same p q) → p ≡ q
poly_same_sound nil nil t = refl
poly_same_sound nil (term d n q) t = elim t [ ]
poly_same_sound (term c m p) nil t = elim t [ ]
poly_same_sound (term c m p) (term d n q) t = by (compare c d) (compare_same c d) (mono_cmp m n) (mono_cmp_same m n) (poly_same_sound p q) t
  where
    by :
        (o : Ordering) → AreEqual o c d → (o' : Ordering) → AreSame o' m n → (T (poly_same p q) → p ≡ q) →
        T (elim o as (λ _. Bool) [ Ordering.lt ↦ false | Ordering.eq ↦ elim o' as (λ _. Bool) [ Ordering.lt ↦ false | Ordering.eq ↦ poly_same p q | Ordering.gt ↦ false ] | Ordering.gt ↦ false ]) →
        term c m p ≡ term d n q
    by Ordering.lt e o' h k u = elim u [ ]
    by Ordering.gt e o' h k u = elim u [ ]
    by Ordering.eq e Ordering.lt h k u = elim u [ ]
    by Ordering.eq e Ordering.gt h k u = elim u [ ]
    by Ordering.eq e Ordering.eq h k u = λ i. term (e i) (h i) (k u i)

-- whether e and f have one normal form
abbrev pub agree : Expression → Expression → Bool
agree e f = poly_same (left_form e f) (right_form e f)

-- where the test passes, the forms are equal
pub agree_sound : (e f : Expression) → T (agree e f) → left_form e f ≡ right_form e f
agree_sound e f t = poly_same_sound (left_form e f) (right_form e f) t

-- the values of expressions in a ring
module _ (R : CommRing) where
  open R use {ops, carrier, ◌≈◌, ◌⊕◌, ◌⊗◌, neg, 𝟘, 𝟙, rfl, symm, trans, add_cong, mul_cong, neg_cong, add_assoc, add_comm, add_zero, mul_assoc, mul_one, distrib}

  infix 40 ◌≈◌
  infixl 60 ◌⊕◌
  infixl 70 ◌⊗◌
  infixr 30 ◌⨾◌
  ◌⨾◌ : {x y z : carrier} → x ≈ y → y ≈ z → x ≈ z
  ◌⨾◌ e f = trans e f

  -- the member at a place of a list
  abbrev pub at : List carrier → ℕ → carrier
  at [] i = 𝟘
  at (x ∷ xs) zero = x
  at (x ∷ xs) (suc i) = at xs i

  module _ (vars : List carrier) where
    -- the value of an expression
    abbrev pub value : Expression → carrier
    value (var i) = at vars i
    value (num n) = number ops n
    value null = 𝟘
    value unit = 𝟙
    value (add e f) = value e ⊕ value f
    value (mul e f) = value e ⊗ value f
    value (opp e) = neg (value e)

    mono_value : List ℕ → carrier
    mono_value [] = 𝟙
    mono_value (x ∷ m) = at vars x ⊗ mono_value m

    poly_value : Poly → carrier
    poly_value nil = 𝟘
    poly_value (term c m p) = number ops c ⊗ mono_value m ⊕ poly_value p

    ins-value : (x : ℕ) (m : List ℕ) → mono_value (ins x m) ≈ at vars x ⊗ mono_value m
    unfolding mono_value
    ins-value x [] = rfl _
    ins-value x (y ∷ m) = ordering_by
        (λ o. mono_value (elim o as (λ _. List ℕ) [ Ordering.lt ↦ x ∷ (y ∷ m) | Ordering.eq ↦ x ∷ (y ∷ m) | Ordering.gt ↦ y ∷ ins x m ]) ≈ at vars x ⊗ (at vars y ⊗ mono_value m))
        (compare x y) (rfl _) (rfl _)
        (mul_cong (rfl (at vars y)) (ins-value x m) ⨾ Derived.mul_left_comm R (at vars y) (at vars x) (mono_value m))

    mono_mul-value : (m n : List ℕ) → mono_value (mono_mul m n) ≈ mono_value m ⊗ mono_value n
    unfolding mono_value
    mono_mul-value [] n = symm (Derived.one_mul R (mono_value n))
    mono_mul-value (x ∷ m) n = ins-value x (mono_mul m n) ⨾ mul_cong (rfl (at vars x)) (mono_mul-value m n) ⨾ symm (mul_assoc (at vars x) (mono_value m) (mono_value n))

    term_add-value : (c : ℕ) (m : List ℕ) (p : Poly) → poly_value (term_add c m p) ≈ number ops c ⊗ mono_value m ⊕ poly_value p
    unfolding poly_value
    term_add-value c m nil = rfl _
    term_add-value c m (term d n p) = by (mono_cmp m n) (mono_cmp_same m n) (term_add-value c m p)
      where
        by : (o : Ordering) → AreSame o m n → poly_value (term_add c m p) ≈ number ops c ⊗ mono_value m ⊕ poly_value p →
            poly_value (elim o as (λ _. Poly) [ Ordering.lt ↦ term c m (term d n p) | Ordering.eq ↦ term (c + d) n p | Ordering.gt ↦ term d n (term_add c m p) ])
            ≈ number ops c ⊗ mono_value m ⊕ (number ops d ⊗ mono_value n ⊕ poly_value p)
        by Ordering.lt e h = rfl _
        by Ordering.eq e h =
            add_cong (mul_cong (Derived.number-add R c d) (rfl (mono_value n)) ⨾ Derived.distrib_right R (number ops c) (number ops d) (mono_value n)) (rfl (poly_value p))
            ⨾ add_assoc (number ops c ⊗ mono_value n) (number ops d ⊗ mono_value n) (poly_value p)
            ⨾ add_cong (mul_cong (rfl (number ops c)) (Derived.of_path R (ap mono_value (sym e)))) (rfl (number ops d ⊗ mono_value n ⊕ poly_value p))
        by Ordering.gt e h =
            add_cong (rfl (number ops d ⊗ mono_value n)) h
            ⨾ Derived.add_left_comm R (number ops d ⊗ mono_value n) (number ops c ⊗ mono_value m) (poly_value p)

    poly_add-value : (p q : Poly) → poly_value (poly_add p q) ≈ poly_value p ⊕ poly_value q
    unfolding poly_value
    poly_add-value nil q = symm (Derived.zero_add R (poly_value q))
    poly_add-value (term c m p) q =
        term_add-value c m (poly_add p q) ⨾ add_cong (rfl (number ops c ⊗ mono_value m)) (poly_add-value p q)
        ⨾ symm (add_assoc (number ops c ⊗ mono_value m) (poly_value p) (poly_value q))

    term_mul-value : (c : ℕ) (m : List ℕ) (q : Poly) → poly_value (term_mul c m q) ≈ (number ops c ⊗ mono_value m) ⊗ poly_value q
    unfolding poly_value
    term_mul-value c m nil = symm (Derived.mul_zero R (number ops c ⊗ mono_value m))
    term_mul-value c m (term d n q) =
        term_add-value (c * d) (mono_mul m n) (term_mul c m q)
        ⨾ add_cong (mul_cong (Derived.number-mul R c d) (mono_mul-value m n) ⨾ Derived.mul_exchange R (number ops c) (number ops d) (mono_value m) (mono_value n)) (term_mul-value c m q)
        ⨾ symm (distrib (number ops c ⊗ mono_value m) (number ops d ⊗ mono_value n) (poly_value q))

    poly_mul-value : (p q : Poly) → poly_value (poly_mul p q) ≈ poly_value p ⊗ poly_value q
    unfolding poly_value
    poly_mul-value nil q = symm (Derived.zero_mul R (poly_value q))
    poly_mul-value (term c m p) q =
        poly_add-value (term_mul c m q) (poly_mul p q) ⨾ add_cong (term_mul-value c m q) (poly_mul-value p q)
        ⨾ symm (Derived.distrib_right R (number ops c ⊗ mono_value m) (poly_value p) (poly_value q))

    diff_value : Diff → carrier
    diff_value d = poly_value d.up ⊕ neg (poly_value d.down)

    constant-value : (n : ℕ) → poly_value (constant n) ≈ number ops n
    unfolding poly_value mono_value number
    constant-value zero = rfl 𝟘
    constant-value (suc n) = add_zero (number ops (suc n) ⊗ 𝟙) ⨾ mul_one (number ops (suc n))

    up_only : (x : carrier) → x ⊕ neg 𝟘 ≈ x
    up_only x = add_cong (rfl x) (Derived.neg_zero R) ⨾ add_zero x

    diff_add : (a a' b b' : carrier) → (a ⊕ neg a') ⊕ (b ⊕ neg b') ≈ (a ⊕ b) ⊕ neg (a' ⊕ b')
    diff_add a a' b b' = Derived.add_exchange R a (neg a') b (neg b') ⨾ add_cong (rfl (a ⊕ b)) (symm (Derived.neg_sum R a' b'))

    diff_mul : (a a' b b' : carrier) → (a ⊕ neg a') ⊗ (b ⊕ neg b') ≈ (a ⊗ b ⊕ a' ⊗ b') ⊕ neg (a ⊗ b' ⊕ a' ⊗ b)
    diff_mul a a' b b' =
        Derived.distrib_right R a (neg a') (b ⊕ neg b')
        ⨾ add_cong
        (distrib a b (neg b') ⨾ add_cong (rfl (a ⊗ b)) (Derived.mul_neg R a b'))
        (distrib (neg a') b (neg b') ⨾ add_cong (Derived.neg_mul R a' b) (Derived.neg_mul R a' (neg b') ⨾ neg_cong (Derived.mul_neg R a' b') ⨾ Derived.neg_neg R (a' ⊗ b')) ⨾ add_comm (neg (a' ⊗ b)) (a' ⊗ b'))
        ⨾ diff_add (a ⊗ b) (a ⊗ b') (a' ⊗ b') (a' ⊗ b)

    diff_opp : (a a' : carrier) → neg (a ⊕ neg a') ≈ a' ⊕ neg a
    diff_opp a a' = Derived.neg_sum R a (neg a') ⨾ add_cong (rfl (neg a)) (Derived.neg_neg R a') ⨾ add_comm (neg a) a'

    norm-value : (e : Expression) → diff_value (norm e) ≈ value e
    unfolding diff_value poly_value mono_value number
    norm-value (var i) = up_only ((𝟙 ⊕ 𝟘) ⊗ (at vars i ⊗ 𝟙) ⊕ 𝟘) ⨾ add_zero ((𝟙 ⊕ 𝟘) ⊗ (at vars i ⊗ 𝟙))
        ⨾ mul_cong (add_zero 𝟙) (mul_one (at vars i)) ⨾ Derived.one_mul R (at vars i)
    norm-value (num n) = up_only (poly_value (constant n)) ⨾ constant-value n
    norm-value null = up_only 𝟘
    norm-value unit = up_only ((𝟙 ⊕ 𝟘) ⊗ 𝟙 ⊕ 𝟘) ⨾ add_zero ((𝟙 ⊕ 𝟘) ⊗ 𝟙) ⨾ mul_one (𝟙 ⊕ 𝟘) ⨾ add_zero 𝟙
    norm-value (add e f) =
        add_cong (poly_add-value (norm e).up (norm f).up) (neg_cong (poly_add-value (norm e).down (norm f).down))
        ⨾ symm (diff_add (poly_value (norm e).up) (poly_value (norm e).down) (poly_value (norm f).up) (poly_value (norm f).down))
        ⨾ add_cong (norm-value e) (norm-value f)
    norm-value (mul e f) =
        add_cong
        (poly_add-value (poly_mul (norm e).up (norm f).up) (poly_mul (norm e).down (norm f).down) ⨾ add_cong (poly_mul-value (norm e).up (norm f).up) (poly_mul-value (norm e).down (norm f).down))
        (neg_cong (poly_add-value (poly_mul (norm e).up (norm f).down) (poly_mul (norm e).down (norm f).up) ⨾ add_cong (poly_mul-value (norm e).up (norm f).down) (poly_mul-value (norm e).down (norm f).up)))
        ⨾ symm (diff_mul (poly_value (norm e).up) (poly_value (norm e).down) (poly_value (norm f).up) (poly_value (norm f).down))
        ⨾ mul_cong (norm-value e) (norm-value f)
    norm-value (opp e) =
        symm (diff_opp (poly_value (norm e).up) (poly_value (norm e).down)) ⨾ neg_cong (norm-value e)

    -- two expressions with one normal form have equivalent values
    pub solve : (e f : Expression) → left_form e f ≡ right_form e f → value e ≈ value f
    unfolding diff_value
    solve e f h =
        symm (norm-value e)
        ⨾ Derived.sub_of_add R (poly_value (norm e).up) (poly_value (norm e).down) (poly_value (norm f).up) (poly_value (norm f).down)
        (symm (poly_add-value (norm e).up (norm f).down) ⨾ Derived.of_path R (ap poly_value h) ⨾ poly_add-value (norm f).up (norm e).down)
        ⨾ norm-value f
