-- Expressions read off the terms of a goal: `search quote` finds them.
use Rattle.std.proofs.Common.{◌≡◌, ℕ, zero, suc, ◌+◌, ◌*◌, List, [], ◌∷◌}
use lib.Dec.{T, eqb}
use Rattle.comm_ring.specs.Ring.{CommRing, sub, pow, number}
use Rattle.comm_ring.proofs.Derived as Derived
use Rattle.comm_ring.proofs.Solver.{Expression, solve, value, at, left_form, right_form, agree, agree_sound}
use Rattle.comm_ring.proofs.Solver.Expression.{var, num, null, unit, add, mul, opp}

-- x is one of vars
pub record IsVariable (R : CommRing) (vars : List R.carrier) (x : R.carrier) : Type 0 where
  pub index : ℕ
  pub is : R.◌≈◌ (at R vars index) x

-- x is the value of an expression
pub record Quoted (R : CommRing) (vars : List R.carrier) (x : R.carrier) : Type 0 where
  pub expression : Expression
  pub is : R.◌≈◌ (value R vars expression) x

-- the first variable, and a later one
abbrev pub here : {R : CommRing} {xs : List R.carrier} {x : R.carrier} → IsVariable R (x ∷ xs) x
here {R = R} {x = x} = record { index = 0; is = R.rfl x }

abbrev pub there : {R : CommRing} {xs : List R.carrier} {x y : R.carrier} → IsVariable R xs x → IsVariable R (y ∷ xs) x
there v = record { index = suc v.index; is = v.is }

abbrev pub q_zero : {R : CommRing} {vars : List R.carrier} → Quoted R vars R.𝟘
q_zero {R = R} = record { expression = null; is = R.rfl R.𝟘 }

abbrev pub q_one : {R : CommRing} {vars : List R.carrier} → Quoted R vars R.𝟙
q_one {R = R} = record { expression = unit; is = R.rfl R.𝟙 }

abbrev pub q_number : {R : CommRing} {vars : List R.carrier} (n : ℕ) → Quoted R vars (number R.ops n)
q_number {R = R} n = record { expression = num n; is = R.rfl (number R.ops n) }

abbrev pub q_add : {R : CommRing} {vars : List R.carrier} {x y : R.carrier} → Quoted R vars x → Quoted R vars y → Quoted R vars (R.◌⊕◌ x y)
q_add {R = R} p q = record { expression = add p.expression q.expression; is = R.add_cong p.is q.is }

abbrev pub q_mul : {R : CommRing} {vars : List R.carrier} {x y : R.carrier} → Quoted R vars x → Quoted R vars y → Quoted R vars (R.◌⊗◌ x y)
q_mul {R = R} p q = record { expression = mul p.expression q.expression; is = R.mul_cong p.is q.is }

abbrev pub q_neg : {R : CommRing} {vars : List R.carrier} {x : R.carrier} → Quoted R vars x → Quoted R vars (R.neg x)
q_neg {R = R} p = record { expression = opp p.expression; is = R.neg_cong p.is }

abbrev pub q_sub : {R : CommRing} {vars : List R.carrier} {x y : R.carrier} → Quoted R vars x → Quoted R vars y → Quoted R vars (sub R.ops x y)
q_sub {R = R} p q = record { expression = add p.expression (opp q.expression); is = R.add_cong p.is (R.neg_cong q.is) }

abbrev pub q_pow_zero : {R : CommRing} {vars : List R.carrier} (x : R.carrier) → Quoted R vars (pow R.ops x 0)
q_pow_zero {R = R} x = record { expression = num 1; is = R.trans (Derived.number-one R) (R.symm (Derived.pow-zero R x)) }

abbrev pub q_pow_one : {R : CommRing} {vars : List R.carrier} (x : R.carrier) → Quoted R vars x → Quoted R vars (pow R.ops x 1)
q_pow_one {R = R} x p = record { expression = p.expression; is = R.trans p.is (R.symm (Derived.pow-one R x)) }

abbrev pub q_pow_suc : {R : CommRing} {vars : List R.carrier} (x : R.carrier) (n : ℕ) → Quoted R vars x → Quoted R vars (pow R.ops x n) → Quoted R vars (pow R.ops x (suc n))
q_pow_suc {R = R} x n p q = record { expression = mul p.expression q.expression; is = R.trans (R.mul_cong p.is q.is) (R.symm (Derived.pow-suc R x n)) }

abbrev pub q_pow_add : {R : CommRing} {vars : List R.carrier} (x : R.carrier) (m n : ℕ) → Quoted R vars (pow R.ops x m) → Quoted R vars (pow R.ops x n) → Quoted R vars (pow R.ops x (m + n))
q_pow_add {R = R} x m n p q = record { expression = mul p.expression q.expression; is = R.trans (R.mul_cong p.is q.is) (R.symm (Derived.pow-add R x m n)) }

abbrev pub q_mul_pow : {R : CommRing} {vars : List R.carrier} (x y : R.carrier) (n : ℕ) → Quoted R vars (pow R.ops x n) → Quoted R vars (pow R.ops y n) → Quoted R vars (pow R.ops (R.◌⊗◌ x y) n)
q_mul_pow {R = R} x y n p q = record { expression = mul p.expression q.expression; is = R.trans (R.mul_cong p.is q.is) (R.symm (Derived.mul-pow R x y n)) }

abbrev pub q_pow_pow : {R : CommRing} {vars : List R.carrier} (x : R.carrier) (m n : ℕ) → Quoted R vars (pow R.ops x (m * n)) → Quoted R vars (pow R.ops (pow R.ops x m) n)
q_pow_pow {R = R} x m n p = record { expression = p.expression; is = R.trans p.is (Derived.pow-mul R x m n) }

-- a product of n equal factors
abbrev pub power : Expression → ℕ → Expression
power e zero = num 1
power e (suc n) = mul e (power e n)

-- its value is the power
pub power-value : (R : CommRing) (vars : List R.carrier) (e : Expression) (n : ℕ) → R.◌≈◌ (value R vars (power e n)) (pow R.ops (value R vars e) n)
power-value R vars e zero = R.trans (Derived.number-one R) (R.symm (Derived.pow-zero R (value R vars e)))
power-value R vars e (suc n) = R.trans (R.mul_cong (R.rfl (value R vars e)) (power-value R vars e n)) (R.symm (Derived.pow-suc R (value R vars e) n))

-- a power at a numeral: only there does the test compute
abbrev pub q_pow : {R : CommRing} {vars : List R.carrier} (x : R.carrier) (n : ℕ) → T (eqb n n) → Quoted R vars x → Quoted R vars (pow R.ops x n)
q_pow {R = R} {vars = vars} x n t p = record { expression = power p.expression n; is = R.trans (power-value R vars p.expression n) (Derived.pow_cong R n p.is) }

abbrev pub q_0 : {R : CommRing} {xs : List R.carrier} {a : R.carrier} → Quoted R (a ∷ xs) a
q_0 {R = R} {a = a} = record { expression = var 0; is = R.rfl a }

abbrev pub q_1 : {R : CommRing} {xs : List R.carrier} {a b : R.carrier} → Quoted R (a ∷ (b ∷ xs)) b
q_1 {R = R} {b = b} = record { expression = var 1; is = R.rfl b }

abbrev pub q_2 : {R : CommRing} {xs : List R.carrier} {a b c : R.carrier} → Quoted R (a ∷ (b ∷ (c ∷ xs))) c
q_2 {R = R} {c = c} = record { expression = var 2; is = R.rfl c }

abbrev pub q_3 : {R : CommRing} {xs : List R.carrier} {a b c d : R.carrier} → Quoted R (a ∷ (b ∷ (c ∷ (d ∷ xs)))) d
q_3 {R = R} {d = d} = record { expression = var 3; is = R.rfl d }

abbrev pub q_4 : {R : CommRing} {xs : List R.carrier} {a b c d e : R.carrier} → Quoted R (a ∷ (b ∷ (c ∷ (d ∷ (e ∷ xs))))) e
q_4 {R = R} {e = e} = record { expression = var 4; is = R.rfl e }

abbrev pub q_5 : {R : CommRing} {xs : List R.carrier} {a b c d e f : R.carrier} → Quoted R (a ∷ (b ∷ (c ∷ (d ∷ (e ∷ (f ∷ xs)))))) f
q_5 {R = R} {f = f} = record { expression = var 5; is = R.rfl f }

abbrev pub q_6 : {R : CommRing} {xs : List R.carrier} {a b c d e f g : R.carrier} → Quoted R (a ∷ (b ∷ (c ∷ (d ∷ (e ∷ (f ∷ (g ∷ xs))))))) g
q_6 {R = R} {g = g} = record { expression = var 6; is = R.rfl g }

abbrev pub q_7 : {R : CommRing} {xs : List R.carrier} {a b c d e f g h : R.carrier} → Quoted R (a ∷ (b ∷ (c ∷ (d ∷ (e ∷ (f ∷ (g ∷ (h ∷ xs)))))))) h
q_7 {R = R} {h = h} = record { expression = var 7; is = R.rfl h }

abbrev pub q_more : {R : CommRing} {xs : List R.carrier} {a b c d e f g h x : R.carrier} → IsVariable R xs x → Quoted R (a ∷ (b ∷ (c ∷ (d ∷ (e ∷ (f ∷ (g ∷ (h ∷ xs)))))))) x
q_more v = record { expression = var (suc (suc (suc (suc (suc (suc (suc (suc v.index)))))))); is = v.is }

-- both sides of an equation
pub record Sides (R : CommRing) (vars : List R.carrier) (x y : R.carrier) : Type 0 where
  pub left : Quoted R vars x
  pub right : Quoted R vars y

-- both sides are read
abbrev pub sides : {R : CommRing} {vars : List R.carrier} {x y : R.carrier} → Quoted R vars x → Quoted R vars y → Sides R vars x y
sides p q = record { left = p; right = q }

-- the forms of a goal's terms, the variables last
pub ruleset quote = (sides, q_add, q_mul, q_sub, q_neg, q_zero, q_one, q_number, q_0, q_1, q_2, q_3, q_4, q_5, q_6, q_7, q_more, here, there, q_pow_add, q_pow_one, q_pow_zero, q_pow_suc, q_pow, q_mul_pow, q_pow_pow)

-- both sides have one normal form; a hole as the last argument shows the two forms
pub ring_refl : (R : CommRing) (vars : List R.carrier) {x y : R.carrier} (s : Sides R vars x y) → left_form s.left.expression s.right.expression ≡ right_form s.left.expression s.right.expression → R.◌≈◌ x y
ring_refl R vars s h = R.trans (R.symm s.left.is) (R.trans (solve R vars s.left.expression s.right.expression h) s.right.is)

-- the last argument is `tt`
pub ring : (R : CommRing) (vars : List R.carrier) {x y : R.carrier} (s : Sides R vars x y) → T (agree s.left.expression s.right.expression) → R.◌≈◌ x y
ring R vars s t = ring_refl R vars s (agree_sound s.left.expression s.right.expression t)

-- an equation that holds, and what it is multiplied by
pub record Fact (R : CommRing) : Type 0 where
  pub times : R.carrier
  pub left : R.carrier
  pub right : R.carrier
  pub is : R.◌≈◌ left right

-- a hypothesis with its factor
abbrev pub fact : {R : CommRing} (c l r : R.carrier) → R.◌≈◌ l r → Fact R
fact c l r e = record { times = c; left = l; right = r; is = e }

-- x with the left, and with the right, sides of the facts added
abbrev pub add_lefts : (R : CommRing) → R.carrier → List (Fact R) → R.carrier
add_lefts R x [] = x
add_lefts R x (f ∷ fs) = add_lefts R (R.◌⊕◌ x (R.◌⊗◌ f.times f.left)) fs

abbrev pub add_rights : (R : CommRing) → R.carrier → List (Fact R) → R.carrier
add_rights R x [] = x
add_rights R x (f ∷ fs) = add_rights R (R.◌⊕◌ x (R.◌⊗◌ f.times f.right)) fs

add_same : (R : CommRing) (fs : List (Fact R)) (x y : R.carrier) → R.◌≈◌ (add_rights R x fs) (add_lefts R y fs) → R.◌≈◌ x y
add_same R [] x y h = h
add_same R (f ∷ fs) x y h = Derived.add_right_cancel R x y (R.◌⊗◌ f.times f.right)
    (R.trans (add_same R fs (R.◌⊕◌ x (R.◌⊗◌ f.times f.right)) (R.◌⊕◌ y (R.◌⊗◌ f.times f.left)) h) (R.add_cong (R.rfl y) (R.mul_cong (R.rfl f.times) f.is)))

-- x - y is the sum of times * (left - right) over the facts
pub ring_by : (R : CommRing) (vars : List R.carrier) (fs : List (Fact R)) {x y : R.carrier} (s : Sides R vars (add_rights R x fs) (add_lefts R y fs)) →
    T (agree s.left.expression s.right.expression) → R.◌≈◌ x y
ring_by R vars fs {x = x} {y = y} s h = add_same R fs x y (ring R vars s h)
