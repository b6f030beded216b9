-- Values of polynomials at the origin: the coefficient of 1.
use Rattle.std.proofs.Common.{◌≡◌, ℕ, ◌+◌, ◌*◌, ◌%◌, zero, suc, List, [], ◌∷◌, ◌++◌, length, refl, sym, ap, ◌∙◌, subst, arith}
use Rattle.std.specs.List.{All}
use Rattle.std.proofs.lemmas.List.Elements.{All-head, All-tail}
use native.Mathlib.Nat.{zero-mod}
use Rattle.std.proofs.lemmas.Nat.{mul-mod_first, mul-mod_second}
use Rattle.monomials.specs.Mono.{Monomial, times, total_degree}
use Rattle.monomials.proofs.Exponents.{total_degree-plus}
use Rattle.polys.specs.declared.term.Term.{Term}
use Rattle.polys.specs.Terms.{add, mul, scale, products, one, power}
use Rattle.polys.specs.Ideal.{InIdeal, combination}
use Rattle.polys.proofs.Weights.{weigh, weigh-append, weigh-normal, mod_plus}
use Rattle.polys.proofs.Sums.{weigh-scale}
use Rattle.curve_model.specs.Integral.{lower_sum}

-- 1 at 0, and 0 elsewhere
unfoldable pub is_zero : ℕ → ℕ
is_zero zero = 1
is_zero (suc n) = 0

is_zero-add : (m n : ℕ) → is_zero (m + n) ≡ is_zero m * is_zero n
unfolding is_zero
is_zero-add zero n = let e : 0 + n ≡ n = omega arith in let u : is_zero n ≡ 1 * is_zero n = omega arith in ap is_zero e ∙ u
is_zero-add (suc m) n = let e : suc m + n ≡ suc (m + n) = omega arith in let u : 0 ≡ 0 * is_zero n = omega arith in ap is_zero e ∙ u

-- 1 at the monomial 1 of component 0, and 0 elsewhere
unfoldable pub at_one : Monomial → ℕ
at_one m = is_zero (total_degree m.exponents + m.component)

at_one-times : (m n : Monomial) → at_one (times m n) ≡ at_one m * at_one n
unfolding at_one
at_one-times m n =
    let e : total_degree (times m n).exponents + (times m n).component ≡ (total_degree m.exponents + m.component) + (total_degree n.exponents + n.component) =
    omega (arith, total_degree-plus m.exponents n.exponents) in
    ap is_zero e ∙ is_zero-add (total_degree m.exponents + m.component) (total_degree n.exponents + n.component)

-- the sum of the coefficients of 1
abbrev pub value : List Term → ℕ
value f = weigh at_one f

weigh_times : (k : ℕ) (χ : Monomial → ℕ) (g : List Term) → weigh (λ m. k * χ m) g ≡ k * weigh χ g
unfolding weigh
weigh_times k χ [] = omega arith
weigh_times k χ (u ∷ g) = rw (weigh_times k χ g) (omega arith)

value-scale : (t : Term) (g : List Term) → value (scale t g) ≡ t.coeff * at_one t.mono * value g
value-scale t g =
    weigh-scale at_one t g
    ∙ (λ i. t.coeff * weigh (λ m. at_one-times t.mono m i) g)
    ∙ ap (λ (n : ℕ). t.coeff * n) (weigh_times (at_one t.mono) at_one g)
    ∙ turn t.coeff (at_one t.mono) (value g)
  where
    turn : (a b c : ℕ) → a * (b * c) ≡ a * b * c
    turn a b c = omega arith

value-products : (f g : List Term) → value (products f g) ≡ value f * value g
unfolding weigh
value-products [] g = omega arith
value-products (t ∷ f) g =
    weigh-append at_one (scale t g) (products f g)
    ∙ (λ i. value-scale t g i + value-products f g i)
    ∙ turn (t.coeff * at_one t.mono) (value f) (value g)
  where
    turn : (a b c : ℕ) → a * c + b * c ≡ (a + b) * c
    turn a b c = omega arith

pub value-mul : (p : ℕ) (f g : List Term) → value (mul p f g) % p ≡ (value f * value g) % p
value-mul p f g = weigh-normal p at_one (products f g) ∙ ap (λ (n : ℕ). n % p) (value-products f g)

pub value-add : (p : ℕ) (f g : List Term) → value (add p f g) % p ≡ (value f + value g) % p
value-add p f g = weigh-normal p at_one (f ++ g) ∙ ap (λ (n : ℕ). n % p) (weigh-append at_one f g)

pub value-one : value one ≡ 1
unfolding at_one is_zero weigh
value-one = refl

-- ---- vanishing

-- the value is 0 modulo p
abbrev pub Vanishes : ℕ → List Term → Type 0
Vanishes p f = value f % p ≡ 0

module _ (p : ℕ) where
  pub vanishes_none : Vanishes p []
  unfolding weigh
  vanishes_none = zero-mod p

  pub vanishes_add : (f g : List Term) → Vanishes p f → Vanishes p g → Vanishes p (add p f g)
  vanishes_add f g h k = value-add p f g ∙ mod_plus p (value f) 0 (value g) 0 (h ∙ sym (zero-mod p)) (k ∙ sym (zero-mod p)) ∙ zero-mod p

  pub vanishes_mul : (f g : List Term) → Vanishes p g → Vanishes p (mul p f g)
  vanishes_mul f g h =
      let z : value f * 0 ≡ 0 = omega arith in
      value-mul p f g ∙ sym (mul-mod_second (value f) (value g) p) ∙ ap (λ (n : ℕ). (value f * n) % p) h ∙ ap (λ (n : ℕ). n % p) z ∙ zero-mod p

  pub vanishes_mul_left : (f g : List Term) → Vanishes p f → Vanishes p (mul p f g)
  vanishes_mul_left f g h =
      let z : 0 * value g ≡ 0 = omega arith in
      value-mul p f g ∙ sym (mul-mod_first (value f) (value g) p) ∙ ap (λ (n : ℕ). (n * value g) % p) h ∙ ap (λ (n : ℕ). n % p) z ∙ zero-mod p

  vanishes_combination : (qs gs : List (List Term)) → All (Vanishes p) gs → Vanishes p (combination p qs gs)
  vanishes_combination [] gs h = vanishes_none
  vanishes_combination (q ∷ qs) [] h = vanishes_none
  vanishes_combination (q ∷ qs) (g ∷ gs) h =
      vanishes_add (mul p q g) (combination p qs gs) (vanishes_mul q g (All-head (Vanishes p) g gs h)) (vanishes_combination qs gs (All-tail (Vanishes p) g gs h))

  -- where the generators vanish all members do
  pub vanishes_member : (n : ℕ) (gs : List (List Term)) (f : List Term) → All (Vanishes p) gs → InIdeal p n gs f → Vanishes p f
  vanishes_member n gs f h i = subst (Vanishes p) (sym i.combined) (vanishes_combination i.factors gs h)

  -- the lower part of a monic equation vanishes where e does
  pub vanishes_lower : (a e : List Term) (i : ℕ) (cs : List (List Term)) → Vanishes p e → Vanishes p (lower_sum p a e (suc i) cs)
  vanishes_lower a e i [] h = vanishes_none
  vanishes_lower a e i (c ∷ cs) h =
      vanishes_add (mul p c (mul p (power p e (suc i)) (power p a (length cs)))) (lower_sum p a e (suc (suc i)) cs)
      (vanishes_mul c (mul p (power p e (suc i)) (power p a (length cs)))
      (vanishes_mul_left (power p e (suc i)) (power p a (length cs)) (vanishes_mul_left e (power p e i) h)))
      (vanishes_lower a e (suc i) cs h)

  -- the powers of 1 have the value 1
  pub value-power_one : (n : ℕ) → 1 % p ≡ 1 → value (power p one n) % p ≡ 1
  value-power_one zero h = ap (λ (k : ℕ). k % p) value-one ∙ h
  value-power_one (suc n) h =
      let e : 1 * value (power p one n) ≡ value (power p one n) = omega arith in
      value-mul p one (power p one n)
      ∙ ap (λ (k : ℕ). (k * value (power p one n)) % p) value-one
      ∙ ap (λ (k : ℕ). k % p) e
      ∙ value-power_one n h
