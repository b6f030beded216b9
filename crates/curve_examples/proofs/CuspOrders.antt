-- Orders on the cusp, where x is t^2 and y is t^3: the numerator of an integral fraction over d^k has no weight below 4 k.
use Rattle.std.proofs.Common.{◌≡◌, ◌⊎◌, inl, inr, ℕ, ◌+◌, ◌*◌, ◌%◌, ◌<◌, ◌≤◌, zero, suc, List, [], ◌∷◌, length, Bool, true, false, cond, ◌==◌, refl, sym, ap, ap₂, ◌∙◌, subst, arith, eqb-true}
use Rattle.std.specs.List.{All}
use Rattle.std.proofs.lemmas.Bool.{eqb-false}
use Rattle.std.proofs.lemmas.List.Elements.{All-head, All-tail}
use Rattle.std.proofs.lemmas.Nat.{mul-mod_first, mul-mod_second}
use native.Mathlib.Nat.{mod-mod, mul-add-mod_self_left}
use Rattle.comm_ring.proofs.Fields.{residue_field}
use Rattle.monomials.specs.Mono.{Monomial, times}
use Rattle.polys.specs.declared.term.Term.{Term}
use Rattle.polys.specs.Terms.{EachMono, IsAffine, IsPoly, add, mul, power, products, one}
use Rattle.polys.proofs.Weights.{weigh, weigh-append, weigh-normal, mod_plus}
use Rattle.polys.proofs.Sums.{weigh-products}
use Rattle.polys.proofs.Affine.{poly_one, poly_mul, poly_power}
use Rattle.curve_model.specs.Fraction.{Fraction, IsFraction, denominator_power}
use Rattle.curve_model.specs.Integral.{Integral, lower_sum, monic_sum}
use Rattle.curve_model.specs.Examples.{term_of, cusp}
use Rattle.curve_model.proofs.Cusp.{poly_of_term}
use Rattle.curve_model.proofs.OriginPoint.{seven_is_prime}
use Rattle.curve_model.proofs.TwoVariables.{mono_of, exponents_of}
use Rattle.curve_model.proofs.Tests.{on, test, weigh_same, weigh_zero}
use Rattle.curve_model.proofs.CuspWeights.{weights, tests_of_member}

-- ---- sums of coefficients by weights

-- the sum of the coefficients, each times ψ of its weight
abbrev pub sum_at : (ℕ → ℕ) → List Term → ℕ
sum_at ψ f = test (weights ψ) f

weigh_alike : (χ ω : Monomial → ℕ) (f : List Term) → EachMono (IsAffine 2) f → ((i j : ℕ) → χ (mono_of i j) % 7 ≡ ω (mono_of i j) % 7) → weigh χ f % 7 ≡ weigh ω f % 7
unfolding weigh
weigh_alike χ ω [] a h = refl
weigh_alike χ ω (t ∷ f) a h =
    let e = exponents_of t.mono a.0 in
    mod_plus 7 (t.coeff * χ t.mono) (t.coeff * ω t.mono) (weigh χ f) (weigh ω f)
    (sym (mul-mod_second t.coeff (χ t.mono) 7) ∙ ap (λ (n : ℕ). (t.coeff * n) % 7) (ap (λ m. χ m % 7) e.2 ∙ h e.0 e.1 ∙ sym (ap (λ m. ω m % 7) e.2)) ∙ mul-mod_second t.coeff (ω t.mono) 7)
    (weigh_alike χ ω f a.1 h)

pub alike_at : (φ ψ : ℕ → ℕ) (f : List Term) → IsPoly 7 2 f → ((k : ℕ) → φ k % 7 ≡ ψ k % 7) → sum_at φ f % 7 ≡ sum_at ψ f % 7
alike_at φ ψ f h e = weigh_alike (on (weights φ)) (on (weights ψ)) f h.affine (λ i j. e (2 * i + 3 * j))

plus_at : (φ ψ : ℕ → ℕ) (f : List Term) → sum_at (λ k. φ k + ψ k) f ≡ sum_at φ f + sum_at ψ f
unfolding weigh
plus_at φ ψ [] = refl
plus_at φ ψ (t ∷ f) = rw (plus_at φ ψ f) (omega arith)

times_at : (c : ℕ) (ψ : ℕ → ℕ) (f : List Term) → sum_at (λ k. c * ψ k) f ≡ c * sum_at ψ f
unfolding weigh
times_at c ψ [] = omega arith
times_at c ψ (t ∷ f) = rw (times_at c ψ f) (omega arith)

-- 1 at r, and 0 elsewhere
abbrev pub peak : ℕ → ℕ → ℕ
peak r k = cond (k == r) 1 0

pub peak_here : (r k : ℕ) → k ≡ r → peak r k ≡ 1
peak_here r k e = go (k == r) refl
  where
    go : (b : Bool) → (k == r) ≡ b → cond {A = ℕ} b 1 0 ≡ 1
    go true q = refl
    go false q = absurd (eqb-false k r q e)

pub peak_off : (r k : ℕ) → (k ≡ r → ⊥) → peak r k ≡ 0
peak_off r k n = go (k == r) refl
  where
    go : (b : Bool) → (k == r) ≡ b → cond {A = ℕ} b 1 0 ≡ 0
    go true q = absurd (n (eqb-true k r q))
    go false q = refl

-- the values below s, and 0 from s on
pub below : ℕ → (ℕ → ℕ) → ℕ → ℕ
below zero ψ k = 0
below (suc s) ψ k = below s ψ k + peak s k * ψ s

below_high : (s : ℕ) (ψ : ℕ → ℕ) (k : ℕ) → s ≤ k → below s ψ k ≡ 0
unfolding below
below_high zero ψ k l = refl
below_high (suc s) ψ k l =
    let a = below_high s ψ k (omega arith) in
    let b = peak_off s k (λ e. absurd (omega arith)) in
    let z : 0 + 0 * ψ s ≡ 0 = omega arith in
    ap₂ (λ (x y : ℕ). x + y * ψ s) a b ∙ z

below_low : (s : ℕ) (ψ : ℕ → ℕ) (k : ℕ) → k < s → below s ψ k ≡ ψ k
unfolding below
below_low zero ψ k l = absurd (omega arith)
below_low (suc s) ψ k l = go (below_low s ψ k) (k == s) refl
  where
    go : (k < s → below s ψ k ≡ ψ k) → (b : Bool) → (k == s) ≡ b → below s ψ k + peak s k * ψ s ≡ ψ k
    go ih true q =
        let e : k ≡ s = eqb-true k s q in
        let a = below_high s ψ k (omega arith) in
        let b = peak_here s k e in
        let z : 0 + 1 * ψ s ≡ ψ s = omega arith in
        ap₂ (λ (x y : ℕ). x + y * ψ s) a b ∙ z ∙ ap ψ (sym e)
    go ih false q =
        let n = eqb-false k s q in
        let a = ih (strict n) in
        let b = peak_off s k n in
        let z : ψ k + 0 * ψ s ≡ ψ k = omega arith in
        ap₂ (λ (x y : ℕ). x + y * ψ s) a b ∙ z
      where
        strict : (k ≡ s → ⊥) → k < s
        strict n = omega arith

-- ---- orders

-- no weight of f is below r
abbrev pub HasOrder : ℕ → List Term → Type 0
HasOrder r f = (ψ : ℕ → ℕ) → ((k : ℕ) → r ≤ k → ψ k ≡ 0) → sum_at ψ f % 7 ≡ 0

-- φ, and 6 times its values below r, which is 0 modulo 7 there
abbrev upper : ℕ → (ℕ → ℕ) → ℕ → ℕ
upper r φ k = φ k + below r (λ n. 6 * φ n) k

cut : (r : ℕ) (f : List Term) → HasOrder r f → (φ : ℕ → ℕ) → sum_at φ f % 7 ≡ sum_at (upper r φ) f % 7
cut r f o φ =
    let z : sum_at φ f ≡ sum_at φ f + 0 = omega arith in
    ap (λ (n : ℕ). n % 7) z
    ∙ mod_plus 7 (sum_at φ f) (sum_at φ f) 0 (sum_at (below r (λ n. 6 * φ n)) f) refl (sym (o (below r (λ n. 6 * φ n)) (below_high r (λ n. 6 * φ n))))
    ∙ ap (λ (n : ℕ). n % 7) (sym (plus_at φ (below r (λ n. 6 * φ n)) f))

before : (r k : ℕ) → (k < r) ⊎ (r ≤ k)
before zero k = inr (omega arith)
before (suc r) zero = inl (omega arith)
before (suc r) (suc k) = next (before r k)
  where
    next : (k < r) ⊎ (r ≤ k) → (suc k < suc r) ⊎ (suc r ≤ suc k)
    next (inl l) = inl (omega arith)
    next (inr l) = inr (omega arith)

seven : (n : ℕ) → (n + 6 * n) % 7 ≡ 0
seven n = let e : n + 6 * n ≡ 7 * n + 0 = omega arith in ap (λ (k : ℕ). k % 7) e ∙ mul-add-mod_self_left 7 n 0

-- two weights that agree from r on
pub order_same : (r : ℕ) (f : List Term) → IsPoly 7 2 f → HasOrder r f → (φ ψ : ℕ → ℕ) → ((k : ℕ) → r ≤ k → φ k % 7 ≡ ψ k % 7) → sum_at φ f % 7 ≡ sum_at ψ f % 7
order_same r f h o φ ψ e = cut r f o φ ∙ alike_at (upper r φ) (upper r ψ) f h agree ∙ sym (cut r f o ψ)
  where
    agree : (k : ℕ) → upper r φ k % 7 ≡ upper r ψ k % 7
    agree k = go (before r k)
      where
        go : (k < r) ⊎ (r ≤ k) → (φ k + below r (λ n. 6 * φ n) k) % 7 ≡ (ψ k + below r (λ n. 6 * ψ n) k) % 7
        go (inl l) = ap (λ (n : ℕ). (φ k + n) % 7) (below_low r (λ n. 6 * φ n) k l) ∙ seven (φ k) ∙ sym (ap (λ (n : ℕ). (ψ k + n) % 7) (below_low r (λ n. 6 * ψ n) k l) ∙ seven (ψ k))
        go (inr l) = mod_plus 7 (φ k) (ψ k) (below r (λ n. 6 * φ n) k) (below r (λ n. 6 * ψ n) k) (e k l) (ap (λ (n : ℕ). n % 7) (below_high r (λ n. 6 * φ n) k l ∙ sym (below_high r (λ n. 6 * ψ n) k l)))

-- the sum of a product
pub product_at : (ψ : ℕ → ℕ) (f g : List Term) → IsPoly 7 2 f → IsPoly 7 2 g → sum_at ψ (mul 7 f g) % 7 ≡ sum_at (λ v. sum_at (λ k. ψ (v + k)) g) f % 7
product_at ψ f g a b =
    weigh-normal 7 (on (weights ψ)) (products f g)
    ∙ ap (λ (n : ℕ). n % 7) (weigh-products (on (weights ψ)) f g
    ∙ weigh_same (λ m. weigh (λ w. on (weights ψ) (times m w)) g) (on (weights (λ v. sum_at (λ k. ψ (v + k)) g))) f a.affine
    (λ i j. weigh_same (λ w. on (weights ψ) (times (mono_of i j) w)) (on (weights (λ k. ψ ((2 * i + 3 * j) + k)))) g b.affine
    (λ x y. let e : 2 * (i + x) + 3 * (j + y) ≡ (2 * i + 3 * j) + (2 * x + 3 * y) = omega arith in ap ψ e)))

pub order_zero : (f : List Term) → IsPoly 7 2 f → HasOrder 0 f
order_zero f h ψ z = weigh_zero (on (weights ψ)) f h.affine (λ i j. ap (λ (n : ℕ). n % 7) (z (2 * i + 3 * j) (omega arith)))

pub order_less : (r s : ℕ) (f : List Term) → s ≤ r → HasOrder r f → HasOrder s f
order_less r s f l o ψ z = o ψ (λ k h. z k (omega arith))

pub order_product : (r s : ℕ) (f g : List Term) → IsPoly 7 2 f → IsPoly 7 2 g → HasOrder r f → HasOrder s g → HasOrder (r + s) (mul 7 f g)
unfolding weigh
order_product r s f g a b o q ψ z =
    product_at ψ f g a b
    ∙ order_same r f a o (λ v. sum_at (λ k. ψ (v + k)) g) (λ v. 0) (λ v l. q (λ k. ψ (v + k)) (λ k h. z (v + k) (omega arith)))
    ∙ order_zero f a (λ v. 0) (λ k l. refl)

-- the coefficient at the sum of the orders is the product
pub top_product : (r s : ℕ) (f g : List Term) → IsPoly 7 2 f → IsPoly 7 2 g → HasOrder r f → HasOrder s g
    → sum_at (peak (r + s)) (mul 7 f g) % 7 ≡ (sum_at (peak r) f * sum_at (peak s) g) % 7
top_product r s f g a b o q =
    product_at (peak (r + s)) f g a b
    ∙ order_same r f a o (λ v. sum_at (λ k. peak (r + s) (v + k)) g) (λ v. sum_at (peak s) g * peak r v) at
    ∙ ap (λ (n : ℕ). n % 7) (times_at (sum_at (peak s) g) (peak r) f ∙ swap (sum_at (peak s) g) (sum_at (peak r) f))
  where
    swap : (x y : ℕ) → x * y ≡ y * x
    swap x y = omega arith

    at : (v : ℕ) → r ≤ v → sum_at (λ k. peak (r + s) (v + k)) g % 7 ≡ (sum_at (peak s) g * peak r v) % 7
    at v l = go (v == r) refl
      where
        here : v ≡ r → (k : ℕ) → peak (r + s) (v + k) ≡ peak s k
        here e k = go (k == s) refl
          where
            go : (b : Bool) → (k == s) ≡ b → peak (r + s) (v + k) ≡ cond b 1 0
            go true w = let h : k ≡ s = eqb-true k s w in peak_here (r + s) (v + k) (omega arith)
            go false w = let h = eqb-false k s w in peak_off (r + s) (v + k) (λ u. h (omega arith))

        go : (b : Bool) → (v == r) ≡ b → sum_at (λ k. peak (r + s) (v + k)) g % 7 ≡ (sum_at (peak s) g * cond b 1 0) % 7
        go true w =
            let e : v ≡ r = eqb-true v r w in
            let i : sum_at (peak s) g ≡ sum_at (peak s) g * 1 = omega arith in
            alike_at (λ k. peak (r + s) (v + k)) (peak s) g b (λ k. ap (λ (n : ℕ). n % 7) (here e k)) ∙ ap (λ (n : ℕ). n % 7) i
        go false w =
            let n = eqb-false v r w in
            let i : 0 ≡ sum_at (peak s) g * 0 = omega arith in
            q (λ k. peak (r + s) (v + k)) (λ k h. peak_off (r + s) (v + k) (λ u. n (omega arith))) ∙ ap (λ (n : ℕ). n % 7) i

pub order_add : (r : ℕ) (f g : List Term) → HasOrder r f → HasOrder r g → HasOrder r (add 7 f g)
order_add r f g o q ψ z =
    weigh-normal 7 (on (weights ψ)) _ ∙ ap (λ (n : ℕ). n % 7) (weigh-append (on (weights ψ)) f g) ∙ mod_plus 7 (sum_at ψ f) 0 (sum_at ψ g) 0 (o ψ z) (q ψ z)

order_none : (r : ℕ) → HasOrder r []
unfolding weigh
order_none r ψ z = refl

-- a coefficient 0 at the order raises it
pub order_more : (r : ℕ) (f : List Term) → IsPoly 7 2 f → HasOrder r f → sum_at (peak r) f % 7 ≡ 0 → HasOrder (suc r) f
order_more r f h o c ψ z =
    order_same r f h o ψ (λ k. ψ r * peak r k) at
    ∙ ap (λ (n : ℕ). n % 7) (times_at (ψ r) (peak r) f)
    ∙ sym (mul-mod_second (ψ r) (sum_at (peak r) f) 7) ∙ ap (λ (n : ℕ). (ψ r * n) % 7) c ∙ ap (λ (n : ℕ). n % 7) none
  where
    none : ψ r * 0 ≡ 0
    none = omega arith

    at : (k : ℕ) → r ≤ k → ψ k % 7 ≡ (ψ r * peak r k) % 7
    at k l = go (k == r) refl
      where
        go : (b : Bool) → (k == r) ≡ b → ψ k % 7 ≡ (ψ r * cond b 1 0) % 7
        go true w = let i : ψ r ≡ ψ r * 1 = omega arith in ap (λ (n : ℕ). n % 7) (ap ψ (eqb-true k r w) ∙ i)
        go false w = let n = eqb-false k r w in let i : 0 ≡ ψ r * 0 = omega arith in ap (λ (n : ℕ). n % 7) (z k (strict n) ∙ i)
          where
            strict : (k ≡ r → ⊥) → suc r ≤ k
            strict n = omega arith

-- ---- powers

pub order_power : (r n : ℕ) (f : List Term) → IsPoly 7 2 f → HasOrder r f → HasOrder (n * r) (power 7 f n)
order_power r zero f h o = let e : 0 ≡ 0 * r = omega arith in subst (λ k. HasOrder k one) e (order_zero one (poly_one 7 2 (omega arith)))
order_power r (suc n) f h o = let e : r + n * r ≡ suc n * r = omega arith in
    subst (λ k. HasOrder k (mul 7 f (power 7 f n))) e (order_product r (n * r) f (power 7 f n) h (poly_power 7 2 f n (omega arith) h) o (order_power r n f h o))

one_has_top : (r : ℕ) → sum_at (peak (0 * r)) one % 7 ≡ 0 → ⊥
unfolding weigh
one_has_top r c =
    let z : 0 ≡ 0 * r = omega arith in
    let e : 1 ≡ 0 = sym (ap (λ (n : ℕ). (1 * n + 0) % 7) (peak_here (0 * r) 0 z)) ∙ c in
    absurd (omega (arith, e))

-- a power with the coefficient 0 at its order has a base with the coefficient 0
pub top_power : (r n : ℕ) (f : List Term) → IsPoly 7 2 f → HasOrder r f → sum_at (peak (n * r)) (power 7 f n) % 7 ≡ 0 → sum_at (peak r) f % 7 ≡ 0
top_power r zero f h o c = absurd (one_has_top r c)
top_power r (suc n) f h o c = go (top_power r n f h o) ((residue_field 7 seven_is_prime).zero_or_inverse (sum_at (peak r) f))
  where
    split : (sum_at (peak r) f * sum_at (peak (n * r)) (power 7 f n)) % 7 ≡ 0
    split =
        let e : r + n * r ≡ suc n * r = omega arith in
        sym (top_product r (n * r) f (power 7 f n) h (poly_power 7 2 f n (omega arith) h) o (order_power r n f h o)) ∙ ap (λ k. sum_at (peak k) (mul 7 f (power 7 f n)) % 7) e ∙ c

    turn : (a b c : ℕ) → a * (b * c) ≡ (a * b) * c
    turn a b c = omega arith

    go : (sum_at (peak (n * r)) (power 7 f n) % 7 ≡ 0 → sum_at (peak r) f % 7 ≡ 0) → (sum_at (peak r) f % 7 ≡ 0 % 7) ⊎ ((e : ℕ) × ((e * sum_at (peak r) f) % 7) % 7 ≡ 1 % 7) → sum_at (peak r) f % 7 ≡ 0
    go ih (inl z) = z
    go ih (inr (e, i)) =
        let x = sum_at (peak r) f in
        let y = sum_at (peak (n * r)) (power 7 f n) in
        let one_y : 1 * sum_at (peak (n * r)) (power 7 f n) ≡ sum_at (peak (n * r)) (power 7 f n) = omega arith in
        let none : e * 0 ≡ 0 = omega arith in
        ih
        (ap (λ (k : ℕ). k % 7) (sym one_y) ∙ ap (λ (k : ℕ). (k * y) % 7) (sym i ∙ mod-mod (e * x) 7) ∙ mul-mod_first (e * x) y 7
        ∙ ap (λ (k : ℕ). k % 7) (sym (turn e x y)) ∙ sym (mul-mod_second e (x * y) 7) ∙ ap (λ (k : ℕ). (e * k) % 7) split ∙ ap (λ (k : ℕ). k % 7) none)

-- ---- integral fractions

-- the lower terms of a monic equation have a higher order
order_lower : (r : ℕ) (a e : List Term) → IsPoly 7 2 a → IsPoly 7 2 e → HasOrder r a → HasOrder (suc r) e → (i : ℕ) (cs : List (List Term)) → All (IsPoly 7 2) cs
    → HasOrder (suc ((i + length cs) * r)) (lower_sum 7 a e (suc i) cs)
order_lower r a e ha he o q i [] h = order_none (suc ((i + 0) * r))
order_lower r a e ha he o q i (c ∷ cs) h =
    let n : ℕ = length cs in
    let hc = All-head (IsPoly 7 2) c cs h in
    let pe = poly_power 7 2 e (suc i) (omega arith) he in
    let pa = poly_power 7 2 a n (omega arith) ha in
    let first : HasOrder (suc i * suc r + n * r) (mul 7 (power 7 e (suc i)) (power 7 a n)) =
    order_product (suc i * suc r) (n * r) (power 7 e (suc i)) (power 7 a n) pe pa (order_power (suc r) (suc i) e he q) (order_power r n a ha o) in
    let whole : HasOrder (0 + (suc i * suc r + n * r)) (mul 7 c (mul 7 (power 7 e (suc i)) (power 7 a n))) =
    order_product 0 (suc i * suc r + n * r) c (mul 7 (power 7 e (suc i)) (power 7 a n)) hc (poly_mul 7 2 (power 7 e (suc i)) (power 7 a n) (omega arith) pe pa) (order_zero c hc) first in
    let l : suc ((i + suc n) * r) ≤ 0 + (suc i * suc r + n * r) = omega arith in
    let same : (suc i + n) * r ≡ (i + suc n) * r = omega arith in
    order_add (suc ((i + suc n) * r)) (mul 7 c (mul 7 (power 7 e (suc i)) (power 7 a n))) (lower_sum 7 a e (suc (suc i)) cs)
    (order_less (0 + (suc i * suc r + n * r)) (suc ((i + suc n) * r)) (mul 7 c (mul 7 (power 7 e (suc i)) (power 7 a n))) l whole)
    (subst (λ k. HasOrder (suc k) (lower_sum 7 a e (suc (suc i)) cs)) same (order_lower r a e ha he o q (suc i) cs (All-tail (IsPoly 7 2) c cs h)))

square_order : HasOrder 4 (term_of 1 2 0 ∷ [])
unfolding weigh
square_order ψ z = ap (λ (n : ℕ). (1 * n + 0) % 7) (z 4 (omega arith))

square_poly : IsPoly 7 2 (term_of 1 2 0 ∷ [])
square_poly = poly_of_term 1 2 0 (omega arith) (omega arith)

pub denominator_order : (k : ℕ) → HasOrder (k * 4) (denominator_power cusp k)
denominator_order k = order_power 4 k (term_of 1 2 0 ∷ []) square_poly square_order

pub denominator_poly : (k : ℕ) → IsPoly 7 2 (denominator_power cusp k)
denominator_poly k = poly_power 7 2 (term_of 1 2 0 ∷ []) k (omega arith) square_poly

pub integral_order : (f : Fraction) → IsFraction cusp f → Integral cusp f → HasOrder (f.exponent * 4) f.numerator
integral_order f h w = up (f.exponent * 4) (omega arith)
  where
    a : List Term
    a = f.numerator

    e : List Term
    e = denominator_power cusp f.exponent

    n : ℕ
    n = length w.coefficients

    step : (r : ℕ) → suc r ≤ f.exponent * 4 → HasOrder r a → HasOrder (suc r) a
    step r l o =
        let low : HasOrder (suc ((0 + n) * r)) (lower_sum 7 a e 1 w.coefficients) =
        order_lower r a e h (denominator_poly f.exponent) o (order_less (f.exponent * 4) (suc r) e l (denominator_order f.exponent)) 0 w.coefficients w.polys in
        let same : suc ((0 + n) * r) ≡ suc (n * r) = omega arith in
        let none : sum_at (peak (n * r)) (lower_sum 7 a e 1 w.coefficients) % 7 ≡ 0 =
        low (peak (n * r)) (λ k q. peak_off (n * r) k (λ u. absurd (let v : suc ((0 + n) * r) ≤ k = q in omega arith))) in
        let all : sum_at (peak (n * r)) (monic_sum 7 a e w.coefficients) % 7 ≡ 0 = tests_of_member (monic_sum 7 a e w.coefficients) w.equation (peak (n * r)) in
        let plain : sum_at (peak (n * r)) (power 7 a n) ≡ sum_at (peak (n * r)) (power 7 a n) + 0 = omega arith in
        order_more r a h o (top_power r n a h o
        (ap (λ (k : ℕ). k % 7) plain
        ∙ mod_plus 7 (sum_at (peak (n * r)) (power 7 a n)) (sum_at (peak (n * r)) (power 7 a n)) 0 (sum_at (peak (n * r)) (lower_sum 7 a e 1 w.coefficients)) refl (sym none)
        ∙ ap (λ (k : ℕ). k % 7) (sym (weigh-append (on (weights (peak (n * r)))) (power 7 a n) (lower_sum 7 a e 1 w.coefficients)))
        ∙ sym (weigh-normal 7 (on (weights (peak (n * r)))) _)
        ∙ all))

    up : (r : ℕ) → r ≤ f.exponent * 4 → HasOrder r a
    up zero l = order_zero a h
    up (suc r) l = step r l (up r (omega arith))
