-- The laws of sums and products.
use Rattle.std.proofs.Common.{◌≡◌, ℕ, ◌+◌, ◌*◌, ◌%◌, List, [], ◌∷◌, ◌++◌, refl, sym, ap, ◌∙◌, arith, append_assoc}
use Rattle.monomials.specs.Mono.{Monomial, times}
use Rattle.monomials.proofs.Order.{times_comm, times_assoc}
use Rattle.polys.specs.declared.term.Term.{Term}
use Rattle.polys.specs.Terms.{normal, add, scale, products, mul}
use Rattle.polys.proofs.Weights.{weigh, Alike, weigh-append, weigh-normal, normal_ext, mod_plus}

-- ---- sums

pub normal_normal : (p : ℕ) (f : List Term) → normal p (normal p f) ≡ normal p f
normal_normal p f = normal_ext p (normal p f) f (λ χ. weigh-normal p χ f)

pub alike_append : (p : ℕ) (f f' g g' : List Term) → Alike p f f' → Alike p g g' → Alike p (f ++ g) (f' ++ g')
alike_append p f f' g g' h k χ =
    ap (λ (n : ℕ). n % p) (weigh-append χ f g)
    ∙ mod_plus p (weigh χ f) (weigh χ f') (weigh χ g) (weigh χ g') (h χ) (k χ)
    ∙ ap (λ (n : ℕ). n % p) (sym (weigh-append χ f' g'))

pub add_normal_left : (p : ℕ) (f g : List Term) → add p (normal p f) g ≡ add p f g
add_normal_left p f g =
    normal_ext p (normal p f ++ g) (f ++ g) (alike_append p (normal p f) f g g (λ χ. weigh-normal p χ f) (λ χ. refl))

pub add_normal_right : (p : ℕ) (f g : List Term) → add p f (normal p g) ≡ add p f g
add_normal_right p f g =
    normal_ext p (f ++ normal p g) (f ++ g) (alike_append p f f (normal p g) g (λ χ. refl) (λ χ. weigh-normal p χ g))

pub add_comm : (p : ℕ) (f g : List Term) → add p f g ≡ add p g f
add_comm p f g = normal_ext p (f ++ g) (g ++ f) (λ χ. ap (λ (n : ℕ). n % p) (swap χ))
  where
    swap : (χ : Monomial → ℕ) → weigh χ (f ++ g) ≡ weigh χ (g ++ f)
    swap χ = omega (arith, weigh-append χ f g, weigh-append χ g f)

pub add_assoc : (p : ℕ) (f g h : List Term) → add p (add p f g) h ≡ add p f (add p g h)
add_assoc p f g h =
    add_normal_left p (f ++ g) h ∙ ap (normal p) (append_assoc f g h) ∙ sym (add_normal_right p f (g ++ h))

pub add_medial : (p : ℕ) (a b c d : List Term) → add p (add p a b) (add p c d) ≡ add p (add p a c) (add p b d)
add_medial p a b c d =
    add_assoc p a b (add p c d)
    ∙ ap (add p a) (sym (add_assoc p b c d) ∙ ap (λ w. add p w d) (add_comm p b c) ∙ add_assoc p c b d)
    ∙ sym (add_assoc p a c (add p b d))

-- ---- products

pub weigh-scale : (χ : Monomial → ℕ) (t : Term) (g : List Term) → weigh χ (scale t g) ≡ t.coeff * weigh (λ m. χ (times t.mono m)) g
unfolding weigh
weigh-scale χ t [] = omega arith
weigh-scale χ t (u ∷ g) = rw (weigh-scale χ t g) (omega arith)

pub weigh-products : (χ : Monomial → ℕ) (f g : List Term) → weigh χ (products f g) ≡ weigh (λ m. weigh (λ n. χ (times m n)) g) f
unfolding weigh
weigh-products χ [] g = refl
weigh-products χ (t ∷ f) g =
    weigh-append χ (scale t g) (products f g) ∙ (λ i. weigh-scale χ t g i + weigh-products χ f g i)

weigh_zero : (g : List Term) → weigh (λ m. 0) g ≡ 0
unfolding weigh
weigh_zero [] = refl
weigh_zero (u ∷ g) = omega (arith, weigh_zero g)

weigh_plus : (k : ℕ) (χ ψ : Monomial → ℕ) (g : List Term) → weigh (λ m. k * χ m + ψ m) g ≡ k * weigh χ g + weigh ψ g
unfolding weigh
weigh_plus k χ ψ [] = omega arith
weigh_plus k χ ψ (u ∷ g) = rw (weigh_plus k χ ψ g) (omega arith)

weigh_swap : (F : Monomial → Monomial → ℕ) (f g : List Term) → weigh (λ m. weigh (F m) g) f ≡ weigh (λ n. weigh (λ m. F m n) f) g
unfolding weigh
weigh_swap F [] g = sym (weigh_zero g)
weigh_swap F (t ∷ f) g =
    ap (λ (n : ℕ). t.coeff * weigh (F t.mono) g + n) (weigh_swap F f g)
    ∙ sym (weigh_plus t.coeff (F t.mono) (λ n. weigh (λ m. F m n) f) g)

weigh-products_comm : (χ : Monomial → ℕ) (f g : List Term) → weigh χ (products f g) ≡ weigh χ (products g f)
weigh-products_comm χ f g =
    weigh-products χ f g
    ∙ weigh_swap (λ m n. χ (times m n)) f g
    ∙ (λ i. weigh (λ n. weigh (λ m. χ (times_comm m n i)) f) g)
    ∙ sym (weigh-products χ g f)

pub mul_comm : (p : ℕ) (f g : List Term) → mul p f g ≡ mul p g f
mul_comm p f g = normal_ext p (products f g) (products g f) (λ χ. ap (λ (n : ℕ). n % p) (weigh-products_comm χ f g))

pub mul_normal_left : (p : ℕ) (f g : List Term) → mul p (normal p f) g ≡ mul p f g
mul_normal_left p f g =
    normal_ext p (products (normal p f) g) (products f g)
    (λ χ. ap (λ (n : ℕ). n % p) (weigh-products χ (normal p f) g)
    ∙ weigh-normal p (λ m. weigh (λ n. χ (times m n)) g) f
    ∙ ap (λ (n : ℕ). n % p) (sym (weigh-products χ f g)))

pub mul_normal_right : (p : ℕ) (f g : List Term) → mul p f (normal p g) ≡ mul p f g
mul_normal_right p f g = mul_comm p f (normal p g) ∙ mul_normal_left p g f ∙ mul_comm p g f

weigh-products_assoc : (χ : Monomial → ℕ) (f g h : List Term) → weigh χ (products (products f g) h) ≡ weigh χ (products f (products g h))
weigh-products_assoc χ f g h =
    weigh-products χ (products f g) h
    ∙ weigh-products (λ m. weigh (λ n. χ (times m n)) h) f g
    ∙ (λ i. weigh (λ a. weigh (λ b. weigh (λ n. χ (times_assoc a b n i)) h) g) f)
    ∙ (λ i. weigh (λ a. sym (weigh-products (λ w. χ (times a w)) g h) i) f)
    ∙ sym (weigh-products χ f (products g h))

pub mul_assoc : (p : ℕ) (f g h : List Term) → mul p (mul p f g) h ≡ mul p f (mul p g h)
mul_assoc p f g h =
    mul_normal_left p (products f g) h
    ∙ normal_ext p (products (products f g) h) (products f (products g h)) (λ χ. ap (λ (n : ℕ). n % p) (weigh-products_assoc χ f g h))
    ∙ sym (mul_normal_right p f (products g h))

pub weigh-products_append : (χ : Monomial → ℕ) (f g h : List Term) → weigh χ (products (f ++ g) h) ≡ weigh χ (products f h ++ products g h)
weigh-products_append χ f g h =
    weigh-products χ (f ++ g) h
    ∙ weigh-append (λ m. weigh (λ n. χ (times m n)) h) f g
    ∙ (λ i. sym (weigh-products χ f h) i + sym (weigh-products χ g h) i)
    ∙ sym (weigh-append χ (products f h) (products g h))

pub add-mul : (p : ℕ) (f g h : List Term) → mul p (add p f g) h ≡ add p (mul p f h) (mul p g h)
add-mul p f g h =
    mul_normal_left p (f ++ g) h
    ∙ normal_ext p (products (f ++ g) h) (products f h ++ products g h) (λ χ. ap (λ (n : ℕ). n % p) (weigh-products_append χ f g h))
    ∙ sym (add_normal_left p (products f h) (products g h))
    ∙ sym (add_normal_right p (mul p f h) (products g h))

pub mul-add : (p : ℕ) (f g h : List Term) → mul p f (add p g h) ≡ add p (mul p f g) (mul p f h)
mul-add p f g h =
    mul_comm p f (add p g h) ∙ add-mul p g h f ∙ (λ i. add p (mul_comm p g f i) (mul_comm p h f i))

pub mul_none : (p : ℕ) (f : List Term) → mul p f [] ≡ []
mul_none p f = mul_comm p f []
