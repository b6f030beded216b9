-- Multiples by numbers, and products with one term.
use Rattle.std.proofs.Common.{◌≡◌, ℕ, ◌+◌, ◌*◌, ◌%◌, List, [], ◌∷◌, ◌++◌, sym, ap, ◌∙◌, arith}
use native.Mathlib.Nat.{mod-mod}
use Rattle.monomials.specs.Mono.{Monomial, times, unit}
use Rattle.polys.specs.declared.term.Term.{Term}
use Rattle.polys.specs.Terms.{EachMono, normal, add, scaled, multiple, products, mul}
use Rattle.polys.proofs.Weights.{weigh, Alike, weigh-append, weigh-normal, normal_ext, mod_plus, mod_times}
use Rattle.polys.proofs.Sums.{mul_assoc, mul_comm, mul_normal_left, mul_normal_right, weigh-products}
use Rattle.polys.proofs.Units.{weigh-scaled}
use Rattle.polys.proofs.Products.{mul-append}
use Rattle.polys.proofs.Leads.{Seven}
use Rattle.polys.proofs.Affine.{mul_constant}

-- ---- multiples by numbers

pub weigh-multiple : (p c : ℕ) (χ : Monomial → ℕ) (f : List Term) → weigh χ (multiple p c f) % p ≡ (c * weigh χ f) % p
weigh-multiple p c χ f = weigh-normal p χ (scaled c f) ∙ ap (λ (n : ℕ). n % p) (weigh-scaled χ c f)

pub multiple-add : (p c : ℕ) (f g : List Term) → multiple p c (add p f g) ≡ add p (multiple p c f) (multiple p c g)
multiple-add p c f g = normal_ext p (scaled c (add p f g)) (multiple p c f ++ multiple p c g) same
  where
    same : Alike p (scaled c (add p f g)) (multiple p c f ++ multiple p c g)
    same χ =
        let parts : c * (weigh χ f + weigh χ g) ≡ c * weigh χ f + c * weigh χ g = omega arith in
        ap (λ (n : ℕ). n % p) (weigh-scaled χ c (add p f g))
        ∙ mod_times p c (weigh χ (add p f g)) (weigh χ f + weigh χ g) (weigh-normal p χ (f ++ g) ∙ ap (λ (n : ℕ). n % p) (weigh-append χ f g))
        ∙ ap (λ (n : ℕ). n % p) parts
        ∙ sym (mod_plus p (weigh χ (multiple p c f)) (c * weigh χ f) (weigh χ (multiple p c g)) (c * weigh χ g) (weigh-multiple p c χ f) (weigh-multiple p c χ g))
        ∙ ap (λ (n : ℕ). n % p) (sym (weigh-append χ (multiple p c f) (multiple p c g)))

pub multiple-mul : (p c : ℕ) (q g : List Term) → mul p (multiple p c q) g ≡ multiple p c (mul p q g)
multiple-mul p c q g = mul_normal_left p (scaled c q) g ∙ normal_ext p (products (scaled c q) g) (scaled c (mul p q g)) same
  where
    same : Alike p (products (scaled c q) g) (scaled c (mul p q g))
    same χ =
        ap (λ (n : ℕ). n % p) (weigh-products χ (scaled c q) g ∙ weigh-scaled (λ m. weigh (λ n. χ (times m n)) g) c q ∙ ap (λ (n : ℕ). c * n) (sym (weigh-products χ q g)))
        ∙ mod_times p c (weigh χ (products q g)) (weigh χ (mul p q g)) (sym (weigh-normal p χ (products q g)))
        ∙ ap (λ (n : ℕ). n % p) (sym (weigh-scaled χ c (mul p q g)))

pub multiple_multiple : (p a c : ℕ) (f : List Term) → multiple p a (multiple p c f) ≡ multiple p (a * c) f
multiple_multiple p a c f = normal_ext p (scaled a (multiple p c f)) (scaled (a * c) f) same
  where
    same : Alike p (scaled a (multiple p c f)) (scaled (a * c) f)
    same χ =
        let assoc : a * (c * weigh χ f) ≡ (a * c) * weigh χ f = omega arith in
        ap (λ (n : ℕ). n % p) (weigh-scaled χ a (multiple p c f))
        ∙ mod_times p a (weigh χ (multiple p c f)) (c * weigh χ f) (weigh-multiple p c χ f)
        ∙ ap (λ (n : ℕ). n % p) (assoc ∙ sym (weigh-scaled χ (a * c) f))

pub multiple_residue : (p c d : ℕ) (f : List Term) → c % p ≡ d % p → multiple p c f ≡ multiple p d f
multiple_residue p c d f e = normal_ext p (scaled c f) (scaled d f) same
  where
    same : Alike p (scaled c f) (scaled d f)
    same χ =
        let x : c * weigh χ f ≡ weigh χ f * c = omega arith in
        let y : weigh χ f * d ≡ d * weigh χ f = omega arith in
        ap (λ (n : ℕ). n % p) (weigh-scaled χ c f ∙ x) ∙ mod_times p (weigh χ f) c d e ∙ ap (λ (n : ℕ). n % p) (y ∙ sym (weigh-scaled χ d f))

pub multiple_one : (p : ℕ) (f : List Term) → multiple p 1 f ≡ normal p f
multiple_one p f = normal_ext p (scaled 1 f) f (λ χ. let x : 1 * weigh χ f ≡ weigh χ f = omega arith in ap (λ (n : ℕ). n % p) (weigh-scaled χ 1 f ∙ x))

pub multiple_zero : (p : ℕ) (f : List Term) → multiple p 0 f ≡ []
unfolding weigh
multiple_zero p f = normal_ext p (scaled 0 f) [] (λ χ. let x : 0 * weigh χ f ≡ 0 = omega arith in ap (λ (n : ℕ). n % p) (weigh-scaled χ 0 f ∙ x))

pub multiple-normal : (p c : ℕ) (f : List Term) → multiple p c (normal p f) ≡ multiple p c f
multiple-normal p c f =
    normal_ext p (scaled c (normal p f)) (scaled c f)
    (λ χ. ap (λ (n : ℕ). n % p) (weigh-scaled χ c (normal p f)) ∙ mod_times p c (weigh χ (normal p f)) (weigh χ f) (weigh-normal p χ f) ∙ ap (λ (n : ℕ). n % p) (sym (weigh-scaled χ c f)))

-- ---- products with a term

abbrev pub term_times : Term → Term → Term
term_times t u = record { coeff = t.coeff * u.coeff; mono = times t.mono u.mono }

pub mul_terms : (p : ℕ) (f : List Term) (t u : Term) → mul p (mul p f (t ∷ [])) (u ∷ []) ≡ mul p f (term_times t u ∷ [])
mul_terms p f t u = mul_assoc p f (t ∷ []) (u ∷ []) ∙ mul_normal_right p f (term_times t u ∷ [])

-- one coefficient may stand for another that has its residue
pub mul_residue : (p c d : ℕ) (m : Monomial) (f : List Term) → c % p ≡ d % p → mul p f (record { coeff = c; mono = m } ∷ []) ≡ mul p f (record { coeff = d; mono = m } ∷ [])
unfolding weigh
mul_residue p c d m f e =
    sym (mul_normal_right p f (record { coeff = c; mono = m } ∷ []))
    ∙ ap (mul p f) (normal_ext p (record { coeff = c; mono = m } ∷ []) (record { coeff = d; mono = m } ∷ []) same)
    ∙ mul_normal_right p f (record { coeff = d; mono = m } ∷ [])
  where
    turned : (χ : Monomial → ℕ) (c : ℕ) → (c * χ m + 0) % p ≡ (χ m * c) % p
    turned χ c = let q : c * χ m + 0 ≡ χ m * c = omega arith in ap (λ (n : ℕ). n % p) q

    same : Alike p (record { coeff = c; mono = m } ∷ []) (record { coeff = d; mono = m } ∷ [])
    same χ = turned χ c ∙ mod_times p (χ m) c d e ∙ sym (turned χ d)

-- two terms with one monomial
pub mul_two : (p c d : ℕ) (m : Monomial) (f : List Term)
    → add p (mul p f (record { coeff = c; mono = m } ∷ [])) (mul p f (record { coeff = d; mono = m } ∷ [])) ≡ mul p f (record { coeff = (c + d) % p; mono = m } ∷ [])
unfolding weigh
mul_two p c d m f =
    sym (mul-append p f (record { coeff = c; mono = m } ∷ []) (record { coeff = d; mono = m } ∷ []))
    ∙ sym (mul_normal_right p f (record { coeff = c; mono = m } ∷ record { coeff = d; mono = m } ∷ []))
    ∙ ap (mul p f) (normal_ext p (record { coeff = c; mono = m } ∷ record { coeff = d; mono = m } ∷ []) (record { coeff = c + d; mono = m } ∷ []) same)
    ∙ mul_normal_right p f (record { coeff = c + d; mono = m } ∷ [])
    ∙ mul_residue p (c + d) ((c + d) % p) m f (sym (mod-mod (c + d) p))
  where
    same : Alike p (record { coeff = c; mono = m } ∷ record { coeff = d; mono = m } ∷ []) (record { coeff = c + d; mono = m } ∷ [])
    same χ = let q : c * χ m + (d * χ m + 0) ≡ (c + d) * χ m + 0 = omega arith in ap (λ (n : ℕ). n % p) q

-- the number times a term of a product
pub multiple_term : (p c : ℕ) (f : List Term) (t : Term) → multiple p c (mul p f (t ∷ [])) ≡ mul p f (record { coeff = c * t.coeff; mono = t.mono } ∷ [])
multiple_term p c f t =
    ap (multiple p c) (mul_comm p f (t ∷ []))
    ∙ sym (multiple-mul p c (t ∷ []) f)
    ∙ mul_normal_left p (record { coeff = c * t.coeff; mono = t.mono } ∷ []) f
    ∙ mul_comm p (record { coeff = c * t.coeff; mono = t.mono } ∷ []) f

pub mul_number : (p c : ℕ) (f : List Term) → EachMono Seven f → mul p f (record { coeff = c; mono = unit } ∷ []) ≡ multiple p c f
mul_number p c f h =
    mul_comm p f (record { coeff = c; mono = unit } ∷ [])
    ∙ sym (mul_normal_left p (record { coeff = c; mono = unit } ∷ []) f)
    ∙ mul_constant p c f h
