-- The loops that multiply each term by a residue or by a term.
use Rattle.std.proofs.Common.{◌≡◌, ℕ, ◌+◌, ◌*◌, ◌%◌, ◌<◌, ◌≤◌, ◌^◌, zero, suc, List, [], ◌∷◌, ◌++◌, map, length, take, drop, get_or, refl, sym, ap, ◌∙◌, arith, append-nil, mul-le-mul_right, take-append-drop}
use native.Mathlib.Nat.{mod-eq_of_lt, mod-lt, zero-mod}
use Rattle.std.proofs.lemmas.Nat.{mul-mod_first}
use Rattle.std.proofs.lemmas.List.{take_more, map-append}
use Rattle.monomials.specs.Mono.{Monomial, IsMono, times, total_degree}
use Rattle.monomials.proofs.Order.{cmp_dp-times}
use Rattle.prime_field.specs.Primes.{IsPrime}
use Rattle.polys.specs.declared.term.Term.{Term}
use Rattle.polys.specs.Terms.{Under, IsCanonical, EachMono, add, scaled, multiple, scale, products, mul, degree_of}
use Rattle.polys.specs.Poly.{IsVector}
use Rattle.polys.proofs.Weights.{weigh, Alike, canon, normal_same, normal_ext, mod_plus}
use Rattle.polys.proofs.Sums.{mul_comm, weigh-products_append, weigh-scale, add_normal_left, add_normal_right}
use Rattle.polys.proofs.Each.{every_more, every_take, every_drop}
use Rattle.polys.proofs.Field.{no_zero_divisors}
use Rattle.polys.proofs.Leads.{Seven}

-- a product of residues that are not 0 is not 0
pub pos_product : (p a b : ℕ) → IsPrime p → 0 < a → a < p → 0 < b → b < p → 0 < (a * b) % p
pos_product p a b prime ha la hb lb = go ((a * b) % p) refl
  where
    go : (r : ℕ) → (a * b) % p ≡ r → 0 < r
    go zero e = let z : b ≡ 0 = sym (mod-eq_of_lt lb) ∙ no_zero_divisors p prime a b ha la e in absurd (omega arith)
    go (suc r) e = omega arith

-- ---- by a residue

abbrev pub times_residue : ℕ → ℕ → Term → Term
times_residue p c t = record { coeff = (c * t.coeff) % p; mono = t.mono }

alike_residue : (p c : ℕ) (f : List Term) → Alike p (map (times_residue p c) f) (scaled c f)
unfolding weigh
alike_residue p c [] χ = refl
alike_residue p c (t ∷ f) χ =
    mod_plus p (((c * t.coeff) % p) * χ t.mono) (c * t.coeff * χ t.mono) (weigh χ (map (times_residue p c) f)) (weigh χ (scaled c f))
    (mul-mod_first (c * t.coeff) (χ t.mono) p) (alike_residue p c f χ)

pub canonical_residue : (p c : ℕ) (f : List Term) → IsPrime p → 0 < c → c < p → IsCanonical p f → IsCanonical p (map (times_residue p c) f)
canonical_residue p c [] prime h l k = tt
canonical_residue p c (t ∷ f) prime h l k =
    (pos_product p c t.coeff prime h l k.0 k.1, mod-lt (c * t.coeff) (omega arith), under f k.2, canonical_residue p c f prime h l k.3)
  where
    under : (g : List Term) → Under t.mono g → Under t.mono (map (times_residue p c) g)
    under [] u = tt
    under (v ∷ g) u = u

pub multiple_by_residue : (p c : ℕ) (f : List Term) → IsPrime p → 0 < c → c < p → IsCanonical p f → map (times_residue p c) f ≡ multiple p c f
multiple_by_residue p c f prime h l k =
    sym (normal_same p (map (times_residue p c) f) (canon p (map (times_residue p c) f) (canonical_residue p c f prime h l k)))
    ∙ normal_ext p (map (times_residue p c) f) (scaled c f) (alike_residue p c f)

pub residue_vector : (p c : ℕ) (f : List Term) → IsPrime p → 0 < c → c < p → IsVector p f → IsVector p (map (times_residue p c) f)
residue_vector p c f prime h l k = record { canonical = canonical_residue p c f prime h l k.canonical; monos = monos f k.monos }
  where
    monos : (g : List Term) → EachMono IsMono g → EachMono IsMono (map (times_residue p c) g)
    monos [] e = tt
    monos (t ∷ g) e = (e.0, monos g e.1)

-- ---- by a term

abbrev pub times_term : ℕ → Term → Term → Term
times_term p t u = record { coeff = (u.coeff * t.coeff) % p; mono = times u.mono t.mono }

alike_term : (p : ℕ) (t : Term) (f : List Term) → Alike p (map (times_term p t) f) (products f (t ∷ []))
unfolding weigh
alike_term p t [] χ = refl
alike_term p t (u ∷ f) χ =
    mod_plus p (((u.coeff * t.coeff) % p) * χ (times u.mono t.mono)) (u.coeff * t.coeff * χ (times u.mono t.mono)) (weigh χ (map (times_term p t) f)) (weigh χ (products f (t ∷ [])))
    (mul-mod_first (u.coeff * t.coeff) (χ (times u.mono t.mono)) p) (alike_term p t f χ)

pub canonical_term : (p : ℕ) (t : Term) (f : List Term) → IsPrime p → 0 < t.coeff → t.coeff < p → IsCanonical p f → EachMono Seven f → IsCanonical p (map (times_term p t) f)
canonical_term p t [] prime h l k s = tt
canonical_term p t (u ∷ f) prime h l k s =
    (pos_product p u.coeff t.coeff prime k.0 k.1 h l, mod-lt (u.coeff * t.coeff) (omega arith), under f k.2 s.1, canonical_term p t f prime h l k.3 s.1)
  where
    under : (g : List Term) → Under u.mono g → EachMono Seven g → Under (times u.mono t.mono) (map (times_term p t) g)
    under [] e z = tt
    under (v ∷ g) e z = cmp_dp-times u.mono v.mono t.mono (s.0 ∙ sym z.0) ∙ e

pub product_by_term : (p : ℕ) (t : Term) (f : List Term) → IsPrime p → 0 < t.coeff → t.coeff < p → IsCanonical p f → EachMono Seven f
    → map (times_term p t) f ≡ mul p f (t ∷ [])
product_by_term p t f prime h l k s =
    sym (normal_same p (map (times_term p t) f) (canon p (map (times_term p t) f) (canonical_term p t f prime h l k s)))
    ∙ normal_ext p (map (times_term p t) f) (products f (t ∷ [])) (alike_term p t f)

pub sevens : (f : List Term) → EachMono IsMono f → EachMono Seven f
sevens f h = every_more IsMono Seven f (λ m k. k.seven) h

-- ---- by a list that was cut

-- one more item of a loop that maps
pub map_more : (g : Term → Term) (s out more : List Term) (i : ℕ) (u x : Term) → i < length s → u ≡ get_or s i u
    → out ≡ map g (take i s) → x ≡ g u → more ≡ out ++ x ∷ [] → more ≡ map g (take (i + 1) s)
map_more g s out more i u x h is so e m =
    m
    ∙ (λ k. so k ++ e k ∷ [])
    ∙ sym (map-append g (take i s) (u ∷ []))
    ∙ ap (λ v. map g (take i s ++ v ∷ [])) is
    ∙ ap (map g) (sym (take_more s i u h))

pub degree_at : (f : List Term) (i : ℕ) (t : Term) → i < length f → t ≡ get_or f i t → total_degree t.mono.exponents ≤ degree_of f
degree_at [] i t h e = absurd (omega arith)
degree_at (x ∷ f) zero t h e = let q : total_degree t.mono.exponents ≡ total_degree x.mono.exponents = ap (λ w. total_degree w.mono.exponents) e in omega arith
degree_at (x ∷ f) (suc i) t h e = let ih = degree_at f i t (omega arith) e in omega arith

pub degree_of-take : (f : List Term) (i : ℕ) → degree_of (take i f) ≤ degree_of f
degree_of-take f zero = omega arith
degree_of-take [] (suc i) = omega arith
degree_of-take (t ∷ f) (suc i) = let ih = degree_of-take f i in omega arith

pub degree_of-drop : (f : List Term) (i : ℕ) → degree_of (drop i f) ≤ degree_of f
degree_of-drop f zero = omega arith
degree_of-drop [] (suc i) = omega arith
degree_of-drop (t ∷ f) (suc i) = let ih = degree_of-drop f i in omega arith

pub canonical_take : (p i : ℕ) (f : List Term) → IsCanonical p f → IsCanonical p (take i f)
canonical_take p zero f h = tt
canonical_take p (suc i) [] h = tt
canonical_take p (suc i) (t ∷ f) h = (h.0, h.1, under i f h.2, canonical_take p i f h.3)
  where
    under : (j : ℕ) (g : List Term) → Under t.mono g → Under t.mono (take j g)
    under zero g u = tt
    under (suc j) [] u = tt
    under (suc j) (v ∷ g) u = u

pub canonical_drop : (p i : ℕ) (f : List Term) → IsCanonical p f → IsCanonical p (drop i f)
canonical_drop p zero f h = h
canonical_drop p (suc i) [] h = tt
canonical_drop p (suc i) (t ∷ f) h = canonical_drop p i f h.3

pub mul-append : (p : ℕ) (f g h : List Term) → mul p f (g ++ h) ≡ add p (mul p f g) (mul p f h)
mul-append p f g h =
    mul_comm p f (g ++ h)
    ∙ normal_ext p (products (g ++ h) f) (products g f ++ products h f) (λ χ. ap (λ (n : ℕ). n % p) (weigh-products_append χ g h f))
    ∙ sym (add_normal_left p (products g f) (products h f))
    ∙ sym (add_normal_right p (mul p g f) (products h f))
    ∙ (λ i. add p (mul_comm p g f i) (mul_comm p h f i))

-- ---- the size of a product of residues

pub product_below : (p a b : ℕ) → p ≤ 32003 → a < p → b < p → a * b < 2 ^ 32
product_below p a b h ha hb =
    let x : a * b ≤ 32003 * b = mul-le-mul_right b (omega arith) in
    omega arith

pub vector_take : (p i : ℕ) (f : List Term) → IsVector p f → IsVector p (take i f)
vector_take p i f h = record { canonical = canonical_take p i f h.canonical; monos = every_take IsMono i f h.monos }

pub vector_drop : (p i : ℕ) (f : List Term) → IsVector p f → IsVector p (drop i f)
vector_drop p i f h = record { canonical = canonical_drop p i f h.canonical; monos = every_drop IsMono i f h.monos }

-- a product whose second factor was cut
pub mul_halves : (p i : ℕ) (f g low high : List Term) → low ≡ mul p f (take i g) → high ≡ mul p f (drop i g) → add p low high ≡ mul p f g
mul_halves p i f g low high l h =
    (λ k. add p (l k) (h k)) ∙ sym (mul-append p f (take i g) (drop i g)) ∙ ap (mul p f) (take-append-drop i g)

pub none_from_length : (f : List Term) → length f ≡ 0 → f ≡ []
none_from_length [] e = refl
none_from_length (t ∷ f) e = absurd (omega arith)

-- a term with the coefficient 0
pub mul_by_none : (p : ℕ) (t : Term) (f : List Term) → t.coeff ≡ 0 → mul p f (t ∷ []) ≡ []
unfolding weigh
mul_by_none p t f z = mul_comm p f (t ∷ []) ∙ normal_ext p (scale t f ++ []) [] (λ χ. ap (λ (n : ℕ). n % p) (nothing χ))
  where
    nothing : (χ : Monomial → ℕ) → weigh χ (scale t f ++ []) ≡ 0
    nothing χ = rw (append-nil (scale t f), weigh-scale χ t f, z) (omega arith)

-- a residue whose product with another is 1 is not 0
pub inverse_positive : (a b p : ℕ) → (a * b) % p ≡ 1 → 0 < b
inverse_positive a zero p e =
    let z : a * 0 ≡ 0 = omega arith in
    let n : 0 ≡ 1 = sym (zero-mod p) ∙ ap (λ (n : ℕ). n % p) (sym z) ∙ e in
    absurd (omega arith)
inverse_positive a (suc b) p e = omega arith
