-- Leads of products.
use Rattle.std.proofs.Common.{◌≡◌, ℕ, ◌*◌, ◌%◌, ◌<◌, ◌⊎◌, inl, inr, List, [], ◌∷◌, ◌++◌, cond, Bool, true, false, ◌==◌, length, refl, sym, ap, ◌∙◌, subst, arith, eqb-true}
use Rattle.std.specs.declared.cmp.Ordering.TheVariants.{Greater}
use Rattle.std.specs.Prelude.{Some, slice_get}
use native.Mathlib.Nat.{mod-eq_of_lt}
use Rattle.monomials.specs.Mono.{Monomial, times, cmp_dp}
use Rattle.monomials.proofs.Order.{times_comm, cmp_dp-times, chain_up}
use Rattle.prime_field.specs.Primes.{IsPrime}
use Rattle.polys.specs.declared.term.Term.{Term}
use Rattle.polys.specs.Terms.{keep, put_by, put, normal, Under, IsCanonical, EachMono, scaled, multiple, scale, products, mul, IsMonic, IsMonicOf}
use Rattle.polys.proofs.Weights.{Canon, canon}
use Rattle.polys.proofs.Each.{every_append, every_scale, every_products, every_under, every_normal, every_zip, every_more, every_multiple}
use Rattle.polys.proofs.Field.{no_zero_divisors}

-- the monomial has the seven exponents of the program's monomials
abbrev pub Seven : Monomial → Type 0
Seven m = length m.exponents ≡ 7

-- a term above all the others comes first
pub put_above : (p : ℕ) (t : Term) (f : List Term) → Under t.mono f → put p t f ≡ keep (t.coeff % p) t.mono f
put_above p t [] h = refl
put_above p t (u ∷ f) h = ap (put_by p t u f (put p t f)) h

pub low_times : (a m w : Monomial) → Seven m → Seven w → cmp_dp m w ≡ Greater → cmp_dp (times a m) (times a w) ≡ Greater
low_times a m w hm hw e =
    (λ i. cmp_dp (times_comm a m i) (times_comm a w i)) ∙ cmp_dp-times m w a (hm ∙ sym hw) ∙ e

pub every_low : (p : ℕ) (m : Monomial) (f : List Term) → Canon p f → Under m f → EachMono (λ w. cmp_dp m w ≡ Greater) f
unfolding Canon
every_low p m [] c u = tt
every_low p m (t ∷ f) c u = (u, every_more (λ w. cmp_dp t.mono w ≡ Greater) (λ w. cmp_dp m w ≡ Greater) f (λ w. chain_up m t.mono w u) (every_low p t.mono f c.3 c.2))

pub keep_some : (c : ℕ) (m : Monomial) (f : List Term) → (c ≡ 0 → ⊥) → keep c m f ≡ record { coeff = c; mono = m } ∷ f
keep_some c m f n = go (c == 0) refl
  where
    go : (b : Bool) → (c == 0) ≡ b → cond b f (record { coeff = c; mono = m } ∷ f) ≡ record { coeff = c; mono = m } ∷ f
    go true e = absurd (n (eqb-true c 0 e))
    go false e = refl

-- with a prime, the lead of a product is the product of the leads
pub lead_of_mul : (p : ℕ) (t u : Term) (f g : List Term) → IsPrime p → IsCanonical p (t ∷ f) → IsCanonical p (u ∷ g)
    → EachMono Seven (t ∷ f) → EachMono Seven (u ∷ g)
    → (h : List Term) × (mul p (t ∷ f) (u ∷ g) ≡ record { coeff = (t.coeff * u.coeff) % p; mono = times t.mono u.mono } ∷ h)
unfolding Canon
lead_of_mul p t u f g prime ct cu lt lu =
    (normal p rest, put_above p top (normal p rest) under ∙ kept ((t.coeff * u.coeff) % p) refl)
  where
    top : Term
    top = record { coeff = t.coeff * u.coeff; mono = times t.mono u.mono }

    rest : List Term
    rest = scale t g ++ products f (u ∷ g)

    Low : Monomial → Type 0
    Low w = cmp_dp (times t.mono u.mono) w ≡ Greater

    lows_f : EachMono (λ m. cmp_dp t.mono m ≡ Greater × Seven m) f
    lows_f = every_zip (λ m. cmp_dp t.mono m ≡ Greater) Seven f (every_low p t.mono f (canon p f ct.3) ct.2) lt.1

    lows_g : EachMono (λ m. cmp_dp u.mono m ≡ Greater × Seven m) g
    lows_g = every_zip (λ m. cmp_dp u.mono m ≡ Greater) Seven g (every_low p u.mono g (canon p g cu.3) cu.2) lu.1

    AtMost : Monomial → Type 0
    AtMost w = ((w ≡ u.mono) ⊎ (cmp_dp u.mono w ≡ Greater)) × Seven w

    most_g : EachMono AtMost (u ∷ g)
    most_g = ((inl refl, lu.0), every_more (λ m. cmp_dp u.mono m ≡ Greater × Seven m) AtMost g (λ m h. (inr h.0, h.1)) lows_g)

    first : (m : Monomial) → cmp_dp t.mono m ≡ Greater → Seven m → cmp_dp (times t.mono u.mono) (times m u.mono) ≡ Greater
    first m h k = cmp_dp-times t.mono m u.mono (lt.0 ∙ sym k) ∙ h

    second : (m w : Monomial) → cmp_dp t.mono m ≡ Greater × Seven m → AtMost w → Low (times m w)
    second m w h (inl e, k) = subst (λ x. Low (times m x)) (sym e) (first m h.0 h.1)
    second m w h (inr e, k) = chain_up (times t.mono u.mono) (times m u.mono) (times m w) (first m h.0 h.1) (low_times m u.mono w lu.0 k e)

    all : EachMono Low rest
    all =
        every_append Low (scale t g) (products f (u ∷ g))
        (every_scale (λ m. cmp_dp u.mono m ≡ Greater × Seven m) Low t g (λ m h. low_times t.mono u.mono m lu.0 h.1 h.0) lows_g)
        (every_products (λ m. cmp_dp t.mono m ≡ Greater × Seven m) AtMost Low f (u ∷ g) second lows_f most_g)

    under : Under (times t.mono u.mono) (normal p rest)
    under = every_under Low (times t.mono u.mono) (normal p rest) (λ w h. h) (every_normal Low p rest all)

    kept : (c : ℕ) → (t.coeff * u.coeff) % p ≡ c → keep c (times t.mono u.mono) (normal p rest) ≡ record { coeff = c; mono = times t.mono u.mono } ∷ normal p rest
    kept c e = keep_some c (times t.mono u.mono) (normal p rest) (λ z.
        let n : u.coeff ≡ 0 = sym (mod-eq_of_lt cu.1) ∙ no_zero_divisors p prime t.coeff u.coeff ct.0 ct.1 (e ∙ z) in
        let q = cu.0 in
        absurd (omega arith))

-- the multiple by the inverse of the lead's coefficient is monic
pub monic_by_inverse : (p c : ℕ) (f out : List Term) (t : Term) → Some t ≡ slice_get f 0 → (t.coeff * c) % p ≡ 1 → c < p → IsCanonical p f → out ≡ multiple p c f → IsMonicOf p f out
monic_by_inverse p c [] out t e i l k o = absurd (cc)
monic_by_inverse p c (u ∷ f) out t e i l k o = (subst IsMonic (sym lead_is ∙ sym o) refl, (c, l, o))
  where
    same : u ≡ t
    same = cc

    one_lead : (c * u.coeff) % p ≡ 1
    one_lead = let turn : c * t.coeff ≡ t.coeff * c = omega arith in rw (same, turn) i

    rest : List Term
    rest = normal p (scaled c f)

    lows : EachMono (λ w. cmp_dp u.mono w ≡ Greater) rest
    lows = every_multiple (λ w. cmp_dp u.mono w ≡ Greater) p c f (every_low p u.mono f (canon p f k.3) k.2)

    lead_is : multiple p c (u ∷ f) ≡ record { coeff = 1; mono = u.mono } ∷ rest
    lead_is =
        put_above p (record { coeff = c * u.coeff; mono = u.mono }) rest (every_under (λ w. cmp_dp u.mono w ≡ Greater) u.mono rest (λ w h. h) lows)
        ∙ ap (λ n. keep n u.mono rest) one_lead
