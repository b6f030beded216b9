-- Two lists of terms with the same weights modulo p have one normal form.
use Rattle.std.proofs.Common.{◌≡◌, ℕ, ◌+◌, ◌*◌, ◌%◌, ◌<◌, zero, suc, List, [], ◌∷◌, ◌++◌, cond, Bool, true, false, ◌==◌, refl, sym, ap, ◌∙◌, subst, arith, eqb-true}
use Rattle.std.proofs.lemmas.Bool.{eqb-false}
use Rattle.std.specs.declared.cmp.Ordering.{Ordering}
use Rattle.std.specs.declared.cmp.Ordering.TheVariants.{Less, Equal, Greater}
use native.Mathlib.Nat.{add-mod, mod-mod, mul-add-mod_self_left, mod-zero, zero-mod, mod-eq_of_lt, mod-lt}
use Rattle.std.proofs.lemmas.Nat.{mul-mod, mul-mod_first}
use Rattle.monomials.specs.Mono.{Monomial, cmp_dp}
use Rattle.monomials.proofs.Order.{same_dp, self_dp, turn_down, turn_up, chain_up}
use Rattle.polys.specs.declared.term.Term.{Term}
use Rattle.polys.specs.Terms.{keep, put_by, put, normal, Under, IsCanonical}

-- ---- arithmetic modulo p

pub mod_times : (p c a b : ℕ) → a % p ≡ b % p → (c * a) % p ≡ (c * b) % p
mod_times p c a b h = mul-mod c a p ∙ (λ i. ((c % p) * h i) % p) ∙ sym (mul-mod c b p)

pub mod_plus : (p a b c d : ℕ) → a % p ≡ b % p → c % p ≡ d % p → (a + c) % p ≡ (b + d) % p
mod_plus p a b c d h k = add-mod a c p ∙ (λ i. (h i + k i) % p) ∙ sym (add-mod b d p)

pub mod_term : (p c x y : ℕ) → ((c % p) * x + y) % p ≡ (c * x + y) % p
mod_term p c x y = mod_plus p ((c % p) * x) (c * x) y y (mul-mod_first c x p) refl

-- ---- the sum over a list of terms of the coefficient times a weight of the monomial

unfoldable pub weigh : (Monomial → ℕ) → List Term → ℕ
weigh χ [] = 0
weigh χ (t ∷ f) = t.coeff * χ t.mono + weigh χ f

pub weigh-append : (χ : Monomial → ℕ) (f g : List Term) → weigh χ (f ++ g) ≡ weigh χ f + weigh χ g
unfolding weigh
weigh-append χ [] g = omega arith
weigh-append χ (t ∷ f) g = omega (arith, weigh-append χ f g)

pub weigh-keep : (χ : Monomial → ℕ) (c : ℕ) (m : Monomial) (f : List Term) → weigh χ (keep c m f) ≡ c * χ m + weigh χ f
unfolding weigh
weigh-keep χ c m f = go (c == 0) refl
  where
    go : (b : Bool) → (c == 0) ≡ b → weigh χ (cond b f (record { coeff = c; mono = m } ∷ f)) ≡ c * χ m + weigh χ f
    go true e = let z : c ≡ 0 = eqb-true c 0 e in rw z (omega arith)
    go false e = refl

weigh-put : (p : ℕ) (χ : Monomial → ℕ) (t : Term) (f : List Term) → weigh χ (put p t f) % p ≡ (t.coeff * χ t.mono + weigh χ f) % p
unfolding weigh
weigh-put p χ t [] = ap (λ (n : ℕ). n % p) (weigh-keep χ (t.coeff % p) t.mono []) ∙ mod_term p t.coeff (χ t.mono) 0
weigh-put p χ t (u ∷ f) = go (weigh-put p χ t f) (cmp_dp t.mono u.mono) refl
  where
    go : weigh χ (put p t f) % p ≡ (t.coeff * χ t.mono + weigh χ f) % p
        → (r : Ordering) → cmp_dp t.mono u.mono ≡ r
        → weigh χ (put_by p t u f (put p t f) r) % p ≡ (t.coeff * χ t.mono + (u.coeff * χ u.mono + weigh χ f)) % p
    go ih Greater e =
        ap (λ (n : ℕ). n % p) (weigh-keep χ (t.coeff % p) t.mono (u ∷ f)) ∙ mod_term p t.coeff (χ t.mono) (weigh χ (u ∷ f))
    go ih Equal e =
        let same : χ u.mono ≡ χ t.mono = ap χ (sym (same_dp t.mono u.mono e)) in
        let sums : (t.coeff + u.coeff) * χ t.mono + weigh χ f ≡ t.coeff * χ t.mono + (u.coeff * χ u.mono + weigh χ f) = rw same (omega arith) in
        ap (λ (n : ℕ). n % p) (weigh-keep χ ((t.coeff + u.coeff) % p) t.mono f)
        ∙ mod_term p (t.coeff + u.coeff) (χ t.mono) (weigh χ f)
        ∙ ap (λ (n : ℕ). n % p) sums
    go ih Less e =
        let turn : u.coeff * χ u.mono + (t.coeff * χ t.mono + weigh χ f) ≡ t.coeff * χ t.mono + (u.coeff * χ u.mono + weigh χ f) = omega arith in
        mod_plus p (u.coeff * χ u.mono) (u.coeff * χ u.mono) (weigh χ (put p t f)) (t.coeff * χ t.mono + weigh χ f) refl ih
        ∙ ap (λ (n : ℕ). n % p) turn

pub weigh-normal : (p : ℕ) (χ : Monomial → ℕ) (f : List Term) → weigh χ (normal p f) % p ≡ weigh χ f % p
unfolding weigh
weigh-normal p χ [] = refl
weigh-normal p χ (t ∷ f) =
    weigh-put p χ t (normal p f)
    ∙ mod_plus p (t.coeff * χ t.mono) (t.coeff * χ t.mono) (weigh χ (normal p f)) (weigh χ f) refl (weigh-normal p χ f)

-- ---- two polynomials with the same coefficients are equal

pub mod_cancel : (p k a b : ℕ) → (k + a) % p ≡ (k + b) % p → a % p ≡ b % p
mod_cancel zero k a b h =
    let e : k + a ≡ k + b = sym (mod-zero (k + a)) ∙ h ∙ mod-zero (k + b) in
    let d : a ≡ b = omega arith in
    ap (λ (n : ℕ). n % 0) d
mod_cancel (suc q) k a b h =
    let l : suc q * k + a ≡ (k + a) + q * k = omega arith in
    let r : (k + b) + q * k ≡ suc q * k + b = omega arith in
    sym (mul-add-mod_self_left (suc q) k a)
    ∙ ap (λ (n : ℕ). n % suc q) l
    ∙ mod_plus (suc q) (k + a) (k + b) (q * k) (q * k) h refl
    ∙ ap (λ (n : ℕ). n % suc q) r
    ∙ mul-add-mod_self_left (suc q) k b

-- as `IsCanonical`, and where p is 0 any coefficient but 0
unfoldable pub Canon : ℕ → List Term → Type 0
Canon p [] = Unit {0}
Canon p (t ∷ f) = (0 < t.coeff) × (t.coeff % p ≡ t.coeff) × Under t.mono f × Canon p f

abbrev pub tie : Ordering → ℕ
tie Less = 0
tie Equal = 1
tie Greater = 0

abbrev pub same : Monomial → Monomial → ℕ
same w m = tie (cmp_dp m w)

pub under_chain : (w m : Monomial) (f : List Term) → cmp_dp w m ≡ Greater → Under m f → Under w f
under_chain w m [] e u = tt
under_chain w m (v ∷ f) e u = chain_up w m v.mono e u

pub none_under : (p : ℕ) (w : Monomial) (f : List Term) → Canon p f → Under w f → weigh (same w) f ≡ 0
unfolding weigh Canon
none_under p w [] c u = refl
none_under p w (t ∷ f) c u =
    let z : same w t.mono ≡ 0 = ap tie (turn_down w t.mono u) in
    let ih = none_under p w f c.3 (under_chain w t.mono f u c.2) in
    rw (z, ih) (omega arith)

-- the coefficient of the lead is its weight
pub at_head : (p : ℕ) (t : Term) (f : List Term) → Canon p (t ∷ f) → weigh (same t.mono) (t ∷ f) % p ≡ t.coeff
unfolding weigh Canon
at_head p t f c =
    let o : same t.mono t.mono ≡ 1 = ap tie (self_dp t.mono) in
    let z = none_under p t.mono f c.3 c.2 in
    let e : t.coeff * same t.mono t.mono + weigh (same t.mono) f ≡ t.coeff = rw (o, z) (omega arith) in
    ap (λ (n : ℕ). n % p) e ∙ c.1

pub head_missing : (p : ℕ) (t : Term) (f g : List Term) → Canon p (t ∷ f) → Canon p g → Under t.mono g
    → weigh (same t.mono) (t ∷ f) % p ≡ weigh (same t.mono) g % p → ⊥
unfolding Canon
head_missing p t f g c d u h =
    let e : t.coeff ≡ 0 = sym (at_head p t f c) ∙ h ∙ ap (λ (n : ℕ). n % p) (none_under p t.mono g d u) ∙ zero-mod p in
    let pos = c.0 in
    absurd (omega arith)

pub canon_ext : (p : ℕ) (f g : List Term) → Canon p f → Canon p g
    → ((w : Monomial) → weigh (same w) f % p ≡ weigh (same w) g % p) → f ≡ g
unfolding Canon weigh
canon_ext p [] [] c d h = refl
canon_ext p [] (u ∷ g) c d h = absurd (head_missing p u g [] d tt tt (sym (h u.mono)))
canon_ext p (t ∷ f) [] c d h = absurd (head_missing p t f [] c tt tt (h t.mono))
canon_ext p (t ∷ f) (u ∷ g) c d h = go (cmp_dp t.mono u.mono) refl (canon_ext p f g c.3 d.3)
  where
    go : (r : Ordering) → cmp_dp t.mono u.mono ≡ r
        → (((w : Monomial) → weigh (same w) f % p ≡ weigh (same w) g % p) → f ≡ g) → t ∷ f ≡ u ∷ g
    go Greater e ih = absurd (head_missing p t f (u ∷ g) c d e (h t.mono))
    go Less e ih = absurd (head_missing p u g (t ∷ f) d c (turn_up t.mono u.mono e) (sym (h u.mono)))
    go Equal e ih =
        let m : t.mono ≡ u.mono = same_dp t.mono u.mono e in
        let k : t.coeff ≡ u.coeff = sym (at_head p t f c) ∙ h t.mono ∙ ap (λ w. weigh (same w) (u ∷ g) % p) m ∙ at_head p u g d in
        let rest : f ≡ g =
        ih (λ w. mod_cancel p (u.coeff * same w u.mono) (weigh (same w) f) (weigh (same w) g)
        (ap (λ (n : ℕ). (n + weigh (same w) f) % p) (λ i. sym k i * same w (sym m i)) ∙ h w)) in
        λ i. record { coeff = k i; mono = m i } ∷ rest i

keep_canon : (p c : ℕ) (m : Monomial) (f : List Term) → Canon p f → Under m f → Canon p (keep (c % p) m f)
unfolding Canon
keep_canon p c m f k u = go (c % p == 0) refl
  where
    go : (b : Bool) → (c % p == 0) ≡ b → Canon p (cond b f (record { coeff = c % p; mono = m } ∷ f))
    go true e = k
    go false e = let n : c % p ≡ 0 → ⊥ = eqb-false (c % p) 0 e in (omega arith, mod-mod c p, u, k)

keep_under : (w : Monomial) (c : ℕ) (m : Monomial) (f : List Term) → cmp_dp w m ≡ Greater → Under w f → Under w (keep c m f)
keep_under w c m f e u = go (c == 0)
  where
    go : (b : Bool) → Under w (cond b f (record { coeff = c; mono = m } ∷ f))
    go true = u
    go false = e

put_under : (p : ℕ) (w : Monomial) (t : Term) (f : List Term) → Canon p f → cmp_dp w t.mono ≡ Greater → Under w f → Under w (put p t f)
unfolding Canon
put_under p w t [] c e u = keep_under w (t.coeff % p) t.mono [] e tt
put_under p w t (v ∷ f) c e u = go (cmp_dp t.mono v.mono)
  where
    go : (r : Ordering) → Under w (put_by p t v f (put p t f) r)
    go Greater = keep_under w (t.coeff % p) t.mono (v ∷ f) e u
    go Equal = keep_under w ((t.coeff + v.coeff) % p) t.mono f e (under_chain w v.mono f u c.2)
    go Less = u

put_canon : (p : ℕ) (t : Term) (f : List Term) → Canon p f → Canon p (put p t f)
unfolding Canon
put_canon p t [] c = keep_canon p t.coeff t.mono [] tt tt
put_canon p t (u ∷ f) c = go (cmp_dp t.mono u.mono) refl (put_canon p t f c.3)
  where
    go : (r : Ordering) → cmp_dp t.mono u.mono ≡ r → Canon p (put p t f) → Canon p (put_by p t u f (put p t f) r)
    go Greater e ih = keep_canon p t.coeff t.mono (u ∷ f) c e
    go Equal e ih =
        keep_canon p (t.coeff + u.coeff) t.mono f c.3 (subst (λ w. Under w f) (sym (same_dp t.mono u.mono e)) c.2)
    go Less e ih = (c.0, c.1, put_under p u.mono t f c.3 (turn_up t.mono u.mono e) c.2, ih)

pub normal_canon : (p : ℕ) (f : List Term) → Canon p (normal p f)
unfolding Canon
normal_canon p [] = tt
normal_canon p (t ∷ f) = put_canon p t (normal p f) (normal_canon p f)

-- ---- lists of terms that sum to one polynomial

abbrev pub Alike : ℕ → List Term → List Term → Type 0
Alike p f g = (χ : Monomial → ℕ) → weigh χ f % p ≡ weigh χ g % p

pub normal_ext : (p : ℕ) (f g : List Term) → Alike p f g → normal p f ≡ normal p g
normal_ext p f g h =
    canon_ext p (normal p f) (normal p g) (normal_canon p f) (normal_canon p g)
    (λ w. weigh-normal p (same w) f ∙ h (same w) ∙ sym (weigh-normal p (same w) g))

pub normal_same : (p : ℕ) (f : List Term) → Canon p f → normal p f ≡ f
normal_same p f c = canon_ext p (normal p f) f (normal_canon p f) c (λ w. weigh-normal p (same w) f)

pub canon : (p : ℕ) (f : List Term) → IsCanonical p f → Canon p f
unfolding Canon
canon p [] c = tt
canon p (t ∷ f) c = (c.0, mod-eq_of_lt c.1, c.2, canon p f c.3)

pub is_canonical : (p : ℕ) (f : List Term) → 0 < p → Canon p f → IsCanonical p f
unfolding Canon
is_canonical p [] h c = tt
is_canonical p (t ∷ f) h c = (c.0, subst (λ k. k < p) c.1 (mod-lt t.coeff h), c.2, is_canonical p f h c.3)
