-- The loop of the derivative.
use Rattle.std.proofs.Common.{◌≡◌, ℕ, ◌+◌, ◌-◌, ◌*◌, ◌%◌, ◌<◌, ◌≤◌, zero, suc, List, [], ◌∷◌, ◌++◌, Bool, true, false, ◌==◌, cond, length, map, take, set, get_or, replicate, refl, sym, ap, ◌∙◌, arith, eqb-true, append-nil}
use Rattle.std.proofs.lemmas.Bool.{eqb-false}
use Rattle.std.proofs.lemmas.Nat.{mul-mod_first, mul-mod_second}
use Rattle.std.proofs.lemmas.List.{take_more}
use Rattle.std.proofs.Math.ListN.{length-set}
use Rattle.std.specs.declared.cmp.Ordering.TheVariants.{Greater}
use native.Mathlib.Nat.{mod-lt, zero-mod}
use Rattle.monomials.specs.Mono.{Monomial, IsMono, times, variable, cmp_dp}
use Rattle.monomials.proofs.Exponents.{plus, plus_zeros, zeros_at}
use Rattle.monomials.proofs.Order.{cmp_dp-times, times_cancel}
use Rattle.prime_field.specs.Primes.{IsPrime}
use Rattle.polys.specs.declared.term.Term.{Term}
use Rattle.polys.specs.Terms.{keep, Under, IsCanonical, EachMono, derived, derivative}
use Rattle.polys.specs.Poly.{IsVector}
use Rattle.polys.proofs.Weights.{weigh, Alike, canon, normal_ext, normal_same, mod_plus, weigh-keep}
use Rattle.polys.proofs.Leads.{Seven, every_low}
use Rattle.polys.proofs.Products.{pos_product}

-- ---- one exponent lowered

abbrev pub lowered : ℕ → Monomial → Monomial
lowered v m = record { exponents = set m.exponents v (get_or m.exponents v 0 - 1); component = m.component }

plus-lowered : (n : ℕ) (a : List ℕ) (v : ℕ) → length a ≡ n → v < n → 0 < get_or a v 0 → plus (set a v (get_or a v 0 - 1)) (set (replicate n 0) v 1) ≡ a
plus-lowered zero a v e h k = absurd (omega arith)
plus-lowered (suc n) [] v e h k = absurd (omega arith)
plus-lowered (suc n) (x ∷ a) zero e h k =
    let s : (x - 1) + 1 ≡ x = omega arith in
    λ i. s i ∷ plus_zeros n a (omega arith) i
plus-lowered (suc n) (x ∷ a) (suc v) e h k =
    let s : x + 0 ≡ x = omega arith in
    λ i. s i ∷ plus-lowered n a v (omega arith) (omega arith) k i

pub times-lowered : (v : ℕ) (m : Monomial) → Seven m → v < 7 → 0 < get_or m.exponents v 0 → times (lowered v m) (variable v) ≡ m
times-lowered v m s h k =
    let c : m.component + 0 ≡ m.component = omega arith in
    λ i. record { exponents = plus-lowered 7 m.exponents v s h k i; component = c i }

pub seven_lowered : (v : ℕ) (m : Monomial) → Seven m → Seven (lowered v m)
seven_lowered v m s = length-set m.exponents v (get_or m.exponents v 0 - 1) ∙ s

-- the quotient by the variable
pub quotient_is : (v : ℕ) (t : Term) (q : Monomial) → Seven t.mono → Seven q → v < 7 → 0 < get_or t.mono.exponents v 0 → times q (variable v) ≡ t.mono → q ≡ (derived v t).mono
quotient_is v t q s r h k e =
    times_cancel q (lowered v t.mono) (variable v) (r ∙ sym (seven_lowered v t.mono s)) (e ∙ sym (times-lowered v t.mono s h k))

-- the variable divides what has it
pub variable_under : (n : ℕ) (a : List ℕ) (v : ℕ) → 0 < get_or a v 0 → (i : ℕ) → get_or (set (replicate n 0) v 1) i 0 ≤ get_or a i 0
variable_under zero a v k i = let z : get_or {A = ℕ} (set [] v 1) i 0 ≡ 0 = refl in omega arith
variable_under (suc n) [] v k i = absurd (omega arith)
variable_under (suc n) (x ∷ a) zero k zero = k
variable_under (suc n) (x ∷ a) zero k (suc i) = let z = zeros_at n i in omega arith
variable_under (suc n) (x ∷ a) (suc v) k zero = omega arith
variable_under (suc n) (x ∷ a) (suc v) k (suc i) = variable_under n a v k i

-- ---- the terms of the derivative

-- the coefficient that stays
abbrev pub stays : ℕ → ℕ → Term → ℕ
stays p v t = (t.coeff * (get_or t.mono.exponents v 0 % p)) % p

abbrev pub derived_list : ℕ → ℕ → List Term → List Term
derived_list p v [] = []
derived_list p v (t ∷ f) = keep (stays p v t) (lowered v t.mono) (derived_list p v f)

same_product : (p k e x : ℕ) → (((k * (e % p)) % p) * x) % p ≡ ((k * e) * x) % p
same_product p k e x =
    ap (λ (n : ℕ). (n * x) % p) (mul-mod_second k e p) ∙ mul-mod_first (k * e) x p

alike_derived : (p v : ℕ) (f : List Term) → Alike p (derived_list p v f) (map (derived v) f)
unfolding weigh
alike_derived p v [] χ = refl
alike_derived p v (t ∷ f) χ =
    ap (λ (n : ℕ). n % p) (weigh-keep χ (stays p v t) (lowered v t.mono) (derived_list p v f))
    ∙ mod_plus p (stays p v t * χ (lowered v t.mono)) (t.coeff * get_or t.mono.exponents v 0 * χ (lowered v t.mono)) (weigh χ (derived_list p v f)) (weigh χ (map (derived v) f))
    (same_product p t.coeff (get_or t.mono.exponents v 0) (χ (lowered v t.mono))) (alike_derived p v f χ)

-- what stays has the variable
pub has_variable : (p k e : ℕ) → ((k * (e % p)) % p ≡ 0 → ⊥) → 0 < e
has_variable p k zero h =
    let z : k * 0 ≡ 0 = omega arith in
    absurd (h (ap (λ (n : ℕ). (k * n) % p) (zero-mod p) ∙ ap (λ (n : ℕ). n % p) z ∙ zero-mod p))
has_variable p k (suc e) h = omega arith

under_derived : (p v : ℕ) (m : Monomial) (f : List Term) → Seven m → v < 7 → 0 < get_or m.exponents v 0 → EachMono (λ w. cmp_dp m w ≡ Greater) f → EachMono Seven f
    → Under (lowered v m) (derived_list p v f)
under_derived p v m [] s h k low e = tt
under_derived p v m (u ∷ f) s h k low e = go (stays p v u == 0) refl (under_derived p v m f s h k low.1 e.1)
  where
    go : (b : Bool) → (stays p v u == 0) ≡ b → Under (lowered v m) (derived_list p v f)
        → Under (lowered v m) (cond b (derived_list p v f) (record { coeff = stays p v u; mono = lowered v u.mono } ∷ derived_list p v f))
    go true q ih = ih
    go false q ih =
        let n : 0 < get_or u.mono.exponents v 0 = has_variable p u.coeff (get_or u.mono.exponents v 0) (eqb-false (stays p v u) 0 q) in
        sym (cmp_dp-times (lowered v m) (lowered v u.mono) (variable v) (seven_lowered v m s ∙ sym (seven_lowered v u.mono e.0)))
        ∙ (λ i. cmp_dp (times-lowered v m s h k i) (times-lowered v u.mono e.0 h n i))
        ∙ low.0

canonical_derived : (p v : ℕ) (f : List Term) → 0 < p → v < 7 → IsCanonical p f → EachMono Seven f → IsCanonical p (derived_list p v f)
canonical_derived p v [] pos h c e = tt
canonical_derived p v (t ∷ f) pos h c e = go (stays p v t == 0) refl (canonical_derived p v f pos h c.3 e.1)
  where
    go : (b : Bool) → (stays p v t == 0) ≡ b → IsCanonical p (derived_list p v f)
        → IsCanonical p (cond b (derived_list p v f) (record { coeff = stays p v t; mono = lowered v t.mono } ∷ derived_list p v f))
    go true q ih = ih
    go false q ih =
        let ne : stays p v t ≡ 0 → ⊥ = eqb-false (stays p v t) 0 q in
        let n : 0 < get_or t.mono.exponents v 0 = has_variable p t.coeff (get_or t.mono.exponents v 0) ne in (
          omega arith,
          mod-lt (t.coeff * (get_or t.mono.exponents v 0 % p)) pos,
          under_derived p v t.mono f e.0 h n (every_low p t.mono f (canon p f c.3) c.2) e.1,
          ih,
        )

pub derived_is : (p v : ℕ) (f : List Term) → 0 < p → v < 7 → IsCanonical p f → EachMono Seven f → derived_list p v f ≡ derivative p v f
derived_is p v f pos h c e =
    sym (normal_same p (derived_list p v f) (canon p (derived_list p v f) (canonical_derived p v f pos h c e)))
    ∙ normal_ext p (derived_list p v f) (map (derived v) f) (alike_derived p v f)

pub derived_vector : (p v : ℕ) (f : List Term) → 0 < p → v < 7 → IsCanonical p f → EachMono Seven f → EachMono IsMono (derived_list p v f) → IsVector p (derived_list p v f)
derived_vector p v f pos h c e m = record { canonical = canonical_derived p v f pos h c e; monos = m }

-- ---- one term more

keep-append : (c : ℕ) (m : Monomial) (f g : List Term) → keep c m (f ++ g) ≡ keep c m f ++ g
keep-append c m f g = go (c == 0)
  where
    go : (b : Bool) → cond b (f ++ g) (record { coeff = c; mono = m } ∷ (f ++ g)) ≡ cond b f (record { coeff = c; mono = m } ∷ f) ++ g
    go true = refl
    go false = refl

derived_list-append : (p v : ℕ) (f g : List Term) → derived_list p v (f ++ g) ≡ derived_list p v f ++ derived_list p v g
derived_list-append p v [] g = refl
derived_list-append p v (t ∷ f) g =
    ap (keep (stays p v t) (lowered v t.mono)) (derived_list-append p v f g) ∙ keep-append (stays p v t) (lowered v t.mono) (derived_list p v f) (derived_list p v g)

derived_one : (p v : ℕ) (s : List Term) (i : ℕ) (t : Term) → i < length s → t ≡ get_or s i t
    → derived_list p v (take (i + 1) s) ≡ derived_list p v (take i s) ++ keep (stays p v t) (lowered v t.mono) []
derived_one p v s i t h e =
    ap (derived_list p v) (take_more s i t h) ∙ ap (λ u. derived_list p v (take i s ++ u ∷ [])) (sym e) ∙ derived_list-append p v (take i s) (t ∷ [])

pub derived_more : (p v : ℕ) (s out more : List Term) (i : ℕ) (t : Term) (q : Monomial) → IsPrime p → i < length s → t ≡ get_or s i t
    → out ≡ derived_list p v (take i s) → 0 < t.coeff → t.coeff < p → 0 < get_or t.mono.exponents v 0 % p → q ≡ lowered v t.mono
    → more ≡ out ++ record { coeff = stays p v t; mono = q } ∷ [] → more ≡ derived_list p v (take (i + 1) s)
derived_more p v s out more i t q prime h e so pos below has is m =
    m
    ∙ (λ k. so k ++ record { coeff = stays p v t; mono = is k } ∷ [])
    ∙ ap (λ l. derived_list p v (take i s) ++ l) (go (stays p v t == 0) refl)
    ∙ sym (derived_one p v s i t h e)
  where
    two : 2 ≤ p
    two = prime.0

    one_term : List Term
    one_term = record { coeff = stays p v t; mono = lowered v t.mono } ∷ []

    go : (b : Bool) → (stays p v t == 0) ≡ b → one_term ≡ cond b [] one_term
    go true z =
        let n : stays p v t ≡ 0 = eqb-true (stays p v t) 0 z in
        let y = pos_product p t.coeff (get_or t.mono.exponents v 0 % p) prime pos below has (mod-lt (get_or t.mono.exponents v 0) (omega arith)) in
        absurd (omega arith)
    go false z = refl

pub derived_none : (p v : ℕ) (s out : List Term) (i : ℕ) (t : Term) → i < length s → t ≡ get_or s i t
    → out ≡ derived_list p v (take i s) → get_or t.mono.exponents v 0 % p ≡ 0 → out ≡ derived_list p v (take (i + 1) s)
derived_none p v s out i t h e so z =
    so ∙ sym (append-nil (derived_list p v (take i s))) ∙ ap (λ l. derived_list p v (take i s) ++ l) (go (stays p v t == 0) refl) ∙ sym (derived_one p v s i t h e)
  where
    nothing : stays p v t ≡ 0
    nothing = let m : t.coeff * 0 ≡ 0 = omega arith in ap (λ (n : ℕ). (t.coeff * n) % p) z ∙ ap (λ (n : ℕ). n % p) m ∙ zero-mod p

    none : List Term
    none = []

    go : (b : Bool) → (stays p v t == 0) ≡ b → none ≡ cond b none (record { coeff = stays p v t; mono = lowered v t.mono } ∷ none)
    go true q = refl
    go false q = absurd (eqb-false (stays p v t) 0 q nothing)

-- a number with a rest is not 0
pub positive_from_rest : (n m : ℕ) → (n % m ≡ 0 → ⊥) → 0 < n
positive_from_rest zero m h = absurd (h (zero-mod m))
positive_from_rest (suc n) m h = omega arith
