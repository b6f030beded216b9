-- The p-th power of a polynomial modulo p.
use Rattle.std.proofs.Common.{◌≡◌, ℕ, zero, suc, ◌+◌, ◌*◌, ◌%◌, ◌<◌, ◌≤◌, true, List, [], ◌∷◌, length, sym, ap, ◌∙◌, refl, subst, arith}
use native.Mathlib.Nat.{mul-mod_right, zero-mod}
use Rattle.prime_field.specs.Primes.{is_among, IsCharacteristic}
use Rattle.comm_ring.specs.Ring.{pow, number}
use Rattle.comm_ring.proofs.Freshman.{small_characteristics, is_small, times_itself, power_of-residue, power_of-sum}
use Rattle.monomials.specs.Mono.{Monomial, unit}
use Rattle.polys.specs.declared.term.Term.{Term}
use Rattle.polys.specs.Terms.{OnlyFirst, EachMono, IsCanonical, IsAffine, IsPoly, keep, normal, add, mul, one, power}
use Rattle.polys.specs.Poly.{IsPlain}
use Rattle.polys.specs.Frobenius.{raised, frobenius, FrobeniusLaw}
use Rattle.polys.specs.Ring.{Member}
use Rattle.polys.proofs.Weights.{Canon, weigh, normal_ext, is_canonical, normal_canon}
use Rattle.polys.proofs.Sums.{add_normal_right, mul_normal_right}
use Rattle.polys.proofs.Units.{canonical_one, canonical_same, mul_one, normal-power, power-add, sevens_power, plain_power}
use Rattle.polys.proofs.Leads.{Seven, keep_some}
use Rattle.polys.proofs.Affine.{constant, sevens_of}
use Rattle.polys.proofs.Instance.{polynomials}
use Rattle.polys.proofs.Raised.{raised_suc, raised_zero, canonical_frobenius}

-- ---- one term

abbrev single : ℕ → Monomial → List Term
single c m = record { coeff = c; mono = m } ∷ []

power_single : (p c k : ℕ) (m : Monomial) → 1 < p → Seven m → IsPlain m → power p (single c m) k ≡ normal p (single (times_itself c k) (raised k m))
power_single p c zero m h s z = sym (canonical_same p one (canonical_one p h)) ∙ ap (λ w. normal p (single 1 w)) (sym (raised_zero m s z))
power_single p c (suc k) m h s z =
    ap (mul p (single c m)) (power_single p c k m h s z)
    ∙ mul_normal_right p (single c m) (single (times_itself c k) (raised k m))
    ∙ ap (λ w. normal p (single (c * times_itself c k) w)) (raised_suc k m z)

-- ---- the ring of polynomials

module _ (p n : ℕ) (h : 1 < p) where
  pow_terms : (x : Member p n) (k : ℕ) → (pow (polynomials p n h).ops x k).terms ≡ power p x.terms k
  unfolding pow
  pow_terms x zero = refl
  pow_terms x (suc k) = ap (mul p x.terms) (pow_terms x k)

  number_terms : (k : ℕ) → (number (polynomials p n h).ops k).terms ≡ constant p k
  unfolding number weigh
  number_terms zero = normal_ext p [] (single 0 unit) (λ χ. ap (λ (x : ℕ). x % p) (omega arith))
  number_terms (suc k) =
      ap (add p one) (number_terms k)
      ∙ add_normal_right p one (single k unit)
      ∙ normal_ext p (record { coeff = 1; mono = unit } ∷ single k unit) (single (suc k) unit) (λ χ. ap (λ (x : ℕ). x % p) (omega arith))

  number_none : (number (polynomials p n h).ops p).terms ≡ []
  unfolding weigh
  number_none = number_terms p ∙ normal_ext p (single p unit) [] (λ χ. zero_multiple (χ unit))
    where
      zero_multiple : (x : ℕ) → (p * x + 0) % p ≡ 0 % p
      zero_multiple x = let e : p * x + 0 ≡ p * x = omega arith in ap (λ (y : ℕ). y % p) e ∙ mul-mod_right p x ∙ sym (zero-mod p)

  freshman : (x y : Member p n) → is_among small_characteristics p ≡ true → power p (add p x.terms y.terms) p ≡ add p (power p x.terms p) (power p y.terms p)
  freshman x y e =
      let R = polynomials p n h in
      sym (pow_terms (R.ops.◌⊕◌ x y) p) ∙ power_of-sum R x y p e number_none ∙ (λ i. add p (pow_terms x p i) (pow_terms y p i))

-- ---- the law

power_of-all : (p n : ℕ) (f : List Term) → is_among small_characteristics p ≡ true → IsPoly p n f → power p f p ≡ frobenius p f
power_of-all zero n f e h = absurd (cc)
power_of-all (suc q) n [] e h = refl
power_of-all (suc q) n (t ∷ f) e h =
    let p = suc q in
    let k = h.canonical in
    let big : 1 < p = omega (arith, k.0, k.1) in
    let x : Member p n = record { terms = t ∷ []; is_poly = record { canonical = (k.0, k.1, tt, tt); affine = (h.affine.0, tt) } } in
    let y : Member p n = record { terms = f; is_poly = record { canonical = k.3; affine = h.affine.1 } } in
    let m = h.affine.0 in
    let whole = canonical_same p (frobenius p (t ∷ f)) (canonical_frobenius p q (t ∷ f) (sevens_of p n (t ∷ f) h) k) in
    ap (λ g. power p g p) (sym (canonical_same p (t ∷ f) k))
    ∙ freshman p n big x y e
    ∙ (λ i. add p (term_power p t big m.seven m.plain k.0 k.1 e i) (power_of-all p n f e (record { canonical = k.3; affine = h.affine.1 }) i))
    ∙ whole
  where
    term_power : (p : ℕ) (t : Term) → 1 < p → Seven t.mono → IsPlain t.mono → 0 < t.coeff → t.coeff < p → is_among small_characteristics p ≡ true
        → power p (t ∷ []) p ≡ record { coeff = t.coeff; mono = raised p t.mono } ∷ []
    term_power p t big s z pos low e =
        power_single p t.coeff p t.mono big s z
        ∙ ap (λ (r : ℕ). keep r (raised p t.mono) []) (power_of-residue p t.coeff e low)
        ∙ kept t.coeff pos
      where
        kept : (r : ℕ) → 0 < r → keep r (raised p t.mono) [] ≡ record { coeff = r; mono = raised p t.mono } ∷ []
        kept r h = keep_some r (raised p t.mono) [] (λ z. absurd (omega arith))

pub frobenius_law : FrobeniusLaw
frobenius_law p n f table low h = power_of-all p n f (is_small p table low) h

-- ---- powers of powers

pub canonical_power : (p : ℕ) (f : List Term) (n : ℕ) → 1 < p → IsCanonical p (power p f n)
canonical_power p f n h = is_canonical p (power p f n) (omega arith) (subst (Canon p) (normal-power p f n h) (normal_canon p (power p f n)))

power_sum : (p : ℕ) (f : List Term) (m n : ℕ) → 1 < p → EachMono Seven f → power p f (m + n) ≡ mul p (power p f m) (power p f n)
power_sum p f m zero h s =
    let e : m + 0 ≡ m = omega arith in
    ap (power p f) e ∙ sym (mul_one p (power p f m) (canonical_power p f m h) (sevens_power p f m s))
power_sum p f m (suc n) h s = power-add p f m n s

pub power_power : (p : ℕ) (f : List Term) (q k : ℕ) → 1 < p → EachMono Seven f → power p (power p f q) k ≡ power p f (q * k)
power_power p f q zero h s = let e : q * 0 ≡ 0 = omega arith in ap (power p f) (sym e)
power_power p f q (suc k) h s =
    let e : q + q * k ≡ q * suc k = omega arith in
    ap (mul p (power p f q)) (power_power p f q k h s) ∙ sym (power_sum p f q (q * k) h s) ∙ ap (power p f) e

-- all seven exponents may be above 0
affine_all : (f : List Term) → EachMono Seven f → EachMono IsPlain f → EachMono (IsAffine 7) f
affine_all [] s h = tt
affine_all (t ∷ f) s h = (record { seven = s.0; first = free t.mono.exponents s.0; plain = h.0 }, affine_all f s.1 h.1)
  where
    free : (a : List ℕ) → length a ≡ 7 → OnlyFirst 7 a
    free [] e = tt
    free (a ∷ []) e = tt
    free (a ∷ b ∷ []) e = tt
    free (a ∷ b ∷ c ∷ []) e = tt
    free (a ∷ b ∷ c ∷ d ∷ []) e = tt
    free (a ∷ b ∷ c ∷ d ∷ x ∷ []) e = tt
    free (a ∷ b ∷ c ∷ d ∷ x ∷ y ∷ []) e = tt
    free (a ∷ b ∷ c ∷ d ∷ x ∷ y ∷ z ∷ []) e = tt
    free (a ∷ b ∷ c ∷ d ∷ x ∷ y ∷ z ∷ w ∷ l) e = absurd (omega arith)

-- the power whose exponent is a multiple of p
pub power_by_digit : (p q : ℕ) (f : List Term) → 1 < p → IsCharacteristic p → p ≤ 47 → EachMono Seven f → EachMono IsPlain f
    → power p f (q * p) ≡ frobenius p (power p f q)
power_by_digit p q f h table low s l =
    sym (power_power p f q p h s)
    ∙ frobenius_law p 7 (power p f q) table low (record { canonical = canonical_power p f q h; affine = affine_all (power p f q) (sevens_power p f q s) (plain_power p f q l) })
