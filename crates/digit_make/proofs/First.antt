-- The first block of the digits of a monomial: no corner in it is above the monomial.
use Rattle.std.proofs.Common.{◌≡◌, ◌≢◌, ℕ, zero, suc, ◌+◌, ◌-◌, ◌*◌, ◌%◌, ◌<◌, ◌≤◌, List, [], ◌∷◌, map, length, get_or, take, refl, sym, ap, ap₂, ◌∙◌, subst, arith, cond}
use native.Mathlib.Nat.{zero-mod, mod-mod, mod-eq_of_lt}
use Rattle.std.specs.Ordering.{is_eq}
use Rattle.std.specs.declared.cmp.Ordering.{Ordering}
use Rattle.std.specs.declared.cmp.Ordering.TheVariants.{Less, Equal, Greater}
use Rattle.std.specs.List.{Contains}
use Rattle.std.proofs.lemmas.List.{append-nil, get_or-take}
use Rattle.std.proofs.lemmas.List.Elements.{All-get_or, Contains-get_or}
use Rattle.prime_field.specs.Primes.{IsPrime}
use Rattle.prime_field.proofs.Table.{positive_of_prime, above_one}
use Rattle.monomials.specs.Mono.{Monomial, unit, cmp_dp}
use Rattle.monomials.proofs.Order.{same_dp, chain_up}
use Rattle.polys.specs.declared.term.Term.{Term}
use Rattle.polys.specs.Terms.{EachMono, IsAffine, IsCanonical, IsPoly, Under, coefficient, mul, multiple, one, put, sub}
use Rattle.polys.specs.Ideal.{InIdeal, number_combination}
use Rattle.polys.specs.Curve.{CurveData}
use Rattle.polys.proofs.Affine.{poly_sub, sevens_of}
use Rattle.polys.proofs.Each.{every_add, every_more, every_multiple, every_under}
use Rattle.polys.proofs.Units.{canonical_same, mul_one}
use Rattle.ideal_laws.proofs.Differences.{sub_swap}
use Rattle.ideal_laws.proofs.Ideals.{in_multiple}
use Rattle.row_space.specs.Echelon.{IsRow}
use Rattle.standard_monomials.specs.Standard.{AreCorners, AreDistinct, polynomial_of}
use Rattle.standard_monomials.proofs.Lists.{pairs_head, pairs_tail}
use Rattle.standard_monomials.proofs.Sums.{sum_of, sum_within, at_itself, first_more, no_part}
use Rattle.digit_laws.specs.Digits.{AreDigits, spread, value}
use Rattle.digit_plan.specs.declared.plan.Plan.{Plan}
use Rattle.digit_make.specs.Blocks.{IsKnown}
use Rattle.digit_plan.specs.Planned.{IsPlan, curve_of}
use Rattle.digit_make.proofs.Expansion.{deep_enough}
use Rattle.digit_make.proofs.Settings.{setting}

-- ---- the coefficients of a sum of different monomials

-- a monomial that does not occur has the coefficient 0
absent : (f : List Term) (m : Monomial) → EachMono (λ w. w ≢ m) f → coefficient f m ≡ 0
absent [] m h = refl
absent (t ∷ f) m h = go (cmp_dp t.mono m) refl (absent f m h.1)
  where
    go : (r : Ordering) → cmp_dp t.mono m ≡ r → coefficient f m ≡ 0 → cond (is_eq r) t.coeff 0 + coefficient f m ≡ 0
    go Less e z = (let w : 0 + coefficient f m ≡ coefficient f m = omega arith in w) ∙ z
    go Greater e z = (let w : 0 + coefficient f m ≡ coefficient f m = omega arith in w) ∙ z
    go Equal e z = absurd (h.0 (same_dp t.mono m e))

coefficient_at : (p : ℕ) (cs : List ℕ) (ms : List Monomial) (i : ℕ) → AreDistinct ms → length cs ≡ length ms → i < length ms
    → coefficient (sum_of p cs ms) (get_or ms i unit) % p ≡ get_or cs i 0 % p
coefficient_at p cs [] i d l h = absurd (omega arith)
coefficient_at p [] (w ∷ ms) i d l h = absurd (omega arith)
coefficient_at p (c ∷ cs) (w ∷ ms) zero d l h = ap (λ k. k % p) at_head ∙ mod-mod (c % p) p ∙ mod-mod c p
  where
    rest : coefficient (sum_of p cs ms) w ≡ 0
    rest = absent (sum_of p cs ms) w (every_more (Contains ms) (λ x. x ≢ w) (sum_of p cs ms) (λ x k e. pairs_head (λ x y. x ≢ y) w ms d x k (sym e)) (sum_within p cs ms))

    single : c * 1 ≡ c
    single = omega arith

    all : c % p + 0 ≡ c % p
    all = omega arith

    at_head : coefficient (sum_of p (c ∷ cs) (w ∷ ms)) w ≡ (c % p) % p
    at_head =
        first_more p c cs w ms w ∙ ap₂ (λ a b. ((c * a) % p + b) % p) (at_itself w) rest
        ∙ ap (λ k. (k % p + 0) % p) single ∙ ap (λ k. k % p) all
coefficient_at p (c ∷ cs) (w ∷ ms) (suc i) d l h =
    let short : i < length ms = (let k : suc i < length (w ∷ ms) = h in omega arith) in
    ap (λ k. k % p) (no_part p c cs w ms (get_or ms i unit) (pairs_head (λ x y. x ≢ y) w ms d (get_or ms i unit) (Contains-get_or ms i unit short)))
    ∙ mod-mod (coefficient (sum_of p cs ms) (get_or ms i unit)) p
    ∙ coefficient_at p cs ms i (pairs_tail (λ x y. x ≢ y) w ms d) (let k : length (c ∷ cs) ≡ length (w ∷ ms) = l in omega arith) short

-- ---- a sum of corners that is a monomial modulo I + (d)

-- the monomials of a polynomial fall
falls : (p : ℕ) (m : Monomial) (f : List Term) → IsCanonical p f → Under m f → EachMono (λ w. cmp_dp m w ≡ Greater) f
falls p m [] c e = tt
falls p m (u ∷ f) c e = (e, every_more (λ w. cmp_dp u.mono w ≡ Greater) (λ w. cmp_dp m w ≡ Greater) f (λ w q. chain_up m u.mono w e q) (falls p u.mono f c.3 c.2))

module _ (p n : ℕ) (prime : IsPrime p) (gs : List (List Term)) (ms : List Monomial) (k : AreCorners p n gs ms) (m : Monomial) (a : IsAffine n m) where
  positive : 0 < p
  positive = positive_of_prime p prime

  m_poly : IsPoly p n (polynomial_of m)
  m_poly = record { canonical = ((omega arith), above_one p prime, tt, tt); affine = (a, tt) }

  -- the lead of the sum would be that of a member of the ideal
  lead_low : (t : Term) (f : List Term) → IsPoly p n (t ∷ f) → EachMono (Contains ms) (t ∷ f) → InIdeal p n gs (sub p (polynomial_of m) (t ∷ f)) → cmp_dp t.mono m ≡ Greater → ⊥
  lead_low t f hf c i e = ((k.all.exact t.mono).0 c.0).outside (k.standard.leads t g (subst (InIdeal p n gs) same turned))
    where
      f_poly : IsPoly p n f
      f_poly = record { canonical = hf.canonical.3; affine = hf.affine.1 }

      g : List Term
      g = sub p f (polynomial_of m)

      g_poly : IsPoly p n g
      g_poly = poly_sub p n f (polynomial_of m) positive f_poly m_poly

      P : Monomial → Type 0
      P w = cmp_dp t.mono w ≡ Greater

      under : Under t.mono g
      under = every_under P t.mono g (λ w q. q)
          (every_add P p f (multiple p (p - 1) (polynomial_of m)) (falls p t.mono f hf.canonical.3 hf.canonical.2) (every_multiple P p (p - 1) (polynomial_of m) (e, tt)))

      same : sub p (t ∷ f) (polynomial_of m) ≡ t ∷ g
      same = ap (put p t) (sym (canonical_same p g g_poly.canonical)) ∙ canonical_same p (t ∷ g) (hf.canonical.0, hf.canonical.1, under, g_poly.canonical)

      turned : InIdeal p n gs (sub p (t ∷ f) (polynomial_of m))
      turned = subst (InIdeal p n gs) (sym (sub_swap p (polynomial_of m) (t ∷ f) (sub p (polynomial_of m) (t ∷ f)) positive refl))
          (in_multiple p n gs (p - 1) (sub p (polynomial_of m) (t ∷ f)) positive (poly_sub p n (polynomial_of m) (t ∷ f) positive m_poly hf) i)

  not_above : (f : List Term) → IsPoly p n f → EachMono (Contains ms) f → InIdeal p n gs (sub p (polynomial_of m) f) → EachMono (λ w. cmp_dp w m ≡ Greater → ⊥) f
  not_above [] hf c i = tt
  not_above (t ∷ f) hf c i = (
    lead_low t f hf c i,
    every_more (λ w. cmp_dp t.mono w ≡ Greater) (λ w. cmp_dp w m ≡ Greater → ⊥) f (λ w q e. lead_low t f hf c i (chain_up t.mono w m q e)) (falls p t.mono f hf.canonical.3 hf.canonical.2),
  )

  sum_low : (row : List ℕ) (i : ℕ) → IsRow p (length ms) row → IsPoly p n (sum_of p row ms) → InIdeal p n gs (sub p (polynomial_of m) (sum_of p row ms)) → i < length ms
      → cmp_dp (get_or ms i unit) m ≡ Greater → get_or row i 0 ≡ 0
  sum_low row i fits poly c l e =
      sym (mod-eq_of_lt (All-get_or (λ z. z < p) row i 0 (let w = fits.0 in omega arith) fits.1))
      ∙ sym (coefficient_at p row ms i k.all.distinct fits.0 l)
      ∙ ap (λ z. z % p) (absent (sum_of p row ms) (get_or ms i unit)
      (every_more (λ w. cmp_dp w m ≡ Greater → ⊥) (λ w. w ≢ get_or ms i unit) (sum_of p row ms) (λ w o q. o (subst (λ z. cmp_dp z m ≡ Greater) (sym q) e)) (not_above (sum_of p row ms) poly (sum_within p row ms) c)))
      ∙ zero-mod p

value_one : (A : CurveData) (ms : List Monomial) (row : List ℕ) → value A ms 1 row ≡ number_combination A.prime row (map polynomial_of ms)
unfolding spread
value_one A ms row = ap (number_combination A.prime row) (append-nil (map polynomial_of ms))

-- a known row has 0 at the corners that are above the monomial
pub first_low : (plan : Plan) → IsPlan plan → (m : Monomial) (row : List ℕ) (i : ℕ) → IsAffine (curve_of plan).variables m → IsKnown (curve_of plan) plan.corners m row → length plan.corners ≤ length row
    → i < length plan.corners → cmp_dp (get_or plan.corners i unit) m ≡ Greater → get_or row i 0 ≡ 0
first_low plan h m row i a k long l e =
    sym (get_or-take (length plan.corners * 1) row i 0 (omega arith))
    ∙ sum_low A.prime A.variables h.prime (A.denominator ∷ A.ideal) plan.corners h.corners m a first i
    (subst (λ z. IsRow A.prime z first) (let w : length plan.corners * 1 ≡ length plan.corners = omega arith in w) digits.fits)
    ((setting plan h).numbers first)
    (subst (λ z. InIdeal A.prime A.variables (z ∷ A.ideal) (sub A.prime (polynomial_of m) (number_combination A.prime first (map polynomial_of plan.corners))))
    (mul_one A.prime A.denominator (setting plan h).denominator.canonical (sevens_of A.prime A.variables A.denominator (setting plan h).denominator))
    (subst (λ z. InIdeal A.prime A.variables (mul A.prime A.denominator one ∷ A.ideal) (sub A.prime (polynomial_of m) z)) (value_one A plan.corners first) digits.close))
    l e
  where
    A : CurveData
    A = curve_of plan

    first : List ℕ
    first = take (length plan.corners * 1) row

    poly : IsPoly (curve_of plan).prime (curve_of plan).variables (polynomial_of m)
    poly = record { canonical = ((omega arith), above_one (curve_of plan).prime h.prime, tt, tt); affine = (a, tt) }

    deep : 0 < k.0
    deep = deep_enough (curve_of plan) plan.corners (setting plan h) (length plan.corners) 0 k.0 h.some (let w : length row ≡ length plan.corners * k.0 = k.1.fits.0 in omega arith)

    digits : AreDigits (curve_of plan) plan.corners 1 (polynomial_of m) (take (length plan.corners * 1) row)
    digits = (setting plan h).blocks.truncated 1 (k.0 - 1) (polynomial_of m) row poly (subst (λ z. AreDigits (curve_of plan) plan.corners z (polynomial_of m) row) (let w : k.0 ≡ 1 + (k.0 - 1) = omega (arith, deep) in w) k.1)
