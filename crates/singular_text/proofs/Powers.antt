-- Powers of polynomials: their exponents add and multiply, and modulo a prime their degrees do.
use Rattle.std.proofs.Common.{◌≡◌, ℕ, ◌+◌, ◌*◌, ◌%◌, ◌<◌, ◌≤◌, zero, suc, List, [], ◌∷◌, refl, sym, ap, ◌∙◌, arith, Some}
use Rattle.std.specs.declared.cmp.Ordering.{Ordering}
use Rattle.std.specs.declared.cmp.Ordering.TheVariants.{Less, Equal, Greater}
use Rattle.std.specs.Ordering.{ordering_then, nat_cmp}
use Rattle.std.specs.Cmp.{nat_cmp_is}
use Rattle.prime_field.specs.Primes.{IsPrime}
use Rattle.monomials.specs.Mono.{Monomial, pointwise, total_degree, times, cmp_last, cmp_dp}
use Rattle.polys.specs.declared.term.Term.{Term}
use Rattle.polys.specs.Terms.{IsPoly, mul, one, power, lead, degree_of}
use Rattle.polys.specs.Ring.{AreClosed}
use Rattle.polys.specs.Laws.{RingLaws, LeadLaws}

-- ---- exponents

pub power_plus : (p n : ℕ) (f : List Term) (k m : ℕ) → RingLaws → AreClosed p n → IsPoly p n f → power p f (k + m) ≡ mul p (power p f k) (power p f m)
power_plus p n f zero m laws closed poly =
    let e : 0 + m ≡ m = omega arith in
    ap (power p f) e ∙ sym (laws.mul_comm p one (power p f m) ∙ laws.mul_one p n (power p f m) (closed.power f m poly))
power_plus p n f (suc k) m laws closed poly =
    let e : suc k + m ≡ suc (k + m) = omega arith in
    ap (power p f) e ∙ ap (mul p f) (power_plus p n f k m laws closed poly) ∙ sym (laws.mul_assoc p f (power p f k) (power p f m))

pub power_times : (p n : ℕ) (f : List Term) (k m : ℕ) → RingLaws → AreClosed p n → IsPoly p n f → power p f (k * m) ≡ power p (power p f k) m
power_times p n f k zero laws closed poly = let e : k * 0 ≡ 0 = omega arith in ap (power p f) e
power_times p n f k (suc m) laws closed poly =
    let e : k * suc m ≡ k + k * m = omega arith in
    ap (power p f) e ∙ power_plus p n f k (k * m) laws closed poly ∙ ap (mul p (power p f k)) (power_times p n f k m laws closed poly)

-- one decimal digit more
pub power_digit : (p n : ℕ) (f : List Term) (k d : ℕ) → RingLaws → AreClosed p n → IsPoly p n f
    → mul p (power p (power p f k) 10) (power p f d) ≡ power p f (k * 10 + d)
power_digit p n f k d laws closed poly =
    sym (power_plus p n f (k * 10) d laws closed poly ∙ ap (λ (g : List Term). mul p g (power p f d)) (power_times p n f k 10 laws closed poly))

-- ---- degrees

-- a smaller degree makes a smaller monomial
smaller : (a b : Monomial) → a.component ≡ 0 → b.component ≡ 0 → total_degree a.exponents < total_degree b.exponents → cmp_dp a b ≡ Less
smaller a b first second less =
    (λ i. ordering_then (nat_cmp (second i) (first i)) (ordering_then (nat_cmp (total_degree a.exponents) (total_degree b.exponents)) (cmp_last a.exponents b.exponents)))
    ∙ ap (λ (r : Ordering). ordering_then r (ordering_then (nat_cmp (total_degree a.exponents) (total_degree b.exponents)) (cmp_last a.exponents b.exponents))) (sym (nat_cmp_is 0 0 Equal refl))
    ∙ ap (λ (r : Ordering). ordering_then r (cmp_last a.exponents b.exponents)) (sym (nat_cmp_is (total_degree a.exponents) (total_degree b.exponents) Less less))

not_less : (a b : Monomial) → a.component ≡ 0 → b.component ≡ 0 → cmp_dp a b ≡ Greater → total_degree b.exponents ≤ total_degree a.exponents
not_less a b first second greater = by_case (total_degree a.exponents) (total_degree b.exponents) refl refl
  where
    by_case : (d e : ℕ) → total_degree a.exponents ≡ d → total_degree b.exponents ≡ e → e ≤ d
    by_case d e is_d is_e = decide (λ less. let l : cmp_dp a b ≡ Less = smaller a b first second (omega arith) in absurd (cc))
      where
        decide : (d < e → ⊥) → e ≤ d
        decide no_less = grind arith

-- the lead has the degree
pub lead_degree : (p n : ℕ) (t : Term) (f : List Term) → IsPoly p n (t ∷ f) → degree_of (t ∷ f) ≡ total_degree t.mono.exponents
lead_degree p n t [] poly = omega arith
lead_degree p n t (u ∷ f) poly =
    let rest : IsPoly p n (u ∷ f) = record { canonical = poly.canonical.3; affine = poly.affine.1 } in
    let later : degree_of (u ∷ f) ≡ total_degree u.mono.exponents = lead_degree p n u f rest in
    let under : total_degree u.mono.exponents ≤ total_degree t.mono.exponents = not_less t.mono u.mono poly.affine.0.plain poly.affine.1.0.plain poly.canonical.2 in
    omega arith

lead_of : (p n : ℕ) (t : Term) (g : List Term) → IsPoly p n g → lead g ≡ Some t → degree_of g ≡ total_degree t.mono.exponents
lead_of p n t [] poly is = absurd (cc)
lead_of p n t (u ∷ g) poly is = let same : u ≡ t = cc in lead_degree p n u g poly ∙ ap (λ (v : Term). total_degree v.mono.exponents) same

sum_degree : (a b : List ℕ) → total_degree (pointwise (λ x y. x + y) a b) ≡ total_degree a + total_degree b
sum_degree [] b = omega arith
sum_degree (x ∷ a) [] = omega arith
sum_degree (x ∷ a) (y ∷ b) = let h : total_degree (pointwise (λ x y. x + y) a b) ≡ total_degree a + total_degree b = sum_degree a b in omega arith

-- a power has a lead with the multiple of the degree
abbrev HasLead : ℕ → ℕ → List Term → Type 0
HasLead d k g = (s : Term) × (lead g ≡ Some s) × (total_degree s.mono.exponents ≡ d * k)

lead_of_power : (p n : ℕ) (t : Term) (f : List Term) (k : ℕ) → IsPrime p → LeadLaws → AreClosed p n → IsPoly p n (t ∷ f)
    → HasLead (total_degree t.mono.exponents) k (power p (t ∷ f) k)
lead_of_power p n t f zero prime laws closed poly = (record { coeff = 1; mono = record { exponents = 0 ∷ 0 ∷ 0 ∷ 0 ∷ 0 ∷ 0 ∷ 0 ∷ []; component = 0 } }, refl, omega arith)
lead_of_power p n t f (suc k) prime laws closed poly = by_case (power p (t ∷ f) k) (closed.power (t ∷ f) k poly) (lead_of_power p n t f k prime laws closed poly)
  where
    by_case : (g : List Term) → IsPoly p n g → HasLead (total_degree t.mono.exponents) k g → HasLead (total_degree t.mono.exponents) (suc k) (mul p (t ∷ f) g)
    by_case [] poly_g (s, is, degree) = absurd (cc)
    by_case (u ∷ g) poly_g (s, is, degree) =
        let same : u ≡ s = cc in
        let degree_u : total_degree u.mono.exponents ≡ total_degree t.mono.exponents * k = ap (λ (v : Term). total_degree v.mono.exponents) same ∙ degree in (
          record { coeff = (t.coeff * u.coeff) % p; mono = times t.mono u.mono },
          laws.lead p n t u f g prime poly poly_g,
          sum_degree t.mono.exponents u.mono.exponents ∙ omega (arith, degree_u),
        )

pub power_degree : (p n : ℕ) (f : List Term) (k : ℕ) → IsPrime p → LeadLaws → AreClosed p n → IsPoly p n f → 0 < degree_of f
    → degree_of (power p f k) ≡ degree_of f * k
power_degree p n [] k prime laws closed poly positive = absurd (omega arith)
power_degree p n (t ∷ f) k prime laws closed poly positive =
    let found : HasLead (total_degree t.mono.exponents) k (power p (t ∷ f) k) = lead_of_power p n t f k prime laws closed poly in
    lead_of p n found.0 (power p (t ∷ f) k) (closed.power (t ∷ f) k poly) found.1 ∙ found.2
    ∙ ap (λ (d : ℕ). d * k) (sym (lead_degree p n t f poly))
