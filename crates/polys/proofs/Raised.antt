-- Monomials and polynomials with exponents k times as great.
use Rattle.std.proofs.Common.{◌≡◌, ℕ, zero, suc, ◌+◌, ◌*◌, ◌<◌, ◌≤◌, Bool, true, false, nat_le, max, List, [], ◌∷◌, map, length, replicate, refl, sym, ap, ◌∙◌, arith, mul-le-mul_right}
use Rattle.std.proofs.lemmas.Bool.Decides.{nat_tests}
use Rattle.std.specs.Ordering.{ordering_then, nat_cmp}
use Rattle.std.specs.declared.cmp.Ordering.{Ordering}
use Rattle.std.specs.declared.cmp.Ordering.TheVariants.{Less, Equal, Greater}
use Rattle.monomials.specs.Mono.{Monomial, times, unit, total_degree, cmp_last, cmp_dp}
use Rattle.monomials.proofs.Order.{cmp_dp-times, chain_up}
use Rattle.polys.specs.declared.term.Term.{Term}
use Rattle.polys.specs.Terms.{EachMono, IsCanonical, Under, degree_of}
use Rattle.polys.specs.Poly.{IsPlain}
use Rattle.polys.specs.Frobenius.{raised, frobenius}
use Rattle.polys.proofs.Leads.{Seven, low_times}

-- ---- monomials

raised_one : (m : Monomial) → raised 1 m ≡ m
raised_one m = λ i. record { exponents = go m.exponents i; component = m.component }
  where
    go : (a : List ℕ) → map (λ e. 1 * e) a ≡ a
    go [] = refl
    go (x ∷ a) = let e : 1 * x ≡ x = omega arith in λ i. e i ∷ go a i

pub raised_suc : (k : ℕ) (m : Monomial) → IsPlain m → times m (raised k m) ≡ raised (suc k) m
raised_suc k m h = λ i. record { exponents = go m.exponents i; component = c i }
  where
    c : m.component + m.component ≡ m.component
    c = omega arith

    go : (a : List ℕ) → (times (record { exponents = a; component = 0 }) (raised k (record { exponents = a; component = 0 }))).exponents ≡ map (λ e. suc k * e) a
    go [] = refl
    go (x ∷ a) = let e : x + k * x ≡ suc k * x = omega arith in λ i. e i ∷ go a i

pub raised_zero : (m : Monomial) → Seven m → IsPlain m → raised 0 m ≡ unit
raised_zero m s h = λ i. record { exponents = (go m.exponents ∙ ap (λ (n : ℕ). replicate n 0) s) i; component = h i }
  where
    go : (a : List ℕ) → map (λ e. 0 * e) a ≡ replicate (length a) 0
    go [] = refl
    go (x ∷ a) = let e : 0 * x ≡ 0 = omega arith in λ i. e i ∷ go a i

pub seven_raised : (k : ℕ) (m : Monomial) → Seven m → Seven (raised k m)
seven_raised k m s = go m.exponents ∙ s
  where
    go : (a : List ℕ) → length (map (λ e. k * e) a) ≡ length a
    go [] = refl
    go (x ∷ a) = ap suc (go a)

pub raised_up : (k : ℕ) (a b : Monomial) → Seven a → Seven b → IsPlain a → IsPlain b → cmp_dp a b ≡ Greater → cmp_dp (raised (suc k) a) (raised (suc k) b) ≡ Greater
raised_up zero a b sa sb ha hb e = (λ i. cmp_dp (raised_one a i) (raised_one b i)) ∙ e
raised_up (suc k) a b sa sb ha hb e =
    let ra = raised (suc k) a in
    let rb = raised (suc k) b in
    (λ i. cmp_dp (sym (raised_suc (suc k) a ha) i) (sym (raised_suc (suc k) b hb) i))
    ∙ chain_up (times a ra) (times b ra) (times b rb) (cmp_dp-times a b ra (sa ∙ sym sb) ∙ e)
    (low_times b ra rb (seven_raised (suc k) a sa) (seven_raised (suc k) b sb) (raised_up k a b sa sb ha hb e))

abbrev pub plain_of : Monomial → Monomial
plain_of m = record { exponents = m.exponents; component = 0 }

pub raised_above : (k : ℕ) (a b : Monomial) → Seven a → Seven b → cmp_dp a b ≡ Greater → cmp_dp (raised (suc k) a) (raised (suc k) b) ≡ Greater
raised_above k a b sa sb e = go (nat_cmp b.component a.component) refl
  where
    rest : Monomial → Monomial → Ordering
    rest x y = ordering_then (nat_cmp (total_degree x.exponents) (total_degree y.exponents)) (cmp_last x.exponents y.exponents)

    go : (r : Ordering) → nat_cmp b.component a.component ≡ r → ordering_then r (rest (raised (suc k) a) (raised (suc k) b)) ≡ Greater
    go Greater q = refl
    go Less q =
        let bad : Less ≡ Greater = ap (λ r. ordering_then r (rest a b)) (sym q) ∙ e in
        absurd (cc bad)
    go Equal q =
        let low : cmp_dp (plain_of a) (plain_of b) ≡ Greater = ap (λ r. ordering_then r (rest a b)) (sym q) ∙ e in
        raised_up k (plain_of a) (plain_of b) sa sb refl refl low

degree_list : (k : ℕ) (a : List ℕ) → total_degree (map (λ e. k * e) a) ≡ total_degree a * k
degree_list k [] = omega arith
degree_list k (x ∷ a) = let ih = degree_list k a in omega (arith, ih)

pub degree_raised : (k : ℕ) (m : Monomial) → total_degree (raised k m).exponents ≡ total_degree m.exponents * k
degree_raised k m = degree_list k m.exponents

pub raised_more : (k : ℕ) (m : Monomial) → times (plain_of m) (raised k (plain_of m)) ≡ raised (suc k) (plain_of m)
raised_more k m = raised_suc k (plain_of m) refl

pub raised_none : (m : Monomial) → Seven m → raised 0 (plain_of m) ≡ unit
raised_none m s = raised_zero (plain_of m) s refl

-- ---- polynomials

-- the terms so far of a loop
abbrev pub raise : ℕ → Term → Term
raise k t = record { coeff = t.coeff; mono = raised k t.mono }

under_raised : (k : ℕ) (m : Monomial) (f : List Term) → Seven m → EachMono Seven f → Under m f → Under (raised (suc k) m) (frobenius (suc k) f)
under_raised k m [] s sf u = tt
under_raised k m (t ∷ f) s sf u = raised_above k m t.mono s sf.0 u

pub canonical_frobenius : (p k : ℕ) (f : List Term) → EachMono Seven f → IsCanonical p f → IsCanonical p (frobenius (suc k) f)
canonical_frobenius p k [] s c = tt
canonical_frobenius p k (t ∷ f) s c = (c.0, c.1, under_raised k t.mono f s.0 s.1 c.2, canonical_frobenius p k f s.1 c.3)

pub canonical_raised : (p k : ℕ) (f : List Term) → 0 < k → EachMono Seven f → IsCanonical p f → IsCanonical p (frobenius k f)
canonical_raised p zero f h s c = absurd (omega arith)
canonical_raised p (suc k) f h s c = canonical_frobenius p k f s c

pub frobenius_degree : (k : ℕ) (f : List Term) → degree_of (frobenius k f) ≡ degree_of f * k
frobenius_degree k [] = omega arith
frobenius_degree k (t ∷ f) =
    let ih = frobenius_degree k f in
    let d = degree_raised k t.mono in
    ap (λ (x : ℕ). max x (degree_of (frobenius k f))) d ∙ ap (max (total_degree t.mono.exponents * k)) ih ∙ sym (max_times (total_degree t.mono.exponents) (degree_of f))
  where
    max_times : (a b : ℕ) → max a b * k ≡ max (a * k) (b * k)
    max_times a b = go (nat_le a b) refl
      where
        go : (r : Bool) → nat_le a b ≡ r → max a b * k ≡ max (a * k) (b * k)
        go true e =
            let h : a ≤ b = grind (arith, nat_tests) in
            let m : a * k ≤ b * k = mul-le-mul_right k h in
            let x : max a b ≡ b = omega arith in
            let y : max (a * k) (b * k) ≡ b * k = omega (arith, m) in
            ap (λ (n : ℕ). n * k) x ∙ sym y
        go false e =
            let h : b ≤ a = grind (arith, nat_tests) in
            let m : b * k ≤ a * k = mul-le-mul_right k h in
            let x : max a b ≡ a = omega arith in
            let y : max (a * k) (b * k) ≡ a * k = omega (arith, m) in
            ap (λ (n : ℕ). n * k) x ∙ sym y
