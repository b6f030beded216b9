-- Coefficients of sums, products and derivatives.
use Rattle.std.proofs.Common.{◌≡◌, ℕ, zero, suc, ◌+◌, ◌*◌, ◌%◌, ◌<◌, List, [], ◌∷◌, ◌++◌, map, set, get_or, replicate, refl, sym, ap, ◌∙◌, arith, cond}
use Rattle.std.proofs.lemmas.List.{get_or-set_same}
use Rattle.std.proofs.Math.ListN.{length-set}
use Rattle.std.specs.Ordering.{is_eq}
use Rattle.std.specs.declared.cmp.Ordering.{Ordering}
use Rattle.std.specs.declared.cmp.Ordering.TheVariants.{Less, Equal, Greater}
use native.Mathlib.Nat.{zero-mod}
use Rattle.monomials.specs.Mono.{Monomial, times, variable, cmp_dp}
use Rattle.monomials.proofs.Exponents.{get_or-pointwise}
use Rattle.monomials.proofs.Order.{same_dp, cmp_dp-times}
use Rattle.polys.specs.declared.term.Term.{Term}
use Rattle.polys.specs.Terms.{EachMono, coefficient, normal, scaled, scale, products, derived}
use Rattle.ideal_laws.specs.Laws.{row_at, pairs_at, CoefficientLaws}
use Rattle.polys.proofs.Weights.{weigh, tie, same, Canon, canon, canon_ext, none_under, normal_canon, weigh-normal, weigh-append}
use Rattle.polys.proofs.Affine.{sevens_of}
use Rattle.polys.proofs.Derivatives.{lowered, times-lowered, seven_lowered}
use Rattle.polys.proofs.Leads.{Seven}
use Rattle.polys.proofs.Units.{weigh-scaled}

tied : (r : Ordering) (c : ℕ) → cond (is_eq r) c 0 ≡ c * tie r
tied Less c = omega arith
tied Equal c = omega arith
tied Greater c = omega arith

-- a coefficient is a weight
coefficient_weigh : (f : List Term) (m : Monomial) → coefficient f m ≡ weigh (same m) f
unfolding weigh
coefficient_weigh [] m = refl
coefficient_weigh (t ∷ f) m = λ i. tied (cmp_dp t.mono m) t.coeff i + coefficient_weigh f m i

-- the coefficients of a polynomial are residues
small : (p : ℕ) (f : List Term) (m : Monomial) → Canon p f → weigh (same m) f % p ≡ weigh (same m) f
unfolding weigh Canon
small p [] m c = zero-mod p
small p (t ∷ f) m c = go (cmp_dp t.mono m) refl (small p f m c.3)
  where
    go : (r : Ordering) → cmp_dp t.mono m ≡ r → weigh (same m) f % p ≡ weigh (same m) f → (t.coeff * same m t.mono + weigh (same m) f) % p ≡ t.coeff * same m t.mono + weigh (same m) f
    go Less e ih =
        let z : t.coeff * same m t.mono + weigh (same m) f ≡ weigh (same m) f = let o : same m t.mono ≡ 0 = ap tie e in rw o (omega arith) in
        ap (λ (n : ℕ). n % p) z ∙ ih ∙ sym z
    go Greater e ih =
        let z : t.coeff * same m t.mono + weigh (same m) f ≡ weigh (same m) f = let o : same m t.mono ≡ 0 = ap tie e in rw o (omega arith) in
        ap (λ (n : ℕ). n % p) z ∙ ih ∙ sym z
    go Equal e ih =
        let q : t.mono ≡ m = same_dp t.mono m e in
        let none : weigh (same m) f ≡ 0 = (λ i. weigh (same (sym q i)) f) ∙ none_under p t.mono f c.3 c.2 in
        let z : t.coeff * same m t.mono + weigh (same m) f ≡ t.coeff = let o : same m t.mono ≡ 1 = ap tie e in rw (o, none) (omega arith) in
        ap (λ (n : ℕ). n % p) z ∙ c.1 ∙ sym z

coefficient-normal : (p : ℕ) (f : List Term) (m : Monomial) → coefficient (normal p f) m ≡ coefficient f m % p
coefficient-normal p f m =
    coefficient_weigh (normal p f) m
    ∙ sym (small p (normal p f) m (normal_canon p f))
    ∙ weigh-normal p (same m) f
    ∙ ap (λ (n : ℕ). n % p) (sym (coefficient_weigh f m))

coefficient-append : (f g : List Term) (m : Monomial) → coefficient (f ++ g) m ≡ coefficient f m + coefficient g m
coefficient-append f g m =
    coefficient_weigh (f ++ g) m ∙ weigh-append (same m) f g ∙ (λ i. sym (coefficient_weigh f m) i + sym (coefficient_weigh g m) i)

coefficient-scaled : (c : ℕ) (f : List Term) (m : Monomial) → coefficient (scaled c f) m ≡ c * coefficient f m
coefficient-scaled c f m = coefficient_weigh (scaled c f) m ∙ weigh-scaled (same m) c f ∙ ap (λ (n : ℕ). c * n) (sym (coefficient_weigh f m))

coefficient-scale : (t : Term) (g : List Term) (m : Monomial) → coefficient (scale t g) m ≡ row_at t g m
coefficient-scale t [] m = refl
coefficient-scale t (u ∷ g) m = ap (λ (n : ℕ). cond (is_eq (cmp_dp (times t.mono u.mono) m)) (t.coeff * u.coeff) 0 + n) (coefficient-scale t g m)

coefficient-products : (f g : List Term) (m : Monomial) → coefficient (products f g) m ≡ pairs_at f g m
coefficient-products [] g m = refl
coefficient-products (t ∷ f) g m =
    coefficient-append (scale t g) (products f g) m ∙ (λ i. coefficient-scale t g m i + coefficient-products f g m i)

-- ---- derivatives

-- the exponent of the variable in a product with it
raised-exponent : (v : ℕ) (m : Monomial) → v < 7 → Seven m → get_or (times m (variable v)).exponents v 0 ≡ get_or m.exponents v 0 + 1
raised-exponent v m h s =
    get_or-pointwise (λ x y. x + y) m.exponents (set (replicate 7 0) v 1) v (s ∙ sym (length-set (replicate 7 0) v 1)) (omega (arith, s))
    ∙ ap (λ (n : ℕ). get_or m.exponents v 0 + n) (get_or-set_same (replicate 7 0) v 1 0 h)

-- the part of one term
derived-part : (v : ℕ) (t : Term) (m : Monomial) → v < 7 → Seven t.mono → Seven m
    → (t.coeff * get_or t.mono.exponents v 0) * same m (lowered v t.mono) ≡ (get_or m.exponents v 0 + 1) * (t.coeff * same (times m (variable v)) t.mono)
derived-part v t m h st sm = go (get_or t.mono.exponents v 0) refl
  where
    E : ℕ
    E = get_or m.exponents v 0 + 1

    -- a term without the variable is no product with it
    none : get_or t.mono.exponents v 0 ≡ 0 → (r : Ordering) → cmp_dp t.mono (times m (variable v)) ≡ r → 0 ≡ E * (t.coeff * tie r)
    none z Less q = omega arith
    none z Greater q = omega arith
    none z Equal q =
        let e : get_or t.mono.exponents v 0 ≡ E = ap (λ (w : Monomial). get_or w.exponents v 0) (same_dp t.mono (times m (variable v)) q) ∙ raised-exponent v m h sm in
        absurd (omega (arith, e, z))

    -- the quotient by the variable is m where the term is the product with it
    level : 0 < get_or t.mono.exponents v 0 → cmp_dp (lowered v t.mono) m ≡ cmp_dp t.mono (times m (variable v))
    level pos =
        sym (cmp_dp-times (lowered v t.mono) m (variable v) (seven_lowered v t.mono st ∙ sym sm))
        ∙ ap (λ w. cmp_dp w (times m (variable v))) (times-lowered v t.mono st h pos)

    some : (e : ℕ) → get_or t.mono.exponents v 0 ≡ suc e → (r : Ordering) → cmp_dp t.mono (times m (variable v)) ≡ r → (t.coeff * suc e) * tie r ≡ E * (t.coeff * tie r)
    some e z Less q = omega arith
    some e z Greater q = omega arith
    some e z Equal q =
        let k : suc e ≡ E = sym z ∙ ap (λ (w : Monomial). get_or w.exponents v 0) (same_dp t.mono (times m (variable v)) q) ∙ raised-exponent v m h sm in
        let turn : (t.coeff * E) * 1 ≡ E * (t.coeff * 1) = omega arith in
        ap (λ (n : ℕ). (t.coeff * n) * 1) k ∙ turn

    go : (e : ℕ) → get_or t.mono.exponents v 0 ≡ e → (t.coeff * get_or t.mono.exponents v 0) * same m (lowered v t.mono) ≡ E * (t.coeff * same (times m (variable v)) t.mono)
    go zero z =
        let nothing : (t.coeff * 0) * same m (lowered v t.mono) ≡ 0 = omega arith in
        ap (λ (n : ℕ). (t.coeff * n) * same m (lowered v t.mono)) z ∙ nothing ∙ none z (cmp_dp t.mono (times m (variable v))) refl
    go (suc e) z =
        ap (λ (n : ℕ). (t.coeff * n) * same m (lowered v t.mono)) z
        ∙ ap (λ r. (t.coeff * suc e) * tie r) (level (omega arith))
        ∙ some e z (cmp_dp t.mono (times m (variable v))) refl

coefficient-derived : (v : ℕ) (f : List Term) (m : Monomial) → v < 7 → EachMono Seven f → Seven m
    → coefficient (map (derived v) f) m ≡ (get_or m.exponents v 0 + 1) * coefficient f (times m (variable v))
unfolding weigh
coefficient-derived v f m h s sm = coefficient_weigh (map (derived v) f) m ∙ go f s ∙ ap (λ (n : ℕ). (get_or m.exponents v 0 + 1) * n) (sym (coefficient_weigh f (times m (variable v))))
  where
    go : (f : List Term) → EachMono Seven f → weigh (same m) (map (derived v) f) ≡ (get_or m.exponents v 0 + 1) * weigh (same (times m (variable v))) f
    go [] s = omega arith
    go (t ∷ f) s =
        let part = derived-part v t m h s.0 sm in
        let ih = go f s.1 in
        omega (arith, part, ih)

pub coefficient_law : CoefficientLaws
coefficient_law = record {
  normal = coefficient-normal;
  sum = λ p f g m. coefficient-normal p (f ++ g) m ∙ ap (λ (n : ℕ). n % p) (coefficient-append f g m);
  multiple = λ p c f m. coefficient-normal p (scaled c f) m ∙ ap (λ (n : ℕ). n % p) (coefficient-scaled c f m);
  product = λ p f g m. coefficient-normal p (products f g) m ∙ ap (λ (n : ℕ). n % p) (coefficient-products f g m);
  derivative = λ p n v f m h a s. coefficient-normal p (map (derived v) f) m ∙ ap (λ (k : ℕ). k % p) (coefficient-derived v f m h (sevens_of p n f a) s);
  same = λ p f g a b h. canon_ext p f g (canon p f a) (canon p g b) (λ m. ap (λ (n : ℕ). n % p) (sym (coefficient_weigh f m) ∙ h m ∙ coefficient_weigh g m));
}
