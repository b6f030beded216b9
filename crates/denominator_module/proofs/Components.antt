-- The two parts of a vector: they keep sums and products by polynomials.
use Rattle.std.proofs.Common.{◌≡◌, ℕ, ◌+◌, ◌*◌, ◌%◌, ◌≤◌, ◌<◌, zero, suc, List, [], ◌∷◌, ◌++◌, cond, Bool, true, false, ◌==◌, refl, sym, ap, ◌∙◌, arith, eqb-true}
use Rattle.std.proofs.lemmas.Bool.{eqb-false}
use Rattle.std.specs.declared.cmp.Ordering.TheVariants.{Equal, Greater}
use Rattle.std.specs.Ordering.{ordering_then, nat_cmp}
use Rattle.std.specs.Cmp.{nat_cmp_is}
use Rattle.monomials.specs.Mono.{Monomial, total_degree, times, cmp_last, cmp_dp}
use Rattle.polys.specs.declared.term.Term.{Term}
use Rattle.polys.specs.Terms.{EachMono, IsCanonical, Under, normal, add, mul, scale, products}
use Rattle.polys.specs.Poly.{IsPlain}
use Rattle.polys.proofs.Each.{every_append, every_products, every_normal, every_under, every_zip}
use Rattle.polys.proofs.Leads.{every_low}
use Rattle.polys.proofs.Units.{canonical_same}
use Rattle.polys.proofs.Weights.{canon, is_canonical, normal_canon, weigh, weigh-normal, normal_ext}
use Rattle.denominator_module.specs.Module.{first, second}

-- the monomial in the first component
abbrev pub lowered : Monomial → Monomial
lowered m = record { exponents = m.exponents; component = 0 }

-- ---- the first part

pub weigh-first : (χ : Monomial → ℕ) (f : List Term) → weigh χ (first f) ≡ weigh (λ m. cond (m.component == 0) (χ m) 0) f
unfolding weigh
weigh-first χ [] = refl
weigh-first χ (t ∷ f) = go (t.mono.component == 0) (weigh-first χ f)
  where
    go : (b : Bool) → weigh χ (first f) ≡ weigh (λ m. cond (m.component == 0) (χ m) 0) f
        → weigh χ (cond b (t ∷ first f) (first f)) ≡ t.coeff * cond b (χ t.mono) 0 + weigh (λ m. cond (m.component == 0) (χ m) 0) f
    go true ih = λ i. t.coeff * χ t.mono + ih i
    go false ih = omega arith

pub every_first : (P : Monomial → Type 0) (f : List Term) → EachMono P f → EachMono P (first f)
every_first P [] h = tt
every_first P (t ∷ f) h = go (t.mono.component == 0) (every_first P f h.1)
  where
    go : (b : Bool) → EachMono P (first f) → EachMono P (cond b (t ∷ first f) (first f))
    go true ih = (h.0, ih)
    go false ih = ih

pub plain_first : (f : List Term) → EachMono IsPlain (first f)
plain_first [] = tt
plain_first (t ∷ f) = go (t.mono.component == 0) refl (plain_first f)
  where
    go : (b : Bool) → (t.mono.component == 0) ≡ b → EachMono IsPlain (first f) → EachMono IsPlain (cond b (t ∷ first f) (first f))
    go true e ih = (eqb-true t.mono.component 0 e, ih)
    go false e ih = ih

pub canonical_first : (p : ℕ) (f : List Term) → IsCanonical p f → IsCanonical p (first f)
canonical_first p [] c = tt
canonical_first p (t ∷ f) c = go (t.mono.component == 0) (canonical_first p f c.3)
  where
    under : Under t.mono (first f)
    under = every_under (λ w. cmp_dp t.mono w ≡ Greater) t.mono (first f) (λ w e. e) (every_first (λ w. cmp_dp t.mono w ≡ Greater) f (every_low p t.mono f (canon p f c.3) c.2))

    go : (b : Bool) → IsCanonical p (first f) → IsCanonical p (cond b (t ∷ first f) (first f))
    go true ih = (c.0, c.1, under, ih)
    go false ih = ih

pub first-append : (f g : List Term) → first (f ++ g) ≡ first f ++ first g
first-append [] g = refl
first-append (t ∷ f) g = go (t.mono.component == 0) (first-append f g)
  where
    go : (b : Bool) → first (f ++ g) ≡ first f ++ first g → cond b (t ∷ first (f ++ g)) (first (f ++ g)) ≡ cond b (t ∷ first f) (first f) ++ first g
    go true ih = λ i. t ∷ ih i
    go false ih = ih

pub first-normal : (p : ℕ) (f : List Term) → 0 < p → first (normal p f) ≡ normal p (first f)
first-normal p f h =
    sym (canonical_same p (first (normal p f)) (canonical_first p (normal p f) (is_canonical p (normal p f) h (normal_canon p f))))
    ∙ normal_ext p (first (normal p f)) (first f)
    (λ χ. ap (λ (n : ℕ). n % p) (weigh-first χ (normal p f)) ∙ weigh-normal p (λ m. cond (m.component == 0) (χ m) 0) f ∙ ap (λ (n : ℕ). n % p) (sym (weigh-first χ f)))

pub first-add : (p : ℕ) (f g : List Term) → 0 < p → first (add p f g) ≡ add p (first f) (first g)
first-add p f g h = first-normal p (f ++ g) h ∙ ap (normal p) (first-append f g)

first-scale : (t : Term) (g : List Term) → IsPlain t.mono → first (scale t g) ≡ scale t (first g)
first-scale t [] h = refl
first-scale t (u ∷ g) h = (λ i. cond (same i) (head ∷ first (scale t g)) (first (scale t g))) ∙ go (u.mono.component == 0) (first-scale t g h)
  where
    head : Term
    head = record { coeff = t.coeff * u.coeff; mono = times t.mono u.mono }

    same : (t.mono.component + u.mono.component == 0) ≡ (u.mono.component == 0)
    same = let e : t.mono.component + u.mono.component ≡ u.mono.component = omega arith in ap (λ (c : ℕ). c == 0) e

    go : (b : Bool) → first (scale t g) ≡ scale t (first g) → cond b (head ∷ first (scale t g)) (first (scale t g)) ≡ scale t (cond b (u ∷ first g) (first g))
    go true ih = λ i. record { coeff = t.coeff * u.coeff; mono = times t.mono u.mono } ∷ ih i
    go false ih = ih

first-products : (f g : List Term) → EachMono IsPlain f → first (products f g) ≡ products f (first g)
first-products [] g h = refl
first-products (t ∷ f) g h = first-append (scale t g) (products f g) ∙ (λ i. first-scale t g h.0 i ++ first-products f g h.1 i)

pub first-mul : (p : ℕ) (f g : List Term) → 0 < p → EachMono IsPlain f → first (mul p f g) ≡ mul p f (first g)
first-mul p f g h k = first-normal p (products f g) h ∙ ap (normal p) (first-products f g k)

pub first_plain : (f : List Term) → EachMono IsPlain f → first f ≡ f
first_plain [] h = refl
first_plain (t ∷ f) h = go (t.mono.component == 0) refl (first_plain f h.1)
  where
    go : (b : Bool) → (t.mono.component == 0) ≡ b → first f ≡ f → cond b (t ∷ first f) (first f) ≡ t ∷ f
    go true e ih = λ i. t ∷ ih i
    go false e ih = absurd (eqb-false t.mono.component 0 e h.0)

-- ---- the second part

abbrev moved : Term → Term
moved t = record { coeff = t.coeff; mono = lowered t.mono }

pub weigh-second : (χ : Monomial → ℕ) (f : List Term) → weigh χ (second f) ≡ weigh (λ m. cond (m.component == 0) 0 (χ (lowered m))) f
unfolding weigh
weigh-second χ [] = refl
weigh-second χ (t ∷ f) = go (t.mono.component == 0) (weigh-second χ f)
  where
    go : (b : Bool) → weigh χ (second f) ≡ weigh (λ m. cond (m.component == 0) 0 (χ (lowered m))) f
        → weigh χ (cond b (second f) (moved t ∷ second f)) ≡ t.coeff * cond b 0 (χ (lowered t.mono)) + weigh (λ m. cond (m.component == 0) 0 (χ (lowered m))) f
    go true ih = ih ∙ (omega arith)
    go false ih = λ i. t.coeff * χ (lowered t.mono) + ih i

pub every_second : (P Q : Monomial → Type 0) (f : List Term) → ((m : Monomial) → (m.component ≡ 0 → ⊥) → P m → Q (lowered m)) → EachMono P f → EachMono Q (second f)
every_second P Q [] k h = tt
every_second P Q (t ∷ f) k h = go (t.mono.component == 0) refl (every_second P Q f k h.1)
  where
    go : (b : Bool) → (t.mono.component == 0) ≡ b → EachMono Q (second f) → EachMono Q (cond b (second f) (moved t ∷ second f))
    go true e ih = ih
    go false e ih = (k t.mono (eqb-false t.mono.component 0 e) h.0, ih)

pub cmp_lowered : (a b : Monomial) → a.component ≡ b.component → cmp_dp (lowered a) (lowered b) ≡ cmp_dp a b
cmp_lowered a b e =
    let l : Equal ≡ nat_cmp b.component a.component = nat_cmp_is b.component a.component Equal (sym e) in
    λ i. ordering_then (l i) (ordering_then (nat_cmp (total_degree a.exponents) (total_degree b.exponents)) (cmp_last a.exponents b.exponents))

abbrev pub IsFirstOrSecond : Monomial → Type 0
IsFirstOrSecond m = m.component ≤ 1

pub canonical_second : (p : ℕ) (f : List Term) → EachMono IsFirstOrSecond f → IsCanonical p f → IsCanonical p (second f)
canonical_second p [] l c = tt
canonical_second p (t ∷ f) l c = go (t.mono.component == 0) refl (canonical_second p f l.1 c.3)
  where
    lows : EachMono (λ w. (cmp_dp t.mono w ≡ Greater) × IsFirstOrSecond w) f
    lows = every_zip (λ w. cmp_dp t.mono w ≡ Greater) IsFirstOrSecond f (every_low p t.mono f (canon p f c.3) c.2) l.1

    under : (t.mono.component ≡ 0 → ⊥) → Under (lowered t.mono) (second f)
    under n =
        every_under (λ w. cmp_dp (lowered t.mono) w ≡ Greater) (lowered t.mono) (second f) (λ w e. e)
        (every_second (λ w. (cmp_dp t.mono w ≡ Greater) × IsFirstOrSecond w) (λ w. cmp_dp (lowered t.mono) w ≡ Greater) f
        (λ w m x. (let one : t.mono.component ≡ w.component = one_of t.mono.component w.component n m l.0 x.1 in cmp_lowered t.mono w one ∙ x.0)) lows)
      where
        one_of : (a b : ℕ) → (a ≡ 0 → ⊥) → (b ≡ 0 → ⊥) → a ≤ 1 → b ≤ 1 → a ≡ b
        one_of zero b h k x y = absurd (h refl)
        one_of (suc a) zero h k x y = absurd (k refl)
        one_of (suc a) (suc b) h k x y = omega arith

    go : (b : Bool) → (t.mono.component == 0) ≡ b → IsCanonical p (second f) → IsCanonical p (cond b (second f) (moved t ∷ second f))
    go true e ih = ih
    go false e ih = (c.0, c.1, under (eqb-false t.mono.component 0 e), ih)

pub second-append : (f g : List Term) → second (f ++ g) ≡ second f ++ second g
second-append [] g = refl
second-append (t ∷ f) g = go (t.mono.component == 0) (second-append f g)
  where
    go : (b : Bool) → second (f ++ g) ≡ second f ++ second g → cond b (second (f ++ g)) (moved t ∷ second (f ++ g)) ≡ cond b (second f) (moved t ∷ second f) ++ second g
    go true ih = ih
    go false ih = λ i. moved t ∷ ih i

pub second-normal : (p : ℕ) (f : List Term) → 0 < p → EachMono IsFirstOrSecond f → second (normal p f) ≡ normal p (second f)
second-normal p f h l =
    sym (canonical_same p (second (normal p f)) (canonical_second p (normal p f) (every_normal IsFirstOrSecond p f l) (is_canonical p (normal p f) h (normal_canon p f))))
    ∙ normal_ext p (second (normal p f)) (second f)
    (λ χ. ap (λ (n : ℕ). n % p) (weigh-second χ (normal p f)) ∙ weigh-normal p (λ m. cond (m.component == 0) 0 (χ (lowered m))) f ∙ ap (λ (n : ℕ). n % p) (sym (weigh-second χ f)))

pub second-add : (p : ℕ) (f g : List Term) → 0 < p → EachMono IsFirstOrSecond f → EachMono IsFirstOrSecond g → second (add p f g) ≡ add p (second f) (second g)
second-add p f g h k l = second-normal p (f ++ g) h (every_append IsFirstOrSecond f g k l) ∙ ap (normal p) (second-append f g)

second-scale : (t : Term) (g : List Term) → IsPlain t.mono → second (scale t g) ≡ scale t (second g)
second-scale t [] h = refl
second-scale t (u ∷ g) h = (λ i. cond (same i) (second (scale t g)) (moved head ∷ second (scale t g))) ∙ go (u.mono.component == 0) (second-scale t g h)
  where
    head : Term
    head = record { coeff = t.coeff * u.coeff; mono = times t.mono u.mono }

    same : (t.mono.component + u.mono.component == 0) ≡ (u.mono.component == 0)
    same = let e : t.mono.component + u.mono.component ≡ u.mono.component = omega arith in ap (λ (c : ℕ). c == 0) e

    go : (b : Bool) → second (scale t g) ≡ scale t (second g) → cond b (second (scale t g)) (moved head ∷ second (scale t g)) ≡ scale t (cond b (second g) (moved u ∷ second g))
    go true ih = ih
    go false ih =
        let z : 0 ≡ t.mono.component + 0 = omega arith in
        λ i. record { coeff = t.coeff * u.coeff; mono = record { exponents = (times t.mono u.mono).exponents; component = z i } } ∷ ih i

second-products : (f g : List Term) → EachMono IsPlain f → second (products f g) ≡ products f (second g)
second-products [] g h = refl
second-products (t ∷ f) g h = second-append (scale t g) (products f g) ∙ (λ i. second-scale t g h.0 i ++ second-products f g h.1 i)

pub second-mul : (p : ℕ) (f g : List Term) → 0 < p → EachMono IsPlain f → EachMono IsFirstOrSecond g → second (mul p f g) ≡ mul p f (second g)
second-mul p f g h k l =
    second-normal p (products f g) h (every_products IsPlain IsFirstOrSecond IsFirstOrSecond f g (λ m w x y. omega arith) k l) ∙ ap (normal p) (second-products f g k)

pub second_plain : (f : List Term) → EachMono IsPlain f → second f ≡ []
second_plain [] h = refl
second_plain (t ∷ f) h = go (t.mono.component == 0) refl (second_plain f h.1)
  where
    go : (b : Bool) → (t.mono.component == 0) ≡ b → second f ≡ [] → cond b (second f) (moved t ∷ second f) ≡ []
    go true e ih = ih
    go false e ih = absurd (eqb-false t.mono.component 0 e h.0)
