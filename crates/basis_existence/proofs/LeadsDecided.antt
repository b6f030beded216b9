-- Where membership is decided it is decided whether a monomial is a lead: it is one where it lies in the span of the smaller
-- monomials, of which there are finitely many.
use Rattle.std.proofs.Common.{◌≡◌, ◌⊎◌, inl, inr, ℕ, ◌*◌, ◌-◌, ◌%◌, ◌<◌, ◌≤◌, List, [], ◌∷◌, map, All, get_or, refl, sym, ap, ◌∙◌, subst, arith}
use native.Mathlib.Nat.{mod-eq_of_lt}
use native.Mathlib.Decide.{ℕ_discrete}
use Rattle.std.specs.List.{Contains}
use Rattle.std.specs.Cmp.{ranked}
use Rattle.std.specs.declared.cmp.Ordering.{Ordering}
use Rattle.std.specs.declared.cmp.Ordering.TheVariants.{Less, Equal, Greater}
use Rattle.std.proofs.lemmas.List.Elements.{All-weaker, All-contains}
use Rattle.prime_field.specs.Primes.{IsPrime}
use Rattle.comm_ring.specs.Modules.{IsSubmodule, combination, InSpan, module_through}
use Rattle.comm_ring.proofs.Fields.{residue_field}
use Rattle.comm_ring.proofs.Modules as Modules
use Rattle.comm_ring.proofs.Modules.{Module, through}
use Rattle.comm_ring.proofs.Quotients.{origin_modulo, modulo_origin}
use Rattle.monomials.specs.Mono.{Monomial, total_degree, cmp_dp}
use Rattle.monomials.proofs.Exponents.{exponent_le}
use Rattle.monomials.proofs.Last.{by_degree}
use Rattle.polys.specs.declared.term.Term.{Term}
use Rattle.polys.specs.Terms.{EachMono, IsAffine, IsPoly, IsCanonical, Under, put, sub, multiple}
use Rattle.polys.specs.Ideal.{InIdeal}
use Rattle.polys.specs.Reduced.{IsLead}
use Rattle.polys.specs.Ring.{Member}
use Rattle.polys.proofs.Affine.{poly_sub}
use Rattle.polys.proofs.Each.{every_add, every_more, every_multiple, every_under, every_zip}
use Rattle.ideal_laws.proofs.Ideals.{in_poly}
use Rattle.polys.proofs.Leads.{every_low}
use Rattle.polys.proofs.Units.{canonical_same}
use Rattle.polys.proofs.Weights.{canon}
use Rattle.monomials.proofs.Order.{turn_down, turn_up}
use Rattle.homogenising.proofs.Spanning.{pos}
use Rattle.standard_monomials.specs.Standard.{polynomial_of}
use Rattle.basis_existence.proofs.Decisions.{span_or_not, solved}
use Rattle.standard_monomials.proofs.Finite.{Sifted, sift, box, in_box, affine_or_not, of_exponents}
use Rattle.standard_monomials.proofs.Lists.{contains_map}
use Rattle.standard_monomials.proofs.Space as Space
use Rattle.standard_monomials.proofs.Sums.{sum_of, sum_within, monomial_poly, monomial_polys, taken_apart, spread}
use Rattle.ideal_laws.proofs.Members.{lift}

-- ---- the smaller monomials

-- a smaller monomial has no greater degree
low_degree : (w m : Monomial) → w.component ≡ m.component → cmp_dp w m ≡ Less → total_degree w.exponents ≤ total_degree m.exponents
low_degree w m c l = go (ℕ_discrete (total_degree w.exponents) (total_degree m.exponents))
  where
    go : Dec (total_degree w.exponents ≡ total_degree m.exponents) → total_degree w.exponents ≤ total_degree m.exponents
    go (yes e) = omega arith
    go (no n) = let h : total_degree w.exponents < total_degree m.exponents = ranked (total_degree w.exponents) (total_degree m.exponents) Less (sym (by_degree w m c n ∙ l)) in omega arith

abbrev pub IsBelow : ℕ → Monomial → Monomial → Type 0
IsBelow n m w = IsAffine n w × (cmp_dp w m ≡ Less)

below_or_not : (n : ℕ) (m w : Monomial) → IsBelow n m w ⊎ (IsBelow n m w → ⊥)
below_or_not n m w = go (affine_or_not n w) (cmp_dp w m) refl
  where
    go : IsAffine n w ⊎ (IsAffine n w → ⊥) → (r : Ordering) → cmp_dp w m ≡ r → IsBelow n m w ⊎ (IsBelow n m w → ⊥)
    go (inr o) r e = inr (λ b. o b.0)
    go (inl a) Less e = inl (a, e)
    go (inl a) Equal e = inr (λ b. let f = sym e ∙ b.1 in absurd (cc))
    go (inl a) Greater e = inr (λ b. let f = sym e ∙ b.1 in absurd (cc))

smaller : (n : ℕ) (m : Monomial) → Sifted (IsBelow n m) (below_or_not n m) (map of_exponents (box (total_degree m.exponents) 7))
smaller n m = sift (IsBelow n m) (below_or_not n m) (map of_exponents (box (total_degree m.exponents) 7))

-- a monomial with small exponents is in the box
pub boxed : (B n : ℕ) (w : Monomial) → IsAffine n w → ((i : ℕ) → get_or w.exponents i 0 ≤ B) → Contains (map of_exponents (box B 7)) w
boxed B n w a h =
    let whole : of_exponents w.exponents ≡ w = (λ i. record { exponents = w.exponents; component = sym a.plain i }) in
    subst (Contains (map of_exponents (box B 7))) whole (contains_map of_exponents (box B 7) w.exponents (in_box B 7 w.exponents a.seven h))

each_smaller : (n : ℕ) (m : Monomial) → IsAffine n m → (w : Monomial) → IsBelow n m w → Contains (smaller n m).kept w
each_smaller n m a w b = (smaller n m).whole w
    (boxed (total_degree m.exponents) n w b.0 (λ i. (let x = exponent_le w.exponents i in let y = low_degree w m (b.0.plain ∙ sym a.plain) b.1 in omega arith))) b

-- ---- monic polynomials with a given lead

abbrev pub at : Monomial → Term
at m = record { coeff = 1; mono = m }

-- the monomials below the lead
pub below_lead : (p : ℕ) (t : Term) (f : List Term) → IsCanonical p (t ∷ f) → EachMono (λ w. cmp_dp w t.mono ≡ Less) f
below_lead p t f c = every_more (λ w. cmp_dp t.mono w ≡ Greater) (λ w. cmp_dp w t.mono ≡ Less) f (λ w e. turn_down t.mono w e) (every_low p t.mono f (canon p f c.3) c.2)

-- what is below the lead leaves the lead in a difference
pub lead_stays : (p n : ℕ) (t : Term) (f g : List Term) → 0 < p → IsPoly p n (t ∷ f) → IsPoly p n g → EachMono (λ w. cmp_dp w t.mono ≡ Less) g → sub p (t ∷ f) g ≡ t ∷ sub p f g
lead_stays p n t f g h hf hg l =
    ap (put p t) (sym (canonical_same p (sub p f g) rest.canonical)) ∙ canonical_same p (t ∷ sub p f g) (hf.canonical.0, hf.canonical.1, under, rest.canonical)
  where
    rest : IsPoly p n (sub p f g)
    rest = poly_sub p n f g h (record { canonical = hf.canonical.3; affine = hf.affine.1 }) hg

    under : Under t.mono (sub p f g)
    under =
        every_under (λ w. cmp_dp w t.mono ≡ Less) t.mono (sub p f g) (λ w e. turn_up w t.mono e)
        (every_add (λ w. cmp_dp w t.mono ≡ Less) p f (multiple p (p - 1) g) (below_lead p t f hf.canonical) (every_multiple (λ w. cmp_dp w t.mono ≡ Less) p (p - 1) g l))

-- m is the lead of a monic member
abbrev pub IsMonicLead : ℕ → ℕ → List (List Term) → Monomial → Type 0
IsMonicLead p n hs m = (g : List Term) × InIdeal p n hs (at m ∷ g)

module _ (p n : ℕ) (prime : IsPrime p) (hs : List (List Term)) (polys : All (IsPoly p n) hs) (member_or_not : (f : List Term) → IsPoly p n f → Dec (InIdeal p n hs f)) where
  abbrev V : Module (Space.K p n prime)
  V = Space.space p n prime hs

  zero : (f : Member p n) → InIdeal p n hs f.terms → V.◌≋◌ f V.origin
  zero f i = origin_modulo (Space.K p n prime) (through (Space.K p n prime) (Space.Ring p n prime) (Space.scalar p n prime) (Space.scalar_map p n prime)) (Space.Inside p n prime hs) (Space.ideal p n prime hs) f i

  zero_or_not : (f : Member p n) → Dec (V.◌≋◌ f V.origin)
  zero_or_not f = go (member_or_not f.terms f.is_poly)
    where
      go : Dec (InIdeal p n hs f.terms) → Dec (V.◌≋◌ f V.origin)
      go (yes i) = yes (zero f i)
      go (no k) = no (λ e. k (modulo_origin (Space.K p n prime) (through (Space.K p n prime) (Space.Ring p n prime) (Space.scalar p n prime) (Space.scalar_map p n prime)) (Space.Inside p n prime hs) (Space.ideal p n prime hs) f e))

  module _ (m : Monomial) (a : IsAffine n m) where
    abbrev ws : List Monomial
    ws = (smaller n m).kept

    ws_polys : All (IsPoly p n) (map polynomial_of ws)
    ws_polys = monomial_polys p n prime ws (All-weaker (IsBelow n m) (IsAffine n) (λ w b. b.0) ws (smaller n m).holds)

    abbrev vs : List (Member p n)
    vs = lift p n (map polynomial_of ws) ws_polys

    abbrev whole : Member p n
    whole = record { terms = polynomial_of m; is_poly = monomial_poly p n prime m a }

    from_span : InSpan V.ops vs whole → IsMonicLead p n hs m
    from_span s = (
      sub p [] (sum_of p s.0 ws),
      subst (InIdeal p n hs)
          (ap (sub p (polynomial_of m)) (Space.combination-numbers p n prime s.0 (map polynomial_of ws) ws_polys)
          ∙ lead_stays p n (at m) [] (sum_of p s.0 ws) (pos p n prime) whole.is_poly poly low) s.2,
    )
      where
        low : EachMono (λ w. cmp_dp w m ≡ Less) (sum_of p s.0 ws)
        low = every_more (Contains ws) (λ w. cmp_dp w m ≡ Less) (sum_of p s.0 ws) (λ w k. (All-contains (IsBelow n m) ws w (smaller n m).holds k).1) (sum_within p s.0 ws)

        poly : IsPoly p n (sum_of p s.0 ws)
        poly = subst (IsPoly p n) (Space.combination-numbers p n prime s.0 (map polynomial_of ws) ws_polys) (combination (module_through (Space.Ring p n prime).ops (Space.scalar p n prime)) s.0 vs).is_poly

    to_span : IsLead p n hs m → InSpan V.ops vs whole
    to_span (t, f, i, e) = go ((residue_field p prime).zero_or_inverse t.coeff)
      where
        h : IsPoly p n (t ∷ f)
        h = in_poly p n hs (t ∷ f) (pos p n prime) polys i

        tail : IsPoly p n f
        tail = record { canonical = h.canonical.3; affine = h.affine.1 }

        among : EachMono (Contains ws) f
        among =
            every_more (λ w. IsAffine n w × (cmp_dp w t.mono ≡ Less)) (Contains ws) f (λ w b. each_smaller n m a w (b.0, ap (cmp_dp w) (sym e) ∙ b.1))
            (every_zip (IsAffine n) (λ w. cmp_dp w t.mono ≡ Less) f h.affine.1 (below_lead p t f h.canonical))

        span : IsSubmodule V.ops (InSpan V.ops vs)
        span = Modules.span_submodule (Space.K p n prime) V vs

        rest : Member p n
        rest = record { terms = f; is_poly = tail }

        sum_zero : V.◌≋◌ (V.◌⊞◌ (V.◌·◌ t.coeff whole) rest) V.origin
        sum_zero =
            V.trans {x = V.◌⊞◌ (V.◌·◌ t.coeff whole) rest} {y = record { terms = t ∷ f; is_poly = h }} {z = V.origin}
            (taken_apart p n prime hs t f h tail whole (ap polynomial_of (sym e))) (zero (record { terms = t ∷ f; is_poly = h }) i)

        go : (t.coeff % p ≡ 0 % p) ⊎ ((c : ℕ) × ((c * t.coeff) % p) % p ≡ 1 % p) → InSpan V.ops vs whole
        go (inl z) = absurd (let q : t.coeff ≡ 0 = sym (mod-eq_of_lt h.canonical.1) ∙ z ∙ mod-eq_of_lt (pos p n prime) in let r = h.canonical.0 in omega arith)
        go (inr c) = solved p (pos p n prime) V zero_or_not (InSpan V.ops vs) span t.coeff c.0 c.1 whole rest sum_zero (spread p n prime hs ws ws_polys f tail among)

    pub monic_lead_or_not : IsMonicLead p n hs m ⊎ (IsLead p n hs m → ⊥)
    monic_lead_or_not = go (span_or_not p (pos p n prime) V zero_or_not vs whole)
      where
        go : Dec (InSpan V.ops vs whole) → IsMonicLead p n hs m ⊎ (IsLead p n hs m → ⊥)
        go (yes s) = inl (from_span s)
        go (no k) = inr (λ l. k (to_span l))

  pub lead_affine : (m : Monomial) → IsLead p n hs m → IsAffine n m
  lead_affine m (t, f, i, e) = subst (IsAffine n) e (in_poly p n hs (t ∷ f) (pos p n prime) polys i).affine.0

  pub lead_or_not : (m : Monomial) → Dec (IsLead p n hs m)
  lead_or_not m = go (affine_or_not n m)
    where
      found : IsMonicLead p n hs m ⊎ (IsLead p n hs m → ⊥) → Dec (IsLead p n hs m)
      found (inl g) = yes (at m, g.0, g.1, refl)
      found (inr k) = no k

      go : IsAffine n m ⊎ (IsAffine n m → ⊥) → Dec (IsLead p n hs m)
      go (inl a) = found (monic_lead_or_not m a)
      go (inr o) = no (λ l. o (lead_affine m l))
