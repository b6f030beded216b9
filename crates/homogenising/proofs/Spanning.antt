-- Members with all leads span an ideal, and are its reduced basis where none is superfluous.
use Rattle.std.proofs.Common.{◌≤◌, ◌≡◌, ◌↔◌, ℕ, ◌+◌, ◌*◌, ◌-◌, ◌%◌, ◌<◌, zero, suc, List, [], ◌∷◌, ◌++◌, length, map, refl, sym, ap, ◌∙◌, subst, arith}
use Rattle.std.specs.declared.cmp.Ordering.TheVariants.{Less, Greater}
use Rattle.std.specs.List.{All, AllPairs, Contains}
use Rattle.std.proofs.lemmas.List.Elements.{All-nil, All-cons, All-head, All-tail, All-contains}
use native.Mathlib.Nat.{mod-eq_of_lt}
use Rattle.monomials.specs.Mono.{Monomial, pointwise, times, Divides, cmp_dp, total_degree}
use Rattle.monomials.proofs.Exponents.{total_degree-plus}
use Rattle.monomials.proofs.Factors.{divides_law, divides_trans, divides_both}
use Rattle.monomials.proofs.Order.{times_comm, turn_down}
use Rattle.prime_field.specs.Primes.{IsPrime}
use Rattle.prime_field.proofs.Table.{positive_of_prime, above_one}
use Rattle.polys.specs.declared.term.Term.{Term}
use Rattle.polys.specs.Terms.{EachMono, IsAffine, IsCanonical, IsPoly, IsMonic, OnlyFirst, add, sub, mul, multiple, degree_of}
use Rattle.polys.specs.Ideal.{InIdeal, combination}
use Rattle.polys.specs.Reduced.{leads, lower_monos, IsLead, IsMinimalLead, IsReducedBasis}
use Rattle.polys.proofs.Affine.{poly_sub, poly_mul, sevens_of}
use Rattle.polys.proofs.Each.{every_more, every_normal, every_append, every_multiple}
use Rattle.ideal_laws.proofs.Unique.{contains_head}
use Rattle.ideal_laws.proofs.Differences.{sub_cons, sub_add, less_difference}
use Rattle.ideal_laws.proofs.Ideals.{in_none, in_add, in_sub, in_mul, in_poly, in_generator}
use Rattle.polys.proofs.Leads.{lead_of_mul, every_low}
use Rattle.polys.proofs.Weights.{canon}
use Rattle.graded_modules.specs.Vector.{lead_mono}
use Rattle.graded_modules.specs.Module.{IsLeadMultiple}
use Rattle.graded_modules.specs.Bases.{AreApart}
use Rattle.homogenising.specs.Laws.{ReducedByAffineLeads, RemainderDecides}
use Rattle.homogenising.proofs.Descent.{Step, descent}
use Rattle.homogenising.proofs.Apart.{apart_same, lead_contained, contained_lead}

only_factor : (n : ℕ) (a c : List ℕ) → length a ≡ length c → OnlyFirst n (pointwise (λ x y. x + y) a c) → OnlyFirst n c
only_factor n [] [] l o = tt
only_factor n [] (y ∷ c) l o = absurd (omega arith)
only_factor n (x ∷ a) [] l o = tt
only_factor zero (x ∷ a) (y ∷ c) l o = let z = o.0 in ((omega arith), only_factor zero a c (omega arith) o.1)
only_factor (suc n) (x ∷ a) (y ∷ c) l o = only_factor n a c (omega arith) o

-- what an affine divisor lacks of an affine monomial is affine
affine_factor : (n : ℕ) (a b : Monomial) → IsAffine n a → IsAffine n b → Divides a b → (c : Monomial) × IsAffine n c × (b ≡ times a c)
affine_factor n a b g h d =
    let r = (divides_law a b (g.seven ∙ sym h.seven)).0 d in (
      r.0,
      record {
        seven = sym r.1 ∙ g.seven;
        first = only_factor n a.exponents r.0.exponents r.1 (subst (λ (w : Monomial). OnlyFirst n w.exponents) r.3 h.first);
        plain = r.2;
      },
      r.3,
    )

module _ (p n : ℕ) (prime : IsPrime p) where
  pub pos : 0 < p
  pos = positive_of_prime p prime

  pub two : 1 < p
  two = above_one p prime

  abbrev pub Low : Monomial → Monomial → Type 0
  Low m x = cmp_dp x m ≡ Less

  lows : (t : Term) (f : List Term) → IsCanonical p (t ∷ f) → EachMono (Low t.mono) f
  lows t f c =
      every_more (λ w. cmp_dp t.mono w ≡ Greater) (Low t.mono) f (λ w e. turn_down t.mono w e) (every_low p t.mono f (canon p f c.3) c.2)

  -- two polynomials with the same lead
  lead_drops : (t : Term) (f g : List Term) → IsCanonical p (t ∷ f) → IsCanonical p g → (h : List Term) → g ≡ t ∷ h → EachMono (Low t.mono) (sub p (t ∷ f) g)
  lead_drops t f g c d h e =
      subst (EachMono (Low t.mono)) (sym (ap (sub p (t ∷ f)) e ∙ sub_cons p t f h pos))
      (every_normal (Low t.mono) p (f ++ multiple p (p - 1) h)
      (every_append (Low t.mono) f (multiple p (p - 1) h) (lows t f c) (every_multiple (Low t.mono) p (p - 1) h (lows t h (subst (IsCanonical p) e d)))))

  -- the monic b, times what its lead lacks of t, cancels t
  pub cancel : (t : Term) (f b : List Term) → IsPoly p n (t ∷ f) → IsPoly p n b → IsMonic b → Divides (lead_mono b) t.mono
      → (a : List Term) × IsPoly p n a × EachMono (Low t.mono) (sub p (t ∷ f) (mul p a b)) × (degree_of a ≤ total_degree t.mono.exponents)
  cancel t f [] hf hb m d = absurd m
  cancel t f (u ∷ g) hf hb m d = (w ∷ [], poly, lead_drops t f (mul p (w ∷ []) (u ∷ g)) hf.canonical (poly_mul p n (w ∷ []) (u ∷ g) pos poly hb).canonical product.0 same, low)
    where
      c : (c : Monomial) × IsAffine n c × (t.mono ≡ times u.mono c)
      c = affine_factor n u.mono t.mono hb.affine.0 hf.affine.0 d

      w : Term
      w = record { coeff = t.coeff; mono = c.0 }

      low : degree_of (w ∷ []) ≤ total_degree t.mono.exponents
      low = let e = ap (λ (m : Monomial). total_degree m.exponents) c.2 ∙ total_degree-plus u.mono.exponents c.0.exponents in omega arith

      poly : IsPoly p n (w ∷ [])
      poly = record { canonical = (hf.canonical.0, hf.canonical.1, tt, tt); affine = (c.1, tt) }

      product : (h : List Term) × (mul p (w ∷ []) (u ∷ g) ≡ record { coeff = (t.coeff * u.coeff) % p; mono = times c.0 u.mono } ∷ h)
      product = lead_of_mul p w u [] g prime poly.canonical hb.canonical (sevens_of p n (w ∷ []) poly) (sevens_of p n (u ∷ g) hb)

      coeff : (t.coeff * u.coeff) % p ≡ t.coeff
      coeff = (let e : t.coeff * u.coeff ≡ t.coeff = ap (λ (k : ℕ). t.coeff * k) m ∙ (omega arith) in ap (λ (k : ℕ). k % p) e) ∙ mod-eq_of_lt hf.canonical.1

      mono : times c.0 u.mono ≡ t.mono
      mono = times_comm c.0 u.mono ∙ sym c.2

      same : mul p (w ∷ []) (u ∷ g) ≡ t ∷ product.0
      same = product.1 ∙ (λ i. record { coeff = coeff i; mono = mono i } ∷ product.0)

  -- a condition that sums, differences and multiples keep
  pub record IsIdeal (C : List Term → Type 0) : Type 0 where
    pub polys : (f : List Term) → C f → IsPoly p n f
    pub none : C []
    pub add : (f g : List Term) → C f → C g → C (add p f g)
    pub sub : (f g : List Term) → C f → C g → C (sub p f g)
    pub mul : (a f : List Term) → IsPoly p n a → C f → C (mul p a f)

  pub generated : (is : List (List Term)) → All (IsPoly p n) is → IsIdeal (InIdeal p n is)
  generated is hi =
      record {
        polys = λ f r. in_poly p n is f pos hi r;
        none = in_none p n is;
        add = λ f g r q. in_add p n is f g pos r q;
        sub = λ f g r q. in_sub p n is f g pos (in_poly p n is g pos hi q) r q;
        mul = λ a f h r. in_mul p n is a f pos h r;
      }

  -- the ideal of members is no larger
  pub held : (C : List Term → Type 0) (ds : List (List Term)) → IsIdeal C → All C ds → (f : List Term) → InIdeal p n ds f → C f
  held C ds c mem f r = subst C (sym r.combined) (go r.factors ds r.polys mem)
    where
      go : (qs ds : List (List Term)) → All (IsPoly p n) qs → All C ds → C (combination p qs ds)
      go [] ds a m = c.none
      go (q ∷ qs) [] a m = c.none
      go (q ∷ qs) (d ∷ ds) a m =
          c.add (mul p q d) (combination p qs ds) (c.mul q d (All-head (IsPoly p n) q qs a) (All-head C d ds m))
          (go qs ds (All-tail (IsPoly p n) q qs a) (All-tail C d ds m))

  module _ (C : List Term → Type 0) (c : IsIdeal C) (ds : List (List Term)) (mem : All C ds) (mon : All IsMonic ds)
      (all : (t : Term) (f : List Term) → C (t ∷ f) → IsLeadMultiple ds t.mono) where
    hd : All (IsPoly p n) ds
    hd = All-map-of ds mem
      where
        All-map-of : (ds : List (List Term)) → All C ds → All (IsPoly p n) ds
        All-map-of [] m = All-nil (IsPoly p n)
        All-map-of (d ∷ ds) m = All-cons (IsPoly p n) d ds (c.polys d (All-head C d ds m)) (All-map-of ds (All-tail C d ds m))

    abbrev Down : Monomial → Type 0
    Down m = (t : Term) (f : List Term) → t.mono ≡ m → C (t ∷ f) → InIdeal p n ds (t ∷ f)

    down_step : Step Down
    down_step m s ih t f e r = subst (InIdeal p n ds) back (in_add p n ds g (mul p cn.0 d.0) pos rest (in_mul p n ds cn.0 d.0 pos cn.1 (in_generator p n ds d.0 two hd d.1)))
      where
        hf : IsPoly p n (t ∷ f)
        hf = c.polys (t ∷ f) r

        d : IsLeadMultiple ds t.mono
        d = all t f r

        hb : IsPoly p n d.0
        hb = All-contains (IsPoly p n) ds d.0 hd d.1

        cn : (a : List Term) × IsPoly p n a × EachMono (Low t.mono) (sub p (t ∷ f) (mul p a d.0)) × (degree_of a ≤ total_degree t.mono.exponents)
        cn = cancel t f d.0 hf hb (All-contains IsMonic ds d.0 mon d.1) d.2

        g : List Term
        g = sub p (t ∷ f) (mul p cn.0 d.0)

        back : add p g (mul p cn.0 d.0) ≡ t ∷ f
        back = sub_add p (t ∷ f) (mul p cn.0 d.0) pos hf.canonical

        inside : C g
        inside = c.sub (t ∷ f) (mul p cn.0 d.0) r (c.mul cn.0 d.0 cn.1 (All-contains C ds d.0 mem d.1))

        go : (w : List Term) → EachMono (Low t.mono) w → C w → InIdeal p n ds w
        go [] l k = in_none p n ds
        go (v ∷ w) l k =
            let a = (c.polys (v ∷ w) k).affine.0 in
            ih v.mono (record { seven = a.seven; plain = a.plain }) (ap (cmp_dp v.mono) (sym e) ∙ l.0) v w refl k

        rest : InIdeal p n ds g
        rest = go g cn.2 inside

    -- members with all leads span the ideal
    pub spans : (f : List Term) → C f → InIdeal p n ds f
    spans [] r = in_none p n ds
    spans (t ∷ f) r =
        let a = (c.polys (t ∷ f) r).affine.0 in
        descent Down down_step t.mono (record { seven = a.seven; plain = a.plain }) t f refl r

    pub same_ideal : (f : List Term) → InIdeal p n ds f ↔ C f
    same_ideal f = (held C ds c mem f, spans f)

    -- a lead of the ideal that divides the lead of a member is that lead
    only_itself : AreApart ds → (b : List Term) → Contains ds b → (w : Monomial) → IsLead p n ds w → Divides w (lead_mono b) → w ≡ lead_mono b
    only_itself apart b c w (t, f, r, e) d =
        let k = all t f ((same_ideal (t ∷ f)).0 r) in
        let l : Divides (lead_mono k.0) w = subst (Divides (lead_mono k.0)) e k.2 in
        let s : k.0 ≡ b = apart_same ds b k.0 apart c k.1 (divides_trans (lead_mono k.0) w (lead_mono b) l d) in
        let up : Divides (lead_mono b) w = subst (λ q. Divides (lead_mono q) w) s l in
        divides_both w (lead_mono b) (sevens w t f r e ∙ sym (seven_lead b (All-contains (IsPoly p n) ds b hd c))) d up
      where
        sevens : (w : Monomial) (t : Term) (f : List Term) → InIdeal p n ds (t ∷ f) → t.mono ≡ w → length w.exponents ≡ 7
        sevens w t f r e = ap (λ (m : Monomial). length m.exponents) (sym e) ∙ (in_poly p n ds (t ∷ f) pos hd r).affine.0.seven

        seven_lead : (b : List Term) → IsPoly p n b → length (lead_mono b).exponents ≡ 7
        seven_lead [] h = refl
        seven_lead (t ∷ f) h = h.affine.0.seven

    member_lead : (b : List Term) → Contains ds b → IsLead p n ds (lead_mono b)
    member_lead b c = go b (All-contains IsMonic ds b mon c) (in_generator p n ds b two hd c)
      where
        go : (b : List Term) → IsMonic b → InIdeal p n ds b → IsLead p n ds (lead_mono b)
        go [] m r = absurd m
        go (t ∷ f) m r = (t, f, r, refl)

    pub reduced : AllPairs (λ m w. cmp_dp m w ≡ Less) (leads ds) → AreApart ds
        → ((q : List Term) → Contains ds q → (m : Monomial) → Contains (lower_monos q) m → IsLeadMultiple ds m → ⊥) → IsReducedBasis p n C ds
    reduced rising apart low =
        record {
          reduced = record {
            polys = hd;
            monic = mon;
            rising = rising;
            minimal = λ m. (least m, found m);
            lower = λ q c m k l. low q c m k (multiple m l);
          };
          exact = λ f h. same_ideal f;
        }
      where
        multiple : (m : Monomial) → IsLead p n ds m → IsLeadMultiple ds m
        multiple m (t, f, r, e) = subst (IsLeadMultiple ds) e (all t f ((same_ideal (t ∷ f)).0 r))

        least : (m : Monomial) → Contains (leads ds) m → IsMinimalLead p n ds m
        least m c =
            let k = contained_lead ds m c in
            subst (IsMinimalLead p n ds) k.3 (member_lead (k.0 ∷ k.1) k.2, only_itself apart (k.0 ∷ k.1) k.2)

        found : (m : Monomial) → IsMinimalLead p n ds m → Contains (leads ds) m
        found m h =
            let k = multiple m h.0 in
            subst (Contains (leads ds)) (h.1 (lead_mono k.0) (member_lead k.0 k.1) k.2) (lead_contained ds k.0 mon k.1)

pub reduced_law : ReducedByAffineLeads
reduced_law p n is ds prime hi h mem all mon rising apart low = reduced p n prime (InIdeal p n is) (generated p n prime is hi) ds mem mon all rising apart low

pub decides_law : RemainderDecides
decides_law p n is ds v r prime hi all hv hr inside out = (zero, member)
  where
    h : 0 < p
    h = pos p n prime

    zero : r ≡ [] → InIdeal p n is v
    zero e =
        subst (InIdeal p n is) (sub_add p v r h hv.canonical) (in_add p n is (sub p v r) r h inside (subst (InIdeal p n is) (sym e) (in_none p n is)))

    rest : InIdeal p n is v → InIdeal p n is r
    rest k =
        subst (InIdeal p n is) (less_difference p v r h hv.canonical hr.canonical)
        (in_sub p n is v (sub p v r) h (poly_sub p n v r h hv hr) k inside)

    member : InIdeal p n is v → r ≡ []
    member k = go r (rest k) out
      where
        go : (r : List Term) → InIdeal p n is r → ((m : Monomial) → Contains (map (λ t. t.mono) r) m → IsLeadMultiple ds m → ⊥) → r ≡ []
        go [] q o = refl
        go (t ∷ f) q o = absurd (o t.mono (contains_head t.mono (map (λ u. u.mono) f)) (all t f q))
