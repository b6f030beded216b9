-- Reduced bases, and the normal form.
use Rattle.std.proofs.Common.{◌≡◌, ◌⊎◌, inl, inr, ℕ, ◌+◌, ◌-◌, ◌*◌, ◌%◌, ◌<◌, zero, suc, List, [], ◌∷◌, map, get_or, refl, sym, ap, ◌∙◌, subst, arith}
use native.Mathlib.Nat.{mod-eq_of_lt}
use Rattle.std.specs.List.{All, Contains}
use Rattle.std.proofs.lemmas.List.Elements.{All-contains, All-weaker, All-head, All-tail, Contains-get_or}
use Rattle.monomials.specs.Mono.{Monomial, times, Divides}
use Rattle.prime_field.specs.Primes.{IsPrime}
use Rattle.polys.specs.declared.term.Term.{Term}
use Rattle.polys.specs.Terms.{EachMono, IsMonic, sub, mul, multiple}
use Rattle.polys.specs.Reduced.{leads}
use Rattle.polys.proofs.Sums.{add_comm}
use Rattle.polys.proofs.Units.{canonical_same}
use Rattle.polys.proofs.Each.{every_more, every_add, every_multiple}
use Rattle.polys.proofs.Products.{times_term}
use Rattle.ideal_laws.proofs.Unique.{contains_head, contains_tail, contains_cases, contains_none}
use Rattle.graded_modules.specs.Vector.{IsGraded, IsGradedVector, IsGenerator, IsOfDegree, degree_at, lead_mono}
use Rattle.graded_modules.specs.Module.{InModule, IsModuleLead, IsLeast, IsLeadMultiple}
use Rattle.graded_modules.specs.SVector.{cofactor}
use Rattle.graded_modules.specs.Bases.{AreApart, HasAllLeads, SpanOneModule}
use Rattle.graded_modules.specs.Laws.{ReducedByLeads, RemainderIsNormal}
use Rattle.graded_modules.proofs.Graded.{each_seven, lead_graded}
use Rattle.graded_modules.proofs.Members.{in_none, in_add, in_sub, in_product, in_generator, in_vector, in_larger}
use Rattle.graded_modules.proofs.Cofactors.{same_shape, graded_cofactor, times_cofactor}
use Rattle.monomials.proofs.Factors.{divides_trans, divides_both}
use Rattle.ideal_laws.proofs.Differences.{from_sub, to_sub, sub_cons, sub_none}
use Rattle.graded_modules.proofs.Tops.{Lower, tail_below, product_is, product_below}
use Rattle.graded_modules.proofs.SVectors.{product_degree}
use Rattle.prime_field.proofs.Table.{positive_of_prime, above_one}
use Rattle.graded_modules.proofs.Ranks.{rank, rank_rises}
use Rattle.graded_modules.proofs.Bases.{apart_same}

-- ---- the leads of a list of monic vectors

lead_listed : (qs : List (List Term)) → All IsMonic qs → (q : List Term) → Contains qs q → Contains (leads qs) (lead_mono q)
lead_listed [] a q c = absurd (contains_none q c)
lead_listed ([] ∷ qs) a q c = absurd (All-head IsMonic [] qs a)
lead_listed ((t ∷ f) ∷ qs) a q c = go (lead_listed qs (All-tail IsMonic (t ∷ f) qs a) q) (contains_cases (t ∷ f) q qs c)
  where
    go : (Contains qs q → Contains (leads qs) (lead_mono q)) → ((t ∷ f) ≡ q) ⊎ Contains qs q → Contains (t.mono ∷ leads qs) (lead_mono q)
    go ih (inl e) = subst (λ w. Contains (t.mono ∷ leads qs) (lead_mono w)) e (contains_head t.mono (leads qs))
    go ih (inr k) = contains_tail t.mono (lead_mono q) (leads qs) (ih k)

listed_lead : (qs : List (List Term)) → All IsMonic qs → (m : Monomial) → Contains (leads qs) m → (q : List Term) × Contains qs q × (lead_mono q ≡ m)
listed_lead [] a m c = absurd (contains_none m c)
listed_lead ([] ∷ qs) a m c = absurd (All-head IsMonic [] qs a)
listed_lead ((t ∷ f) ∷ qs) a m c = go (listed_lead qs (All-tail IsMonic (t ∷ f) qs a) m) (contains_cases t.mono m (leads qs) c)
  where
    go : (Contains (leads qs) m → (q : List Term) × Contains qs q × (lead_mono q ≡ m)) → (t.mono ≡ m) ⊎ Contains (leads qs) m → (q : List Term) × Contains ((t ∷ f) ∷ qs) q × (lead_mono q ≡ m)
    go ih (inl e) = (t ∷ f, contains_head (t ∷ f) qs, e)
    go ih (inr k) = let x = ih k in (x.0, contains_tail (t ∷ f) x.0 qs x.1, x.2)

module _ (p n shift : ℕ) (gs qs : List (List Term)) (prime : IsPrime p) (given : All (IsGenerator p n shift) gs) (known : HasAllLeads p n gs qs)
    (members : All (InModule p n gs) qs) (vectors : All (IsGenerator p n shift) qs) (monic : All IsMonic qs) where
  pos : 0 < p
  pos = positive_of_prime p prime

  given_vectors : All (IsGradedVector p n) gs
  given_vectors = All-weaker (IsGenerator p n shift) (IsGradedVector p n) (λ f h. h.vector) gs given

  own_vectors : All (IsGradedVector p n) qs
  own_vectors = All-weaker (IsGenerator p n shift) (IsGradedVector p n) (λ f h. h.vector) qs vectors

  -- a homogeneous member less a multiple of a member of qs with its lead
  record IsStep (e : ℕ) (t : Term) (f : List Term) : Type 0 where
    next : List Term
    member : InModule p n gs next
    homogeneous : IsOfDegree shift e next
    lower : EachMono (Lower t.mono) next
    back : InModule p n qs next → InModule p n qs (t ∷ f)

  step : (e : ℕ) (t : Term) (f : List Term) → InModule p n gs (t ∷ f) → IsOfDegree shift e (t ∷ f) → IsStep e t f
  step e t f m h = go (known t.mono (t, f, m, refl))
    where
      v : IsGradedVector p n (t ∷ f)
      v = in_vector p n gs (t ∷ f) pos given_vectors m

      by : (q : List Term) → Contains qs q → Divides (lead_mono q) t.mono → IsStep e t f
      by [] c d = absurd (All-contains IsMonic qs [] monic c)
      by (u ∷ g) c d =
          let hq = All-contains (IsGenerator p n shift) qs (u ∷ g) vectors c in
          let one : u.coeff ≡ 1 = All-contains IsMonic qs (u ∷ g) monic c in
          let gq = hq.vector.graded.0 in
          let gt = v.graded.0 in
          let w : Term = record { coeff = t.coeff; mono = cofactor u.mono t.mono } in
          let gw = graded_cofactor n u.mono t.mono gq gt in
          let sevens = each_seven n (u ∷ g) hq.vector.graded in
          let product = mul p (u ∷ g) (w ∷ []) in
          let tail = map (times_term p w) g in
          let top_is : times u.mono w.mono ≡ t.mono = times_cofactor u.mono t.mono (same_shape n u.mono t.mono gq gt) d in
          let coeff_is : (u.coeff * t.coeff) % p ≡ t.coeff = let k : u.coeff * t.coeff ≡ t.coeff = rw one (omega arith) in ap (λ (x : ℕ). x % p) k ∙ mod-eq_of_lt v.canonical.1 in
          let whole : product ≡ t ∷ tail = product_is p w u g prime v.canonical.0 v.canonical.1 hq.vector.canonical sevens ∙ (λ i. record { coeff = coeff_is i; mono = top_is i } ∷ tail) in
          let drops : sub p (t ∷ f) product ≡ sub p f tail = ap (sub p (t ∷ f)) whole ∙ sub_cons p t f tail pos in
          let deg : IsOfDegree shift e product = subst (λ (x : ℕ). IsOfDegree shift x product) (ap (degree_at shift) top_is ∙ h.0) (product_degree p n shift (u ∷ g) w hq) in
          let inside = λ (hs : List (List Term)) (k : InModule p n hs (u ∷ g)). in_product p n hs (u ∷ g) (w ∷ []) pos (gw, tt) (refl, tt) k in
          record {
            next = sub p (t ∷ f) product;
            member = in_sub p n gs (t ∷ f) product pos m (inside gs (All-contains (InModule p n gs) qs (u ∷ g) members c));
            homogeneous = every_add (λ m. degree_at shift m ≡ e) p (t ∷ f) (multiple p (p - 1) product) h (every_multiple (λ m. degree_at shift m ≡ e) p (p - 1) product deg);
            lower = subst (EachMono (Lower t.mono)) (sym drops)
                (every_add (Lower t.mono) p f (multiple p (p - 1) tail) (tail_below p t f v.canonical)
                (every_multiple (Lower t.mono) p (p - 1) tail (subst (λ x. EachMono (Lower x) tail) top_is (product_below p w u g hq.vector.canonical sevens))));
            back = λ k. subst (InModule p n qs) (sym (from_sub p (t ∷ f) product (sub p (t ∷ f) product) pos refl) ∙ canonical_same p (t ∷ f) v.canonical)
                (in_add p n qs product (sub p (t ∷ f) product) pos (inside qs (in_generator p n qs (u ∷ g) (above_one p prime) own_vectors c)) k);
          }

      go : IsLeadMultiple qs t.mono → IsStep e t f
      go x = by x.0 x.1 x.2

  below_rank : (e N : ℕ) (m : Monomial) (f : List Term) → IsGraded n m → degree_at shift m ≡ e → rank e m < suc N → EachMono (IsGraded n) f → IsOfDegree shift e f → EachMono (Lower m) f → EachMono (λ w. rank e w < N) f
  below_rank e N m [] gm dm r g d l = tt
  below_rank e N m (t ∷ f) gm dm r g d l = (let x = rank_rises n shift e t.mono m g.0 gm d.0 dm l.0 in omega arith, below_rank e N m f gm dm r g.1 d.1 l.1)

  descend : (e N : ℕ) (f : List Term) → InModule p n gs f → IsOfDegree shift e f → EachMono (λ w. rank e w < N) f → InModule p n qs f
  descend e N [] m h r = in_none p n qs
  descend e zero (t ∷ f) m h r = let x = r.0 in absurd (omega arith)
  descend e (suc N) (t ∷ f) m h r =
      let s = step e t f m h in
      let v = (in_vector p n gs (t ∷ f) pos given_vectors m).graded.0 in
      s.back (descend e N s.next s.member s.homogeneous
      (below_rank e N t.mono s.next v h.0 r.0 (in_vector p n gs s.next pos given_vectors s.member).graded s.homogeneous s.lower))

  bounded : (e : ℕ) (f : List Term) → (N : ℕ) × EachMono (λ w. rank e w < N) f
  bounded e [] = (0, tt)
  bounded e (t ∷ f) =
      let x = bounded e f in
      let N = suc (rank e t.mono) + x.0 in
      (N, ((omega arith), every_more (λ w. rank e w < x.0) (λ w. rank e w < N) f (λ w l. omega arith) x.1))

  each_inside : All (InModule p n qs) gs
  each_inside k d l =
      let g = get_or gs k d in
      let hg = given k d l in
      let b = bounded hg.homogeneous.0 g in
      descend hg.homogeneous.0 b.0 g (in_generator p n gs g (above_one p prime) given_vectors (Contains-get_or gs k d l)) hg.homogeneous.1 b.1

  pub one_module : SpanOneModule p n gs qs
  one_module f = (in_larger p n gs qs f pos each_inside, in_larger p n qs gs f pos members)

  -- ---- the reduced basis

  own_leads : HasAllLeads p n qs qs
  own_leads m (t, f, a, e) = known m (t, f, (one_module (t ∷ f)).1 a, e)

  own_lead : (q : List Term) → Contains qs q → IsModuleLead p n qs (lead_mono q)
  own_lead q c = go q c (in_generator p n qs q (above_one p prime) own_vectors c)
    where
      go : (q : List Term) → Contains qs q → InModule p n qs q → IsModuleLead p n qs (lead_mono q)
      go [] c k = absurd (All-contains IsMonic qs [] monic c)
      go (t ∷ f) c k = (t, f, k, refl)

  lead_shape : (m : Monomial) → IsModuleLead p n qs m → IsGraded n m
  lead_shape m (t, f, a, e) = subst (IsGraded n) e ((in_vector p n qs (t ∷ f) pos own_vectors a).graded.0)

  listed_least : AreApart qs → (m : Monomial) → Contains (leads qs) m → IsLeast (IsModuleLead p n qs) m
  listed_least apart m c =
      let x = listed_lead qs monic m c in (
        subst (IsModuleLead p n qs) x.2 (own_lead x.0 x.1),
        λ w k d.
            let y = own_leads w k in
            let dq : Divides w (lead_mono x.0) = subst (Divides w) (sym x.2) d in
            let same : y.0 ≡ x.0 = apart_same qs apart y.0 x.0 y.1 x.1 (divides_trans (lead_mono y.0) w (lead_mono x.0) y.2 dq) in
            divides_both w m (same_shape n w m (lead_shape w k) (subst (IsGraded n) x.2 (lead_graded n x.0 (All-contains (IsGradedVector p n) qs x.0 own_vectors x.1).graded))) d
            (subst (λ v. Divides v w) (ap lead_mono same ∙ x.2) y.2),
      )

  least_listed : (m : Monomial) → IsLeast (IsModuleLead p n qs) m → Contains (leads qs) m
  least_listed m k =
      let x = own_leads m k.0 in
      subst (Contains (leads qs)) (k.1 (lead_mono x.0) (own_lead x.0 x.1) x.2) (lead_listed qs monic x.0 x.1)

pub reduced_law : ReducedByLeads
reduced_law p n shift gs qs prime given known members vectors monic rising apart low = (
  record {
    vectors = vectors;
    monic = monic;
    rising = rising;
    minimal = λ m. (listed_least p n shift gs qs prime given known members vectors monic apart m, least_listed p n shift gs qs prime given known members vectors monic m);
    lower = λ q c m k l. low q c m k (own_leads p n shift gs qs prime given known members vectors monic m l);
    all_leads = own_leads p n shift gs qs prime given known members vectors monic;
  },
  one_module p n shift gs qs prime given known members vectors monic,
)

-- ---- the normal form

pub normal_law : RemainderIsNormal
normal_law p n shift qs v r prime h hv hr member low = record {
  difference = member;
  outside = outside;
  zero = (λ e. subst (InModule p n qs) (ap (sub p v) e ∙ sub_none p v pos ∙ canonical_same p v hv.canonical) member, λ k. go r refl (inside k));
}
  where
    pos : 0 < p
    pos = positive_of_prime p prime

    outside : (m : Monomial) → Contains (map (λ t. t.mono) r) m → IsModuleLead p n qs m → ⊥
    outside m c l = low m c (h.all_leads m l)

    -- r is v less the difference
    inside : InModule p n qs v → InModule p n qs r
    inside k =
        subst (InModule p n qs)
        (to_sub p v (sub p v r) r pos (from_sub p v r (sub p v r) pos refl ∙ add_comm p r (sub p v r)) ∙ canonical_same p r hr.canonical)
        (in_sub p n qs v (sub p v r) pos k member)

    go : (w : List Term) → r ≡ w → InModule p n qs w → w ≡ []
    go [] e k = refl
    go (t ∷ w) e k = absurd (outside t.mono (subst (λ x. Contains (map (λ t. t.mono) x) t.mono) (sym e) (contains_head t.mono (map (λ t. t.mono) w))) (t, w, k, refl))
