-- The first parts of a basis of the module generate the ideal of the denominator and the generators.
use Rattle.std.proofs.Common.{◌≡◌, ◌⊎◌, inl, inr, ℕ, ◌<◌, zero, suc, List, [], ◌∷◌, cond, Bool, true, false, ◌==◌, refl, sym, ap, ◌∙◌, subst, arith, eqb-true}
use Rattle.std.proofs.lemmas.Bool.{eqb-false}
use Rattle.std.specs.declared.cmp.Ordering.TheVariants.{Less, Greater}
use Rattle.std.specs.Ordering.{nat_cmp}
use Rattle.std.specs.Cmp.{nat_cmp_is}
use Rattle.std.specs.List.{All, Contains}
use Rattle.std.proofs.lemmas.List.Elements.{All-nil, All-cons, All-head, All-tail}
use Rattle.monomials.specs.Mono.{Monomial, Divides, cmp_dp}
use Rattle.monomials.proofs.Last.{by_component}
use Rattle.polys.specs.declared.term.Term.{Term}
use Rattle.polys.specs.Terms.{EachMono, IsCanonical, IsPoly, IsMonic, degree_of}
use Rattle.polys.specs.Poly.{IsPlain}
use Rattle.polys.specs.Ideal.{InIdeal}
use Rattle.polys.proofs.Each.{every_more, every_zip}
use Rattle.ideal_laws.proofs.Ideals.{in_larger}
use Rattle.polys.proofs.Leads.{every_low}
use Rattle.ideal_laws.proofs.Unique.{contains_head, contains_tail, contains_cases, contains_none}
use Rattle.polys.proofs.Weights.{canon}
use Rattle.graded_modules.specs.Vector.{IsGraded, IsGradedVector, IsGenerator, IsOfDegree, degree_at, lead_mono}
use Rattle.graded_modules.specs.Module.{InModule, IsLeadMultiple}
use Rattle.graded_modules.specs.Bases.{HasAllLeads}
use Rattle.graded_modules.proofs.Members as members
use Rattle.homogenising.specs.Homogenised.{homogenised, dehomogenised, all_homogenised, all_dehomogenised}
use Rattle.homogenising.specs.Laws.{IsHomogeneousPoly, HasAffineLeads, LeadsStay}
use Rattle.homogenising.proofs.Lifted.{homogenised_law, dehomogenised_law}
use Rattle.homogenising.proofs.Stays.{module_cons, lower_polys, stays_law}
use Rattle.homogenising.proofs.Spanning.{generated, same_ideal}
use Rattle.denominator_module.specs.Module.{module_of, first, second, sum_members}
use Rattle.denominator_module.specs.Laws.{AreGiven, IsModuleBasis, Generates}
use Rattle.denominator_module.proofs.Components.{every_first, plain_first, canonical_first}
use Rattle.denominator_module.proofs.Pairs.{pos, two, plain_degree, homogeneous_d, homogeneous_gs, pairs, has_first}

-- the first parts, still homogeneous
abbrev pub firsts_of : List (List Term) → List (List Term)
firsts_of [] = []
firsts_of (b ∷ bs) = cond ((lead_mono b).component == 0) (first b ∷ firsts_of bs) (firsts_of bs)

pub sums_are : (p : ℕ) (bs : List (List Term)) → sum_members p bs ≡ all_dehomogenised p (firsts_of bs)
sums_are p [] = refl
sums_are p (b ∷ bs) = go ((lead_mono b).component == 0) (sums_are p bs)
  where
    go : (c : Bool) → sum_members p bs ≡ all_dehomogenised p (firsts_of bs)
        → cond c (dehomogenised p (first b) ∷ sum_members p bs) (sum_members p bs) ≡ all_dehomogenised p (cond c (first b ∷ firsts_of bs) (firsts_of bs))
    go true ih = λ i. dehomogenised p (first b) ∷ ih i
    go false ih = ih

pub all_firsts : (P Q : List Term → Type 0) (bs : List (List Term)) → ((b : List Term) → P b → (lead_mono b).component ≡ 0 → Q (first b)) → All P bs → All Q (firsts_of bs)
all_firsts P Q [] h a = All-nil Q
all_firsts P Q (b ∷ bs) h a = go ((lead_mono b).component == 0) refl (all_firsts P Q bs h (All-tail P b bs a))
  where
    go : (c : Bool) → ((lead_mono b).component == 0) ≡ c → All Q (firsts_of bs) → All Q (cond c (first b ∷ firsts_of bs) (firsts_of bs))
    go true e ih = All-cons Q (first b) (firsts_of bs) (h b (All-head P b bs a) (eqb-true (lead_mono b).component 0 e)) ih
    go false e ih = ih

pub all_from : (P : List Term → Type 0) (bs : List (List Term)) → ((b : List Term) → Contains bs b → P b) → All P bs
all_from P [] h = All-nil P
all_from P (b ∷ bs) h = All-cons P b bs (h b (contains_head b bs)) (all_from P bs (λ q c. h q (contains_tail b q bs c)))

contains_firsts : (bs : List (List Term)) (b : List Term) → Contains bs b → (lead_mono b).component ≡ 0 → Contains (firsts_of bs) (first b)
contains_firsts [] b c z = absurd (contains_none b c)
contains_firsts (q ∷ bs) b c z = go ((lead_mono q).component == 0) refl (contains_cases q b bs c) (contains_firsts bs b)
  where
    go : (k : Bool) → ((lead_mono q).component == 0) ≡ k → (q ≡ b) ⊎ Contains bs b → (Contains bs b → (lead_mono b).component ≡ 0 → Contains (firsts_of bs) (first b))
        → Contains (cond k (first q ∷ firsts_of bs) (firsts_of bs)) (first b)
    go true e (inl s) ih = subst (λ w. Contains (first q ∷ firsts_of bs) (first w)) s (contains_head (first q) (firsts_of bs))
    go true e (inr c) ih = contains_tail (first q) (first b) (firsts_of bs) (ih c z)
    go false e (inl s) ih = absurd (eqb-false (lead_mono q).component 0 e (ap (λ w. (lead_mono w).component) s ∙ z))
    go false e (inr c) ih = ih c z

pub lead_first : (b : List Term) → (lead_mono b).component ≡ 0 → lead_mono (first b) ≡ lead_mono b
lead_first [] z = refl
lead_first (t ∷ f) z = go (t.mono.component == 0) refl
  where
    go : (c : Bool) → (t.mono.component == 0) ≡ c → lead_mono (cond c (t ∷ first f) (first f)) ≡ t.mono
    go true e = refl
    go false e = absurd (eqb-false t.mono.component 0 e z)

monic_first : (b : List Term) → IsMonic b → (lead_mono b).component ≡ 0 → IsMonic (first b)
monic_first [] m z = absurd m
monic_first (t ∷ f) m z = go (t.mono.component == 0) refl
  where
    go : (c : Bool) → (t.mono.component == 0) ≡ c → IsMonic (cond c (t ∷ first f) (first f))
    go true e = m
    go false e = absurd (eqb-false t.mono.component 0 e z)

-- below a monomial of the second component all are of the second
pub none_first : (f : List Term) → EachMono (λ m. m.component ≡ 0 → ⊥) f → first f ≡ []
none_first [] h = refl
none_first (t ∷ f) h = go (t.mono.component == 0) refl (none_first f h.1)
  where
    go : (c : Bool) → (t.mono.component == 0) ≡ c → first f ≡ [] → cond c (t ∷ first f) (first f) ≡ []
    go true e ih = absurd (h.0 (eqb-true t.mono.component 0 e))
    go false e ih = ih

pub stays_second : (a b : Monomial) → (a.component ≡ 0 → ⊥) → cmp_dp a b ≡ Greater → b.component ≡ 0 → ⊥
stays_second a b h g z =
    let differ : a.component ≡ b.component → ⊥ = (λ e. h (e ∙ z)) in
    let up : nat_cmp b.component a.component ≡ Greater = by_component a b differ ∙ g in
    let down : Less ≡ nat_cmp b.component a.component = nat_cmp_is b.component a.component Less (below a.component b.component h z) in
    let no : Less ≡ Greater = down ∙ up in
    absurd (cc)
  where
    below : (x y : ℕ) → (x ≡ 0 → ⊥) → y ≡ 0 → y < x
    below zero y h z = absurd (h refl)
    below (suc x) y h z = omega arith

-- a vector with a first part begins with it
pub begins_first : (p : ℕ) (v : List Term) (t : Term) (f : List Term) → IsCanonical p v → first v ≡ t ∷ f → (g : List Term) × (v ≡ t ∷ g)
begins_first p [] t f c e = absurd (cc)
begins_first p (u ∷ g) t f c e = go (u.mono.component == 0) refl e
  where
    go : (k : Bool) → (u.mono.component == 0) ≡ k → cond k (u ∷ first g) (first g) ≡ t ∷ f → (h : List Term) × (u ∷ g ≡ t ∷ h)
    go true s e = (g, let q : u ≡ t = cc in λ i. q i ∷ g)
    go false s e =
        let n = eqb-false u.mono.component 0 s in
        let low = every_more (λ w. cmp_dp u.mono w ≡ Greater) (λ m. m.component ≡ 0 → ⊥) g (λ w x. stays_second u.mono w n x) (every_low p u.mono g (canon p g c.3) c.2) in
        let z : [] ≡ t ∷ f = sym (none_first g low) ∙ e in
        absurd (cc)

pub first_generator : (p n shift : ℕ) (b : List Term) → IsGenerator p n shift b → IsHomogeneousPoly p n (first b)
first_generator p n shift b h =
    record {
      generator = record {
        vector = record { canonical = canonical_first p b h.vector.canonical; graded = every_first (IsGraded n) b h.vector.graded };
        homogeneous = (h.homogeneous.0, degrees (first b) (plain_first b) (every_first (λ m. degree_at shift m ≡ h.homogeneous.0) b h.homogeneous.1));
      };
      plain = plain_first b;
    }
  where
    degrees : (f : List Term) → EachMono IsPlain f → IsOfDegree shift h.homogeneous.0 f → IsOfDegree 0 h.homogeneous.0 f
    degrees f a b =
        every_more (λ m. IsPlain m × (degree_at shift m ≡ h.homogeneous.0)) (λ m. degree_at 0 m ≡ h.homogeneous.0) f
        (λ m x. sym (plain_degree shift m x.0) ∙ x.1) (every_zip IsPlain (λ m. degree_at shift m ≡ h.homogeneous.0) f a b)

module _ (p n : ℕ) (d : List Term) (gs : List (List Term)) (given : AreGiven p n d gs) where
  above : 0 < p
  above = pos p n d gs given

  pub lower_all : (fs : List (List Term)) → All (IsPoly p n) fs → all_dehomogenised p (all_homogenised fs) ≡ fs
  lower_all [] a = refl
  lower_all (f ∷ fs) a =
      let e = homogenised_law.back p n f given.six (All-head (IsPoly p n) f fs a) in
      λ i. e i ∷ lower_all fs (All-tail (IsPoly p n) f fs a) i

  pub first_inside : (v : List Term) → InModule p n (module_of d gs) v → InModule p n (homogenised d ∷ all_homogenised gs) (first v)
  first_inside v r =
      let q = pairs p n d gs given v r in
      subst (InModule p n (homogenised d ∷ all_homogenised gs)) (sym q.sum) (module_cons p n given.six above (second v) (homogenised d) q.rest (all_homogenised gs) q.factor q.inside)

  module _ (bs : List (List Term)) (mb : IsModuleBasis p n d gs bs) where
    abbrev pub M : List (List Term)
    M = module_of d gs

    vectors_of : (bs : List (List Term)) → All (IsGenerator p n (degree_of d)) bs → All (IsGradedVector p n) bs
    vectors_of [] a = All-nil (IsGradedVector p n)
    vectors_of (b ∷ bs) a =
        All-cons (IsGradedVector p n) b bs (All-head (IsGenerator p n (degree_of d)) b bs a).vector (vectors_of bs (All-tail (IsGenerator p n (degree_of d)) b bs a))

    pub inside : (b : List Term) → Contains bs b → InModule p n M b
    inside b c = (mb.same b).1 (members.in_generator p n bs b (two p n d gs given) (vectors_of bs mb.vectors) c)

    pub all_inside : All (InModule p n M) bs
    all_inside = all_from (InModule p n M) bs inside

    pub homogeneous_firsts : All (IsHomogeneousPoly p n) (firsts_of bs)
    homogeneous_firsts = all_firsts (IsGenerator p n (degree_of d)) (IsHomogeneousPoly p n) bs (λ b h z. first_generator p n (degree_of d) b h) mb.vectors

    pub firsts_inside : All (InModule p n (all_homogenised (d ∷ gs))) (firsts_of bs)
    firsts_inside = all_firsts (InModule p n M) (InModule p n (all_homogenised (d ∷ gs))) bs (λ b r z. first_inside b r) all_inside

    -- the lead of a member of the module is a multiple of a lead of the basis
    pub lead_known : (t : Term) (g : List Term) → InModule p n M (t ∷ g) → IsLeadMultiple bs t.mono
    lead_known t g r = mb.all_leads t.mono (t, g, (mb.same (t ∷ g)).0 r, refl)

    pub member_vector : (v : List Term) → InModule p n M v → IsGradedVector p n v
    member_vector v r = members.in_vector p n bs v above (vectors_of bs mb.vectors) ((mb.same v).0 r)

    first_leads : HasAllLeads p n (all_homogenised (d ∷ gs)) (firsts_of bs)
    first_leads m (t, f, r, e) =
        let v = has_first p n d gs given (t ∷ f) r in
        let b = begins_first p v.0 t f (member_vector v.0 v.1).canonical v.2 in
        let k = lead_known t b.0 (subst (InModule p n M) b.1 v.1) in
        let plain : t.mono.component ≡ 0 = (subst (EachMono IsPlain) v.2 (plain_first v.0)).0 in
        let z : (lead_mono k.0).component ≡ 0 = k.2.same ∙ plain in
        (first k.0, contains_firsts bs k.0 k.1 z, subst (λ w. Divides w m) (sym (lead_first k.0 z)) (subst (Divides (lead_mono k.0)) e k.2))

    ms : List (List Term)
    ms = all_dehomogenised p (firsts_of bs)

    all_polys : All (IsPoly p n) (d ∷ gs)
    all_polys = All-cons (IsPoly p n) d gs given.denominator given.generators

    pub all_homogeneous : All (IsHomogeneousPoly p n) (all_homogenised (d ∷ gs))
    all_homogeneous = All-cons (IsHomogeneousPoly p n) (homogenised d) (all_homogenised gs) (homogeneous_d p n d gs given) (homogeneous_gs p n d gs given)

    pub stays : LeadsStay p n (all_homogenised (d ∷ gs)) (firsts_of bs)
    stays = stays_law p n (all_homogenised (d ∷ gs)) (firsts_of bs) given.prime given.six all_homogeneous homogeneous_firsts firsts_inside first_leads

    pub sum_inside : All (InIdeal p n (d ∷ gs)) (all_dehomogenised p (firsts_of bs))
    sum_inside = subst (λ w. All (InIdeal p n w) (all_dehomogenised p (firsts_of bs))) (lower_all (d ∷ gs) all_polys) stays.members

    pub sum_leads : HasAffineLeads p n (d ∷ gs) (all_dehomogenised p (firsts_of bs))
    sum_leads = subst (λ w. HasAffineLeads p n w (all_dehomogenised p (firsts_of bs))) (lower_all (d ∷ gs) all_polys) stays.leads

    lower_monic : (fs : List (List Term)) → All (IsHomogeneousPoly p n) fs → All IsMonic fs → All IsMonic (all_dehomogenised p fs)
    lower_monic [] a b = All-nil IsMonic
    lower_monic (f ∷ fs) a b =
        All-cons IsMonic (dehomogenised p f) (all_dehomogenised p fs) (dehomogenised_law.monic p n f given.six (All-head (IsHomogeneousPoly p n) f fs a) (All-head IsMonic f fs b))
        (lower_monic fs (All-tail (IsHomogeneousPoly p n) f fs a) (All-tail IsMonic f fs b))

    pub firsts_monic : All IsMonic (firsts_of bs)
    firsts_monic = all_firsts IsMonic IsMonic bs monic_first mb.monic

    pub sum_monic : All IsMonic (all_dehomogenised p (firsts_of bs))
    sum_monic = lower_monic (firsts_of bs) homogeneous_firsts firsts_monic

    pub sum_law : Generates p n (InIdeal p n (d ∷ gs)) (sum_members p bs)
    sum_law =
        subst (Generates p n (InIdeal p n (d ∷ gs))) (sym (sums_are p bs))
        (record {
          polys = lower_polys p n given.six above (firsts_of bs) homogeneous_firsts;
          monic = sum_monic;
          leads = λ t f r. sum_leads t f (in_larger p n (all_dehomogenised p (firsts_of bs)) (d ∷ gs) (t ∷ f) above sum_inside r);
          exact = λ f h. same_ideal p n given.prime (InIdeal p n (d ∷ gs)) (generated p n given.prime (d ∷ gs) all_polys) (all_dehomogenised p (firsts_of bs)) sum_inside sum_monic sum_leads f;
        })
