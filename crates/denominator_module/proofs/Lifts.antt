-- The normal form of a lifted polynomial decides membership in the ideal of the denominator and the generators, and its
-- second part is the quotient.
use Rattle.std.proofs.Common.{◌≡◌, ◌≢◌, ◌⊎◌, inl, inr, ℕ, ◌+◌, ◌-◌, ◌*◌, ◌≤◌, ◌<◌, List, [], ◌∷◌, map, refl, sym, ap, ◌∙◌, subst, arith}
use Rattle.std.specs.declared.cmp.Ordering.{Ordering}
use Rattle.std.specs.declared.cmp.Ordering.TheVariants.{Less, Equal, Greater}
use Rattle.std.specs.Ordering.{nat_cmp, MatchOrdering}
use Rattle.std.specs.Cmp.{ranks}
use Rattle.std.specs.List.{All, Contains}
use Rattle.std.proofs.lemmas.List.Elements.{All-cons, All-contains}
use Rattle.monomials.specs.Mono.{Monomial, total_degree, cmp_dp}
use Rattle.monomials.proofs.Last.{by_degree}
use Rattle.polys.specs.declared.term.Term.{Term}
use Rattle.polys.specs.Terms.{EachMono, IsPoly, IsMonic, scaled, add, sub, mul, multiple, degree_of}
use Rattle.polys.specs.Poly.{IsPlain}
use Rattle.polys.specs.Ideal.{InIdeal}
use Rattle.polys.proofs.Affine.{poly_mul}
use Rattle.polys.proofs.Degrees.{AtMost, degree_le}
use Rattle.polys.proofs.Each.{every_more, every_zip, every_normal, every_multiple}
use Rattle.ideal_laws.proofs.Ideals.{in_mul, in_sub, in_poly}
use Rattle.polys.proofs.Sums.{add_comm}
use Rattle.polys.proofs.Units.{canonical_same, add_none}
use Rattle.ideal_laws.proofs.Unique.{contains_head, contains_tail, contains_cases, contains_none}
use Rattle.polys.proofs.Weights.{is_canonical, normal_canon}
use Rattle.graded_modules.specs.Vector.{IsGraded, IsGradedVector, IsOfDegree, degree_at, lead_mono}
use Rattle.graded_modules.specs.Module.{InModule, IsModuleLead, IsLeadMultiple}
use Rattle.graded_modules.proofs.Members as members
use Rattle.homogenising.specs.Homogenised.{homogenised, dehomogenised, all_homogenised, all_dehomogenised, homogenised_to}
use Rattle.homogenising.specs.Laws.{IsHomogeneousPoly}
use Rattle.homogenising.proofs.Lifted.{homogenised_law, Fits, fits, lifted, lowered_lifted}
use Rattle.homogenising.proofs.Order.{lift}
use Rattle.homogenising.proofs.Images.{image, every_image, sent, sent-add}
use Rattle.homogenising.proofs.Monomials.{lower, degree_lower}
use Rattle.homogenising.proofs.Stays.{factor_of, lower_factor, lower_member, lower_product, lift_factor, lift_product}
use Rattle.homogenising.proofs.Descent.{Step, descent}
use Rattle.homogenising.proofs.Spanning.{Low, cancel}
use Rattle.ideal_laws.proofs.Differences.{sub_add, add_sub, less_difference}
use Rattle.denominator_module.specs.Module.{module_of, first, second, quotient_of}
use Rattle.denominator_module.specs.Laws.{AreGiven, IsModuleBasis, LiftLaws}
use Rattle.denominator_module.proofs.Components.{IsFirstOrSecond, lowered, every_second, first_plain, second_plain, canonical_first}
use Rattle.denominator_module.proofs.Pairs.{pos, plain_degree, homogeneous_d, homogeneous_gs, IsPair, pairs, has_first}
use Rattle.denominator_module.proofs.Firsts.{firsts_of, all_firsts, lead_first, lower_all, first_inside, homogeneous_firsts, firsts_inside, begins_first, member_vector, all_homogeneous, sum_inside, sum_leads, sum_monic, firsts_monic}
use Rattle.denominator_module.proofs.Seconds.{one_of}
use Rattle.denominator_module.proofs.Scaled.{first-sub, second-sub, sent-multiple}

-- a smaller monomial of the first component has no greater degree
no_higher : (a b : Monomial) → IsPlain a → IsPlain b → cmp_dp a b ≡ Less → total_degree a.exponents ≤ total_degree b.exponents
no_higher a b h k e = go (nat_cmp (total_degree a.exponents) (total_degree b.exponents)) (ranks (total_degree a.exponents) (total_degree b.exponents)) refl
  where
    go : (r : Ordering) → MatchOrdering r (total_degree a.exponents < total_degree b.exponents) (total_degree a.exponents ≡ total_degree b.exponents) (total_degree b.exponents < total_degree a.exponents)
        → nat_cmp (total_degree a.exponents) (total_degree b.exponents) ≡ r → total_degree a.exponents ≤ total_degree b.exponents
    go Less m s = omega arith
    go Equal m s = omega arith
    go Greater m s =
        let differ : total_degree a.exponents ≡ total_degree b.exponents → ⊥ = (λ q. absurd (omega arith)) in
        let up : nat_cmp (total_degree a.exponents) (total_degree b.exponents) ≡ Less = by_degree a b (h ∙ sym k) differ ∙ e in
        let n : Less ≡ Greater = sym up ∙ s in
        absurd (cc)

module _ (p n : ℕ) (d : List Term) (gs bs : List (List Term)) (k : ℕ) (given : AreGiven p n d gs) (mb : IsModuleBasis p n d gs bs)
    (low : All (λ b. degree_at (degree_of d) (lead_mono b) ≤ k) bs) where
  above : 0 < p
  above = pos p n d gs given

  abbrev H : List (List Term)
  H = all_homogenised (d ∷ gs)

  abbrev M : List (List Term)
  M = module_of d gs

  from_map : (fs : List (List Term)) (q : List Term) → Contains (all_dehomogenised p fs) q → (a : List Term) × Contains fs a × (dehomogenised p a ≡ q)
  from_map [] q c = absurd (contains_none q c)
  from_map (f ∷ fs) q c = go (contains_cases (dehomogenised p f) q (all_dehomogenised p fs) c) (from_map fs q)
    where
      go : (dehomogenised p f ≡ q) ⊎ Contains (all_dehomogenised p fs) q → (Contains (all_dehomogenised p fs) q → (a : List Term) × Contains fs a × (dehomogenised p a ≡ q))
          → (a : List Term) × Contains (f ∷ fs) a × (dehomogenised p a ≡ q)
      go (inl e) ih = (f, contains_head f fs, e)
      go (inr m) ih = let r = ih m in (r.0, contains_tail f r.0 fs r.1, r.2)

  firsts_low : All (λ a. degree_at 0 (lead_mono a) ≤ k) (firsts_of bs)
  firsts_low =
      all_firsts (λ b. degree_at (degree_of d) (lead_mono b) ≤ k) (λ a. degree_at 0 (lead_mono a) ≤ k) bs
      (λ b h z. (let e = plain_degree (degree_of d) (lead_mono b) z in let q = ap (degree_at 0) (lead_first b z) in omega arith)) low

  known_degree : (a : List Term) (h : IsHomogeneousPoly p n a) → IsMonic a → degree_at 0 (lead_mono a) ≤ k → h.generator.homogeneous.0 ≤ k
  known_degree [] h m l = absurd m
  known_degree (t ∷ f) h m l = let e = h.generator.homogeneous.1.0 in omega arith

  -- ---- a member of the ideal, lifted by k degrees, is in the graded ideal

  abbrev Reaches : Monomial → Type 0
  Reaches m = (t : Term) (f : List Term) → t.mono ≡ m → InIdeal p n (d ∷ gs) (t ∷ f) → (K : ℕ) → total_degree t.mono.exponents + k ≤ K → InModule p n H (sent p (lift K) (t ∷ f))

  all_polys : All (IsPoly p n) (d ∷ gs)
  all_polys = All-cons (IsPoly p n) d gs given.denominator given.generators

  reach_step : Step Reaches
  reach_step m s ih t f e r K l = subst (InModule p n H) (sym whole) (members.in_add p n H (sent p (lift K) g) (sent p (lift K) (mul p cn.0 q.0)) above rest product)
    where
      hf : IsPoly p n (t ∷ f)
      hf = in_poly p n (d ∷ gs) (t ∷ f) above all_polys r

      q : IsLeadMultiple (all_dehomogenised p (firsts_of bs)) t.mono
      q = sum_leads p n d gs given bs mb t f r

      a : (a : List Term) × Contains (firsts_of bs) a × (dehomogenised p a ≡ q.0)
      a = from_map (firsts_of bs) q.0 q.1

      ha : IsHomogeneousPoly p n a.0
      ha = All-contains (IsHomogeneousPoly p n) (firsts_of bs) a.0 (homogeneous_firsts p n d gs given bs mb) a.1

      hq : InIdeal p n (d ∷ gs) q.0
      hq = All-contains (InIdeal p n (d ∷ gs)) (all_dehomogenised p (firsts_of bs)) q.0 (sum_inside p n d gs given bs mb) q.1

      pq : IsPoly p n q.0
      pq = in_poly p n (d ∷ gs) q.0 above all_polys hq

      mq : IsMonic q.0
      mq = All-contains IsMonic (all_dehomogenised p (firsts_of bs)) q.0 (sum_monic p n d gs given bs mb) q.1

      cn : (a : List Term) × IsPoly p n a × EachMono (Low p n given.prime t.mono) (sub p (t ∷ f) (mul p a q.0)) × (degree_of a ≤ total_degree t.mono.exponents)
      cn = cancel p n given.prime t f q.0 hf pq mq q.2

      g : List Term
      g = sub p (t ∷ f) (mul p cn.0 q.0)

      whole : sent p (lift K) (t ∷ f) ≡ add p (sent p (lift K) g) (sent p (lift K) (mul p cn.0 q.0))
      whole = ap (sent p (lift K)) (sym (sub_add p (t ∷ f) (mul p cn.0 q.0) above hf.canonical)) ∙ sent-add p (lift K) g (mul p cn.0 q.0)

      inside : InIdeal p n (d ∷ gs) g
      inside = in_sub p n (d ∷ gs) (t ∷ f) (mul p cn.0 q.0) above (poly_mul p n cn.0 q.0 above cn.1 pq) r (in_mul p n (d ∷ gs) cn.0 q.0 above cn.1 hq)

      go : (w : List Term) → EachMono (Low p n given.prime t.mono) w → InIdeal p n (d ∷ gs) w → InModule p n H (sent p (lift K) w)
      go [] x c = members.in_none p n H
      go (v ∷ w) x c =
          let b = (in_poly p n (d ∷ gs) (v ∷ w) above all_polys c).affine.0 in
          let h = no_higher v.mono t.mono b.plain hf.affine.0.plain x.0 in
          ih v.mono (record { seven = b.seven; plain = b.plain }) (ap (cmp_dp v.mono) (sym e) ∙ x.0) v w refl c K (omega arith)

      rest : InModule p n H (sent p (lift K) g)
      rest = go g cn.2 inside

      monic_a : IsMonic a.0
      monic_a = All-contains IsMonic (firsts_of bs) a.0 (firsts_monic p n d gs given bs mb) a.1

      room : degree_of cn.0 + ha.generator.homogeneous.0 ≤ K
      room =
          let h = known_degree a.0 ha monic_a (All-contains (λ a. degree_at 0 (lead_mono a) ≤ k) (firsts_of bs) a.0 firsts_low a.1) in
          let c = cn.3 in
          omega arith

      product : InModule p n H (sent p (lift K) (mul p cn.0 q.0))
      product =
          subst (InModule p n H)
          (sym (lift_product p n given.six above K cn.0 a.0 ha cn.1 room) ∙ (λ i. sent p (lift K) (mul p cn.0 (a.2 i))))
          (members.in_mul p n H (sent p (lift (K - ha.generator.homogeneous.0)) cn.0) a.0 above (lift_factor p n given.six above (K - ha.generator.homogeneous.0) cn.0 cn.1)
          (All-contains (InModule p n H) (firsts_of bs) a.0 (firsts_inside p n d gs given bs mb) a.1))

  module _ (g r : List Term) (poly : IsPoly p n g) (vector : IsGradedVector p n r) (degree : IsOfDegree (degree_of d) (degree_of g + k) r)
      (difference : InModule p n bs (sub p (homogenised_to (degree_of g + k) g) r))
      (outside : (m : Monomial) → Contains (map (λ t. t.mono) r) m → IsModuleLead p n bs m → ⊥) where
    K : ℕ
    K = degree_of g + k

    v : List Term
    v = image (lift (degree_of g + k)) g

    fit : EachMono (Fits p n given.six (degree_of g + k)) g
    fit = every_more (Fits p n given.six (degree_of g)) (Fits p n given.six (degree_of g + k)) g (λ m x. (x.0, (let a = x.1 in omega arith))) (fits p n given.six g poly)

    homogeneous_v : IsHomogeneousPoly p n (image (lift (degree_of g + k)) g)
    homogeneous_v = lifted p n given.six (degree_of g + k) g poly.canonical fit

    reached : InIdeal p n (d ∷ gs) g → InModule p n H (image (lift (degree_of g + k)) g)
    reached c = subst (InModule p n H) (canonical_same p (image (lift (degree_of g + k)) g) homogeneous_v.generator.vector.canonical) (go g c poly)
      where
        go : (f : List Term) → InIdeal p n (d ∷ gs) f → IsPoly p n f → InModule p n H (sent p (lift (degree_of f + k)) f)
        go [] c h = members.in_none p n H
        go (t ∷ f) c h =
            let a = h.affine.0 in
            descent Reaches reach_step t.mono (record { seven = a.seven; plain = a.plain }) t f refl c (degree_of (t ∷ f) + k) (omega arith)

    -- the difference, as a member of the module
    x : List Term
    x = sub p (image (lift (degree_of g + k)) g) r

    in_x : InModule p n M (sub p (image (lift (degree_of g + k)) g) r)
    in_x = (mb.same (sub p (image (lift (degree_of g + k)) g) r)).1 difference

    lows_v : EachMono IsFirstOrSecond (image (lift (degree_of g + k)) g)
    lows_v = every_more IsPlain IsFirstOrSecond (image (lift (degree_of g + k)) g) (λ m h. omega arith) homogeneous_v.plain

    lows_r : EachMono IsFirstOrSecond r
    lows_r = every_more (IsGraded n) IsFirstOrSecond r (λ m h. h.two) vector.graded

    first_x : first (sub p (image (lift (degree_of g + k)) g) r) ≡ sub p (image (lift (degree_of g + k)) g) (first r)
    first_x =
        first-sub p (image (lift (degree_of g + k)) g) r above
        ∙ (λ i. sub p (first_plain (image (lift (degree_of g + k)) g) homogeneous_v.plain i) (first r))

    second_x : second (sub p (image (lift (degree_of g + k)) g) r) ≡ multiple p (p - 1) (second r)
    second_x =
        second-sub p (image (lift (degree_of g + k)) g) r above lows_v lows_r
        ∙ (λ i. sub p (second_plain (image (lift (degree_of g + k)) g) homogeneous_v.plain i) (second r))
        ∙ canonical_same p (multiple p (p - 1) (second r)) (is_canonical p (multiple p (p - 1) (second r)) above (normal_canon p (scaled (p - 1) (second r))))

    inside_first : InModule p n H (sub p (image (lift (degree_of g + k)) g) (first r))
    inside_first = subst (InModule p n H) first_x (first_inside p n d gs given (sub p (image (lift (degree_of g + k)) g) r) in_x)

    nothing : sub p (image (lift (degree_of g + k)) g) [] ≡ image (lift (degree_of g + k)) g
    nothing = add_none p (image (lift (degree_of g + k)) g) homogeneous_v.generator.vector.canonical

    lower_v : dehomogenised p (image (lift (degree_of g + k)) g) ≡ g
    lower_v = lowered_lifted p n given.six (degree_of g + k) g poly

    zero_is_member : first r ≡ [] → InIdeal p n (d ∷ gs) g
    zero_is_member e =
        let h = subst (InModule p n H) ((λ i. sub p (image (lift (degree_of g + k)) g) (e i)) ∙ nothing) inside_first in
        let c = lower_member p n given.six above H (image (lift (degree_of g + k)) g) (all_homogeneous p n d gs given bs mb) h in
        subst (InIdeal p n (d ∷ gs)) lower_v (subst (λ w. InIdeal p n w (dehomogenised p (image (lift (degree_of g + k)) g))) (lower_all p n d gs given (d ∷ gs) all_polys) c)

    member_is_zero : InIdeal p n (d ∷ gs) g → first r ≡ []
    member_is_zero c = go (first r) refl left
      where
        left : InModule p n H (first r)
        left =
            subst (InModule p n H)
            (less_difference p (image (lift (degree_of g + k)) g) (first r) above homogeneous_v.generator.vector.canonical (canonical_first p r vector.canonical))
            (members.in_sub p n H (image (lift (degree_of g + k)) g) (sub p (image (lift (degree_of g + k)) g) (first r)) above (reached c) inside_first)

        go : (w : List Term) → first r ≡ w → InModule p n H w → first r ≡ []
        go [] e i = e
        go (t ∷ f) e i =
            let u = has_first p n d gs given (t ∷ f) i in
            let b = begins_first p u.0 t f (member_vector p n d gs given bs mb u.0 u.1).canonical u.2 in
            let s = begins_first p r t f vector.canonical e in
            let there : Contains (map (λ t. t.mono) r) t.mono = subst (λ w. Contains (map (λ (t : Term). t.mono) w) t.mono) (sym s.1) (contains_head t.mono (map (λ (t : Term). t.mono) s.0)) in
            absurd (outside t.mono there (t, b.0, (mb.same (t ∷ b.0)).0 (subst (InModule p n M) b.1 u.1), refl))

    -- ---- the quotient

    pair : IsPair p n d gs given (sub p (image (lift (degree_of g + k)) g) r)
    pair = pairs p n d gs given (sub p (image (lift (degree_of g + k)) g) r) in_x

    quotient_is : dehomogenised p (second (sub p (image (lift (degree_of g + k)) g) r)) ≡ quotient_of p r
    quotient_is = ap (dehomogenised p) second_x ∙ sent-multiple p (p - 1) lower (second r)

    quotient_poly : IsPoly p n (quotient_of p r)
    quotient_poly = subst (IsPoly p n) quotient_is (lower_factor p n given.six above (second (sub p (image (lift (degree_of g + k)) g) r)) pair.factor)

    quotient_lifts : first r ≡ [] → InIdeal p n gs (sub p g (mul p (quotient_of p r) d))
    quotient_lifts e = subst (InIdeal p n gs) (sym left) rest
      where
        c : List Term
        c = second (sub p (image (lift (degree_of g + k)) g) r)

        sum : image (lift (degree_of g + k)) g ≡ add p (mul p c (homogenised d)) pair.rest
        sum = sym (first_x ∙ (λ i. sub p (image (lift (degree_of g + k)) g) (e i)) ∙ nothing) ∙ pair.sum

        rest : InIdeal p n gs (dehomogenised p pair.rest)
        rest =
            subst (λ w. InIdeal p n w (dehomogenised p pair.rest)) (lower_all p n d gs given gs given.generators)
            (lower_member p n given.six above (all_homogenised gs) pair.rest (homogeneous_gs p n d gs given) pair.inside)

        product : dehomogenised p (mul p c (homogenised d)) ≡ mul p (quotient_of p r) d
        product =
            lower_product p n given.six above c (homogenised d) pair.factor (factor_of p n given.six above (homogenised d) (homogeneous_d p n d gs given))
            ∙ (λ i. mul p (quotient_is i) (homogenised_law.back p n d given.six given.denominator i))

        split : g ≡ add p (dehomogenised p pair.rest) (mul p (quotient_of p r) d)
        split =
            sym lower_v ∙ ap (dehomogenised p) sum ∙ sent-add p lower (mul p c (homogenised d)) pair.rest
            ∙ (λ i. add p (product i) (dehomogenised p pair.rest)) ∙ add_comm p (mul p (quotient_of p r) d) (dehomogenised p pair.rest)

        left : sub p g (mul p (quotient_of p r) d) ≡ dehomogenised p pair.rest
        left =
            (λ i. sub p (split i) (mul p (quotient_of p r) d))
            ∙ add_sub p (dehomogenised p pair.rest) (mul p (quotient_of p r) d) above (in_poly p n gs (dehomogenised p pair.rest) above given.generators rest).canonical

    quotient_low : quotient_of p r ≢ [] → degree_of (quotient_of p r) + degree_of d ≤ degree_of g + k
    quotient_low h = go (second r) refl shifts
      where
        at : (m : Monomial) → (m.component ≡ 0 → ⊥) → IsGraded n m → degree_at (degree_of d) m ≡ degree_of g + k
            → IsGraded n (lowered m) × (total_degree m.exponents + degree_of d ≡ degree_of g + k)
        at m z a e =
            let one : m.component ≡ 1 = one_of m.component z a.two in
            let s : total_degree m.exponents + 1 * degree_of d ≡ degree_of g + k = sym (λ i. total_degree m.exponents + one i * degree_of d) ∙ e in
            (record { seven = a.seven; first = a.first; two = (omega arith) }, (omega arith))

        shifts : EachMono (λ m. IsGraded n m × IsPlain m × (total_degree m.exponents + degree_of d ≡ degree_of g + k)) (second r)
        shifts =
            every_second (λ m. IsGraded n m × (degree_at (degree_of d) m ≡ degree_of g + k)) (λ m. IsGraded n m × IsPlain m × (total_degree m.exponents + degree_of d ≡ degree_of g + k)) r
            (λ m z a. (let b = at m z a.0 a.1 in (b.0, refl, b.1))) (every_zip (IsGraded n) (λ m. degree_at (degree_of d) m ≡ degree_of g + k) r vector.graded degree)

        bound : EachMono (AtMost (degree_of g + k - degree_of d)) (quotient_of p r)
        bound =
            every_multiple (AtMost (degree_of g + k - degree_of d)) p (p - 1) (dehomogenised p (second r))
            (every_normal (AtMost (degree_of g + k - degree_of d)) p (image lower (second r))
            (every_image (λ m. IsGraded n m × IsPlain m × (total_degree m.exponents + degree_of d ≡ degree_of g + k)) (AtMost (degree_of g + k - degree_of d)) lower (second r)
            (λ m a. (let b = degree_lower n given.six m a.0 a.1 in let c = a.2 in omega arith)) shifts))

        go : (w : List Term) → second r ≡ w → EachMono (λ m. IsGraded n m × IsPlain m × (total_degree m.exponents + degree_of d ≡ degree_of g + k)) w
            → degree_of (quotient_of p r) + degree_of d ≤ degree_of g + k
        go [] e s = absurd (h (ap (λ f. multiple p (p - 1) (dehomogenised p f)) e))
        go (t ∷ f) e s = let a = s.0.2 in let b = degree_le (degree_of g + k - degree_of d) (quotient_of p r) bound in omega arith

pub lift_law : LiftLaws
lift_law = record {
  none = λ p n d gs bs k g r l. (
    zero_is_member p n d gs bs k l.given l.basis l.low g r l.poly l.vector l.degree l.normal.difference l.normal.outside,
    member_is_zero p n d gs bs k l.given l.basis l.low g r l.poly l.vector l.degree l.normal.difference l.normal.outside,
  );
  quotient = λ p n d gs bs k g r l. quotient_lifts p n d gs bs k l.given l.basis l.low g r l.poly l.vector l.degree l.normal.difference l.normal.outside;
  poly = λ p n d gs bs k g r l. quotient_poly p n d gs bs k l.given l.basis l.low g r l.poly l.vector l.degree l.normal.difference l.normal.outside;
  low = λ p n d gs bs k g r l. quotient_low p n d gs bs k l.given l.basis l.low g r l.poly l.vector l.degree l.normal.difference l.normal.outside;
}
