-- What vectors reduced by one another are: the reduced basis of their module, or of their ideal.
use Rattle.std.proofs.Common.{◌≡◌, ℕ, ◌<◌, ◌≤◌, suc, List, [], ◌∷◌, map, length, get_or, refl, sym, ap, ◌∙◌, subst, arith}
use Rattle.std.specs.List.{All, AllPairs, Contains}
use Rattle.std.specs.declared.cmp.Ordering.TheVariants.{Less}
use Rattle.std.proofs.lemmas.List.{get_or-map, get_or_default, length-map}
use Rattle.std.proofs.lemmas.List.Elements.{All-contains, Contains-get_or}
use Rattle.prime_field.specs.Primes.{IsPrime}
use Rattle.monomials.specs.Mono.{Monomial, Divides, total_degree, cmp_dp}
use Rattle.monomials.proofs.Order.{multiple_not_less}
use Rattle.monomials.proofs.Factors.{divides_law, divides_trans}
use Rattle.polys.specs.declared.term.Term.{Term}
use Rattle.polys.specs.Poly.{Polynomial, IsVector, terms_of}
use Rattle.polys.specs.Terms.{EachMono, IsMonic, IsPoly, sub}
use Rattle.polys.specs.Reduced.{leads, lower_monos}
use Rattle.polys.specs.Ideal.{InIdeal}
use Rattle.ideal_laws.proofs.Ideals.{in_sub}
use Rattle.polys.proofs.Affine.{poly_sub}
use Rattle.graded_modules.specs.Vector.{IsGradedVector, IsGenerator, IsOfDegree, degree_at, lead_mono}
use Rattle.graded_modules.specs.Module.{InModule, IsLeadMultiple}
use Rattle.graded_modules.specs.Bases.{AreApart}
use Rattle.graded_modules.proofs.Members as Modules
use Rattle.prime_field.proofs.Table.{positive_of_prime as positive}
use Rattle.ideal_laws.proofs.Differences.{sub_cons, less_difference}
use Rattle.module_division.specs.Vectors.{member}
use Rattle.module_division.specs.Reduction.{IsInterreduced}
use Rattle.module_division.proofs.Lists.{count_lists}
use Rattle.module_division.proofs.Reductions.{IsTight, each_at, graded_remainder, affine_remainder, IsGradedRemainder, IsAffineRemainder}

leads_of : (qs : List (List Term)) → All IsMonic qs → leads qs ≡ map lead_mono qs
leads_of [] h = refl
leads_of ([] ∷ qs) h = absurd (h 0 [] (omega arith))
leads_of ((t ∷ f) ∷ qs) h = ap (λ ms. t.mono ∷ ms) (leads_of qs (λ k d l. h (suc k) d (omega arith)))

module _ (p : ℕ) (bs : List (List Term)) (monic : All IsMonic bs) (seven : All (λ b. length (lead_mono b).exponents ≡ 7) bs) (qs : List Polynomial) (h : IsInterreduced p bs qs) where
  count : length (terms_of qs) ≡ length h.kept
  count = count_lists qs ∙ h.as_many

  pub kept_at : (P : List Term → Type 0) → All P bs → (k : ℕ) (d : List Term) → k < length h.kept → P (get_or h.kept k d)
  kept_at P all k d l = All-contains P bs (get_or h.kept k d) all (h.core.inside (get_or h.kept k d) (Contains-get_or h.kept k d l))

  same_lead : (k : ℕ) → k < length h.kept → lead_mono (member (terms_of qs) k) ≡ lead_mono (member h.kept k)
  same_lead k l = ap lead_mono (h.tails k l).after ∙ sym (ap lead_mono (h.tails k l).before)

  -- from each place to the whole list
  pub all_places : (P : List Term → Type 0) → ((k : ℕ) → k < length h.kept → P (member (terms_of qs) k)) → All P (terms_of qs)
  all_places P each k d l = let n = count in subst P (get_or_default (terms_of qs) k [] d l) (each k (omega arith))

  pub monic_all : All IsMonic (terms_of qs)
  monic_all = all_places IsMonic (λ k l.
      let t = h.tails k l in
      let m : IsMonic (t.lead ∷ t.tail) = subst IsMonic t.before (kept_at IsMonic monic k [] l) in
      subst IsMonic (sym t.after) m)

  down : (m : Monomial) → IsLeadMultiple (terms_of qs) m → IsLeadMultiple h.kept m
  down m (b, (k, l, e), d) =
      let n = count in
      let at : member (terms_of qs) k ≡ b = get_or_default (terms_of qs) k [] b l ∙ e in
      let inside : k < length h.kept = omega arith in
      (member h.kept k, Contains-get_or h.kept k [] inside, subst (λ w. Divides w m) (ap lead_mono (sym at) ∙ same_lead k inside) d)

  up : (m : Monomial) → IsLeadMultiple h.kept m → IsLeadMultiple (terms_of qs) m
  up m (b, (k, l, e), d) =
      let n = count in
      let at : member h.kept k ≡ b = get_or_default h.kept k [] b l ∙ e in
      (member (terms_of qs) k, Contains-get_or (terms_of qs) k [] (omega arith), subst (λ w. Divides w m) (ap lead_mono (sym at) ∙ sym (same_lead k l)) d)

  pub covered : (m : Monomial) → IsLeadMultiple bs m → IsLeadMultiple (terms_of qs) m
  covered m (b, c, d) =
      let x = h.core.covers b c in
      up m (x.0, x.1, divides_trans (lead_mono x.0) (lead_mono b) m x.2 d)

  order_at : (i j : ℕ) → i < j → j < length h.kept → (cmp_dp (lead_mono (member (terms_of qs) i)) (lead_mono (member (terms_of qs) j)) ≡ Less)
      × (Divides (lead_mono (member (terms_of qs) i)) (lead_mono (member (terms_of qs) j)) → ⊥)
  order_at i j r l =
      let x = h.core.rising i j [] r l in
      subst (λ a. (cmp_dp a (lead_mono (member (terms_of qs) j)) ≡ Less) × (Divides a (lead_mono (member (terms_of qs) j)) → ⊥)) (sym (same_lead i (omega arith)))
      (subst (λ b. (cmp_dp (lead_mono (member h.kept i)) b ≡ Less) × (Divides (lead_mono (member h.kept i)) b → ⊥)) (sym (same_lead j l)) x)

  pub rising_all : AllPairs (λ m w. cmp_dp m w ≡ Less) (leads (terms_of qs))
  rising_all = subst (AllPairs (λ m w. cmp_dp m w ≡ Less)) (sym (leads_of (terms_of qs) monic_all)) (λ i j d r l.
      let n = count in
      let c : length (map lead_mono (terms_of qs)) ≡ length (terms_of qs) = length-map (terms_of qs) lead_mono in
      let x : get_or (map lead_mono (terms_of qs)) i d ≡ lead_mono (member (terms_of qs) i) = get_or-map lead_mono (terms_of qs) i [] d (omega arith) in
      let y : get_or (map lead_mono (terms_of qs)) j d ≡ lead_mono (member (terms_of qs) j) = get_or-map lead_mono (terms_of qs) j [] d (omega arith) in
      (λ k. cmp_dp (x k) (y k)) ∙ (order_at i j r (omega arith)).0)

  not_back : (a b : Monomial) → length a.exponents ≡ 7 → length b.exponents ≡ 7 → cmp_dp a b ≡ Less → Divides b a → ⊥
  not_back a b sa sb l d =
      let c = (divides_law b a (sb ∙ sym sa)).0 d in
      multiple_not_less b c.0 c.1 c.2 (subst (λ w. cmp_dp w b ≡ Less) c.3 l)

  pub apart_all : AreApart (terms_of qs)
  apart_all i j d r l =
      let n = count in
      let inside : j < length h.kept = omega arith in
      let before : i < length h.kept = omega arith in
      let o = order_at i j r inside in
      let si : length (lead_mono (member (terms_of qs) i)).exponents ≡ 7 = ap (λ m. length m.exponents) (same_lead i before) ∙ kept_at (λ b. length (lead_mono b).exponents ≡ 7) seven i [] before in
      let sj : length (lead_mono (member (terms_of qs) j)).exponents ≡ 7 = ap (λ m. length m.exponents) (same_lead j inside) ∙ kept_at (λ b. length (lead_mono b).exponents ≡ 7) seven j [] inside in
      subst (λ f. (Divides (lead_mono f) (lead_mono (get_or (terms_of qs) j d)) → ⊥) × (Divides (lead_mono (get_or (terms_of qs) j d)) (lead_mono f) → ⊥)) (get_or_default (terms_of qs) i [] d (omega arith))
      (subst (λ g. (Divides (lead_mono (member (terms_of qs) i)) (lead_mono g) → ⊥) × (Divides (lead_mono g) (lead_mono (member (terms_of qs) i)) → ⊥)) (get_or_default (terms_of qs) j [] d l)
      (o.1, not_back (lead_mono (member (terms_of qs) i)) (lead_mono (member (terms_of qs) j)) si sj o.0))

  pub outside_all : (q : List Term) → Contains (terms_of qs) q → (m : Monomial) → Contains (lower_monos q) m → IsLeadMultiple (terms_of qs) m → ⊥
  outside_all q (k, l, e) m c w =
      let n = count in
      let t = h.tails k (omega arith) in
      let at : member (terms_of qs) k ≡ q = get_or_default (terms_of qs) k [] q l ∙ e in
      each_at (λ m. IsLeadMultiple h.kept m → ⊥) t.rest m t.outside (subst (λ x. Contains (lower_monos x) m) (sym at ∙ t.after) c) (down m w)

-- ---- in a module

module _ (p n shift : ℕ) (prime : IsPrime p) (bs : List (List Term)) (monic : All IsMonic bs) (generators : All (IsGenerator p n shift) bs) (vectors : All (IsVector p) bs) (qs : List Polynomial)
    (h : IsInterreduced p bs qs) (seven : All (λ b. length (lead_mono b).exponents ≡ 7) bs) where
  kept_all : (P : List Term → Type 0) → All P bs → All P h.kept
  kept_all P all k d l = kept_at p bs monic seven qs h P all k d l

  left_at : (k : ℕ) → (l : k < length h.kept) → (e : ℕ) × IsOfDegree shift e ((h.tails k l).lead ∷ (h.tails k l).tail) × IsGradedRemainder p n shift h.kept (h.tails k l).tail (h.tails k l).rest e
      × IsGradedVector p n ((h.tails k l).lead ∷ (h.tails k l).tail)
  left_at k l =
      let t = h.tails k l in
      let g : IsGenerator p n shift (t.lead ∷ t.tail) = subst (IsGenerator p n shift) t.before (kept_at p bs monic seven qs h (IsGenerator p n shift) generators k [] l) in
      let e = g.homogeneous.0 in
      let v = subst (IsVector p) t.after t.vector in (
        e,
        g.homogeneous.1,
        graded_remainder p n shift prime h.kept (kept_all (IsGenerator p n shift) generators) (kept_all (IsVector p) vectors) t.tail t.rest e
            (record { canonical = g.vector.canonical.3; graded = g.vector.graded.1 }) g.homogeneous.1.1 t.reduces v.canonical.3,
        g.vector,
      )

  pub generators_all : All (IsGenerator p n shift) (terms_of qs)
  generators_all = all_places p bs monic seven qs h (IsGenerator p n shift) (λ k l.
      let t = h.tails k l in
      let x = left_at k l in
      let v = subst (IsVector p) t.after t.vector in
      subst (IsGenerator p n shift) (sym t.after) (record {
        vector = record { canonical = v.canonical; graded = (x.3.graded.0, x.2.vector.graded) };
        homogeneous = (x.0, (x.1.0, x.2.degree));
      }))

  pub members_all : (gs : List (List Term)) → All (InModule p n gs) bs → All (InModule p n gs) (terms_of qs)
  members_all gs all = all_places p bs monic seven qs h (InModule p n gs) (λ k l.
      let t = h.tails k l in
      let x = left_at k l in
      let pos = positive p prime in
      let b : InModule p n gs (t.lead ∷ t.tail) = subst (InModule p n gs) t.before (kept_at p bs monic seven qs h (InModule p n gs) all k [] l) in
      let d : InModule p n gs (sub p (t.lead ∷ t.tail) (t.lead ∷ t.rest)) = subst (InModule p n gs) (sym (sub_cons p t.lead t.tail t.rest pos)) (x.2.member gs (kept_all (InModule p n gs) all)) in
      let v = subst (IsVector p) t.after t.vector in
      subst (InModule p n gs) (less_difference p (t.lead ∷ t.tail) (t.lead ∷ t.rest) pos x.3.canonical v.canonical ∙ sym t.after)
      (Modules.in_sub p n gs (t.lead ∷ t.tail) (sub p (t.lead ∷ t.tail) (t.lead ∷ t.rest)) pos b d))

  pub low_all : (cap : ℕ) → All (λ b. degree_at shift (lead_mono b) ≤ cap) bs → All (λ b. degree_at shift (lead_mono b) ≤ cap) (terms_of qs)
  low_all cap all = all_places p bs monic seven qs h (λ b. degree_at shift (lead_mono b) ≤ cap) (λ k l.
      subst (λ m. degree_at shift m ≤ cap) (ap lead_mono (h.tails k l).before ∙ sym (ap lead_mono (h.tails k l).after)) (kept_at p bs monic seven qs h (λ b. degree_at shift (lead_mono b) ≤ cap) all k [] l))

-- ---- in an ideal

module _ (p n : ℕ) (prime : IsPrime p) (bs : List (List Term)) (monic : All IsMonic bs) (polys : All (IsPoly p n) bs) (vectors : All (IsVector p) bs) (tight : All IsTight bs) (qs : List Polynomial)
    (h : IsInterreduced p bs qs) (seven : All (λ b. length (lead_mono b).exponents ≡ 7) bs) where
  kept_all_a : (P : List Term → Type 0) → All P bs → All P h.kept
  kept_all_a P all k d l = kept_at p bs monic seven qs h P all k d l

  left_at_a : (k : ℕ) → (l : k < length h.kept) → IsPoly p n ((h.tails k l).lead ∷ (h.tails k l).tail) × IsAffineRemainder p n h.kept (h.tails k l).tail (h.tails k l).rest
  left_at_a k l =
      let t = h.tails k l in
      let g : IsPoly p n (t.lead ∷ t.tail) = subst (IsPoly p n) t.before (kept_at p bs monic seven qs h (IsPoly p n) polys k [] l) in
      let v = subst (IsVector p) t.after t.vector in (
        g,
        affine_remainder p n prime h.kept (kept_all_a (IsPoly p n) polys) (kept_all_a (IsVector p) vectors) (kept_all_a IsTight tight) t.tail t.rest
            (record { canonical = g.canonical.3; affine = g.affine.1 }) t.reduces v.canonical.3,
      )

  pub polys_all : All (IsPoly p n) (terms_of qs)
  polys_all = all_places p bs monic seven qs h (IsPoly p n) (λ k l.
      let t = h.tails k l in
      let x = left_at_a k l in
      let v = subst (IsVector p) t.after t.vector in
      subst (IsPoly p n) (sym t.after) (record { canonical = v.canonical; affine = (x.0.affine.0, x.1.poly.affine) }))

  pub ideal_all : (is : List (List Term)) → All (InIdeal p n is) bs → All (InIdeal p n is) (terms_of qs)
  ideal_all is all = all_places p bs monic seven qs h (InIdeal p n is) (λ k l.
      let t = h.tails k l in
      let x = left_at_a k l in
      let pos = positive p prime in
      let q : IsPoly p n (t.lead ∷ t.rest) = record { canonical = (subst (IsVector p) t.after t.vector).canonical; affine = (x.0.affine.0, x.1.poly.affine) } in
      let b : InIdeal p n is (t.lead ∷ t.tail) = subst (InIdeal p n is) t.before (kept_at p bs monic seven qs h (InIdeal p n is) all k [] l) in
      let d : InIdeal p n is (sub p (t.lead ∷ t.tail) (t.lead ∷ t.rest)) = subst (InIdeal p n is) (sym (sub_cons p t.lead t.tail t.rest pos)) (x.1.member is (kept_all_a (InIdeal p n is) all)) in
      subst (InIdeal p n is) (less_difference p (t.lead ∷ t.tail) (t.lead ∷ t.rest) pos x.0.canonical q.canonical ∙ sym t.after)
      (in_sub p n is (t.lead ∷ t.tail) (sub p (t.lead ∷ t.tail) (t.lead ∷ t.rest)) pos (poly_sub p n (t.lead ∷ t.tail) (t.lead ∷ t.rest) pos x.0 q) b d))

  pub degrees_all : (d : ℕ) → All (EachMono (λ m. total_degree m.exponents ≤ d)) bs → All (EachMono (λ m. total_degree m.exponents ≤ d)) (terms_of qs)
  degrees_all d all = all_places p bs monic seven qs h (EachMono (λ m. total_degree m.exponents ≤ d)) (λ k l.
      let t = h.tails k l in
      let x = left_at_a k l in
      let b = subst (EachMono (λ m. total_degree m.exponents ≤ d)) t.before (kept_at p bs monic seven qs h (EachMono (λ m. total_degree m.exponents ≤ d)) all k [] l) in
      subst (EachMono (λ m. total_degree m.exponents ≤ d)) (sym t.after) (b.0, x.1.degree d b.1))
