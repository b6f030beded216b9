-- An ideal with a standard basis has a reduced one: of the leads the least are kept, and each becomes a member whose other monomials
-- are standard.
use Rattle.std.proofs.Common.{◌≡◌, ℕ, ◌-◌, List, [], ◌∷◌, map, All, refl, sym, ap, subst}
use Rattle.std.specs.declared.cmp.Ordering.{Ordering}
use Rattle.std.specs.declared.cmp.Ordering.TheVariants.{Less, Equal, Greater}
use Rattle.std.specs.List.{AllPairs, Contains}
use Rattle.std.proofs.lemmas.List.Elements.{All-nil, All-cons, All-weaker, All-contains}
use Rattle.prime_field.specs.Primes.{IsPrime}
use Rattle.monomials.specs.Mono.{Monomial, Divides, cmp_dp}
use Rattle.monomials.proofs.Order.{dp_total, same_dp, turn_down}
use Rattle.polys.specs.declared.term.Term.{Term}
use Rattle.polys.specs.Terms.{EachMono, IsAffine, IsPoly, IsMonic, sub, multiple}
use Rattle.polys.specs.Ideal.{InIdeal}
use Rattle.polys.specs.Reduced.{leads, lower_monos, IsReducedBasis}
use Rattle.polys.proofs.Each.{every_add, every_more, every_multiple}
use Rattle.ideal_laws.proofs.Ideals.{in_poly}
use Rattle.ideal_laws.proofs.Unique.{contains_head, contains_tail, contains_none}
use Rattle.graded_modules.specs.Bases.{AreApart}
use Rattle.graded_modules.specs.Module.{IsLeadMultiple}
use Rattle.graded_modules.specs.Vector.{lead_mono}
use Rattle.homogenising.proofs.Apart.{lead_contained, contained_lead}
use Rattle.monomials.proofs.Factors.{divides_trans as divides_chain, divides_self}
use Rattle.homogenising.proofs.Spanning.{pos, reduced_law}
use Rattle.standard_monomials.specs.Standard.{AreMinimal, IsStandardBasis, IsStandard, IsRemainder, polynomial_of}
use Rattle.basis_existence.specs.Laws.{StandardBasesAreReduced, ReducedBasesExist}
use Rattle.basis_existence.proofs.Corners.{corners_law}
use Rattle.basis_existence.proofs.LeadsDecided.{at, below_lead, lead_stays}
use Rattle.standard_monomials.proofs.Lists.{each_of, contains_map, contained_map, pairs_none, pairs_cons, pairs_head, pairs_tail}
use Rattle.standard_monomials.proofs.Minimal.{no_divisor}
use Rattle.standard_monomials.proofs.Remainders.{basis_polys, remainder}
use Rattle.basis_existence.proofs.Sorting.{Sorted, sort, Thinned, thin, Apart}
use Rattle.standard_monomials.proofs.Space as Space
use Rattle.standard_monomials.proofs.Sums.{monomial_poly}

-- the monomials of a polynomial, one by one
pub of_each : (P : Monomial → Type 0) (f : List Term) → EachMono P f → (m : Monomial) → Contains (map (λ u. u.mono) f) m → P m
of_each P [] h m c = absurd (contains_none m c)
of_each P (t ∷ f) h m c = each_of P t.mono (map (λ u. u.mono) f) h.0 (of_each P f h.1) m c

lead_affine : (p n : ℕ) (b : List Term) → IsMonic b → IsPoly p n b → IsAffine n (lead_mono b)
lead_affine p n [] m h = absurd m
lead_affine p n (t ∷ f) m h = h.affine.0

module _ (p n : ℕ) (prime : IsPrime p) (gs ds : List (List Term)) (hi : All (IsPoly p n) gs) (base : IsStandardBasis p n gs ds) where
  abbrev Standard : Monomial → Type 0
  Standard m = IsStandard n ds m

  abbrev Below : Monomial → Monomial → Type 0
  Below m w = cmp_dp w m ≡ Less

  -- a member with the lead m whose other monomials are standard
  abbrev Tailed : Monomial → Type 0
  Tailed m = (g : List Term) × InIdeal p n gs (at m ∷ g) × EachMono Standard g

  -- the remainder of a multiple of a lead is below it, or its own lead would be that of a member
  tailed : (m : Monomial) → IsAffine n m → IsLeadMultiple ds m → Tailed m
  tailed m a d = go (remainder p n prime gs ds hi base (polynomial_of m) poly)
    where
      poly : IsPoly p n (polynomial_of m)
      poly = monomial_poly p n prime m a

      below : (r : List Term) → IsRemainder p n gs ds (polynomial_of m) r → EachMono (Below m) r → Tailed m
      below r k l = (
        sub p [] r,
        subst (InIdeal p n gs) (lead_stays p n (at m) [] r (pos p n prime) poly k.poly l) k.close,
        every_add Standard p [] (multiple p (p - 1) r) tt (every_multiple Standard p (p - 1) r k.standard),
      )

      go : (r : List Term) × IsRemainder p n gs ds (polynomial_of m) r → Tailed m
      go ([], k) = below [] k tt
      go (t ∷ f, k) = pick (cmp_dp t.mono m) refl
        where
          flipped : InIdeal p n gs (sub p (t ∷ f) (polynomial_of m))
          flipped = (Space.space p n prime gs).symm {x = record { terms = polynomial_of m; is_poly = poly }} {y = record { terms = t ∷ f; is_poly = k.poly }} k.close

          pick : (o : Ordering) → cmp_dp t.mono m ≡ o → Tailed m
          pick Less e = below (t ∷ f) k (e, every_more (Below t.mono) (Below m) f (λ w l. dp_total.trans w t.mono m l e) (below_lead p t f k.poly.canonical))
          pick Equal e = absurd (k.standard.0.outside (subst (IsLeadMultiple ds) (sym (same_dp t.mono m e)) d))
          pick Greater e =
              absurd (k.standard.0.outside (base.leads t (sub p f (polynomial_of m))
              (subst (InIdeal p n gs) (lead_stays p n t f (polynomial_of m) (pos p n prime) k.poly poly (turn_down t.mono m e, tt)) flipped)))

  -- such members for each of the least leads
  record Tails (ms : List Monomial) : Type 0 where
    basis : List (List Term)
    members : All (InIdeal p n gs) basis
    monic : All IsMonic basis
    leads_are : leads basis ≡ ms
    apart : AreApart basis
    low : (q : List Term) → Contains basis q → (m : Monomial) → Contains (lower_monos q) m → Standard m

  abbrev Fits : Monomial → Type 0
  Fits m = IsAffine n m × IsLeadMultiple ds m

  abbrev Neither : List Term → List Term → Type 0
  Neither f g = (Divides (lead_mono f) (lead_mono g) → ⊥) × (Divides (lead_mono g) (lead_mono f) → ⊥)

  one_more : (m : Monomial) (ms : List Monomial) → ((z : Monomial) → Contains (m ∷ ms) z → Fits z) → AreMinimal (m ∷ ms) → Tails ms → Tails (m ∷ ms)
  one_more m ms fits least k = go (tailed m (fits m (contains_head m ms)).0 (fits m (contains_head m ms)).1)
    where
      go : Tailed m → Tails (m ∷ ms)
      go (g, i, s) = record {
        basis = (at m ∷ g) ∷ k.basis;
        members = All-cons (InIdeal p n gs) (at m ∷ g) k.basis i k.members;
        monic = All-cons IsMonic (at m ∷ g) k.basis refl k.monic;
        leads_are = ap (λ ws. m ∷ ws) k.leads_are;
        apart = pairs_cons Neither (at m ∷ g) k.basis apart k.apart;
        low = each_of (λ q. (w : Monomial) → Contains (lower_monos q) w → Standard w) (at m ∷ g) k.basis (of_each Standard g s) k.low;
      }
        where
          apart : (b : List Term) → Contains k.basis b → Neither (at m ∷ g) b
          apart b c =
              let there : Contains ms (lead_mono b) = subst (λ ws. Contains ws (lead_mono b)) k.leads_are (lead_contained k.basis b k.monic c) in
              let h = pairs_head Apart m ms least (lead_mono b) there in
              (h.1, no_divisor n m (lead_mono b) (fits m (contains_head m ms)).0 (fits (lead_mono b) (contains_tail m (lead_mono b) ms there)).0 h.0)

  tails : (ms : List Monomial) → ((z : Monomial) → Contains ms z → Fits z) → AreMinimal ms → Tails ms
  tails [] fits least = record {
    basis = [];
    members = All-nil (InIdeal p n gs);
    monic = All-nil IsMonic;
    leads_are = refl;
    apart = pairs_none Neither;
    low = λ q c m l. absurd (contains_none q c);
  }
  tails (m ∷ ms) fits least = one_more m ms fits least (tails ms (λ z c. fits z (contains_tail m z ms c)) (pairs_tail Apart m ms least))

  pub reduced_basis : (qs : List (List Term)) × IsReducedBasis p n (InIdeal p n gs) qs
  reduced_basis = (k.basis, reduced_law p n gs k.basis prime hi polys k.members all k.monic rising k.apart low)
    where
      ranked : Sorted (map lead_mono ds)
      ranked = sort (map lead_mono ds)

      -- each of them is the lead of a member of the basis
      source : (z : Monomial) → Contains ranked.sorted z → (b : List Term) × Contains ds b × (lead_mono b ≡ z)
      source z c = contained_map lead_mono ds z ((ranked.exact z).0 c)

      affine : (z : Monomial) → Contains ranked.sorted z → IsAffine n z
      affine z c =
          let b = source z c in
          subst (IsAffine n) b.2 (lead_affine p n b.0 (All-contains IsMonic ds b.0 base.monic b.1) (All-contains (IsPoly p n) ds b.0 (basis_polys p n prime gs ds hi base) b.1))

      least : Thinned ranked.sorted
      least = thin ranked.sorted (λ z c. (affine z c).plain) ranked.rising

      multiple : (z : Monomial) → Contains least.least z → IsLeadMultiple ds z
      multiple z c = let b = source z (least.among z c) in (b.0, b.1, subst (λ w. Divides (lead_mono b.0) w) b.2 (divides_self (lead_mono b.0)))

      k : Tails least.least
      k = tails least.least (λ z c. (affine z (least.among z c), multiple z c)) least.minimal

      polys : All (IsPoly p n) k.basis
      polys = All-weaker (InIdeal p n gs) (IsPoly p n) (λ q i. in_poly p n gs q (pos p n prime) hi i) k.basis k.members

      all : (t : Term) (f : List Term) → InIdeal p n gs (t ∷ f) → IsLeadMultiple k.basis t.mono
      all t f i =
          let d = base.leads t f i in
          let m = least.covers (lead_mono d.0) ((ranked.exact (lead_mono d.0)).1 (contains_map lead_mono ds d.0 d.1)) in
          let q = contained_lead k.basis m.0 (subst (λ ws. Contains ws m.0) (sym k.leads_are) m.1) in
          (q.0 ∷ q.1, q.2, divides_chain q.0.mono (lead_mono d.0) t.mono (subst (λ w. Divides w (lead_mono d.0)) (sym q.3) m.2) d.2)

      rising : AllPairs (λ m w. cmp_dp m w ≡ Less) (leads k.basis)
      rising = subst (λ ws. AllPairs (λ m w. cmp_dp m w ≡ Less) ws) (sym k.leads_are) (λ i j d l h. (least.minimal i j d l h).0)

      low : (q : List Term) → Contains k.basis q → (m : Monomial) → Contains (lower_monos q) m → IsLeadMultiple k.basis m → ⊥
      low q c m l b =
          let there : Contains least.least (lead_mono b.0) = subst (λ ws. Contains ws (lead_mono b.0)) k.leads_are (lead_contained k.basis b.0 k.monic b.1) in
          let d = multiple (lead_mono b.0) there in
          (k.low q c m l).outside (d.0, d.1, divides_chain (lead_mono d.0) (lead_mono b.0) m d.2 b.2)

pub reduces_law : StandardBasesAreReduced
reduces_law p n gs ds prime hi base = reduced_basis p n prime gs ds hi base

pub reduced_bases_law : ReducedBasesExist
reduced_bases_law p n gs N prime hi d = let c = (corners_law p n gs N prime hi d).1 in reduced_basis p n prime gs c.basis hi c.standard
