-- Where all monomials are tried, the leads of the ideal are the multiples of those that were found.
use Rattle.std.proofs.Common.{◌≡◌, ◌⊎◌, inl, inr, ℕ, ◌-◌, ◌*◌, ◌<◌, List, [], ◌∷◌, map, length, All, sym, subst}
use Rattle.std.specs.List.{Contains}
use Rattle.std.specs.declared.cmp.Ordering.TheVariants.{Less}
use Rattle.std.proofs.lemmas.List.Elements.{All-contains_itself, All-weaker, Contains-append_right}
use Rattle.monomials.specs.Mono.{Monomial, cmp_dp}
use Rattle.monomials.proofs.Factors.{divides_trans}
use Rattle.polys.specs.declared.term.Term.{Term}
use Rattle.polys.specs.Terms.{EachMono, IsAffine, IsPoly, sub, multiple}
use Rattle.polys.specs.Ideal.{InIdeal, HasDim}
use Rattle.polys.specs.Curve.{CurveData}
use Rattle.polys.proofs.Affine.{poly_sub}
use Rattle.polys.proofs.Each.{every_add, every_more, every_multiple}
use Rattle.ideal_laws.proofs.Ideals.{in_generator}
use Rattle.ideal_laws.proofs.Unique.{same_from_sub}
use Rattle.curve_model.specs.Fraction.{denominator_power}
use Rattle.curve_model.specs.Laws.{IsFinite}
use Rattle.curve_laws.proofs.Base.{high}
use Rattle.graded_modules.specs.Vector.{lead_mono}
use Rattle.graded_modules.specs.Module.{IsLeadMultiple}
use Rattle.row_space.specs.Subspace.{Subspace}
use Rattle.standard_monomials.specs.Standard.{AreCorners, IsRemainder, IsStandard, polynomial_of}
use Rattle.standard_monomials.proofs.Remainders.{remainder}
use Rattle.basis_existence.proofs.Corners.{corners_law, larger_law}
use Rattle.basis_existence.proofs.LeadsDecided.{lead_stays}
use Rattle.digit_laws.specs.Digits.{AreCornersOf, numerators, value}
use Rattle.digit_laws.specs.Laws.{SpaceIsIdeal}
use Rattle.digit_laws.proofs.DigitLaws.{gens, basis_of}
use Rattle.digit_laws.proofs.Spaces.{affine_poly}
use Rattle.corner_basis.specs.Staircase.{HasDivisor, IsStaircase}
use Rattle.corner_basis.proofs.Classes.{pos}

module _ (A : CurveData) (c : IsFinite A) (ms : List Monomial) (k : AreCornersOf A ms) (T : ℕ) (space span : Subspace) (ideal : SpaceIsIdeal A ms T space) (ss ls : List Monomial)
    (h : IsStaircase A ms T space span ss ls) (whole : (m : Monomial) → IsAffine A.variables m → Contains ss m ⊎ HasDivisor ls m) where
  abbrev gs : List (List Term)
  gs = numerators A ms T space

  abbrev Member : List Term → Type 0
  Member f = InIdeal A.prime A.variables (numerators A ms T space) f

  positive : 0 < A.prime
  positive = pos A c ms k T

  -- the ideal has a finite dimension, as it holds d^T and I
  finite : (N : ℕ) × HasDim A.prime A.variables (numerators A ms T space) N
  finite =
      let r = larger_law A.prime A.variables (denominator_power A T ∷ A.ideal) (numerators A ms T space) (length ms * T) c.curve.prime (gens A c ms k T) ideal.polys
      (All-weaker (Contains (numerators A ms T space)) Member (λ g d. in_generator A.prime A.variables (numerators A ms T space) g (high A c.curve) ideal.polys d) (denominator_power A T ∷ A.ideal) inside)
      (basis_of A c ms k T) in
      (r.0, r.2)
    where
      inside : All (Contains (numerators A ms T space)) (denominator_power A T ∷ A.ideal)
      inside = All-weaker (Contains (denominator_power A T ∷ A.ideal)) (Contains (numerators A ms T space))
          (λ g d. Contains-append_right (map (value A ms T) space.basis) (denominator_power A T ∷ A.ideal) g d) (denominator_power A T ∷ A.ideal) (All-contains_itself (denominator_power A T ∷ A.ideal))

  corners : (ns : List Monomial) × AreCorners A.prime A.variables (numerators A ms T space) ns
  corners = corners_law A.prime A.variables (numerators A ms T space) finite.0 c.curve.prime ideal.polys finite.1

  abbrev ds : List (List Term)
  ds = corners.1.basis

  abbrev Standard : Monomial → Type 0
  Standard m = IsStandard A.variables corners.1.basis m

  -- a lead that was found is one of the ideal
  found_lead : (l : Monomial) → Contains ls l → IsLeadMultiple corners.1.basis l
  found_lead l d =
      let q = h.reducible l d in
      let hl = affine_poly A c ms k T l (h.affine l (inr d)) in
      let i = (ideal.exact (sub A.prime (polynomial_of l) q.sum) (poly_sub A.prime A.variables (polynomial_of l) q.sum positive hl q.poly)).1 q.close in
      corners.1.standard.leads (record { coeff = 1; mono = l }) (sub A.prime [] q.sum)
      (subst Member (lead_stays A.prime A.variables (record { coeff = 1; mono = l }) [] q.sum positive hl q.poly (every_more (λ w. Contains ss w × (cmp_dp w l ≡ Less)) (λ w. cmp_dp w l ≡ Less) q.sum (λ w b. b.1) q.monos)) i)

  -- what is no lead of the ideal was found to be none
  found_standard : (m : Monomial) → Standard m → Contains ss m
  found_standard m s = go (whole m s.affine)
    where
      go : Contains ss m ⊎ HasDivisor ls m → Contains ss m
      go (inl d) = d
      go (inr q) = let b = found_lead q.0 q.1 in absurd (s.outside (b.0, b.1, divides_trans (lead_mono b.0) q.0 m b.2 q.2))

  -- what was found to be no lead of the ideal is none
  standard_found : (m : Monomial) → Contains ss m → Standard m
  standard_found m d = go (remainder A.prime A.variables c.curve.prime gs ds ideal.polys corners.1.standard (polynomial_of m) hm)
    where
      hm : IsPoly A.prime A.variables (polynomial_of m)
      hm = affine_poly A c ms k T m (h.affine m (inl d))

      go : (r : List Term) × IsRemainder A.prime A.variables gs ds (polynomial_of m) r → Standard m
      go (r, e) =
          let in_ss = every_more Standard (Contains ss) r found_standard e.standard in
          let x : sub A.prime (polynomial_of m) r ≡ [] =
          h.free (sub A.prime (polynomial_of m) r) (poly_sub A.prime A.variables (polynomial_of m) r positive hm e.poly)
          (every_add (Contains ss) A.prime (polynomial_of m) (multiple A.prime (A.prime - 1) r) (d, tt) (every_multiple (Contains ss) A.prime (A.prime - 1) r in_ss))
          ((ideal.exact (sub A.prime (polynomial_of m) r) (poly_sub A.prime A.variables (polynomial_of m) r positive hm e.poly)).0 e.close) in
          let same : polynomial_of m ≡ r = same_from_sub A.prime A.variables (polynomial_of m) r positive hm e.poly x in
          (subst (EachMono Standard) (sym same) e.standard).0

  -- each lead of the ideal is a multiple of one that was found
  pub all_leads : (t : Term) (f : List Term) → Member (t ∷ f) → IsAffine A.variables t.mono → HasDivisor ls t.mono
  all_leads t f i a = go (whole t.mono a)
    where
      go : Contains ss t.mono ⊎ HasDivisor ls t.mono → HasDivisor ls t.mono
      go (inr q) = q
      go (inl d) = absurd ((standard_found t.mono d).outside (corners.1.standard.leads t f i))
