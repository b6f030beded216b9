-- The members with the leads that were found are the reduced basis.
use Rattle.std.proofs.Common.{◌≡◌, inr, ℕ, suc, ◌<◌, List, [], ◌∷◌, length, get_or, All, refl, sym, ap, ◌∙◌, subst, arith}
use Rattle.std.specs.List.{AllPairs, Contains}
use Rattle.std.specs.declared.cmp.Ordering.TheVariants.{Less}
use Rattle.std.proofs.lemmas.List.{get_or_default}
use Rattle.std.proofs.lemmas.List.Elements.{All-from_get_or}
use Rattle.monomials.specs.Mono.{Monomial, Divides, cmp_dp, unit}
use Rattle.polys.specs.declared.term.Term.{Term}
use Rattle.polys.specs.Terms.{IsAffine, IsMonic, IsPoly}
use Rattle.polys.specs.Ideal.{InIdeal}
use Rattle.polys.specs.Curve.{CurveData}
use Rattle.polys.specs.Reduced.{IsReducedBasis, leads, lower_monos}
use Rattle.ideal_laws.proofs.Ideals.{in_poly}
use Rattle.curve_model.specs.Laws.{IsFinite}
use Rattle.graded_modules.specs.Bases.{AreApart}
use Rattle.graded_modules.specs.Module.{IsLeadMultiple}
use Rattle.graded_modules.specs.Vector.{lead_mono}
use Rattle.homogenising.proofs.Spanning.{reduced_law}
use Rattle.row_space.specs.Subspace.{Subspace}
use Rattle.standard_monomials.proofs.Minimal.{no_divisor}
use Rattle.basis_existence.proofs.Reducing.{of_each}
use Rattle.digit_laws.specs.Digits.{AreCornersOf, numerators}
use Rattle.digit_laws.specs.Laws.{SpaceIsIdeal}
use Rattle.corner_basis.specs.Staircase.{AreTailed, HasDivisor, IsPassed, IsStaircase, IsTailed}
use Rattle.corner_basis.proofs.Leads.{all_leads}
use Rattle.corner_basis.proofs.Classes.{pos, In}

-- the lead of such a member
tail_lead : (l : Monomial) (f rest : List Term) → f ≡ record { coeff = 1; mono = l } ∷ rest → lead_mono f ≡ l
tail_lead l f rest e = ap lead_mono e

leads_of : (ls : List Monomial) (fs : List (List Term)) → length fs ≡ length ls
    → ((i : ℕ) → i < length ls → (rest : List Term) × (get_or fs i [] ≡ record { coeff = 1; mono = get_or ls i unit } ∷ rest)) → leads fs ≡ ls
leads_of [] [] n h = refl
leads_of [] (f ∷ fs) n h = absurd (omega arith)
leads_of (l ∷ ls) [] n h = absurd (omega arith)
leads_of (l ∷ ls) (f ∷ fs) n h =
    let q = h 0 (omega arith) in
    ap (λ z. leads (z ∷ fs)) q.1 ∙ ap (λ z. l ∷ z) (leads_of ls fs (let x : length (f ∷ fs) ≡ length (l ∷ ls) = n in omega arith) (λ i a. h (suc i) (omega arith)))

module _ (A : CurveData) (c : IsFinite A) (ms : List Monomial) (k : AreCornersOf A ms) (T : ℕ) (space span : Subspace) (ideal : SpaceIsIdeal A ms T space) (ss ls : List Monomial)
    (h : IsStaircase A ms T space span ss ls) (whole : (m : Monomial) → IsAffine A.variables m → IsPassed ss ls m) (fs : List (List Term)) (t : AreTailed A ms T space ss ls fs) where
  abbrev gs : List (List Term)
  gs = numerators A ms T space

  -- what holds of each such member
  each : (R : List Term → Type 0) → ((l : Monomial) (f : List Term) → IsTailed A ms T space ss l f → R f) → All R fs
  each R r = All-from_get_or R fs [] (λ i a. r (get_or ls i unit) (get_or fs i []) (t.each i (let n = t.count in omega arith)))

  pub polys : All (IsPoly A.prime A.variables) fs
  polys = each (IsPoly A.prime A.variables) (λ l f q. q.poly)

  members : All (InIdeal A.prime A.variables (numerators A ms T space)) fs
  members = each (InIdeal A.prime A.variables (numerators A ms T space)) (λ l f q. (ideal.exact f q.poly).1 q.member)

  monic : All IsMonic fs
  monic = each IsMonic (λ l f q. subst IsMonic (sym q.whole) refl)

  leads_are : leads fs ≡ ls
  leads_are = leads_of ls fs t.count (λ i a. let q = t.each i a in (q.rest, q.whole))

  -- the lead of the member with this number
  lead_at : (i : ℕ) (d : List Term) → i < length fs → lead_mono (get_or fs i d) ≡ get_or ls i unit
  lead_at i d a =
      let q = t.each i (let n = t.count in omega arith) in
      ap lead_mono (get_or_default fs i d [] a) ∙ tail_lead (get_or ls i unit) (get_or fs i []) q.rest q.whole

  there : (i : ℕ) → i < length ls → Contains ls (get_or ls i unit)
  there i a = (i, a, get_or_default ls i (get_or ls i unit) unit a)

  divisor : (m : Monomial) → IsLeadMultiple fs m → HasDivisor ls m
  divisor m b =
      let i = b.1.0 in
      let a : i < length fs = b.1.1 in
      let e : lead_mono b.0 ≡ get_or ls i unit = sym (ap lead_mono b.1.2) ∙ lead_at i b.0 a in
      (get_or ls i unit, there i (let n = t.count in omega arith), subst (λ w. Divides w m) e b.2)

  multiple : (m : Monomial) → HasDivisor ls m → IsLeadMultiple fs m
  multiple m d =
      let i = d.1.0 in
      let a : i < length ls = d.1.1 in
      let n = t.count in
      let inside : i < length fs = omega arith in
      let e : lead_mono (get_or fs i []) ≡ d.0 = lead_at i [] inside ∙ get_or_default ls i unit d.0 a ∙ d.1.2 in
      (get_or fs i [], (i, inside, get_or_default fs i (get_or fs i []) [] inside), subst (λ w. Divides w m) (sym e) d.2)

  apart : AreApart fs
  apart i j d a b =
      let n = t.count in
      let m = h.minimal i j unit a (omega arith) in
      let e = lead_at i d (omega arith) in
      let f = lead_at j d b in
      let one = h.affine (get_or ls i unit) (inr (there i (omega arith))) in
      let two = h.affine (get_or ls j unit) (inr (there j (omega arith))) in (
        λ q. m.1 (subst (λ w. Divides w (get_or ls j unit)) e (subst (Divides (lead_mono (get_or fs i d))) f q)),
        λ q. no_divisor A.variables (get_or ls i unit) (get_or ls j unit) one two m.0 (subst (λ w. Divides w (get_or ls i unit)) f (subst (Divides (lead_mono (get_or fs j d))) e q)),
      )

  low : (q : List Term) → Contains fs q → (m : Monomial) → Contains (lower_monos q) m → IsLeadMultiple fs m → ⊥
  low q b m d l =
      let i = b.0 in
      let a : i < length fs = b.1 in
      let n = t.count in
      let x = t.each i (omega arith) in
      let is : q ≡ record { coeff = 1; mono = get_or ls i unit } ∷ x.rest = sym b.2 ∙ get_or_default fs i q [] a ∙ x.whole in
      h.outside m (of_each (Contains ss) x.rest x.monos m (subst (λ z. Contains (lower_monos z) m) is d)) (divisor m l)

  all : (u : Term) (f : List Term) → InIdeal A.prime A.variables (numerators A ms T space) (u ∷ f) → IsLeadMultiple fs u.mono
  all u f i = multiple u.mono (all_leads A c ms k T space span ideal ss ls h whole u f i (in_poly A.prime A.variables gs (u ∷ f) (pos A c ms k T) ideal.polys i).affine.0)

  rising : AllPairs (λ m w. cmp_dp m w ≡ Less) (leads fs)
  rising = subst (λ ws. AllPairs (λ m w. cmp_dp m w ≡ Less) ws) (sym leads_are) (λ i j d a b. (h.minimal i j d a b).0)

  pub reduced : IsReducedBasis A.prime A.variables (In A c ms k T space) fs
  reduced =
      let r = reduced_law A.prime A.variables gs fs c.curve.prime ideal.polys polys members all monic rising apart low in
      record {
        reduced = r.reduced;
        exact = λ f hf. let one = r.exact f hf in let two = ideal.exact f hf in (λ i. two.0 (one.0 i), λ i. one.1 (two.1 i));
      }
