-- Polynomials and their homogenised vectors.
use Rattle.std.proofs.Common.{◌≡◌, ℕ, ◌*◌, ◌≤◌, List, [], ◌∷◌, map, get_or, refl, sym, ap, subst, arith}
use Rattle.std.specs.List.{All}
use Rattle.std.proofs.lemmas.List.Elements.{All-map, Contains-get_or}
use Rattle.prime_field.specs.Primes.{IsPrime}
use Rattle.monomials.specs.Mono.{Monomial}
use Rattle.polys.specs.declared.term.Term.{Term}
use Rattle.polys.specs.Poly.{Polynomial, IsVector, IsPlain, terms_of}
use Rattle.polys.specs.Terms.{EachMono, IsPoly, IsMonic}
use Rattle.polys.specs.Curve.{IsOver}
use Rattle.polys.specs.Ideal.{InIdeal}
use Rattle.polys.proofs.Each.{every_more, every_zip}
use Rattle.graded_modules.specs.Vector.{IsGenerator, degree_at}
use Rattle.graded_modules.specs.Module.{InModule}
use Rattle.graded_modules.specs.Bases.{HasAllLeads, SpanOneModule}
use Rattle.graded_modules.proofs.Members as Modules
use Rattle.prime_field.proofs.Table.{above_one}
use Rattle.homogenising.specs.Homogenised.{homogenised, dehomogenised, all_homogenised, all_dehomogenised}
use Rattle.homogenising.specs.Laws.{IsHomogeneousPoly, HomogenisedLaws, DehomogenisedLaws, HasAffineLeads, LeadsStay, LeadsStayLeads, ReducedByAffineLeads}
use Rattle.module_basis.specs.Gens.{IsHomogeneousOver, homogenised_of}
use Rattle.module_basis.specs.declared.gens.Gens.{Gens}
use Rattle.module_basis.specs.Basis.{IsBasis, lowered_of}
use Rattle.module_division.specs.Division.{IsDivisor}
use Rattle.module_division.specs.Reduction.{IsInterreduced}
use Rattle.module_division.proofs.Lists.{place_of}
use Rattle.module_division.proofs.IdealBases.{affine_tight, IsIdealBasis, ideal_basis}

-- ---- homogenised polynomials

pub lists_homogenised : (p : ℕ) (fs : List Polynomial) → terms_of (map (homogenised_of p) fs) ≡ all_homogenised (terms_of fs)
lists_homogenised p [] = refl
lists_homogenised p (f ∷ fs) = ap (λ r. homogenised f.terms ∷ r) (lists_homogenised p fs)

pub homogenised_gens : (law : HomogenisedLaws) (p n : ℕ) (fs : List Polynomial) → n ≤ 6 → All (IsOver p n) fs → All (IsHomogeneousOver p n 0) (map (homogenised_of p) fs)
homogenised_gens law p n fs h all =
    All-map (IsHomogeneousOver p n 0) (homogenised_of p) fs (λ k d l. record { prime = refl; vector = (law.homogeneous p n (get_or fs k d).terms h (all k d l).poly).generator })

pub homogenised_plain : (law : HomogenisedLaws) (p n : ℕ) (fs : List Polynomial) → n ≤ 6 → All (IsOver p n) fs → All (EachMono IsPlain) (terms_of (map (homogenised_of p) fs))
homogenised_plain law p n fs h all =
    All-map (EachMono IsPlain) (λ (f : Polynomial). f.terms) (map (homogenised_of p) fs)
    (All-map (λ (f : Polynomial). EachMono IsPlain f.terms) (homogenised_of p) fs (λ k d l. (law.homogeneous p n (get_or fs k d).terms h (all k d l).poly).plain))

-- ---- where the homogenising variable becomes 1

-- a plain homogeneous vector is a homogeneous polynomial
pub homogeneous_poly : (p n shift : ℕ) (f : List Term) → IsGenerator p n shift f → EachMono IsPlain f → IsHomogeneousPoly p n f
homogeneous_poly p n shift f h z = record {
  generator = record {
    vector = h.vector;
    homogeneous = (
      h.homogeneous.0,
      every_more (λ m. IsPlain m × (degree_at shift m ≡ h.homogeneous.0)) (λ m. degree_at 0 m ≡ h.homogeneous.0) f
          (λ m k. same_degree m k.0 k.1) (every_zip IsPlain (λ m. degree_at shift m ≡ h.homogeneous.0) f z h.homogeneous.1),
    );
  };
  plain = z;
}
  where
    same_degree : (m : Monomial) → m.component ≡ 0 → degree_at shift m ≡ h.homogeneous.0 → degree_at 0 m ≡ h.homogeneous.0
    same_degree m c d = let s : m.component * shift ≡ 0 * shift = ap (λ (k : ℕ). k * shift) c in omega arith

pub lists_lowered : (p : ℕ) (fs : List Polynomial) → terms_of (map (lowered_of p) fs) ≡ all_dehomogenised p (terms_of fs)
lists_lowered p [] = refl
lists_lowered p (f ∷ fs) = ap (λ r. dehomogenised p f.terms ∷ r) (lists_lowered p fs)

pub homogeneous : (b : Gens) → IsBasis b → All (EachMono IsPlain) (terms_of b.vectors) → All (IsHomogeneousPoly b.prime b.variables) (terms_of b.vectors)
homogeneous b h plain k d l = homogeneous_poly b.prime b.variables b.shift (get_or (terms_of b.vectors) k d) (h.reduced.vectors k d l) (plain k d l)

pub self_spans : (b : Gens) → SpanOneModule b.prime b.variables (terms_of b.vectors) (terms_of b.vectors)
self_spans b f = (λ h. h, λ h. h)

module _ (laws : DehomogenisedLaws) (stay : LeadsStayLeads) (law : ReducedByAffineLeads) (b : Gens) (h : IsBasis b) (prime : IsPrime b.prime) (plain : All (EachMono IsPlain) (terms_of b.vectors))
    (known : All (λ f. IsVector b.prime f.terms) (map (lowered_of b.prime) b.vectors)) where
  lowered_polys : All (IsPoly b.prime b.variables) (terms_of (map (lowered_of b.prime) b.vectors))
  lowered_polys = subst (All (IsPoly b.prime b.variables)) (sym (lists_lowered b.prime b.vectors))
      (All-map (IsPoly b.prime b.variables) (dehomogenised b.prime) (terms_of b.vectors) (λ k d l. laws.poly b.prime b.variables (get_or (terms_of b.vectors) k d) h.gens.six_variables (homogeneous b h plain k d l)))

  lowered_monic : All IsMonic (terms_of (map (lowered_of b.prime) b.vectors))
  lowered_monic = subst (All IsMonic) (sym (lists_lowered b.prime b.vectors))
      (All-map IsMonic (dehomogenised b.prime) (terms_of b.vectors) (λ k d l. laws.monic b.prime b.variables (get_or (terms_of b.vectors) k d) h.gens.six_variables (homogeneous b h plain k d l) (h.reduced.monic k d l)))

  pub lowered_divisors : All (IsDivisor b.prime) (map (lowered_of b.prime) b.vectors)
  lowered_divisors k d l =
      let fs = map (lowered_of b.prime) b.vectors in
      record {
        prime = All-map (λ (f : Polynomial). f.prime ≡ b.prime) (lowered_of b.prime) b.vectors (λ k d l. refl) k d l;
        vector = known k d l;
        monic = place_of IsMonic fs lowered_monic k d l;
        tight = affine_tight b.prime b.variables (get_or fs k d).terms (place_of (IsPoly b.prime b.variables) fs lowered_polys k d l);
      }

  pub lowered_basis : (ds : List Polynomial) → IsInterreduced b.prime (terms_of (map (lowered_of b.prime) b.vectors)) ds
      → (gs : List (List Term)) → All (IsHomogeneousPoly b.prime b.variables) gs → SpanOneModule b.prime b.variables gs (terms_of b.vectors)
      → IsIdealBasis b.prime b.variables (all_dehomogenised b.prime gs) ds
  lowered_basis ds r gs all one =
      let p = b.prime in
      let n = b.variables in
      let vs = terms_of b.vectors in
      let two = above_one p prime in
      let member : All (InModule p n gs) vs = (λ k d l. (one (get_or vs k d)).1 (Modules.in_generator p n vs (get_or vs k d) two (λ k d l. (h.reduced.vectors k d l).vector) (Contains-get_or vs k d l))) in
      let every : HasAllLeads p n gs vs = (λ m (t, f, i, q). h.reduced.all_leads m (t, f, (one (t ∷ f)).0 i, q)) in
      let s : LeadsStay p n gs vs = stay p n gs vs prime h.gens.six_variables all (homogeneous b h plain) member every in
      ideal_basis law p n (all_dehomogenised p gs) (map (lowered_of p) b.vectors) ds prime
      (All-map (IsPoly p n) (dehomogenised p) gs (λ k d l. laws.poly p n (get_or gs k d) h.gens.six_variables (all k d l))) lowered_polys lowered_monic lowered_divisors
      (subst (All (InIdeal p n (all_dehomogenised p gs))) (sym (lists_lowered p b.vectors)) s.members)
      (subst (HasAffineLeads p n (all_dehomogenised p gs)) (sym (lists_lowered p b.vectors)) s.leads) r
