-- The bases of the parts of a module are those of the sum and of the colon ideal.
use Rattle.std.proofs.Common.{◌≡◌, ◌↔◌, ℕ, ◌+◌, ◌*◌, ◌≤◌, ◌<◌, List, [], ◌∷◌, refl, sym, ◌∙◌, subst, arith, get_or}
use Rattle.std.specs.Prelude.{Result, Ok, Err, IfOk}
use Rattle.std.specs.List.{All}
use Rattle.std.proofs.lemmas.List.Elements.{All-nil, All-cons, All-head, All-tail, All-contains}
use Rattle.monomials.specs.Mono.{Monomial, total_degree}
use Rattle.prime_field.specs.Primes.{IsPrime}
use Rattle.polys.specs.declared.term.Term.{Term}
use Rattle.polys.specs.Curve.{IsOver}
use Rattle.polys.specs.Ideal.{InIdeal, combination}
use Rattle.polys.specs.Poly.{Polynomial, IsPlain, terms_of}
use Rattle.polys.specs.Reduced.{IsReducedBasis}
use Rattle.polys.specs.Terms.{EachMono, IsPoly, IsMonic, degree_of, mul}
use Rattle.polys.proofs.Degrees.{AtMost, degree_le, each_degree}
use Rattle.polys.proofs.Each.{every_add, every_mul, every_normal, every_zip, every_more}
use Rattle.ideal_laws.proofs.Ideals.{in_head, in_more, in_generator, in_larger, in_poly}
use Rattle.graded_modules.specs.Bases.{IsReduced, SpanOneModule}
use Rattle.graded_modules.specs.Deep.{IsDeep}
use Rattle.graded_modules.specs.Module.{InModule, IsLeadMultiple}
use Rattle.graded_modules.specs.Vector.{IsFactor, IsGraded, IsGradedVector, IsGenerator, degree_at, lead_mono}
use Rattle.graded_modules.proofs.Members as members
use Rattle.homogenising.specs.Homogenised.{dehomogenised, all_homogenised, all_dehomogenised}
use Rattle.homogenising.specs.Laws.{IsHomogeneousPoly}
use Rattle.homogenising.proofs.Images.{image, every_image}
use Rattle.homogenising.proofs.Monomials.{lower, degree_lower}
use Rattle.denominator_module.specs.Laws.{AreGiven, IsModuleBasis, Generates}
use Rattle.denominator_module.specs.Module.{module_of, second, sum_members, colon_members, InColon, IsDeepDenominator, first}
use Rattle.denominator_module.proofs.Components.{every_first, plain_first, every_second}
use Rattle.denominator_module.proofs.Firsts.{all_from, lower_all, firsts_of, sums_are, all_firsts}
use Rattle.denominator_module.proofs.Pairs.{homogeneous_gs}
use Rattle.denominator_module.proofs.Seconds.{seconds_of, colons_are, all_seconds}
use Rattle.denominator_module.proofs.Stated.{parts_law}
use Rattle.module_basis.specs.declared.gens.Gens.{Gens}
use Rattle.module_basis.specs.Basis.{AreOverOneRing, IsLoweredBasis}
use Rattle.module_division.specs.Ideals.{IsMonicStandardBasis}
use Rattle.module_basis.specs.Gens.{AreGens, IsHomogeneousOver}
use Rattle.lift_colon.specs.Lifted.{IsLifted, HasModule}
use Rattle.lift_colon.proofs.Vectors.{given, polys, all_at}
use Rattle.standard_monomials.specs.Finding.{HasLowLeads}

-- ---- lists of polynomials of the program

module _ (p n : ℕ) where
  over_by : (qs : List Polynomial) → All (λ f. f.prime ≡ p) qs → All (IsPoly p n) (terms_of qs) → All (IsOver p n) qs
  over_by [] a b = All-nil (IsOver p n)
  over_by (q ∷ qs) a b =
      All-cons (IsOver p n) q qs (record { prime = All-head (λ f. f.prime ≡ p) q qs a; poly = All-head (IsPoly p n) q.terms (terms_of qs) b })
      (over_by qs (All-tail (λ f. f.prime ≡ p) q qs a) (All-tail (IsPoly p n) q.terms (terms_of qs) b))

  pub standard_by : (C : List Term → Type 0) (qs : List Polynomial) (ms : List (List Term)) → All (λ f. f.prime ≡ p) qs → terms_of qs ≡ ms → Generates p n C ms → IsMonicStandardBasis p n qs
  standard_by C qs ms a e g =
      record {
        over = over_by qs a (subst (All (IsPoly p n)) (sym e) g.polys);
        monic = subst (All IsMonic) (sym e) g.monic;
        leads = subst (λ w. (t : Term) (f : List Term) → InIdeal p n w (t ∷ f) → IsLeadMultiple w t.mono) (sym e) g.leads;
      }

  -- a reduced basis of what a list generates, where the list generates what meets the condition
  pub basis_by : (C : List Term → Type 0) (ms qs : List (List Term)) → Generates p n C ms → IsReducedBasis p n (InIdeal p n ms) qs → IsReducedBasis p n C qs
  basis_by C ms qs g h =
      record { reduced = h.reduced; exact = λ f a. (λ r. (g.exact f a).0 ((h.exact f a).0 r), λ c. (h.exact f a).1 ((g.exact f a).1 c)) }

-- a basis of one condition is one of each that means the same
pub basis_for : (p n : ℕ) (C D : List Term → Type 0) (qs : List (List Term)) → ((f : List Term) → IsPoly p n f → C f ↔ D f) → IsReducedBasis p n C qs → IsReducedBasis p n D qs
basis_for p n C D qs e h =
    record { reduced = h.reduced; exact = λ f a. (λ r. (e f a).0 ((h.exact f a).0 r), λ c. (h.exact f a).1 ((e f a).1 c)) }

-- ---- over a graded basis of the module of a denominator

module _ (p n : ℕ) (prime : IsPrime p) (six : n ≤ 6) (generators : List Polynomial) (d : Polynomial) (go : All (IsOver p n) generators) (do_ : IsOver p n d) (m : Gens)
    (known : AreGens m × IsReduced m.prime m.variables m.shift (terms_of m.vectors)) (ep : m.prime ≡ p) (en : m.variables ≡ n) (es : m.shift ≡ degree_of d.terms)
    (span : SpanOneModule p n (module_of d.terms (terms_of generators)) (terms_of m.vectors))
    (low : All (λ f. degree_at (degree_of d.terms) (lead_mono f) ≤ 1000) (terms_of m.vectors)) where
  pos : 0 < p
  pos = let h = prime.0 in omega arith

  two : 1 < p
  two = let h = prime.0 in omega arith

  abbrev pub gs : List (List Term)
  gs = terms_of generators

  abbrev pub bs : List (List Term)
  bs = terms_of m.vectors

  pub ga : AreGiven p n d.terms (terms_of generators)
  ga = given p n six prime d generators do_ go

  reduced : IsReduced p n (degree_of d.terms) (terms_of m.vectors)
  reduced =
      subst (λ x. IsReduced p n x (terms_of m.vectors)) es (subst (λ x. IsReduced p x m.shift (terms_of m.vectors)) en (subst (λ x. IsReduced x m.variables m.shift (terms_of m.vectors)) ep known.1))

  pub mb : IsModuleBasis p n d.terms (terms_of generators) (terms_of m.vectors)
  mb = record { vectors = reduced.vectors; monic = reduced.monic; same = span; all_leads = reduced.all_leads }

  pub vectors_over : All (IsHomogeneousOver p n (degree_of d.terms)) m.vectors
  vectors_over = all_at m.prime p m.variables n m.shift (degree_of d.terms) m.vectors ep en es known.0.vectors

  pub low_at : All (λ f. degree_at (degree_of d.terms) (lead_mono f) ≤ 1000) (terms_of m.vectors)
  low_at = low

  pub sum_standard : (qs : List Polynomial) → All (λ f. f.prime ≡ p) qs → terms_of qs ≡ sum_members p (terms_of m.vectors) → IsMonicStandardBasis p n qs
  sum_standard qs a e =
      standard_by p n (InIdeal p n (d.terms ∷ terms_of generators)) qs (sum_members p (terms_of m.vectors)) a e (parts_law.sum p n d.terms (terms_of generators) (terms_of m.vectors) ga mb)

  pub colon_standard : (qs : List Polynomial) → All (λ f. f.prime ≡ p) qs → terms_of qs ≡ colon_members p (terms_of m.vectors) → IsMonicStandardBasis p n qs
  colon_standard qs a e =
      standard_by p n (InColon p n (terms_of generators) d.terms) qs (colon_members p (terms_of m.vectors)) a e
      (parts_law.colon p n d.terms (terms_of generators) (terms_of m.vectors) ga mb)

  -- ---- the members of the bases are low

  abbrev IsLowMember : List Term → Type 0
  IsLowMember b = (IsGenerator p n (degree_of d.terms) b × IsMonic b) × (degree_at (degree_of d.terms) (lead_mono b) ≤ 1000)

  low_members : All IsLowMember (terms_of m.vectors)
  low_members = all_from IsLowMember (terms_of m.vectors)
      (λ b c. (
        (All-contains (IsGenerator p n (degree_of d.terms)) (terms_of m.vectors) b reduced.vectors c, All-contains IsMonic (terms_of m.vectors) b reduced.monic c),
        All-contains (λ f. degree_at (degree_of d.terms) (lead_mono f) ≤ 1000) (terms_of m.vectors) b low_at c,
      ))

  under : (b : List Term) (h : IsLowMember b) (w : Monomial) → degree_at (degree_of d.terms) w ≡ h.0.0.homogeneous.0 → total_degree w.exponents ≤ 1000
  under b h w e =
      let t = top b h.0.0 h.0.1 h.1 in
      let more : total_degree w.exponents ≤ total_degree w.exponents + w.component * degree_of d.terms = omega arith in
      omega arith
    where
      top : (b : List Term) (k : IsGenerator p n (degree_of d.terms) b) → IsMonic b → degree_at (degree_of d.terms) (lead_mono b) ≤ 1000 → k.homogeneous.0 ≤ 1000
      top [] k m l = absurd m
      top (t ∷ f) k m l = let e = k.homogeneous.1.0 in omega arith

  abbrev IsLowTerm : Monomial → Type 0
  IsLowTerm w = (IsGraded n w × IsPlain w) × (total_degree w.exponents ≤ 1000)

  lowered_low : (f : List Term) → EachMono IsLowTerm f → degree_of (dehomogenised p f) ≤ 1000
  lowered_low f h =
      degree_le 1000 (dehomogenised p f)
      (every_normal (AtMost 1000) p (image lower f) (every_image IsLowTerm (AtMost 1000) lower f (λ w x. (let l = degree_lower n six w x.0.0 x.0.1 in let k = x.1 in omega arith)) h))

  low_first : (b : List Term) → IsLowMember b → degree_of (dehomogenised p (first b)) ≤ 1000
  low_first b h =
      lowered_low (first b)
      (every_more (λ w. IsPlain w × (IsGraded n w × (degree_at (degree_of d.terms) w ≡ h.0.0.homogeneous.0))) IsLowTerm (first b) (λ w x. ((x.1.0, x.0), under b h w x.1.1))
      (every_zip IsPlain (λ w. IsGraded n w × (degree_at (degree_of d.terms) w ≡ h.0.0.homogeneous.0)) (first b) (plain_first b)
      (every_first (λ w. IsGraded n w × (degree_at (degree_of d.terms) w ≡ h.0.0.homogeneous.0)) b
      (every_zip (IsGraded n) (λ w. degree_at (degree_of d.terms) w ≡ h.0.0.homogeneous.0) b h.0.0.vector.graded h.0.0.homogeneous.1))))

  low_second : (b : List Term) → IsLowMember b → degree_of (dehomogenised p (second b)) ≤ 1000
  low_second b h =
      lowered_low (second b)
      (every_second (λ w. IsGraded n w × (degree_at (degree_of d.terms) w ≡ h.0.0.homogeneous.0)) IsLowTerm b
      (λ w z x. ((record { seven = x.0.seven; first = x.0.first; two = (omega arith) }, refl), under b h w x.1))
      (every_zip (IsGraded n) (λ w. degree_at (degree_of d.terms) w ≡ h.0.0.homogeneous.0) b h.0.0.vector.graded h.0.0.homogeneous.1))

  each_low : (fs : List (List Term)) → All (λ f. degree_of (dehomogenised p f) ≤ 1000) fs → All (λ f. degree_of f ≤ 1000) (all_dehomogenised p fs)
  each_low [] a = All-nil (λ f. degree_of f ≤ 1000)
  each_low (f ∷ fs) a =
      All-cons (λ (f : List Term). degree_of f ≤ 1000) (dehomogenised p f) (all_dehomogenised p fs) (All-head (λ f. degree_of (dehomogenised p f) ≤ 1000) f fs a)
      (each_low fs (All-tail (λ f. degree_of (dehomogenised p f) ≤ 1000) f fs a))

  pub sum_low : (qs : List Polynomial) → terms_of qs ≡ sum_members p (terms_of m.vectors) → All (λ f. degree_of f ≤ 1000) (terms_of qs)
  sum_low qs e =
      subst (All (λ f. degree_of f ≤ 1000)) (sym (e ∙ sums_are p (terms_of m.vectors)))
      (each_low (firsts_of (terms_of m.vectors))
      (all_firsts IsLowMember (λ f. degree_of (dehomogenised p f) ≤ 1000) (terms_of m.vectors) (λ b h z. low_first b h) low_members))

  pub colon_low : (qs : List Polynomial) → terms_of qs ≡ colon_members p (terms_of m.vectors) → All (λ f. degree_of f ≤ 1000) (terms_of qs)
  colon_low qs e =
      subst (All (λ f. degree_of f ≤ 1000)) (sym (e ∙ colons_are p (terms_of m.vectors)))
      (each_low (seconds_of (terms_of m.vectors))
      (all_seconds IsLowMember (λ f. degree_of (dehomogenised p f) ≤ 1000) (terms_of m.vectors) (λ b h z. low_second b h) low_members))

  -- ---- all of it

  module _ (ideal : List Polynomial) (io : All (IsOver p n) ideal) (ib : IsReducedBasis p n (InIdeal p n (terms_of generators)) (terms_of ideal)) where
    same_ideal : (f : List Term) → InIdeal p n (terms_of generators) f ↔ InIdeal p n (terms_of ideal) f
    same_ideal f = (
      λ r. (ib.exact f (in_poly p n (terms_of generators) f pos ga.generators r)).1 r,
      λ r. (ib.exact f (in_poly p n (terms_of ideal) f pos ib.reduced.polys r)).0 r,
    )

    larger : (hs cs : List (List Term)) → All (IsPoly p n) hs → ((f : List Term) → InIdeal p n hs f → InIdeal p n cs f) → (f : List Term) → InIdeal p n (d.terms ∷ hs) f → InIdeal p n (d.terms ∷ cs) f
    larger hs cs h k f r =
        in_larger p n (d.terms ∷ hs) (d.terms ∷ cs) f pos
        (All-cons (InIdeal p n (d.terms ∷ cs)) d.terms hs (in_head p n d.terms cs two do_.poly)
        (all_from (InIdeal p n (d.terms ∷ cs)) hs (λ g c. in_more p n d.terms cs g (k g (in_generator p n hs g two h c))))) r

    same_sum : (f : List Term) → IsPoly p n f → InIdeal p n (d.terms ∷ terms_of generators) f ↔ InIdeal p n (d.terms ∷ terms_of ideal) f
    same_sum f a = (
      larger (terms_of generators) (terms_of ideal) ga.generators (λ g r. (same_ideal g).0 r) f,
      larger (terms_of ideal) (terms_of generators) ib.reduced.polys (λ g r. (same_ideal g).1 r) f,
    )

    pub lifted : (some : 1 ≤ n) (sums colons sum colon : List Polynomial) → terms_of sums ≡ sum_members p (terms_of m.vectors) → terms_of colons ≡ colon_members p (terms_of m.vectors)
        → All (IsOver p n) sum → All (IsOver p n) colon → IsReducedBasis p n (InIdeal p n (terms_of sums)) (terms_of sum) → IsReducedBasis p n (InIdeal p n (terms_of colons)) (terms_of colon)
        → All (λ f. degree_of f ≤ 1000) (terms_of sum) → All (λ f. degree_of f ≤ 1000) (terms_of colon)
        → IsLifted (record { prime = p; variables = n; denominator = d; ideal = ideal; sum = sum; colon = colon })
        × HasModule (record { prime = p; variables = n; denominator = d; ideal = ideal; sum = sum; colon = colon }) m
    lifted some sums colons sum colon es' ec so co bs' bc ls lc = (
      record {
        prime = prime;
        some_variables = some;
        six_variables = six;
        denominator = do_;
        ideal_over = io;
        sum_over = so;
        colon_over = co;
        ideal = basis_for p n (InIdeal p n (terms_of generators)) (InIdeal p n (terms_of ideal)) (terms_of ideal) (λ f a. same_ideal f) ib;
        sum = basis_for p n (InIdeal p n (d.terms ∷ terms_of generators)) (InIdeal p n (d.terms ∷ terms_of ideal)) (terms_of sum) same_sum
            (basis_by p n (InIdeal p n (d.terms ∷ terms_of generators)) (sum_members p (terms_of m.vectors)) (terms_of sum)
            (parts_law.sum p n d.terms (terms_of generators) (terms_of m.vectors) ga mb) (subst (λ w. IsReducedBasis p n (InIdeal p n w) (terms_of sum)) es' bs'));
        colon = basis_for p n (InColon p n (terms_of generators) d.terms) (InColon p n (terms_of ideal) d.terms) (terms_of colon) (λ f a. same_ideal (mul p d.terms f))
            (basis_by p n (InColon p n (terms_of generators) d.terms) (colon_members p (terms_of m.vectors)) (terms_of colon)
            (parts_law.colon p n d.terms (terms_of generators) (terms_of m.vectors) ga mb) (subst (λ w. IsReducedBasis p n (InIdeal p n w) (terms_of colon)) ec bc));
        sum_low = ls;
        low = lc;
      },
      record { generators = terms_of generators; given = ga; same = same_ideal; prime = ep; variables = en; shift = es; gens = known.0; reduced = known.1; span = span; low = low_at },
    )

-- ---- a module spanned by polynomials has a basis of polynomials

pub plain_basis : (p n : ℕ) (gs bs : List (List Term)) → 1 < p → All (EachMono IsPlain) gs → All (IsGradedVector p n) bs → SpanOneModule p n gs bs → All (EachMono IsPlain) bs
plain_basis p n gs bs two a v s = all_from (EachMono IsPlain) bs (λ b c. plain b ((s b).1 (members.in_generator p n bs b two v c)))
  where
    combined : (qs gs : List (List Term)) → All (IsFactor p n) qs → All (EachMono IsPlain) gs → EachMono IsPlain (combination p qs gs)
    combined [] gs a b = tt
    combined (q ∷ qs) [] a b = tt
    combined (q ∷ qs) (g ∷ gs) a b =
        every_add IsPlain p (mul p q g) (combination p qs gs)
        (every_mul IsPlain p q g (λ m w x y. omega arith) (All-head (IsFactor p n) q qs a).plain (All-head (EachMono IsPlain) g gs b))
        (combined qs gs (All-tail (IsFactor p n) q qs a) (All-tail (EachMono IsPlain) g gs b))

    plain : (b : List Term) → InModule p n gs b → EachMono IsPlain b
    plain b r = subst (EachMono IsPlain) (sym r.combined) (combined r.factors gs r.polys a)

-- ---- what `make` owes

deep_same : (p q n m s t limit : ℕ) (u v : List (List Term)) → p ≡ q → n ≡ m → s ≡ t → u ≡ v → IsDeep p n s u limit → IsDeep q m t v limit
deep_same p q n m s t limit u v e f g h x =
    subst (λ w. IsDeep q m t w limit) h (subst (λ w. IsDeep q m w u limit) g (subst (λ w. IsDeep q w s u limit) f (subst (λ w. IsDeep w n s u limit) e x)))

module _ (p n : ℕ) (prime : IsPrime p) (six : n ≤ 6) (ideal : List Polynomial) (io : All (IsOver p n) ideal) (gens b : Gens)
    (ring : (gens.prime ≡ p) × (gens.variables ≡ n) × (gens.shift ≡ 0)) (lists : terms_of gens.vectors ≡ all_homogenised (terms_of ideal)) (same : AreOverOneRing gens b)
    (known : IsReduced b.prime b.variables b.shift (terms_of b.vectors)) (span : SpanOneModule gens.prime gens.variables (terms_of gens.vectors) (terms_of b.vectors)) where
  ga' : AreGiven p n [] (terms_of ideal)
  ga' = record { prime = prime; six = six; denominator = (let h = prime.0 in record { canonical = tt; affine = tt }); generators = polys p n six prime ideal io }

  span_at : SpanOneModule b.prime b.variables (all_homogenised (terms_of ideal)) (terms_of b.vectors)
  span_at =
      subst (λ w. SpanOneModule b.prime b.variables w (terms_of b.vectors)) lists
      (subst (λ x. SpanOneModule x b.variables (terms_of gens.vectors) (terms_of b.vectors)) (sym same.prime)
      (subst (λ x. SpanOneModule gens.prime x (terms_of gens.vectors) (terms_of b.vectors)) (sym same.variables) span))

  pub plain_vectors : All (EachMono IsPlain) (terms_of gens.vectors) → All (EachMono IsPlain) (terms_of b.vectors)
  plain_vectors a =
      plain_basis gens.prime gens.variables (terms_of gens.vectors) (terms_of b.vectors) (let h = prime.0 in let e = ring.0 in omega arith) a
      (subst (λ x. All (IsGradedVector x gens.variables) (terms_of b.vectors)) same.prime (subst (λ x. All (IsGradedVector b.prime x) (terms_of b.vectors)) same.variables (vectors (terms_of b.vectors) known.vectors)))
      span
    where
      vectors : (fs : List (List Term)) → All (IsGenerator b.prime b.variables b.shift) fs → All (IsGradedVector b.prime b.variables) fs
      vectors [] a = All-nil (IsGradedVector b.prime b.variables)
      vectors (f ∷ fs) a =
          All-cons (IsGradedVector b.prime b.variables) f fs (All-head (IsGenerator b.prime b.variables b.shift) f fs a).vector (vectors fs (All-tail (IsGenerator b.prime b.variables b.shift) f fs a))

  pub ideal_basis : (ds : List (List Term)) → IsLoweredBasis b ds → IsReducedBasis p n (InIdeal p n (terms_of ideal)) ds
  ideal_basis ds h =
      let ep = same.prime ∙ ring.0 in
      let en = same.variables ∙ ring.1 in
      let hom = homogeneous_gs p n [] (terms_of ideal) ga' in
      let homs = subst (λ x. All (IsHomogeneousPoly x b.variables) (all_homogenised (terms_of ideal))) (sym ep) (subst (λ x. All (IsHomogeneousPoly p x) (all_homogenised (terms_of ideal))) (sym en) hom) in
      let r = h (all_homogenised (terms_of ideal)) homs span_at in
      subst (λ w. IsReducedBasis p n (InIdeal p n w) ds) (lower_all p n [] (terms_of ideal) ga' (terms_of ideal) ga'.generators)
      (subst (λ x. IsReducedBasis p x (InIdeal p x (all_dehomogenised p (all_homogenised (terms_of ideal)))) ds) en
      (subst (λ x. IsReducedBasis x b.variables (InIdeal x b.variables (all_dehomogenised x (all_homogenised (terms_of ideal)))) ds) ep r))

pub deep_pairs : (p n : ℕ) (d : Polynomial) (ideal : List Polynomial) (pairs : Gens) (limit : ℕ) → pairs.prime ≡ p → pairs.variables ≡ n → pairs.shift ≡ degree_of d.terms
    → terms_of pairs.vectors ≡ module_of d.terms (terms_of ideal) → IsDeep pairs.prime pairs.variables pairs.shift (terms_of pairs.vectors) limit ↔ IsDeepDenominator p n d.terms (terms_of ideal) limit
deep_pairs p n d ideal pairs limit ep en es ev = (
  deep_same pairs.prime p pairs.variables n pairs.shift (degree_of d.terms) limit (terms_of pairs.vectors) (module_of d.terms (terms_of ideal)) ep en es ev,
  deep_same p pairs.prime n pairs.variables (degree_of d.terms) pairs.shift limit (module_of d.terms (terms_of ideal)) (terms_of pairs.vectors) (sym ep) (sym en) (sym es) (sym ev),
)

pub span_pairs : (p n : ℕ) (d : Polynomial) (ideal : List Polynomial) (pairs b : Gens) → pairs.prime ≡ p → pairs.variables ≡ n → terms_of pairs.vectors ≡ module_of d.terms (terms_of ideal)
    → SpanOneModule pairs.prime pairs.variables (terms_of pairs.vectors) (terms_of b.vectors) → SpanOneModule p n (module_of d.terms (terms_of ideal)) (terms_of b.vectors)
span_pairs p n d ideal pairs b ep en ev h =
    subst (λ w. SpanOneModule p n w (terms_of b.vectors)) ev
    (subst (λ x. SpanOneModule p x (terms_of pairs.vectors) (terms_of b.vectors)) en
    (subst (λ x. SpanOneModule x pairs.variables (terms_of pairs.vectors) (terms_of b.vectors)) ep h))

pub ok_more : {T E : Type 0} (r : Result T E) (P Q : T → Type 0) → ((x : T) → P x → Q x) → IfOk r P → IfOk r Q
ok_more (Ok x) P Q h k = h x k
ok_more (Err e) P Q h k = k

-- leads are no higher than their polynomials
pub low_leads : (fs : List (List Term)) → All (λ f. degree_of f ≤ 1000) fs → HasLowLeads fs
low_leads fs h k d l = let x = h k d l in let y = lead_low (get_or fs k d) in omega arith
  where
    lead_low : (f : List Term) → total_degree (lead_mono f).exponents ≤ degree_of f
    lead_low [] = omega arith
    lead_low (t ∷ f) = (each_degree (t ∷ f)).0
