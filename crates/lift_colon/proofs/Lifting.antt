-- What a lift owes.
use Rattle.std.proofs.Common.{◌≡◌, ◌≢◌, ◌↔◌, ℕ, ◌+◌, ◌≤◌, ◌<◌, List, [], ◌∷◌, refl, sym, ap, ◌∙◌, subst, arith}
use Rattle.std.specs.Prelude.{Result, IfOk}
use Rattle.std.specs.List.{All}
use Rattle.std.proofs.lemmas.List.Elements.{All-cons, All-head, All-tail}
use Rattle.polys.specs.declared.term.Term.{Term}
use Rattle.polys.specs.Curve.{IsOver}
use Rattle.polys.specs.Ideal.{HasDim, HasInfiniteDim, InIdeal, Regular, Spans, number_combination}
use Rattle.polys.specs.Poly.{Polynomial, IsPlain, terms_of}
use Rattle.polys.specs.Terms.{EachMono, IsPoly, degree_of, sub, mul}
use Rattle.polys.proofs.Each.{every_more, every_zip}
use Rattle.ideal_laws.proofs.Ideals.{in_head, in_more, in_generator, in_larger, in_poly}
use Rattle.graded_modules.specs.Bases.{IsReduced, IsNormalForm}
use Rattle.graded_modules.specs.Vector.{IsGradedVector, IsGenerator, IsOfDegree, degree_at}
use Rattle.homogenising.specs.Homogenised.{homogenised_to}
use Rattle.homogenising.specs.Laws.{IsHomogeneousPoly}
use Rattle.homogenising.proofs.Lifted.{Fits, fits, lifted, degrees_lifted}
use Rattle.denominator_module.specs.Laws.{IsLifting}
use Rattle.denominator_module.specs.Module.{first, quotient_of}
use Rattle.denominator_module.proofs.Colons.{regular_law}
use Rattle.denominator_module.proofs.Firsts.{all_from}
use Rattle.denominator_module.proofs.Lifts.{lift_law}
use Rattle.denominator_module.proofs.Pairs.{plain_degree}
use Rattle.module_basis.specs.declared.gens.Gens.{Gens}
use Rattle.standard_monomials.specs.Finding.{HasDimAbove}
use Rattle.standard_monomials.specs.declared.finding.Dimension.{Dimension}
use Rattle.lift_colon.proofs.Bases.{ok_more}
use Rattle.lift_colon.specs.Lifted.{LiftedData, IsLifted, HasModule, IsLift, IsDimension}

module _ (l : LiftedData) (m : Gens) (h : IsLifted l) (hm : HasModule l m) where
  abbrev p : ℕ
  p = l.prime

  abbrev n : ℕ
  n = l.variables

  abbrev d : List Term
  d = l.denominator.terms

  pos : 0 < l.prime
  pos = let q = h.prime.0 in omega arith

  two : 1 < l.prime
  two = let q = h.prime.0 in omega arith

  -- ---- the sum with the ideal

  larger : (hs cs : List (List Term)) → All (IsPoly l.prime l.variables) hs → ((f : List Term) → InIdeal l.prime l.variables hs f → InIdeal l.prime l.variables cs f) → (f : List Term)
      → InIdeal l.prime l.variables (l.denominator.terms ∷ hs) f → InIdeal l.prime l.variables (l.denominator.terms ∷ cs) f
  larger hs cs a k f r =
      in_larger p n (d ∷ hs) (d ∷ cs) f pos
      (All-cons (InIdeal p n (d ∷ cs)) d hs (in_head p n d cs two h.denominator.poly)
      (all_from (InIdeal p n (d ∷ cs)) hs (λ g c. in_more p n d cs g (k g (in_generator p n hs g two a c))))) r

  same_sum : (f : List Term) → InIdeal l.prime l.variables (l.denominator.terms ∷ hm.generators) f ↔ InIdeal l.prime l.variables (l.denominator.terms ∷ terms_of l.ideal) f
  same_sum f = (
    larger hm.generators (terms_of l.ideal) hm.given.generators (λ g r. (hm.same g).0 r) f,
    larger (terms_of l.ideal) hm.generators h.ideal.reduced.polys (λ g r. (hm.same g).1 r) f,
  )

  -- ---- the lifted polynomial

  module _ (g : List Term) (hg : IsPoly l.prime l.variables g) where
    abbrev v : List Term
    v = homogenised_to (degree_of g + 1000) g

    fit : EachMono (Fits l.prime l.variables h.six_variables (degree_of g + 1000)) g
    fit = every_more (Fits p n h.six_variables (degree_of g)) (Fits p n h.six_variables (degree_of g + 1000)) g (λ w x. (x.0, (let a = x.1 in omega arith))) (fits p n h.six_variables g hg)

    homogeneous : IsHomogeneousPoly l.prime l.variables (homogenised_to (degree_of g + 1000) g)
    homogeneous = lifted p n h.six_variables (degree_of g + 1000) g hg.canonical fit

    degree : IsOfDegree (degree_of l.denominator.terms) (degree_of g + 1000) (homogenised_to (degree_of g + 1000) g)
    degree =
        every_more (λ w. IsPlain w × (degree_at 0 w ≡ degree_of g + 1000)) (λ w. degree_at (degree_of d) w ≡ degree_of g + 1000) v (λ w x. plain_degree (degree_of d) w x.0 ∙ x.1)
        (every_zip IsPlain (λ w. degree_at 0 w ≡ degree_of g + 1000) v homogeneous.plain (degrees_lifted p n h.six_variables (degree_of g + 1000) g fit))

    pub generator : IsGenerator l.prime l.variables (degree_of l.denominator.terms) (homogenised_to (degree_of g + 1000) g)
    generator = record { vector = homogeneous.generator.vector; homogeneous = (degree_of g + 1000, degree) }

    pub generator_at : (f : List Term) → f ≡ homogenised_to (degree_of g + 1000) g → IsGenerator m.prime m.variables m.shift f
    generator_at f e =
        subst (IsGenerator m.prime m.variables m.shift) (sym e)
        (subst (λ x. IsGenerator m.prime m.variables x v) (sym hm.shift) (subst (λ x. IsGenerator m.prime x (degree_of d) v) (sym hm.variables) (subst (λ x. IsGenerator x n (degree_of d) v) (sym hm.prime) generator)))

    module _ (f r : List Term) (e : f ≡ homogenised_to (degree_of g + 1000) g) (rv : IsGradedVector m.prime m.variables r) (rd : (e : ℕ) → IsOfDegree m.shift e f → IsOfDegree m.shift e r)
        (nf : IsNormalForm m.prime m.variables (terms_of m.vectors) f r) where
      vector : IsGradedVector l.prime l.variables r
      vector = subst (λ x. IsGradedVector p x r) hm.variables (subst (λ x. IsGradedVector x m.variables r) hm.prime rv)

      degree_r : IsOfDegree (degree_of l.denominator.terms) (degree_of g + 1000) r
      degree_r =
          subst (λ x. IsOfDegree x (degree_of g + 1000) r) hm.shift
          (rd (degree_of g + 1000) (subst (IsOfDegree m.shift (degree_of g + 1000)) (sym e) (subst (λ x. IsOfDegree x (degree_of g + 1000) v) (sym hm.shift) degree)))

      reduced : IsReduced l.prime l.variables (degree_of l.denominator.terms) (terms_of m.vectors)
      reduced =
          subst (λ x. IsReduced p n x (terms_of m.vectors)) hm.shift
          (subst (λ x. IsReduced p x m.shift (terms_of m.vectors)) hm.variables (subst (λ x. IsReduced x m.variables m.shift (terms_of m.vectors)) hm.prime hm.reduced))

      lifting : IsLifting l.prime l.variables l.denominator.terms hm.generators (terms_of m.vectors) 1000 g r
      lifting =
          record {
            given = hm.given;
            basis = record { vectors = reduced.vectors; monic = reduced.monic; same = hm.span; all_leads = reduced.all_leads };
            low = hm.low;
            poly = hg;
            normal = subst (λ w. IsNormalForm p n (terms_of m.vectors) w r) e
                (subst (λ x. IsNormalForm p x (terms_of m.vectors) f r) hm.variables (subst (λ x. IsNormalForm x m.variables (terms_of m.vectors) f r) hm.prime nf));
            vector = vector;
            degree = degree_r;
          }

      pub none : (first r ≡ []) ↔ InIdeal l.prime l.variables (l.denominator.terms ∷ terms_of l.ideal) g
      none =
          let k = lift_law.none p n d hm.generators (terms_of m.vectors) 1000 g r lifting in
          (λ z. (same_sum g).0 (k.0 z), λ c. k.1 ((same_sum g).1 c))

      pub pair_at : (q : ℕ) → q ≡ l.prime → (shift : ℕ) × IsGenerator q l.variables shift r
      pair_at q a = subst (λ x. (shift : ℕ) × IsGenerator x n shift r) (sym a) (degree_of d, record { vector = vector; homogeneous = (degree_of g + 1000, degree_r) })

      pub lift : (u : List Term) → first r ≡ [] → u ≡ quotient_of l.prime r → IsLift l g u
      lift u z e =
          record {
            poly = subst (IsPoly p n) (sym e) (lift_law.poly p n d hm.generators (terms_of m.vectors) 1000 g r lifting);
            lifts = (hm.same (sub p g (mul p u d))).0
                (subst (λ w. InIdeal p n hm.generators (sub p g (mul p w d))) (sym e) (lift_law.quotient p n d hm.generators (terms_of m.vectors) 1000 g r lifting z));
            low = subst (λ w. w ≢ [] → degree_of w + degree_of d ≤ degree_of g + 1000) (sym e) (lift_law.low p n d hm.generators (terms_of m.vectors) 1000 g r lifting);
          }

-- ---- regularity

-- polynomials over one prime are equal where their terms are
same_lists : (p n : ℕ) (a b : List Polynomial) → All (IsOver p n) a → All (IsOver p n) b → terms_of a ≡ terms_of b → a ≡ b
same_lists p n [] [] h k e = refl
same_lists p n [] (g ∷ b) h k e = absurd (cc)
same_lists p n (f ∷ a) [] h k e = absurd (cc)
same_lists p n (f ∷ a) (g ∷ b) h k e =
    let one : f.terms ≡ g.terms = cc in
    let rest : terms_of a ≡ terms_of b = cc in
    let q = (All-head (IsOver p n) f a h).prime ∙ sym (All-head (IsOver p n) g b k).prime in
    λ i. record { prime = q i; terms = one i } ∷ same_lists p n a b (All-tail (IsOver p n) f a h) (All-tail (IsOver p n) g b k) rest i

pub regular : (l : LiftedData) (m : Gens) (h : IsLifted l) (hm : HasModule l m) → (l.ideal ≡ l.colon) ↔ Regular l.prime l.variables (terms_of l.ideal) l.denominator.terms
regular l m h hm =
    let k =
    regular_law l.prime l.variables l.denominator.terms (terms_of l.ideal) (terms_of l.ideal) (terms_of l.colon)
    (record { prime = h.prime; six = h.six_variables; denominator = h.denominator.poly; generators = h.ideal.reduced.polys }) h.ideal h.colon
    in
    (λ e. k.1 (ap terms_of e), λ r. same_lists l.prime l.variables l.ideal l.colon h.ideal_over h.colon_over (k.0 r))

-- ---- dimensions

-- what spans up to an ideal spans up to a larger one
spans : (p n : ℕ) (gs hs : List (List Term)) → ((f : List Term) → InIdeal p n gs f → InIdeal p n hs f) → (us : List (List Term)) → Spans p n gs us → Spans p n hs us
spans p n gs hs to us s =
    record {
      polys = s.polys;
      each = λ f a.
          let x = s.each f a in record {
            residues = x.residues;
            below = x.below;
            as_many = x.as_many;
            close = to (sub p f (number_combination p x.residues us)) x.close;
          };
    }

dim : (p n : ℕ) (gs hs : List (List Term)) → ((f : List Term) → InIdeal p n gs f → InIdeal p n hs f) → ((f : List Term) → InIdeal p n hs f → InIdeal p n gs f) → (N : ℕ) → HasDim p n gs N → HasDim p n hs N
dim p n gs hs to back N h =
    record { basis = h.basis; as_many = h.as_many; spans = spans p n gs hs to h.basis h.spans; least = λ us l w. h.least us l (spans p n hs gs back us w) }

module _ (l : LiftedData) (h : IsLifted l) where
  positive : 0 < l.prime
  positive = let q = h.prime.0 in omega arith

  to : (f : List Term) → InIdeal l.prime l.variables (terms_of l.sum) f → InIdeal l.prime l.variables (l.denominator.terms ∷ terms_of l.ideal) f
  to f r = (h.sum.exact f (in_poly l.prime l.variables (terms_of l.sum) f positive h.sum.reduced.polys r)).0 r

  back : (f : List Term) → InIdeal l.prime l.variables (l.denominator.terms ∷ terms_of l.ideal) f → InIdeal l.prime l.variables (terms_of l.sum) f
  back f r =
      (h.sum.exact f
      (in_poly l.prime l.variables (l.denominator.terms ∷ terms_of l.ideal) f positive
      (All-cons (IsPoly l.prime l.variables) l.denominator.terms (terms_of l.ideal) h.denominator.poly h.ideal.reduced.polys) r)).1 r

  pub has_dim : (N : ℕ) → HasDim l.prime l.variables (terms_of l.sum) N ↔ HasDim l.prime l.variables (l.denominator.terms ∷ terms_of l.ideal) N
  has_dim N = (
    dim l.prime l.variables (terms_of l.sum) (l.denominator.terms ∷ terms_of l.ideal) to back N,
    dim l.prime l.variables (l.denominator.terms ∷ terms_of l.ideal) (terms_of l.sum) back to N,
  )

  pub has_infinite_dim : HasInfiniteDim l.prime l.variables (terms_of l.sum) ↔ HasInfiniteDim l.prime l.variables (l.denominator.terms ∷ terms_of l.ideal)
  has_infinite_dim = (
    λ k us s. k us (spans l.prime l.variables (l.denominator.terms ∷ terms_of l.ideal) (terms_of l.sum) back us s),
    λ k us s. k us (spans l.prime l.variables (terms_of l.sum) (l.denominator.terms ∷ terms_of l.ideal) to us s),
  )

  -- what the answer means, of the basis and of the ideal
  module _ (limit : ℕ) (a : Dimension) where
    pub finite : ((N : ℕ) → (a ≡ Dimension.Finite N) ↔ ((N ≤ limit) × HasDim l.prime l.variables (terms_of l.sum) N))
        → (N : ℕ) → (a ≡ Dimension.Finite N) ↔ ((N ≤ limit) × HasDim l.prime l.variables (l.denominator.terms ∷ terms_of l.ideal) N)
    finite k N = (λ e. (let x = (k N).0 e in (x.0, (has_dim N).0 x.1)), λ x. (k N).1 (x.0, (has_dim N).1 x.1))

    pub wide : (a ≡ Dimension.Wide) ↔ HasDimAbove l.prime l.variables (terms_of l.sum) limit
        → (a ≡ Dimension.Wide) ↔ ((N : ℕ) × (limit < N) × HasDim l.prime l.variables (l.denominator.terms ∷ terms_of l.ideal) N)
    wide k = (λ e. (let x = k.0 e in (x.0, x.1, (has_dim x.0).0 x.2)), λ x. k.1 (x.0, x.1, (has_dim x.0).1 x.2))

    pub infinite : (a ≡ Dimension.Infinite) ↔ HasInfiniteDim l.prime l.variables (terms_of l.sum)
        → (a ≡ Dimension.Infinite) ↔ HasInfiniteDim l.prime l.variables (l.denominator.terms ∷ terms_of l.ideal)
    infinite k = (λ e. has_infinite_dim.0 (k.0 e), λ x. k.1 (has_infinite_dim.1 x))

  pub is_dimension : (limit : ℕ) (a : Dimension) (basis : List Polynomial) → basis ≡ l.sum
      → ((N : ℕ) → (a ≡ Dimension.Finite N) ↔ ((N ≤ limit) × HasDim l.prime l.variables (terms_of basis) N))
      → (a ≡ Dimension.Wide) ↔ HasDimAbove l.prime l.variables (terms_of basis) limit
      → (a ≡ Dimension.Infinite) ↔ HasInfiniteDim l.prime l.variables (terms_of basis) → IsDimension l limit a
  is_dimension limit a basis e f w i = record {
    finite = finite limit a (subst (λ b. (N : ℕ) → (a ≡ Dimension.Finite N) ↔ ((N ≤ limit) × HasDim l.prime l.variables (terms_of b) N)) e f);
    wide = wide limit a (subst (λ b. (a ≡ Dimension.Wide) ↔ HasDimAbove l.prime l.variables (terms_of b) limit) e w);
    infinite = infinite limit a (subst (λ b. (a ≡ Dimension.Infinite) ↔ HasInfiniteDim l.prime l.variables (terms_of b)) e i);
  }

  -- and of the answer of a call
  module _ (p n limit : ℕ) (basis : List Polynomial) (ep : p ≡ l.prime) (en : n ≡ l.variables) (eb : basis ≡ l.sum) {E : Type 0} (r : Result Dimension E) where
    same : (P : ℕ → ℕ → List (List Term) → Dimension → Type 0) → IfOk r (P p n (terms_of basis)) → IfOk r (P l.prime l.variables (terms_of l.sum))
    same P k = subst (λ w. IfOk r (P l.prime l.variables (terms_of w))) eb (subst (λ w. IfOk r (P l.prime w (terms_of basis))) en (subst (λ w. IfOk r (P w n (terms_of basis))) ep k))

    pub call_finite : IfOk r (λ a. (N : ℕ) → (a ≡ Dimension.Finite N) ↔ ((N ≤ limit) × HasDim p n (terms_of basis) N))
        → IfOk r (λ a. (N : ℕ) → (a ≡ Dimension.Finite N) ↔ ((N ≤ limit) × HasDim l.prime l.variables (l.denominator.terms ∷ terms_of l.ideal) N))
    call_finite k =
        ok_more r (λ a. (N : ℕ) → (a ≡ Dimension.Finite N) ↔ ((N ≤ limit) × HasDim l.prime l.variables (terms_of l.sum) N))
        (λ a. (N : ℕ) → (a ≡ Dimension.Finite N) ↔ ((N ≤ limit) × HasDim l.prime l.variables (l.denominator.terms ∷ terms_of l.ideal) N)) (λ a x. finite limit a x)
        (same (λ q m gs a. (N : ℕ) → (a ≡ Dimension.Finite N) ↔ ((N ≤ limit) × HasDim q m gs N)) k)

    pub call_wide : IfOk r (λ a. (a ≡ Dimension.Wide) ↔ HasDimAbove p n (terms_of basis) limit)
        → IfOk r (λ a. (a ≡ Dimension.Wide) ↔ ((N : ℕ) × (limit < N) × HasDim l.prime l.variables (l.denominator.terms ∷ terms_of l.ideal) N))
    call_wide k =
        ok_more r (λ a. (a ≡ Dimension.Wide) ↔ HasDimAbove l.prime l.variables (terms_of l.sum) limit)
        (λ a. (a ≡ Dimension.Wide) ↔ ((N : ℕ) × (limit < N) × HasDim l.prime l.variables (l.denominator.terms ∷ terms_of l.ideal) N)) (λ a x. wide limit a x)
        (same (λ q m gs a. (a ≡ Dimension.Wide) ↔ HasDimAbove q m gs limit) k)

    pub call_infinite : IfOk r (λ a. (a ≡ Dimension.Infinite) ↔ HasInfiniteDim p n (terms_of basis))
        → IfOk r (λ a. (a ≡ Dimension.Infinite) ↔ HasInfiniteDim l.prime l.variables (l.denominator.terms ∷ terms_of l.ideal))
    call_infinite k =
        ok_more r (λ a. (a ≡ Dimension.Infinite) ↔ HasInfiniteDim l.prime l.variables (terms_of l.sum))
        (λ a. (a ≡ Dimension.Infinite) ↔ HasInfiniteDim l.prime l.variables (l.denominator.terms ∷ terms_of l.ideal)) (λ a x. infinite limit a x)
        (same (λ q m gs a. (a ≡ Dimension.Infinite) ↔ HasInfiniteDim q m gs) k)
