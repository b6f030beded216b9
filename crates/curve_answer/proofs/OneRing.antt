-- What is said over the curve of the bases of a problem holds over the problem's generators, and back.
use Rattle.std.proofs.Common.{◌≡◌, ◌∙◌, ℕ, List, get_or, sym, ap, subst}
use Rattle.std.specs.List.{All}
use Rattle.std.proofs.lemmas.List.Elements.{All-map, All-weaker, All-contains_itself}
use Rattle.prime_field.specs.Primes.{IsPrime}
use Rattle.prime_field.proofs.Table.{above_one, positive_of_prime}
use Rattle.polys.specs.declared.term.Term.{Term}
use Rattle.polys.specs.declared.curve.Curve.{Curve}
use Rattle.polys.specs.Terms.{IsPoly}
use Rattle.polys.specs.Ideal.{InIdeal}
use Rattle.polys.specs.Reduced.{IsReducedBasis}
use Rattle.polys.specs.Curve.{CurveData, Fit, HasDimModulo, data_of}
use Rattle.polys.specs.Poly.{terms_of}
use Rattle.ideal_laws.proofs.Ideals.{in_generator, in_larger}
use Rattle.curve_model.specs.Local.{Local}
use Rattle.curve_model.specs.Point.{HasDegree}
use Rattle.curve_model.specs.Delta.{combination, IsDeltaAbove}
use Rattle.curve_model.specs.Laws.{IsRegular, IsFinite, ArePolys}
use Rattle.curve_model.specs.Generators.{with_ideal, Agree, OneIdealOneClosure}
use Rattle.curve_laws.proofs.FitLaws.{fit_law}
use Rattle.problem.specs.declared.problem.Problem.{Problem}
use Rattle.problem.specs.Problem.{ProblemData, HasFitPolynomials, IsFit, problem_data, curve_of}
use Rattle.lift_colon.specs.Lifted.{LiftedData}
use Rattle.jacobian_pick.specs.Choice.{IsLiftedOf as IsBasesOf}
use Rattle.digit_plan.specs.Lifts.{IsLiftedOf}
use Rattle.norm_text.specs.Named.{IsNamed, IsNamedList}

-- ---- a curve and other generators of its ideal

-- d is regular in A, and the polynomials of J generate the ideal of A
record Generates (A : CurveData) (J : List (List Term)) : Type 0 where
  curve : IsRegular A
  polys : ArePolys A J
  holds : All (InIdeal A.prime A.variables J) A.ideal
  held : All (InIdeal A.prime A.variables A.ideal) J

module _ (A : CurveData) (J : List (List Term)) (same : Generates A J) where
  abbrev C : CurveData
  C = with_ideal A J

  -- d is regular modulo the ideal of J
  regular : IsRegular C
  regular =
      let pos = positive_of_prime A.prime same.curve.prime in
      record {
        prime = same.curve.prime;
        ideal = same.polys;
        denominator = same.curve.denominator;
        regular = λ a h i.
            in_larger A.prime A.variables A.ideal J a pos same.holds
            (same.curve.regular a h (in_larger A.prime A.variables J A.ideal _ pos same.held i));
      }

  -- what is said over the one curve holds over the other
  there : OneIdealOneClosure → Agree A C
  there law = law A same.curve J same.polys same.holds same.held

  back : OneIdealOneClosure → Agree C A
  back law = law C regular A.ideal same.curve.ideal same.held same.holds

  module _ (law : OneIdealOneClosure) where
    -- the same points are named
    named_there : (problem : ProblemData) (P : List (List Term)) → IsNamed problem A P → IsNamed problem C P
    named_there problem P h = record { point = (there law).point P h.point; named = h.named }

    named_back : (problem : ProblemData) (P : List (List Term)) → IsNamed problem C P → IsNamed problem A P
    named_back problem P h = record { point = (back law).point P h.point; named = h.named }

    names : (problem : ProblemData) (S : List (List (List Term)))
        → IsNamedList problem A S → IsNamedList problem C S
    names problem S h = record {
      all = λ P. ((λ k. named_there problem P ((h.all P).0 k)), λ k. (h.all P).1 (named_back problem P k));
      rising = h.rising;
    }

    -- the same fractions are independent
    rises : (P : List (List Term)) (L : ℕ) → IsDeltaAbove A P L → IsDeltaAbove C P L
    rises P L h = record {
      fractions = h.fractions;
      as_many = h.as_many;
      are_fractions = h.are_fractions;
      local = All-weaker (Local A P) (Local C P) (λ f k. (there law).local P f k) h.fractions h.local;
      independent = λ cs below long k. h.independent cs below long ((back law).in_a (combination C cs h.fractions) k);
    }

-- ---- the curve of the bases and that of the problem

-- the curve of the problem with the denominator of the bases
abbrev pub base_of : Problem → LiftedData → CurveData
base_of problem l = curve_of (problem_data problem) l.denominator.terms

-- the problem's polynomials are small enough, and the curve is fit and that of the bases of the problem's ideal
pub record IsOneRing (problem : Problem) (c : Curve) (l : LiftedData) : Type 0 where
  pub fit : HasFitPolynomials problem
  pub bases : IsBasesOf (problem_data problem) l
  pub lifted : IsLiftedOf c l
  pub prime : IsPrime c.prime
  pub fits : Fit c

module _ (problem : Problem) (c : Curve) (l : LiftedData) (ring : IsOneRing problem c l) where
  abbrev A : CurveData
  A = data_of c

  abbrev B : CurveData
  B = base_of problem l

  pub same_prime : A.prime ≡ B.prime
  same_prime = sym ring.lifted.prime ∙ ring.bases.prime

  pub same_variables : A.variables ≡ B.variables
  same_variables = sym ring.lifted.variables ∙ ring.bases.variables

  pub same_denominator : A.denominator ≡ B.denominator
  same_denominator = sym (ap (λ f. f.terms) ring.lifted.denominator)

  same_ideal : A.ideal ≡ terms_of l.ideal
  same_ideal = sym (ap terms_of ring.lifted.ideal)

  -- the curve of the bases is that of the problem with the basis in place of the generators
  pub one_ring : A ≡ with_ideal B (terms_of l.ideal)
  one_ring = λ i. record {
    prime = same_prime i;
    variables = same_variables i;
    ideal = same_ideal i;
    denominator = same_denominator i;
  }

  -- and with the generators again it is that of the problem
  generators : with_ideal A B.ideal ≡ B
  generators = ap (λ X. with_ideal X B.ideal) one_ring

  polys_fit : ArePolys B B.ideal
  polys_fit =
      All-map (IsPoly B.prime B.variables) (λ f. f.terms) problem.generators
      (All-weaker (IsFit B.prime B.variables) (λ f. IsPoly B.prime B.variables f.terms) (λ f h. h.poly)
      problem.generators ring.fit.generators)

  polys : ArePolys A B.ideal
  polys = subst (λ X. ArePolys X B.ideal) (sym one_ring) polys_fit

  basis : IsReducedBasis A.prime A.variables (InIdeal A.prime A.variables B.ideal) A.ideal
  basis =
      subst (λ X. IsReducedBasis X.prime X.variables (InIdeal X.prime X.variables B.ideal) X.ideal)
      (sym one_ring) ring.bases.ideal

  -- a list of polynomials is in its own ideal
  in_itself : (gs : List (List Term)) → ArePolys A gs → All (InIdeal A.prime A.variables gs) gs
  in_itself gs h k d lt =
      let high = above_one A.prime ring.prime in
      in_generator A.prime A.variables gs (get_or gs k d) high h (All-contains_itself gs k d lt)

  -- each member of the basis is in the ideal of the generators, and each generator is in that of the basis
  generates : Generates A B.ideal
  generates =
      let curve = (fit_law c ring.prime ring.fits).curve in
      record {
        curve = curve;
        polys = polys;
        holds = λ k d lt. (basis.exact _ (curve.ideal k d lt)).0 (in_itself A.ideal curve.ideal k d lt);
        held = λ k d lt. (basis.exact _ (polys k d lt)).1 (in_itself B.ideal polys k d lt);
      }

  -- what holds of fractions, points, deltas and closures over the curve of the bases holds over that of the problem
  pub agree : OneIdealOneClosure → Agree A B
  agree law = subst (Agree A) generators (there A B.ideal generates law)

  -- and back
  pub agree_back : OneIdealOneClosure → Agree B A
  agree_back law = subst (λ X. Agree X A) generators (back A B.ideal generates law)

  -- where the dimension modulo d is finite, the laws speak of the curve of the problem
  pub finite : (N : ℕ) × HasDimModulo B N → IsFinite B
  finite dimension = record { curve = subst IsRegular generators (regular A B.ideal generates); dimension = dimension }

  -- the named points are the same
  pub named : OneIdealOneClosure → (S : List (List (List Term)))
      → IsNamedList (problem_data problem) A S → IsNamedList (problem_data problem) B S
  named law S h =
      subst (λ X. IsNamedList (problem_data problem) X S) generators
      (names A B.ideal generates law (problem_data problem) S h)

  -- and so are their degrees
  pub degree : (P : List (List Term)) (N : ℕ) → HasDegree A P N → HasDegree B P N
  degree P N h = subst (λ X. HasDegree X P N) one_ring h

  -- and what a delta is above
  pub above : OneIdealOneClosure → (P : List (List Term)) (L : ℕ) → IsDeltaAbove A P L → IsDeltaAbove B P L
  above law P L h = subst (λ X. IsDeltaAbove X P L) generators (rises A B.ideal generates law P L h)
