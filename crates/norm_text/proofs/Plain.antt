-- Where nothing is left modulo the denominator, the ring is its own closure.
use Rattle.std.proofs.Common.{◌≡◌, ℕ, ◌<◌, List, [], ◌∷◌, length, refl, sym, ap, ◌∙◌, subst, arith}
use Rattle.std.proofs.lemmas.List.Elements.{All-nil, All-cons}
use Rattle.polys.specs.declared.term.Term.{Term}
use Rattle.polys.specs.Terms.{IsPoly, sub, mul, one}
use Rattle.polys.specs.Ideal.{InIdeal, IsSpanned, HasDim, Regular, number_combination}
use Rattle.polys.proofs.Sums.{mul_comm}
use Rattle.polys.proofs.Units.{mul_one, sub_self, add_none}
use Rattle.polys.proofs.Affine.{positive, poly_one, sevens_of}
use Rattle.ideal_laws.proofs.Ideals.{in_none, in_mul, in_head, in_larger}
use Rattle.curve_model.specs.Fraction.{over}
use Rattle.curve_model.specs.Laws.{IsFinite}
use Rattle.curve_model.specs.Point.{IsPoint}
use Rattle.curve_model.specs.Closure.{Closure}
use Rattle.curve_laws.proofs.SplitLaws.{none_law}
use Rattle.curve_model.proofs.UnitDenominator.{units_close_nothing}
use Rattle.polys.specs.Curve.{CurveData}
use Rattle.problem.specs.Problem.{curve_of}
use Rattle.norm_text.specs.Answers.{named_number}
use Rattle.norm_text.specs.Plain.{PlainAnswers}

-- ---- ideals that hold 1

module _ (p n : ℕ) (high : 1 < p) where
  times_one : (f : List Term) → IsPoly p n f → mul p f one ≡ f
  times_one f h = mul_one p f h.canonical (sevens_of p n f h)

  -- an ideal that holds 1 holds every polynomial
  holds_all : (gs : List (List Term)) → InIdeal p n gs one → (f : List Term) → IsPoly p n f → InIdeal p n gs f
  holds_all gs whole f h = subst (InIdeal p n gs) (times_one f h) (in_mul p n gs f one (positive p high) h whole)

  -- modulo it nothing is left
  pub nothing_left : (gs : List (List Term)) → InIdeal p n gs one → HasDim p n gs 0
  nothing_left gs whole = record {
    basis = [];
    as_many = refl;
    spans = record {
      polys = All-nil (IsPoly p n);
      each = λ f h. record {
        residues = [];
        below = All-nil (λ c. c < p);
        as_many = refl;
        close = subst (InIdeal p n gs) (sym (add_none p f h.canonical)) (holds_all gs whole f h);
      };
    };
    least = λ us fewer spans. absurd (omega arith);
  }

  -- 1 is regular modulo any ideal
  pub one_regular : (gs : List (List Term)) → Regular p n gs one
  one_regular gs f h member = subst (InIdeal p n gs) (mul_comm p one f ∙ times_one f h) member

-- ---- where nothing is left, 1 is in the ideal

-- a sum of no multiples
no_multiples : (p : ℕ) (cs : List ℕ) (us : List (List Term)) → length cs ≡ length us → length us ≡ 0 → number_combination p cs us ≡ []
no_multiples p [] us same none = refl
no_multiples p (c ∷ cs) us same none = absurd (omega (arith, same, none))

-- what is spanned by no polynomials is in the ideal
spanned_by_none : (p n : ℕ) (gs us : List (List Term)) (f : List Term) → IsPoly p n f → length us ≡ 0 → IsSpanned p n gs us f → InIdeal p n gs f
spanned_by_none p n gs us f h none spanned =
    subst (InIdeal p n gs) (add_none p f h.canonical)
    (subst (λ g. InIdeal p n gs (sub p f g)) (no_multiples p spanned.residues us spanned.as_many none) spanned.close)

-- ---- the curve

module _ (A : CurveData) (curve : IsFinite A) where
  high : 1 < A.prime
  high = curve.curve.prime.0

  one_poly : IsPoly A.prime A.variables one
  one_poly = poly_one A.prime A.variables high

  -- a point holds what d and I generate, and not 1
  no_point : InIdeal A.prime A.variables (A.denominator ∷ A.ideal) one → (P : List (List Term)) → IsPoint A P → ⊥
  no_point whole P point =
      point.proper
      (in_larger A.prime A.variables (A.denominator ∷ A.ideal) P one (positive A.prime high)
      (All-cons (InIdeal A.prime A.variables P) A.denominator A.ideal point.holds_denominator point.holds_ideal) whole)

  -- the fractions that are local at no point are those of the ring
  pub closure_at_none : Closure A [] 0 (one ∷ [])
  closure_at_none = record {
    suffices = λ f h local. (none_law A curve f h).0 local;
    least = λ L less works. absurd (omega arith);
    basis = record {
      reduced = (units_close_nothing A.prime A.variables high).closure.basis.reduced;
      exact = λ f h. (
        λ member. (none_law A curve (over f 0) h).1 (f, h, same f),
        λ local. holds_all A.prime A.variables high (one ∷ []) (in_head A.prime A.variables one [] high one_poly) f h,
      );
    };
  }
    where
      same : (f : List Term) → InIdeal A.prime A.variables A.ideal (sub A.prime (mul A.prime f one) (mul A.prime f one))
      same f =
          subst (InIdeal A.prime A.variables A.ideal) (sym (sub_self A.prime (mul A.prime f one) (positive A.prime high)))
          (in_none A.prime A.variables A.ideal)

-- ---- the answer

pub plain_answers : PlainAnswers
plain_answers problem d plain = record {
  points = [];
  are_points = record {
    named = record {
      all = λ P. (λ held. absurd (omega (arith, held.1)), λ named. absurd (no_point (curve_of problem d) finite whole P named.point));
      rising = λ i j e less within. absurd (omega arith);
    };
    degrees = All-nil _;
    deltas = All-nil _;
    at_most_64 = All-nil _;
  };
  prime = refl;
  letters = refl;
  denominator = refl;
  dimension = plain.dimension;
  named = ap (λ statements. named_number statements 0) (sym plain.unnamed);
  lines = refl;
  closure = closure_at_none (curve_of problem d) finite;
}
  where
    finite : IsFinite (curve_of problem d)
    finite = record { curve = plain.curve; dimension = (0, plain.dimension) }

    unit : IsPoly problem.prime (length problem.letters) one
    unit = one_poly (curve_of problem d) finite

    whole : InIdeal problem.prime (length problem.letters) (d ∷ problem.generators) one
    whole =
        spanned_by_none problem.prime (length problem.letters) (d ∷ problem.generators) plain.dimension.basis one unit
        plain.dimension.as_many (plain.dimension.spans.each one unit)
