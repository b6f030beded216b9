-- What a problem has, by what its denominator is.
use Rattle.std.proofs.Common.{◌≡◌, ◌≢◌, ◌<◌, ◌⊎◌, ℕ, List, [], ◌∷◌, ◌++◌, length, map, get_or, arith, refl, sym, ap, ◌∙◌, subst, inl, inr, Some, None}
use Rattle.std.specs.Prelude.{Option, Result, Ok, Err, IfOk, IfErr, codes}
use Rattle.std.specs.List.{All, AllPairs}
use Rattle.std.proofs.lemmas.List.{get_or-map, length-map}
use Rattle.std.proofs.lemmas.List.Elements.{All-nil, All-cons, All-head, All-tail}
use Rattle.prime_field.specs.Primes.{IsPrime}
use Rattle.polys.specs.declared.term.Term.{Term}
use Rattle.polys.specs.Poly.{Polynomial, terms_of}
use Rattle.polys.specs.Terms.{IsPoly}
use Rattle.polys.specs.declared.curve.Curve.{Curve}
use Rattle.polys.specs.Curve.{Fit, data_of}
use Rattle.curve_model.specs.Laws.{IsFinite}
use Rattle.curve_model.specs.Point.{IsPointOf, basis_of}
use Rattle.curve_model.specs.declared.point.Point.{Point}
use Rattle.problem.specs.Problem.{IsFit, ProblemData, curve_of, problem_data, IsFitProblem}
use Rattle.problem.specs.declared.problem.Problem.{Problem}
use Rattle.poly_text.specs.PolyText.{join}
use Rattle.norm_text.specs.Named.{IsNamedList}
use Rattle.norm_text.specs.Answer.{answer_text}
use Rattle.norm_text.specs.Shown as shown
use Rattle.norm_text.specs.declared.answer.Answer.{Answer}
use Rattle.join_book.specs.Book.{ArePointsOf}
use Rattle.norm_text.proofs.Meaning.{distinct}
use Rattle.norm_text.proofs.OneList.{one_list}
use Rattle.norm_text.proofs.Pieces.{texts}
use Rattle.lift_colon.specs.Lifted.{LiftedData}
use Rattle.jacobian_pick.specs.Choice.{HasProperIdeal, IsGood, IsChosen, IsChosenBy, IsCause, IsLiftedOf, curve_of_lifted}
use Rattle.jacobian_pick.specs.declared.choosing.PickStop.{PickStop}
use Rattle.jacobian_pick.specs.declared.choosing.PickStop.TheVariants.{Memory}
use Rattle.jacobian_pick.specs.declared.choosing.PickStop.TheVariants as stop
use Rattle.curve_answer.specs.Deltas.{IsWithin}
use Rattle.curve_answer.specs.Telling.{IsRight, IsAbove}
use Rattle.curve_answer.proofs.Deltas.{not_both}
use Rattle.norm_core.specs.declared.refusals.Refusal.{Refusal}
use Rattle.norm_core.specs.declared.refusals.Refusal.TheVariants.{Denominator}
use Rattle.norm_core.specs.Refusals.{status_of, line_of}
use Rattle.norm_core.specs.Solved.{IsSolved, IsWithinLimit, IsRefusedByDelta, own_delta_line}
use Rattle.norm_core.specs.Telling.{HasDenominator, HasStatus, IsSolvable, Solves, stopped, too_large, answered}

-- the chosen denominator is good
pub chosen-good : (problem : ProblemData) (cap : ℕ) (d : List Term) → IsChosen problem cap d → IsGood problem cap d
chosen-good problem cap d = by_handing problem.denominator
  where
    by_handing : (o : Option (List Term)) → IsChosenBy problem cap o d → IsGood problem cap d
    by_handing (Some f) c = c.1
    by_handing None (inl c) = c.multiple.good
    by_handing None (inr c) = c.sum.multiple.good

polys-of : (p n : ℕ) (fs : List Polynomial) → All (IsFit p n) fs → All (IsPoly p n) (terms_of fs)
polys-of p n [] a = All-nil (IsPoly p n)
polys-of p n (f ∷ fs) a = All-cons (IsPoly p n) f.terms (terms_of fs) (All-head (IsFit p n) f fs a).poly (polys-of p n fs (All-tail (IsFit p n) f fs a))

-- with it the problem has a regular denominator, and a finite dimension modulo it
pub finite-of : (problem : Problem) (cap : ℕ) (l : LiftedData) → IsPrime problem.prime → IsFitProblem problem → IsLiftedOf (problem_data problem) l
    → Fit (curve_of_lifted l) → IsChosen (problem_data problem) cap l.denominator.terms → IsFinite (curve_of (problem_data problem) l.denominator.terms)
finite-of problem cap l prime fit lifted fits chosen =
    let good = chosen-good (problem_data problem) cap l.denominator.terms chosen in
    record {
      curve = record {
        prime = prime;
        ideal = polys-of problem.prime (length problem.letters) problem.generators fit.ready.generators;
        denominator =
            subst (λ (m : ℕ). IsPoly problem.prime m l.denominator.terms) lifted.variables
            (subst (λ (q : ℕ). IsPoly q l.variables l.denominator.terms) lifted.prime fits.denominator.poly);
        regular = good.allowed.regular;
      };
      dimension = (good.narrow.0, good.narrow.2);
    }

-- ---- a problem that has a denominator

-- deltas are not both within the limit and above it
not_within-above : (problem : ProblemData) (d : List Term) (limit : ℕ) (text : List ℕ) → IsFinite (curve_of problem d)
    → IsWithinLimit problem d limit → IsRefusedByDelta problem d limit text → ⊥
not_within-above problem d limit text finite within refused =
    let same = one_list problem (curve_of problem d) within.0 refused.points within.1 refused.named in
    not_both (curve_of problem d) finite limit refused.points refused.point
    (subst (IsWithin (curve_of problem d) limit) same within.2) refused.first

module _ (problem : ProblemData) (cap limit : ℕ) (d : List Term) (finite : IsFinite (curve_of problem d))
    (no_cause : (stop : PickStop) → stop ≢ Memory → IsCause problem cap stop → ⊥) (one : HasProperIdeal problem cap → (e : List Term) → IsChosen problem cap e → d ≡ e) where
  -- one whose deltas are within the limit has an answer
  pub solved-status : IsWithinLimit problem d limit → (status : ℕ) (text : List ℕ) → Solves problem cap limit status text → 0 ≡ status
  solved-status within status text (stopped stop not cause e _) = absurd (no_cause stop not cause)
  solved-status within status text (too_large other h refused e) =
      absurd (not_within-above problem d limit text finite within (subst (λ x. IsRefusedByDelta problem x limit text) (sym (one h.proper other h.chosen)) refused))
  solved-status within status text (answered other h solved e) = sym e

  -- one with a delta above it has none
  pub refused-status : (line : List ℕ) → IsRefusedByDelta problem d limit line → (status : ℕ) (text : List ℕ) → Solves problem cap limit status text → 10 ≡ status
  refused-status line refused status text (stopped stop not cause e _) = absurd (no_cause stop not cause)
  refused-status line refused status text (too_large other h again e) = sym e
  refused-status line refused status text (answered other h solved e) =
      absurd
      (not_within-above problem d limit line finite (subst (λ x. IsWithinLimit problem x limit) (sym (one h.proper other h.chosen)) solved.within) refused)

  pub refused-not_solvable : (line : List ℕ) → IsRefusedByDelta problem d limit line → IsSolvable problem cap limit → ⊥
  refused-not_solvable line refused (e, h, within) =
      not_within-above problem d limit line finite (subst (λ x. IsWithinLimit problem x limit) (sym (one h.proper e h.chosen)) within) refused

-- ---- a problem that has none

-- the cause that was found is told
cause-solves : (problem : ProblemData) (cap limit : ℕ) (s : PickStop) → IsCause problem cap s
    → (status_of (Denominator s) ≡ 30) ⊎ Solves problem cap limit (status_of (Denominator s)) (line_of (Denominator s))
cause-solves problem cap limit stop.Deep cause = inr (stopped stop.Deep (λ e. cc) cause refl refl)
cause-solves problem cap limit stop.Unit cause = inr (stopped stop.Unit (λ e. cc) cause refl refl)
cause-solves problem cap limit stop.DenominatorDeep cause = inr (stopped stop.DenominatorDeep (λ e. cc) cause refl refl)
cause-solves problem cap limit stop.ZeroDivisor cause = inr (stopped stop.ZeroDivisor (λ e. cc) cause refl refl)
cause-solves problem cap limit stop.Infinite cause = inr (stopped stop.Infinite (λ e. cc) cause refl refl)
cause-solves problem cap limit stop.Wide cause = inr (stopped stop.Wide (λ e. cc) cause refl refl)
cause-solves problem cap limit stop.NoDenominator cause = inr (stopped stop.NoDenominator (λ e. cc) cause refl refl)
cause-solves problem cap limit stop.Memory cause = inl refl

pub cause-refused : (problem : ProblemData) (cap limit : ℕ) (s : PickStop) (r : Result (List ℕ) Refusal) (refusal : Refusal) → r ≡ Err refusal → refusal ≡ Denominator s
    → IsCause problem cap s → IfErr r (λ refusal. (status_of refusal ≡ 30) ⊎ Solves problem cap limit (status_of refusal) (line_of refusal))
cause-refused problem cap limit s r refusal is e cause =
    subst (λ x. IfErr x (λ refusal. (status_of refusal ≡ 30) ⊎ Solves problem cap limit (status_of refusal) (line_of refusal))) (sym (is ∙ ap Err e))
    (cause-solves problem cap limit s cause)

-- what is no error is not this error or that one
pub no_error : {T E : Type 0} {x : T} {e f : E} → (Ok x ≡ Err e) ⊎ (Ok x ≡ Err f) → ⊥
no_error (inl h) = cc
no_error (inr h) = cc

-- ---- the named points

-- named points are points of the curve, each once
pub points-of : (problem : ProblemData) (c : Curve) (Ps : List Point) → All (IsPointOf (data_of c)) Ps → IsNamedList problem (data_of c) (map basis_of Ps) → ArePointsOf c Ps
points-of problem c Ps each names = record { each = each; once = once }
  where
    once : AllPairs (λ P R. basis_of P ≢ basis_of R) Ps
    once i j d less within e =
        let inside : i < length Ps = omega arith in
        let long : j < length (map basis_of Ps) = subst (λ n. j < n) (sym (length-map Ps basis_of)) within in
        let first : get_or (map basis_of Ps) i (basis_of d) ≡ basis_of (get_or Ps i d) = get_or-map basis_of Ps i d (basis_of d) inside in
        let second : get_or (map basis_of Ps) j (basis_of d) ≡ basis_of (get_or Ps j d) = get_or-map basis_of Ps j d (basis_of d) within in
        distinct problem (data_of c) (map basis_of Ps) names i j (basis_of d) less long (first ∙ (e ∙ sym second))

-- ---- what is told

-- the answer's text
pub right-solved : (problem : Problem) (d : List Term) (limit : ℕ) (a : Answer) (text : List ℕ) → IsRight problem d limit a
    → text ≡ answer_text (shown.data_of a) → IsSolved (problem_data problem) d limit text
right-solved problem d limit a text right e = record {
  within = (right.points, right.named, right.within);
  answer = (shown.data_of a, right.answer, e);
}

-- the line of the first point whose delta is above the limit
pub above-refused : (problem : Problem) (d : List Term) (limit : ℕ) (P : Point) (line : List ℕ) → IsAbove problem d limit P
    → line ≡ own_delta_line problem.letters P → IsRefusedByDelta (problem_data problem) d limit line
above-refused problem d limit P line above e = record {
  points = above.points;
  point = basis_of P;
  named = above.named;
  first = above.first;
  line = e ∙ ap (λ fs. codes "refused: delta " ++ (join (codes ", ") fs ++ codes "\n")) (texts problem.prime problem.letters P.basis above.inside);
}

-- ---- the answers

-- what a denominator brings
pub record HasPicked (problem : ProblemData) (cap limit : ℕ) (d : List Term) : Type 0 where
  pub has : HasDenominator problem cap d
  pub finite : IsFinite (curve_of problem d)
  pub no_cause : (stop : PickStop) → stop ≢ Memory → IsCause problem cap stop → ⊥
  pub one : HasProperIdeal problem cap → (e : List Term) → IsChosen problem cap e → d ≡ e

pub has-picked : (problem : Problem) (cap limit : ℕ) (l : LiftedData) → IsPrime problem.prime → IsFitProblem problem → IsLiftedOf (problem_data problem) l
    → Fit (curve_of_lifted l) → HasProperIdeal (problem_data problem) cap → IsChosen (problem_data problem) cap l.denominator.terms
    → ((stop : PickStop) → stop ≢ Memory → IsCause (problem_data problem) cap stop → ⊥)
    → (HasProperIdeal (problem_data problem) cap → (e : List Term) → IsChosen (problem_data problem) cap e → l.denominator.terms ≡ e)
    → HasPicked (problem_data problem) cap limit l.denominator.terms
has-picked problem cap limit l prime fit lifted fits proper chosen no_cause one = record {
  has = record { proper = proper; chosen = chosen };
  finite = finite-of problem cap l prime fit lifted fits chosen;
  no_cause = no_cause;
  one = one;
}

-- a refusal by delta
abbrev pub IsByDelta : ProblemData → List Term → ℕ → Refusal → Type 0
IsByDelta problem d limit refusal = (status_of refusal ≡ 10) × IsRefusedByDelta problem d limit (line_of refusal)

module _ (problem : ProblemData) (cap limit : ℕ) (d : List Term) (h : HasPicked problem cap limit d) where
  pub told-answered : (r : Result (List ℕ) Refusal) → IfOk r (λ text. IsSolved problem d limit text) → IfOk r (λ text. Solves problem cap limit 0 text)
  told-answered (Ok text) solved = answered d h.has solved refl
  told-answered (Err refusal) solved = tt

  pub told-refused : (r : Result (List ℕ) Refusal) → IfErr r (λ refusal. (status_of refusal ≡ 30) ⊎ IsByDelta problem d limit refusal)
      → IfErr r (λ refusal. (status_of refusal ≡ 30) ⊎ Solves problem cap limit (status_of refusal) (line_of refusal))
  told-refused (Ok text) refused = tt
  told-refused (Err refusal) (inl memory) = inl memory
  told-refused (Err refusal) (inr by) = inr (too_large d h.has by.1 by.0)

  pub told-exact : (r : Result (List ℕ) Refusal) → IfOk r (λ text. IsSolved problem d limit text) → IfErr r (λ refusal. (status_of refusal ≡ 30) ⊎ IsByDelta problem d limit refusal)
      → (status : ℕ) (text : List ℕ) → Solves problem cap limit status text → HasStatus r status
  told-exact (Ok t) solved refused status text solves = inl (solved-status problem cap limit d h.finite h.no_cause h.one solved.within status text solves)
  told-exact (Err refusal) solved (inl memory) status text solves = inr (inr (inr memory))
  told-exact (Err refusal) solved (inr by) status text solves =
      inl (by.0 ∙ refused-status problem cap limit d h.finite h.no_cause h.one (line_of refusal) by.1 status text solves)

  pub told-complete : (r : Result (List ℕ) Refusal) → IfErr r (λ refusal. (status_of refusal ≡ 30) ⊎ IsByDelta problem d limit refusal)
      → IsSolvable problem cap limit → HasStatus r 0
  told-complete (Ok t) refused solvable = inl refl
  told-complete (Err refusal) (inl memory) solvable = inr (inr (inr memory))
  told-complete (Err refusal) (inr by) solvable = absurd (refused-not_solvable problem cap limit d h.finite h.no_cause h.one (line_of refusal) by.1 solvable)
