-- The book tells of this problem, this denominator and this limit.
use Rattle.std.proofs.Common.{◌≡◌, ◌∷◌, ℕ, length, rules, subst, sym}
use Rattle.std.specs.Prelude.{IfOk}
use Rattle.polys.specs.declared.curve.Curve.{Curve}
use Rattle.polys.specs.Curve.{HasDimModulo, data_of}
use Rattle.polys.specs.Ideal.{HasDim}
use Rattle.polys.specs.Poly.{terms_of}
use Rattle.lift_colon.specs.Lifted.{LiftedData}
use Rattle.jacobian_pick.specs.Choice.{curve_of_lifted}
use Rattle.curve_answer.specs.Telling.{Tells}
use Rattle.norm_core.proofs.solving.told_of.Goals as goal

pub answer_of-requires-clause-dimension : goal.answer_of-requires-clause-dimension
answer_of-requires-clause-dimension c =
    let curve : c.in_ok-digits.digits.curve ≡ curve_of_lifted c.args.lifted = search rules in
    let lifted : c.deref-2.result.now ≡ c.args.lifted = search rules in
    subst (λ (l : LiftedData). HasDim c.args.problem.now.prime (length c.args.problem.now.letters) (l.denominator.terms ∷ terms_of c.args.problem.now.generators) c.dimension.result) (sym lifted)
    ((c.requires.dimension c.dimension.result).0 (subst (λ (C : Curve). HasDimModulo (data_of C) c.dimension.result) curve c.dimension.ensures.dimension))

pub returns : goal.returns
returns c =
    let lifted : c.deref-2.result.now ≡ c.args.lifted = search rules in
    subst (λ (L : ℕ). IfOk c.answer_of.result (Tells c.args.problem.now c.args.lifted.denominator.terms L)) c.in_ok-book.ensures.whole.same.limit
    (subst (λ (l : LiftedData). IfOk c.answer_of.result (Tells c.args.problem.now l.denominator.terms c.in_ok-book.book.limit)) lifted c.answer_of.ensures)
