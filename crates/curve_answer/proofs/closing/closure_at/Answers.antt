-- The closure of a module that has exactly what is local at the points.
use Rattle.std.proofs.Common.{subst}
use Rattle.std.specs.Prelude.{map}
use Rattle.std.proofs.lemmas.Result.{IfOk-weaker}
use Rattle.polys.specs.Curve.{data_of}
use Rattle.polys.specs.Poly.{terms_of}
use Rattle.curve_model.specs.Closure.{Closure}
use Rattle.curve_model.specs.Point.{basis_of}
use Rattle.curve_answer.proofs.Sums.{holds_local}
use Rattle.curve_answer.proofs.closing.closure_at.Goals as goal

pub returns-clause-closure : goal.returns-clause-closure
returns-clause-closure c =
    let b = c.args.book.now in
    let o = c.in_ok-least.least in
    let S = map basis_of b.points in
    IfOk-weaker c.closure_of.result _ _
    (λ made closes.
    subst (λ C. Closure (data_of C) S made.power (terms_of made.numerators)) c.in_ok-least.ensures.curve
    (closes S (holds_local b c.sum-known.ensures.known c.requires.whole c.requires.within o c.in_ok-least.ensures.curve c.in_ok-least.ensures.same)))
    c.closure_of.ensures.closure
