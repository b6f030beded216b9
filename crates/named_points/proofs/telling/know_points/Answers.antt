use Rattle.std.proofs.Common.{◌∙◌, ap, subst}
use Rattle.std.specs.List.{All}
use Rattle.std.proofs.lemmas.List.{take_all}
use Rattle.std.proofs.lemmas.List.Elements.{All-more}
use Rattle.polys.specs.Poly.{IsVector}
use Rattle.named_points.specs.Naming.{HasKnownTerms}
use Rattle.named_points.proofs.telling.know_points.Goals as goal

pub loop-point-preserved : goal.loop-point-preserved
loop-point-preserved c =
    All-more HasKnownTerms c.args.points.now c.loop-point.point-index c.point-item.result c.loop-point-test.true c.loop-point.invariant
    (subst (All (λ f. IsVector f.prime f.terms)) (c.as_slice.ensures ∙ ap (λ P. P.basis) c.point-item.is) c.know_terms.ensures)

pub returns : goal.returns
returns c = subst (All HasKnownTerms) (take_all c.loop-point.point-index c.args.points.now c.loop-point-test.false) c.loop-point.invariant
