use Rattle.std.proofs.Common.{subst}
use Rattle.std.specs.List.{All}
use Rattle.std.proofs.lemmas.List.{take_all}
use Rattle.std.proofs.lemmas.List.Elements.{All-more}
use Rattle.polys.specs.Poly.{IsVector}
use Rattle.named_points.proofs.telling.know_terms.Goals as goal

pub loop-f-preserved : goal.loop-f-preserved
loop-f-preserved c =
    All-more (λ f. IsVector f.prime f.terms) c.args.polys.now c.loop-f.f-index c.f-item.result c.loop-f-test.true c.loop-f.invariant
    (subst (λ f. IsVector f.prime f.terms) c.f-item.is c.terms-terms.ensures.known)

pub returns : goal.returns
returns c = subst (All (λ f. IsVector f.prime f.terms)) (take_all c.loop-f.f-index c.args.polys.now c.loop-f-test.false) c.loop-f.invariant
