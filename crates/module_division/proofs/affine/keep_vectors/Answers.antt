use Rattle.polys.specs.Poly.{IsVector}
use Rattle.module_division.proofs.Standard.{one_more}
use Rattle.module_division.proofs.affine.keep_vectors.Goals as goal

pub loop-f-preserved : goal.loop-f-preserved
loop-f-preserved c = one_more (λ f. IsVector f.prime f.terms) c.args.fs.now c.loop-f.f-index c.f-item.result c.f-item.is c.loop-f-test.true c.terms-terms.ensures.known c.loop-f.invariant
