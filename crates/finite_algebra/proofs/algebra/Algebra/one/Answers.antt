use Rattle.std.proofs.Common.{◌<◌, arith, subst}
use Rattle.comm_ring.specs.Ring.{IsCommRing}
use Rattle.finite_algebra.specs.Elements.{IsBilinear, ring_of}
use Rattle.finite_algebra.proofs.Products.{ring_laws, bilinear}
use Rattle.finite_algebra.proofs.algebra.Algebra.one.Goals as goal

pub returns-clause-ring : goal.returns-clause-ring
returns-clause-ring c =
    let s = c.self.inside in
    let positive : 0 < s.prime = omega (arith, c.get-p.ensures.range) in
    subst (λ v. IsCommRing (ring_of v)) c.self.view_is (ring_laws _ positive c.self.invariant)

pub returns-clause-bilinear : goal.returns-clause-bilinear
returns-clause-bilinear c =
    let s = c.self.inside in
    let positive : 0 < s.prime = omega (arith, c.get-p.ensures.range) in
    subst IsBilinear c.self.view_is (bilinear _ positive)
