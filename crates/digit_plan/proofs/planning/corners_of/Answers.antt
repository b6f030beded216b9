use Rattle.std.proofs.Common.{subst}
use Rattle.polys.specs.Ideal.{HasInfiniteDim}
use Rattle.polys.specs.Poly.{terms_of}
use Rattle.standard_monomials.specs.Finding.{HasDimAbove, IfListed}
use Rattle.standard_monomials.specs.Standard.{AreStandard, IsRising}
use Rattle.digit_plan.proofs.Leads.{corners_by, not_infinite, not_wide}
use Rattle.digit_plan.proofs.planning.corners_of.Goals as goal

pub unreachable-requires : goal.unreachable-requires
unreachable-requires c =
    let l = c.args.lifted.now in
    not_wide l c.sum_basis.ensures.known c.requires
    (subst (λ z. HasDimAbove z l.variables (terms_of l.sum) 256) c.prime.ensures
    (subst (λ z. HasDimAbove c.prime.result z (terms_of l.sum) 256) c.variables.ensures
    (subst (λ z. HasDimAbove c.prime.result c.variables.result (terms_of z) 256) c.sum_basis.ensures.value (c.in_ok-corners.ensures.wide.0 c.in-Wide.is))))

pub unreachable-requires-in-Infinite : goal.unreachable-requires-in-Infinite
unreachable-requires-in-Infinite c =
    let l = c.args.lifted.now in
    not_infinite l c.sum_basis.ensures.known c.requires
    (subst (λ z. HasInfiniteDim z l.variables (terms_of l.sum)) c.prime.ensures
    (subst (λ z. HasInfiniteDim c.prime.result z (terms_of l.sum)) c.variables.ensures
    (subst (λ z. HasInfiniteDim c.prime.result c.variables.result (terms_of z)) c.sum_basis.ensures.value (c.in_ok-corners.ensures.infinite.0 c.in-Infinite.is))))

pub returns : goal.returns
returns c =
    let l = c.args.lifted.now in
    let ms = c.in-All.corners in
    corners_by l c.sum_basis.ensures.known ms
    (subst (λ z. AreStandard z (terms_of l.sum) ms) c.variables.ensures
    (subst (λ z. AreStandard c.variables.result (terms_of z) ms) c.sum_basis.ensures.value
    (subst (IfListed (AreStandard c.variables.result (terms_of c.sum_basis.result.now))) c.in-All.is c.in_ok-corners.ensures.standard)))
    (subst (IfListed IsRising) c.in-All.is c.in_ok-corners.ensures.rising)
