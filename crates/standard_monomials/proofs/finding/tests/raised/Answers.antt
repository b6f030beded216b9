use Rattle.std.proofs.Common.{sym, ap, ◌∙◌, subst}
use Rattle.monomials.specs.Mono.{times, variable}
use Rattle.polys.specs.Terms.{IsAffine}
use Rattle.polys.proofs.Affine.{affine_times}
use Rattle.standard_monomials.proofs.Powers.{affine_power}
use Rattle.standard_monomials.proofs.finding.tests.raised.Goals as goal

pub loop-preserved : goal.loop-preserved
loop-preserved c =
    let n = c.args.variables in
    let m = c.loop.product in
    subst (IsAffine n) (sym (c.product-product.ensures.value ∙ ap (times m) c.var.ensures.value))
    (affine_times n m (variable c.args.v) c.loop.invariant (affine_power n c.args.v 1 c.requires.among))
