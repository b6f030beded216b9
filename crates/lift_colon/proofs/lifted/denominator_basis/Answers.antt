use Rattle.denominator_module.specs.Module.{IsDeepDenominator}
use Rattle.graded_modules.specs.Deep.{IsDeep}
use Rattle.polys.specs.Poly.{terms_of}
use Rattle.lift_colon.proofs.Bases.{deep_pairs, ok_more}
use Rattle.lift_colon.proofs.lifted.denominator_basis.Goals as goal

pub returns-clause-not_deep : goal.returns-clause-not_deep
returns-clause-not_deep c =
    let e = c.in_ok-pairs.ensures in
    let d = deep_pairs c.args.prime c.args.variables c.args.d.now c.args.ideal.now c.in_ok-pairs.pairs c.args.cap e.prime e.variables e.shift e.vectors in
    ok_more c.graded_basis.result (λ b. IsDeep c.in_ok-pairs.pairs.prime c.in_ok-pairs.pairs.variables c.in_ok-pairs.pairs.shift (terms_of c.in_ok-pairs.pairs.vectors) c.args.cap → ⊥)
    (λ b. IsDeepDenominator c.args.prime c.args.variables c.args.d.now.terms (terms_of c.args.ideal.now) c.args.cap → ⊥) (λ b h x. h (d.1 x)) c.graded_basis.ensures.not_deep
