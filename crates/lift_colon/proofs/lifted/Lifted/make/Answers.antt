use Rattle.std.proofs.Common.{inl, inr}
use Rattle.std.proofs.lemmas.Result.{IfOk-weaker}
use Rattle.denominator_module.specs.Module.{IsDeepDenominator}
use Rattle.polys.specs.Poly.{terms_of}
use Rattle.lift_colon.specs.Lifted.{IsDeepWith}
use Rattle.lift_colon.proofs.lifted.Lifted.make.Goals as goal

pub returns-clause-not_deep : goal.returns-clause-not_deep
returns-clause-not_deep c = IfOk-weaker c.over_basis.result _ _ (λ l not. go not) c.over_basis.ensures.not_deep
  where
    go : (IsDeepDenominator c.args.prime c.args.variables c.args.d.now.terms (terms_of c.args.ideal.now) c.args.cap → ⊥)
        → IsDeepWith c.args.prime c.args.variables c.args.ideal.now c.args.d.now c.args.cap → ⊥
    go not (inl a) = c.in_ok-basis.ensures.not_deep a
    go not (inr a) = not a
