use Rattle.std.proofs.Common.{◌≡◌, subst}
use Rattle.graded_modules.specs.Vector.{IsGenerator}
use Rattle.basis_examples.proofs.modules.is_over.Goals as goal

pub returns : goal.returns
returns c sure =
    let e : c.args.f.now.prime ≡ c.args.p = cc in
    record { prime = e; vector = subst (λ q. IsGenerator q 6 c.args.shift c.args.f.now.terms) e (c.is_homogeneous.ensures sure) }
