use Rattle.std.proofs.Common.{◌≡◌, subst}
use Rattle.std.specs.Prelude.{IfOk}
use Rattle.polys.proofs.Sums.{mul_comm}
use Rattle.polys.proofs.terms.product.Goals as goal

pub returns-then-is_plain-clause-value : goal.returns-then-is_plain-clause-value
returns-then-is_plain-clause-value c =
    subst (λ w. IfOk c.product_by_halves.result (λ v. v.items ≡ w)) (mul_comm c.args.p c.args.b.now c.args.a.now) c.product_by_halves.ensures.value
