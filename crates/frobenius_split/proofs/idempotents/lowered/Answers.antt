use Rattle.std.proofs.Common.{◌∙◌, length, ap, subst}
use Rattle.prime_field.specs.Primes.{IsPrime}
use Rattle.frobenius_split.proofs.SplitLaws.{less_moved, lowered_is}
use Rattle.frobenius_split.proofs.idempotents.lowered.Goals as goal

pub returns-clause-product : goal.returns-clause-product
returns-clause-product c =
    let A = c.args.a.now in
    let prime = subst IsPrime (c.get-p.ensures.value ∙ c.prime.ensures) c.get-p.ensures.prime in
    let laws = c.one-one.ensures.laws in
    lowered_is A prime laws c.args.u.now c.args.w.now c.in_ok-product.product c.in_ok-made.made c.args.c
    (less_moved _ _ _ _ c.args.c _ c.in_ok-product.product c.args.w.now c.args.w.now c.in_ok-made.made c.prime-2.ensures (ap length c.as_slice.ensures ∙ c.in_ok-product.ensures.element.0) c.as_slice.ensures (cc) c.in_ok-made.ensures)
    c.in_ok-product.ensures.product
