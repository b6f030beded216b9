use Rattle.std.proofs.Common.{◌∙◌, subst, sym}
use Rattle.prime_field.specs.Primes.{IsPrime}
use Rattle.frobenius_split.specs.Idempotents.{IsFixed}
use Rattle.frobenius_split.proofs.SplitLaws.{power_fixed}
use Rattle.frobenius_split.proofs.idempotents.character.Goals as goal

pub returns-clause-fixed : goal.returns-clause-fixed
returns-clause-fixed c =
    let A = c.args.a.now in
    let prime = subst IsPrime (c.get-p.ensures.value ∙ c.prime.ensures) c.get-p.ensures.prime in
    subst (IsFixed A) (sym c.in_ok-v.ensures.power) (power_fixed A prime c.one-one.ensures.laws c.as_slice.result.now _ (subst (IsFixed A) (sym c.as_slice.ensures) c.requires.fixed))
