use Rattle.std.proofs.Common.{◌∙◌, ◌∷◌, [], ap, subst, sym}
use Rattle.prime_field.specs.Primes.{IsPrime}
use Rattle.frobenius_split.specs.Idempotents.{AreIdempotents}
use Rattle.frobenius_split.proofs.SplitLaws.{one_alone}
use Rattle.frobenius_split.proofs.idempotents.split_by_sums.Goals as goal

pub loop-seed-init : goal.loop-seed-init
loop-seed-init c =
    let A = c.args.a.now in
    let prime = subst IsPrime (c.get-p.ensures.value ∙ c.prime.ensures) c.get-p.ensures.prime in
    let laws = c.one-one.ensures.laws in
    subst (AreIdempotents A) (sym (c.in_ok-es.ensures ∙ ap (λ r. r ∷ []) c.one.ensures.value)) (one_alone A prime laws c.requires.dimension)
