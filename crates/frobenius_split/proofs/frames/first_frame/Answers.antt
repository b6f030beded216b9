use Rattle.std.proofs.Common.{◌∙◌, ℕ, List, [], get_or, sym, subst}
use Rattle.std.proofs.lemmas.List.{get_or_default}
use Rattle.prime_field.specs.Primes.{IsPrime}
use Rattle.finite_algebra.specs.Elements.{elements, times}
use Rattle.frobenius_split.proofs.IdempotentLaws.{own_square}
use Rattle.frobenius_split.proofs.frames.first_frame.Goals as goal

pub offered-requires-clause-inside : goal.offered-requires-clause-inside
offered-requires-clause-inside c =
    let A = c.args.a.now in
    let es = c.args.es.now in
    let k = c.loop-k.k in
    let prime = subst IsPrime (c.get-p.ensures.value ∙ c.prime.ensures) c.get-p.ensures.prime in
    let row_is = c.as_slice.ensures ∙ c.index-es-k.is ∙ get_or_default es k c.index-es-k.result [] c.loop-k-test.true in
    subst (λ (r : List ℕ). (elements A).◌≋◌ (times A r (get_or es k [])) r) (sym row_is) (own_square A prime c.one-one.ensures.laws A.one es c.requires.es k c.loop-k-test.true)
