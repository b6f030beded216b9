use Rattle.std.proofs.Common.{◌∙◌, ◌<◌, ◌*◌, ◌%◌, [], All, get_or, ap, subst, sym}
use Rattle.std.proofs.lemmas.List.Elements.{All-cons, All-from_get_or, All-nil}
use Rattle.prime_field.specs.Primes.{IsPrime}
use Rattle.finite_algebra.specs.Elements.{IsElement, elements, times}
use Rattle.frobenius_split.specs.Idempotents.{AreIdempotentsIn, IsNumberAt}
use Rattle.frobenius_split.proofs.SplitLaws.{eigenparts_are, number_by_rows, whole_idempotent}
use Rattle.frobenius_split.proofs.idempotents.pieces.Goals as goal

pub returns-then-has_factor-clause-parts : goal.returns-then-has_factor-clause-parts
returns-then-has_factor-clause-parts c =
    let A = c.args.a.now in
    let prime = subst IsPrime (c.get-p.ensures.value ∙ c.prime.ensures) c.get-p.ensures.prime in
    let laws = c.one-one.ensures.laws in
    subst (AreIdempotentsIn A c.args.e.now) (sym c.in_ok-whole.ensures) (whole_idempotent A prime laws c.args.e.now c.requires.e c.requires.nonzero c.requires.square)

pub returns-then-has_factor-clause-numbers : goal.returns-then-has_factor-clause-numbers
returns-then-has_factor-clause-numbers c =
    let A = c.args.a.now in
    let prime = subst IsPrime (c.get-p.ensures.value ∙ c.prime.ensures) c.get-p.ensures.prime in
    let laws = c.one-one.ensures.laws in
    let u = c.args.u.now in
    let e = c.args.e.now in
    let n = c.has_factor.ensures c.if-has_factor.true in
    let number = number_by_rows A prime laws u e c.as_slice.result.now (subst (IsElement A) (sym c.as_slice.ensures) c.in_ok-product.ensures.element)
    (subst (λ r. (elements A).◌≋◌ r (times A u e)) (sym c.as_slice.ensures) c.in_ok-product.ensures.product) n.0 (λ i l. n.1 i l ∙ ap (λ q. (n.0 * get_or e i 0) % q) c.prime-2.ensures) in
    subst (All (IsNumberAt A u)) (sym c.in_ok-whole.ensures) (All-cons (IsNumberAt A u) e [] number (All-nil (IsNumberAt A u)))

pub returns-clause-parts : goal.returns-clause-parts
returns-clause-parts c =
    let A = c.args.a.now in
    let prime = subst IsPrime (c.get-p.ensures.value ∙ c.prime.ensures) c.get-p.ensures.prime in
    let laws = c.one-one.ensures.laws in
    let low = c.in_ok-_values.ensures.below A.prime (subst (All (λ x. x < A.prime)) (sym c.as_slice-2.ensures) c.in_ok-roots.ensures.residues) in
    eigenparts_are A prime laws c.args.u.now c.args.e.now c.in_ok-_values._values c.in_ok-_values.parts (λ j l. low j 0 l) c.in_ok-_values.ensures.parts (c.in_ok-_values.ensures.inside c.args.e.now c.requires.square)

pub returns-clause-numbers : goal.returns-clause-numbers
returns-clause-numbers c = All-from_get_or (IsNumberAt c.args.a.now c.args.u.now) c.in_ok-_values.parts [] (λ j l. (get_or c.in_ok-_values._values j 0, c.in_ok-_values.ensures.parts.eigen j l))
