use Rattle.std.proofs.Common.{◌∙◌, subst, sym}
use Rattle.prime_field.specs.Primes.{IsPrime}
use Rattle.prime_field.proofs.Table.{positive_of_prime}
use Rattle.row_space.specs.Subspace.{product}
use Rattle.finite_algebra.specs.Elements.{IsElement}
use Rattle.finite_algebra.proofs.Products.{module_of}
use Rattle.finite_algebra.proofs.Summing.{combination_fits}
use Rattle.frobenius_split.specs.Idempotents.{IsFixed}
use Rattle.frobenius_split.proofs.Relations.{image_of}
use Rattle.frobenius_split.proofs.idempotents.split_by_sum.Goals as goal

pub character-requires-clause-element : goal.character-requires-clause-element
character-requires-clause-element c =
    let A = c.args.a.now in
    let prime = subst IsPrime (c.get-p.ensures.value ∙ c.prime.ensures) c.get-p.ensures.prime in
    let made = image_of _ A.prime _ A.dimension c.as_slice.result.now c.in_ok-factors.factors c.args.us.now c.in_ok-u.u c.in_ok-u.ensures c.prime-3.ensures c.dimension.ensures c.as_slice.ensures in
    subst (IsElement A) (sym made) (combination_fits A.prime A.dimension (positive_of_prime A.prime prime) c.in_ok-factors.factors c.args.us.now)

pub character-requires-clause-fixed : goal.character-requires-clause-fixed
character-requires-clause-fixed c =
    let A = c.args.a.now in
    let prime = subst IsPrime (c.get-p.ensures.value ∙ c.prime.ensures) c.get-p.ensures.prime in
    let positive = positive_of_prime A.prime prime in
    let made = image_of _ A.prime _ A.dimension c.as_slice.result.now c.in_ok-factors.factors c.args.us.now c.in_ok-u.u c.in_ok-u.ensures c.prime-3.ensures c.dimension.ensures c.as_slice.ensures in
    subst (IsFixed A) (sym made) ((c.requires.fixed.fixed (product A.prime A.dimension c.in_ok-factors.factors c.args.us.now) (combination_fits A.prime A.dimension positive c.in_ok-factors.factors c.args.us.now)).0
    (c.in_ok-factors.factors, c.in_ok-factors.ensures.0, (module_of A positive).rfl _))
