-- The least power of the sum is at most the limit.
use Rattle.std.proofs.Common.{◌≡◌, ◌≤◌, ◌∙◌, ap, arith, subst}
use Rattle.join_book.specs.Book.{BookIs}
use Rattle.over_laws.specs.Over.{HaveSameFractions}
use Rattle.curve_answer.proofs.Sums.{low_power}
use Rattle.curve_answer.proofs.closing.least_sum.Goals as goal

pub returns-clause-low : goal.returns-clause-low
returns-clause-low c =
    let b = c.args.book.now in
    let keeps : BookIs b = c.sum.ensures.known in
    let o = c.in_ok-least.least in
    let curve : o.curve ≡ b.curve = c.in_ok-least.ensures.curve ∙ (ap (λ s. s.curve) c.sum.ensures.value ∙ keeps.over) in
    let same : HaveSameFractions b.sum o = subst (λ s. HaveSameFractions s o) c.sum.ensures.value c.in_ok-least.ensures.same in
    let low : o.power ≤ b.limit = low_power b keeps c.requires.whole c.requires.within o curve same c.in_ok-least.ensures.least in
    let limit : b.limit ≤ 64 = keeps.low_limit in
    omega arith

pub returns-clause-same : goal.returns-clause-same
returns-clause-same c = subst (λ s. HaveSameFractions s c.in_ok-least.least) c.sum.ensures.value c.in_ok-least.ensures.same
