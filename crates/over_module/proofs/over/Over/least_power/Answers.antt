use Rattle.std.proofs.Common.{◌≤◌, ◌<◌, ◌+◌, ◌*◌, All, ap, ◌∙◌, subst, sym}
use Rattle.over_module.specs.Raising.{BeginsWithZeros}
use Rattle.over_module.proofs.LeastPower.{is_least}
use Rattle.over_module.proofs.over.Over.least_power.Goals as goal

pub returns-clause-least : goal.returns-clause-least
returns-clause-least c =
    let o = c.args.self.now in
    let s = c.zero_blocks-blocks.result in
    let most : s ≤ o.power = subst (λ k. s ≤ k) c.power.ensures c.zero_blocks-blocks.ensures.most in
    let basis = c.rows.ensures.basis ∙ ap (λ r. r.basis) c.rows-rows.ensures.value in
    let more : s < o.power → ¬ (All (BeginsWithZeros (o.dimension * (s + 1))) o.rows.basis) =
    λ l a. c.zero_blocks-blocks.ensures.more (subst (λ k. s < k) (sym c.power.ensures) l)
    (subst (All (BeginsWithZeros (c.corners.result * (s + 1)))) (sym basis) (subst (λ n. All (BeginsWithZeros (n * (s + 1))) o.rows.basis) (sym c.corners.ensures) a)) in
    is_least o c.in_ok-made.made c.rows-rows.ensures.known s most c.in_ok-made.ensures more
