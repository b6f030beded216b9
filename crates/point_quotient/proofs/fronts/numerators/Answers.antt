use Rattle.std.proofs.Common.{◌≡◌, ◌+◌, ◌*◌, suc, length, sym, ap, ◌∙◌, subst, arith}
use Rattle.over_laws.specs.Over.{HasRows}
use Rattle.point_quotient.specs.Quotients.{HasFronts}
use Rattle.point_quotient.proofs.Numerators as Numerators
use Rattle.point_quotient.proofs.fronts.numerators.Goals as goal

pub with_fronts-requires-clause-low : goal.with_fronts-requires-clause-low
with_fronts-requires-clause-low c =
    let o = c.args.over.now in
    let g = c.args.digits.now in
    let h = subst (λ C. HasRows (record { curve = C; dimension = o.dimension; power = o.power; rows = o.rows })) (sym c.requires.curve) c.rows-rows.ensures.known in
    ap (λ r. r.width) c.rows-rows.ensures.value ∙ Numerators.rows_width g c.entries-first.ensures.known o.dimension o.power o.rows h
    ∙ sym (c.entries-first.ensures.value ∙ ap (λ k. length g.basis * k) c.power-power.ensures)

pub returns : goal.returns
returns c =
    let o = c.args.over.now in
    let n = length c.args.digits.now.basis in
    let space = c.in_ok-space.space in
    let first = c.entries-first.ensures.value ∙ ap (λ k. n * k) c.power-power.ensures in
    let width = c.entries-width.ensures.value ∙ ap (λ k. n * k) (let e = c.power-power.ensures in let q : c.power-power.result + 1 ≡ suc o.power = omega arith in q) in
    subst (λ r. HasFronts (n * suc o.power) (n * o.power) r space) c.rows-rows.ensures.value
    (subst (λ f. HasFronts (n * suc o.power) f c.rows-rows.result.now space) first (subst (λ w. HasFronts w c.entries-first.result c.rows-rows.result.now space) width c.in_ok-space.ensures))
