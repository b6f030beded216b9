use Rattle.std.proofs.Common.{◌<◌, ◌∙◌, arith, ap}
use Rattle.lane_rows.specs.Rows.{multiple}
use Rattle.row_space.proofs.Written.{written_whole}
use Rattle.row_matrices.proofs.Adding.{scaled_is}
use Rattle.row_matrices.proofs.rows.scaled.Goals as goal

pub returns : goal.returns
returns c =
    let out = c.scale.new.row in
    let positive : 0 < c.args.prime = omega (arith, c.get.ensures.range, c.get.ensures.value) in
    let started = c.as_mut_slice.ensures.value ∙ c.in_ok-made.ensures in
    scaled_is c.args.prime c.args.c c.args.row.now c.of_vec.result positive
    (c.of_vec.ensures ∙ (written_whole c.in_ok-made.made.len out c.in_ok-made.made.items (omega (arith, c.as_mut_slice.ensures.len, c.scale.auto.row))
    ∙ (c.scale.ensures.product ∙ (ap (λ p. multiple p c.args.c c.as_mut_slice.result.now) c.get.ensures.value ∙ ap (multiple c.args.prime c.args.c) started))))
