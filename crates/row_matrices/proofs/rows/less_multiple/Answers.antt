use Rattle.std.proofs.Common.{◌≡◌, ◌<◌, ◌∙◌, arith, ap, subst, sym}
use Rattle.lane_rows.specs.Rows.{AreResidues, plus_multiple}
use Rattle.row_space.proofs.Written.{written_whole}
use Rattle.row_matrices.proofs.Adding.{less_is}
use Rattle.row_matrices.proofs.rows.less_multiple.Goals as goal

pub returns : goal.returns
returns c =
    let out = c.axpy.new.into in
    let positive : 0 < c.args.prime = omega (arith, c.get.ensures.range, c.get.ensures.value) in
    let started = c.as_mut_slice.ensures.value ∙ c.in_ok-made.ensures in
    let is : c.of_vec.result ≡ c.axpy.new.into = c.of_vec.ensures ∙ written_whole c.in_ok-made.made.len out c.in_ok-made.made.items (omega (arith, c.as_mut_slice.ensures.len, c.axpy.auto.into)) in
    less_is c.args.prime c.args.c c.neg.result c.args.row.now c.args.other.now c.of_vec.result positive c.requires.c c.neg.ensures.opposite c.requires.other.0
    (is ∙ (c.axpy.ensures.sum ∙ (ap (λ p. plus_multiple p c.neg.result c.as_mut_slice.result.now c.args.other.now) c.get.ensures.value ∙ ap (λ r. plus_multiple c.args.prime c.neg.result r c.args.other.now) started)))
    (subst (AreResidues c.args.prime) (sym is) (subst (λ p. AreResidues p out) c.get.ensures.value c.axpy.ensures.residues))
