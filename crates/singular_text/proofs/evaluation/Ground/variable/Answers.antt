use Rattle.std.proofs.Common.{◌<◌, length, arith}
use Rattle.singular_text.proofs.Fits.{variable_place, variable_affine}
use Rattle.singular_text.proofs.evaluation.Ground.variable.Goals as goal

pub overflow_cast-v : goal.overflow_cast-v
overflow_cast-v c =
    let h : c.place-v.result < 6 × c.place-v.result < length c.args.self.now.letters =
    variable_place c.as_slice.result.now c.args.self.now.letters c.args.token.now c.place-v.result c.as_slice.ensures.known.six c.as_slice.ensures.value (omega (arith, c.in-len1.len_below)) c.requires
    c.place-v.ensures in
    omega arith

pub var-requires : goal.var-requires
var-requires c =
    (
    variable_place c.as_slice.result.now c.args.self.now.letters c.args.token.now c.place-v.result c.as_slice.ensures.known.six c.as_slice.ensures.value (omega (arith, c.in-len1.len_below)) c.requires
    c.place-v.ensures
    ).0

pub term_of-requires-clause-affine : goal.term_of-requires-clause-affine
term_of-requires-clause-affine c =
    variable_affine (length c.args.self.now.letters) c.place-v.result c.var.result
    (
    variable_place c.as_slice.result.now c.args.self.now.letters c.args.token.now c.place-v.result c.as_slice.ensures.known.six c.as_slice.ensures.value (omega (arith, c.in-len1.len_below)) c.requires
    c.place-v.ensures
    ).1
    c.var.ensures.value
