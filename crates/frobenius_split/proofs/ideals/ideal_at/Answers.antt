use Rattle.std.proofs.Common.{◌<◌, arith}
use Rattle.frobenius_split.proofs.IdealLaws.{preimage_is}
use Rattle.frobenius_split.proofs.ideals.ideal_at.Goals as goal

pub returns : goal.returns
returns c =
    let A = c.args.a.now in
    let positive : 0 < A.prime = omega (arith, c.get-p.ensures.range, c.get-p.ensures.value, c.prime.ensures) in
    let nil = c.requires.nilpotent in
    preimage_is A positive c.args.nilpotent.now nil.prime nil.width c.args.e.now c.in_ok-table.table c.in_ok-table.ensures c.in_ok-space.space c.as_slice.result.now c.as_slice.ensures
    c.in_ok-space.ensures.shape.0 c.in_ok-space.ensures.shape.1 c.in_ok-space.ensures.members
