use Rattle.std.proofs.Common.{arith}
use Rattle.jacobian_pick.proofs.Lows.{plain_derivative, derivative_degree}
use Rattle.jacobian_pick.proofs.jacobian.minor.Goals as goal

pub mul-requires-clause-plain : goal.mul-requires-clause-plain
mul-requires-clause-plain c = plain_derivative c.args.prime 3 c.args.l c.args.g.now c.in_ok-derivative-2.field-0 c.requires.g c.in_ok-derivative-2.ensures

pub mul-requires-clause-room : goal.mul-requires-clause-room
mul-requires-clause-room c =
    let k = c.requires.k in
    let l = c.requires.l in
    let a = derivative_degree c.args.prime 3 c.args.k c.args.f.now c.in_ok-derivative.field-0 (omega arith) c.requires.f c.in_ok-derivative.ensures in
    let b = derivative_degree c.args.prime 3 c.args.l c.args.g.now c.in_ok-derivative-2.field-0 (omega arith) c.requires.g c.in_ok-derivative-2.ensures in
    omega arith

pub mul-requires-2-clause-plain : goal.mul-requires-2-clause-plain
mul-requires-2-clause-plain c = plain_derivative c.args.prime 3 c.args.k c.args.g.now c.in_ok-derivative-4.field-0 c.requires.g c.in_ok-derivative-4.ensures

pub mul-requires-2-clause-room : goal.mul-requires-2-clause-room
mul-requires-2-clause-room c =
    let k = c.requires.k in
    let l = c.requires.l in
    let a = derivative_degree c.args.prime 3 c.args.l c.args.f.now c.in_ok-derivative-3.field-0 (omega arith) c.requires.f c.in_ok-derivative-3.ensures in
    let b = derivative_degree c.args.prime 3 c.args.k c.args.g.now c.in_ok-derivative-4.field-0 (omega arith) c.requires.g c.in_ok-derivative-4.ensures in
    omega arith
