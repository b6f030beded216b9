use Rattle.std.proofs.Common.{arith}
use Rattle.polys.proofs.Degrees.{degree_of-take_more}
use Rattle.polys.proofs.terms.degree.Goals as goal

pub loop-t-preserved : goal.loop-t-preserved
loop-t-preserved c =
    let e = degree_of-take_more c.args.a.now c.loop-t.t-index c.t-item.result c.loop-t-test.true c.t-item.is in
    let m = c.max-degree.ensures in
    let d = c.degree.ensures.value in
    let i = c.loop-t.invariant in
    omega arith
