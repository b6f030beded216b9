use Rattle.std.proofs.Common.{length, get_or, arith}
use Rattle.digit_plan.proofs.Playing.{no_degree, quotient_by, variable_at}
use Rattle.digit_plan.proofs.planning.first_quotient.Goals as goal

pub quotient-requires : goal.quotient-requires
quotient-requires c =
    let l = variable_at (length c.args.order.now) c.loop-k.k c.args.order.now c.requires.order c.loop-k-test.true in
    let s = c.requires.six in
    omega arith

pub returns-in-Some-clause-some : goal.returns-in-Some-clause-some
returns-in-Some-clause-some c =
    let order = c.args.order.now in
    quotient_by (length order) (get_or order c.loop-k.k 0) c.args.m.now c.in-Some.w c.requires.six (variable_at (length order) c.loop-k.k order c.requires.order c.loop-k-test.true) c.requires.affine
    c.in-Some.ensures.some c.in-Some.ensures.seven

pub returns-clause-none : goal.returns-clause-none
returns-clause-none c =
    let order = c.args.order.now in
    no_degree (length order) c.args.m.now order c.requires.six c.requires.affine c.requires.order (λ j l. c.loop-k.invariant j (let b = c.loop-k-test.false in omega arith))
