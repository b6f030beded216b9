use Rattle.std.proofs.Common.{arith}
use Rattle.digit_space.proofs.Found.{no_degree}
use Rattle.digit_space.proofs.dividing.variable_in.Goals as goal

-- src/dividing.rt:22:1
pub returns-clause-divides : goal.returns-clause-divides
returns-clause-divides c =
    let none = no_degree c.args.variables c.args.m.now.exponents c.requires.affine.first (λ v l. c.loop-v.invariant v (let w = c.loop-v-test.false in omega arith)) in
    let some = c.requires.degree in
    absurd (omega arith)
