use Rattle.std.proofs.Common.{rules, ◌≤◌, length, arith}
use Rattle.prime_field.specs.Primes.{IsPrime}
use Rattle.strata_work.proofs.Points.{few_points}
use Rattle.strata_work.proofs.few.strata_among.Goals as goal

pub overflow_cast-result : goal.overflow_cast-result
overflow_cast-result c =
    let prime : IsPrime c.args.curve.now.prime = search rules in
    let few : length c.args.points.now ≤ 256 = few_points c.points_are_few.ensures.fit c.args.curve.now c.args.points.now prime c.requires.fit c.requires.points in
    omega (arith, few)

pub returns-clause-few : goal.returns-clause-few
returns-clause-few c =
    let prime : IsPrime c.args.curve.now.prime = search rules in
    let few : length c.args.points.now ≤ 256 = few_points c.points_are_few.ensures.fit c.args.curve.now c.args.points.now prime c.requires.fit c.requires.points in
    omega (arith, few)
