use Rattle.std.proofs.Common.{subst, ◌∙◌}
use Rattle.prime_field.specs.Primes.{IsPrime}
use Rattle.module_basis.proofs.Adding.{pushed_growing, pushed_last, pushed_gains}
use Rattle.module_basis.proofs.growing.Growing.add.Goals as goal

pub pair_up-requires-clause-growing : goal.pair_up-requires-clause-growing
pair_up-requires-clause-growing c =
    let prime = subst IsPrime c.get-prime.ensures.value c.get-prime.ensures.prime in
    pushed_growing c.args.gens.now c.args.e prime c.args.self.now c.push.new.self c.args.b c.requires.growing c.requires.fresh c.in_ok-push.ensures.vectors c.in_ok-push.ensures.pairs

pub pair_up-requires-clause-last : goal.pair_up-requires-clause-last
pair_up-requires-clause-last c =
    let prime = subst IsPrime c.get-prime.ensures.value c.get-prime.ensures.prime in
    pushed_last c.args.gens.now c.args.e prime c.args.self.now c.push.new.self c.args.b c.requires.growing c.requires.fresh c.in_ok-push.ensures.vectors

pub returns-clause-gains : goal.returns-clause-gains
returns-clause-gains c =
    let prime = subst IsPrime c.get-prime.ensures.value c.get-prime.ensures.prime in
    pushed_gains c.args.gens.now c.args.e prime c.args.self.now c.push.new.self c.args.b c.requires.growing c.requires.fresh c.in_ok-push.ensures.vectors c.pair_up.new.self
    c.in_ok-push.ensures.cap c.in_ok-push.ensures.pairs c.in_ok-pair_up.ensures.gains c.in_ok-pair_up.ensures.awaited

pub returns-clause-vectors : goal.returns-clause-vectors
returns-clause-vectors c = c.in_ok-pair_up.ensures.gains.vectors ∙ c.in_ok-push.ensures.vectors
