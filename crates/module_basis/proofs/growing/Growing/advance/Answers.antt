use Rattle.std.proofs.Common.{subst}
use Rattle.prime_field.specs.Primes.{IsPrime}
use Rattle.module_basis.proofs.Advancing.{ready_still, ready_next}
use Rattle.module_basis.proofs.growing.Growing.advance.Goals as goal

pub settle_pairs-requires-clause-ready : goal.settle_pairs-requires-clause-ready
settle_pairs-requires-clause-ready c =
    ready_still c.args.gens.now c.args.e c.args.self.now c.take_generators.new.self c.requires.ready c.in_ok-take_generators.ensures.growing c.in_ok-take_generators.ensures.gains

pub returns-clause-ready : goal.returns-clause-ready
returns-clause-ready c =
    ready_next c.args.gens.now c.args.e c.take_generators.new.self.cap c.take_generators.new.self c.settle_pairs.new.self (subst IsPrime c.get-prime.ensures.value c.get-prime.ensures.prime)
    c.in_ok-settle_pairs.ensures.growing c.in_ok-settle_pairs.ensures.cap c.in_ok-settle_pairs.ensures.vectors c.in_ok-settle_pairs.ensures.late c.in_ok-settle_pairs.ensures.awaited
    c.in_ok-take_generators.ensures.members

pub returns-clause-low : goal.returns-clause-low
returns-clause-low c = c.in_ok-settle_pairs.ensures.growing.grown.low
