use Rattle.prime_field.proofs.Table.{characteristics-are_prime}
use Rattle.prime_field.proofs.prime.Prime.get.Goals as goal

pub returns-clause-prime : goal.returns-clause-prime
returns-clause-prime c = characteristics-are_prime _ c.self.invariant
