use Rattle.prime_field.proofs.Table.{characteristics-are_prime}
use Rattle.prime_field.proofs.prime.characteristics_are_prime.Goals as goal

pub returns : goal.returns
returns c = characteristics-are_prime
