use Rattle.chain_laws.proofs.OneExponent.{one_exponent_law, independence_law, basis_law}
use Rattle.chain_laws.proofs.laws.fractions_of_one_exponent.Goals as goal

pub returns : goal.returns
returns c = record { numerators = one_exponent_law; independent = independence_law; basis = basis_law }
