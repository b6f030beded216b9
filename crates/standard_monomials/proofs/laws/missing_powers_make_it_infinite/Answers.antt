use Rattle.standard_monomials.proofs.Infinite.{infinite_law}
use Rattle.standard_monomials.proofs.laws.missing_powers_make_it_infinite.Goals as goal

pub returns : goal.returns
returns c = infinite_law
