use Rattle.standard_monomials.proofs.Finite.{finite_law}
use Rattle.standard_monomials.proofs.laws.pure_powers_make_it_finite.Goals as goal

pub returns : goal.returns
returns c = finite_law
