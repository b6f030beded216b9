use Rattle.polys.proofs.Stated.{ring_law, closed_law}
use Rattle.polys.proofs.Instance.{polynomial_laws}
use Rattle.polys.proofs.laws.polynomials_are_a_ring.Goals as goal

pub returns-clause-laws : goal.returns-clause-laws
returns-clause-laws c = ring_law

pub returns-clause-ring : goal.returns-clause-ring
returns-clause-ring c = polynomial_laws

pub returns-clause-closed : goal.returns-clause-closed
returns-clause-closed c = closed_law
