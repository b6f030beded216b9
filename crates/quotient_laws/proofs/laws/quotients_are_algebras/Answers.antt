use Rattle.quotient_laws.proofs.Nilpotents.{nilpotent_law}
use Rattle.quotient_laws.proofs.Quotients.{quotient_law}
use Rattle.quotient_laws.proofs.laws.quotients_are_algebras.Goals as goal

pub returns-clause-algebra : goal.returns-clause-algebra
returns-clause-algebra c = quotient_law

pub returns-clause-radical : goal.returns-clause-radical
returns-clause-radical c = nilpotent_law
