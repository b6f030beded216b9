use Rattle.curve_laws.proofs.PointSetLaws.{grows_law, sets_law}
use Rattle.curve_laws.proofs.laws.points_are_a_set.Goals as goal

pub returns-clause-grows : goal.returns-clause-grows
returns-clause-grows c = grows_law

pub returns-clause-sums : goal.returns-clause-sums
returns-clause-sums c = sets_law
