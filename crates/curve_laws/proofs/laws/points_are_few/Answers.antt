use Rattle.curve_laws.proofs.PointSetLaws.{few_law, fit_few_law}
use Rattle.curve_laws.proofs.laws.points_are_few.Goals as goal

pub returns : goal.returns
returns c = record { few = few_law; fit = fit_few_law }
