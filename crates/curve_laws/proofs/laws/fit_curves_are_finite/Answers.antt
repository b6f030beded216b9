use Rattle.curve_laws.proofs.FitLaws.{fit_law}
use Rattle.curve_laws.proofs.laws.fit_curves_are_finite.Goals as goal

pub returns : goal.returns
returns c = fit_law
