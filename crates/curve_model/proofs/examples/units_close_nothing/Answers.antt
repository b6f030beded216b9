use Rattle.curve_model.proofs.UnitDenominator as laws
use Rattle.curve_model.proofs.examples.units_close_nothing.Goals as goal

pub returns : goal.returns
returns c = laws.units_close_nothing
