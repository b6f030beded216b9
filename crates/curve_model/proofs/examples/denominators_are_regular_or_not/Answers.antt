use Rattle.curve_model.proofs.CuspWeights.{cusp_is_regular}
use Rattle.curve_model.proofs.Axes.{axes_are_not_regular}
use Rattle.curve_model.proofs.examples.denominators_are_regular_or_not.Goals as goal

pub returns : goal.returns
returns c = record { cusp = cusp_is_regular; axes = axes_are_not_regular }
