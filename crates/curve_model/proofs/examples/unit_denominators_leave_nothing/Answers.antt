use Rattle.curve_model.proofs.Plane.{one_point_has_dimension_zero}
use Rattle.curve_model.proofs.examples.unit_denominators_leave_nothing.Goals as goal

pub returns : goal.returns
returns c = one_point_has_dimension_zero
