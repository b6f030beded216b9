use Rattle.curve_model.proofs.Plane.{plane_has_no_point, plane_has_no_fractions}
use Rattle.curve_model.proofs.examples.plane_with_a_unit_has_no_points.Goals as goal

pub returns-clause-none : goal.returns-clause-none
returns-clause-none c = plane_has_no_point

pub returns-clause-fractions : goal.returns-clause-fractions
returns-clause-fractions c = plane_has_no_fractions
