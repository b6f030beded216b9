use Rattle.curve_model.proofs.OriginPoint.{origin_is_point, origin_has_degree_one}
use Rattle.curve_model.proofs.examples.cusp_has_the_origin.Goals as goal

pub returns-clause-point : goal.returns-clause-point
returns-clause-point c = origin_is_point

pub returns-clause-degree : goal.returns-clause-degree
returns-clause-degree c = origin_has_degree_one
