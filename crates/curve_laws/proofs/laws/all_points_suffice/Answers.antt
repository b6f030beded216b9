use Rattle.curve_laws.proofs.SplitLaws.{all_points_law}
use Rattle.curve_laws.proofs.laws.all_points_suffice.Goals as goal

pub returns : goal.returns
returns c = all_points_law
