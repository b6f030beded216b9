use Rattle.curve_laws.proofs.SplitLaws.{none_law, no_points_law}
use Rattle.curve_laws.proofs.laws.without_points_nothing_is_new.Goals as goal

pub returns : goal.returns
returns c = record { local = none_law; integral = no_points_law }
