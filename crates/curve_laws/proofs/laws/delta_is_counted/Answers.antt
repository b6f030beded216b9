use Rattle.curve_laws.proofs.CountingLaws.{counts_law, members_law}
use Rattle.curve_laws.proofs.laws.delta_is_counted.Goals as goal

pub returns : goal.returns
returns c = record { basis = counts_law; members = members_law }
