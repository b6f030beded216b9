use Rattle.curve_laws.proofs.SplitLaws.{parts_law, all_parts_law}
use Rattle.curve_laws.proofs.laws.local_fractions_split.Goals as goal

pub returns : goal.returns
returns c = record { local = parts_law; integral = all_parts_law }
