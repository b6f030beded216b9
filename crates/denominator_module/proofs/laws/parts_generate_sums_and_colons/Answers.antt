use Rattle.denominator_module.proofs.Stated.{parts_law}
use Rattle.denominator_module.proofs.laws.parts_generate_sums_and_colons.Goals as goal

pub returns : goal.returns
returns c = parts_law
