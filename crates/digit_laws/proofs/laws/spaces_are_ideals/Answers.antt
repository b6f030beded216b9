use Rattle.digit_laws.proofs.Spaces.{spaces_law}
use Rattle.digit_laws.proofs.laws.spaces_are_ideals.Goals as goal

pub returns : goal.returns
returns c = spaces_law
