use Rattle.digit_laws.proofs.DigitLaws.{digit_law}
use Rattle.digit_laws.proofs.Corners.{corners_law}
use Rattle.digit_laws.proofs.Blocks.{block_law}
use Rattle.digit_laws.proofs.laws.digits_are_coordinates.Goals as goal

pub returns : goal.returns
returns c = record { laws = digit_law; corners = corners_law; blocks = block_law }
