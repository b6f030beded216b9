use Rattle.curve_laws.proofs.Coordinates.{unique_coordinates_law, decided_law, counts_dimension_law, powers_law}
use Rattle.curve_laws.proofs.laws.finite_quotients_have_coordinates.Goals as goal

pub returns : goal.returns
returns c = record { unique = unique_coordinates_law; decided = decided_law; bases = counts_dimension_law; powers = powers_law }
