use Rattle.curve_laws.proofs.ClosingLaws.{exact_law, integral_law, unique_closure_law}
use Rattle.curve_laws.proofs.laws.closures_are_exact.Goals as goal

pub returns : goal.returns
returns c = record { exact = exact_law; integral = integral_law; unique = unique_closure_law }
