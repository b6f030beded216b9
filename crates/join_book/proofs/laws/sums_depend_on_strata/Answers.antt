use Rattle.join_book.proofs.Strata.{sums_law}
use Rattle.join_book.proofs.laws.sums_depend_on_strata.Goals as goal

pub returns : goal.returns
returns c = sums_law
