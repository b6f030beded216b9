use Rattle.over_laws.proofs.Rows.{rows_law}
use Rattle.over_laws.proofs.laws.rows_are_modules.Goals as goal

pub returns : goal.returns
returns c = rows_law
