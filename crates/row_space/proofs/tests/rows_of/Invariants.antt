use Rattle.std.proofs.Common.{All}
use Rattle.row_space.specs.Echelon.{IsRow}
use Rattle.row_space.proofs.tests.rows_of.Given as goal

abbrev pub invariant-loop-row : goal.invariant-loop-row
invariant-loop-row g l = All (IsRow l.prime 2) l.made
