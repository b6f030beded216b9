-- The rows copied so far.
use Rattle.std.proofs.Common.{◌≡◌, take}
use Rattle.frobenius_split.proofs.tests.rows_of.Given as goal

abbrev pub invariant-loop-row : goal.invariant-loop-row
invariant-loop-row g l = l.made ≡ take l.row-index l.rows
