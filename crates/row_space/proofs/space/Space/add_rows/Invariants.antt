use Rattle.std.proofs.Common.{take}
use Rattle.row_space.specs.Subspace.{Joins}
use Rattle.row_space.proofs.space.Space.add_rows.Given as goal

abbrev pub invariant-loop-i : goal.invariant-loop-i
invariant-loop-i l = Joins l.fn.self (take l.i l.rows) l.self
