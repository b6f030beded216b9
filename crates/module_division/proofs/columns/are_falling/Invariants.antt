use Rattle.std.proofs.Common.{◌≤◌, drop, length}
use Rattle.module_division.specs.Rows.{AreFalling}
use Rattle.module_division.proofs.columns.are_falling.Given as goal

abbrev pub invariant-loop-i : goal.invariant-loop-i
invariant-loop-i l = record { inside : l.i ≤ length l.columns; falling : AreFalling (drop l.i l.columns) }

abbrev pub decreases-loop-i : goal.decreases-loop-i
decreases-loop-i l = l.i
