use Rattle.std.proofs.Common.{take}
use Rattle.row_space.specs.Subspace.{Joins}
use Rattle.row_space.specs.Sums.{side_by_side}
use Rattle.row_space.proofs.space.Space.put_pairs.Given as goal

abbrev pub invariant-loop-i : goal.invariant-loop-i
invariant-loop-i l = Joins l.fn.self (take l.i (side_by_side l.left l.right)) l.self
