use Rattle.std.proofs.Common.{take, map, ◌++◌}
use Rattle.row_space.specs.Subspace.{Joins}
use Rattle.row_space.proofs.space.Space.put_padded.Given as goal

abbrev pub invariant-loop-i : goal.invariant-loop-i
invariant-loop-i l = Joins l.fn.self (take l.i (map (λ row. row ++ l.zero) l.rows)) l.self
