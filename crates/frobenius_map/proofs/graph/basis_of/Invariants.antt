use Rattle.std.proofs.Common.{◌≡◌, take}
use Rattle.frobenius_map.proofs.graph.basis_of.Given as goal

abbrev pub invariant-loop-i : goal.invariant-loop-i
invariant-loop-i l = l.made ≡ take l.i l.rows
