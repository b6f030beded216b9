use Rattle.corner_basis.proofs.Tried.{AreMembers}
use Rattle.corner_basis.proofs.basis.reduced_basis_of_front.Given as goal

abbrev pub invariant-loop-i : goal.invariant-loop-i
invariant-loop-i l = AreMembers l.front l.found l.i l.basis
