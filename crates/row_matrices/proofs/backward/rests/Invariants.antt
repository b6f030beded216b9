use Rattle.row_matrices.specs.Inverses.{AreRests}
use Rattle.row_matrices.proofs.backward.rests.Given as goal

abbrev pub invariant-loop-i : goal.invariant-loop-i
invariant-loop-i l = AreRests l.prime l.rows l.inverse l.units l.i l.made
