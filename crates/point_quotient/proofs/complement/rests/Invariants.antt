use Rattle.point_quotient.specs.Complements.{AreFirstRests}
use Rattle.point_quotient.proofs.complement.rests.Given as goal

abbrev pub invariant-loop-row : goal.invariant-loop-row
invariant-loop-row l = AreFirstRests l.part l.row-index l.rows l.made
