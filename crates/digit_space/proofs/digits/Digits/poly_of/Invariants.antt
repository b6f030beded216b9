use Rattle.digit_space.proofs.BlockPolys.{BlocksValued}
use Rattle.digit_space.proofs.digits.Digits.poly_of.Given as goal

abbrev pub invariant-loop-from : goal.invariant-loop-from
invariant-loop-from l = BlocksValued l.self l.row l.from l.f

abbrev pub decreases-loop-from : goal.decreases-loop-from
decreases-loop-from l = l.from
