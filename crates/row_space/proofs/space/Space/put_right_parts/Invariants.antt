use Rattle.row_space.proofs.RightParts.{HasRightParts}
use Rattle.row_space.proofs.space.Space.put_right_parts.Given as goal

abbrev pub invariant-loop-i : goal.invariant-loop-i
invariant-loop-i l = HasRightParts l.left l.i l.rows l.pivots l.fn.self l.self
