use Rattle.std.proofs.Common.{take}
use Rattle.point_quotient.specs.Quotients.{AreTimes}
use Rattle.point_quotient.proofs.multiplying.product_rows.Given as goal

abbrev pub invariant-loop-row : goal.invariant-loop-row
invariant-loop-row l = AreTimes l.digits l.depth l.f.terms (take l.row-index l.rows) l.made
