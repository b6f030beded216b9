use Rattle.polys.specs.Poly.{terms_of}
use Rattle.module_division.proofs.RowSteps.{IsRow}
use Rattle.module_division.proofs.rows.row_remainder.Given as goal

abbrev pub invariant-loop-i : goal.invariant-loop-i
invariant-loop-i l = IsRow l.p (terms_of l.divisors) l.v l.out.items l.columns l.row.items l.i
