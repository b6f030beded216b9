use Rattle.std.proofs.Common.{take}
use Rattle.digit_make.specs.Rows.{IsBlockRow, Adds, corners_multiple}
use Rattle.digit_make.proofs.blocks.add_products.Given as goal

abbrev pub invariant-loop-i : goal.invariant-loop-i
invariant-loop-i l = record {
  fits : IsBlockRow l.plan l.out;
  adds : Adds l.plan l.t l.fn.out (corners_multiple l.plan l.v (take l.i l.factors)) l.out;
}
