use Rattle.std.proofs.Common.{take}
use Rattle.digit_plan.specs.Planned.{terms_at}
use Rattle.digit_make.specs.Rows.{IsBlockRow, Adds}
use Rattle.digit_make.proofs.blocks.add_shares.Given as goal

abbrev pub invariant-loop-k : goal.invariant-loop-k
invariant-loop-k l = record {
  fits : IsBlockRow l.plan l.out;
  adds : Adds l.plan l.t l.fn.out (take l.k (terms_at l.plan l.shares)) l.out;
}
