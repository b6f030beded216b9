use Rattle.std.proofs.Common.{◌≡◌, ◌≤◌, false}
use Rattle.race_table.specs.Passes.{view_of, strata_of, BelongsTo}
use Rattle.stratum_chain.specs.Chain.{IsSameWork, left_of}
use Rattle.strata_work.specs.Hand.{IsAlone}
use Rattle.strata_work.proofs.hand.finish.Given as goal

-- the chain has the same work and is open, and nothing was won
abbrev pub invariant-loop-pass : goal.invariant-loop-pass
invariant-loop-pass l = record {
  table : BelongsTo l.table l.pass;
  alone : IsAlone (view_of l.pass);
  stratum : l.chain.stratum ≤ strata_of l.table;
  work : IsSameWork l.initial.chain l.chain;
  still_open : l.chain.whole ≡ false;
}

abbrev pub decreases-loop-pass : goal.decreases-loop-pass
decreases-loop-pass l = left_of l.chain
