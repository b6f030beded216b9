use Rattle.std.proofs.Common.{◌≡◌, false}
use Rattle.race_table.specs.Passes.{view_of, BelongsTo}
use Rattle.race_table.specs.declared.jobs.JobStop.{JobStop}
use Rattle.worker_gate.proofs.ticket.work_ticket.Given as goal

-- the pass knows what it knew, and the job is open and of the stratum
abbrev pub invariant-loop-look : goal.invariant-loop-look
invariant-loop-look g l = record {
  table : BelongsTo l.table l.pass;
  view : view_of l.pass ≡ view_of l.fn.pass;
  stratum : g.J.Job.Job.of_stratum l.job ≡ l.stratum;
  undone : g.J.Job.Job.is_whole l.job ≡ false;
  stops : (stop : JobStop) → g.J.Job.Job.may_stop l.job stop → g.J.Jobs.may_stop l.jobs l.kind l.stratum stop;
}

abbrev pub decreases-loop-look : goal.decreases-loop-look
decreases-loop-look g l = g.J.Job.Job.left l.job
