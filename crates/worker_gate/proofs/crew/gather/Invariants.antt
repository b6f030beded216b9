use Rattle.std.proofs.Common.{◌≡◌, ◌+◌, ◌*◌, ◌<◌, ◌≤◌, true, length, vec_capacity}
use Rattle.race_table.specs.Views.{was_told}
use Rattle.race_table.specs.Answers.{Knows}
use Rattle.race_table.specs.Passes.{view_of, strata_of, BelongsTo}
use Rattle.worker_gate.specs.Crews.{Reported}
use Rattle.worker_gate.specs.Hired.{AreBack}
use Rattle.worker_gate.proofs.crew.gather.Given as goal

-- the pass has the numbers before those of the rest, and the reports of its workers
abbrev pub invariant-loop-worker : goal.invariant-loop-worker
invariant-loop-worker g l = record {
  table : BelongsTo l.table l.pass;
  first : (view_of l.pass).first ≡ 1;
  parts : (view_of l.pass).parts + length l.crew.items ≡ (view_of l.fn.pass).seats;
  reported : Reported (g.J.Jobs.may_stop l.jobs) g.B.BookOf.may_be_strange (view_of l.pass) l.all.items;
  rest : AreBack (g.J.Jobs.may_stop l.jobs) g.B.BookOf.may_be_strange l.table (view_of l.fn.pass).seats l.crew.items;
  room : length l.all.items + length l.crew.items * (2 * strata_of l.table) ≤ vec_capacity l.all;
  fewer : length l.crew.items ≤ length l.fn.crew.items;
  known : length l.crew.items < length l.fn.crew.items → (was_told (view_of l.pass) ≡ true) × Knows (view_of l.pass);
}

abbrev pub decreases-loop-worker : goal.decreases-loop-worker
decreases-loop-worker g l = length l.crew.items
