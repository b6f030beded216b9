use Rattle.std.proofs.Common.{◌≡◌, ℕ, ◌*◌, ◌≤◌, false, vec_capacity}
use Rattle.race_table.specs.Views.{was_told, times_ticket}
use Rattle.race_table.specs.Passes.{view_of, strata_of, BelongsTo}
use Rattle.worker_gate.specs.Crews.{Reported}
use Rattle.worker_gate.proofs.worker.work.Given as goal

-- the reports so far are of different tickets
abbrev pub invariant-loop : goal.invariant-loop
invariant-loop g l = record {
  table : BelongsTo l.table l.pass;
  first : (view_of l.pass).first ≡ (view_of l.fn.pass).first;
  parts : (view_of l.pass).parts ≡ (view_of l.fn.pass).parts;
  untold : was_told (view_of l.pass) ≡ false;
  once : (t : ℕ) → times_ticket t (view_of l.pass).drawn ≤ 1;
  below : (t : ℕ) → 2 * strata_of l.table ≤ t → times_ticket t (view_of l.pass).drawn ≡ 0;
  room : 2 * strata_of l.table ≤ vec_capacity l.reports;
  reported : Reported (g.J.Jobs.may_stop l.jobs) g.B.BookOf.may_be_strange (view_of l.pass) l.reports.items;
}
