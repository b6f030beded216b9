use Rattle.std.proofs.Common.{◌≡◌, ◌++◌, take, vec_capacity}
use Rattle.worker_gate.proofs.crew.add_all.Given as goal

-- the reports so far are added
abbrev pub invariant-loop-report : goal.invariant-loop-report
invariant-loop-report l = record {
  items : l.all.items ≡ l.initial.all.items ++ take l.report-index l.reports;
  capacity : vec_capacity l.all ≡ vec_capacity l.initial.all;
}
