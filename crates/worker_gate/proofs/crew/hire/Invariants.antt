use Rattle.std.proofs.Common.{◌≡◌, ◌+◌, ◌*◌, ◌≤◌, length, vec_capacity}
use Rattle.race_table.specs.Passes.{view_of, strata_of, BelongsTo}
use Rattle.worker_gate.specs.Crews.{IsBlank}
use Rattle.worker_gate.specs.Hired.{AreRooms, AreHired}
use Rattle.worker_gate.proofs.crew.hire.Given as goal

-- each of the crew has a number, from the last one down
abbrev pub invariant-loop-reports : goal.invariant-loop-reports
invariant-loop-reports l = record {
  table : BelongsTo l.table l.pass;
  blank : IsBlank (view_of l.pass);
  first : (view_of l.pass).first ≡ 1;
  parts : (view_of l.pass).parts ≡ length l.rooms.items + 1;
  rooms : AreRooms (2 * strata_of l.table) l.rooms.items;
  places : length l.crew.items + length l.rooms.items ≤ vec_capacity l.crew;
  all : length l.crew.items + length l.rooms.items ≡ length l.fn.rooms.items;
  hired : AreHired l.table (view_of l.fn.pass).seats l.crew.items;
}

abbrev pub decreases-loop-reports : goal.decreases-loop-reports
decreases-loop-reports l = length l.rooms.items
