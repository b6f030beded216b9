use Rattle.std.proofs.Common.{◌≡◌, ◌≤◌, false}
use Rattle.race_table.specs.Views.{was_told}
use Rattle.race_table.specs.Passes.{view_of, BelongsTo}
use Rattle.race_table.proofs.tests.draw_all.Given as goal

-- the pass is not spent so far
abbrev pub invariant-loop-turn : goal.invariant-loop-turn
invariant-loop-turn l = record {
  table : BelongsTo l.table l.pass;
  fresh : was_told (view_of l.pass) ≡ false;
  first : (view_of l.pass).first ≡ (view_of l.fn.pass).first;
  parts : (view_of l.pass).parts ≡ (view_of l.fn.pass).parts;
  count : l.count ≤ l._turn;
}
