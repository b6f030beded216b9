-- Passes and their tables.
use Rattle.std.specs.Prelude.{ℕ, ◌≡◌}
use Rattle.race_table.specs.declared.view.View.{View}
use Rattle.race_table.specs.declared.pass.Pass.{Pass}
use Rattle.race_table.specs.declared.table.RaceTable.{RaceTable}

-- what the pass knows
abbrev pub view_of : Pass → View
view_of pass = pass.seat.me.0

-- how many strata the table has
abbrev pub strata_of : RaceTable → ℕ
strata_of table = table.table.shared.key.strata

-- the pass is one of the table's
pub record BelongsTo (table : RaceTable) (pass : Pass) : Type 0 where
  pub table_id : pass.seat.table_id ≡ table.table.shared.table_id
  pub strata : (view_of pass).strata ≡ table.table.shared.key.strata
  pub seats : (view_of pass).seats ≡ table.table.shared.key.seats
