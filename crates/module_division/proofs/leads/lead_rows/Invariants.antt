use Rattle.std.proofs.Common.{◌≡◌, ℕ, ◌<◌, length, get_or}
use Rattle.polys.specs.Poly.{Polynomial}
use Rattle.graded_modules.specs.Vector.{lead_mono}
use Rattle.module_division.specs.declared.leads.LeadRow.{LeadRow}
use Rattle.module_division.specs.Leads.{IsRowOf}
use Rattle.module_division.proofs.leads.lead_rows.Given as goal

abbrev pub invariant-loop-k : goal.invariant-loop-k
invariant-loop-k l = record {
  count : length l.rows.items ≡ l.k;
  each : (j : ℕ) (r : LeadRow) (d : Polynomial) → j < l.k → IsRowOf (get_or l.rows.items j r).entries (lead_mono (get_or l.vectors j d).terms);
}
