use Rattle.std.proofs.Common.{◌≡◌, ◌<◌, length, take}
use Rattle.std.specs.List.{All}
use Rattle.polys.specs.Terms.{normal}
use Rattle.module_division.specs.declared.rows.TheConstants.{ENTRY_LIMIT}
use Rattle.module_division.specs.Rows.{row_terms}
use Rattle.module_division.proofs.rows.row_of.Given as goal

abbrev pub invariant-loop-u : goal.invariant-loop-u
invariant-loop-u l = record {
  same_length : length l.row.items ≡ length l.columns;
  entries : All (λ k. k < ENTRY_LIMIT) l.row.items;
  sum : normal l.p (row_terms l.columns l.row.items) ≡ normal l.p (take l.u-index l.v);
}
