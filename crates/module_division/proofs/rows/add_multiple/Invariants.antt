use Rattle.std.proofs.Common.{◌≡◌, ◌<◌, length, map, take, drop}
use Rattle.std.specs.List.{All}
use Rattle.polys.specs.Terms.{add, normal}
use Rattle.module_division.specs.declared.rows.TheConstants.{ENTRY_LIMIT}
use Rattle.module_division.proofs.RowTerms.{whole_product}
use Rattle.module_division.specs.Rows.{row_terms}
use Rattle.module_division.proofs.rows.add_multiple.Given as goal

abbrev pub invariant-loop-j : goal.invariant-loop-j
invariant-loop-j l = record {
  same_length : length l.row.items ≡ length l.initial.row.items;
  entries : All (λ k. k < ENTRY_LIMIT) l.row.items;
  sum : normal l.p (row_terms (drop l.from l.columns) (drop l.from l.row.items))
      ≡ add l.p (row_terms (drop l.from l.columns) (drop l.from l.initial.row.items)) (map (whole_product l.t) (take l.j l.terms));
}
