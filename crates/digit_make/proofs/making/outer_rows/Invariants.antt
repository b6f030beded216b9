use Rattle.std.proofs.Common.{◌≡◌, ℕ, ◌<◌, List, length, get_or}
use Rattle.monomials.specs.Mono.{unit}
use Rattle.digit_space.specs.declared.products.OuterRow.{OuterRow}
use Rattle.digit_make.proofs.making.outer_rows.Given as goal

abbrev pub invariant-loop-j : goal.invariant-loop-j
invariant-loop-j l = record {
  count : length l.outer ≡ l.j;
  each : (j : ℕ) (d : OuterRow) (e : List ℕ) → j < length l.outer → ((get_or l.outer j d).monomial ≡ get_or l.monomials j unit)
      × ((get_or l.outer j d).digits ≡ get_or l.rows j e) × (length (get_or l.rows j e) ≡ l.wide);
}
