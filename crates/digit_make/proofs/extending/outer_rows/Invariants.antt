use Rattle.std.proofs.Common.{◌≡◌, ℕ, ◌-◌, ◌<◌, List, length, get_or}
use Rattle.monomials.specs.Mono.{unit}
use Rattle.polys.specs.Curve.{data_of}
use Rattle.digit_make.specs.Blocks.{HaveBlocks, IsKnown}
use Rattle.digit_make.proofs.extending.outer_rows.Given as goal

abbrev pub invariant-loop-j : goal.invariant-loop-j
invariant-loop-j l = record {
  count : length l.rows ≡ l.j;
  each : (j : ℕ) (d : List ℕ) → j < length l.rows → IsKnown (data_of l.digits.curve) l.digits.basis (get_or l.monomials j unit) (get_or l.rows j d);
  blocks : HaveBlocks (length l.digits.basis) 0 (l.digits.depth - 1) l.rows;
}
