use Rattle.std.proofs.Common.{◌≡◌, ℕ, ◌+◌, ◌%◌, ◌<◌, length, take, get_or}
use Rattle.lane_rows.specs.Rows.{AreResidues}
use Rattle.digit_space.specs.Adding.{sum_at, rows_from}
use Rattle.digit_space.proofs.multiplying.add_block.Given as goal

abbrev pub invariant-loop-i : goal.invariant-loop-i
invariant-loop-i l = record {
  entries : (t : ℕ) → t < length l.fn.out → get_or l.out t 0 ≡ (get_or l.fn.out t 0 + sum_at (take l.i l.block) (rows_from l.border l.products l.first) t) % l.prime;
  residues : AreResidues l.prime l.out;
}
