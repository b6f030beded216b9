use Rattle.std.proofs.Common.{◌≡◌, ◌<◌, ℕ, get_or, length}
use Rattle.module_division.proofs.leads.mono_row.Given as goal

abbrev pub invariant-loop-v : goal.invariant-loop-v
invariant-loop-v l = (length l.entries ≡ 8) × ((k : ℕ) → k < l.v → get_or l.entries k 0 ≡ get_or l.m.exponents k 0)
