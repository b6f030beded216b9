use Rattle.std.proofs.Common.{◌≡◌, ◌*◌, ◌%◌, ◌<◌, ℕ, get_or}
use Rattle.frobenius_split.proofs.idempotents.is_multiple.Given as goal

abbrev pub invariant-loop-i : goal.invariant-loop-i
invariant-loop-i l = (j : ℕ) → j < l.i → get_or l.row j 0 ≡ (l.c * get_or l.one j 0) % l.prime
