use Rattle.std.proofs.Common.{◌+◌, ◌≤◌, [], length}
use Rattle.standard_monomials.specs.Finding.{GainsMultiples}
use Rattle.corner_basis.proofs.queue.insert_multiples.Given as goal

abbrev pub invariant-loop-v : goal.invariant-loop-v
invariant-loop-v l = GainsMultiples [] l.v l.m l.fn.queue.items l.queue.items × (length l.queue.items ≤ length l.fn.queue.items + l.v)
