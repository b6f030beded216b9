use Rattle.std.proofs.Common.{ℕ, ◌<◌, get_or}
use Rattle.monomials.specs.Mono.{Divides, unit}
use Rattle.corner_basis.proofs.staircase.has_divisor.Given as goal

abbrev pub invariant-loop-lead : goal.invariant-loop-lead
invariant-loop-lead l = (k : ℕ) → k < l.lead-index → Divides (get_or l.leads k unit) l.m → ⊥
