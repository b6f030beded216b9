use Rattle.std.proofs.Common.{◌≡◌, ℕ, ◌<◌, get_or}
use Rattle.std.specs.declared.cmp.Ordering.TheVariants.{Less}
use Rattle.monomials.specs.Mono.{Monomial, Divides, cmp_dp}
use Rattle.standard_monomials.proofs.finding.tests.are_apart_below.Given as goal

abbrev pub invariant-loop-w : goal.invariant-loop-w
invariant-loop-w l = (k : ℕ) (d : Monomial) → k < l.w-index → (cmp_dp (get_or l.ms k d) l.m ≡ Less) × (Divides (get_or l.ms k d) l.m → ⊥)
