use Rattle.std.proofs.Common.{◌≡◌, take}
use Rattle.monomials.specs.Mono.{total_degree}
use Rattle.monomials.proofs.mono.degree_of.Given as goal

abbrev pub invariant-loop-e : goal.invariant-loop-e
invariant-loop-e l = l.degree ≡ total_degree (take l.e-index l.exponents)
