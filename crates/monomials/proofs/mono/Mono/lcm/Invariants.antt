use Rattle.std.proofs.Common.{◌≡◌, take, max}
use Rattle.monomials.specs.Mono.{pointwise}
use Rattle.monomials.proofs.mono.Mono.lcm.Given as goal

abbrev pub invariant-loop-i : goal.invariant-loop-i
invariant-loop-i l = l.exponents ≡ pointwise max l.a-inside.exponents (take l.i l.b-inside.exponents)
