use Rattle.std.proofs.Common.{◌≡◌, ◌≤◌, take}
use Rattle.monomials.specs.Mono.{cmp_last}
use Rattle.monomials.proofs.mono.Mono.cmp_dp.Given as goal

abbrev pub invariant-loop-i : goal.invariant-loop-i
invariant-loop-i l = record {
  i_in : l.i ≤ 7;
  so_far : cmp_last (take l.i l.a-inside.exponents) (take l.i l.b-inside.exponents) ≡ cmp_last l.a-inside.exponents l.b-inside.exponents;
}

abbrev pub decreases-loop-i : goal.decreases-loop-i
decreases-loop-i l = l.i
