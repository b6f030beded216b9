use Rattle.std.proofs.Common.{◌≡◌, take, length}
use Rattle.monomials.proofs.Exponents.{plus}
use Rattle.monomials.proofs.mono.Mono.quotient.Given as goal

abbrev pub invariant-loop-i : goal.invariant-loop-i
invariant-loop-i l = record {
  seven : length l.exponents ≡ 7;
  so_far : plus l.exponents (take l.i l.b-inside.exponents) ≡ l.a-inside.exponents;
}
