use Rattle.std.proofs.Common.{◌≡◌, take}
use Rattle.monomials.proofs.Exponents.{plus}
use Rattle.monomials.proofs.mono.Mono.product.Given as goal

abbrev pub invariant-loop-i : goal.invariant-loop-i
invariant-loop-i l = l.exponents ≡ plus l.a-inside.exponents (take l.i l.b-inside.exponents)
