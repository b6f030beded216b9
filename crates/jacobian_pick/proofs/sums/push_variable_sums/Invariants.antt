use Rattle.std.proofs.Common.{◌≡◌, ◌++◌, ◌∷◌, [], map}
use Rattle.std.specs.List.{range_with_len}
use Rattle.monomials.specs.Mono.{variable}
use Rattle.polys.specs.Terms.{add, mul}
use Rattle.jacobian_pick.specs.Lists.{polynomials}
use Rattle.jacobian_pick.proofs.sums.push_variable_sums.Given as goal

abbrev pub invariant-loop-v : goal.invariant-loop-v
invariant-loop-v l =
    l.into ≡ l.fn.into ++ polynomials l.fn.prime (map (λ v. add l.fn.prime l.f.terms (mul l.fn.prime l.g.terms (record { coeff = 1; mono = variable v } ∷ []))) (range_with_len 0 l.v))
