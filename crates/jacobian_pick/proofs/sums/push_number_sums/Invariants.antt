use Rattle.std.proofs.Common.{◌≡◌, ◌++◌, map}
use Rattle.std.specs.List.{range_with_len}
use Rattle.polys.specs.Terms.{add, multiple}
use Rattle.jacobian_pick.specs.Lists.{polynomials}
use Rattle.jacobian_pick.proofs.sums.push_number_sums.Given as goal

abbrev pub invariant-loop-c : goal.invariant-loop-c
invariant-loop-c l = l.into ≡ l.fn.into ++ polynomials l.fn.prime (map (λ c. add l.fn.prime l.f.terms (multiple l.fn.prime c l.g.terms)) (range_with_len 1 l.c))
