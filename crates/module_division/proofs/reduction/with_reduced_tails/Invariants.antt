use Rattle.std.proofs.Common.{◌≡◌, ℕ, ◌<◌, length, get_or}
use Rattle.std.specs.List.{All}
use Rattle.polys.specs.Poly.{Polynomial, terms_of}
use Rattle.module_division.specs.Reduction.{IsTailReduced}
use Rattle.module_division.proofs.reduction.with_reduced_tails.Given as goal

abbrev pub invariant-loop-k : goal.invariant-loop-k
invariant-loop-k l = record {
  count : length l.reduced.items ≡ l.k;
  primes : All (λ f. f.prime ≡ l.p) l.reduced.items;
  tails : (j : ℕ) (d e : Polynomial) → j < l.k → IsTailReduced l.p (terms_of l.vectors) (get_or l.vectors j d).terms (get_or l.reduced.items j e).terms;
}
