use Rattle.std.proofs.Common.{◌≡◌, ◌∙◌, ◌+◌, ◌++◌, ℕ, List, length, length-append, sym, subst, ap, ap₂, arith}
use Rattle.prime_field.specs.Primes.{IsPrime}
use Rattle.row_space.specs.Subspace.{Subspace}
use Rattle.frobenius_map.specs.Powers.{IsPair}
use Rattle.frobenius_map.proofs.GraphLaws.{empty_graph, pair_of, power-of_one}
use Rattle.frobenius_map.proofs.graph.first_graph.Goals as goal

pub gain-requires-clause-graph : goal.gain-requires-clause-graph
gain-requires-clause-graph c =
    let S = c.args.a.now in
    let prime = subst IsPrime (c.get-p.ensures.value ∙ c.prime.ensures) c.get-p.ensures.prime in
    let laws = c.one.ensures.laws in
    let is = c.in_ok-ones.ensures ∙ ap₂ ◌++◌ c.one.ensures.value c.one-2.ensures.value in
    let wide : c.len.result ≡ S.dimension + S.dimension = omega (arith, c.len.ensures, ap length is, length-append S.one S.one, laws.unit.0) in
    empty_graph S prime laws c.new-graph.result (ap (λ (s : Subspace). s.prime) c.new-graph.ensures ∙ c.prime-2.ensures) (ap (λ (s : Subspace). s.width) c.new-graph.ensures ∙ wide) (ap (λ (s : Subspace). s.basis) c.new-graph.ensures)

pub gain-requires-clause-row : goal.gain-requires-clause-row
gain-requires-clause-row c =
    let S = c.args.a.now in
    let prime = subst IsPrime (c.get-p.ensures.value ∙ c.prime.ensures) c.get-p.ensures.prime in
    let laws = c.one.ensures.laws in
    let is = c.as_slice.ensures.value ∙ c.in_ok-ones.ensures ∙ ap₂ ◌++◌ c.one.ensures.value c.one-2.ensures.value in
    subst (λ (r : List ℕ). IsPair S r) (sym is) (pair_of S prime laws S.one S.one laws.unit laws.unit (power-of_one S prime laws))
