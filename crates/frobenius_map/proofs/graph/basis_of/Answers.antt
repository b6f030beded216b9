use Rattle.std.proofs.Common.{◌≡◌, ◌≤◌, ◌∙◌, ℕ, List, length, sym, subst, arith, All}
use Rattle.std.proofs.lemmas.List.{take_all}
use Rattle.prime_field.specs.Primes.{IsPrime}
use Rattle.frobenius_map.specs.Powers.{IsPair}
use Rattle.frobenius_map.proofs.GraphLaws.{basis_pairs}
use Rattle.frobenius_map.proofs.graph.basis_of.Goals as goal

pub returns : goal.returns
returns c =
    let rows = c.rows-rows.result.now in
    let end : length c.rows-rows.result.now ≤ c.loop-i.i = omega arith in
    let is : c.loop-i.made ≡ c.args.graph.now.basis = c.loop-i.invariant ∙ (take_all c.loop-i.i rows end ∙ c.rows-rows.ensures.basis) in
    subst (λ (rs : List (List ℕ)). All (IsPair c.args.a.now) rs) (sym is)
    (basis_pairs c.args.a.now (subst IsPrime (c.get-p.ensures.value ∙ c.prime.ensures) c.get-p.ensures.prime) c.one-one.ensures.laws c.args.graph.now c.requires c.rows-rows.ensures.reduced.1.rows)
