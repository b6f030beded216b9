use Rattle.std.proofs.Common.{◌∙◌, ◌++◌, ℕ, List, take, drop, sym, subst, ap₂}
use Rattle.prime_field.specs.Primes.{IsPrime}
use Rattle.row_space.specs.Subspace.{product}
use Rattle.frobenius_map.specs.Powers.{IsPair}
use Rattle.frobenius_map.proofs.GraphLaws.{next_pair}
use Rattle.frobenius_map.proofs.graph.next_pair.Goals as goal

pub returns : goal.returns
returns c =
    let row = c.args.row.now in
    let is = ap₂ (λ q m. product q m (take m c.args.row.now) c.args.left.now ++ product q m (drop m c.args.row.now) c.args.right.now) c.prime-2.ensures c.dimension.ensures in
    subst (λ (r : List ℕ). IsPair c.args.a.now r) (sym (c.in_ok-made.ensures ∙ is))
    (next_pair c.args.a.now (subst IsPrime (c.get-p.ensures.value ∙ c.prime.ensures) c.get-p.ensures.prime) c.one-one.ensures.laws row c.args.left.now c.args.right.now c.requires.row c.requires.matrices)
