use Rattle.std.proofs.Common.{◌≡◌, ◌<◌, arith, rules, subst, sym, length}
use Rattle.prime_field.specs.Primes.{IsCharacteristic}
use Rattle.comm_ring.specs.Modules.{DimensionOf}
use Rattle.row_space.specs.Subspace.{all_rows, IsIn}
use Rattle.row_space.proofs.Spaces.{space, basis_is_basis}
use Rattle.row_space.proofs.space.Space.dimension.Goals as goal

pub returns-clause-dimension : goal.returns-clause-dimension
returns-clause-dimension c =
    let s = c.self.inside in
    let known = subst IsCharacteristic c.get-prime.ensures.value c.get-prime.ensures.known in
    let positive : 0 < s.prime = omega (arith, c.get-prime.ensures.range, c.get-prime.ensures.value) in
    let whole = c.spans_have_a_dimension.ensures.basis s.prime s.width known s.rows.items s.rows.items (basis_is_basis s.prime s.width s.rows.items s.pivots.items positive c.self.invariant) in
    let long : c.len.result ≡ length s.rows.items = search rules in
    subst (λ v. DimensionOf (all_rows v) (IsIn v) c.len.result) c.self.view_is
    (subst (λ n. DimensionOf (all_rows (space s.prime s.width s.rows.items)) (IsIn (space s.prime s.width s.rows.items)) n) (sym long) whole)
