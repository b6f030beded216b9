use Rattle.std.proofs.Common.{◌∙◌, ◌+◌, ◌++◌, ℕ, List, replicate, sym, subst, ap, ap₂, arith}
use Rattle.prime_field.specs.Primes.{IsPrime}
use Rattle.row_space.specs.Subspace.{FitsIn, DifferIn}
use Rattle.finite_algebra.specs.Elements.{unit_row}
use Rattle.row_space.proofs.Gathering.{fits_moved}
use Rattle.frobenius_map.proofs.GraphLaws.{start_fits, told_power}
use Rattle.frobenius_map.proofs.graph.told.Goals as goal
use Rattle.row_space.proofs.Written.{written_whole}

pub reduce-requires : goal.reduce-requires
reduce-requires c =
    let S = c.args.a.now in
    let prime = subst IsPrime (c.get-p.ensures.value ∙ c.prime.ensures) c.get-p.ensures.prime in
    let laws = c.one-one.ensures.laws in
    let is = c.as_mut_slice.ensures.value ∙ c.in_ok-row.ensures ∙ ap₂ ◌++◌ (c.as_slice.ensures.value ∙ c.in_ok-unit.ensures ∙ ap (λ n. unit_row n c.args.k) c.dimension.ensures) (c.as_slice-2.ensures.value ∙ c.in_ok-zero.ensures ∙ ap (λ n. replicate n 0) c.dimension-2.ensures) in
    subst (λ (r : List ℕ). FitsIn c.args.graph.now r) (sym is) (start_fits S prime laws c.args.graph.now c.requires.graph prime.0 c.args.k)

pub opposite_right-requires : goal.opposite_right-requires
opposite_right-requires c =
    let out = c.reduce.new.row in
    let is = c.as_slice-3.ensures.value ∙ written_whole c.in_ok-row.row.len out c.in_ok-row.row.items (omega (arith, c.as_mut_slice.ensures.len, c.reduce.auto.row)) in
    fits_moved c.args.graph.now.prime c.prime-2.result c.args.graph.now.width (c.dimension-3.result + c.dimension-3.result) out c.as_slice-3.result.now
    (c.prime-2.ensures ∙ sym c.requires.graph.prime) (ap (λ n. n + n) c.dimension-3.ensures ∙ sym c.requires.graph.width) is c.reduce.ensures.fits

pub returns : goal.returns
returns c =
    let S = c.args.a.now in
    let G = c.args.graph.now in
    let prime = subst IsPrime (c.get-p.ensures.value ∙ c.prime.ensures) c.get-p.ensures.prime in
    let laws = c.one-one.ensures.laws in
    let out = c.reduce.new.row in
    let started = c.as_mut_slice.ensures.value ∙ c.in_ok-row.ensures ∙ ap₂ ◌++◌ (c.as_slice.ensures.value ∙ c.in_ok-unit.ensures ∙ ap (λ n. unit_row n c.args.k) c.dimension.ensures) (c.as_slice-2.ensures.value ∙ c.in_ok-zero.ensures ∙ ap (λ n. replicate n 0) c.dimension-2.ensures) in
    let is = c.as_slice-3.ensures.value ∙ written_whole c.in_ok-row.row.len out c.in_ok-row.row.items (omega (arith, c.as_mut_slice.ensures.len, c.reduce.auto.row)) in
    told_power S prime laws G c.requires.graph c.args.k c.requires.k out c.reduce.ensures.fits (subst (λ (r : List ℕ). DifferIn G r out) started c.reduce.ensures.same_class)
    c.prime-2.result c.dimension-3.result c.as_slice-3.result.now c.prime-2.ensures c.dimension-3.ensures is c.in_ok-made.made c.in_ok-made.ensures
