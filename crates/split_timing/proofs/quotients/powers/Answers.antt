use Rattle.std.proofs.Common.{◌≡◌, ◌∙◌, ◌<◌, ◌≤◌, ◌+◌, ◌-◌, [], length, get_or, sym, ap, subst, arith}
use Rattle.std.proofs.lemmas.List.{get_or_default}
use Rattle.row_space.specs.Echelon.{IsRow}
use Rattle.row_space.specs.Subspace.{product}
use Rattle.finite_algebra.proofs.Summing.{combination_fits}
use Rattle.split_timing.specs.Powers.{ArePowersOfX}
use Rattle.split_timing.proofs.Laws.{powers_more}
use Rattle.split_timing.proofs.quotients.powers.Goals as goal

pub loop-k-preserved : goal.loop-k-preserved
loop-k-preserved c =
    let p = c.args.prime in
    let n = c.args.n in
    let matrix = c.args.matrix.now in
    let powers = c.loop-k.powers in
    let k = c.loop-k.k in
    let positive : 0 < c.args.prime = omega (arith, c.get-p.ensures.range, c.get-p.ensures.value) in
    let some : 0 < c.args.n = c.requires.n.0 in
    let far : c.args.n ≤ c.loop-k.k = omega arith in
    let before : c.loop-k.k - 1 < length c.loop-k.powers = omega (arith, c.loop-k.invariant.count, some, far) in
    let row_is : c.as_slice-in-loop-k.result.now ≡ get_or c.loop-k.powers (c.loop-k.k - 1) [] =
    c.as_slice-in-loop-k.ensures ∙ (c.index-as_slice-k.is ∙ (ap (λ xs. get_or xs (k - 1) c.index-as_slice-k.result) c.as_slice.ensures ∙ get_or_default powers (k - 1) c.index-as_slice-k.result [] before)) in
    let is = c.in_ok-next.ensures ∙ ap (λ v. product p n v matrix) row_is in
    subst (ArePowersOfX p n matrix (k + 1)) (sym c.in_ok-push.ensures.ok)
    (powers_more p n matrix k powers c.in_ok-next.next some far (subst (IsRow p n) (sym c.in_ok-next.ensures) (combination_fits p n positive _ matrix)) is c.loop-k.invariant)
