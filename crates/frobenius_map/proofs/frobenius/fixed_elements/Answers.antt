use Rattle.std.proofs.Common.{◌≡◌, ◌∙◌, length, subst, sym, ap}
use Rattle.row_matrices.specs.Rows.{AreLess}
use Rattle.prime_field.specs.Primes.{IsPrime}
use Rattle.frobenius_map.proofs.Stages.{fixed_space, kernel_members}
use Rattle.frobenius_map.proofs.frobenius.fixed_elements.Goals as goal

pub returns : goal.returns
returns c =
    let S = c.args.a.now in
    let less = c.in_ok-less.less in
    let s = c.in_ok-fixed.fixed in
    let is_less = subst (λ q. AreLess q 1 c.args.matrix.now less) c.prime-2.ensures c.in_ok-less.ensures in
    let long : length c.as_slice.result.now ≡ length c.in_ok-less.less = ap length c.as_slice.ensures in
    let shape = c.in_ok-fixed.ensures.shape in
    fixed_space S (subst IsPrime (c.get-p.ensures.value ∙ c.prime.ensures) c.get-p.ensures.prime) c.one-one.ensures.laws c.args.matrix.now less c.requires is_less s
    (shape.0 ∙ c.prime-3.ensures, shape.1 ∙ long)
    (λ v e. kernel_members s v c.prime-3.result S.prime c.dimension.result S.dimension c.as_slice.result.now less c.prime-3.ensures c.dimension.ensures c.as_slice.ensures (c.in_ok-fixed.ensures.members v (e ∙ sym long)))
    c.rows-rows.ensures.reduced.1.rows
