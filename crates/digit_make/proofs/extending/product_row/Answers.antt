use Rattle.std.proofs.Common.{get_or, ap, ◌∙◌}
use Rattle.std.proofs.lemmas.Option.{IfSome_then}
use Rattle.monomials.specs.Mono.{unit}
use Rattle.digit_make.proofs.Deeper.{product_known}
use Rattle.digit_make.proofs.extending.product_row.Goals as goal

pub returns : goal.returns
returns c =
    let g = c.args.digits.now in
    IfSome_then c.border_row.result c.border_row.ensures.some
    (λ row f. product_known g c.args.v c.in_ok-i.i c.in_ok-factor.factor c.args.m.now row.now c.basis.ensures.known
    (c.in_ok-i.ensures.some.1 ∙ ap (λ ms. get_or ms c.in_ok-i.i unit) c.basis.ensures.value) c.in_ok-factor.ensures.some f)
