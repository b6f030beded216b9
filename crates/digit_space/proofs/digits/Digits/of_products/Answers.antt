use Rattle.digit_space.specs.Model.{DigitData}
use Rattle.digit_space.proofs.Kept.{listed_kept}
use Rattle.digit_space.proofs.digits.Digits.of_products.Goals as goal

pub invariant_of-result : goal.invariant_of-result
invariant_of-result c =
    let g : DigitData = record { curve = c.args.curve.value; basis = c.args.basis; depth = c.args.depth } in (
      c.requires.space,
      listed_kept g c.args.border c.into_vec.result.items c.args.products c.into_vec.ensures c.requires.products,
      c.requires.outer,
    )
