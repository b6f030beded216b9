use Rattle.std.proofs.Common.{subst, sym, arith}
use Rattle.polys.specs.Curve.{HasDimModulo, data_of}
use Rattle.digit_space.specs.Model.{DigitData}
use Rattle.digit_space.proofs.Spaced.{dimension, few}
use Rattle.digit_space.proofs.digits.Digits.dimension.Goals as goal

pub overflow_cast-result : goal.overflow_cast-result
overflow_cast-result c =
    let g : DigitData = record { curve = c.self.inside.curve.value; basis = c.self.inside.basis; depth = c.self.inside.depth } in
    let f = few g c.self.invariant.0 in
    let l = c.len.ensures in
    omega arith

pub returns-clause-dimension : goal.returns-clause-dimension
returns-clause-dimension c =
    let g : DigitData = record { curve = c.self.inside.curve.value; basis = c.self.inside.basis; depth = c.self.inside.depth } in
    subst (λ z. HasDimModulo (data_of z.curve) c.len.result) c.self.view_is
    (subst (HasDimModulo (data_of g.curve)) (sym c.len.ensures) (dimension g c.self.invariant.0))
