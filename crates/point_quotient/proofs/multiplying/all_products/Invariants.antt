use Rattle.std.proofs.Common.{map, take}
use Rattle.polys.specs.Curve.{data_of}
use Rattle.digit_space.specs.Model.{value_of}
use Rattle.point_quotient.specs.Quotients.{AreAllProducts}
use Rattle.point_quotient.proofs.multiplying.all_products.Given as goal

abbrev pub invariant-loop-f : goal.invariant-loop-f
invariant-loop-f l = AreAllProducts (data_of l.digits.curve) l.digits.basis l.depth (map (λ f. f.terms) (take l.f-index l.factors)) (map (value_of l.digits) l.rows) l.made
