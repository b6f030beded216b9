use Rattle.point_quotient.specs.Algebras.{AreFirstProducts}
use Rattle.point_quotient.proofs.base.base_algebra.Given as goal

abbrev pub invariant-loop-i : goal.invariant-loop-i
invariant-loop-i l = AreFirstProducts l.digits l.i l.products
