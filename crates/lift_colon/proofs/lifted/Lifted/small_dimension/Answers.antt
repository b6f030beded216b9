use Rattle.std.proofs.Common.{subst}
use Rattle.lift_colon.specs.Lifted.{IsDimension}
use Rattle.lift_colon.proofs.lifted.Lifted.small_dimension.Goals as goal

pub returns : goal.returns
returns c = subst (λ x. IsDimension x 256 c.self.inside.dimension) c.self.view_is c.self.invariant.2
