use Rattle.std.proofs.Common.{subst, sym}
use Rattle.finite_algebra.specs.Projections.{IsProjection}
use Rattle.frobenius_split.proofs.local.local_point.Goals as goal

pub returns-clause-values : goal.returns-clause-values
returns-clause-values c =
    subst (λ s. IsProjection c.args.a.now s c.point_of-point.result.degree c.in_ok-values.values) (sym c.point_of-point.ensures.space)
    (c.in_ok-values.ensures c.point_of-point.result.degree c.point_of-point.ensures.degree)
