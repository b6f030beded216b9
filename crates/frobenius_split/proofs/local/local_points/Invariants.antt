-- The points found so far are those of the ideals that were taken and the first idempotents.
use Rattle.std.proofs.Common.{◌≡◌, length, map, take}
use Rattle.std.specs.List.{All}
use Rattle.finite_algebra.specs.Projections.{IsProjection}
use Rattle.frobenius_split.proofs.local.local_points.Given as goal

abbrev pub invariant-loop-space : goal.invariant-loop-space
invariant-loop-space l = record {
  next : (goal.iterator-loop-space).can_next l.space-iterator;
  finite : (goal.iterator-loop-space).is_finite l.space-iterator;
  spaces : map (λ local. local.point.space) l.found ≡ l.yielded;
  idempotents : map (λ local. local.idempotent) l.found ≡ take (length l.found) l.es;
  values : All (λ local. IsProjection l.a local.point.space local.point.degree local.values) l.found;
}
