-- The points found so far are those of the ideals that were taken.
use Rattle.std.proofs.Common.{◌≡◌, ◌+◌, length, map}
use Rattle.std.specs.List.{All}
use Rattle.frobenius_split.proofs.splitting.points.Given as goal

abbrev pub invariant-loop-space : goal.invariant-loop-space
invariant-loop-space l = record {
  next : (goal.iterator-loop-space).can_next l.space-iterator;
  finite : (goal.iterator-loop-space).is_finite l.space-iterator;
  spaces : map (λ point. point.space) l.found ≡ l.yielded;
  degrees : All (λ point. point.degree + length point.space.basis ≡ l.a.dimension) l.found;
}
