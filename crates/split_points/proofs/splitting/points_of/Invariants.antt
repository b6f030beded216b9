-- The points so far are those of the ideals that were taken.
use Rattle.std.specs.List.{AllZip}
use Rattle.split_points.specs.Splitting.{HasIdeal}
use Rattle.split_points.proofs.splitting.points_of.Given as goal

abbrev pub invariant-loop-local : goal.invariant-loop-local
invariant-loop-local l = record {
  next : (goal.iterator-loop-local).can_next l.local-iterator;
  finite : (goal.iterator-loop-local).is_finite l.local-iterator;
  made : AllZip (HasIdeal l.digits) l.yielded l.found;
}
