-- The named ones of the points so far.
use Rattle.named_points.specs.Deciding.{AreChosen}
use Rattle.named_points.proofs.naming.chosen.Given as goal

abbrev pub invariant-loop-local : goal.invariant-loop-local
invariant-loop-local l = record {
  next : (goal.iterator-loop-local).can_next l.local-iterator;
  finite : (goal.iterator-loop-local).is_finite l.local-iterator;
  made : AreChosen l.digits l.statements l.yielded l.points;
}
