-- The points so far have their texts.
use Rattle.std.proofs.Common.{◌≡◌, map}
use Rattle.named_points.specs.Ordering.{with_own_text}
use Rattle.named_points.proofs.ordering.with_texts.Given as goal

abbrev pub invariant-loop-point : goal.invariant-loop-point
invariant-loop-point l = record {
  next : (goal.iterator-loop-point).can_next l.point-iterator;
  finite : (goal.iterator-loop-point).is_finite l.point-iterator;
  made : l.made.items ≡ map (with_own_text l.letters) l.yielded;
}
