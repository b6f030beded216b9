-- The points so far.
use Rattle.std.proofs.Common.{◌≡◌, map}
use Rattle.named_points.proofs.ordering.without_texts.Given as goal

abbrev pub invariant-loop-a : goal.invariant-loop-a
invariant-loop-a l = record {
  next : (goal.iterator-loop-a).can_next l.a-iterator;
  finite : (goal.iterator-loop-a).is_finite l.a-iterator;
  made : l.made ≡ map (λ a. a.point) l.yielded;
}
