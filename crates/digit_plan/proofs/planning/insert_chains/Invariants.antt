use Rattle.std.proofs.Common.{length, take}
use Rattle.std.specs.List.{Contains}
use Rattle.monomials.specs.Mono.{Monomial}
use Rattle.digit_plan.specs.Playing.{IsCovered, IsOuter}
use Rattle.digit_plan.proofs.planning.insert_chains.Given as goal

abbrev pub invariant-loop-i : goal.invariant-loop-i
invariant-loop-i l = record {
  outer : IsOuter (length l.order) l.border l.outer.items;
  kept : (w : Monomial) → Contains l.fn.outer.items w → Contains l.outer.items w;
  covered : IsCovered l.corners l.border l.outer.items (take l.i l.terms);
}
