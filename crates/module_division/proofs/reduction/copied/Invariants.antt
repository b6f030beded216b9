use Rattle.std.proofs.Common.{◌≡◌, take}
use Rattle.module_division.proofs.reduction.copied.Given as goal

abbrev pub invariant-loop-f : goal.invariant-loop-f
invariant-loop-f l = l.copy.items ≡ take l.f-index l.vectors
