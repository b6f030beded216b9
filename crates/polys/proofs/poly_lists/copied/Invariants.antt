use Rattle.std.proofs.Common.{◌≡◌, take}
use Rattle.polys.proofs.poly_lists.copied.Given as goal

abbrev pub invariant-loop-f : goal.invariant-loop-f
invariant-loop-f l = l.copies ≡ take l.f-index l.list
