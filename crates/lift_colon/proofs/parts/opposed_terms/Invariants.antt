use Rattle.std.proofs.Common.{◌≡◌, map, take}
use Rattle.lift_colon.specs.Parts.{opposed}
use Rattle.lift_colon.proofs.parts.opposed_terms.Given as goal

abbrev pub invariant-loop-t : goal.invariant-loop-t
invariant-loop-t l = l.terms.items ≡ map (opposed l.p) (take l.t-index l.v)
