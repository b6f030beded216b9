use Rattle.std.proofs.Common.{◌≡◌, take}
use Rattle.denominator_module.specs.Module.{second}
use Rattle.denominator_module.proofs.parts.second_terms.Given as goal

abbrev pub invariant-loop-t : goal.invariant-loop-t
invariant-loop-t l = l.terms.items ≡ second (take l.t-index l.f)
