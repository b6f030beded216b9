use Rattle.std.proofs.Common.{◌≡◌, take}
use Rattle.denominator_module.specs.Module.{first}
use Rattle.denominator_module.proofs.parts.first_terms.Given as goal

abbrev pub invariant-loop-t : goal.invariant-loop-t
invariant-loop-t l = l.terms.items ≡ first (take l.t-index l.f)
