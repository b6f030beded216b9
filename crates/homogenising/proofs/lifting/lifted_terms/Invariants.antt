use Rattle.std.proofs.Common.{◌≡◌, take}
use Rattle.homogenising.specs.Homogenised.{homogenised_to}
use Rattle.homogenising.proofs.lifting.lifted_terms.Given as goal

abbrev pub invariant-loop-t : goal.invariant-loop-t
invariant-loop-t l = l.terms.items ≡ homogenised_to l.degree (take l.t-index l.f)
