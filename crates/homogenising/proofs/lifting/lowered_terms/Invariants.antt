use Rattle.std.proofs.Common.{◌≡◌, take}
use Rattle.homogenising.specs.Homogenised.{without_hom}
use Rattle.homogenising.proofs.lifting.lowered_terms.Given as goal

abbrev pub invariant-loop-t : goal.invariant-loop-t
invariant-loop-t l = l.terms.items ≡ without_hom (take l.t-index l.f)
