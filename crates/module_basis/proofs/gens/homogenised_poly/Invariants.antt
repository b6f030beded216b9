use Rattle.std.proofs.Common.{◌≡◌, map, take}
use Rattle.module_basis.specs.Gens.{lifted}
use Rattle.module_basis.proofs.gens.homogenised_poly.Given as goal

abbrev pub invariant-loop-t : goal.invariant-loop-t
invariant-loop-t l = l.terms.items ≡ map (lifted l.degree) (take l.t-index l.f.terms)
