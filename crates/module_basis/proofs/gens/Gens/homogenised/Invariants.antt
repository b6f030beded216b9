use Rattle.std.proofs.Common.{◌≡◌, map, take}
use Rattle.module_basis.specs.Gens.{homogenised_of}
use Rattle.module_basis.proofs.gens.Gens.homogenised.Given as goal

abbrev pub invariant-loop-f : goal.invariant-loop-f
invariant-loop-f l = l.vectors ≡ map (homogenised_of l.prime) (take l.f-index l.ideal)
