use Rattle.std.proofs.Common.{◌≡◌, take, map}
use Rattle.polys.proofs.Products.{times_residue}
use Rattle.polys.proofs.terms.multiple.Given as goal

abbrev pub invariant-loop-t : goal.invariant-loop-t
invariant-loop-t l = l.out.items ≡ map (times_residue l.modulus l.c) (take l.t-index l.a)
