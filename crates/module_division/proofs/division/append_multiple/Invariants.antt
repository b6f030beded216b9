use Rattle.std.proofs.Common.{◌≡◌, ◌++◌, map, take}
use Rattle.module_division.specs.Division.{term_product}
use Rattle.module_division.proofs.division.append_multiple.Given as goal

abbrev pub invariant-loop-u : goal.invariant-loop-u
invariant-loop-u l = l.out.items ≡ l.fn.out.items ++ map (term_product l.p l.t) (take l.u-index l.terms)
