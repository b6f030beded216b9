use Rattle.std.proofs.Common.{◌≡◌, ◌++◌, take}
use Rattle.std.specs.List.{flat_map}
use Rattle.norm_text.specs.Lines.{own_numerator_line}
use Rattle.norm_text.proofs.printing.print_numerators.Given as goal

abbrev pub invariant-loop-poly : goal.invariant-loop-poly
invariant-loop-poly l = l.out ≡ l.fn.out ++ flat_map (own_numerator_line l.letters) (take l.poly-index l.polys)
