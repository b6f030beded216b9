use Rattle.std.proofs.Common.{◌≡◌, ◌++◌, take}
use Rattle.std.specs.List.{flat_map}
use Rattle.norm_text.specs.Lines.{own_point_line}
use Rattle.norm_text.proofs.printing.print_points.Given as goal

abbrev pub invariant-loop-line : goal.invariant-loop-line
invariant-loop-line l = l.out ≡ l.fn.out ++ flat_map (own_point_line l.letters) (take l.line-index l.points)
