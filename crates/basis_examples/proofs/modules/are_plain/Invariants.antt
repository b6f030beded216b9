use Rattle.std.proofs.Common.{take}
use Rattle.std.specs.List.{All}
use Rattle.polys.specs.Poly.{IsPlain}
use Rattle.polys.specs.Terms.{EachMono}
use Rattle.basis_examples.proofs.modules.are_plain.Given as goal

abbrev pub invariant-loop-k : goal.invariant-loop-k
invariant-loop-k l = All (λ f. EachMono IsPlain f.terms) (take l.k l.fs)
