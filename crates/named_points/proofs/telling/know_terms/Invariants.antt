-- The polynomials so far.
use Rattle.std.proofs.Common.{take}
use Rattle.std.specs.List.{All}
use Rattle.polys.specs.Poly.{IsVector}
use Rattle.named_points.proofs.telling.know_terms.Given as goal

abbrev pub invariant-loop-f : goal.invariant-loop-f
invariant-loop-f l = All (λ f. IsVector f.prime f.terms) (take l.f-index l.polys)
