use Rattle.std.proofs.Common.{◌≡◌, map, take}
use Rattle.std.specs.List.{All}
use Rattle.polys.specs.Poly.{IsVector}
use Rattle.module_basis.specs.Basis.{lowered_of}
use Rattle.module_basis.proofs.basis.all_lowered.Given as goal

abbrev pub invariant-loop-k : goal.invariant-loop-k
invariant-loop-k l = record {
  so_far : l.all ≡ map (lowered_of l.prime) (take l.k l.vectors);
  known : All (λ f. IsVector l.prime f.terms) l.all;
}
