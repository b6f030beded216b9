use Rattle.std.proofs.Common.{◌≡◌, length, take}
use Rattle.std.specs.List.{All}
use Rattle.polys.specs.Poly.{terms_of}
use Rattle.jacobian_pick.specs.Candidates.{AreKept}
use Rattle.jacobian_pick.proofs.membership.kept.Given as goal

abbrev pub invariant-loop-f : goal.invariant-loop-f
invariant-loop-f l = record {
  primes : All (λ m. m.prime ≡ l.problem.prime) l.kept;
  kept : AreKept l.problem.prime (length l.problem.letters) (terms_of l.problem.generators) (terms_of (take l.f-index l.polynomials)) (terms_of l.kept);
}
