use Rattle.std.proofs.Common.{◌≡◌, ◌*◌, ◌%◌, ◌<◌}
use Rattle.prime_field.specs.Primes.{IsPrime}
use Rattle.prime_field.proofs.prime.Prime.inv.Given as goal

abbrev pub invariant-loop-rest : goal.invariant-loop-rest
invariant-loop-rest l = record {
  prime : IsPrime l.p;
  factor : l.factor < l.p;
  low : 0 < l.rest;
  high : l.rest < l.p;
  is : (l.factor * l.fn.a) % l.p ≡ l.rest;
}

abbrev pub decreases-loop-rest : goal.decreases-loop-rest
decreases-loop-rest l = l.rest
