use Rattle.std.proofs.Common.{◌%◌, ◌≢◌, arith, rules}
use Rattle.prime_field.proofs.Inverse.{inverse-step}
use Rattle.prime_field.proofs.prime.Prime.inv.Goals as goal

pub loop-rest-init : goal.loop-rest-init
loop-rest-init c = record {
  prime = c.get-p.ensures.prime;
  factor = omega arith;
  low = omega arith;
  high = omega arith;
  is = search rules;
}

pub loop-rest-preserved : goal.loop-rest-preserved
loop-rest-preserved c =
    let rest_ne : c.get-p.result % c.loop-rest.rest ≢ 0 = c.loop-rest.invariant.prime.1 c.loop-rest.rest (omega arith) (omega arith) in
    record {
      prime = c.loop-rest.invariant.prime;
      factor = omega arith;
      low = omega arith;
      high = omega arith;
      is = inverse-step c.get-p.result c.args.a c.loop-rest.factor c.loop-rest.rest (omega arith) (omega arith) c.loop-rest.invariant.is;
    }
