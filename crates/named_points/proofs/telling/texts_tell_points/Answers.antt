use Rattle.std.proofs.Common.{◌≡◌, subst, arith}
use Rattle.prime_field.specs.Primes.{IsCharacteristic}
use Rattle.problem.specs.Letters.{AreLetters}
use Rattle.polys.specs.Curve.{data_of}
use Rattle.named_points.proofs.Listed.{AreTold, distinct_texts, named_list}
use Rattle.named_points.proofs.telling.texts_tell_points.Goals as goal
use Rattle.named_points.proofs.telling.texts_tell_points.Goals.{After-know_points}

told : (c : After-know_points) → AreTold c.args.problem.now (data_of c.args.digits.now.curve) c.args.points.now
told c =
    let range = c.get-p.ensures.range in
    let value : c.get-p.result ≡ c.args.problem.now.prime = c.get-p.ensures.value in
    record {
      prime = c.requires.prime;
      variables = c.requires.variables;
      known = subst IsCharacteristic value c.get-p.ensures.known;
      few = omega arith;
      letters = subst AreLetters c.as_slice-letters.ensures.value c.as_slice-letters.ensures.known;
      tells = c.texts_tell_polynomials.ensures;
      named = c.requires.named;
      low = c.know_points.ensures;
    }

pub returns-clause-distinct : goal.returns-clause-distinct
returns-clause-distinct c = distinct_texts c.args.problem.now (data_of c.args.digits.now.curve) c.args.points.now (told c)

pub returns-clause-listed : goal.returns-clause-listed
returns-clause-listed c = named_list c.args.problem.now (data_of c.args.digits.now.curve) c.args.points.now (told c)
