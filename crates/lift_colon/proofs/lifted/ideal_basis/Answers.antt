use Rattle.std.proofs.Common.{subst}
use Rattle.prime_field.specs.Primes.{IsPrime}
use Rattle.polys.specs.Poly.{terms_of}
use Rattle.lift_colon.proofs.Bases.{plain_vectors, ideal_basis}
use Rattle.lift_colon.proofs.lifted.ideal_basis.Goals as goal

pub dehomogenised-requires : goal.dehomogenised-requires
dehomogenised-requires c =
    record {
      plain = plain_vectors c.args.prime c.args.variables (subst IsPrime c.get-prime.ensures.value c.get-prime.ensures.prime) c.requires.six_variables c.args.ideal.now c.requires.ideal c.in_ok-gens.gens c.in_ok-graded_basis.field-0
          c.in_ok-gens.ensures.ring c.in_ok-gens.ensures.vectors c.in_ok-graded_basis.ensures.same_ring c.in_ok-graded_basis.ensures.reduced.reduced c.in_ok-graded_basis.ensures.one_module c.in_ok-gens.ensures.plain;
    }

pub returns-clause-basis : goal.returns-clause-basis
returns-clause-basis c =
    ideal_basis c.args.prime c.args.variables (subst IsPrime c.get-prime.ensures.value c.get-prime.ensures.prime) c.requires.six_variables c.args.ideal.now c.requires.ideal c.in_ok-gens.gens c.in_ok-graded_basis.field-0
    c.in_ok-gens.ensures.ring c.in_ok-gens.ensures.vectors c.in_ok-graded_basis.ensures.same_ring c.in_ok-graded_basis.ensures.reduced.reduced c.in_ok-graded_basis.ensures.one_module (terms_of c.in_ok-dehomogenised.field-0) c.in_ok-dehomogenised.ensures.basis
