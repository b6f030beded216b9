use Rattle.denominator_module.proofs.Taken.{first_vector}
use Rattle.denominator_module.proofs.parts.first_part.Goals as goal

pub of_terms-requires : goal.of_terms-requires
of_terms-requires c =
    first_vector c.args.f.now.prime c.prime.result c.args.f.now.terms c.in_ok-terms.terms.items c.terms.result.now c.terms.ensures.known c.prime.ensures c.terms.ensures.value c.in_ok-terms.ensures
