use Rattle.lift_colon.proofs.Vectors.{low_degree}
use Rattle.lift_colon.proofs.lifted.Lifted.over_basis.Goals as goal

pub denominator_basis-requires-clause-room : goal.denominator_basis-requires-clause-room
denominator_basis-requires-clause-room c = low_degree c.args.d.now.prime c.args.d.now.terms c.terms-terms.ensures.known
