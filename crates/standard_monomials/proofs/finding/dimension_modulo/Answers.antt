use Rattle.std.proofs.Common.{refl}
use Rattle.standard_monomials.proofs.finding.dimension_modulo.Goals as goal

pub returns-in-Infinite-clause-infinite : goal.returns-in-Infinite-clause-infinite
returns-in-Infinite-clause-infinite c = (λ e. c.in_ok-found.ensures.infinite.0 c.in-Infinite.is, λ h. refl)
