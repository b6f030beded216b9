use Rattle.std.proofs.Common.{ℕ, ◌<◌, get_or}
use Rattle.polys.specs.Poly.{Polynomial}
use Rattle.graded_modules.specs.Vector.{lead_mono}
use Rattle.standard_monomials.specs.Standard.{IsPowerOf}
use Rattle.standard_monomials.proofs.finding.has_power_lead.Given as goal

abbrev pub invariant-loop-f : goal.invariant-loop-f
invariant-loop-f l = (k : ℕ) (d : Polynomial) → k < l.f-index → IsPowerOf l.v (lead_mono (get_or l.basis k d).terms) → ⊥
