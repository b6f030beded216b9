use Rattle.std.proofs.Common.{ℕ, ◌<◌, get_or}
use Rattle.monomials.specs.Mono.{Divides}
use Rattle.polys.specs.Poly.{Polynomial}
use Rattle.graded_modules.specs.Vector.{lead_mono}
use Rattle.standard_monomials.proofs.finding.is_lead_multiple.Given as goal

abbrev pub invariant-loop-f : goal.invariant-loop-f
invariant-loop-f l = (k : ℕ) (d : Polynomial) → k < l.f-index → Divides (lead_mono (get_or l.basis k d).terms) l.m → ⊥
