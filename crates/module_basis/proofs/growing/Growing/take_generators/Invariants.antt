use Rattle.std.proofs.Common.{◌≡◌, ℕ, ◌<◌, get_or}
use Rattle.polys.specs.Poly.{Polynomial, terms_of}
use Rattle.graded_modules.specs.Vector.{degree_at, lead_mono}
use Rattle.graded_modules.specs.Module.{InModule}
use Rattle.module_basis.specs.Growing.{IsGrowing, GainsVector}
use Rattle.module_basis.proofs.growing.Growing.take_generators.Given as goal

abbrev pub invariant-loop-k : goal.invariant-loop-k
invariant-loop-k l = record {
  growing : IsGrowing l.gens l.e l.self;
  gains : GainsVector l.gens l.e l.fn.self l.self;
  members : (j : ℕ) (d : Polynomial) → j < l.k → degree_at l.gens.shift (lead_mono (get_or l.vectors j d).terms) ≡ l.e
      → InModule l.gens.prime l.gens.variables (terms_of l.self.basis.items) (get_or l.vectors j d).terms;
}
