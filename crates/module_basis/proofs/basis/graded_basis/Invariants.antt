use Rattle.std.proofs.Common.{◌≡◌, ◌≤◌}
use Rattle.std.specs.List.{All}
use Rattle.graded_modules.specs.Vector.{degree_at, lead_mono}
use Rattle.polys.specs.Poly.{terms_of}
use Rattle.module_basis.specs.Growing.{MayGrow}
use Rattle.module_basis.proofs.basis.graded_basis.Given as goal

abbrev pub invariant-loop-e : goal.invariant-loop-e
invariant-loop-e l = record {
  ready : MayGrow l.gens l.e l.growing;
  cap : l.growing.cap ≡ l.cap;
  low : All (λ b. degree_at l.gens.shift (lead_mono b) ≤ l.cap) (terms_of l.growing.basis.items);
}
