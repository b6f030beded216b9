use Rattle.std.proofs.Common.{ℕ, ◌<◌}
use Rattle.polys.specs.Poly.{terms_of}
use Rattle.module_basis.specs.Growing.{AreOfOneComponent, IsAwaited, IsGrowing, GainsPairs}
use Rattle.module_basis.proofs.growing.Growing.pair_up.Given as goal

abbrev pub invariant-loop-first : goal.invariant-loop-first
invariant-loop-first l = record {
  growing : IsGrowing l.gens l.e l.self;
  gains : GainsPairs l.e l.fn.self l.self;
  awaited : (i : ℕ) → i < l.first → AreOfOneComponent (terms_of l.fn.self.basis.items) i l.last
      → IsAwaited l.gens l.fn.self.cap (terms_of l.fn.self.basis.items) l.self.pairs.items i l.last;
}
