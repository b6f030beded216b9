use Rattle.std.proofs.Common.{◌≡◌, ◌<◌, ◌++◌, length, take, drop, List}
use Rattle.std.specs.List.{All}
use Rattle.polys.specs.Poly.{Polynomial, terms_of}
use Rattle.module_basis.specs.Growing.{IsGrowing, IsPair, IsSettledPairOf, AreAwaited}
use Rattle.module_basis.proofs.growing.Growing.settle_pairs.Given as goal

abbrev pub invariant-loop-k : goal.invariant-loop-k
invariant-loop-k l = record {
  growing : IsGrowing l.gens l.e l.self;
  cap : l.self.cap ≡ l.fn.self.cap;
  vectors : (more : List Polynomial) × (l.self.basis.items ≡ l.fn.self.basis.items ++ more);
  late : All (λ q. l.e < q.degree) l.self.pairs.items;
  pairs : All (IsPair l.gens.shift (terms_of l.self.basis.items)) l.due.items;
  settled : All (IsSettledPairOf l.gens (terms_of l.self.basis.items)) (take l.k l.due.items);
  awaited : AreAwaited l.gens l.fn.self.cap (terms_of l.self.basis.items) (l.self.pairs.items ++ drop l.k l.due.items) (length l.self.basis.items);
}
