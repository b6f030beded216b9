use Rattle.std.proofs.Common.{◌≡◌, ap, rules}
use Rattle.std.specs.Ordering.{is_lt}
use Rattle.std.proofs.lemmas.Fn.{always_returns_same}
use Rattle.std.proofs.lemmas.List.MinMax.{ranks_by}
use Rattle.monomials.specs.Mono.{cmp_dp}
use Rattle.monomials.proofs.Order.{dp_total}
use Rattle.module_division.proofs.Cores.{key, lt, sorted_pairs}
use Rattle.module_division.proofs.reduction.sort_by_leads.Goals as goal

pub returns-clause-sorted : goal.returns-clause-sorted
returns-clause-sorted c =
    sorted_pairs c.sort_by.new.self.items
    (c.in_ok-sort_by.ensures.sorted lt (ranks_by dp_total key) (always_returns_same _ (λ a r. is_lt r ≡ lt a.0.now a.1.0.now) _ (λ a r f k. let h : r ≡ cmp_dp (key a.0.now) (key a.1.0.now) = search rules in (ap is_lt h, search rules))))
