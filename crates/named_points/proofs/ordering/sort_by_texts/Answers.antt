use Rattle.std.proofs.Common.{◌≡◌, ap, rules}
use Rattle.std.specs.Ordering.{is_lt, nat_cmp}
use Rattle.std.specs.Cmp.Lexicographic.{slice_cmp}
use Rattle.std.proofs.lemmas.Cmp.{nat_list_cmp_total}
use Rattle.std.proofs.lemmas.Fn.{always_returns_same}
use Rattle.std.proofs.lemmas.List.MinMax.{ranks_by}
use Rattle.named_points.proofs.Sorting.{key, lt, rising_from_sorted}
use Rattle.named_points.proofs.ordering.sort_by_texts.Goals as goal

pub returns-clause-rising : goal.returns-clause-rising
returns-clause-rising c =
    rising_from_sorted c.args.points.now.items c.sort_by.new.self.items c.sort_by.ensures.permutation c.requires.distinct
    (c.in_ok-sort_by.ensures.sorted lt (ranks_by nat_list_cmp_total key)
    (always_returns_same _ (λ a r. is_lt r ≡ lt a.0.now a.1.0.now) _ (λ a r f k. let h : r ≡ slice_cmp nat_cmp (key a.0.now) (key a.1.0.now) = search rules in (ap is_lt h, search rules))))
