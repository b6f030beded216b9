use Rattle.std.proofs.Common.{◌≢◌, map, subst, sym}
use Rattle.std.specs.List.{AllPairs}
use Rattle.std.specs.List.Sorted.{IsPermutation}
use Rattle.std.proofs.lemmas.List.Sorted.{IsPermutation-map}
use Rattle.named_points.specs.Ordering.{AreInTextOrder, with_own_text}
use Rattle.named_points.proofs.Pairs.{pairs_map}
use Rattle.named_points.proofs.Sorting.{own_texts, points_alone, points_rise}
use Rattle.named_points.proofs.ordering.ordered.Goals as goal

pub sort_by_texts-requires : goal.sort_by_texts-requires
sort_by_texts-requires c = record {
  distinct = subst (AllPairs (λ a b. a.text ≢ b.text)) (sym c.in_ok-sorted.ensures)
      (pairs_map (λ a b. a.text ≢ b.text) (with_own_text c.args.letters.now) (λ a. a.point) c.args.points c.requires.distinct);
}

pub returns-clause-same : goal.returns-clause-same
returns-clause-same c =
    let ts = c.sort_by_texts.new.points.items in
    subst (IsPermutation c.args.points) (sym c.in_ok-made.ensures)
    (subst (λ ps. IsPermutation ps (map (λ a. a.point) ts)) (points_alone c.args.letters.now c.args.points)
    (IsPermutation-map (λ a. a.point) (map (with_own_text c.args.letters.now) c.args.points) ts
    (subst (λ xs. IsPermutation xs ts) c.in_ok-sorted.ensures c.in_ok-sort_by_texts.ensures.same)))

pub returns-clause-rising : goal.returns-clause-rising
returns-clause-rising c =
    let ts = c.sort_by_texts.new.points.items in
    let letters = c.args.letters.now in
    subst (AreInTextOrder letters) (sym c.in_ok-made.ensures)
    (points_rise letters ts (own_texts letters c.args.points ts (subst (λ xs. IsPermutation xs ts) c.in_ok-sorted.ensures c.in_ok-sort_by_texts.ensures.same)) c.in_ok-sort_by_texts.ensures.rising)
