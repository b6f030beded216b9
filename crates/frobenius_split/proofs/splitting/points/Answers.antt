-- Each ideal that is taken is maximal, and the point that is made of it is that of the ideal.
use Rattle.std.proofs.Common.{◌≡◌, ◌∙◌, ◌+◌, ◌++◌, ◌∷◌, [], length, map, sym, ap, subst}
use Rattle.std.specs.List.{All}
use Rattle.std.proofs.lemmas.List.{map-append, get_or_default}
use Rattle.std.proofs.lemmas.List.Elements.{All-push}
use Rattle.std.proofs.lemmas.Iterator.Consumers.{YieldsList-turn}
use Rattle.std.proofs.lemmas.Iterator.Adapters.{YieldsList-from_vec}
use Rattle.frobenius_split.specs.Points.{IsMaximalIdeal, AreMaximalIdeals}
use Rattle.frobenius_split.specs.declared.splitting.SplitPoint.{SplitPoint}
use Rattle.frobenius_split.proofs.splitting.points.Goals as goal

pub point_of-requires : goal.point_of-requires
point_of-requires c =
    let all = c.into_vec-space-items.result.items in
    let turn = YieldsList-turn (YieldsList-from_vec all (cc) (cc)) c.loop-space.yielded c.loop-space.space-iterator c.loop-space.yielded_by c.next.result c.next.new.self c.in-Some.space c.in-Some.is c.next.ensures.steps in
    let ideals = subst (AreMaximalIdeals c.args.a.now) (sym c.into_vec-space-items.ensures) c.in_ok-ideals.ensures.ideals in
    subst (IsMaximalIdeal c.args.a.now) (sym (turn.1 ∙ get_or_default all (length c.loop-space.yielded) c.in-Some.space (record { prime = 0; width = 0; basis = [] }) turn.0))
    (ideals.each (length c.loop-space.yielded) turn.0)

pub loop-space-preserved : goal.loop-space-preserved
loop-space-preserved c =
    let space_of = λ (point : SplitPoint). point.space in
    let has_degree = λ (point : SplitPoint). point.degree + length point.space.basis ≡ c.args.a.now.dimension in
    record {
      next = tt;
      finite = tt;
      spaces = ap (map space_of) c.in_ok-push.ensures.ok ∙ map-append space_of c.loop-space.found (c.point_of.result ∷ [])
          ∙ ap (λ xs. xs ++ c.point_of.result.space ∷ []) c.loop-space.invariant.spaces ∙ ap (λ s. c.loop-space.yielded ++ s ∷ []) c.point_of.ensures.space;
      degrees = subst (All has_degree) (sym c.in_ok-push.ensures.ok) (All-push has_degree c.loop-space.found c.point_of.result c.loop-space.invariant.degrees
          (ap (λ s. c.point_of.result.degree + length s.basis) c.point_of.ensures.space ∙ c.point_of.ensures.degree));
    }
