-- Each space that is taken is an ideal of A modulo d, and in the end the points are those of the whole splitting.
use Rattle.std.proofs.Common.{◌∙◌, ◌<◌, ◌++◌, ◌∷◌, [], length, map, sym, ap, subst, arith}
use Rattle.std.specs.List.{AllZip}
use Rattle.std.proofs.lemmas.List.{get_or-map, length-map, map-id}
use Rattle.std.proofs.lemmas.Iterator.Consumers.{YieldsList-end, YieldsList-turn}
use Rattle.std.proofs.lemmas.Iterator.Adapters.{YieldsList-from_vec}
use Rattle.row_space.specs.Subspace.{Subspace}
use Rattle.frobenius_split.specs.declared.local.LocalPoint.{LocalPoint}
use Rattle.frobenius_split.specs.Points.{AreMaximalIdeals, IsMaximalIdeal}
use Rattle.split_points.specs.Splitting.{HasIdeal}
use Rattle.split_points.proofs.Points.{AreSplitPoints, ideal_in, split_points_law, zip_push}
use Rattle.split_points.proofs.splitting.points_of.Goals as goal
use Rattle.split_points.proofs.splitting.points_of.Goals.{After-drop-algebra-inside-3}

abbrev space_of : LocalPoint → Subspace
space_of local = local.point.space

pub loop-local-init : goal.loop-local-init
loop-local-init c = record { next = tt; finite = tt; made = subst (AllZip (HasIdeal c.args.digits.now) []) (sym c.new-found.ensures) tt }

pub curve_point-requires : goal.curve_point-requires
curve_point-requires c =
    let a = c.in_ok-algebra.algebra in
    let all = c.into_vec-local-items.result.items in
    let gives = c.into_iter-local-iterator.ensures.into_iter_gives in
    let n = length c.loop-local.yielded in
    let turn = YieldsList-turn (YieldsList-from_vec all gives.0 (gives.1 ∙ c.into_vec-local-items.result.ok.0)) c.loop-local.yielded c.loop-local.local-iterator c.loop-local.yielded_by c.next.result c.next.new.self c.in-Some.local c.in-Some.is c.next.ensures.steps in
    let ideals = subst (λ xs. AreMaximalIdeals a (map space_of xs)) (sym c.into_vec-local-items.ensures) c.in_ok-locals.ensures.ideals in
    let inside : length c.loop-local.yielded < length (map space_of all) = let e = length-map all space_of in let t = turn.0 in omega arith in
    let maximal : IsMaximalIdeal a c.in-Some.local.point.space =
    subst (IsMaximalIdeal a) (get_or-map space_of all n c.in-Some.local (record { prime = 0; width = 0; basis = [] }) turn.0 ∙ ap space_of (sym turn.1)) (ideals.each n inside) in
    ideal_in c.args.digits.now a c.requires c.basis-basis.ensures.known c.in_ok-algebra.ensures c.in-Some.local.point.space maximal.ideal

pub loop-local-preserved : goal.loop-local-preserved
loop-local-preserved c =
    let here = HasIdeal c.args.digits.now in
    record {
      next = tt;
      finite = tt;
      made = subst (AllZip here (c.loop-local.yielded ++ c.in-Some.local ∷ [])) (sym c.in_ok-push.ensures.ok)
          (zip_push here c.loop-local.yielded c.loop-local.found c.in-Some.local c.in_ok-made.made c.loop-local.invariant.made c.in_ok-made.ensures);
    }

ended : (c : After-drop-algebra-inside-3) → AreSplitPoints c.args.digits.now c.loop-local.found
ended c =
    let g = c.args.digits.now in
    let all = c.into_vec-local-items.result.items in
    let gives = c.into_iter-local-iterator.ensures.into_iter_gives in
    let end = YieldsList-end (YieldsList-from_vec all gives.0 (gives.1 ∙ c.into_vec-local-items.result.ok.0)) c.loop-local.yielded c.loop-local.local-iterator c.loop-local.yielded_by c.next.result c.next.new.self c.in-None.is c.next.ensures.steps in
    let whole = sym (map-id c.loop-local.yielded) ∙ (end.0 ∙ c.into_vec-local-items.ensures) in
    split_points_law c.ideals_are_generated_by_digits.ensures g c.in_ok-algebra.algebra c.in_ok-locals.locals c.loop-local.found c.requires (record {
      space = c.basis-basis.ensures.known;
      algebra = c.one-one.ensures.laws;
      base = c.in_ok-algebra.ensures;
      ideals = c.in_ok-locals.ensures.ideals;
      idempotents = c.in_ok-locals.ensures.idempotents;
      values = c.in_ok-locals.ensures.values;
      made = subst (λ xs. AllZip (HasIdeal g) xs c.loop-local.found) whole c.loop-local.invariant.made;
    })

pub returns-clause-each : goal.returns-clause-each
returns-clause-each c = (ended c).each

pub returns-clause-exact : goal.returns-clause-exact
returns-clause-exact c = (ended c).exact

pub returns-clause-idempotents : goal.returns-clause-idempotents
returns-clause-idempotents c = (ended c).idempotents

pub returns-clause-values : goal.returns-clause-values
returns-clause-values c = (ended c).values
