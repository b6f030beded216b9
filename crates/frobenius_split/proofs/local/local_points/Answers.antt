-- Each ideal that is taken is maximal, and the point that is made of it is that of the ideal and its idempotent.
use Rattle.std.proofs.Common.{◌≡◌, ◌∙◌, ◌<◌, ◌+◌, ◌++◌, ◌∷◌, [], List, ℕ, length, get_or, map, take, sym, ap, ap₂, subst, arith, length-append}
use Rattle.std.specs.List.{All}
use Rattle.std.proofs.lemmas.List.{map-append, map-id, get_or_default, length-map, take_all, take_more}
use Rattle.std.proofs.lemmas.List.Elements.{All-push}
use Rattle.std.proofs.lemmas.Iterator.Consumers.{YieldsList-end, YieldsList-turn}
use Rattle.std.proofs.lemmas.Iterator.Adapters.{YieldsList-from_vec}
use Rattle.row_space.specs.Subspace.{Subspace}
use Rattle.finite_algebra.specs.Projections.{IsProjection}
use Rattle.frobenius_split.specs.Points.{IsMaximalIdeal, AreMaximalIdeals}
use Rattle.frobenius_split.specs.Idempotents.{AreIdempotentsOf}
use Rattle.frobenius_split.specs.declared.local.LocalPoint.{LocalPoint}
use Rattle.frobenius_split.proofs.local.local_points.Goals as goal

abbrev space_of : LocalPoint → Subspace
space_of local = local.point.space

abbrev idempotent_of : LocalPoint → List ℕ
idempotent_of local = local.idempotent

pub local_point-requires : goal.local_point-requires
local_point-requires c =
    let all = c.into_vec-space-items.result.items in
    let gives = c.into_iter-space-iterator.ensures.into_iter_gives in
    let turn = YieldsList-turn (YieldsList-from_vec all gives.0 (gives.1 ∙ c.into_vec-space-items.result.ok.0)) c.loop-space.yielded c.loop-space.space-iterator c.loop-space.yielded_by c.next.result c.next.new.self c.in-Some.space c.in-Some.is c.next.ensures.steps in
    let ideals = subst (AreMaximalIdeals c.args.a.now) (sym c.into_vec-space-items.ensures) c.in_ok-ideals.ensures.ideals in
    subst (IsMaximalIdeal c.args.a.now) (sym (turn.1 ∙ get_or_default all (length c.loop-space.yielded) c.in-Some.space (record { prime = 0; width = 0; basis = [] }) turn.0))
    (ideals.each (length c.loop-space.yielded) turn.0)

pub loop-space-preserved : goal.loop-space-preserved
loop-space-preserved c =
    let has_values = λ (local : LocalPoint). IsProjection c.args.a.now local.point.space local.point.degree local.values in
    let found = c.loop-space.found in
    let es = c.as_slice-es.result.now in
    let all = c.into_vec-space-items.result.items in
    let gives = c.into_iter-space-iterator.ensures.into_iter_gives in
    let turn = YieldsList-turn (YieldsList-from_vec all gives.0 (gives.1 ∙ c.into_vec-space-items.result.ok.0)) c.loop-space.yielded c.loop-space.space-iterator c.loop-space.yielded_by c.next.result c.next.new.self c.in-Some.space c.in-Some.is c.next.ensures.steps in
    let taken : length c.loop-space.yielded < length c.into_vec-space-items.result.items = turn.0 in
    let many : length c.into_vec-space-items.result.items ≡ length c.in_ok-ideals.ideals = ap length c.into_vec-space-items.ensures in
    let as_many : length c.in_ok-ideals.idempotents ≡ length c.in_ok-ideals.ideals = c.in_ok-ideals.ensures.idempotents.count in
    let slice : length c.as_slice-es.result.now ≡ length c.in_ok-ideals.idempotents = ap length c.as_slice-es.ensures in
    let so_far : length c.loop-space.found ≡ length c.loop-space.yielded = sym (length-map found space_of) ∙ ap length c.loop-space.invariant.spaces in
    let below : length c.loop-space.found < length c.as_slice-es.result.now = omega arith in
    let longer : length c.push.new.self ≡ length c.loop-space.found + 1 = ap length c.in_ok-push.ensures.ok ∙ length-append found (c.in_ok-local.local ∷ []) in
    let row_is : c.in_ok-local.local.idempotent ≡ get_or c.as_slice-es.result.now (length c.loop-space.found) [] =
    c.in_ok-local.ensures.idempotent ∙ (c.as_slice.ensures ∙ (c.index-es-len.is ∙ (ap (λ k. get_or es k c.index-es-len.result) c.len.ensures ∙ get_or_default es (length found) c.index-es-len.result [] below))) in
    record {
      next = tt;
      finite = tt;
      spaces = ap (map space_of) c.in_ok-push.ensures.ok ∙ map-append space_of found (c.in_ok-local.local ∷ [])
          ∙ ap (λ xs. xs ++ c.in_ok-local.local.point.space ∷ []) c.loop-space.invariant.spaces ∙ ap (λ s. c.loop-space.yielded ++ s ∷ []) c.in_ok-local.ensures.space;
      idempotents = ap (map idempotent_of) c.in_ok-push.ensures.ok ∙ map-append idempotent_of found (c.in_ok-local.local ∷ [])
          ∙ ap₂ (λ xs x. xs ++ x ∷ []) c.loop-space.invariant.idempotents row_is ∙ sym (take_more es (length found) [] below) ∙ ap (λ n. take n es) (sym longer);
      values = subst (All has_values) (sym c.in_ok-push.ensures.ok) (All-push has_values found c.in_ok-local.local c.loop-space.invariant.values c.in_ok-local.ensures.values);
    }

pub returns-clause-idempotents : goal.returns-clause-idempotents
returns-clause-idempotents c =
    let found = c.loop-space.found in
    let es = c.as_slice-es.result.now in
    let all = c.into_vec-space-items.result.items in
    let gives = c.into_iter-space-iterator.ensures.into_iter_gives in
    let end = YieldsList-end (YieldsList-from_vec all gives.0 (gives.1 ∙ c.into_vec-space-items.result.ok.0)) c.loop-space.yielded c.loop-space.space-iterator c.loop-space.yielded_by c.next.result c.next.new.self c.in-None.is c.next.ensures.steps in
    let taken : length c.loop-space.yielded ≡ length c.into_vec-space-items.result.items = end.1 in
    let many : length c.into_vec-space-items.result.items ≡ length c.in_ok-ideals.ideals = ap length c.into_vec-space-items.ensures in
    let as_many : length c.in_ok-ideals.idempotents ≡ length c.in_ok-ideals.ideals = c.in_ok-ideals.ensures.idempotents.count in
    let slice : length c.as_slice-es.result.now ≡ length c.in_ok-ideals.idempotents = ap length c.as_slice-es.ensures in
    let so_far : length c.loop-space.found ≡ length c.loop-space.yielded = sym (length-map found space_of) ∙ ap length c.loop-space.invariant.spaces in
    let spaces_are = c.loop-space.invariant.spaces ∙ (sym (map-id c.loop-space.yielded) ∙ (end.0 ∙ c.into_vec-space-items.ensures)) in
    let es_are = c.loop-space.invariant.idempotents ∙ (take_all (length found) es (omega arith) ∙ c.as_slice-es.ensures) in
    subst (λ ss. AreIdempotentsOf c.args.a.now ss (map idempotent_of found)) (sym spaces_are) (subst (AreIdempotentsOf c.args.a.now c.in_ok-ideals.ideals) (sym es_are) c.in_ok-ideals.ensures.idempotents)
