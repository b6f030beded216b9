use Rattle.std.proofs.Common.{◌≡◌, ◌∙◌, ◌<◌, ◌+◌, ◌++◌, ◌∷◌, [], ℕ, List, length, get_or, arith, ap, subst, sym, length-append}
use native.Mathlib.Decide.{ℕ_discrete}
use Rattle.std.proofs.lemmas.List.{get_or_append_left, get_or_default, get_or_push}
use Rattle.row_space.specs.Subspace.{Subspace}
use Rattle.frobenius_split.specs.Points.{at}
use Rattle.frobenius_split.specs.Idempotents.{IsIdealAt}
use Rattle.frobenius_split.proofs.ideals.ideals_one_by_one.Goals as goal

pub loop-i-preserved : goal.loop-i-preserved
loop-i-preserved c = record {
  count = ap length c.in_ok-push.ensures.ok ∙ (length-append c.loop-i.spaces (c.in_ok-space.space ∷ []) ∙ ap (λ k. k + 1) c.loop-i.invariant.count);
  spaces = λ j l. subst (λ (xs : List Subspace). IsIdealAt c.args.a.now c.args.nilpotent.now (get_or c.args.es.now j []) (at xs j)) (sym c.in_ok-push.ensures.ok) (go c j l (ℕ_discrete j c.loop-i.i));
}
  where
    none : Subspace
    none = record { prime = 0; width = 0; basis = [] }

    go : (c : goal.In_ok-push) → (j : ℕ) → j < c.loop-i.i + 1 → Dec (j ≡ c.loop-i.i) → IsIdealAt c.args.a.now c.args.nilpotent.now (get_or c.args.es.now j []) (at (c.loop-i.spaces ++ c.in_ok-space.space ∷ []) j)
    go c j l (yes e) =
        let row_is = c.as_slice.ensures ∙ c.index-es-i.is ∙ get_or_default c.args.es.now c.loop-i.i c.index-es-i.result [] c.loop-i-test.true in
        subst (λ s. IsIdealAt c.args.a.now c.args.nilpotent.now (get_or c.args.es.now j []) s) (sym (get_or_push c.loop-i.spaces c.in_ok-space.space none j (c.loop-i.invariant.count ∙ sym e)))
        (subst (λ k. IsIdealAt c.args.a.now c.args.nilpotent.now (get_or c.args.es.now k []) c.in_ok-space.space) (sym e) (subst (λ (r : List ℕ). IsIdealAt c.args.a.now c.args.nilpotent.now r c.in_ok-space.space) row_is c.in_ok-space.ensures))
    go c j l (no n) = subst (λ s. IsIdealAt c.args.a.now c.args.nilpotent.now (get_or c.args.es.now j []) s) (sym (get_or_append_left c.loop-i.spaces (c.in_ok-space.space ∷ []) none j (omega (arith, c.loop-i.invariant.count))))
        (c.loop-i.invariant.spaces j (omega arith))
