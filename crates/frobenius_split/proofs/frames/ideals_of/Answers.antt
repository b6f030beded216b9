use Rattle.std.proofs.Common.{◌≡◌, ◌∙◌, ◌<◌, ◌+◌, ◌++◌, ◌∷◌, [], ℕ, List, length, get_or, arith, ap, subst, sym, length-append}
use native.Mathlib.Decide.{ℕ_discrete}
use Rattle.std.proofs.lemmas.List.{get_or_append_left, get_or_push}
use Rattle.row_space.specs.Subspace.{Subspace}
use Rattle.frobenius_split.specs.Points.{at}
use Rattle.frobenius_split.specs.Idempotents.{IsIdealAt}
use Rattle.frobenius_split.proofs.frames.ideals_of.Goals as goal

pub loop-k-preserved : goal.loop-k-preserved
loop-k-preserved c = record {
  count = ap length c.in_ok-push.ensures.ok ∙ (length-append c.loop-k.spaces (c.in_ok-space.space ∷ []) ∙ ap (λ k. k + 1) c.loop-k.invariant.count);
  spaces = λ j l. subst (λ (xs : List Subspace). IsIdealAt c.args.a.now c.args.nilpotent.now (get_or c.args.es.now j []) (at xs j)) (sym c.in_ok-push.ensures.ok) (go c j l (ℕ_discrete j c.loop-k.k));
}
  where
    none : Subspace
    none = record { prime = 0; width = 0; basis = [] }

    go : (c : goal.In_ok-push) → (j : ℕ) → j < c.loop-k.k + 1 → Dec (j ≡ c.loop-k.k) → IsIdealAt c.args.a.now c.args.nilpotent.now (get_or c.args.es.now j []) (at (c.loop-k.spaces ++ c.in_ok-space.space ∷ []) j)
    go c j l (yes e) =
        subst (λ s. IsIdealAt c.args.a.now c.args.nilpotent.now (get_or c.args.es.now j []) s) (sym (get_or_push c.loop-k.spaces c.in_ok-space.space none j (c.loop-k.invariant.count ∙ sym e)))
        (subst (λ k. IsIdealAt c.args.a.now c.args.nilpotent.now (get_or c.args.es.now k []) c.in_ok-space.space) (sym e) c.in_ok-space.ensures)
    go c j l (no n) = subst (λ s. IsIdealAt c.args.a.now c.args.nilpotent.now (get_or c.args.es.now j []) s) (sym (get_or_append_left c.loop-k.spaces (c.in_ok-space.space ∷ []) none j (omega (arith, c.loop-k.invariant.count))))
        (c.loop-k.invariant.spaces j (omega arith))
