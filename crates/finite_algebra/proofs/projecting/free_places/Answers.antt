use Rattle.std.proofs.Common.{◌+◌, [], List, ℕ, get_or, ap, sym, subst, ◌∙◌}
use Rattle.std.proofs.lemmas.List.{get_or_default}
use Rattle.finite_algebra.specs.Projections.{AreFree}
use Rattle.finite_algebra.proofs.Freeing.{free_same, free_more}
use Rattle.finite_algebra.proofs.projecting.free_places.Goals as goal
use Rattle.finite_algebra.proofs.projecting.free_places.Goals.{then-as_slice-k-ne0+in_ok-push, else-as_slice-k-ne0}

pub loop-k-preserved : goal.loop-k-preserved
loop-k-preserved c =
    let k = c.loop-k.k in
    let row_is = c.as_slice.ensures ∙ c.index-rows-k.is ∙ get_or_default c.args.rows.now k c.index-rows-k.result [] c.loop-k-test.true in
    elim c.if-as_slice-k-ne0.branch [
      | then-as_slice-k-ne0+in_ok-push w ↦ subst (λ (ps : List ℕ). AreFree c.args.rows.now (k + 1) ps) (sym (w.places-is ∙ w.in_ok-push.ensures.ok))
          (free_more c.args.rows.now k c.loop-k.places (λ z. w.if-as_slice-k-ne0.true (ap (λ r. get_or r k 0) row_is ∙ z)) c.loop-k.invariant)
      | else-as_slice-k-ne0 w ↦ subst (λ (ps : List ℕ). AreFree c.args.rows.now (k + 1) ps) (sym w.places-is)
          (free_same c.args.rows.now k c.loop-k.places (sym (ap (λ r. get_or r k 0) row_is) ∙ w.if-as_slice-k-ne0.false) c.loop-k.invariant)
    ]
