use Rattle.std.proofs.Common.{◌≡◌, ◌<◌, ◌≤◌, ◌∷◌, [], length, get_or, arith, ap, sym, subst, ◌∙◌, ⊎_elim, length-append}
use Rattle.std.proofs.lemmas.Bool.{cases_lt}
use Rattle.std.proofs.lemmas.List.{get_or_append_left, get_or_push}
use Rattle.finite_algebra.specs.Projections.{IsClass}
use Rattle.finite_algebra.proofs.projecting.reduced_units.Goals as goal

pub loop-k-preserved : goal.loop-k-preserved
loop-k-preserved c =
    let pushed = c.in_ok-push.ensures.ok in
    let k = c.loop-k.k in
    record {
      long = ap length pushed ∙ omega (arith, length-append c.loop-k.rows (c.in_ok-row.row ∷ []), c.loop-k.invariant.long);
      classes = λ j h. subst (IsClass c.args.ideal.now j) (sym (ap (λ rs. get_or rs j []) pushed)) (⊎_elim
          (λ (a : j < k). subst (IsClass c.args.ideal.now j) (sym (get_or_append_left c.loop-k.rows (c.in_ok-row.row ∷ []) [] j (omega (arith, c.loop-k.invariant.long)))) (c.loop-k.invariant.classes j a))
          (λ (a : k ≤ j). let same : k ≡ j = omega arith in
          subst (IsClass c.args.ideal.now j) (sym (get_or_push c.loop-k.rows c.in_ok-row.row [] j (omega (arith, c.loop-k.invariant.long)))) (subst (λ m. IsClass c.args.ideal.now m c.in_ok-row.row) same c.in_ok-row.ensures))
          (cases_lt j k));
    }
