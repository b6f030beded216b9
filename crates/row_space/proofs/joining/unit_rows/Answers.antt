use Rattle.std.proofs.Common.{◌≡◌, ◌<◌, ◌≤◌, ◌∷◌, [], length, get_or, set, replicate, arith, ap, ◌∙◌, ⊎_elim, length-append}
use Rattle.std.proofs.lemmas.Bool.{cases_lt}
use Rattle.std.proofs.lemmas.List.{get_or_append_left, get_or_push}
use Rattle.row_space.proofs.joining.unit_rows.Goals as goal

pub loop-i-preserved : goal.loop-i-preserved
loop-i-preserved c =
    let pushed = c.in_ok-push.ensures.ok in
    let row_is = c.of_vec.ensures ∙ ap (λ r. set r c.loop-i.i 1) c.in_ok-row.ensures in
    record {
      long = ap length pushed ∙ omega (arith, length-append c.loop-i.rows (c.of_vec.result ∷ []), c.loop-i.invariant.long);
      rows = λ j h. ap (λ rs. get_or rs j []) pushed ∙ ⊎_elim
          (λ (a : j < c.loop-i.i). get_or_append_left c.loop-i.rows (c.of_vec.result ∷ []) [] j (omega (arith, c.loop-i.invariant.long)) ∙ c.loop-i.invariant.rows j a)
          (λ (a : c.loop-i.i ≤ j). let same : c.loop-i.i ≡ j = omega arith in
          get_or_push c.loop-i.rows c.of_vec.result [] j (omega (arith, c.loop-i.invariant.long)) ∙ row_is ∙ ap (λ m. set (replicate c.args.count 0) m 1) same)
          (cases_lt j c.loop-i.i);
    }
