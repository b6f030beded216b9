use Rattle.std.proofs.Common.{◌≡◌, ◌≢◌, ◌+◌, ◌*◌, ◌%◌, ◌<◌, ◌≤◌, get_or, length, arith, ap, ◌∙◌, ⊎_elim, get_or-set_other}
use Rattle.std.proofs.lemmas.Bool.{cases_lt}
use Rattle.std.proofs.lemmas.Grind.{get_or-set_at}
use Rattle.std.proofs.Math.Nat.{add-mod-mod}
use Rattle.lane_rows.proofs.multiples.axpy_rest.Goals as goal

pub loop-k-preserved : goal.loop-k-preserved
loop-k-preserved c =
    let k = c.loop-k.k in
    let old = c.args.into.now in
    let here : c.sum_modulo.result ≡ (get_or old k 0 + c.args.c * get_or c.args.row.now k 0) % c.args.p =
    c.sum_modulo.ensures
    ∙ ap (λ n. (get_or c.loop-k.into k 0 + n) % c.args.p) c.product_modulo.ensures
    ∙ add-mod-mod (get_or c.loop-k.into k 0) (c.args.c * get_or c.args.row.now k 0) c.args.p
    ∙ ap (λ n. (n + c.args.c * get_or c.args.row.now k 0) % c.args.p) (c.loop-k.invariant.above k (omega arith)) in
    record {
      done = λ j a b. ⊎_elim
          (λ (less : j < k). let ne : j ≢ k = omega arith in rw get_or-set_other (c.loop-k.invariant.done j a less))
          (λ (most : k ≤ j). let same : j ≡ k = omega arith in let within : k < length c.loop-k.into = omega arith in
          get_or-set_at c.loop-k.into k j c.sum_modulo.result 0 same within ∙ rw same here)
          (cases_lt j k);
      below = λ j a. let ne : j ≢ k = omega arith in rw get_or-set_other (c.loop-k.invariant.below j a);
      above = λ j a. let ne : j ≢ k = omega arith in rw get_or-set_other (c.loop-k.invariant.above j (omega arith));
    }
