use Rattle.std.proofs.Common.{◌≡◌, ◌+◌, ◌-◌, ◌*◌, ◌%◌, ◌<◌, ◌≤◌, get_or, arith, ap, ◌∙◌, ⊎_elim}
use Rattle.std.proofs.lemmas.Bool.{cases_lt}
use Rattle.lane_rows.proofs.multiples.axpy_groups.Goals as goal

pub loop-i-preserved : goal.loop-i-preserved
loop-i-preserved c = record {
  done = λ k h. ⊎_elim
      (λ b. c.axpy_eight.ensures.below k b ∙ c.loop-i.invariant.done k b)
      (λ a.
      let place : c.loop-i.i * 8 + (k - c.loop-i.i * 8) ≡ k = omega arith in
      let inside : k - c.loop-i.i * 8 < 8 = omega arith in
      let here = rw place at (c.axpy_eight.ensures.inside (k - c.loop-i.i * 8) inside) in
      here ∙ ap (λ x. (x + c.args.c * get_or c.args.row.now k 0) % c.args.p) (c.loop-i.invariant.kept k a))
      (cases_lt k (c.loop-i.i * 8));
  kept = λ k h.
      let past : c.loop-i.i * 8 + 8 ≤ k = omega arith in
      let old : c.loop-i.i * 8 ≤ k = omega arith in
      c.axpy_eight.ensures.above k past ∙ c.loop-i.invariant.kept k old;
}
