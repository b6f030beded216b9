use Rattle.std.proofs.Common.{◌≡◌, ◌+◌, ◌-◌, ◌*◌, ◌%◌, ◌<◌, ◌≤◌, arith, ap, ◌∙◌, ⊎_elim}
use Rattle.std.proofs.lemmas.Bool.{cases_lt}
use Rattle.lane_rows.proofs.multiples.scale_groups.Goals as goal

pub loop-i-preserved : goal.loop-i-preserved
loop-i-preserved c = record {
  done = λ k h. ⊎_elim
      (λ b. c.scale_eight.ensures.below k b ∙ c.loop-i.invariant.done k b)
      (λ a.
      let place : c.loop-i.i * 8 + (k - c.loop-i.i * 8) ≡ k = omega arith in
      let inside : k - c.loop-i.i * 8 < 8 = omega arith in
      let here = rw place at (c.scale_eight.ensures.inside (k - c.loop-i.i * 8) inside) in
      here ∙ ap (λ x. (c.args.c * x) % c.args.p) (c.loop-i.invariant.kept k a))
      (cases_lt k (c.loop-i.i * 8));
  kept = λ k h.
      let past : c.loop-i.i * 8 + 8 ≤ k = omega arith in
      let old : c.loop-i.i * 8 ≤ k = omega arith in
      c.scale_eight.ensures.above k past ∙ c.loop-i.invariant.kept k old;
}
