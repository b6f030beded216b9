use Rattle.std.proofs.Common.{◌+◌, ◌*◌, ◌%◌, ◌<◌, take, get_or, ap, sym, subst, ◌∙◌, arith}
use Rattle.lane_rows.specs.Rows.{AreResidues}
use Rattle.digit_space.specs.Adding.{sum_at, rows_from, product_row}
use Rattle.digit_space.proofs.Entries.{sum_more, step_added, step_none}
use Rattle.digit_space.proofs.multiplying.add_block.Goals.{then-block-i-ne0, else-block-i-ne0}
use Rattle.digit_space.proofs.multiplying.add_block.Goals as goal

-- src/multiplying.rt:58:5
pub loop-i-preserved : goal.loop-i-preserved
loop-i-preserved c = elim c.if-block-i-ne0.branch [
  | then-block-i-ne0 w ↦
      let p = c.args.prime in
      let i = c.loop-i.i in
      let f = rows_from c.args.border.now c.args.products.now c.args.first in
      let o = c.args.out.now in
      let x = get_or c.args.block.now i 0 in
      let positive : 0 < p = omega (arith, c.get-p.ensures.range, c.get-p.ensures.value) in
      record {
        entries = λ t h.
            ap (λ out. get_or out t 0) w.out-is
            ∙ w.add_product.ensures.entries t (omega (arith, c.loop-i.auto.out))
            ∙ ap (λ q. (get_or c.loop-i.out t 0 + x * get_or (product_row c.args.border.now q) t 0) % p) w.product_at-product.ensures
            ∙ ap (λ n. (n + x * get_or (f i) t 0) % p) (c.loop-i.invariant.entries t h)
            ∙ step_added p positive (get_or o t 0) (sum_at (take i c.args.block.now) f t) x (get_or (f i) t 0)
            ∙ ap (λ n. (get_or o t 0 + n) % p) (sym (sum_more c.args.block.now f i t c.loop-i-test.true));
        residues = subst (AreResidues p) (sym w.out-is) w.add_product.ensures.residues;
      }
  | else-block-i-ne0 w ↦
      let p = c.args.prime in
      let i = c.loop-i.i in
      let f = rows_from c.args.border.now c.args.products.now c.args.first in
      let o = c.args.out.now in
      let x = get_or c.args.block.now i 0 in
      record {
        entries = λ t h.
            ap (λ out. get_or out t 0) w.out-is
            ∙ c.loop-i.invariant.entries t h
            ∙ step_none (get_or o t 0) (sum_at (take i c.args.block.now) f t) x (get_or (f i) t 0) p w.if-block-i-ne0.false
            ∙ ap (λ n. (get_or o t 0 + n) % p) (sym (sum_more c.args.block.now f i t c.loop-i-test.true));
        residues = subst (AreResidues p) (sym w.out-is) c.loop-i.invariant.residues;
      }
]
