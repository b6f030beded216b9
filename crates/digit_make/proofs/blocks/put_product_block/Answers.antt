use Rattle.std.proofs.Common.{◌+◌, ◌-◌, ◌*◌, take, drop, arith, ap, sym, subst}
use Rattle.digit_plan.specs.Planned.{curve_of}
use Rattle.digit_make.specs.Rows.{IsBlockRow}
use Rattle.digit_make.proofs.Expansion.{zeros_fit}
use Rattle.digit_make.proofs.Ready.{factors_made}
use Rattle.digit_make.proofs.Settings.{setting}
use Rattle.digit_make.proofs.Steps.{tail_start, tail_step, tail_end}
use Rattle.digit_make.proofs.blocks.put_product_block.Goals as goal

pub loop-r-init : goal.loop-r-init
loop-r-init c =
    let plan = c.args.plan.now in
    let long = c.requires.long in
    record {
      fits = subst (IsBlockRow plan) (sym c.requires.out) (zeros_fit (curve_of plan) plan.corners (setting plan c.requires.plan));
      tail = tail_start plan c.requires.plan c.args.v c.args.t c.args.row.now c.args.out.now c.requires.v c.requires.row.1.fits.1 long c.requires.out;
    }

pub loop-r-preserved : goal.loop-r-preserved
loop-r-preserved c =
    let plan = c.args.plan.now in
    let n = c.len-n.result in
    let start = n * (c.args.t - c.loop-r.r) in
    let long = c.requires.long in
    record {
      fits = c.add_products.ensures.fits;
      tail = tail_step plan c.requires.plan c.args.v c.args.t c.loop-r.r c.args.row.now (take (start + n - start) (drop start c.args.row.now)) c.loop-r.out c.add_products.new.out c.requires.v
          (omega (arith, c.loop-r-test.true)) c.requires.row.1.fits.1 long
          (ap (λ z. take (z * (c.args.t - c.loop-r.r) + z - z * (c.args.t - c.loop-r.r)) (drop (z * (c.args.t - c.loop-r.r)) c.args.row.now)) c.len-n.ensures)
          c.loop-r.invariant.tail c.add_products.ensures.adds;
    }

pub returns : goal.returns
returns c =
    let long = c.requires.long in
    tail_end c.args.plan.now c.requires.plan c.args.v c.args.t c.loop-r.r c.args.m.now c.args.row.now c.loop-r.out c.requires.v c.requires.affine c.requires.row long
    (omega (arith, c.loop-r-test.false, c.loop-r.auto.r-end)) c.loop-r.invariant.tail

pub add_products-requires-clause-made : goal.add_products-requires-clause-made
add_products-requires-clause-made c =
    let n = c.len-n.result in
    let start = n * (c.args.t - c.loop-r.r) in
    factors_made c.args.plan.now c.requires.plan c.args.rows.now c.args.t c.loop-r.r c.args.v c.args.m.now c.args.row.now (take (start + n - start) (drop start c.args.row.now))
    (omega (arith, c.loop-r-test.true)) c.requires.affine c.requires.row c.requires.long c.requires.products
    (ap (λ z. take (z * (c.args.t - c.loop-r.r) + z - z * (c.args.t - c.loop-r.r)) (drop (z * (c.args.t - c.loop-r.r)) c.args.row.now)) c.len-n.ensures)
