use Rattle.std.proofs.Common.{get_or}
use Rattle.std.proofs.lemmas.List.{get_or_default}
use Rattle.digit_plan.specs.declared.plan.Place.TheVariants.{Corner}
use Rattle.digit_plan.specs.declared.plan.Share.{Share}
use Rattle.digit_make.proofs.Steps.{nothing_added, shares_step, shares_end}
use Rattle.digit_make.proofs.blocks.add_shares.Goals as goal

pub loop-k-init : goal.loop-k-init
loop-k-init c = record { fits = c.requires.out; adds = nothing_added c.args.plan.now c.requires.plan c.args.t c.args.out.now }

pub loop-k-preserved : goal.loop-k-preserved
loop-k-preserved c =
    let d : Share = record { coeff = 0; place = Corner 0 } in
    let s : Share = get_or c.args.shares.now c.loop-k.k d in
    record {
      fits = c.add_block.ensures.fits;
      adds = shares_step c.args.plan.now c.requires.plan c.args.t c.loop-k.k c.args.shares.now s c.args.out.now c.loop-k.out c.add_block.new.out c.requires.shares c.loop-k-test.true
          (get_or_default c.args.shares.now c.loop-k.k d s c.loop-k-test.true) c.loop-k.invariant.adds c.add_block.ensures.adds;
    }

pub returns-clause-adds : goal.returns-clause-adds
returns-clause-adds c = shares_end c.args.plan.now c.requires.plan c.args.t c.loop-k.k c.args.shares.now c.args.out.now c.loop-k.out c.loop-k-test.false c.loop-k.invariant.adds
