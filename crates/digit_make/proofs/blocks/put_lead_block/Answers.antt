use Rattle.std.proofs.Common.{sym, subst, arith}
use Rattle.polys.specs.Terms.{mul}
use Rattle.digit_make.specs.Blocks.{IsBlock}
use Rattle.digit_plan.specs.Planned.{curve_of, sum_of}
use Rattle.digit_make.proofs.Ready.{inner_made}
use Rattle.digit_make.proofs.Steps.{lift_first, lift_later, lead_end}
use Rattle.digit_make.proofs.blocks.put_lead_block.Goals.{then-t-gt0, else-t-gt0}
use Rattle.digit_make.proofs.blocks.put_lead_block.Goals as goal

pub returns : goal.returns
returns c =
    let plan = c.args.plan.now in
    let A = curve_of c.args.plan.now in
    let lift = c.args.lift.now in
    let lifted : IsBlock A c.args.plan.now.corners c.args.t (mul A.prime A.denominator (sum_of c.args.plan.now lift)) c.if-t-gt0.out =
    elim c.if-t-gt0.branch [
      | then-t-gt0 w ↦ subst (IsBlock A plan.corners c.args.t (mul A.prime A.denominator (sum_of plan lift))) (sym w.out-is)
          (lift_later plan c.requires.plan c.args.t lift c.args.out.now w.add_shares.new.out c.requires.lift w.if-t-gt0.true c.requires.out w.add_shares.ensures.adds)
      | else-t-gt0 w ↦ subst (IsBlock A plan.corners c.args.t (mul A.prime A.denominator (sum_of plan lift))) (sym w.out-is)
          (lift_first plan c.requires.plan c.args.t lift c.args.out.now c.requires.lift (omega (arith, w.if-t-gt0.false)) c.requires.out)
    ] in
    lead_end plan c.requires.plan c.args.t c.args.m.now c.args.tail.now lift c.if-t-gt0.out c.add_shares-2.new.out c.requires.affine c.requires.tail c.requires.lift c.requires.lead lifted c.add_shares-2.ensures.adds

pub add_shares-requires-2-clause-made : goal.add_shares-requires-2-clause-made
add_shares-requires-2-clause-made c = inner_made c.args.plan.now c.args.rows.now c.args.t c.args.tail.now c.requires.inner
