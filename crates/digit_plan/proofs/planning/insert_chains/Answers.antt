use Rattle.std.proofs.Common.{length, sym, subst}
use Rattle.polys.specs.Terms.{EachMono, IsAffine}
use Rattle.polys.proofs.Each.{every_more_item}
use Rattle.std.proofs.Common.{take}
use Rattle.digit_plan.specs.Playing.{IsInPlay}
use Rattle.digit_plan.proofs.Playing.{covered_kept, each_mono_at}
use Rattle.digit_plan.proofs.planning.insert_chains.Goals as goal

pub insert_chain-requires-clause-affine : goal.insert_chain-requires-clause-affine
insert_chain-requires-clause-affine c =
    let n = length c.args.order.now in
    let ts = c.terms-terms.result.now in
    let t = c.index-terms-i.result in
    subst (λ z. IsAffine n z.mono) c.index-terms-i.is
    (each_mono_at (IsAffine n) ts c.loop-i.i t c.loop-i-test.true c.index-terms-i.is (subst (EachMono (IsAffine n)) (sym c.terms-terms.ensures.value) c.requires.affine))

pub loop-i-preserved : goal.loop-i-preserved
loop-i-preserved c =
    let corners = c.args.corners.now in
    let border = c.args.border.now in
    let new = c.insert_chain.new.outer.items in
    let mid = c.loop-i.outer.items in
    let ts = c.terms-terms.result.now in
    record {
      outer = c.in_ok-insert_chain.ensures.outer;
      kept = λ w k. c.in_ok-insert_chain.ensures.kept w (c.loop-i.invariant.kept w k);
      covered = every_more_item (IsInPlay corners border new) ts c.loop-i.i c.index-terms-i.result c.loop-i-test.true c.index-terms-i.is
          (covered_kept corners border mid new (take c.loop-i.i ts) c.in_ok-insert_chain.ensures.kept c.loop-i.invariant.covered)
          (subst (λ z. IsInPlay corners border new z.mono) (sym c.index-terms-i.is) c.in_ok-insert_chain.ensures.known);
    }
