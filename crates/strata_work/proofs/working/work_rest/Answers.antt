use Rattle.std.proofs.Common.{rules, ◌≡◌, arith, ◌∙◌}
use Rattle.strata_work.proofs.Entries.{one_more}
use Rattle.strata_work.proofs.working.work_rest.Goals as goal

pub returns-in_err-work_one-clause-kept : goal.returns-in_err-work_one-clause-kept
returns-in_err-work_one-clause-kept g c i vacant = c.loop-stratum.invariant.kept i (c.work_one.ensures.kept i vacant)

pub loop-stratum-preserved : goal.loop-stratum-preserved
loop-stratum-preserved g c =
    let old = c.loop-stratum.invariant in
    let now = c.work_one.ensures in
    record {
      same = record { curve = now.same.curve ∙ old.same.curve; points = now.same.points ∙ old.same.points; limit = now.same.limit ∙ old.same.limit };
      curve = now.hand.0 ∙ old.curve;
      points = now.hand.1 ∙ old.points;
      limit = now.hand.2 ∙ old.limit;
      worked = one_more c.loop-stratum.stratum c.loop-stratum.book.entries c.work_one.new.book.entries old.worked now.kept c.in_ok-work_one.ensures.worked;
      kept = λ i vacant. old.kept i (now.kept i vacant);
    }

pub returns-in_ok-work_one-clause-worked : goal.returns-in_ok-work_one-clause-worked
returns-in_ok-work_one-clause-worked g c i some_i most =
    let last : c.loop-stratum.stratum ≡ c.args.strata = search rules in
    one_more c.loop-stratum.stratum c.loop-stratum.book.entries c.work_one.new.book.entries c.loop-stratum.invariant.worked c.work_one.ensures.kept c.in_ok-work_one.ensures.worked i some_i
    (omega (arith, most, last))

pub returns-in_ok-work_one-clause-kept : goal.returns-in_ok-work_one-clause-kept
returns-in_ok-work_one-clause-kept g c i vacant = c.loop-stratum.invariant.kept i (c.work_one.ensures.kept i vacant)
