use Rattle.digit_plan.proofs.Parents.{none_leads}
use Rattle.digit_plan.proofs.rules.with_lead.Goals as goal

pub returns-clause-none : goal.returns-clause-none
returns-clause-none c = none_leads c.args.basis.now c.args.m.now c.loop-i.i c.loop-i-test.false c.loop-i.invariant
