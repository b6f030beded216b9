use Rattle.digit_plan.specs.Playing.{seen}
use Rattle.digit_plan.proofs.Parents.{quotient_exponent, quotient_placed}
use Rattle.digit_plan.proofs.rules.rule_by.Goals as goal

pub returns-in-None-clause-none : goal.returns-in-None-clause-none
returns-in-None-clause-none c = λ q. quotient_exponent c.args.v c.args.m.now c.args.play.now.border (seen c.args.inside c.args.play.now.outer) c.requires.v q c.in-None.ensures.none

pub returns-in-None-outside_place-clause-none : goal.returns-in-None-outside_place-clause-none
returns-in-None-outside_place-clause-none c =
    quotient_placed c.args.v c.args.m.now c.in-Some.w c.args.play.now.border (seen c.args.inside c.args.play.now.outer) c.in-Some.ensures.some c.in-Some.ensures.seven c.in-None-outside_place.ensures.none
