use Rattle.std.proofs.Common.{◌≡◌, ◌∙◌}
use Rattle.std.specs.declared.cmp.Ordering.TheVariants.{Less, Equal, Greater}
use Rattle.digit_plan.proofs.Parents.{lead_other, lead_some}
use Rattle.digit_plan.proofs.rules.has_lead.Goals as goal

pub returns-in-Equal : goal.returns-in-Equal
returns-in-Equal c = lead_some c.args.f.now.terms c.in-Some.t c.args.m.now c.in-Some.ensures c.in-Equal.ensures

pub returns-in-Less : goal.returns-in-Less
returns-in-Less c = lead_other c.args.f.now.terms c.in-Some.t c.args.m.now c.in-Some.ensures (λ q. let e : Less ≡ Equal = c.in-Less.ensures ∙ q in absurd (cc))

pub returns-in-Greater : goal.returns-in-Greater
returns-in-Greater c = lead_other c.args.f.now.terms c.in-Some.t c.args.m.now c.in-Some.ensures (λ q. let e : Greater ≡ Equal = c.in-Greater.ensures ∙ q in absurd (cc))
