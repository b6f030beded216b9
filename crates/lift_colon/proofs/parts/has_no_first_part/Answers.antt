use Rattle.std.proofs.Common.{sym, ◌∙◌}
use Rattle.lift_colon.proofs.Quotients.{begins_second}
use Rattle.lift_colon.proofs.parts.has_no_first_part.Goals as goal

pub returns-in-Some : goal.returns-in-Some
returns-in-Some c =
    begins_second c.args.v.now.prime c.args.v.now.terms c.in-Some.t c.component.result c.terms-terms.ensures.known.canonical (sym c.lead.ensures ∙ c.in-Some.is) c.component.ensures
