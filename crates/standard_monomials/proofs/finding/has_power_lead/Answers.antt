use Rattle.std.proofs.Common.{arith, refl, sym, ◌∙◌, subst}
use Rattle.graded_modules.specs.Vector.{lead_mono}
use Rattle.standard_monomials.specs.Standard.{IsPowerOf}
use Rattle.standard_monomials.proofs.Leads.{sole, whole_degree, some_terms, no_terms, none_more}
use Rattle.standard_monomials.proofs.finding.has_power_lead.Goals as goal

pub returns : goal.returns
returns c = (
  λ h. absurd (grind arith),
  λ h. absurd (no_terms (λ b. IsPowerOf c.args.v (lead_mono b)) c.args.basis.now (λ k d l. c.loop-f.invariant k d (omega arith)) h.0 h.1 h.2),
)

pub returns-then-degree-exponent : goal.returns-then-degree-exponent
returns-then-degree-exponent c = (
  λ h. (
    c.f-item.result.terms,
    some_terms c.args.basis.now c.loop-f.f-index c.f-item.result c.loop-f-test.true c.f-item.is,
    subst (IsPowerOf c.args.v) c.lead_mono-lead.ensures
        (sole c.lead_mono-lead.result.exponents c.args.v (sym c.degree.ensures.value ∙ c.if-degree-exponent.true ∙ c.exponent.ensures)),
  ),
  λ h. refl,
)

pub loop-f-preserved : goal.loop-f-preserved
loop-f-preserved c =
    none_more (λ f. IsPowerOf c.args.v (lead_mono f.terms)) c.args.basis.now c.loop-f.f-index c.f-item.result c.loop-f.invariant c.loop-f-test.true c.f-item.is
    (λ h. c.if-degree-exponent.false
    (c.degree.ensures.value
    ∙ whole_degree c.lead_mono-lead.result.exponents c.args.v (subst (IsPowerOf c.args.v) (sym c.lead_mono-lead.ensures) h)
    ∙ sym c.exponent.ensures))
