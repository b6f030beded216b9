use Rattle.std.proofs.Common.{◌≡◌, sym, ap, ap₂, ◌∙◌, subst}
use Rattle.std.specs.List.{Contains}
use Rattle.prime_field.proofs.Table.{above_one}
use Rattle.polys.specs.Terms.{EachMono, normal, sub}
use Rattle.standard_monomials.specs.Standard.{polynomial_of}
use Rattle.digit_plan.specs.Planned.{AreSharesIn}
use Rattle.standard_monomials.proofs.Minimal.{one_term}
use Rattle.digit_plan.proofs.Leads.{lead_by}
use Rattle.digit_plan.proofs.rules.lead_rule.Goals as goal

pub returns-clause-rule : goal.returns-clause-rule
returns-clause-rule c =
    let l = c.args.lifted.now in
    let play = c.args.play.now in
    let g = c.args.g.now in
    let m = c.args.m.now in
    let lead : c.in_ok-lead.lead.prime ≡ c.args.lifted.now.prime = ap (λ z. z.prime) c.in_ok-lead.ensures ∙ c.prime-prime.ensures in
    let tail : c.in_ok-tail.tail.prime ≡ c.args.lifted.now.prime = ap (λ z. z.prime) c.in_ok-tail.ensures ∙ lead in
    let terms : c.in_ok-tail.tail.terms ≡ sub c.args.lifted.now.prime (polynomial_of c.args.m.now) c.args.g.now.terms =
    ap (λ z. z.terms) c.in_ok-tail.ensures
    ∙ ap₂ (λ x y. sub x y g.terms) lead (ap (λ z. z.terms) c.in_ok-lead.ensures ∙ ap (λ q. normal q (polynomial_of m)) c.prime-prime.ensures ∙ one_term l.prime m (above_one l.prime c.requires.known.prime)) in (
      subst (λ q. AreSharesIn q play.corners play.border play.outer c.in_ok-tail_shares.tail_shares) tail c.in_ok-tail_shares.ensures.shares,
      subst (λ q. AreSharesIn q play.corners play.border play.outer c.in_ok-lift_shares.lift_shares) c.requires.prime c.in_ok-lift_shares.ensures.shares,
      lead_by l c.requires.known play.corners play.border play.outer m g.terms c.args.lift.now.terms c.in_ok-tail.tail.terms c.in_ok-tail_shares.tail_shares c.in_ok-lift_shares.lift_shares c.requires.m c.requires.over.poly
          c.requires.lift terms c.in_ok-tail_shares.ensures.terms c.in_ok-lift_shares.ensures.terms,
    )

pub returns-clause-inner : goal.returns-clause-inner
returns-clause-inner c =
    let l = c.args.lifted.now in
    let play = c.args.play.now in
    let g = c.args.g.now in
    let m = c.args.m.now in
    let lead : c.in_ok-lead.lead.prime ≡ c.args.lifted.now.prime = ap (λ z. z.prime) c.in_ok-lead.ensures ∙ c.prime-prime.ensures in
    let tail : c.in_ok-tail.tail.prime ≡ c.args.lifted.now.prime = ap (λ z. z.prime) c.in_ok-tail.ensures ∙ lead in
    let terms : c.in_ok-tail.tail.terms ≡ sub c.args.lifted.now.prime (polynomial_of c.args.m.now) c.args.g.now.terms =
    ap (λ z. z.terms) c.in_ok-tail.ensures
    ∙ ap₂ (λ x y. sub x y g.terms) lead (ap (λ z. z.terms) c.in_ok-lead.ensures ∙ ap (λ q. normal q (polynomial_of m)) c.prime-prime.ensures ∙ one_term l.prime m (above_one l.prime c.requires.known.prime)) in
    λ around. c.in_ok-tail_shares.ensures.inner (subst (EachMono (Contains play.corners)) (sym terms) c.requires.inner)
