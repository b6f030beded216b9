use Rattle.polys.specs.Poly.{Polynomial}
use Rattle.singular_text.specs.Evaluating.{close, last_term, sum_with}
use Rattle.singular_text.proofs.Handing.{fault_through, ok_through, handed_on}
use Rattle.singular_text.proofs.evaluation.Ground.close.Goals as goal

pub returns-in_err-term-clause-exact : goal.returns-in_err-term-clause-exact
unfolding close
returns-in_err-term-clause-exact c =
    handed_on (λ (f : Polynomial). f) c.from_residual.result c.in_err-term.field-0.0 _ c.from_residual.ensures.1
    (fault_through c.in_err-term.field-0.0 (last_term c.args.frame.product c.args.frame.factor) (sum_with c.args.self.now.prime c.args.frame.sum c.args.frame.is_negative) c.in_err-term.ensures.exact)

pub returns-clause-exact : goal.returns-clause-exact
unfolding close
returns-clause-exact c =
    ok_through (λ (f : Polynomial). f) c.sum.result (last_term c.args.frame.product c.args.frame.factor) c.in_ok-term.term (sum_with c.args.self.now.prime c.args.frame.sum c.args.frame.is_negative)
    c.in_ok-term.ensures.exact c.sum.ensures.exact
