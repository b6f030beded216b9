use Rattle.std.proofs.Common.{sym, ap, ◌∙◌}
use Rattle.polys.specs.Poly.{term_multiple_of}
use Rattle.polys.proofs.Products.{mul_by_none}
use Rattle.polys.proofs.poly.Poly.mul_term.Goals as goal

pub returns-then-t-eq0 : goal.returns-then-t-eq0
returns-then-t-eq0 c =
    let p = c.self.inside.prime in
    let z = mul_by_none p c.args.t c.self.inside.terms.items c.if-t-eq0.true in
    c.zero.ensures ∙ (λ i. record { prime = p; terms = sym z i }) ∙ ap (λ f. term_multiple_of f c.args.t) c.self.view_is
