use Rattle.std.proofs.Common.{sym, ap, ◌∙◌, subst}
use Rattle.polys.specs.Poly.{Polynomial, IsVector}
use Rattle.polys.specs.Terms.{IsCanonical}
use Rattle.module_basis.proofs.basis.with_variable_one.Goals as goal

pub of_terms-requires : goal.of_terms-requires
of_terms-requires c =
    let p = c.args.prime in
    let f = c.args.f.now.terms in
    let law = c.leads_lose_the_variable.ensures in
    let e = c.in_ok-terms.ensures.value ∙ sym (law.terms p c.args.variables f c.requires.six_variables c.requires.homogeneous) in
    record { canonical = subst (IsCanonical p) (sym e) (law.poly p c.args.variables f c.requires.six_variables c.requires.homogeneous).canonical; monos = c.in_ok-terms.ensures.known }

pub returns-clause-value : goal.returns-clause-value
returns-clause-value c =
    let p = c.args.prime in
    let f = c.args.f.now.terms in
    let law = c.leads_lose_the_variable.ensures in
    let e = c.in_ok-terms.ensures.value ∙ sym (law.terms p c.args.variables f c.requires.six_variables c.requires.homogeneous) in
    c.of_terms.ensures ∙ ap (λ ts. record { prime = p; terms = ts }) e

pub returns-clause-known : goal.returns-clause-known
returns-clause-known c =
    let p = c.args.prime in
    let f = c.args.f.now.terms in
    let law = c.leads_lose_the_variable.ensures in
    let e = c.in_ok-terms.ensures.value ∙ sym (law.terms p c.args.variables f c.requires.six_variables c.requires.homogeneous) in
    let v : IsVector p c.in_ok-terms.terms.items = record { canonical = subst (IsCanonical p) (sym e) (law.poly p c.args.variables f c.requires.six_variables c.requires.homogeneous).canonical; monos = c.in_ok-terms.ensures.known } in
    subst (IsVector p) (sym (ap (λ (g : Polynomial). g.terms) c.of_terms.ensures)) v
