use Rattle.std.proofs.Common.{◌≡◌, ◌≤◌, ◌-◌, ◌∷◌, length, map, take, drop, sym, subst, ◌∙◌}
use Rattle.std.proofs.lemmas.Result.{IfOk-weaker}
use Rattle.polys.specs.Poly.{IsVector}
use Rattle.polys.specs.Ideal.{number_combination}
use Rattle.standard_monomials.specs.Standard.{polynomial_of}
use Rattle.corner_basis.specs.Tried.{IsMember}
use Rattle.corner_basis.proofs.Tried.{member_vector, read_member}
use Rattle.corner_basis.proofs.basis.member.Goals as goal

pub with_lower-requires-clause-falls : goal.with_lower-requires-clause-falls
with_lower-requires-clause-falls c =
    let f = c.args.front.now in
    let s = c.args.found.now in
    let r = c.args.relations.now in
    let known = c.entries-entries.ensures.known in
    let m = read_member f c.requires.front known s c.requires.tried r c.requires.relations c.rows-rows.ensures.reduced c.args.i c.requires.i c.as_slice-leads.result.now c.as_slice-standard.result.now
    c.as_slice.result.now c.in_ok-row.row c.prime.result c.index-leads-i.result c.as_slice-leads.ensures c.as_slice-standard.ensures c.as_slice.ensures c.prime.ensures c.index-leads-i.is c.in_ok-row.ensures.only in
    subst (λ p. IsVector p (record { coeff = 1; mono = c.index-leads-i.result } ∷ number_combination c.prime.result
    (take (length c.as_slice.result.now - length c.as_slice-leads.result.now) (drop (length c.as_slice-leads.result.now) c.as_slice.result.now)) (map polynomial_of c.as_slice-standard.result.now)))
    (sym (c.prime.ensures ∙ c.requires.relations.prime))
    (member_vector f c.requires.front known s c.requires.tried (subst (λ z. z ≤ 51200) c.entries-entries.ensures.value c.entries-entries.ensures.small) c.args.i c.requires.i _ m)

pub returns-clause-member : goal.returns-clause-member
returns-clause-member c =
    let f = c.args.front.now in
    let s = c.args.found.now in
    let r = c.args.relations.now in
    let known = c.entries-entries.ensures.known in
    let m = read_member f c.requires.front known s c.requires.tried r c.requires.relations c.rows-rows.ensures.reduced c.args.i c.requires.i c.as_slice-leads.result.now c.as_slice-standard.result.now
    c.as_slice.result.now c.in_ok-row.row c.prime.result c.index-leads-i.result c.as_slice-leads.ensures c.as_slice-standard.ensures c.as_slice.ensures c.prime.ensures c.index-leads-i.is c.in_ok-row.ensures.only in
    IfOk-weaker c.with_lower.result
    (λ g. g.terms ≡ record { coeff = 1; mono = c.index-leads-i.result } ∷ number_combination c.prime.result
    (take (length c.as_slice.result.now - length c.as_slice-leads.result.now) (drop (length c.as_slice-leads.result.now) c.as_slice.result.now)) (map polynomial_of c.as_slice-standard.result.now))
    (λ g. IsMember f s c.args.i g.terms) (λ g e. subst (IsMember f s c.args.i) (sym e) m) c.with_lower.ensures.terms
