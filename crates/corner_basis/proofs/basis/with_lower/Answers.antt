use Rattle.std.proofs.Common.{◌≡◌, ◌-◌, ◌++◌, [], ◌∷◌, length, get_or, refl, sym, ap, subst, ◌∙◌, arith}
use Rattle.polys.specs.declared.term.Term.{Term}
use Rattle.polys.specs.Poly.{IsVector}
use Rattle.corner_basis.proofs.Falling.{from, from_end, next_terms}
use Rattle.corner_basis.proofs.basis.with_lower.Goals as goal

pub loop-i-init : goal.loop-i-init
loop-i-init c =
    let head : Term = record { coeff = 1; mono = c.args.lead } in (
      omega arith,
      c.in_ok-push.ensures.items ∙ ap (λ z. z ++ head ∷ []) c.new-terms.ensures.items
          ∙ ap (λ z. head ∷ z) (sym (from_end c.args.prime (length c.args.lower.now) c.args.coefficients.now c.args.lower.now (let e = c.requires.count in omega arith))),
    )

pub loop-i-preserved : goal.loop-i-preserved
loop-i-preserved c =
    let cs = c.args.coefficients.now in
    let ws = c.args.lower.now in
    let i = c.loop-i.i in
    let some = c.loop-i-test.true in
    let low = c.loop-i.invariant.0 in
    let head : Term = record { coeff = 1; mono = c.args.lead } in
    let t : Term = record { coeff = get_or cs (i - 1) 0; mono = c.index-lower-i.result } in (
      omega arith,
      next_terms c.args.prime cs ws c.requires.count c.requires.residues c.requires.rising i some low head t c.loop-i.terms.items c.push_some.new.terms.items refl c.index-lower-i.is
          c.loop-i.invariant.1 c.in_ok-push_some.ensures.zero c.in_ok-push_some.ensures.other,
    )

pub of_terms-requires : goal.of_terms-requires
of_terms-requires c =
    let z : c.loop-i.i ≡ 0 = (let t = c.loop-i-test.false in omega arith) in
    subst (IsVector c.args.prime) (sym (c.loop-i.invariant.1 ∙ ap (λ i. record { coeff = 1; mono = c.args.lead } ∷ from c.args.prime i c.args.coefficients.now c.args.lower.now) z)) c.requires.falls

pub returns-clause-terms : goal.returns-clause-terms
returns-clause-terms c =
    let z : c.loop-i.i ≡ 0 = (let t = c.loop-i-test.false in omega arith) in
    ap (λ f. f.terms) c.of_terms.ensures ∙ c.loop-i.invariant.1 ∙ ap (λ i. record { coeff = 1; mono = c.args.lead } ∷ from c.args.prime i c.args.coefficients.now c.args.lower.now) z
