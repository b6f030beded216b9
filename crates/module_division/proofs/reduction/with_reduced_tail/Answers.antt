use Rattle.std.proofs.Common.{◌∷◌, sym, ap, ◌∙◌, subst}
use Rattle.polys.specs.Poly.{Polynomial, IsVector}
use Rattle.module_division.proofs.Tails.{split_at, split_lead}
use Rattle.module_division.proofs.reduction.with_reduced_tail.Goals as goal

pub of_terms-requires : goal.of_terms-requires
of_terms-requires c =
    let split = split_at c.args.p c.args.f.now c.requires.vector c.index-terms-0.result c.terms-terms.result.now c.in_ok-tail.tail.items c.terms-terms.ensures.value c.index-terms-0.is c.in_ok-tail.ensures.items in
    let known = split_lead c.args.p c.args.f.now.terms c.index-terms-0.result c.in_ok-tail.tail.items c.in_ok-rest.rest.items c.args.divisors.now c.requires.divisors c.requires.vector.vector split
    c.in_ok-rest.ensures.reduces c.in_ok-rest.ensures.known in
    let whole = c.in_ok-whole.ensures ∙ ap (λ xs. c.index-terms-0.result ∷ xs) c.deref.ensures.value in
    subst (IsVector c.args.p) (sym whole) known

pub returns-clause-tail : goal.returns-clause-tail
returns-clause-tail c =
    let split = split_at c.args.p c.args.f.now c.requires.vector c.index-terms-0.result c.terms-terms.result.now c.in_ok-tail.tail.items c.terms-terms.ensures.value c.index-terms-0.is c.in_ok-tail.ensures.items in
    let known = split_lead c.args.p c.args.f.now.terms c.index-terms-0.result c.in_ok-tail.tail.items c.in_ok-rest.rest.items c.args.divisors.now c.requires.divisors c.requires.vector.vector split
    c.in_ok-rest.ensures.reduces c.in_ok-rest.ensures.known in
    let whole = c.in_ok-whole.ensures ∙ ap (λ xs. c.index-terms-0.result ∷ xs) c.deref.ensures.value in
    let after = ap (λ (f : Polynomial). f.terms) c.of_terms.ensures ∙ whole in
    record {
      lead = c.index-terms-0.result;
      tail = c.in_ok-tail.tail.items;
      rest = c.in_ok-rest.rest.items;
      before = split.whole;
      after = after;
      reduces = c.in_ok-rest.ensures.reduces;
      vector = subst (IsVector c.args.p) (sym after) known;
      outside = c.in_ok-rest.ensures.outside;
    }
