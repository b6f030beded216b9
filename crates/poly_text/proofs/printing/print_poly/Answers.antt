use Rattle.std.proofs.Common.{◌<◌, [], true, length, sym, ap, ◌∙◌, append-nil}
use Rattle.std.proofs.lemmas.Result.{err_from_is_err_and}
use Rattle.polys.proofs.Merge.{coeff_at, mono_at}
use Rattle.monomials.specs.Mono.{IsMono}
use Rattle.poly_text.specs.Parts.{terms_text}
use Rattle.poly_text.proofs.Fronts.{front_behind}
use Rattle.poly_text.proofs.Texts.{poly_text-terms, terms_text-split, some_items}
use Rattle.poly_text.proofs.printing.print_poly.Goals as goal

pub loop-term-init : goal.loop-term-init
loop-term-init c =
    let some : 0 < length c.args.poly.now.terms = some_items _ _ c.if-is_empty.ensures (ap (λ f. length f) c.terms-terms.ensures.value) in
    record {
      done = [];
      printed = sym (append-nil c.args.out.now);
      whole = poly_text-terms c.args.poly.now.prime c.args.letters.now c.args.poly.now.terms some
          ∙ (λ i. terms_text c.args.poly.now.prime (sym c.as_slice-names.ensures.value i) true (sym c.terms-terms.ensures.value i));
    }

pub print_signed-requires-clause-residue : goal.print_signed-requires-clause-residue
print_signed-requires-clause-residue c =
    let known = rw (← c.terms-terms.ensures.value) at c.terms-terms.ensures.known in
    rw c.prime.ensures ((coeff_at c.args.poly.now.prime c.terms-terms.result.now c.loop-term.term-index c.term-item.result known.canonical c.loop-term-test.true c.term-item.is).1)

pub print_signed-requires-clause-seven : goal.print_signed-requires-clause-seven
print_signed-requires-clause-seven c =
    let known = rw (← c.terms-terms.ensures.value) at c.terms-terms.ensures.known in
    (mono_at IsMono c.terms-terms.result.now c.loop-term.term-index c.term-item.result known.monos c.loop-term-test.true c.term-item.is).seven

pub returns-in_err-print_signed : goal.returns-in_err-print_signed
returns-in_err-print_signed c =
    let p = err_from_is_err_and c.from_residual.result c.from_residual.ensures.1 in
    let loop = c.loop-term.invariant in
    rw p.1 (front_behind _ _ _ loop.done _ _ _ loop.printed
    (terms_text-split c.args.poly.now.prime c.as_slice-names.result.now _ loop.done c.terms-terms.result.now c.term-item.result c.loop-term.is_first c.loop-term.term-index
    loop.whole c.loop-term-test.true c.term-item.is)
    (rw c.prime.ensures at c.in_err-print_signed.ensures))
