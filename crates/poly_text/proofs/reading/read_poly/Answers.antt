use Rattle.std.proofs.Common.{Ok, inl, sym, ap, subst, ◌∙◌, arith}
use Rattle.polys.specs.Poly.{Polynomial}
use Rattle.poly_text.specs.PolyText.{poly_text}
use Rattle.poly_text.specs.PolyReading.{IsPolyText}
use Rattle.poly_text.proofs.Reader.{read_vector, read_text}
use Rattle.poly_text.proofs.ReadBack.{read_is, no_order, no_text}
use Rattle.poly_text.proofs.reading.read_poly.Goals as goal

pub returns-then-not-are_canonical-clause-exact : goal.returns-then-not-are_canonical-clause-exact
returns-then-not-are_canonical-clause-exact c f h =
    let same = read_is c.args.prime c.get-p.result c.args.letters.now c.as_slice.result.now c.args.bytes.now c.in_ok-terms.terms.items f
    c.get-p.ensures.value c.as_slice.ensures.value (omega (arith, c.get-p.ensures.range.1)) c.as_slice.ensures.known c.in_ok-terms.ensures h in
    absurd (no_order c.args.prime c.get-p.result c.in_ok-terms.terms.items c.deref.result.now f c.are_canonical.result
    c.get-p.ensures.value c.deref.ensures.value same c.if-not-are_canonical.true c.are_canonical.ensures.1 h.poly.canonical)

pub returns-then-not-are_canonical-clause-not_poly : goal.returns-then-not-are_canonical-clause-not_poly
returns-then-not-are_canonical-clause-not_poly c _ f h =
    let same = read_is c.args.prime c.get-p.result c.args.letters.now c.as_slice.result.now c.args.bytes.now c.in_ok-terms.terms.items f
    c.get-p.ensures.value c.as_slice.ensures.value (omega (arith, c.get-p.ensures.range.1)) c.as_slice.ensures.known c.in_ok-terms.ensures h in
    no_order c.args.prime c.get-p.result c.in_ok-terms.terms.items c.deref.result.now f c.are_canonical.result
    c.get-p.ensures.value c.deref.ensures.value same c.if-not-are_canonical.true c.are_canonical.ensures.1 h.poly.canonical

pub of_terms-poly-requires : goal.of_terms-poly-requires
of_terms-poly-requires c =
    read_vector c.args.prime c.get-p.result c.as_slice.result.now c.args.bytes.now c.in_ok-terms.terms.items c.deref.result.now
    c.get-p.ensures.value c.as_slice.ensures.known c.in_ok-terms.ensures c.deref.ensures.value (c.are_canonical.ensures.0 c.if-not-are_canonical.false)

pub returns-then-not-branch-clause-exact : goal.returns-then-not-branch-clause-exact
returns-then-not-branch-clause-exact c f h =
    let same = read_is c.args.prime c.get-p.result c.args.letters.now c.as_slice.result.now c.args.bytes.now c.in_ok-terms.terms.items f
    c.get-p.ensures.value c.as_slice.ensures.value (omega (arith, c.get-p.ensures.range.1)) c.as_slice.ensures.known c.in_ok-terms.ensures h in
    absurd (no_text c.args.prime c.args.letters.now c.args.bytes.now c.in_ok-terms.terms.items f c.of_terms-poly.result c.in_ok-is_text.field-0
    c.of_terms-poly.ensures same c.if-not-branch.true c.in_ok-is_text.ensures.1 h.text)

pub returns-then-not-branch-clause-not_poly : goal.returns-then-not-branch-clause-not_poly
returns-then-not-branch-clause-not_poly c _ f h =
    let same = read_is c.args.prime c.get-p.result c.args.letters.now c.as_slice.result.now c.args.bytes.now c.in_ok-terms.terms.items f
    c.get-p.ensures.value c.as_slice.ensures.value (omega (arith, c.get-p.ensures.range.1)) c.as_slice.ensures.known c.in_ok-terms.ensures h in
    no_text c.args.prime c.args.letters.now c.args.bytes.now c.in_ok-terms.terms.items f c.of_terms-poly.result c.in_ok-is_text.field-0
    c.of_terms-poly.ensures same c.if-not-branch.true c.in_ok-is_text.ensures.1 h.text

pub returns-clause-text : goal.returns-clause-text
returns-clause-text c =
    let is = c.of_terms-poly.ensures in
    let known = read_vector c.args.prime c.get-p.result c.as_slice.result.now c.args.bytes.now c.in_ok-terms.terms.items c.deref.result.now
    c.get-p.ensures.value c.as_slice.ensures.known c.in_ok-terms.ensures c.deref.ensures.value (c.are_canonical.ensures.0 c.if-not-are_canonical.false) in (
      ap (λ (g : Polynomial). g.prime) is,
      subst (λ (g : Polynomial). IsPolyText c.args.prime c.args.letters.now c.args.bytes.now g.terms) (sym is)
          (
          read_text c.args.prime c.get-p.result c.args.letters.now c.as_slice.result.now c.args.bytes.now c.in_ok-terms.terms.items
          c.as_slice.ensures.value c.as_slice.ensures.known c.in_ok-terms.ensures known
          (c.in_ok-is_text.ensures.0 c.if-not-branch.false ∙ ap (λ (g : Polynomial). poly_text g.prime c.args.letters.now g.terms) is)
          ),
    )

pub returns-clause-exact : goal.returns-clause-exact
returns-clause-exact c f h =
    let same = read_is c.args.prime c.get-p.result c.args.letters.now c.as_slice.result.now c.args.bytes.now c.in_ok-terms.terms.items f
    c.get-p.ensures.value c.as_slice.ensures.value (omega (arith, c.get-p.ensures.range.1)) c.as_slice.ensures.known c.in_ok-terms.ensures h in
    inl (ap Ok (c.of_terms-poly.ensures ∙ (λ i. record { prime = c.args.prime; terms = same i })))
