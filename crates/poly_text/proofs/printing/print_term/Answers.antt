use Rattle.std.proofs.Common.{sym, ap, ◌∙◌}
use Rattle.std.proofs.lemmas.Result.{err_from_is_err_and}
use Rattle.poly_text.specs.PolyText.{size_text, factors}
use Rattle.poly_text.proofs.Fronts.{front_first, prints_behind}
use Rattle.poly_text.proofs.Texts.{size_text-parts}
use Rattle.poly_text.proofs.printing.print_term.Goals as goal

pub returns-in_err-print_size : goal.returns-in_err-print_size
returns-in_err-print_size c =
    let p = err_from_is_err_and c.from_residual.result c.from_residual.ensures.1 in
    rw p.1 (front_first _ _ _ _ _
    (ap (λ n. size_text n (factors c.args.letters.now c.args.term.now.mono.exponents)) (sym c.shown-size.ensures.size)
    ∙ size_text-parts c.shown-size.result.1 c.args.letters.now c.args.term.now.mono.exponents c.is_left_out-is_bare.result c.is_left_out-is_bare.ensures)
    c.in_err-print_size.ensures)

pub returns : goal.returns
returns c = prints_behind _ _ _ _ _ _ _ c.in_ok-print_size.ensures
    (ap (λ n. size_text n (factors c.args.letters.now c.args.term.now.mono.exponents)) (sym c.shown-size.ensures.size)
    ∙ size_text-parts c.shown-size.result.1 c.args.letters.now c.args.term.now.mono.exponents c.is_left_out-is_bare.result c.is_left_out-is_bare.ensures)
    c.print_factors.ensures
