use Rattle.std.proofs.Common.{◌++◌, sym, ap}
use Rattle.std.proofs.lemmas.Result.{err_from_is_err_and}
use Rattle.poly_text.specs.PolyText.{term_text}
use Rattle.poly_text.specs.Parts.{sign_text}
use Rattle.poly_text.proofs.Fronts.{front_first, prints_behind}
use Rattle.poly_text.proofs.printing.print_signed.Goals as goal

pub returns-in_err-print_sign : goal.returns-in_err-print_sign
returns-in_err-print_sign c =
    let p = err_from_is_err_and c.from_residual.result c.from_residual.ensures.1 in
    rw p.1 (front_first _ _ _ _ _
    (ap (λ b. sign_text c.args.is_first b ++ term_text c.args.prime c.args.letters.now c.args.term.now) (sym c.shown-is_negative.ensures.negative))
    c.in_err-print_sign.ensures)

pub returns : goal.returns
returns c = prints_behind _ _ _ _ _ _ _ c.in_ok-print_sign.ensures
    (ap (λ b. sign_text c.args.is_first b ++ term_text c.args.prime c.args.letters.now c.args.term.now) (sym c.shown-is_negative.ensures.negative))
    c.print_term.ensures
