use Rattle.poly_text.proofs.Fronts.{prints_behind}
use Rattle.poly_text.proofs.Texts.{factor_text-some}
use Rattle.poly_text.proofs.printing.print_factor.Goals as goal

pub returns : goal.returns
returns c = prints_behind _ _ _ _ _ _ _ c.in_ok-print_star.ensures (factor_text-some c.args.is_first c.args.letter c.args.exponent c.if-exponent-eq0.false) c.print_power.ensures
