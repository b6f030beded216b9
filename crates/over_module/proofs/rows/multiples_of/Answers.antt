use Rattle.std.proofs.Common.{[], get_or, sym, subst}
use Rattle.digit_space.specs.Model.{IsDigitsOf}
use Rattle.over_module.proofs.Facts.{generator_row}
use Rattle.over_module.proofs.rows.multiples_of.Goals as goal

pub returns-clause-multiples : goal.returns-clause-multiples
returns-clause-multiples c = λ i h.
    let g = c.args.digits.now in
    let f = c.args.f.now.terms in
    let r = subst (IsDigitsOf g f) (sym c.as_slice.ensures) c.in_ok-row.ensures in
    generator_row g c.basis-basis.ensures.known f c.requires.poly c.as_slice.result.now r i h (get_or c.in_ok-rows.rows i []) (c.in_ok-rows.ensures.rows i h)
