use Rattle.std.proofs.Common.{◌-◌, subst, sym}
use Rattle.std.proofs.lemmas.List.Elements.{All-nil}
use Rattle.polys.specs.Curve.{data_of}
use Rattle.standard_monomials.specs.Standard.{polynomial_of}
use Rattle.digit_laws.specs.Digits.{AreDigits}
use Rattle.digit_space.specs.Model.{DigitData, HasOuterRows}
use Rattle.digit_space.proofs.Kept.{tables_kept}
use Rattle.digit_space.proofs.digits.Digits.of_tables.Goals as goal

pub invariant_of-result : goal.invariant_of-result
invariant_of-result c =
    let g : DigitData = record { curve = c.args.curve.value; basis = c.args.basis; depth = c.args.depth } in (
      c.requires.space,
      tables_kept g c.args.tables c.into_vec-border.result.items c.into_vec-border.ensures c.requires.tables,
      subst (HasOuterRows g) (sym c.new.ensures) (All-nil (λ r. AreDigits (data_of g.curve) g.basis (g.depth - 1) (polynomial_of r.monomial) r.digits)),
    )
