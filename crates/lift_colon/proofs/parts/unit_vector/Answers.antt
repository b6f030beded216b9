use Rattle.std.proofs.Common.{◌≡◌, sym, subst, arith}
use Rattle.std.proofs.lemmas.Grind.{common_steps}
use Rattle.denominator_module.specs.Module.{with_unit}
use Rattle.polys.specs.Poly.{IsVector}
use Rattle.lift_colon.proofs.Vectors.{unit_is_vector}
use Rattle.lift_colon.proofs.parts.unit_vector.Goals as goal

pub of_terms-requires : goal.of_terms-requires
of_terms-requires c =
    let e : c.push.new.self.items ≡ with_unit c.args.d.now.terms = grind (arith, common_steps) in
    subst (IsVector c.args.prime) (sym e)
    (unit_is_vector c.args.prime c.args.variables c.requires.variables c.requires.prime c.args.d.now.terms c.requires.denominator.poly c.requires.room)
