use Rattle.std.proofs.Common.{◌≡◌, ◌∷◌, sym, subst, arith}
use Rattle.std.specs.List.{All}
use Rattle.std.proofs.lemmas.Grind.{common_steps}
use Rattle.denominator_module.specs.Module.{module_of}
use Rattle.module_basis.specs.Gens.{IsHomogeneousOver}
use Rattle.polys.specs.Poly.{terms_of}
use Rattle.lift_colon.proofs.Vectors.{module_over, all_at}
use Rattle.lift_colon.proofs.parts.module_gens.Goals as goal

pub returns-clause-gens : goal.returns-clause-gens
returns-clause-gens c =
    let u = c.in_ok-unit_vector.field-0 in
    let g = c.in_ok-gens.gens in
    let whole : c.append.new.self ≡ u ∷ g.vectors = grind (arith, common_steps) in
    let ring = c.in_ok-gens.ensures.ring in
    let over = all_at g.prime c.args.prime g.variables c.args.variables g.shift 0 g.vectors ring.0 ring.1 ring.2 c.in_ok-gens.ensures.gens.vectors in
    let lists : terms_of (u ∷ g.vectors) ≡ module_of c.args.d.now.terms (terms_of c.args.ideal.now) =
    λ i. c.in_ok-unit_vector.ensures.terms i ∷ c.in_ok-gens.ensures.vectors i
    in
    record {
      some_variables = c.requires.some_variables;
      six_variables = c.requires.six_variables;
      vectors = subst (λ s. All (IsHomogeneousOver c.args.prime c.args.variables s) c.append.new.self) (sym c.degree.ensures)
          (subst (All (IsHomogeneousOver c.args.prime c.args.variables _)) (sym whole)
          (module_over c.args.prime c.args.variables c.requires.six_variables c.requires.prime c.args.d.now c.args.ideal.now u g.vectors c.requires.denominator c.requires.ideal
          c.in_ok-unit_vector.ensures.prime over lists));
    }
