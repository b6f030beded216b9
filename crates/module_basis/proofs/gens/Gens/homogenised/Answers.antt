use Rattle.std.proofs.Common.{map, sym, ap, ◌∙◌, subst}
use Rattle.std.specs.List.{All}
use Rattle.std.proofs.lemmas.List.{take_all}
use Rattle.polys.specs.Poly.{IsPlain, terms_of}
use Rattle.polys.specs.Terms.{EachMono}
use Rattle.module_basis.specs.Gens.{IsHomogeneousOver, homogenised_of}
use Rattle.module_basis.proofs.Ideals.{lists_homogenised, homogenised_gens, homogenised_plain}
use Rattle.module_basis.proofs.gens.Gens.homogenised.Goals as goal

pub returns-clause-vectors : goal.returns-clause-vectors
returns-clause-vectors c =
    let e = c.loop-f.invariant ∙ ap (map (homogenised_of c.args.prime)) (take_all c.loop-f.f-index c.args.ideal.now c.loop-f-test.false) in
    ap terms_of e ∙ lists_homogenised c.args.prime c.args.ideal.now

pub returns-clause-gens : goal.returns-clause-gens
returns-clause-gens c =
    let e = c.loop-f.invariant ∙ ap (map (homogenised_of c.args.prime)) (take_all c.loop-f.f-index c.args.ideal.now c.loop-f-test.false) in
    record {
      some_variables = c.requires.some_variables;
      six_variables = c.requires.six_variables;
      vectors = subst (All (IsHomogeneousOver c.args.prime c.args.variables 0)) (sym e) (homogenised_gens c.homogenising_is_undone.ensures c.args.prime c.args.variables c.args.ideal.now c.requires.six_variables c.requires.ideal);
    }

pub returns-clause-plain : goal.returns-clause-plain
returns-clause-plain c =
    let e = c.loop-f.invariant ∙ ap (map (homogenised_of c.args.prime)) (take_all c.loop-f.f-index c.args.ideal.now c.loop-f-test.false) in
    subst (λ fs. All (EachMono IsPlain) (terms_of fs)) (sym e) (homogenised_plain c.homogenising_is_undone.ensures c.args.prime c.args.variables c.args.ideal.now c.requires.six_variables c.requires.ideal)
