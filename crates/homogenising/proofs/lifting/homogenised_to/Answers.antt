use Rattle.std.proofs.Common.{sym, ap, ◌∙◌, subst}
use Rattle.homogenising.specs.Homogenised.{homogenised_to, IsUnlifted}
use Rattle.polys.specs.Terms.{EachMono}
use Rattle.homogenising.proofs.Terms.{all_unlifted, lifted_vector, vector_of}
use Rattle.homogenising.proofs.lifting.homogenised_to.Goals as goal

pub lifted_terms-requires-clause-monos : goal.lifted_terms-requires-clause-monos
lifted_terms-requires-clause-monos c =
    subst (EachMono IsUnlifted) (sym c.terms.ensures.value) (all_unlifted c.args.f.now.prime c.args.variables c.args.f.now.terms c.requires.variables c.requires.poly)

pub of_terms-requires : goal.of_terms-requires
of_terms-requires c =
    vector_of c.args.f.now.prime c.prime.result (homogenised_to c.args.degree c.args.f.now.terms) c.in_ok-terms.terms.items
    (lifted_vector c.args.f.now.prime c.args.variables c.args.degree c.args.f.now.terms c.requires.variables c.requires.poly c.requires.no_smaller c.requires.room)
    c.prime.ensures (c.in_ok-terms.ensures ∙ ap (homogenised_to c.args.degree) c.terms.ensures.value)
