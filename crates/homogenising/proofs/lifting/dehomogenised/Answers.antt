use Rattle.std.proofs.Common.{sym, ap, ◌∙◌}
use Rattle.homogenising.specs.Homogenised.{without_hom}
use Rattle.homogenising.proofs.Lifted.{lowered}
use Rattle.homogenising.proofs.Terms.{lowered_vector, vector_of}
use Rattle.homogenising.proofs.lifting.dehomogenised.Goals as goal

pub of_terms-requires : goal.of_terms-requires
of_terms-requires c =
    vector_of c.args.f.now.prime c.prime.result (without_hom c.args.f.now.terms) c.in_ok-terms.terms.items
    (lowered_vector c.args.f.now.prime c.args.variables c.args.f.now.terms c.requires.variables c.requires.homogeneous c.terms.ensures.known)
    c.prime.ensures (c.in_ok-terms.ensures ∙ ap without_hom c.terms.ensures.value)

pub returns-clause-terms : goal.returns-clause-terms
returns-clause-terms c =
    ap (λ f. f.terms) c.of_terms.ensures ∙ c.in_ok-terms.ensures ∙ ap without_hom c.terms.ensures.value
    ∙ sym (lowered c.args.f.now.prime c.args.variables c.requires.variables c.args.f.now.terms c.requires.homogeneous)
