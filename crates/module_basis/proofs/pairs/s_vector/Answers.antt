use Rattle.std.proofs.Common.{sym, ◌∙◌, subst}
use Rattle.monomials.specs.Mono.{IsMono, Divides, common_multiple}
use Rattle.monomials.proofs.Factors.{lcm_law}
use Rattle.graded_modules.specs.Vector.{lead_mono}
use Rattle.module_division.proofs.Reductions.{lead_seven}
use Rattle.module_basis.proofs.pairs.s_vector.Goals as goal

pub raised-requires-clause-divides : goal.raised-requires-clause-divides
raised-requires-clause-divides c =
    let f = c.args.f.now.terms in
    let g = c.args.g.now.terms in
    subst (Divides (lead_mono f)) (sym (c.lcm-m.ensures.value ∙ (λ i. common_multiple (c.lead_mono.ensures i) (c.lead_mono-2.ensures i))))
    (lcm_law.left (lead_mono f) (lead_mono g) (lead_seven IsMono f (λ m k. k.seven) c.requires.left.vector.monos ∙ sym (lead_seven IsMono g (λ m k. k.seven) c.requires.right.vector.monos)) c.requires.one_component)

pub raised-requires-2-clause-divides : goal.raised-requires-2-clause-divides
raised-requires-2-clause-divides c =
    let f = c.args.f.now.terms in
    let g = c.args.g.now.terms in
    subst (Divides (lead_mono g)) (sym (c.lcm-m.ensures.value ∙ (λ i. common_multiple (c.lead_mono.ensures i) (c.lead_mono-2.ensures i))))
    (lcm_law.right (lead_mono f) (lead_mono g) (lead_seven IsMono f (λ m k. k.seven) c.requires.left.vector.monos ∙ sym (lead_seven IsMono g (λ m k. k.seven) c.requires.right.vector.monos)) c.requires.one_component)
