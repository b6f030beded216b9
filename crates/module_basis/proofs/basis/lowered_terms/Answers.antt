use Rattle.std.proofs.Common.{◌∷◌, [], map, sym, ap, ◌∙◌, subst}
use Rattle.std.proofs.lemmas.List.{take_all}
use Rattle.monomials.specs.Mono.{IsMono}
use Rattle.polys.specs.Terms.{EachMono}
use Rattle.polys.proofs.Each.{every_append}
use Rattle.polys.proofs.Products.{map_more}
use Rattle.module_basis.specs.Basis.{lowered}
use Rattle.module_basis.proofs.basis.lowered_terms.Goals as goal

pub loop-t-preserved : goal.loop-t-preserved
loop-t-preserved c = record {
  so_far = map_more lowered c.terms-source.result.now c.loop-t.terms.items c.push.new.self.items c.loop-t.t-index c.t-item.result c.lowered_term.result c.loop-t-test.true c.t-item.is c.loop-t.invariant.so_far
      c.lowered_term.ensures.value c.in_ok-push.ensures.items;
  monos = subst (EachMono IsMono) (sym c.in_ok-push.ensures.items) (every_append IsMono c.loop-t.terms.items (c.lowered_term.result ∷ []) c.loop-t.invariant.monos (c.lowered_term.ensures.known, tt));
}

pub returns-clause-value : goal.returns-clause-value
returns-clause-value c =
    c.loop-t.invariant.so_far ∙ ap (map lowered) (take_all c.loop-t.t-index c.terms-source.result.now c.loop-t-test.false) ∙ ap (map lowered) c.terms-source.ensures.value
