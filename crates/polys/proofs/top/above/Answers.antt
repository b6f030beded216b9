use Rattle.std.proofs.Common.{arith, refl, sym, subst}
use Rattle.polys.specs.Top.{Above}
use Rattle.polys.proofs.Each.{every_more_item}
use Rattle.polys.proofs.Tops.{rest_below}
use Rattle.polys.proofs.top.above.Goals as goal

pub loop-n-preserved : goal.loop-n-preserved
loop-n-preserved c = record {
  inside = omega arith;
  above =
      every_more_item (Above c.args.cut.now) c.args.terms.now c.loop-n.n c.index-terms-n.result (omega arith) c.index-terms-n.is c.loop-n.invariant.above
      (subst (λ t. Above c.args.cut.now t.mono) (sym c.index-terms-n.is) (c.if-is_above.ensures.0 refl));
}

pub returns-else-is_above-clause-rest : goal.returns-else-is_above-clause-rest
returns-else-is_above-clause-rest c =
    rest_below c.args.p c.args.cut.now c.args.terms.now c.loop-n.n c.index-terms-n.result c.requires.canonical (omega arith) c.index-terms-n.is
    (subst (λ t. Above c.args.cut.now t.mono → ⊥) (sym c.index-terms-n.is) (λ a. (let e = c.if-is_above.ensures.1 a in absurd (cc))))
