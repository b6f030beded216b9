use Rattle.std.proofs.Common.{arith, subst, refl, rules}
use Rattle.std.proofs.lemmas.List.{take_all}
use Rattle.polys.specs.Terms.{EachMono}
use Rattle.polys.specs.Poly.{IsPlain}
use Rattle.polys.proofs.Each.{every_more_item}
use Rattle.polys.proofs.Merge.{mono_at}
use Rattle.polys.proofs.terms.is_plain.Goals as goal

pub loop-t-preserved : goal.loop-t-preserved
loop-t-preserved c =
    every_more_item IsPlain c.args.a.now c.loop-t.t-index c.t-item.result c.loop-t-test.true c.t-item.is c.loop-t.invariant (omega arith)

pub returns-then-component-ne0 : goal.returns-then-component-ne0
returns-then-component-ne0 c = (
  search rules,
  λ h. let z = mono_at IsPlain c.args.a.now c.loop-t.t-index c.t-item.result h c.loop-t-test.true c.t-item.is in absurd (omega arith),
)

pub returns : goal.returns
returns c = (λ h. subst (EachMono IsPlain) (take_all c.loop-t.t-index c.args.a.now c.loop-t-test.false) c.loop-t.invariant, λ h. refl)
