use Rattle.std.proofs.Common.{◌≡◌, subst, sym, refl, rules, ◌∙◌}
use Rattle.std.proofs.lemmas.List.{take_all}
use Rattle.monomials.specs.Mono.{IsMono}
use Rattle.polys.specs.Terms.{EachMono, IsAffine}
use Rattle.polys.proofs.Affine.{affine_mono, affine_hom}
use Rattle.polys.proofs.Each.{every_more_item}
use Rattle.polys.proofs.Merge.{mono_at}
use Rattle.polys.proofs.terms.is_affine.Goals as goal
use Rattle.polys.proofs.terms.is_affine.Goals.{then-hom-ne0-via-then-hom-ne0, then-hom-ne0-via-else-hom-ne0+then-component-ne0}

pub loop-t-preserved : goal.loop-t-preserved
loop-t-preserved c =
    let t = c.t-item.result in
    let known = mono_at IsMono c.args.a.now c.loop-t.t-index t c.requires c.loop-t-test.true c.t-item.is in
    every_more_item (IsAffine 6) c.args.a.now c.loop-t.t-index t c.loop-t-test.true c.t-item.is c.loop-t.invariant
    (affine_mono t.mono known (sym c.hom.ensures ∙ c.if-hom-ne0.false) (sym c.component.ensures ∙ c.if-component-ne0.false))

pub returns-then-hom-ne0 : goal.returns-then-hom-ne0
returns-then-hom-ne0 c = (
  search rules,
  λ h.
      let t = c.t-item.result in
      let a = mono_at (IsAffine 6) c.args.a.now c.loop-t.t-index t h c.loop-t-test.true c.t-item.is in
      let hom : c.hom.result ≡ 0 = c.hom.ensures ∙ affine_hom t.mono a in
      let plain : t.mono.component ≡ 0 = a.plain in
      absurd (elim c.then-hom-ne0.branch as (λ _. ⊥) [
        | then-hom-ne0-via-then-hom-ne0 w ↦ w.if-hom-ne0.true hom
        | then-hom-ne0-via-else-hom-ne0+then-component-ne0 w ↦ w.if-component-ne0.true (w.component.ensures ∙ plain)
      ]),
)

pub returns : goal.returns
returns c = (λ h. subst (EachMono (IsAffine 6)) (take_all c.loop-t.t-index c.args.a.now c.loop-t-test.false) c.loop-t.invariant, λ h. refl)
