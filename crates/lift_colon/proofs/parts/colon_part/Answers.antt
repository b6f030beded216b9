use Rattle.std.proofs.Common.{◌+◌, take, refl, sym, ◌∙◌, subst}
use Rattle.lift_colon.proofs.Members.{AreColons, second_at, colon_turn, colon_left}
use Rattle.lift_colon.proofs.parts.colon_part.Goals.{then-not-is_first+in_ok-second_part+in_ok-dehomogenised+in_ok-push, else-not-is_first}
use Rattle.lift_colon.proofs.parts.colon_part.Goals as goal

pub dehomogenised-requires-clause-homogeneous : goal.dehomogenised-requires-clause-homogeneous
dehomogenised-requires-clause-homogeneous c =
    second_at c.args.prime c.args.variables c.requires.vectors.0 c.args.vectors.now c.loop-v.v-index c.v-item.result c.in_ok-second_part.field-0.prime c.in_ok-second_part.field-0.terms
    c.requires.vectors.1 c.loop-v-test.true c.v-item.is c.in_ok-second_part.ensures.prime c.in_ok-second_part.ensures.terms

pub loop-v-preserved : goal.loop-v-preserved
loop-v-preserved c =
    elim c.if-not-is_first.branch [
      | then-not-is_first+in_ok-second_part+in_ok-dehomogenised+in_ok-push w ↦
          colon_turn c.args.prime c.args.variables c.requires.vectors.0 c.args.vectors.now c.requires.vectors.1 c.loop-v.v-index c.v-item.result c.loop-v-test.true c.v-item.is
          w.in_ok-second_part.field-0 w.in_ok-dehomogenised.field-0 w.in_ok-second_part.ensures.prime w.in_ok-dehomogenised.ensures.prime w.in_ok-dehomogenised.ensures.terms
          c.loop-v.parts c.if-not-is_first.parts w.in_ok-second_part.ensures.terms c.loop-v.invariant (λ z. (let q = w.if-not-is_first.ensures.1 z in absurd (cc))) (w.parts-is ∙ w.in_ok-push.ensures.ok)
      | else-not-is_first w ↦
          subst (λ ps. AreColons c.args.prime ps (take (c.loop-v.v-index + 1) c.args.vectors.now)) (sym w.parts-is)
          (colon_left c.args.prime c.loop-v.parts c.args.vectors.now c.loop-v.v-index c.v-item.result c.loop-v-test.true c.v-item.is c.loop-v.invariant (w.if-not-is_first.ensures.0 refl))
    ]
