use Rattle.std.proofs.Common.{◌≡◌, ◌*◌, ◌≤◌, length, sym, ap₂, ◌∙◌, subst}
use Rattle.std.specs.List.{All, Contains}
use Rattle.std.proofs.lemmas.List.Elements.{All-contains_itself}
use Rattle.prime_field.specs.Primes.{IsPrime}
use Rattle.polys.specs.Curve.{data_of}
use Rattle.digit_plan.specs.Lifts.{curve_of_lifted}
use Rattle.digit_plan.specs.Planned.{AreFirstProducts, AreRulesIn}
use Rattle.digit_plan.specs.Playing.{AreClosed}
use Rattle.digit_plan.proofs.Made.{plan_by}
use Rattle.digit_plan.proofs.Corners.{closed_of, few_corners}
use Rattle.digit_plan.proofs.making.plan_of.Goals as goal

pub play_of-requires-clause-closed : goal.play_of-requires-clause-closed
play_of-requires-clause-closed c =
    let curve = c.args.curve.now.value in
    let l = c.requires.lifted in
    let prime = subst IsPrime l.prime c.ideal_basis-basis.ensures.known.prime in
    subst (λ z. AreClosed z c.args.corners) (sym l.variables)
    (closed_of (data_of curve) c.args.corners c.requires.corners c.requires.fit.six_variables (few_corners curve prime c.requires.fit c.args.corners c.requires.corners))

pub products_of-requires-clause-corners : goal.products_of-requires-clause-corners
products_of-requires-clause-corners c =
    subst (λ z. AreClosed z c.as_slice.result.now) (sym c.variables.ensures) (subst (AreClosed c.args.lifted.now.variables) (sym c.as_slice.ensures) c.in_ok-play.ensures.play.closed)

pub rules_of-requires-clause-each : goal.rules_of-requires-clause-each
rules_of-requires-clause-each c = let border = c.in_ok-play.play.border in subst (All (Contains border)) (sym c.as_slice-3.ensures) (All-contains_itself border)

pub rules_of-requires-2-clause-each : goal.rules_of-requires-2-clause-each
rules_of-requires-2-clause-each c = let outer = c.in_ok-play.play.outer in subst (All (Contains outer)) (sym c.as_slice-4.ensures) (All-contains_itself outer)

pub returns-clause-plan : goal.returns-clause-plan
returns-clause-plan c =
    let A = curve_of_lifted c.args.lifted.now in
    let play = c.in_ok-play.play in
    let p : c.get-p.result ≡ c.args.lifted.now.prime = c.get-p.ensures.value ∙ c.prime.ensures in
    plan_by c.args.curve.now.value c.args.lifted.now _ c.args.corners c.requires.lifted c.ideal_basis-basis.ensures.known.prime (subst (λ z. z ≤ 32003) p c.get-p.ensures.range.1) c.requires.fit
    c.in_ok-curve.ensures c.requires.corners c.in_ok-play.ensures.corners c.requires.some c.in_ok-play.ensures.affine c.in_ok-play.ensures.play.outer.affine
    (record {
      count = c.in_ok-products.ensures.count ∙ ap₂ (λ n ms. n * length ms) c.variables.ensures c.as_slice.ensures;
      each = subst (λ z. AreFirstProducts z play.border c.in_ok-products.products) c.as_slice.ensures
          (subst (λ z. AreFirstProducts c.as_slice.result.now z c.in_ok-products.products) c.as_slice-2.ensures c.in_ok-products.ensures.each);
    })
    (subst (λ z. AreRulesIn A play.corners play.border play.outer z c.in_ok-border_rules.border_rules) c.as_slice-3.ensures c.in_ok-border_rules.ensures.rules)
    (subst (λ z. AreRulesIn A play.corners play.border play.outer z c.in_ok-outer_rules.outer_rules) c.as_slice-4.ensures c.in_ok-outer_rules.ensures.rules)
    (record { corners = c.in_ok-play.ensures.play.closed.rising; around = c.in_ok-play.ensures.play.border.rising; further = c.in_ok-play.ensures.play.outer.rising })
    (λ m k. ((c.in_ok-play.ensures.play.border.members m).0 k).2.outside)
    c.in_ok-border_rules.ensures.inner c.in_ok-outer_rules.ensures.inner
