use Rattle.std.proofs.Common.{◌≡◌, ◌+◌, [], take, sym, subst}
use Rattle.std.specs.List.{Contains}
use Rattle.std.proofs.lemmas.List.Elements.{All-push}
use Rattle.monomials.specs.Mono.{Monomial}
use Rattle.polys.specs.Terms.{EachMono, IsCanonical}
use Rattle.digit_plan.specs.Playing.{IsInPlay}
use Rattle.digit_plan.proofs.Playing.{each_mono_at}
use Rattle.digit_plan.specs.Planned.{AreInner, AreSharesIn, IsPlaceIn, terms_in}
use Rattle.digit_plan.proofs.Found.{shares_push}
use Rattle.digit_plan.proofs.rules.shares_of.Goals as goal

pub loop-i-preserved : goal.loop-i-preserved
loop-i-preserved c =
    let play = c.args.play.now in
    let ts = c.terms-terms.result.now in
    let p = c.args.f.now.prime in
    let k = shares_push p play.corners play.border play.outer c.loop-i.shares ts c.loop-i.i c.index-terms-i.result c.place_of.result
    (subst (IsCanonical p) (sym c.terms-terms.ensures.value) c.terms-terms.ensures.known.canonical) c.loop-i-test.true c.index-terms-i.is (c.place_of.ensures.place, c.place_of.ensures.monomial) c.loop-i.invariant.shares c.loop-i.invariant.terms in
    record {
      shares = subst (AreSharesIn p play.corners play.border play.outer) (sym c.in_ok-push.ensures.ok) k.0;
      terms = subst (λ z. terms_in play.corners play.border play.outer z ≡ take (c.loop-i.i + 1) ts) (sym c.in_ok-push.ensures.ok) k.1;
      inner = λ h. subst (AreInner play.corners) (sym c.in_ok-push.ensures.ok)
          (All-push (λ s. IsPlaceIn play.corners [] [] s.place) c.loop-i.shares (record { coeff = c.index-terms-i.result.coeff; place = c.place_of.result }) (c.loop-i.invariant.inner h)
          (c.place_of.ensures.inner
          (each_mono_at (Contains play.corners) ts c.loop-i.i c.index-terms-i.result c.loop-i-test.true c.index-terms-i.is (subst (EachMono (Contains play.corners)) (sym c.terms-terms.ensures.value) h))));
    }

pub place_of-requires-clause-known : goal.place_of-requires-clause-known
place_of-requires-clause-known c =
    let play = c.args.play.now in
    let P = λ (z : Monomial). IsInPlay play.corners play.border play.outer z in
    each_mono_at P c.terms-terms.result.now c.loop-i.i c.index-terms-i.result c.loop-i-test.true c.index-terms-i.is (subst (EachMono P) (sym c.terms-terms.ensures.value) c.requires.known)
