use Rattle.std.proofs.Common.{◌≡◌, take}
use Rattle.std.specs.List.{Contains}
use Rattle.polys.specs.Terms.{EachMono}
use Rattle.digit_plan.specs.Planned.{AreInner, AreSharesIn, terms_in}
use Rattle.digit_plan.proofs.rules.shares_of.Given as goal

abbrev pub invariant-loop-i : goal.invariant-loop-i
invariant-loop-i l = record {
  shares : AreSharesIn l.f.prime l.play.corners l.play.border l.play.outer l.shares;
  terms : terms_in l.play.corners l.play.border l.play.outer l.shares ≡ take l.i l.terms;
  inner : EachMono (Contains l.play.corners) l.f.terms → AreInner l.play.corners l.shares;
}
