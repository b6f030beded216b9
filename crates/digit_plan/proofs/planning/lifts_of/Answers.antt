use Rattle.std.proofs.Common.{◌≡◌, ℕ, ◌+◌, ◌<◌, ◌≤◌, ◌∷◌, length, get_or, refl, sym, ap, ◌∙◌, subst, arith}
use Rattle.std.specs.Option.{IfSome, IsNone}
use Rattle.std.proofs.lemmas.List.{length_push}
use Rattle.polys.specs.Ideal.{InIdeal}
use Rattle.polys.specs.Poly.{Polynomial, terms_of}
use Rattle.polys.specs.Terms.{degree_of}
use Rattle.lift_colon.specs.Lifted.{IsLift}
use Rattle.digit_plan.proofs.Leads.{lifts_push, low_read, members}
use Rattle.digit_plan.proofs.planning.lifts_of.Goals as goal

pub lift-requires-clause-room : goal.lift-requires-clause-room
lift-requires-clause-room c =
    let low = low_read (λ f. degree_of f ≤ 1000) c.args.lifted.now.sum c.sum_basis-basis.result.now c.loop-i.i c.index-basis-i.result c.sum_basis-basis.ensures.known.sum_low c.sum_basis-basis.ensures.value c.loop-i-test.true
    c.index-basis-i.is in
    omega (arith, low)

-- a member of the basis has a lift
pub unreachable-requires : goal.unreachable-requires
unreachable-requires c =
    let l = c.args.lifted.now in
    c.in_ok-lift.ensures.none.0 (subst IsNone (sym c.in-None.is) refl)
    (low_read (InIdeal l.prime l.variables (l.denominator.terms ∷ terms_of l.ideal)) l.sum c.sum_basis-basis.result.now c.loop-i.i c.index-basis-i.result (members l c.sum_basis-basis.ensures.known)
    c.sum_basis-basis.ensures.value c.loop-i-test.true c.index-basis-i.is)

pub loop-i-preserved : goal.loop-i-preserved
loop-i-preserved c =
    let l = c.args.lifted.now in
    let ok = c.in_ok-push-in-Some.ensures.ok in
    let new = subst (λ z. IfSome z (λ u. (u.prime ≡ l.prime) × IsLift l c.index-basis-i.result.terms u.terms)) c.in-Some.is c.in_ok-lift.ensures.some in
    record {
      count = ap length ok ∙ length_push c.loop-i.lifts c.in-Some.lift ∙ ap (λ z. z + 1) c.loop-i.invariant.count;
      each = subst (λ z. (j : ℕ) (d e : Polynomial) → j < length z → ((get_or z j d).prime ≡ l.prime) × IsLift l (get_or l.sum j e).terms (get_or z j d).terms) (sym ok)
          (lifts_push l c.loop-i.lifts c.sum_basis-basis.result.now c.loop-i.i c.in-Some.lift c.index-basis-i.result c.loop-i.invariant.count c.sum_basis-basis.ensures.value c.loop-i-test.true c.index-basis-i.is
          c.loop-i.invariant.each new);
    }
