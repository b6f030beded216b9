use Rattle.std.proofs.Common.{◌≡◌, ◌≢◌, ◌+◌, ◌*◌, ◌<◌, ◌≤◌, true, false, arith, refl, sym, ap, subst, ◌∙◌}
use Rattle.polys.specs.Curve.{data_of}
use Rattle.curve_model.specs.Delta.{IsDeltaAbove}
use Rattle.curve_model.specs.Point.{basis_of}
use Rattle.digit_plan.specs.Lifts.{IsLiftedOf}
use Rattle.over_laws.specs.Chain.{IsEnlarged, rank}
use Rattle.over_module.specs.Done.{HoldsLocal}
use Rattle.stratum_chain.specs.Chain.{ChainData, IsChain, IsFinishedWork, IsMore, IsWhole, AreOfCurve}
use Rattle.stratum_chain.proofs.Enlarging.{is_full, is_above, not_above, goes_on, enlarged_least, larger, within, no_less, high}
use Rattle.stratum_chain.proofs.chain.Chain.grow.Goals as goal
use Rattle.stratum_chain.proofs.chain.Chain.grow.Goals.{After-dimension-reached, After-power}

-- the next ring, over the chain as it was
enlarged : (c : After-dimension-reached) → IsEnlarged c.self.inside.over (basis_of c.self.inside.point) c.in_ok-next.next
enlarged c = subst (λ z. IsEnlarged z.over (basis_of z.point) c.in_ok-next.next) (sym c.self.view_is) c.in_ok-next.ensures.enlarged

pub too_large-requires : goal.too_large-requires
too_large-requires c =
    let d = (goal.at.too_large-requires c).After-dimension-reached in
    let s = c.self.inside in
    let chain = c.self.invariant.0 in
    let more : c.self.inside.limit < rank c.in_ok-next.next = let e = c.dimension-reached.ensures.rows in let t = c.if-reached-self.true in omega arith in
    subst (λ z. IsDeltaAbove (data_of z.over.curve) (basis_of z.point) z.limit) c.self.view_is
    (is_above c.chains_are_steps.ensures.step s.over c.in_ok-next.next s.point s.limit c.rows-old.ensures.known c.rows-next.ensures.known chain.point chain.local (enlarged d) more)

pub finished-requires : goal.finished-requires
finished-requires c =
    let d = (goal.at.finished-requires c).After-dimension-reached in
    let s = c.self.inside in
    let chain = c.self.invariant.0 in
    let le : rank c.in_ok-next.next ≤ c.self.inside.limit = let e = c.dimension-reached.ensures.rows in let t = c.if-reached-self.false in omega arith in
    let same : rank c.in_ok-next.next ≡ rank c.self.inside.over = sym c.dimension-reached.ensures.rows ∙ c.if-reached-dimension.true ∙ c.dimension.ensures.rows in
    subst (λ z. HoldsLocal z.over.curve z.point z.limit z.over) c.self.view_is
    (is_full c.chains_are_steps.ensures.step s.over c.in_ok-next.next s.point s.limit c.rows-old.ensures.known c.rows-next.ensures.known chain.point chain.local (enlarged d) le same)

pub returns-then-reached-dimension-clause-step : goal.returns-then-reached-dimension-clause-step
returns-then-reached-dimension-clause-step c =
    let d = (goal.at.returns-then-reached-dimension-clause-step c).After-dimension-reached in
    let s = c.self.inside in
    let chain = c.self.invariant.0 in
    let le : rank c.in_ok-next.next ≤ c.self.inside.limit = let e = c.dimension-reached.ensures.rows in let t = c.if-reached-self.false in omega arith in
    let done = subst (λ z. IsFinishedWork z c.in_ok-done-2.done) (sym c.self.view_is) c.in_ok-done-2.ensures in
    let new : ChainData = record { point = s.point; stratum = s.stratum; limit = s.limit; digits = s.digits.value; over = s.over; whole = true } in
    subst (λ z. IsWhole z new c.in_ok-done-2.done) c.self.view_is (record {
      work = record { curve = refl; point = refl; stratum = refl; limit = refl };
      done = done.0;
      too_large = (
        (λ e. absurd (done.1 e)),
        λ t.
            absurd (not_above c.chains_are_steps.ensures.step s.over c.in_ok-next.next s.point s.limit c.rows-old.ensures.known c.rows-next.ensures.known chain.point chain.local (enlarged d)
            c.chains_are_steps.ensures.one le t),
      );
      closed = refl;
    })

-- ---- a larger ring within the limit

enlarged_next : (c : After-power) → IsEnlarged c.self.inside.over (basis_of c.self.inside.point) c.in_ok-next.next
enlarged_next c = subst (λ z. IsEnlarged z.over (basis_of z.point) c.in_ok-next.next) (sym c.self.view_is) c.in_ok-next.ensures.enlarged

power_next : (c : After-power) → c.in_ok-next.next.power ≡ c.self.inside.over.power + 1
power_next c = subst (λ z. c.in_ok-next.next.power ≡ z.over.power + 1) (sym c.self.view_is) c.in_ok-next.ensures.power

rank_within : (c : After-power) → rank c.in_ok-next.next ≤ c.self.inside.limit
rank_within c = let e = c.dimension-reached.ensures.rows in let t = c.if-reached-self.false in omega arith

rank_other : (c : After-power) → rank c.in_ok-next.next ≢ rank c.self.inside.over
rank_other c e = c.if-reached-dimension.false (c.dimension-reached.ensures.rows ∙ e ∙ sym c.dimension.ensures.rows)

enlarged_to : (c : After-power) → IsEnlarged c.self.inside.over (basis_of c.self.inside.point) c.in_ok-over.over
enlarged_to c =
    let s = c.self.inside in
    let chain = c.self.invariant.0 in
    enlarged_least c.chains_are_steps.ensures.step s.over c.in_ok-next.next c.in_ok-over.over s.point s.limit c.rows-old.ensures.known c.rows-next.ensures.known c.rows-least.ensures.known
    chain.point chain.local (enlarged_next c) c.in_ok-over.ensures.curve c.in_ok-over.ensures.same c.in_ok-over.ensures.dimension c.in_ok-over.ensures.power (power_next c) chain.least chain.low_power
    (rank_within c) (rank_other c)

record Grown (c : After-power) : Type 0 where
  pub larger : rank c.self.inside.over < rank c.in_ok-over.over
  pub within : rank c.in_ok-over.over ≤ c.self.inside.limit
  pub no_less : c.self.inside.over.power ≤ c.in_ok-over.over.power
  pub high : c.in_ok-over.over.power ≤ rank c.in_ok-over.over

grown : (c : After-power) → Grown c
grown c =
    let s = c.self.inside in
    let chain = c.self.invariant.0 in
    let step = c.chains_are_steps.ensures.step in
    let q = c.in_ok-next.next in
    let r = c.in_ok-over.over in
    let ho = c.rows-old.ensures.known in
    let hq = c.rows-next.ensures.known in
    let hr = c.rows-least.ensures.known in
    let e = enlarged_next c in
    let m = c.in_ok-over.ensures in
    record {
      larger = larger step s.over q r s.point s.limit ho hq hr chain.point chain.local e m.curve m.same m.dimension m.power (power_next c) chain.least chain.low_power (rank_within c) (rank_other c);
      within = within step s.over q r s.point s.limit ho hq hr chain.point chain.local e m.curve m.same m.dimension m.power (power_next c) chain.least chain.low_power (rank_within c) (rank_other c);
      no_less = no_less step s.over q r s.point s.limit ho hq hr chain.point chain.local e m.curve m.same m.dimension m.power (power_next c) chain.least chain.low_power (rank_within c) (rank_other c);
      high = high step s.over q r s.point s.limit ho hq hr chain.point chain.local e m.curve m.same m.dimension m.power (power_next c) chain.least chain.low_power (rank_within c) (rank_other c);
    }

pub digits_for-requires-clause-grows : goal.digits_for-requires-clause-grows
digits_for-requires-clause-grows c =
    let d = (goal.at.digits_for-requires-clause-grows c).After-power in
    subst (λ z. z.over.power ≤ c.power.result) c.self.view_is
    (let a : c.self.inside.over.power ≤ c.in_ok-over.over.power = (grown d).no_less in let p : c.power.result ≡ c.in_ok-over.over.power = c.power.ensures in
    let z : c.self.inside.over.power ≤ c.power.result = omega arith in z)

pub digits_for-requires-clause-low : goal.digits_for-requires-clause-low
digits_for-requires-clause-low c =
    let d = (goal.at.digits_for-requires-clause-low c).After-power in
    let a : c.in_ok-over.over.power ≤ rank c.in_ok-over.over = (grown d).high in
    let b : rank c.in_ok-over.over ≤ c.self.inside.limit = (grown d).within in
    let l : c.self.inside.limit ≤ 64 = c.self.invariant.0.low_limit in
    let p : c.power.result ≡ c.in_ok-over.over.power = c.power.ensures in
    omega arith

pub invariant_of-self-2 : goal.invariant_of-self-2
invariant_of-self-2 c =
    let d = (goal.at.invariant_of-self-2 c).After-power in
    let s = c.self.inside in
    let chain = c.self.invariant.0 in
    let g = c.in_ok-digits.digits.value in
    let r = c.in_ok-over.over in
    let e = enlarged_to d in
    let open_still : c.self.inside.whole ≡ false = ap (λ z. z.whole) c.self.view_is ∙ c.requires in
    let curve : c.in_ok-digits.digits.value.curve ≡ c.self.inside.over.curve = c.in_ok-digits.ensures.curve ∙ ap (λ z. z.over.curve) (sym c.self.view_is) in
    let depth : c.in_ok-digits.digits.value.depth ≡ 2 * c.in_ok-over.over.power + 2 = c.in_ok-digits.ensures.depth ∙ ap (λ k. 2 * k + 2) c.power.ensures in (
      subst (λ b. IsChain (record { point = s.point; stratum = s.stratum; limit = s.limit; digits = g; over = r; whole = b })) (sym open_still)
          (goes_on c.chains_are_steps.ensures.step s.over r s.point s.limit c.rows-old.ensures.known c.rows-least.ensures.known chain.point chain.local e g s.stratum chain.some_limit chain.low_limit
          c.in_ok-over.ensures.least curve depth (grown d).high),
      subst (λ C. IsLiftedOf C s.lifted.value) (sym e.curve) c.self.invariant.1,
      subst (λ C. AreOfCurve C s.deeper) (sym e.curve) c.self.invariant.2,
    )

pub returns-clause-step : goal.returns-clause-step
returns-clause-step c =
    let d = (goal.at.returns-clause-step c).After-power in
    let s = c.self.inside in
    let new : ChainData = record { point = s.point; stratum = s.stratum; limit = s.limit; digits = c.in_ok-digits.digits.value; over = c.in_ok-over.over; whole = s.whole } in
    subst (λ z. IsMore z new) c.self.view_is (record {
      work = record { curve = (enlarged_to d).curve; point = refl; stratum = refl; limit = refl };
      enlarged = enlarged_to d;
      larger = (grown d).larger;
      within = (grown d).within;
      open_still = ap (λ z. z.whole) c.self.view_is ∙ c.requires;
    })
