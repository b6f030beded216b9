use Rattle.std.proofs.Common.{rules, ◌∙◌, sym, subst, get_or}
use Rattle.race_core.specs.State.{State, initial}
use Rattle.race_core.specs.Moves.{Allows}
use Rattle.race_core.specs.Parts.{state_of}
use Rattle.race_core.specs.declared.event.Event.TheVariants.{Draw}
use Rattle.race_core.proofs.Kept.{core-room, next-core, next-sizes}
use Rattle.race_core.proofs.Reached.{refused_at, goes_on}
use Rattle.race_core.proofs.machine.replay.Goals as goal

pub returns-then-not-allows-clause-replay : goal.returns-then-not-allows-clause-replay
returns-then-not-allows-clause-replay c =
    let k = c.loop-event.event-index in
    let first = initial c.args.strata c.args.seats in
    let refused : ¬ Allows (state_of c.loop-event.parts) (get_or c.args.events.now k (Draw 0)) = search rules in
    refused_at first c.args.events.now k (Draw 0) c.loop-event-test.true c.loop-event.invariant.allowed
    (subst (λ (s : State). ¬ Allows s (get_or c.args.events.now k (Draw 0))) c.loop-event.invariant.state refused)

pub apply-requires-clause-room : goal.apply-requires-clause-room
apply-requires-clause-room c = core-room (state_of c.loop-event.parts) c.loop-event.invariant.core

pub loop-event-preserved : goal.loop-event-preserved
loop-event-preserved c =
    let k = c.loop-event.event-index in
    let event = get_or c.args.events.now k (Draw 0) in
    let first = initial c.args.strata c.args.seats in
    let old = c.loop-event.invariant in
    let allowed : Allows (state_of c.loop-event.parts) event = search rules in
    let on = goes_on first c.args.events.now k (Draw 0) c.loop-event-test.true old.allowed (subst (λ (s : State). Allows s event) old.state allowed) in
    let sizes = next-sizes (state_of c.loop-event.parts) event in
    record {
      allowed = on.allowed;
      state = rw (c.in_ok-apply.ensures.ok, old.state) (sym on.state);
      core = rw c.in_ok-apply.ensures.ok (next-core (state_of c.loop-event.parts) event old.core allowed);
      sizes = rw c.in_ok-apply.ensures.ok (record { strata = sizes.strata ∙ old.sizes.strata; seats = sizes.seats ∙ old.sizes.seats });
    }
