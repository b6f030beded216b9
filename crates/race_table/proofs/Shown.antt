-- The steps are the events.
use Rattle.std.proofs.Common.{◌≡◌, ℕ, ◌+◌, ◌*◌, ◌≤◌, ◌==◌, false, true, if◌then◌else◌, List, [], ◌∷◌, set, slice_index, arith, refl, sym, ap, ◌∙◌, ⊎_elim, eq-eqb, ne_eqb}
use Rattle.std.proofs.lemmas.Bool.{cases_eq, cases_lt, cond_below, cond_above}
use Rattle.std.proofs.lemmas.List.{set-get_or}
use Rattle.atomic_table.proofs.Lists.{set_again}
use Rattle.race_core.specs.State.{IsSeat}
use Rattle.race_core.specs.Moves.{told_spent, drew as drew_state}
use Rattle.race_core.specs.declared.event.Event.TheVariants.{Draw}
use Rattle.race_table.specs.Views.{was_told, drew, looked, tried, with_ticket, with_spent}
use Rattle.race_table.specs.Rule.{state_of}
use Rattle.race_table.specs.Events.{Leads, Stands, TableStepsAreEvents, look_event, win_event}
use Rattle.race_table.specs.declared.view.View.{View}
use Rattle.race_table.proofs.Sums.{has-first, seat_of}
use Rattle.race_table.proofs.Steps.{untold-spent, number-state, told-state, allows-draw, state-word, told-same, won-state}
use Rattle.race_table.proofs.Cuts.{split-same, join-same}

draw-event : (strata seats : ℕ) (words : List ℕ) (views : List View) (id : ℕ) (v : View) → Stands strata seats words views id v → was_told v ≡ false
    → Leads (Draw v.first) (state_of strata seats words views) (state_of strata seats (set words 0 (slice_index words 0 + 1)) (set views id (drew v (slice_index words 0))))
draw-event strata seats [] views id v stands unspent = absurd (omega (arith, stands.held.wide))
draw-event strata seats (n ∷ rest) views id v stands unspent =
    let untold = untold-spent v unspent in
    let c = state_of strata seats (n ∷ rest) views in
    let same : v.strata ≡ strata = ((stands.held.own id v stands.place).sizes stands.part).0 in
    record {
      allowed = allows-draw strata seats n rest views stands.held id v stands.place stands.part untold;
      state = ⊎_elim
          (λ below.
          let e : drew v n ≡ with_ticket v n = sym (cond_below n (2 * v.strata) (with_ticket v n) (with_spent v) (rw same below)) in
          ap (λ w. state_of strata seats ((n + 1) ∷ rest) (set views id w)) e ∙ number-state strata seats n rest views stands.held id v stands.place stands.part
          ∙ cond_below n (2 * strata) (drew_state c v.first) (told_spent c v.first) below)
          (λ above.
          let e : drew v n ≡ with_spent v = sym (cond_above n (2 * v.strata) (with_ticket v n) (with_spent v) (with_spent v) (rw same above) refl) in
          ap (λ w. state_of strata seats ((n + 1) ∷ rest) (set views id w)) e ∙ told-state strata seats n rest views stands.held id v stands.place stands.part untold
          ∙ cond_above n (2 * strata) (drew_state c v.first) (told_spent c v.first) (told_spent c v.first) above refl)
          (cases_lt n (2 * strata));
    }

module _ (strata seats : ℕ) (words : List ℕ) (views : List View) (id : ℕ) (v : View) (stands : Stands strata seats words views id v) where
  seat : IsSeat (state_of strata seats words views) v.first
  seat = seat_of seats v.first views id v stands.held.numbers stands.place (has-first v stands.part)

  look-shown : (i : ℕ) → 1 ≤ i → i ≤ strata
      → Leads (look_event v.first i (slice_index words i)) (state_of strata seats words views) (state_of strata seats words (set views id (looked v i (slice_index words i))))
  look-shown i some_i within = ⊎_elim
      (λ e. let t : (slice_index words i == 0) ≡ true = eq-eqb _ _ e in simp t record {
        allowed = (seat, (some_i, within), state-word strata seats i words views some_i ∙ e);
        state = ap (state_of strata seats words) (set_again views id v stands.place);
      })
      (λ ne. let t : (slice_index words i == 0) ≡ false = ne_eqb _ _ ne in simp t record {
        allowed = (seat, (some_i, within), state-word strata seats i words views some_i, ne);
        state = told-same strata seats words views stands.held id v stands.place stands.part i some_i within (slice_index words i);
      })
      (cases_eq (slice_index words i) 0)

  win-shown : (i : ℕ) → 1 ≤ i → i ≤ strata
      → Leads (win_event v.first i (slice_index words i)) (state_of strata seats words views)
      (state_of strata seats (set words i (if slice_index words i == 0 then v.first else slice_index words i)) (set views id (tried v i (slice_index words i))))
  win-shown i some_i within = ⊎_elim
      (λ e. let t : (slice_index words i == 0) ≡ true = eq-eqb _ _ e in simp t record {
        allowed = (seat, (some_i, within), state-word strata seats i words views some_i ∙ e);
        state = won-state strata seats words views stands.held id v stands.place stands.part i some_i within e;
      })
      (λ ne. let t : (slice_index words i == 0) ≡ false = ne_eqb _ _ ne in simp t (rw (set-get_or words i 0) record {
        allowed = (seat, (some_i, within), state-word strata seats i words views some_i, ne);
        state = told-same strata seats words views stands.held id v stands.place stands.part i some_i within (slice_index words i);
      }))
      (cases_eq (slice_index words i) 0)

pub steps-shown : TableStepsAreEvents
steps-shown strata seats words views id v stands = record {
  draw = draw-event strata seats words views id v stands;
  look = look-shown strata seats words views id v stands;
  win = win-shown strata seats words views id v stands;
  split = split-same strata seats id v words views stands.place;
  unite = λ other w apart there. join-same strata seats words views stands.held id v stands.place other w apart there;
}
