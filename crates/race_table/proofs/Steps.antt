-- Each step is an event of the race machine, and keeps the rule.
use Rattle.std.proofs.Common.{◌≡◌, ◌≢◌, ℕ, zero, suc, ◌+◌, ◌-◌, ◌*◌, ◌%◌, ◌^◌, ◌<◌, ◌≤◌, ◌==◌, ◌&&◌, min, nat_le, nat_lt, true, false, List, [], ◌∷◌, ◌++◌, length, get_or, set, drop, map, filter, flat_map, sum_by, slice_index, slice_set, arith, refl, sym, ap, subst, ◌∙◌, ⊎_elim, length-set, length-drop, get_or-set_other, get_or-drop}
use Rattle.std.specs.List.{range_with_len}
use Rattle.std.proofs.Math.Nat.{mod-eq_of_lt}
use Rattle.std.proofs.lemmas.Bool.{cases_eq, cases_lt, cond_below, cond_above, ltb-false, and_from, eq-eqb, ne_eqb, cond-true}
use Rattle.std.proofs.lemmas.Bool.Decides.{nat_tests}
use Rattle.std.proofs.lemmas.List.{set-get_or, drop-set-add, nil_from_length}
use Rattle.std.proofs.lemmas.List.Elements.{All-push, All-weaker}
use Rattle.std.proofs.lemmas.List.FromFn.{length-map-range_with_len}
use Rattle.std.proofs.lemmas.List.Sums.{get_or-le-sum_by}
use mathlib.Core.Option.{some}
use prog.Atomic.{either}
use lib.ListN.{get_elem?}
use Rattle.atomic_table.proofs.Lists.{at_set, set_here, set_else, set_again}
use Rattle.race_core.specs.State.{IsShaped, word, won_list, one_if, times}
use Rattle.race_core.specs.Moves.{Allows, next, told_spent, drew as drew_state}
use Rattle.race_core.specs.Sound.{Sound}
use Rattle.race_core.specs.Laws.{SoundnessIsKept, SoundStatesAccount}
use Rattle.race_core.specs.declared.event.Event.TheVariants.{Draw, Win}
use Rattle.race_table.specs.Views.{has, of_seat, times_pair, times_stratum, times_ticket, with_ticket, with_spent, with_won, with_told, drew, looked, tried, was_told}
use Rattle.race_table.specs.Rule.{Held, IsOwn, ToldTruly, state_of, drawn_by, won_by, is_told}
use Rattle.race_table.specs.Answers.{IsFresh, Tells, IsTakenBy}
use Rattle.race_table.specs.declared.view.View.{View}
use Rattle.race_core.proofs.Counting.{some_passes}
use Rattle.race_table.proofs.Sums.{at_get, sum-set, has-cases, has-first, has-range, lonely, seat_of, none_pass}
use Rattle.race_table.proofs.Seats.{of_seat-push, of_seat-push_else, filter-one, filter-push_else, times-of_seat, flat-set, flat-only, at_number, range-same, range-set}

pub state-shaped : (strata seats : ℕ) (words : List ℕ) (views : List View) → length words ≡ strata + 1 → IsShaped (state_of strata seats words views)
state-shaped strata seats words views wide = record {
  words = length-drop 1 words ∙ (let e : length words - 1 ≡ strata = omega arith in e);
  drawn = length-map-range_with_len (drawn_by views) 1 seats;
  won = length-map-range_with_len (won_by views) 1 seats;
  spent = length-map-range_with_len (is_told views) 1 seats;
}

-- after one view changed, what it alone has
only-set : {X : Type 0} (f : View → List X) (views : List View) (id : ℕ) (v w : View) → get_elem? views id ≡ some v
    → ((k : ℕ) (u : View) → k ≢ id → get_elem? views k ≡ some u → f u ≡ []) → flat_map f (set views id w) ≡ f w
only-set f views id v w at none =
    flat-only f (set views id w) id w (set_here views id w (at_get views id v v at).0) (λ k u ne there. none k u ne (sym (set_else views id k w ne) ∙ there))

module _ (strata seats : ℕ) (words : List ℕ) (views : List View) (held : Held strata seats words views) (id : ℕ) (v : View) (at : get_elem? views id ≡ some v) where
  -- what no other view has of a seat of this one
  no_drawn : (s : ℕ) → has s v ≡ 1 → (k : ℕ) (u : View) → k ≢ id → get_elem? views k ≡ some u → of_seat s u.drawn ≡ []
  no_drawn s mine k u ne there = (held.own k u there).drawn s (lonely seats s views id v held.numbers at mine k u ne there)

  no_won : (s : ℕ) → has s v ≡ 1 → (k : ℕ) (u : View) → k ≢ id → get_elem? views k ≡ some u → of_seat s u.won ≡ []
  no_won s mine k u ne there = (held.own k u there).won s (lonely seats s views id v held.numbers at mine k u ne there)

  no_spent : (s : ℕ) → has s v ≡ 1 → (k : ℕ) (u : View) → k ≢ id → get_elem? views k ≡ some u → filter (λ t. t == s) u.spent ≡ []
  no_spent s mine k u ne there = (held.own k u there).spent s (lonely seats s views id v held.numbers at mine k u ne there)

  pub drawn_by-own : (s : ℕ) → has s v ≡ 1 → drawn_by views s ≡ of_seat s v.drawn
  drawn_by-own s mine = flat-only (λ u. of_seat s u.drawn) views id v at (no_drawn s mine)

  pub won_by-own : (s : ℕ) → has s v ≡ 1 → won_by views s ≡ of_seat s v.won
  won_by-own s mine = flat-only (λ u. of_seat s u.won) views id v at (no_won s mine)

  pub is_told-own : (s : ℕ) → has s v ≡ 1 → is_told views s ≡ nat_lt 0 (length (filter (λ t. t == s) v.spent))
  is_told-own s mine = ap (λ (l : List ℕ). nat_lt 0 (length l)) (flat-only (λ u. filter (λ t. t == s) u.spent) views id v at (no_spent s mine))

  -- a view that changes in no list of a seat
  same_drawn : (w : View) → w.drawn ≡ v.drawn → map (drawn_by (set views id w)) (range_with_len 1 seats) ≡ map (drawn_by views) (range_with_len 1 seats)
  same_drawn w e = range-same (drawn_by views) (drawn_by (set views id w)) seats (λ t a b. flat-set (λ u. of_seat t u.drawn) views id v w at (ap (of_seat t) e))

  same_won : (w : View) → w.won ≡ v.won → map (won_by (set views id w)) (range_with_len 1 seats) ≡ map (won_by views) (range_with_len 1 seats)
  same_won w e = range-same (won_by views) (won_by (set views id w)) seats (λ t a b. flat-set (λ u. of_seat t u.won) views id v w at (ap (of_seat t) e))

  same_spent : (w : View) → w.spent ≡ v.spent → map (is_told (set views id w)) (range_with_len 1 seats) ≡ map (is_told views) (range_with_len 1 seats)
  same_spent w e = range-same (is_told views) (is_told (set views id w)) seats
      (λ t a b. ap (λ (l : List ℕ). nat_lt 0 (length l)) (flat-set (λ u. filter (λ n. n == t) u.spent) views id v w at (ap (filter (λ n. n == t)) e)))

  numbers_after : (w : View) → w.first ≡ v.first → w.parts ≡ v.parts → (s : ℕ) → sum_by (has s) (set views id w) ≡ one_if (nat_le 1 s && nat_le s seats)
  numbers_after w e f s =
      let same : has s w ≡ has s v = (λ k. one_if (nat_le (e k) s && nat_lt s (e k + f k))) in
      omega (arith, sum-set (has s) views id v w at, held.numbers s)

  own_after : (w : View) → IsOwn strata seats w → (k : ℕ) (u : View) → get_elem? (set views id w) k ≡ some u → IsOwn strata seats u
  own_after w own k u there = ⊎_elim (λ t. subst (IsOwn strata seats) t.1 own) (λ t. held.own k u t.1) (at_set views id k w u there)

  still : (news : List ℕ) (u : View) → ((j : ℕ) → 1 ≤ j → j ≤ strata → slice_index words j ≢ 0 → slice_index news j ≡ slice_index words j) → ToldTruly strata words u → ToldTruly strata news u
  still news u same told = All-weaker (λ p. (1 ≤ p.0) × (p.0 ≤ strata) × (p.1 ≢ 0) × (slice_index words p.0 ≡ p.1)) (λ p. (1 ≤ p.0) × (p.0 ≤ strata) × (p.1 ≢ 0) × (slice_index news p.0 ≡ p.1))
      (λ p h. (h.0, h.1, h.2, same p.0 h.0 h.1 (λ e. h.2 (sym h.3 ∙ e)) ∙ h.3)) u.told told

  -- the views' told pairs where the words changed in no won stratum's word
  told_after : (news : List ℕ) (w : View) → ((j : ℕ) → 1 ≤ j → j ≤ strata → slice_index words j ≢ 0 → slice_index news j ≡ slice_index words j) → ToldTruly strata news w
      → (k : ℕ) (u : View) → get_elem? (set views id w) k ≡ some u → ToldTruly strata news u
  told_after news w same told k u there = ⊎_elim
      (λ t. subst (ToldTruly strata news) t.1 told)
      (λ t. still news u same (held.told k u t.1))
      (at_set views id k w u there)

-- a word that is not the changed one
word_else : (words : List ℕ) (i j x : ℕ) → j ≢ i → slice_index (set words i x) j ≡ slice_index words j
word_else words i j x ne = get_or-set_other words i j x 0 ne

-- the state of the machine reads the strata's words
pub state-word : (strata seats i : ℕ) (words : List ℕ) (views : List View) → 1 ≤ i → word (state_of strata seats words views) i ≡ slice_index words i
state-word strata seats i words views some_i = get_or-drop 1 words (i - 1) 0 ∙ ap (slice_index words) (let e : 1 + (i - 1) ≡ i = omega arith in e)

not_below : (n tickets : ℕ) → one_if (nat_lt n (min n tickets)) ≡ 0
not_below n tickets = grind (arith, nat_tests)

-- a draw that found a ticket
module _ (strata seats n : ℕ) (rest : List ℕ) (views : List View) (held : Held strata seats (n ∷ rest) views) (id : ℕ) (v : View) (at : get_elem? views id ≡ some v) (part : 0 < v.parts) where
  pub number-state : state_of strata seats ((n + 1) ∷ rest) (set views id (with_ticket v n)) ≡ drew_state (state_of strata seats (n ∷ rest) views) v.first
  number-state =
      let w = with_ticket v n in
      let s = v.first in
      let mine = has-first v part in
      let seat = seat_of seats s views id v held.numbers at mine in
      let drawn : map (drawn_by (set views id w)) (range_with_len 1 seats) ≡ set (map (drawn_by views) (range_with_len 1 seats)) (s - 1) (get_or (map (drawn_by views) (range_with_len 1 seats)) (s - 1) [] ++ n ∷ []) =
      range-set (drawn_by views) (drawn_by (set views id w)) seats s (get_or (map (drawn_by views) (range_with_len 1 seats)) (s - 1) [] ++ n ∷ []) seat.0 seat.1
      (only-set (λ u. of_seat s u.drawn) views id v w at (no_drawn strata seats (n ∷ rest) views held id v at s mine) ∙ of_seat-push s n v.drawn
      ∙ ap (λ l. l ++ n ∷ []) (sym (at_number (drawn_by views) seats s [] seat.0 seat.1 ∙ drawn_by-own strata seats (n ∷ rest) views held id v at s mine)))
      (λ t a b ne. flat-set (λ u. of_seat t u.drawn) views id v w at (of_seat-push_else t n s v.drawn (λ e. ne (sym e))))
      in
      let won = same_won strata seats (n ∷ rest) views held id v at w refl in
      let spent = same_spent strata seats (n ∷ rest) views held id v at w refl in
      λ k. record { strata = strata; seats = seats; count = n + 1; words = rest; drawn = drawn k; won = won k; spent = spent k; joined = [] }

  pub told-state : v.spent ≡ [] → state_of strata seats ((n + 1) ∷ rest) (set views id (with_spent v)) ≡ told_spent (state_of strata seats (n ∷ rest) views) v.first
  told-state untold =
      let w = with_spent v in
      let s = v.first in
      let mine = has-first v part in
      let seat = seat_of seats s views id v held.numbers at mine in
      let one : filter (λ t. t == s) w.spent ≡ s ∷ [] = rw untold (filter-one s s refl) in
      let spent : map (is_told (set views id w)) (range_with_len 1 seats) ≡ set (map (is_told views) (range_with_len 1 seats)) (s - 1) true =
      range-set (is_told views) (is_told (set views id w)) seats s true seat.0 seat.1
      (ap (λ (l : List ℕ). nat_lt 0 (length l)) (only-set (λ u. filter (λ t. t == s) u.spent) views id v w at (no_spent strata seats (n ∷ rest) views held id v at s mine) ∙ one))
      (λ t a b ne. ap (λ (l : List ℕ). nat_lt 0 (length l)) (flat-set (λ u. filter (λ x. x == t) u.spent) views id v w at (filter-push_else t s v.spent (λ e. ne (sym e)))))
      in
      let drawn = same_drawn strata seats (n ∷ rest) views held id v at w refl in
      let won = same_won strata seats (n ∷ rest) views held id v at w refl in
      λ k. record { strata = strata; seats = seats; count = n + 1; words = rest; drawn = drawn k; won = won k; spent = spent k; joined = [] }

  pub allows-draw : v.spent ≡ [] → Allows (state_of strata seats (n ∷ rest) views) (Draw v.first)
  allows-draw untold =
      let s = v.first in
      let mine = has-first v part in
      let seat = seat_of seats s views id v held.numbers at mine in
      (seat, at_number (is_told views) seats s false seat.0 seat.1 ∙ is_told-own strata seats (n ∷ rest) views held id v at s mine ∙ ap (λ (l : List ℕ). nat_lt 0 (length (filter (λ t. t == s) l))) untold)

  no_pair_drawn : (p : ℕ × ℕ) → (p.0 == n) ≡ true → n < 2 * strata → one_if (p.0 == n && p.1 == p.1) ≤ times_pair n p.1 v.drawn → ⊥
  no_pair_drawn p same below stands =
      let one : one_if (p.0 == n && p.1 == p.1) ≡ 1 = cond-true (p.0 == n && p.1 == p.1) 1 0 (and_from (p.0 == n) (p.1 == p.1) same (eq-eqb p.1 p.1 refl)) in
      let counts : times n (of_seat p.1 v.drawn) ≡ times_pair n p.1 v.drawn = times-of_seat n p.1 v.drawn in
      ⊎_elim
      (λ mine.
      let seat = seat_of seats p.1 views id v held.numbers at mine in
      let lists = map (drawn_by views) (range_with_len 1 seats) in
      let list : get_or lists (p.1 - 1) [] ≡ of_seat p.1 v.drawn = at_number (drawn_by views) seats p.1 [] seat.0 seat.1 ∙ drawn_by-own strata seats (n ∷ rest) views held id v at p.1 mine in
      let inside : p.1 - 1 < length lists = omega (arith, length-map-range_with_len (drawn_by views) 1 seats, seat.0, seat.1) in
      let within : times n (get_or lists (p.1 - 1) []) ≤ sum_by (λ list. times n list) lists = get_or-le-sum_by (λ list. times n list) lists (p.1 - 1) [] inside in
      let none : sum_by (λ list. times n list) lists ≡ 0 = held.sound.drawn n ∙ not_below n (2 * strata) in
      omega (arith, ap (times n) list))
      (λ other.
      let none : times n (of_seat p.1 v.drawn) ≡ 0 = ap (times n) ((held.own id v at).drawn p.1 other) in
      omega arith)
      (has-cases p.1 v)

  -- the ticket at the count is in no list of the view
  pub fresh : n < 2 * strata → times_ticket n v.drawn ≡ 0
  fresh below = ⊎_elim (λ e. e)
      (λ ne.
      let found = some_passes (λ p. p.0 == n) v.drawn (0, 0) (omega arith) in
      absurd (no_pair_drawn (get_or v.drawn found.0 (0, 0)) found.2 below (get_or-le-sum_by (λ q. one_if (q.0 == n && q.1 == (get_or v.drawn found.0 (0, 0)).1)) v.drawn found.0 (0, 0) found.1)))
      (cases_eq (times_ticket n v.drawn) 0)

  own : IsOwn strata seats v
  own = held.own id v at

  not_first : (t : ℕ) → has t v ≡ 0 → v.first ≢ t
  not_first t none = λ e. let one : has t v ≡ 1 = subst (λ x. has x v ≡ 1) e (has-first v part) in omega arith

  same_words : (j : ℕ) → 1 ≤ j → slice_index ((n + 1) ∷ rest) j ≡ slice_index (n ∷ rest) j
  same_words zero some_j = absurd (omega arith)
  same_words (suc j) some_j = refl

  number-held : SoundnessIsKept → v.spent ≡ [] → n < 2 * strata → Held strata seats ((n + 1) ∷ rest) (set views id (with_ticket v n))
  number-held kept untold below =
      let c = state_of strata seats (n ∷ rest) views in
      let w = with_ticket v n in
      let after = kept c (Draw v.first) (state-shaped strata seats (n ∷ rest) views held.wide) held.sound (allows-draw untold) in
      let step : next c (Draw v.first) ≡ drew_state c v.first = sym (cond_below n (2 * strata) (drew_state c v.first) (told_spent c v.first) below) in
      record {
        wide = held.wide;
        small = held.small;
        sound = subst Sound (step ∙ sym number-state) after.1;
        numbers = numbers_after strata seats (n ∷ rest) views held id v at w refl refl;
        own = own_after strata seats (n ∷ rest) views held id v at w
            record { drawn = λ t none. of_seat-push_else t n v.first v.drawn (not_first t none) ∙ own.drawn t none; won = own.won; spent = own.spent; sizes = own.sizes };
        told = told_after strata seats (n ∷ rest) views held id v at ((n + 1) ∷ rest) w (λ j a b c. same_words j a) (still strata seats (n ∷ rest) views held id v at ((n + 1) ∷ rest) v (λ j a b c. same_words j a) (held.told id v at));
      }

  told-held : SoundnessIsKept → v.spent ≡ [] → 2 * strata ≤ n → Held strata seats ((n + 1) ∷ rest) (set views id (with_spent v))
  told-held kept untold above =
      let c = state_of strata seats (n ∷ rest) views in
      let w = with_spent v in
      let after = kept c (Draw v.first) (state-shaped strata seats (n ∷ rest) views held.wide) held.sound (allows-draw untold) in
      let step : next c (Draw v.first) ≡ told_spent c v.first = sym (cond_above n (2 * strata) (drew_state c v.first) (told_spent c v.first) (told_spent c v.first) above refl) in
      record {
        wide = held.wide;
        small = held.small;
        sound = subst Sound (step ∙ sym (told-state untold)) after.1;
        numbers = numbers_after strata seats (n ∷ rest) views held id v at w refl refl;
        own = own_after strata seats (n ∷ rest) views held id v at w
            record { drawn = own.drawn; won = own.won; spent = λ t none. filter-push_else t v.first v.spent (not_first t none) ∙ own.spent t none; sizes = own.sizes };
        told = told_after strata seats (n ∷ rest) views held id v at ((n + 1) ∷ rest) w (λ j a b c. same_words j a) (still strata seats (n ∷ rest) views held id v at ((n + 1) ∷ rest) v (λ j a b c. same_words j a) (held.told id v at));
      }

pub untold-spent : (v : View) → was_told v ≡ false → v.spent ≡ []
untold-spent v unspent = nil_from_length v.spent (let e : length v.spent ≡ 0 = omega (arith, ltb-false 0 (length v.spent) unspent) in e)

pub draws-fresh : (strata seats id : ℕ) (v : View) (words : List ℕ) (views : List View) → 0 < v.parts → Held strata seats words views → get_elem? views id ≡ some v → IsFresh v (slice_index words 0)
draws-fresh strata seats id v [] views part held at below = absurd (omega (arith, held.wide))
draws-fresh strata seats id v (n ∷ rest) views part held at below =
    let same : v.strata ≡ strata = ((held.own id v at).sizes part).0 in
    fresh strata seats n rest views held id v at part (subst (λ k. n < 2 * k) same below)

pub draws : SoundnessIsKept → SoundStatesAccount → (strata seats id : ℕ) (v : View) (words : List ℕ) (views : List View) → 0 < v.parts → was_told v ≡ false
    → Held strata seats words views → get_elem? views id ≡ some v
    → Held strata seats (slice_set words 0 ((slice_index words 0 + 1) % 2 ^ 64)) (slice_set views id (drew v (slice_index words 0)))
draws kept account strata seats id v [] views part unspent held at = absurd (omega (arith, held.wide))
draws kept account strata seats id v (n ∷ rest) views part unspent held at =
    let untold : v.spent ≡ [] = untold-spent v unspent in
    let bound : n ≤ 2 * strata + seats = (account (state_of strata seats (n ∷ rest) views) (state-shaped strata seats (n ∷ rest) views held.wide) held.sound).1 in
    let small : n + 1 < 2 ^ 64 = omega (arith, held.small) in
    let same : v.strata ≡ strata = ((held.own id v at).sizes part).0 in
    rw (mod-eq_of_lt small) (⊎_elim
    (λ below.
    let e : drew v n ≡ with_ticket v n = sym (cond_below n (2 * v.strata) (with_ticket v n) (with_spent v) (rw same below)) in
    rw e (number-held strata seats n rest views held id v at part kept untold below))
    (λ above.
    let e : drew v n ≡ with_spent v = sym (cond_above n (2 * v.strata) (with_ticket v n) (with_spent v) (with_spent v) (rw same above) refl) in
    rw e (told-held strata seats n rest views held id v at part kept untold above))
    (cases_lt n (2 * strata)))

-- what the word of a stratum tells a pass
module _ (strata seats : ℕ) (words : List ℕ) (views : List View) (held : Held strata seats words views) (id : ℕ) (v : View) (at : get_elem? views id ≡ some v) (part : 0 < v.parts)
    (i : ℕ) (some_i : 1 ≤ i) (within : i ≤ strata) where
  -- the seats that won the stratum, as the word says
  won_count : (s : ℕ) → has s v ≡ 1 → times_pair i s v.won ≡ one_if (nat_le 1 i && nat_le i strata && slice_index words i == s)
  won_count s mine =
      let c = state_of strata seats words views in
      let seat = seat_of seats s views id v held.numbers at mine in
      let list : won_list c s ≡ of_seat s v.won = at_number (won_by views) seats s [] seat.0 seat.1 ∙ won_by-own strata seats words views held id v at s mine in
      sym (times-of_seat i s v.won) ∙ sym (ap (times i) list) ∙ held.sound.won s i seat
      ∙ ap (λ w. one_if (nat_le 1 i && nat_le i strata && w == s)) (state-word strata seats i words views some_i)

  word_counts : (w s : ℕ) → w ≡ s → one_if (nat_le 1 i && nat_le i strata && w == s) ≡ 1
  word_counts w s same = grind (arith, nat_tests)

  word_no_count : (w s : ℕ) → w ≢ s → one_if (nat_le 1 i && nat_le i strata && w == s) ≡ 0
  word_no_count w s ne = grind (arith, nat_tests)

  taken : slice_index words i ≢ 0 → IsTakenBy v i (slice_index words i)
  taken won =
      let bound : slice_index words i ≤ seats =
      subst (λ w. w ≤ seats) (state-word strata seats i words views some_i)
      (held.sound.words (i - 1) 0 (omega (arith, (state-shaped strata seats words views held.wide).words))) in
      record {
        some_seat = omega arith;
        a_seat = rw ((held.own id v at).sizes part).1 bound;
        own = λ range. omega (arith, won_count (slice_index words i) (has-range (slice_index words i) v range), word_counts (slice_index words i) (slice_index words i) refl);
      }

  no_told : slice_index words i ≡ 0 → times_stratum i v.told ≡ 0
  no_told free = none_pass (λ p. (1 ≤ p.0) × (p.0 ≤ strata) × (p.1 ≢ 0) × (slice_index words p.0 ≡ p.1)) (λ p. p.0 == i) v.told (held.told id v at)
      (λ p h. ne_eqb p.0 i (λ e. h.2 (sym h.3 ∙ ap (slice_index words) e ∙ free)))

  no_pair : slice_index words i ≡ 0 → (p : ℕ × ℕ) → (p.0 == i) ≡ true → 0 < times_pair i p.1 v.won → ⊥
  no_pair free p same stands = ⊎_elim
      (λ mine.
      let seat = seat_of seats p.1 views id v held.numbers at mine in
      let none : one_if (nat_le 1 i && nat_le i strata && slice_index words i == p.1) ≡ 0 = word_no_count (slice_index words i) p.1 (λ e. absurd (omega (arith, seat.0))) in
      omega (arith, won_count p.1 mine))
      (λ other.
      let empty : times_pair i p.1 v.won ≡ 0 = sym (times-of_seat i p.1 v.won) ∙ ap (times i) ((held.own id v at).won p.1 other) in
      omega arith)
      (has-cases p.1 v)

  no_won_of : slice_index words i ≡ 0 → times_stratum i v.won ≡ 0
  no_won_of free = ⊎_elim (λ e. e)
      (λ ne.
      let stands : 0 < times_stratum i v.won = omega arith in
      let found = some_passes (λ p. p.0 == i) v.won (0, 0) stands in
      let p = get_or v.won found.0 (0, 0) in
      let one : one_if (p.0 == i && p.1 == p.1) ≡ 1 = cond-true (p.0 == i && p.1 == p.1) 1 0 (and_from (p.0 == i) (p.1 == p.1) found.2 (eq-eqb p.1 p.1 refl)) in
      absurd (no_pair free p found.2 (omega (arith, get_or-le-sum_by (λ q. one_if (q.0 == i && q.1 == p.1)) v.won found.0 (0, 0) found.1))))
      (cases_eq (times_stratum i v.won) 0)

  pub tells : (n : ℕ) → n ≡ slice_index words i → Tells v i n
  tells n is = record {
    free = λ e. record { told = no_told (sym is ∙ e); won = no_won_of (sym is ∙ e) };
    taken = λ ne. subst (IsTakenBy v i) (sym is) (taken (λ e. ne (is ∙ e)));
  }

  -- a told pair is no part of the state
  pub told-same : (n : ℕ) → state_of strata seats words (set views id (with_told v i n)) ≡ state_of strata seats words views
  told-same n =
      let w = with_told v i n in
      let drawn = same_drawn strata seats words views held id v at w refl in
      let won = same_won strata seats words views held id v at w refl in
      let spent = same_spent strata seats words views held id v at w refl in
      λ k. record { strata = strata; seats = seats; count = slice_index words 0; words = drop 1 words; drawn = drawn k; won = won k; spent = spent k; joined = [] }

  -- a view that was told of the word keeps the rule
  knows-held : (n : ℕ) → n ≡ slice_index words i → n ≢ 0 → Held strata seats words (set views id (with_told v i n))
  knows-held n is ne =
      let w = with_told v i n in
      let own = held.own id v at in
      record {
        wide = held.wide;
        small = held.small;
        sound = subst Sound (sym (told-same n)) held.sound;
        numbers = numbers_after strata seats words views held id v at w refl refl;
        own = own_after strata seats words views held id v at w record { drawn = own.drawn; won = own.won; spent = own.spent; sizes = own.sizes };
        told = told_after strata seats words views held id v at words w (λ j a b c. refl)
            (All-push (λ p. (1 ≤ p.0) × (p.0 ≤ strata) × (p.1 ≢ 0) × (slice_index words p.0 ≡ p.1)) v.told (i, n) (held.told id v at) (some_i, within, ne, sym is));
      }

  pub looks : Held strata seats (slice_set words i (slice_index words i)) (slice_set views id (looked v i (slice_index words i)))
  looks = rw (set-get_or words i 0) (⊎_elim
      (λ e. let t : (slice_index words i == 0) ≡ true = eq-eqb _ _ e in simp t (rw (set_again views id v at) held))
      (λ ne. let t : (slice_index words i == 0) ≡ false = ne_eqb _ _ ne in simp t (knows-held (slice_index words i) refl ne))
      (cases_eq (slice_index words i) 0))

  -- the win of a stratum whose word was 0
  pub won-state : slice_index words i ≡ 0 → state_of strata seats (set words i v.first) (set views id (with_won v i)) ≡ next (state_of strata seats words views) (Win v.first i)
  won-state free =
      let w = with_won v i in
      let s = v.first in
      let mine = has-first v part in
      let seat = seat_of seats s views id v held.numbers at mine in
      let old = map (won_by views) (range_with_len 1 seats) in
      let won : map (won_by (set views id w)) (range_with_len 1 seats) ≡ set old (s - 1) (get_or old (s - 1) [] ++ i ∷ []) =
      range-set (won_by views) (won_by (set views id w)) seats s (get_or old (s - 1) [] ++ i ∷ []) seat.0 seat.1
      (only-set (λ u. of_seat s u.won) views id v w at (no_won strata seats words views held id v at s mine) ∙ of_seat-push s i v.won
      ∙ ap (λ l. l ++ i ∷ []) (sym (at_number (won_by views) seats s [] seat.0 seat.1 ∙ won_by-own strata seats words views held id v at s mine)))
      (λ t a b ne. flat-set (λ u. of_seat t u.won) views id v w at (of_seat-push_else t i s v.won (λ e. ne (sym e))))
      in
      let drawn = same_drawn strata seats words views held id v at w refl in
      let spent = same_spent strata seats words views held id v at w refl in
      let count : slice_index (set words i s) 0 ≡ slice_index words 0 = word_else words i 0 s (λ e. absurd (omega arith)) in
      let rest : drop 1 (set words i s) ≡ set (drop 1 words) (i - 1) s =
      ap (λ j. drop 1 (set words j s)) (let e : i ≡ 1 + (i - 1) = omega arith in e) ∙ drop-set-add 1 words (i - 1) s in
      λ k. record { strata = strata; seats = seats; count = count k; words = rest k; drawn = drawn k; won = won k; spent = spent k; joined = [] }

  not_mine : (t : ℕ) → has t v ≡ 0 → v.first ≡ t → ⊥
  not_mine t none e = let one : has t v ≡ 1 = subst (λ x. has x v ≡ 1) e (has-first v part) in omega arith

  won-held : SoundnessIsKept → slice_index words i ≡ 0 → Held strata seats (set words i v.first) (set views id (with_won v i))
  won-held kept free =
      let c = state_of strata seats words views in
      let w = with_won v i in
      let mine = has-first v part in
      let seat = seat_of seats v.first views id v held.numbers at mine in
      let allowed : Allows c (Win v.first i) = (seat, (some_i, within), state-word strata seats i words views some_i ∙ free) in
      let after = kept c (Win v.first i) (state-shaped strata seats words views held.wide) held.sound allowed in
      let own = held.own id v at in
      let same : (j : ℕ) → 1 ≤ j → j ≤ strata → slice_index words j ≢ 0 → slice_index (set words i v.first) j ≡ slice_index words j =
      λ j a b c. word_else words i j v.first (λ e. c (ap (slice_index words) e ∙ free)) in
      record {
        wide = length-set words i v.first ∙ held.wide;
        small = held.small;
        sound = subst Sound (sym (won-state free)) after.1;
        numbers = numbers_after strata seats words views held id v at w refl refl;
        own = own_after strata seats words views held id v at w
            record { drawn = own.drawn; won = λ t none. of_seat-push_else t i v.first v.won (λ e. absurd (not_mine t none e)) ∙ own.won t none; spent = own.spent; sizes = own.sizes };
        told = told_after strata seats words views held id v at (set words i v.first) w same (still strata seats words views held id v at (set words i v.first) v same (held.told id v at));
      }

  pub tries : SoundnessIsKept → Held strata seats (slice_set words i (either (slice_index words i == 0) v.first (slice_index words i))) (slice_set views id (tried v i (slice_index words i)))
  tries kept = ⊎_elim
      (λ e. let t : (slice_index words i == 0) ≡ true = eq-eqb _ _ e in simp t (won-held kept e))
      (λ ne. let t : (slice_index words i == 0) ≡ false = ne_eqb _ _ ne in simp t (rw (set-get_or words i 0) (knows-held (slice_index words i) refl ne)))
      (cases_eq (slice_index words i) 0)
