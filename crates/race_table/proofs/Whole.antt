-- What a pass knows, above all with all numbers.
use Rattle.std.proofs.Common.{◌≡◌, ◌≢◌, ℕ, ◌+◌, ◌-◌, ◌*◌, ◌<◌, ◌≤◌, ◌==◌, ◌&&◌, nat_le, nat_lt, min, Bool, true, false, List, [], ◌∷◌, length, get_or, set, drop, map, filter, sum_by, count_by, slice_index, All, arith, refl, sym, ap, subst, ◌∙◌, ⊎_elim, eq-eqb, ne_eqb, get_or-drop, length-drop}
use Rattle.std.specs.List.{range_with_len}
use Rattle.std.proofs.lemmas.Bool.{cases_Bool, cases_lt, lt-ltb, ltb-true, false≢true, cond-true, cond-false, and_from, and_parts, and_left, eqb-true}
use Rattle.std.proofs.lemmas.Bool.Decides.{nat_tests}
use Rattle.std.proofs.lemmas.List.{ext_get_or}
use Rattle.std.proofs.lemmas.List.Elements.{All-head, All-tail, All-from_get_or}
use Rattle.std.proofs.lemmas.List.Folds.{sum_by-replicate, fold-map}
use Rattle.std.proofs.lemmas.List.FromFn.{length-map-range_with_len}
use Rattle.std.proofs.lemmas.List.Sums.{sum_by-cons, sum_by-set, get_or-le-sum_by}
use mathlib.Core.Option.{some}
use lib.ListN.{get_elem?}
use Rattle.race_core.specs.State.{one_if, times, word}
use Rattle.race_core.specs.Sound.{Sound, is_word}
use Rattle.race_table.specs.Views.{has, InRange, of_seat, HasAll, times_pair, times_stratum, times_ticket}
use Rattle.race_table.specs.Rule.{Held, state_of, drawn_by, won_by, is_told}
use Rattle.race_table.specs.Answers.{Knows, IsClosed, pass_state, is_told_in}
use Rattle.race_table.specs.declared.view.View.{View}
use Rattle.race_core.proofs.Counting.{some_passes, pair_itself, one_at_most}
use Rattle.race_table.proofs.Sums.{at_get, has-cases, range-has, seat_of}
use Rattle.race_table.proofs.Seats.{times-of_seat, at_number, range-same, range-set}
use Rattle.race_table.proofs.Steps.{drawn_by-own, is_told-own, won_by-own, state-word, state-shaped, tells}
use Rattle.race_table.proofs.Cuts.{range-constant}

has-all : (seats s : ℕ) (v : View) → v.first ≡ 1 → v.parts ≡ seats → 1 ≤ s → s ≤ seats → has s v ≡ 1
has-all seats s v first parts some_s within = grind (arith, nat_tests)

ones : (pairs : List (ℕ × ℕ)) → sum_by (λ p. 1) pairs ≡ length pairs
ones [] = refl
ones (p ∷ ps) = omega (arith, sum_by-cons (λ (q : ℕ × ℕ). 1) p ps, ones ps)

in_range : (i strata s w : ℕ) → 1 ≤ i → i ≤ strata → one_if (nat_le 1 i && nat_le i strata && w == s) ≡ one_if (w == s)
in_range i strata s w some_i within = grind (arith, nat_tests)

unequal : (w s : ℕ) → w < s → one_if (w == s) ≡ 0
unequal w s less = grind (arith, nat_tests)

-- a list that is not empty has its first number
first_told : (xs : List ℕ) → 0 < length xs → (s : ℕ) × (nat_lt 0 (length (filter (λ t. t == s) xs)) ≡ true)
first_told [] h = absurd (omega arith)
first_told (x ∷ xs) h =
    (x, ap (λ (l : List ℕ). nat_lt 0 (length l)) (cond-true (x == x) (x ∷ filter (λ t. t == x) xs) (filter (λ t. t == x) xs) (eq-eqb x x refl)) ∙ lt-ltb 0 (length (x ∷ filter (λ t. t == x) xs)) (omega arith))

-- two tests that agree on each element count the same
same_counts : {X : Type 0} (f g : X → Bool) (xs : List X) → All (λ x. f x ≡ g x) xs → count_by f xs ≡ count_by g xs
same_counts f g [] all = refl
same_counts f g (x ∷ xs) all =
    omega (arith, sum_by-cons (λ y. one_if (f y)) x xs, sum_by-cons (λ y. one_if (g y)) x xs, ap one_if (All-head (λ y. f y ≡ g y) x xs all), same_counts f g xs (All-tail (λ y. f y ≡ g y) x xs all))

-- what seats 1 to n have of pairs whose seats these are, under a measure that adds up
module _ (m : List ℕ → ℕ) (one : ℕ → ℕ) (empty : m [] ≡ 0) (more : (x : ℕ) (xs : List ℕ) → m (x ∷ xs) ≡ one x + m xs) (n : ℕ) where
  pub seats_sum : (pairs : List (ℕ × ℕ)) → All (λ p. (1 ≤ p.1) × (p.1 ≤ n)) pairs → sum_by m (map (λ s. of_seat s pairs) (range_with_len 1 n)) ≡ sum_by (λ p. one p.0) pairs
  seats_sum [] all = ap (sum_by m) (range-constant {X = List ℕ} [] n) ∙ sum_by-replicate m n [] ∙ (let e : n * m [] ≡ 0 = rw empty (omega arith) in e)
  seats_sum (p ∷ ps) all =
      let inside = All-head (λ q. (1 ≤ q.1) × (q.1 ≤ n)) p ps all in
      let rest = seats_sum ps (All-tail (λ q. (1 ≤ q.1) × (q.1 ≤ n)) p ps all) in
      let old = map (λ s. of_seat s ps) (range_with_len 1 n) in
      let here : of_seat p.1 (p ∷ ps) ≡ p.0 ∷ of_seat p.1 ps = ap (map (λ q. q.0)) (cond-true (p.1 == p.1) (p ∷ filter (λ q. q.1 == p.1) ps) (filter (λ q. q.1 == p.1) ps) (eq-eqb p.1 p.1 refl)) in
      let after : map (λ s. of_seat s (p ∷ ps)) (range_with_len 1 n) ≡ set old (p.1 - 1) (p.0 ∷ of_seat p.1 ps) =
      range-set (λ s. of_seat s ps) (λ s. of_seat s (p ∷ ps)) n p.1 (p.0 ∷ of_seat p.1 ps) inside.0 inside.1 here
      (λ t a b ne. ap (map (λ q. q.0)) (cond-false (p.1 == t) (p ∷ filter (λ q. q.1 == t) ps) (filter (λ q. q.1 == t) ps) (ne_eqb p.1 t (λ e. ne (sym e)))))
      in
      let was : get_or old (p.1 - 1) [] ≡ of_seat p.1 ps = at_number (λ s. of_seat s ps) n p.1 [] inside.0 inside.1 in
      let long : p.1 - 1 < length old = omega (arith, length-map-range_with_len (λ s. of_seat s ps) 1 n) in
      ap (sum_by m) after ∙ (let e : sum_by m (set old (p.1 - 1) (p.0 ∷ of_seat p.1 ps)) ≡ sum_by (λ q. one q.0) (p ∷ ps) =
      omega (arith, sum_by-set m old (p.1 - 1) (p.0 ∷ of_seat p.1 ps) [] long, ap m was, more p.0 (of_seat p.1 ps), rest, sum_by-cons (λ q. one q.0) p ps) in e)

is_counted : (i strata w s : ℕ) → 0 < one_if (nat_le 1 i && nat_le i strata && w == s) → w ≡ s
is_counted i strata w s stands = grind (arith, nat_tests)

module _ (strata seats : ℕ) (words : List ℕ) (views : List View) (held : Held strata seats words views) (id : ℕ) (v : View) (at : get_elem? views id ≡ some v) (part : 0 < v.parts) where
  -- a view's pairs name seats of the table
  own_seats : (pairs : List (ℕ × ℕ)) → ((s : ℕ) → has s v ≡ 0 → of_seat s pairs ≡ []) → All (λ p. (1 ≤ p.1) × (p.1 ≤ seats)) pairs
  own_seats pairs own = All-from_get_or (λ p. (1 ≤ p.1) × (p.1 ≤ seats)) pairs (0, 0) (λ k inside.
      let p = get_or pairs k (0, 0) in
      let stands : one_if (p.0 == p.0 && p.1 == p.1) ≤ times_pair p.0 p.1 pairs = get_or-le-sum_by (λ q. one_if (q.0 == p.0 && q.1 == p.1)) pairs k (0, 0) inside in
      let one : one_if (p.0 == p.0 && p.1 == p.1) ≡ 1 = pair_itself p.0 p.1 in
      ⊎_elim
      (λ mine. seat_of seats p.1 views id v held.numbers at mine)
      (λ other.
      let none : times_pair p.0 p.1 pairs ≡ 0 = sym (times-of_seat p.0 p.1 pairs) ∙ ap (times p.0) (own p.1 other) in
      absurd (omega arith))
      (has-cases p.1 v))

  -- how often a seat of the view has won a stratum
  won_times : (i s : ℕ) → has s v ≡ 1 → times_pair i s v.won ≡ one_if (is_word (state_of strata seats words views) i s)
  won_times i s mine =
      let seat = seat_of seats s views id v held.numbers at mine in
      sym (times-of_seat i s v.won)
      ∙ sym (ap (times i) (at_number (won_by views) seats s [] seat.0 seat.1 ∙ won_by-own strata seats words views held id v at s mine))
      ∙ held.sound.won s i seat

  none_times : (i s : ℕ) → has s v ≡ 0 → times_pair i s v.won ≡ 0
  none_times i s other = sym (times-of_seat i s v.won) ∙ ap (times i) ((held.own id v at).won s other)

  won_once : (i : ℕ) → times_stratum i v.won ≤ 1
  won_once i =
      let w = word (state_of strata seats words views) i in
      let same : All (λ p. (p.0 == i) ≡ (p.0 == i && p.1 == w)) v.won =
      All-from_get_or (λ p. (p.0 == i) ≡ (p.0 == i && p.1 == w)) v.won (0, 0) (λ k inside.
      let p = get_or v.won k (0, 0) in
      ⊎_elim
      (λ yes.
      let stands : one_if (p.0 == i && p.1 == p.1) ≤ times_pair i p.1 v.won = get_or-le-sum_by (λ q. one_if (q.0 == i && q.1 == p.1)) v.won k (0, 0) inside in
      let one : one_if (p.0 == i && p.1 == p.1) ≡ 1 = cond-true (p.0 == i && p.1 == p.1) 1 0 (and_from (p.0 == i) (p.1 == p.1) yes (eq-eqb p.1 p.1 refl)) in
      let is : w ≡ p.1 = ⊎_elim
      (λ mine. is_counted i strata w p.1 (omega (arith, won_times i p.1 mine)))
      (λ other. absurd (omega (arith, none_times i p.1 other)))
      (has-cases p.1 v) in
      yes ∙ sym (and_from (p.0 == i) (p.1 == w) yes (eq-eqb p.1 w (sym is))))
      (λ no. no ∙ sym (and_left (p.0 == i) (p.1 == w) no))
      (cases_Bool (p.0 == i))) in
      let counts : times_stratum i v.won ≡ times_pair i w v.won = same_counts (λ p. p.0 == i) (λ p. p.0 == i && p.1 == w) v.won same in
      ⊎_elim
      (λ mine. omega (arith, won_times i w mine, one_at_most (is_word (state_of strata seats words views) i w)))
      (λ other. omega (arith, none_times i w other))
      (has-cases w v)

  all_seats : HasAll v → (s : ℕ) → 1 ≤ s → s ≤ seats → has s v ≡ 1
  all_seats all s some_s within = has-all seats s v all.0 (all.1 ∙ ((held.own id v at).sizes part).1) some_s within

  told_won : HasAll v → (i s : ℕ) → 0 < times_pair i s v.told → 0 < times_pair i s v.won
  told_won all i s stands =
      let found = some_passes (λ p. p.0 == i && p.1 == s) v.told (0, 0) stands in
      let p = get_or v.told found.0 (0, 0) in
      let tests = and_parts (p.0 == i) (p.1 == s) found.2 in
      let truly = held.told id v at found.0 (0, 0) found.1 in
      let known = (tells strata seats words views held id v at part p.0 truly.0 truly.1 p.1 (sym truly.3)).taken truly.2 in
      let range : InRange v p.1 = range-has p.1 v (all_seats all p.1 known.some_seat (rw (← ((held.own id v at).sizes part).1) known.a_seat)) in
      subst (λ j. 0 < times_pair j s v.won) (eqb-true p.0 i tests.0) (subst (λ t. 0 < times_pair p.0 t v.won) (eqb-true p.1 s tests.1) (known.own range))

  -- the state is that of the pass
  pub whole_state : HasAll v → state_of strata seats words views ≡ pass_state strata seats v (slice_index words 0) (drop 1 words)
  whole_state all =
      let drawn : map (drawn_by views) (range_with_len 1 seats) ≡ map (λ s. of_seat s v.drawn) (range_with_len 1 seats) =
      range-same (λ s. of_seat s v.drawn) (drawn_by views) seats (λ t a b. drawn_by-own strata seats words views held id v at t (all_seats all t a b)) in
      let won : map (won_by views) (range_with_len 1 seats) ≡ map (λ s. of_seat s v.won) (range_with_len 1 seats) =
      range-same (λ s. of_seat s v.won) (won_by views) seats (λ t a b. won_by-own strata seats words views held id v at t (all_seats all t a b)) in
      let spent : map (is_told views) (range_with_len 1 seats) ≡ map (is_told_in v) (range_with_len 1 seats) =
      range-same (is_told_in v) (is_told views) seats (λ t a b. is_told-own strata seats words views held id v at t (all_seats all t a b)) in
      λ k. record { strata = strata; seats = seats; count = slice_index words 0; words = drop 1 words; drawn = drawn k; won = won k; spent = spent k; joined = [] }

  drawn_times : HasAll v → (t : ℕ) → times_ticket t v.drawn ≡ one_if (nat_lt t (min (slice_index words 0) (2 * strata)))
  drawn_times all t =
      let sound = subst Sound (whole_state all) held.sound in
      sym (seats_sum (λ list. times t list) (λ x. one_if (x == t)) refl (λ x xs. sum_by-cons (λ y. one_if (y == t)) x xs) seats v.drawn (own_seats v.drawn (held.own id v at).drawn))
      ∙ sound.drawn t

  all_drawn : HasAll v → 0 < length v.spent → (t : ℕ) → times_ticket t v.drawn ≡ one_if (nat_lt t (2 * strata))
  all_drawn all told t =
      let found = first_told v.spent told in
      let s = found.0 in
      let sound = subst Sound (whole_state all) held.sound in
      let mine : has s v ≡ 1 = ⊎_elim (λ e. e)
      (λ other. absurd (false≢true (sym (ap (λ (l : List ℕ). nat_lt 0 (length l)) ((held.own id v at).spent s other)) ∙ found.1)))
      (has-cases s v) in
      let seat = seat_of seats s views id v held.numbers at mine in
      let late : 2 * strata < slice_index words 0 = sound.count.late s seat (at_number (is_told_in v) seats s false seat.0 seat.1 ∙ found.1) in
      let full : min (slice_index words 0) (2 * strata) ≡ 2 * strata = omega arith in
      drawn_times all t ∙ ap (λ m. one_if (nat_lt t m)) full

  pub knows : Knows v
  knows = record {
    won_once = won_once;
    told_won = told_won;
    all_drawn = λ all told t. all_drawn all (ltb-true 0 (length v.spent) told) t ∙ ap (λ n. one_if (nat_lt t (2 * n))) (sym ((held.own id v at).sizes part).0);
  }

  -- how often a stratum's pair is in the won list of a pass with all numbers
  won_as_words : HasAll v → (i s : ℕ) → 1 ≤ i → i ≤ strata → s ≢ 0 → times_pair i s v.won ≡ one_if (slice_index words i == s)
  won_as_words all i s some_i within some_s = ⊎_elim
      (λ mine. won_times i s mine ∙ ap (λ w. one_if (nat_le 1 i && nat_le i strata && w == s)) (state-word strata seats i words views some_i) ∙ in_range i strata s (slice_index words i) some_i within)
      (λ other.
      let bound : slice_index words i ≤ seats =
      subst (λ w. w ≤ seats) (state-word strata seats i words views some_i)
      (held.sound.words (i - 1) 0 (omega (arith, (state-shaped strata seats words views held.wide).words))) in
      let big : seats < s = ⊎_elim (λ h. h) (λ small. let one : has s v ≡ 1 = all_seats all s (omega arith) small in absurd (omega arith)) (cases_lt seats s) in
      none_times i s other ∙ sym (unequal (slice_index words i) s (omega arith)))
      (has-cases s v)

  pub closed : HasAll v → IsClosed v (slice_index words 0) (drop 1 words)
  closed all =
      let sizes = (held.own id v at).sizes part in
      let sound = subst Sound (whole_state all) held.sound in
      let told : count_by (λ told. told) (map (is_told_in v) (range_with_len 1 seats)) ≡ count_by (is_told_in v) (range_with_len 1 seats) =
      fold-map (λ a (x : Bool). a + one_if x) (is_told_in v) 0 (range_with_len 1 seats) in
      let length_drawn : sum_by (λ (list : List ℕ). length list) (map (λ s. of_seat s v.drawn) (range_with_len 1 seats)) ≡ length v.drawn =
      seats_sum (λ (list : List ℕ). length list) (λ x. 1) refl (λ x xs. (let e : length (x ∷ xs) ≡ 1 + length xs = omega arith in e)) seats v.drawn (own_seats v.drawn (held.own id v at).drawn)
      ∙ ones v.drawn in
      let count : slice_index words 0 ≡ length v.drawn + count_by (is_told_in v) (range_with_len 1 seats) = omega (arith, sound.count.total) in
      record {
        sound = rw (sizes.0, sizes.1) sound;
        drawn = λ t. drawn_times all t ∙ ap (λ n. one_if (nat_lt t (min (slice_index words 0) (2 * n)))) (sym sizes.0);
        count = rw sizes.1 count;
        won = λ i s some_i within some_s.
            won_as_words all i s some_i (rw (← sizes.0) within) some_s
            ∙ ap (λ w. one_if (w == s)) (sym (state-word strata seats i words views some_i));
      }

-- the words of the strata are seats
pub word_bound : (strata seats : ℕ) (words : List ℕ) (views : List View) → Held strata seats words views → (j : ℕ) → j < strata → slice_index words (j + 1) ≤ seats
word_bound strata seats words views held j below =
    subst (λ w. w ≤ seats) (get_or-drop 1 words j 0 ∙ ap (slice_index words) (let e : 1 + j ≡ j + 1 = omega arith in e))
    (held.sound.words j 0 (omega (arith, (state-shaped strata seats words views held.wide).words)))

pub at_index : (words : List ℕ) (k n : ℕ) → get_elem? words k ≡ some n → slice_index words k ≡ n
at_index words k n e = (at_get words k n 0 e).1

-- the winners that were filled in are the words of the strata
pub filled : (words winners : List ℕ) (strata : ℕ) → length words ≡ strata + 1 → length winners ≡ strata → ((k : ℕ) → k < strata → get_elem? words (k + 1) ≡ some (get_or winners k 0)) → drop 1 words ≡ winners
filled words winners strata wide room each =
    ext_get_or 0 (drop 1 words) winners (let e : length (drop 1 words) ≡ length winners = omega (arith, length-drop 1 words) in e)
    (λ k inside.
    let below : k < strata = omega (arith, length-drop 1 words) in
    get_or-drop 1 words k 0 ∙ ap (slice_index words) (let e : 1 + k ≡ k + 1 = omega arith in e) ∙ at_index words (k + 1) (get_or winners k 0) (each k below))
