-- What lists of events reach.
use Rattle.std.proofs.Common.{◌≡◌, ℕ, ◌+◌, ◌-◌, ◌<◌, ◌≤◌, ◌==◌, ◌&&◌, nat_lt, nat_le, min, true, List, [], ◌∷◌, ◌++◌, length, get_or, take, drop, sum_by, count_by, arith, refl, sym, ap, subst, ◌∙◌, ⊎_elim}
use Rattle.std.proofs.lemmas.Bool.{cases_eq, and_parts, eqb-true}
use Rattle.std.proofs.lemmas.Bool.Decides.{nat_tests}
use Rattle.std.proofs.lemmas.List.{get_or-replicate, take-append-drop, drop_more, take_more}
use Rattle.std.proofs.lemmas.List.Sums.{sum_by-cons, sum_by_push, get_or-le-sum_by}
use Rattle.race_core.specs.State.{State, initial, IsShaped, IsSeat, IsStratum, tickets, word, won_list, times, times_joined, one_if}
use Rattle.race_core.specs.Moves.{Allows, next}
use Rattle.race_core.specs.Sound.{Sound}
use Rattle.race_core.specs.Runs.{after, AllowsAll, IsRefused}
use Rattle.race_core.specs.Laws.{StartIsSound, SoundnessIsKept, SoundStatesAccount, IsReached, is_draw, is_win, is_join, is_join_of, ReachedStatesAreSound, NoStratumIsJoinedTwice, JoinedStrataWereWon, EachTicketIsDrawnByOneSeat, DrawsAreAccounted, AllowedListsAreNotRefused}
use Rattle.race_core.specs.declared.event.Event.{Event}
use Rattle.race_core.specs.declared.event.Event.TheVariants.{Draw, LookOpen, LookTaken, Win, Lose, Join}
use Rattle.race_core.proofs.Counting.{times-push, one_at_most, some_passes, one_term, two_terms}
use Rattle.race_core.proofs.Kept.{initial-shaped, initial-sound, next-shaped, next-sound, next-sizes, draw-cases, entry-same, entry-other, drawn-total, count-bound}

pub start-sound : StartIsSound
start-sound strata seats = (initial-shaped strata seats, initial-sound strata seats)

pub kept-sound : SoundnessIsKept
kept-sound c e shaped sound allowed = (next-shaped c e shaped, next-sound c e shaped sound allowed)

pub sound-account : SoundStatesAccount
sound-account c shaped sound = (drawn-total c sound, count-bound c shaped sound)

-- one more event at the end
pub after-push : (es : List Event) (c : State) (e : Event) → after c (es ++ e ∷ []) ≡ next (after c es) e
after-push [] c e = refl
after-push (x ∷ es) c e = after-push es (next c x) e

pub AllowsAll-push : (es : List Event) (c : State) (e : Event) → AllowsAll c es → Allows (after c es) e → AllowsAll c (es ++ e ∷ [])
AllowsAll-push [] c e all one = (one, tt)
AllowsAll-push (x ∷ es) c e all one = (all.0, AllowsAll-push es (next c x) e all.1 one)

-- an event in the middle of an allowed list is allowed there
in_middle : (before : List Event) (c : State) (e : Event) (rest : List Event) → AllowsAll c (before ++ e ∷ rest) → Allows (after c before) e
in_middle [] c e rest all = all.0
in_middle (x ∷ before) c e rest all = in_middle before (next c x) e rest all.1

pub not-refused : AllowedListsAreNotRefused
not-refused c events all refused = refused.refused (in_middle refused.before c refused.event refused.rest (subst (AllowsAll c) refused.place all))

-- a refused event at place k
pub refused_at : (c : State) (events : List Event) (k : ℕ) (d : Event) → k < length events → AllowsAll c (take k events)
    → ¬ Allows (after c (take k events)) (get_or events k d) → IsRefused c events
refused_at c events k d inside all not_here = record {
  before = take k events;
  event = get_or events k d;
  rest = drop (k + 1) events;
  place = sym (take-append-drop k events) ∙ ap (λ xs. take k events ++ xs) (drop_more events k d inside);
  reached = all;
  refused = not_here;
}

-- one more allowed event, at place k
pub record GoesOn (c : State) (events : List Event) (k : ℕ) (e : Event) : Type 0 where
  pub allowed : AllowsAll c (take (k + 1) events)
  pub state : after c (take (k + 1) events) ≡ next (after c (take k events)) e

pub goes_on : (c : State) (events : List Event) (k : ℕ) (d : Event) → k < length events → AllowsAll c (take k events)
    → Allows (after c (take k events)) (get_or events k d) → GoesOn c events k (get_or events k d)
goes_on c events k d inside all here =
    let more : take (k + 1) events ≡ take k events ++ get_or events k d ∷ [] = take_more events k d inside in
    record {
      allowed = subst (AllowsAll c) (sym more) (AllowsAll-push (take k events) c (get_or events k d) all here);
      state = ap (after c) more ∙ after-push (take k events) c (get_or events k d);
    }

-- what all events keep
pub record Reaches (c d : State) : Type 0 where
  pub shaped : IsShaped d
  pub sound : Sound d
  pub strata : d.strata ≡ c.strata
  pub seats : d.seats ≡ c.seats

pub reaches : (es : List Event) (c : State) → IsShaped c → Sound c → AllowsAll c es → Reaches c (after c es)
reaches [] c shaped sound all = record { shaped = shaped; sound = sound; strata = refl; seats = refl }
reaches (e ∷ es) c shaped sound all =
    let rest = reaches es (next c e) (next-shaped c e shaped) (next-sound c e shaped sound all.0) all.1 in
    let sizes = next-sizes c e in
    record { shaped = rest.shaped; sound = rest.sound; strata = rest.strata ∙ sizes.strata; seats = rest.seats ∙ sizes.seats }

pub from_start : (strata seats : ℕ) (events : List Event) (c : State) → IsReached strata seats events c → Reaches (initial strata seats) c
from_start strata seats events c reached =
    subst (Reaches (initial strata seats)) (sym reached.state)
    (reaches events (initial strata seats) (initial-shaped strata seats) (initial-sound strata seats) reached.allowed)

pub reached-sound : ReachedStatesAreSound
reached-sound strata seats events c reached = let all = from_start strata seats events c reached in (all.sound, all.strata, all.seats)

-- how the counts of events grow
count-step : (c : State) (e : Event) → (next c e).count ≡ c.count + one_if (is_draw e)
count-step c (Draw s) = draw-cases (λ d. d.count ≡ c.count + 1) c s (λ _. refl) (λ _. refl)
count-step c (LookOpen s i) = omega arith
count-step c (LookTaken s i by) = omega arith
count-step c (Win s i) = omega arith
count-step c (Lose s i by) = omega arith
count-step c (Join s i) = omega arith

joined-step : (c : State) (e : Event) (i : ℕ) → times_joined (next c e) i ≡ times_joined c i + one_if (is_join_of i e)
joined-step c (Draw s) i = draw-cases (λ d. times_joined d i ≡ times_joined c i + 0) c s (λ _. omega arith) (λ _. omega arith)
joined-step c (LookOpen s j) i = omega arith
joined-step c (LookTaken s j by) i = omega arith
joined-step c (Win s j) i = omega arith
joined-step c (Lose s j by) i = omega arith
joined-step c (Join s j) i = sum_by_push (λ p. one_if (p.0 == i)) c.joined (j, s)

-- how often the pair stands in the joined list
times_pair : State → ℕ → ℕ → ℕ
times_pair c i s = count_by (λ p. p.0 == i && p.1 == s) c.joined

pair-step : (c : State) (e : Event) (i s : ℕ) → times_pair (next c e) i s ≡ times_pair c i s + one_if (is_join i s e)
unfolding times_pair
pair-step c (Draw t) i s = draw-cases (λ d. times_pair d i s ≡ times_pair c i s + 0) c t (λ _. omega arith) (λ _. omega arith)
pair-step c (LookOpen t j) i s = omega arith
pair-step c (LookTaken t j by) i s = omega arith
pair-step c (Win t j) i s = omega arith
pair-step c (Lose t j by) i s = omega arith
pair-step c (Join t j) i s = sum_by_push (λ p. one_if (p.0 == i && p.1 == s)) c.joined (j, t)

won_more : (i s j t n : ℕ) → t ≡ s → n + one_if (j == i) ≡ n + one_if (j == i && t == s)
won_more i s j t n same = grind (arith, nat_tests)

won_same : (i s j t n : ℕ) → (s ≡ t → ⊥) → n ≡ n + one_if (j == i && t == s)
won_same i s j t n ne = grind (arith, nat_tests)

won-step : (c : State) (e : Event) (i s : ℕ) → IsShaped c → Allows c e → IsSeat c s → times i (won_list (next c e) s) ≡ times i (won_list c s) + one_if (is_win i s e)
won-step c (Draw t) i s shaped allowed seat = draw-cases (λ d. times i (won_list d s) ≡ times i (won_list c s) + 0) c t (λ _. omega arith) (λ _. omega arith)
won-step c (LookOpen t j) i s shaped allowed seat = omega arith
won-step c (LookTaken t j by) i s shaped allowed seat = omega arith
won-step c (Win t j) i s shaped allowed seat = ⊎_elim
    (λ same.
    let list : won_list (next c (Win t j)) s ≡ won_list c s ++ j ∷ [] =
    rw same (entry-same c.won c.seats t (won_list c t ++ j ∷ []) [] shaped.won allowed.0.0 allowed.0.1) in
    ap (times i) list ∙ times-push i j (won_list c s) ∙ won_more i s j t (times i (won_list c s)) (sym same))
    (λ ne.
    let list : won_list (next c (Win t j)) s ≡ won_list c s = entry-other c.won t s (won_list c t ++ j ∷ []) [] allowed.0.0 seat.0 ne in
    ap (times i) list ∙ won_same i s j t (times i (won_list c s)) ne)
    (cases_eq s t)
won-step c (Lose t j by) i s shaped allowed seat = omega arith
won-step c (Join t j) i s shaped allowed seat = omega arith

count-run : (es : List Event) (c : State) → (after c es).count ≡ c.count + count_by is_draw es
count-run [] c = omega arith
count-run (e ∷ es) c = omega (arith, count-run es (next c e), count-step c e, sum_by-cons (λ x. one_if (is_draw x)) e es)

joined-run : (es : List Event) (c : State) (i : ℕ) → times_joined (after c es) i ≡ times_joined c i + count_by (is_join_of i) es
joined-run [] c i = omega arith
joined-run (e ∷ es) c i = omega (arith, joined-run es (next c e) i, joined-step c e i, sum_by-cons (λ x. one_if (is_join_of i x)) e es)

pair-run : (es : List Event) (c : State) (i s : ℕ) → times_pair (after c es) i s ≡ times_pair c i s + count_by (is_join i s) es
pair-run [] c i s = omega arith
pair-run (e ∷ es) c i s = omega (arith, pair-run es (next c e) i s, pair-step c e i s, sum_by-cons (λ x. one_if (is_join i s x)) e es)

won-run : (es : List Event) (c : State) (i s : ℕ) → IsShaped c → AllowsAll c es → IsSeat c s → times i (won_list (after c es) s) ≡ times i (won_list c s) + count_by (is_win i s) es
won-run [] c i s shaped all seat = omega arith
won-run (e ∷ es) c i s shaped all seat =
    let seat_next : IsSeat (next c e) s = (seat.0, rw (next-sizes c e).seats seat.1) in
    omega (arith, won-run es (next c e) i s (next-shaped c e shaped) all.1 seat_next, won-step c e i s shaped all.0 seat, sum_by-cons (λ x. one_if (is_win i s x)) e es)

pub joined-once : NoStratumIsJoinedTwice
joined-once strata seats events c reached i =
    let all = from_start strata seats events c reached in
    let run = joined-run events (initial strata seats) i in
    let same : times_joined (after (initial strata seats) events) i ≡ times_joined c i = ap (λ d. times_joined d i) (sym reached.state) in
    omega (arith, run, same, all.sound.joined.once i)

word_is : (i strata w s : ℕ) → 1 ≤ i → i ≤ strata → w ≡ s → one_if (nat_le 1 i && nat_le i strata && w == s) ≡ 1
word_is i strata w s some within same = grind (arith, nat_tests)

-- what is known of a pair that passes the test for i and s
pair_facts : (c : State) (i s : ℕ) (p : ℕ × ℕ) → (p.0 == i && p.1 == s) ≡ true → IsStratum c p.0 × IsSeat c p.1 × (word c p.0 ≡ p.1)
    → IsStratum c i × IsSeat c s × (word c i ≡ s)
pair_facts c i s p test facts =
    let tests = and_parts (p.0 == i) (p.1 == s) test in
    let is_i = eqb-true p.0 i tests.0 in
    let is_s = eqb-true p.1 s tests.1 in
    (subst (IsStratum c) is_i facts.0, subst (IsSeat c) is_s facts.1, ap (word c) (sym is_i) ∙ facts.2 ∙ is_s)

pub joined-won : JoinedStrataWereWon
unfolding times_pair
joined-won strata seats events c reached i s some =
    let all = from_start strata seats events c reached in
    let run = pair-run events (initial strata seats) i s in
    let same : times_pair (after (initial strata seats) events) i s ≡ times_pair c i s = ap (λ d. times_pair d i s) (sym reached.state) in
    let stands : 0 < times_pair c i s = omega arith in
    let found = some_passes (λ p. p.0 == i && p.1 == s) c.joined (0, 0) stands in
    let facts = pair_facts c i s (get_or c.joined found.0 (0, 0)) found.2 (all.sound.joined.won found.0 (0, 0) found.1) in
    let stratum = facts.0 in
    let seat = facts.1 in
    let held = facts.2 in
    let listed : times i (won_list c s) ≡ 1 = all.sound.won s i seat ∙ word_is i c.strata (word c i) s stratum.0 stratum.1 held in
    let first : IsSeat (initial strata seats) s = (seat.0, rw (← all.seats) seat.1) in
    let empty : times i (won_list (initial strata seats) s) ≡ 0 = ap (times i) (get_or-replicate seats (s - 1) [] [] (omega arith)) in
    let wins = won-run events (initial strata seats) i s (initial-shaped strata seats) reached.allowed first in
    let same_list : times i (won_list (after (initial strata seats) events) s) ≡ times i (won_list c s) = ap (λ d. times i (won_list d s)) (sym reached.state) in
    (omega arith, listed, held)

below_one : (t m : ℕ) → t < m → one_if (nat_lt t m) ≡ 1
below_one t m below = grind (arith, nat_tests)

below_at : (t m : ℕ) → 0 < one_if (nat_lt t m) → t < m
below_at t m some = grind (arith, nat_tests)

pub drawn-once : EachTicketIsDrawnByOneSeat
drawn-once strata seats events c reached =
    let all = from_start strata seats events c reached in (
      λ t below.
          let one : sum_by (λ list. times t list) c.drawn ≡ 1 = all.sound.drawn t ∙ below_one t _ below in
          let found = one_term (λ list. times t list) c.drawn [] one in
          (found.0 + 1, (omega arith, omega (arith, found.1, all.shaped.drawn)), ap (λ k. times t (get_or c.drawn k [])) (let e : found.0 + 1 - 1 ≡ found.0 = omega arith in e) ∙ found.2),
      λ t s u seat other mine theirs.
          let sum = all.sound.drawn t in
          let at_most : one_if (nat_lt t (min c.count (tickets c))) ≤ 1 = one_at_most (nat_lt t (min c.count (tickets c))) in
          let in_list : s - 1 < length c.drawn = omega (arith, all.shaped.drawn, seat.0, seat.1) in
          let in_list_too : u - 1 < length c.drawn = omega (arith, all.shaped.drawn, other.0, other.1) in (
            ⊎_elim
                (λ same. same)
                (λ ne. absurd (omega (arith, two_terms (λ list. times t list) c.drawn (s - 1) (u - 1) [] (λ e. ne (omega (arith, seat.0, other.0))) in_list in_list_too)))
                (cases_eq s u),
            below_at t (min c.count (tickets c)) (omega (arith, get_or-le-sum_by (λ list. times t list) c.drawn (s - 1) [] in_list)),
          ),
    )

pub accounted : DrawsAreAccounted
accounted strata seats events c reached =
    let all = from_start strata seats events c reached in
    let run = count-run events (initial strata seats) in
    let same : (after (initial strata seats) events).count ≡ c.count = ap (λ d. d.count) (sym reached.state) in
    (omega (arith, run, same), drawn-total c all.sound, all.sound.count.total, omega (arith, count-bound c all.shaped all.sound, all.seats))
