-- The first state is sound, and each allowed event keeps it so.
use Rattle.std.proofs.Common.{◌≡◌, ◌≢◌, ℕ, ◌+◌, ◌-◌, ◌*◌, ◌^◌, ◌<◌, ◌≤◌, ◌==◌, ◌&&◌, nat_lt, nat_le, min, Bool, true, false, List, [], ◌∷◌, ◌++◌, length, get_or, set, replicate, sum_by, arith, refl, sym, ap, ◌∙◌, ⊎_elim, length-set, get_or-set_same, get_or-set_other}
use Rattle.std.proofs.lemmas.Bool.{cases_eq, cases_lt, cond-false, cond_both, ltb-true, ltb-false, false≢true}
use Rattle.std.proofs.lemmas.Bool.Decides.{nat_tests}
use Rattle.std.proofs.lemmas.List.{length-replicate, get_or-replicate, get_or_past, length_push}
use Rattle.std.proofs.lemmas.List.Elements.{All-set, All-push, All-nil, All-replicate, All-weaker}
use Rattle.std.proofs.lemmas.List.Folds.{sum_by-replicate}
use Rattle.std.proofs.lemmas.List.Sums.{sum_by_push, sum_by-set, count_by-le-length}
use Rattle.race_core.specs.State.{State, initial, HasSizes, IsShaped, IsSeat, IsStratum, tickets, word, drawn_list, won_list, is_told_spent, times, times_joined, one_if}
use Rattle.race_core.specs.Moves.{Allows, next, added, drew, told_spent}
use Rattle.race_core.specs.Sound.{Sound, IsRaceState, is_word, drawn_total}
use Rattle.race_core.specs.declared.event.Event.{Event}
use Rattle.race_core.specs.declared.event.Event.TheVariants.{Draw, LookOpen, LookTaken, Win, Lose, Join}
use Rattle.race_core.proofs.Counting.{times-push, total-times, below-same, below-few}

-- a list by seat after one entry was changed
pub entry-same : {X : Type 0} (xs : List X) (n s : ℕ) (a d : X) → length xs ≡ n → 1 ≤ s → s ≤ n → get_or (set xs (s - 1) a) (s - 1) d ≡ a
entry-same xs n s a d long some within = get_or-set_same xs (s - 1) a d (omega arith)

pub entry-other : {X : Type 0} (xs : List X) (s t : ℕ) (a d : X) → 1 ≤ s → 1 ≤ t → t ≢ s → get_or (set xs (s - 1) a) (t - 1) d ≡ get_or xs (t - 1) d
entry-other xs s t a d some_s some_t ne = get_or-set_other xs (s - 1) (t - 1) a d (λ e. ne (omega arith))

pub initial-shaped : (strata seats : ℕ) → IsShaped (initial strata seats)
initial-shaped strata seats = record {
  words = length-replicate strata 0;
  drawn = length-replicate seats [];
  won = length-replicate seats [];
  spent = length-replicate seats false;
}

-- a list of zeros has zeros everywhere
zero_words : (n k : ℕ) → ◌≡◌ {A = ℕ} (get_or (replicate n 0) k 0) 0
zero_words n k = ⊎_elim
    (λ below. let z : ℕ = 0 in get_or-replicate n k z z below)
    (λ past. let zeros : List ℕ = replicate n 0 in let z : ℕ = 0 in get_or_past zeros k 0 (omega (arith, length-replicate n z)))
    (cases_lt k n)

unmatched : (b : Bool) (w s : ℕ) → w ≡ 0 → 1 ≤ s → one_if (b && w == s) ≡ 0
unmatched true w s none some = grind (arith, nat_tests)
unmatched false w s none some = refl

none_below : (t tickets : ℕ) → one_if (nat_lt t (min 0 tickets)) ≡ 0
none_below t tickets = grind (arith, nat_tests)

pub initial-sound : (strata seats : ℕ) → Sound (initial strata seats)
initial-sound strata seats = record {
  words = All-replicate (λ w. w ≤ seats) strata 0 (omega arith);
  won = λ s i seat.
      let list : won_list (initial strata seats) s ≡ [] = get_or-replicate seats (s - 1) [] [] (omega arith) in
      let free : one_if (is_word (initial strata seats) i s) ≡ 0 = unmatched _ (word (initial strata seats) i) s (zero_words strata (i - 1)) seat.0 in
      ap (times i) list ∙ sym free;
  drawn = λ t. omega (arith, sum_by-replicate (λ list. times t list) seats [], none_below t (2 * strata));
  count = record {
    total = omega (arith, sum_by-replicate (λ (list : List ℕ). length list) seats [], sum_by-replicate one_if seats false);
    late = λ s seat told. absurd (false≢true (sym (get_or-replicate seats (s - 1) false false (omega arith)) ∙ told));
  };
  joined = record { once = λ i. omega arith; won = All-nil (λ p. IsStratum (initial strata seats) p.0 × IsSeat (initial strata seats) p.1 × (word (initial strata seats) p.0 ≡ p.1)) };
}

-- a sum over lists by seat after an item was added
added-sum : (f : List ℕ → ℕ) (lists : List (List ℕ)) (n s x : ℕ) → length lists ≡ n → 1 ≤ s → s ≤ n
    → sum_by f (added lists s x) + f (get_or lists (s - 1) []) ≡ sum_by f lists + f (get_or lists (s - 1) [] ++ x ∷ [])
added-sum f lists n s x long some within = sum_by-set f lists (s - 1) (get_or lists (s - 1) [] ++ x ∷ []) [] (omega arith)

one_more : (t n tickets : ℕ) → n < tickets → one_if (nat_lt t (min n tickets)) + one_if (n == t) ≡ one_if (nat_lt t (min (n + 1) tickets))
one_more t n tickets below = grind (arith, nat_tests)

no_more : (t n tickets : ℕ) → tickets ≤ n → one_if (nat_lt t (min n tickets)) ≡ one_if (nat_lt t (min (n + 1) tickets))
no_more t n tickets above = grind (arith, nat_tests)

drew-sound : (c : State) (s : ℕ) → IsShaped c → Sound c → IsSeat c s → c.count < tickets c → Sound (drew c s)
drew-sound c s shaped sound seat below = record {
  words = sound.words;
  won = sound.won;
  drawn = λ t. omega (arith, added-sum (λ list. times t list) c.drawn c.seats s c.count shaped.drawn seat.0 seat.1, times-push t c.count (drawn_list c s), sound.drawn t, one_more t c.count (tickets c) below);
  count = record {
    total = omega (arith, added-sum (λ list. length list) c.drawn c.seats s c.count shaped.drawn seat.0 seat.1, length_push (drawn_list c s) c.count, sound.count.total);
    late = λ u some told. omega (arith, sound.count.late u some told);
  };
  joined = record { once = sound.joined.once; won = sound.joined.won };
}

told_spent-sound : (c : State) (s : ℕ) → IsShaped c → Sound c → IsSeat c s → is_told_spent c s ≡ false → tickets c ≤ c.count → Sound (told_spent c s)
told_spent-sound c s shaped sound seat untold above = record {
  words = sound.words;
  won = sound.won;
  drawn = λ t. sound.drawn t ∙ no_more t c.count (tickets c) above;
  count = record {
    total =
        let before : one_if (is_told_spent c s) ≡ 0 = cond-false (is_told_spent c s) 1 0 untold in
        omega (arith, sum_by-set one_if c.spent (s - 1) true false (omega arith), before, sound.count.total);
    late = λ u some told. omega arith;
  };
  joined = record { once = sound.joined.once; won = sound.joined.won };
}

-- the winner's list and the word, at the stratum that was won
won_here : (strata s i j w v n : ℕ) → 1 ≤ s → 1 ≤ i → i ≤ strata → j ≡ i → w ≡ 0 → v ≡ s
    → n ≡ one_if (nat_le 1 j && nat_le j strata && w == s) → n + one_if (i == j) ≡ one_if (nat_le 1 j && nat_le j strata && v == s)
won_here strata s i j w v n seat some within here free set old = grind (arith, nat_tests)

-- and at another stratum
won_else : (strata s i j w v n : ℕ) → 1 ≤ i → j ≢ i → v ≡ w
    → n ≡ one_if (nat_le 1 j && nat_le j strata && w == s) → n + one_if (i == j) ≡ one_if (nat_le 1 j && nat_le j strata && v == s)
won_else strata s i j w v n some ne same old = grind (arith, nat_tests)

-- another seat's list and the word that was won
lost_here : (strata s t i j w v n : ℕ) → 1 ≤ t → t ≢ s → w ≡ 0 → v ≡ s
    → n ≡ one_if (nat_le 1 j && nat_le j strata && w == t) → n ≡ one_if (nat_le 1 j && nat_le j strata && v == t)
lost_here strata s t i j w v n seat ne free set old = grind (arith, nat_tests)

-- no number is stratum 0
won_none : (strata i j w v n t : ℕ) → 1 ≤ i → j ≡ 0 → n ≡ one_if (nat_le 1 j && nat_le j strata && w == t)
    → n + one_if (i == j) ≡ one_if (nat_le 1 j && nat_le j strata && v == t)
won_none strata i j w v n t some none old = grind (arith, nat_tests)

lost_none : (strata j w v n t : ℕ) → j ≡ 0 → n ≡ one_if (nat_le 1 j && nat_le j strata && w == t) → n ≡ one_if (nat_le 1 j && nat_le j strata && v == t)
lost_none strata j w v n t none old = grind (arith, nat_tests)

lost_else : (strata j w v n t : ℕ) → v ≡ w → n ≡ one_if (nat_le 1 j && nat_le j strata && w == t) → n ≡ one_if (nat_le 1 j && nat_le j strata && v == t)
lost_else strata j w v n t same old = rw same old

won-after : (c : State) (s i t j : ℕ) → IsShaped c → Sound c → Allows c (Win s i) → IsSeat c t
    → times j (won_list (next c (Win s i)) t) ≡ one_if (is_word (next c (Win s i)) j t)
won-after c s i t j shaped sound allowed some =
    let old = sound.won t j some in
    let stratum = allowed.1 in
    ⊎_elim
    (λ same.
    let list : won_list (next c (Win s i)) t ≡ won_list c t ++ i ∷ [] =
    rw same (entry-same c.won c.seats s (won_list c s ++ i ∷ []) [] shaped.won allowed.0.0 allowed.0.1) in
    let count : times j (won_list (next c (Win s i)) t) ≡ times j (won_list c t) + one_if (i == j) = ap (times j) list ∙ times-push j i (won_list c t) in
    count ∙ ⊎_elim
    (λ here. won_here c.strata t i j (word c j) (word (next c (Win s i)) j) (times j (won_list c t)) some.0 stratum.0 stratum.1 here
    (rw here allowed.2) (rw here (entry-same c.words c.strata i s 0 shaped.words stratum.0 stratum.1) ∙ sym same) old)
    (λ ne. ⊎_elim
    (λ none. won_none c.strata i j (word c j) (word (next c (Win s i)) j) (times j (won_list c t)) t stratum.0 none old)
    (λ some_j. won_else c.strata t i j (word c j) (word (next c (Win s i)) j) (times j (won_list c t)) stratum.0 ne
    (entry-other c.words i j s 0 stratum.0 (omega arith) ne) old)
    (cases_eq j 0))
    (cases_eq j i))
    (λ ne.
    let list : won_list (next c (Win s i)) t ≡ won_list c t = entry-other c.won s t (won_list c s ++ i ∷ []) [] allowed.0.0 some.0 ne in
    ap (times j) list ∙ ⊎_elim
    (λ here. lost_here c.strata s t i j (word c j) (word (next c (Win s i)) j) (times j (won_list c t)) some.0 ne
    (rw here allowed.2) (rw here (entry-same c.words c.strata i s 0 shaped.words stratum.0 stratum.1)) old)
    (λ apart. ⊎_elim
    (λ none. lost_none c.strata j (word c j) (word (next c (Win s i)) j) (times j (won_list c t)) t none old)
    (λ some_j. lost_else c.strata j (word c j) (word (next c (Win s i)) j) (times j (won_list c t)) t (entry-other c.words i j s 0 stratum.0 (omega arith) apart) old)
    (cases_eq j 0))
    (cases_eq j i))
    (cases_eq t s)

win-sound : (c : State) (s i : ℕ) → IsShaped c → Sound c → Allows c (Win s i) → Sound (next c (Win s i))
win-sound c s i shaped sound allowed = record {
  words = All-set (λ w. w ≤ c.seats) c.words (i - 1) s allowed.0.1 sound.words;
  won = λ t j some. won-after c s i t j shaped sound allowed some;
  drawn = sound.drawn;
  count = record { total = sound.count.total; late = sound.count.late };
  joined = record {
    once = sound.joined.once;
    won = All-weaker (λ p. IsStratum c p.0 × IsSeat c p.1 × (word c p.0 ≡ p.1)) (λ p. IsStratum c p.0 × IsSeat c p.1 × (word (next c (Win s i)) p.0 ≡ p.1))
        (λ p h. (h.0, h.1, entry-other c.words i p.0 s 0 allowed.1.0 h.0.0 (λ e. let free : word c p.0 ≡ 0 = rw e allowed.2 in absurd (omega arith)) ∙ h.2))
        c.joined sound.joined.won;
  };
}

join-sound : (c : State) (s i : ℕ) → Sound c → Allows c (Join s i) → Sound (next c (Join s i))
join-sound c s i sound allowed = record {
  words = sound.words;
  won = sound.won;
  drawn = sound.drawn;
  count = record { total = sound.count.total; late = sound.count.late };
  joined = record {
    once = λ j.
        let pushed : times_joined (next c (Join s i)) j ≡ times_joined c j + one_if (i == j) = sum_by_push (λ p. one_if (p.0 == j)) c.joined (i, s) in
        ⊎_elim
        (λ e. let none : times_joined c j ≡ 0 = rw (← e) allowed.3 in let one : one_if (i == j) ≤ 1 = grind (arith, nat_tests) in omega arith)
        (λ ne. let zero_here : one_if (i == j) ≡ 0 = grind (arith, nat_tests) in omega (arith, sound.joined.once j))
        (cases_eq i j);
    won = All-push (λ p. IsStratum c p.0 × IsSeat c p.1 × (word c p.0 ≡ p.1)) c.joined (i, s) sound.joined.won (allowed.1, allowed.0, allowed.2);
  };
}

-- a draw draws or tells
pub draw-cases : (P : State → Type 0) (c : State) (s : ℕ) → (c.count < tickets c → P (drew c s)) → (tickets c ≤ c.count → P (told_spent c s)) → P (next c (Draw s))
draw-cases P c s number spent = cond_both (nat_lt c.count (tickets c)) (drew c s) (told_spent c s) P
    (λ e. number (ltb-true c.count (tickets c) e)) (λ e. spent (ltb-false c.count (tickets c) e))

pub next-sound : (c : State) (e : Event) → IsShaped c → Sound c → Allows c e → Sound (next c e)
next-sound c (Draw s) shaped sound allowed =
    draw-cases Sound c s (drew-sound c s shaped sound allowed.0) (told_spent-sound c s shaped sound allowed.0 allowed.1)
next-sound c (LookOpen s i) shaped sound allowed = sound
next-sound c (LookTaken s i by) shaped sound allowed = sound
next-sound c (Win s i) shaped sound allowed = win-sound c s i shaped sound allowed
next-sound c (Lose s i by) shaped sound allowed = sound
next-sound c (Join s i) shaped sound allowed = join-sound c s i sound allowed

-- the sizes stay
pub next-sizes : (c : State) (e : Event) → HasSizes c.strata c.seats (next c e)
next-sizes c (Draw s) = draw-cases (HasSizes c.strata c.seats) c s (λ _. record { strata = refl; seats = refl }) (λ _. record { strata = refl; seats = refl })
next-sizes c (LookOpen s i) = record { strata = refl; seats = refl }
next-sizes c (LookTaken s i by) = record { strata = refl; seats = refl }
next-sizes c (Win s i) = record { strata = refl; seats = refl }
next-sizes c (Lose s i by) = record { strata = refl; seats = refl }
next-sizes c (Join s i) = record { strata = refl; seats = refl }

pub next-shaped : (c : State) (e : Event) → IsShaped c → IsShaped (next c e)
next-shaped c (Draw s) shaped = draw-cases IsShaped c s
    (λ _. record { words = shaped.words; drawn = length-set c.drawn (s - 1) (drawn_list c s ++ c.count ∷ []) ∙ shaped.drawn; won = shaped.won; spent = shaped.spent })
    (λ _. record { words = shaped.words; drawn = shaped.drawn; won = shaped.won; spent = length-set c.spent (s - 1) true ∙ shaped.spent })
next-shaped c (LookOpen s i) shaped = shaped
next-shaped c (LookTaken s i by) shaped = shaped
next-shaped c (Win s i) shaped = record {
  words = length-set c.words (i - 1) s ∙ shaped.words;
  drawn = shaped.drawn;
  won = length-set c.won (s - 1) (won_list c s ++ i ∷ []) ∙ shaped.won;
  spent = shaped.spent;
}
next-shaped c (Lose s i by) shaped = shaped
next-shaped c (Join s i) shaped = record { words = shaped.words; drawn = shaped.drawn; won = shaped.won; spent = shaped.spent }

pub initial-core : (strata seats : ℕ) → strata ≤ 256 → 1 ≤ seats → seats ≤ 17 → IsRaceState (initial strata seats)
initial-core strata seats few some few_seats = record {
  few_strata = few;
  some_seat = some;
  few_seats = few_seats;
  shaped = initial-shaped strata seats;
  sound = initial-sound strata seats;
}

pub next-core : (c : State) (e : Event) → IsRaceState c → Allows c e → IsRaceState (next c e)
next-core c e core allowed = let sizes = next-sizes c e in record {
  few_strata = rw sizes.strata core.few_strata;
  some_seat = rw sizes.seats core.some_seat;
  few_seats = rw sizes.seats core.few_seats;
  shaped = next-shaped c e core.shaped;
  sound = next-sound c e core.shaped core.sound allowed;
}

past_none : (t m : ℕ) → m ≤ t → one_if (nat_lt t m) ≡ 0
past_none t m past = grind (arith, nat_tests)

-- how many tickets are drawn
pub drawn-total : (c : State) → Sound c → drawn_total c ≡ min c.count (tickets c)
drawn-total c sound =
    let m = min c.count (tickets c) in
    let zero_past : (t : ℕ) → m ≤ t → sum_by (λ list. times t list) c.drawn ≡ 0 = λ t past. sound.drawn t ∙ past_none t m past in
    total-times m c.drawn zero_past ∙ below-same (λ t. sum_by (λ list. times t list) c.drawn) (λ t. one_if (nat_lt t m)) m sound.drawn ∙ below-few m m ∙ (let e : min m m ≡ m = omega arith in e)

pub count-bound : (c : State) → IsShaped c → Sound c → c.count ≤ tickets c + c.seats
count-bound c shaped sound = omega (arith, drawn-total c sound, sound.count.total, count_by-le-length (λ told. told) c.spent, shaped.spent)

pub core-room : (c : State) → IsRaceState c → c.count < 2 ^ 32
core-room c core = omega (arith, count-bound c core.shaped core.sound, core.few_strata, core.few_seats)
