-- The first view, and views that are cut or made one, keep the rule.
use Rattle.std.proofs.Common.{◌≡◌, ◌≢◌, ℕ, zero, suc, ◌+◌, ◌-◌, ◌<◌, ◌≤◌, ◌==◌, ◌&&◌, nat_le, nat_lt, false, List, [], ◌∷◌, ◌++◌, length, set, drop, map, filter, flat_map, replicate, slice_index, arith, refl, sym, ap, subst, ◌∙◌, ⊎_elim, ◌⊎◌, inl, inr}
use Rattle.std.specs.List.{range_with_len}
use Rattle.std.proofs.lemmas.Bool.Decides.{nat_tests}
use Rattle.std.proofs.lemmas.List.{append-nil, length-replicate, drop-replicate, get_or-replicate, same_lists}
use Rattle.std.proofs.lemmas.List.Concat.{flat_map-append}
use Rattle.std.proofs.lemmas.List.Elements.{All-nil, All-append, filter-append}
use Rattle.std.proofs.lemmas.List.FromFn.{length-map-range_with_len, get_or-map-range_with_len}
use Rattle.std.proofs.lemmas.List.Sums.{sum_by-append}
use mathlib.Core.Option.{some, some-injective, some-ne-none}
use lib.ListN.{get_elem?}
use Rattle.atomic_table.proofs.Lists.{at_set, at_snoc, set_here, set_else}
use Rattle.race_core.specs.State.{initial, one_if}
use Rattle.race_core.specs.Sound.{Sound}
use Rattle.race_core.specs.Laws.{StartIsSound}
use Rattle.race_table.specs.Views.{view, has, of_seat, front, back, united, nobody, was_told}
use Rattle.race_table.specs.Rule.{Held, IsOwn, ToldTruly, state_of, drawn_by, won_by, is_told}
use Rattle.race_table.specs.declared.view.View.{View}
use Rattle.race_table.proofs.Sums.{at_get, sum-set, has-cases, lonely}
use Rattle.race_table.proofs.Steps.{untold-spent}
use Rattle.race_table.proofs.Seats.{of_seat-append, flat-set, flat-only, range-same}

-- a list that is the same everywhere
pub range-constant : {X : Type 0} (x : X) (n : ℕ) → map (λ (s : ℕ). x) (range_with_len 1 n) ≡ replicate n x
range-constant x n = same_lists (map (λ (s : ℕ). x) (range_with_len 1 n)) (replicate n x)
    (length-map-range_with_len (λ (s : ℕ). x) 1 n ∙ sym (length-replicate n x))
    (λ k d inside.
    let below : k < n = omega (arith, length-map-range_with_len (λ (s : ℕ). x) 1 n) in
    get_or-map-range_with_len (λ (s : ℕ). x) 1 n k (1 + k) d below refl ∙ sym (get_or-replicate n k x d below))

one_view : (v u : View) (k : ℕ) → get_elem? (v ∷ []) k ≡ some u → v ≡ u
one_view v u zero e = some-injective v u e
one_view v u (suc k) e = absurd (some-ne-none u (sym e))

no_words : (strata : ℕ) → ◌≡◌ {A = List ℕ} (drop {A = ℕ} 1 (replicate {A = ℕ} (strata + 1) 0)) (replicate {A = ℕ} strata 0)
no_words strata = let z : ℕ = 0 in drop-replicate 1 (strata + 1) z ∙ ap (λ n. replicate n z) (let e : strata + 1 - 1 ≡ strata = omega arith in e)

no_count : (strata : ℕ) → ◌≡◌ {A = ℕ} (slice_index (replicate {A = ℕ} (strata + 1) 0) 0) 0
no_count strata = let z : ℕ = 0 in get_or-replicate (strata + 1) 0 z z (omega arith)

first-numbers : (s seats : ℕ) → one_if (nat_le 1 s && nat_lt s (1 + seats)) ≡ one_if (nat_le 1 s && nat_le s seats)
first-numbers s seats = grind (arith, nat_tests)

pub opening-held : StartIsSound → (strata seats : ℕ) → strata ≤ 256 → seats ≤ 17 → Held strata seats (replicate (strata + 1) 0) (view strata seats 1 seats [] [] [] [] ∷ [])
opening-held start strata seats few few_seats =
    let v = view strata seats 1 seats [] [] [] [] in
    let words : List ℕ = replicate (strata + 1) 0 in
    let same : state_of strata seats words (v ∷ []) ≡ initial strata seats =
    λ k. record {
      strata = strata;
      seats = seats;
      count = no_count strata k;
      words = no_words strata k;
      drawn = range-constant {X = List ℕ} [] seats k;
      won = range-constant {X = List ℕ} [] seats k;
      spent = range-constant false seats k;
      joined = [];
    } in
    record {
      wide = (let z : ℕ = 0 in length-replicate (strata + 1) z);
      small = omega arith;
      sound = subst Sound (sym same) (start strata seats).1;
      numbers = λ s. omega (arith, first-numbers s seats);
      own = λ id u e. subst (IsOwn strata seats) (one_view v u id e) record { drawn = λ s none. refl; won = λ s none. refl; spent = λ s none. refl; sizes = λ some. (refl, refl) };
      told = λ id u e. subst (ToldTruly strata words) (one_view v u id e) (All-nil (λ p. (1 ≤ p.0) × (p.0 ≤ strata) × (p.1 ≢ 0) × (slice_index words p.0 ≡ p.1)));
    }

has-cut : (s : ℕ) (v : View) → 2 ≤ v.parts → has s v ≡ has s (front v) + has s (back v)
has-cut s v two = grind (arith, nat_tests)

has-united : (s : ℕ) (v w : View) → w.first ≡ v.first + v.parts → has s (united v w) ≡ has s v + has s w
has-united s v w follows = grind (arith, nat_tests)

has-nobody : (s : ℕ) → has s nobody ≡ 0
has-nobody s = grind (arith, nat_tests)

-- joined lists after a cut: the new view has nothing
flat-cut : {X : Type 0} (f : View → List X) (views : List View) (id : ℕ) (v w : View) → get_elem? views id ≡ some v → f (front v) ≡ f v → f w ≡ []
    → flat_map f (set views id (front v) ++ w ∷ []) ≡ flat_map f views
flat-cut f views id v w at same none =
    flat_map-append f (set views id (front v)) (w ∷ []) ∙ ap (λ l. flat_map f (set views id (front v)) ++ (l ++ [])) none
    ∙ append-nil (flat_map f (set views id (front v))) ∙ flat-set f views id v (front v) at same

pub split-same : (strata seats id : ℕ) (v : View) (words : List ℕ) (views : List View) → get_elem? views id ≡ some v
    → state_of strata seats words (set views id (front v) ++ back v ∷ []) ≡ state_of strata seats words views
split-same strata seats id v words views at =
    let after = set views id (front v) ++ back v ∷ [] in
    let drawn : map (drawn_by after) (range_with_len 1 seats) ≡ map (drawn_by views) (range_with_len 1 seats) =
    range-same (drawn_by views) (drawn_by after) seats (λ t a b. flat-cut (λ u. of_seat t u.drawn) views id v (back v) at refl refl) in
    let won : map (won_by after) (range_with_len 1 seats) ≡ map (won_by views) (range_with_len 1 seats) =
    range-same (won_by views) (won_by after) seats (λ t a b. flat-cut (λ u. of_seat t u.won) views id v (back v) at refl refl) in
    let spent : map (is_told after) (range_with_len 1 seats) ≡ map (is_told views) (range_with_len 1 seats) =
    range-same (is_told views) (is_told after) seats (λ t a b. ap (λ (l : List ℕ). nat_lt 0 (length l)) (flat-cut (λ u. filter (λ x. x == t) u.spent) views id v (back v) at refl refl)) in
    λ k. record { strata = strata; seats = seats; count = slice_index words 0; words = drop 1 words; drawn = drawn k; won = won k; spent = spent k; joined = [] }

pub splits : (strata seats id : ℕ) (v : View) (words : List ℕ) (views : List View) → 2 ≤ v.parts → v.drawn ≡ [] → v.won ≡ [] → was_told v ≡ false
    → Held strata seats words views → get_elem? views id ≡ some v → Held strata seats words (set views id (front v) ++ back v ∷ [])
splits strata seats id v words views two no_drawn no_won unspent held at =
    let no_spent : v.spent ≡ [] = untold-spent v unspent in
    let own = held.own id v at in
    let sizes : (v.strata ≡ strata) × (v.seats ≡ seats) = own.sizes (omega arith) in
    let own_front : IsOwn strata seats (front v) = record {
      drawn = λ s none. ap (of_seat s) no_drawn;
      won = λ s none. ap (of_seat s) no_won;
      spent = λ s none. ap (filter (λ t. t == s)) no_spent;
      sizes = λ some. sizes;
    } in
    let own_back : IsOwn strata seats (back v) = record { drawn = λ s none. refl; won = λ s none. refl; spent = λ s none. refl; sizes = λ some. sizes } in
    record {
      wide = held.wide;
      small = held.small;
      sound = subst Sound (sym (split-same strata seats id v words views at)) held.sound;
      numbers = λ s. omega (arith, sum_by-append (has s) (set views id (front v)) (back v ∷ []), sum-set (has s) views id v (front v) at, has-cut s v two, held.numbers s);
      own = λ k u there. ⊎_elim
          (λ b. ⊎_elim (λ t. subst (IsOwn strata seats) t.1 own_front) (λ t. held.own k u t.1) (at_set views id k (front v) u b))
          (λ e. subst (IsOwn strata seats) e own_back)
          (at_snoc (set views id (front v)) (back v) u k there);
      told = λ k u there. ⊎_elim
          (λ b. ⊎_elim (λ t. subst (ToldTruly strata words) t.1 (held.told id v at)) (λ t. held.told k u t.1) (at_set views id k (front v) u b))
          (λ e. subst (ToldTruly strata words) e (All-nil (λ p. (1 ≤ p.0) × (p.0 ≤ strata) × (p.1 ≢ 0) × (slice_index words p.0 ≡ p.1))))
          (at_snoc (set views id (front v)) (back v) u k there);
    }

-- what a seat has after two views were made one: at most one view has anything of it
module _ (strata seats : ℕ) (words : List ℕ) (views : List View) (held : Held strata seats words views) (id : ℕ) (v : View) (at : get_elem? views id ≡ some v)
    (other : ℕ) (w : View) (apart : other ≢ id) (there : get_elem? views other ≡ some w) where
  after : List View
  after = set (set views id (united v w)) other nobody

  at_id : get_elem? after id ≡ some (united v w)
  unfolding after
  at_id = set_else (set views id (united v w)) other id nobody (λ e. apart (sym e)) ∙ set_here views id (united v w) (at_get views id v v at).0

  at_k : (k : ℕ) (u : View) → k ≢ id → get_elem? after k ≡ some u → ((k ≢ other) × (get_elem? views k ≡ some u)) ⊎ (nobody ≡ u)
  unfolding after
  at_k k u ne e = ⊎_elim
      (λ t. inr t.1)
      (λ t. inl (t.0, sym (set_else views id k (united v w) ne) ∙ t.1))
      (at_set (set views id (united v w)) other k nobody u e)

  there_yet : get_elem? (set views id (united v w)) other ≡ some w
  there_yet = set_else views id other (united v w) apart ∙ there

  -- f joins what one seat has in one list of each view
  joined-same : {X : Type 0} (f : View → List X) (s : ℕ) → f (united v w) ≡ f v ++ f w → f nobody ≡ [] → ((k : ℕ) (u : View) → get_elem? views k ≡ some u → has s u ≡ 0 → f u ≡ [])
      → flat_map f after ≡ flat_map f views
  unfolding after
  joined-same f s both none own = ⊎_elim
      (λ mine.
      let lone = lonely seats s views id v held.numbers at mine in
      let w_none : f w ≡ [] = own other w there (lone other w apart there) in
      flat-only f after id (united v w) at_id (λ k u ne e. ⊎_elim (λ old. own k u old.1 (lone k u ne old.1)) (λ gone. ap f (sym gone) ∙ none) (at_k k u ne e))
      ∙ both ∙ ap (λ l. f v ++ l) w_none ∙ append-nil (f v) ∙ sym (flat-only f views id v at (λ k u ne old. own k u old (lone k u ne old))))
      (λ not_v.
      let v_none : f v ≡ [] = own id v at not_v in
      ⊎_elim
      (λ mine.
      let lone = lonely seats s views other w held.numbers there mine in
      flat-only f after id (united v w) at_id (λ k u ne e. ⊎_elim (λ old. own k u old.1 (lone k u old.0 old.1)) (λ gone. ap f (sym gone) ∙ none) (at_k k u ne e))
      ∙ both ∙ ap (λ l. l ++ f w) v_none ∙ sym (flat-only f views other w there (λ k u ne old. own k u old (lone k u ne old))))
      (λ not_w.
      let w_none : f w ≡ [] = own other w there not_w in
      flat-set f (set views id (united v w)) other w nobody there_yet (none ∙ sym w_none)
      ∙ flat-set f views id v (united v w) at (both ∙ ap (λ l. f v ++ l) w_none ∙ append-nil (f v)))
      (has-cases s w))
      (has-cases s v)

  own_united : w.first ≡ v.first + v.parts → 0 < v.parts → IsOwn strata seats (united v w)
  own_united follows some_v =
      let own_v = held.own id v at in
      let own_w = held.own other w there in
      let parts_none : (s : ℕ) → has s (united v w) ≡ 0 → (has s v ≡ 0) × (has s w ≡ 0) = λ s none. (omega (arith, has-united s v w follows), omega (arith, has-united s v w follows)) in
      record {
        drawn = λ s none. of_seat-append s v.drawn w.drawn ∙ ap (λ l. l ++ of_seat s w.drawn) (own_v.drawn s (parts_none s none).0) ∙ own_w.drawn s (parts_none s none).1;
        won = λ s none. of_seat-append s v.won w.won ∙ ap (λ l. l ++ of_seat s w.won) (own_v.won s (parts_none s none).0) ∙ own_w.won s (parts_none s none).1;
        spent = λ s none. filter-append (λ t. t == s) v.spent w.spent ∙ ap (λ l. l ++ filter (λ t. t == s) w.spent) (own_v.spent s (parts_none s none).0) ∙ own_w.spent s (parts_none s none).1;
        sizes = λ some. own_v.sizes some_v;
      }

  pub join-same : state_of strata seats words (set (set views id (united v w)) other nobody) ≡ state_of strata seats words views
  unfolding after
  join-same =
      let drawn : map (drawn_by after) (range_with_len 1 seats) ≡ map (drawn_by views) (range_with_len 1 seats) =
      range-same (drawn_by views) (drawn_by after) seats
      (λ t a b. joined-same (λ u. of_seat t u.drawn) t (of_seat-append t v.drawn w.drawn) refl (λ k u e. (held.own k u e).drawn t)) in
      let won : map (won_by after) (range_with_len 1 seats) ≡ map (won_by views) (range_with_len 1 seats) =
      range-same (won_by views) (won_by after) seats
      (λ t a b. joined-same (λ u. of_seat t u.won) t (of_seat-append t v.won w.won) refl (λ k u e. (held.own k u e).won t)) in
      let spent : map (is_told after) (range_with_len 1 seats) ≡ map (is_told views) (range_with_len 1 seats) =
      range-same (is_told views) (is_told after) seats
      (λ t a b. ap (λ (l : List ℕ). nat_lt 0 (length l))
      (joined-same (λ u. filter (λ x. x == t) u.spent) t (filter-append (λ x. x == t) v.spent w.spent) refl (λ k u e. (held.own k u e).spent t))) in
      λ k. record { strata = strata; seats = seats; count = slice_index words 0; words = drop 1 words; drawn = drawn k; won = won k; spent = spent k; joined = [] }

  pub joins : w.first ≡ v.first + v.parts → 0 < v.parts → Held strata seats words (set (set views id (united v w)) other nobody)
  unfolding after
  joins follows some_v =
      let own_nobody : IsOwn strata seats nobody = record { drawn = λ s none. refl; won = λ s none. refl; spent = λ s none. refl; sizes = λ some. absurd (omega arith) } in
      record {
        wide = held.wide;
        small = held.small;
        sound = subst Sound (sym join-same) held.sound;
        numbers = λ s. omega (arith, sum-set (has s) (set views id (united v w)) other w nobody there_yet, sum-set (has s) views id v (united v w) at, has-united s v w follows, has-nobody s, held.numbers s);
        own = λ k u e. ⊎_elim
            (λ t. subst (IsOwn strata seats) t.1 own_nobody)
            (λ b. ⊎_elim (λ t. subst (IsOwn strata seats) t.1 (own_united follows some_v)) (λ t. held.own k u t.1) (at_set views id k (united v w) u b.1))
            (at_set (set views id (united v w)) other k nobody u e);
        told = λ k u e. ⊎_elim
            (λ t. subst (ToldTruly strata words) t.1 (All-nil (λ p. (1 ≤ p.0) × (p.0 ≤ strata) × (p.1 ≢ 0) × (slice_index words p.0 ≡ p.1))))
            (λ b. ⊎_elim (λ t. subst (ToldTruly strata words) t.1
            (All-append (λ p. (1 ≤ p.0) × (p.0 ≤ strata) × (p.1 ≢ 0) × (slice_index words p.0 ≡ p.1)) v.told w.told (held.told id v at) (held.told other w there)))
            (λ t. held.told k u t.1) (at_set views id k (united v w) u b.1))
            (at_set (set views id (united v w)) other k nobody u e);
      }
