-- What one seat has in the lists of all views.
use Rattle.std.proofs.Common.{◌≡◌, ◌≢◌, ℕ, zero, suc, ◌+◌, ◌-◌, ◌<◌, ◌≤◌, ◌==◌, ◌&&◌, Bool, true, false, cond, List, [], ◌∷◌, ◌++◌, length, get_or, set, map, filter, flat_map, arith, refl, sym, ap, ◌∙◌, ⊎_elim, eq-eqb, ne_eqb, length-set, get_or-set_same, get_or-set_other}
use Rattle.std.specs.List.{range_with_len}
use Rattle.std.proofs.lemmas.Bool.{cases_eq, cond-true, cond-false}
use Rattle.std.proofs.lemmas.List.{append-nil, map-append, same_lists}
use Rattle.std.proofs.lemmas.List.FromFn.{length-map-range_with_len, get_or-map-range_with_len}
use Rattle.std.proofs.lemmas.List.Sums.{sum_by-cons}
use mathlib.Core.Option.{some, some-injective, some-ne-none}
use lib.ListN.{get_elem?}
use Rattle.race_core.specs.State.{one_if, times}
use Rattle.race_table.specs.Views.{of_seat, times_pair}
use Rattle.race_table.specs.declared.view.View.{View}

pub filter-append : {X : Type 0} (test : X → Bool) (xs ys : List X) → filter test (xs ++ ys) ≡ filter test xs ++ filter test ys
filter-append test [] ys = refl
filter-append test (x ∷ xs) ys =
    elim (test x) as (λ b. cond b (x ∷ filter test (xs ++ ys)) (filter test (xs ++ ys)) ≡ cond b (x ∷ filter test xs) (filter test xs) ++ filter test ys) [
      | true ↦ ap (λ l. x ∷ l) (filter-append test xs ys)
      | false ↦ filter-append test xs ys
    ]

pub of_seat-append : (s : ℕ) (xs ys : List (ℕ × ℕ)) → of_seat s (xs ++ ys) ≡ of_seat s xs ++ of_seat s ys
of_seat-append s xs ys = ap (map (λ p. p.0)) (filter-append (λ p. p.1 == s) xs ys) ∙ map-append (λ p. p.0) (filter (λ p. p.1 == s) xs) (filter (λ p. p.1 == s) ys)

pub of_seat-one : (s t x : ℕ) → x ≡ s → of_seat s ((t, x) ∷ []) ≡ t ∷ []
of_seat-one s t x e = ap (map (λ p. p.0)) (cond-true (x == s) ((t, x) ∷ []) [] (eq-eqb x s e))

pub of_seat-none : (s t x : ℕ) → x ≢ s → of_seat s ((t, x) ∷ []) ≡ []
of_seat-none s t x ne = ap (map (λ p. p.0)) (cond-false (x == s) ((t, x) ∷ []) [] (ne_eqb x s ne))

pub filter-one : (s x : ℕ) → x ≡ s → filter (λ t. t == s) (x ∷ []) ≡ x ∷ []
filter-one s x e = cond-true (x == s) (x ∷ []) [] (eq-eqb x s e)

pub filter-none : (s x : ℕ) → x ≢ s → filter (λ t. t == s) (x ∷ []) ≡ []
filter-none s x ne = cond-false (x == s) (x ∷ []) [] (ne_eqb x s ne)

-- what a push leaves of another seat's
pub of_seat-push_else : (s t x : ℕ) (xs : List (ℕ × ℕ)) → x ≢ s → of_seat s (xs ++ (t, x) ∷ []) ≡ of_seat s xs
of_seat-push_else s t x xs ne = of_seat-append s xs ((t, x) ∷ []) ∙ ap (λ l. of_seat s xs ++ l) (of_seat-none s t x ne) ∙ append-nil (of_seat s xs)

pub of_seat-push : (s t : ℕ) (xs : List (ℕ × ℕ)) → of_seat s (xs ++ (t, s) ∷ []) ≡ of_seat s xs ++ t ∷ []
of_seat-push s t xs = of_seat-append s xs ((t, s) ∷ []) ∙ ap (λ l. of_seat s xs ++ l) (of_seat-one s t s refl)

pub filter-push_else : (s x : ℕ) (xs : List ℕ) → x ≢ s → filter (λ t. t == s) (xs ++ x ∷ []) ≡ filter (λ t. t == s) xs
filter-push_else s x xs ne = filter-append (λ t. t == s) xs (x ∷ []) ∙ ap (λ l. filter (λ t. t == s) xs ++ l) (filter-none s x ne) ∙ append-nil (filter (λ t. t == s) xs)

both_true : (a b : Bool) → b ≡ true → one_if (a && b) ≡ one_if a
both_true true b e = cond-true b 1 0 e
both_true false b e = refl

one_false : (a b : Bool) → b ≡ false → one_if (a && b) ≡ 0
one_false true b e = cond-false b 1 0 e
one_false false b e = refl

-- how often a seat has an item
pub times-of_seat : (i s : ℕ) (pairs : List (ℕ × ℕ)) → times i (of_seat s pairs) ≡ times_pair i s pairs
times-of_seat i s [] = refl
times-of_seat i s (p ∷ ps) =
    let rest : times i (of_seat s ps) ≡ times_pair i s ps = times-of_seat i s ps in
    let more : times_pair i s (p ∷ ps) ≡ one_if (p.0 == i && p.1 == s) + times_pair i s ps = sum_by-cons (λ q. one_if (q.0 == i && q.1 == s)) p ps in
    ⊎_elim
    (λ e.
    let test : (p.1 == s) ≡ true = eq-eqb p.1 s e in
    let here : of_seat s (p ∷ ps) ≡ p.0 ∷ of_seat s ps = ap (map (λ q. q.0)) (cond-true (p.1 == s) (p ∷ filter (λ q. q.1 == s) ps) (filter (λ q. q.1 == s) ps) test) in
    let cons : times i (p.0 ∷ of_seat s ps) ≡ one_if (p.0 == i) + times i (of_seat s ps) = sum_by-cons (λ y. one_if (y == i)) p.0 (of_seat s ps) in
    let same : one_if (p.0 == i && p.1 == s) ≡ one_if (p.0 == i) = both_true (p.0 == i) (p.1 == s) test in
    ap (times i) here ∙ (let k : times i (p.0 ∷ of_seat s ps) ≡ times_pair i s (p ∷ ps) = omega arith in k))
    (λ ne.
    let test : (p.1 == s) ≡ false = ne_eqb p.1 s ne in
    let here : of_seat s (p ∷ ps) ≡ of_seat s ps = ap (map (λ q. q.0)) (cond-false (p.1 == s) (p ∷ filter (λ q. q.1 == s) ps) (filter (λ q. q.1 == s) ps) test) in
    let same : one_if (p.0 == i && p.1 == s) ≡ 0 = one_false (p.0 == i) (p.1 == s) test in
    ap (times i) here ∙ (let k : times i (of_seat s ps) ≡ times_pair i s (p ∷ ps) = omega arith in k))
    (cases_eq p.1 s)

-- a list joined of the views' lists, after one view changed in what does not matter
pub flat-set : {X : Type 0} (f : View → List X) (views : List View) (id : ℕ) (v w : View) → get_elem? views id ≡ some v → f w ≡ f v → flat_map f (set views id w) ≡ flat_map f views
flat-set f [] id v w e same = absurd (some-ne-none v (sym e))
flat-set f (x ∷ xs) zero v w e same = ap (λ l. l ++ flat_map f xs) (same ∙ ap f (sym (some-injective x v e)))
flat-set f (x ∷ xs) (suc id) v w e same = ap (λ l. f x ++ l) (flat-set f xs id v w e same)

pub flat-none : {X : Type 0} (f : View → List X) (views : List View) → ((k : ℕ) (u : View) → get_elem? views k ≡ some u → f u ≡ []) → flat_map f views ≡ []
flat-none f [] none = refl
flat-none f (x ∷ xs) none = ap (λ l. l ++ flat_map f xs) (none 0 x refl) ∙ flat-none f xs (λ k u a. none (suc k) u a)

-- where one view alone has items, they are all
pub flat-only : {X : Type 0} (f : View → List X) (views : List View) (id : ℕ) (v : View) → get_elem? views id ≡ some v
    → ((k : ℕ) (u : View) → k ≢ id → get_elem? views k ≡ some u → f u ≡ []) → flat_map f views ≡ f v
flat-only f [] id v e none = absurd (some-ne-none v (sym e))
flat-only f (x ∷ xs) zero v e none =
    ap (λ l. f x ++ l) (flat-none f xs (λ k u a. none (suc k) u (λ h. absurd (omega arith)) a)) ∙ append-nil (f x) ∙ ap f (some-injective x v e)
flat-only f (x ∷ xs) (suc id) v e none =
    ap (λ l. l ++ flat_map f xs) (none 0 x (λ h. absurd (omega arith)) refl) ∙ flat-only f xs id v e (λ k u ne a. none (suc k) u (λ h. ne (omega arith)) a)

-- the list of f at 1 to n
pub at_number : {X : Type 0} (f : ℕ → X) (n s : ℕ) (d : X) → 1 ≤ s → s ≤ n → get_or (map f (range_with_len 1 n)) (s - 1) d ≡ f s
at_number f n s d some_s within = get_or-map-range_with_len f 1 n (s - 1) s d (omega arith) (omega arith)

pub range-same : {X : Type 0} (f g : ℕ → X) (n : ℕ) → ((t : ℕ) → 1 ≤ t → t ≤ n → g t ≡ f t) → map g (range_with_len 1 n) ≡ map f (range_with_len 1 n)
range-same f g n same = same_lists (map g (range_with_len 1 n)) (map f (range_with_len 1 n))
    (length-map-range_with_len g 1 n ∙ sym (length-map-range_with_len f 1 n))
    (λ k d inside.
    let below : k < n = omega (arith, length-map-range_with_len g 1 n) in
    get_or-map-range_with_len g 1 n k (1 + k) d below refl ∙ same (1 + k) (omega arith) (omega arith) ∙ sym (get_or-map-range_with_len f 1 n k (1 + k) d below refl))

pub range-set : {X : Type 0} (f g : ℕ → X) (n s : ℕ) (x : X) → 1 ≤ s → s ≤ n → g s ≡ x → ((t : ℕ) → 1 ≤ t → t ≤ n → t ≢ s → g t ≡ f t)
    → map g (range_with_len 1 n) ≡ set (map f (range_with_len 1 n)) (s - 1) x
range-set f g n s x some_s within here same =
    let fs = map f (range_with_len 1 n) in
    same_lists (map g (range_with_len 1 n)) (set fs (s - 1) x)
    (length-map-range_with_len g 1 n ∙ sym (length-map-range_with_len f 1 n) ∙ sym (length-set fs (s - 1) x))
    (λ k d inside.
    let below : k < n = omega (arith, length-map-range_with_len g 1 n) in
    get_or-map-range_with_len g 1 n k (1 + k) d below refl ∙ ⊎_elim
    (λ e.
    let inside_f : s - 1 < length fs = omega (arith, length-map-range_with_len f 1 n) in
    ap g (let j : 1 + k ≡ s = omega arith in j) ∙ here ∙ sym (ap (λ j. get_or (set fs (s - 1) x) j d) e ∙ get_or-set_same fs (s - 1) x d inside_f))
    (λ ne.
    same (1 + k) (omega arith) (omega arith) (λ e. ne (omega arith)) ∙ sym (get_or-set_other fs (s - 1) k x d ne ∙ get_or-map-range_with_len f 1 n k (1 + k) d below refl))
    (cases_eq k (s - 1)))
