-- Counts and sums over lists.
use Rattle.std.proofs.Common.{◌≡◌, ◌≢◌, ℕ, zero, suc, ◌+◌, ◌<◌, ◌≤◌, ◌==◌, nat_lt, min, ◌&&◌, Bool, true, false, List, [], ◌∷◌, ◌++◌, length, get_or, sum_by, count_by, arith, refl, sym, ap, ⊎_elim}
use Rattle.std.proofs.lemmas.Bool.{cases_Bool, cases_eq, cases_lt, cond-false}
use Rattle.std.proofs.lemmas.Bool.Decides.{nat_tests}
use Rattle.std.proofs.lemmas.List.Sums.{sum_by-cons, sum_by_push, get_or-le-sum_by}
use Rattle.race_core.specs.State.{times, one_if}

pub times-push : (x y : ℕ) (xs : List ℕ) → times x (xs ++ y ∷ []) ≡ times x xs + one_if (y == x)
times-push x y xs = sum_by_push (λ z. one_if (z == x)) xs y

pub times-cons : (x y : ℕ) (xs : List ℕ) → times x (y ∷ xs) ≡ one_if (y == x) + times x xs
times-cons x y xs = sum_by-cons (λ z. one_if (z == x)) y xs

-- where a count is not 0, an element passes
pub some_passes : {X : Type 0} (p : X → Bool) (xs : List X) (d : X) → 0 < count_by p xs → (k : ℕ) × (k < length xs) × (p (get_or xs k d) ≡ true)
some_passes p [] d h = absurd (omega arith)
some_passes p (x ∷ xs) d h = ⊎_elim
    (λ yes. (0, omega arith, yes))
    (λ no.
    let none : one_if (p x) ≡ 0 = cond-false (p x) 1 0 no in
    let rest : 0 < count_by p xs = omega (arith, sum_by-cons (λ y. one_if (p y)) x xs) in
    let found = some_passes p xs d rest in
    (suc found.0, omega (arith, found.1), found.2))
    (cases_Bool (p x))

-- where a sum is 1, one of its terms is
pub one_term : {X : Type 0} (f : X → ℕ) (xs : List X) (d : X) → sum_by f xs ≡ 1 → (k : ℕ) × (k < length xs) × (f (get_or xs k d) ≡ 1)
one_term f [] d h = absurd (omega arith)
one_term f (x ∷ xs) d h = ⊎_elim
    (λ here. (0, omega arith, here))
    (λ ne.
    let rest : sum_by f xs ≡ 1 = omega (arith, sum_by-cons f x xs) in
    let found = one_term f xs d rest in
    (suc found.0, omega (arith, found.1), found.2))
    (cases_eq (f x) 1)

-- two terms at different places are within the sum
pub two_terms : {X : Type 0} (f : X → ℕ) (xs : List X) (k l : ℕ) (d : X) → k ≢ l → k < length xs → l < length xs → f (get_or xs k d) + f (get_or xs l d) ≤ sum_by f xs
two_terms f [] k l d ne a b = absurd (omega arith)
two_terms f (x ∷ xs) zero zero d ne a b = absurd (ne refl)
two_terms f (x ∷ xs) zero (suc l) d ne a b = omega (arith, sum_by-cons f x xs, get_or-le-sum_by f xs l d (omega arith))
two_terms f (x ∷ xs) (suc k) zero d ne a b = omega (arith, sum_by-cons f x xs, get_or-le-sum_by f xs k d (omega arith))
two_terms f (x ∷ xs) (suc k) (suc l) d ne a b =
    omega (arith, sum_by-cons f x xs, two_terms f xs k l d (λ e. ne (ap suc e)) (omega arith) (omega arith))

-- a test counts once at most
pub one_at_most : (b : Bool) → one_if b ≤ 1
one_at_most true = omega arith
one_at_most false = omega arith

-- two numbers are themselves
pub pair_itself : (a b : ℕ) → one_if (a == a && b == b) ≡ 1
pair_itself a b = grind (arith, nat_tests)

-- the sum of f over the numbers below m
abbrev pub sum_below : (ℕ → ℕ) → ℕ → ℕ
sum_below f zero = 0
sum_below f (suc m) = f m + sum_below f m

pub below-same : (f g : ℕ → ℕ) (m : ℕ) → ((t : ℕ) → f t ≡ g t) → sum_below f m ≡ sum_below g m
below-same f g zero same = refl
below-same f g (suc m) same = omega (arith, same m, below-same f g m same)

pub below-add : (f g : ℕ → ℕ) (m : ℕ) → sum_below (λ t. f t + g t) m ≡ sum_below f m + sum_below g m
below-add f g zero = omega arith
below-add f g (suc m) = omega (arith, below-add f g m)

pub below-zero : (m : ℕ) → sum_below (λ t. 0) m ≡ 0
below-zero zero = refl
below-zero (suc m) = omega (arith, below-zero m)

pub below-single : (y m : ℕ) → sum_below (λ t. one_if (y == t)) m ≡ one_if (nat_lt y m)
below-single y zero = grind (arith, nat_tests)
below-single y (suc m) =
    let before : sum_below (λ t. one_if (y == t)) m ≡ one_if (nat_lt y m) = below-single y m in
    let step : one_if (y == m) + one_if (nat_lt y m) ≡ one_if (nat_lt y (suc m)) = grind (arith, nat_tests) in
    omega (arith, before, step)

pub below-few : (n m : ℕ) → sum_below (λ t. one_if (nat_lt t n)) m ≡ min m n
below-few n zero = omega arith
below-few n (suc m) =
    let before : sum_below (λ t. one_if (nat_lt t n)) m ≡ min m n = below-few n m in
    let step : one_if (nat_lt m n) + min m n ≡ min (suc m) n = grind (arith, nat_tests) in
    omega (arith, before, step)

is_small : (m y : ℕ) (ys : List ℕ) → ((t : ℕ) → m ≤ t → times t (y ∷ ys) ≡ 0) → one_if (nat_lt y m) ≡ 1
is_small m y ys none = ⊎_elim
    (λ below. let e : one_if (nat_lt y m) ≡ 1 = grind (arith, nat_tests) in e)
    (λ above.
    let here : one_if (y == y) ≡ 1 = grind (arith, nat_tests) in
    absurd (omega (arith, none y above, times-cons y y ys)))
    (cases_lt y m)

-- a list of numbers below m is as long as the counts of these numbers together
length-times : (m : ℕ) (xs : List ℕ) → ((t : ℕ) → m ≤ t → times t xs ≡ 0) → length xs ≡ sum_below (λ t. times t xs) m
length-times m [] none = sym (below-zero m)
length-times m (y ∷ ys) none =
    let small : one_if (nat_lt y m) ≡ 1 = is_small m y ys none in
    let rest : length ys ≡ sum_below (λ t. times t ys) m = length-times m ys (λ t h. omega (arith, times-cons t y ys, none t h)) in
    let split : sum_below (λ t. times t (y ∷ ys)) m ≡ sum_below (λ t. one_if (y == t) + times t ys) m =
    below-same (λ t. times t (y ∷ ys)) (λ t. one_if (y == t) + times t ys) m (λ t. times-cons t y ys) in
    omega (arith, rest, split, below-add (λ t. one_if (y == t)) (λ t. times t ys) m, below-single y m)

-- the lengths of lists of numbers below m, together
pub total-times : (m : ℕ) (lists : List (List ℕ)) → ((t : ℕ) → m ≤ t → sum_by (λ list. times t list) lists ≡ 0)
    → sum_by (λ list. length list) lists ≡ sum_below (λ t. sum_by (λ list. times t list) lists) m
total-times m [] none = sym (below-zero m)
total-times m (xs ∷ xss) none =
    let first : length xs ≡ sum_below (λ t. times t xs) m = length-times m xs (λ t h. omega (arith, sum_by-cons (λ list. times t list) xs xss, none t h)) in
    let rest : sum_by (λ list. length list) xss ≡ sum_below (λ t. sum_by (λ list. times t list) xss) m =
    total-times m xss (λ t h. omega (arith, sum_by-cons (λ list. times t list) xs xss, none t h)) in
    let split : sum_below (λ t. sum_by (λ list. times t list) (xs ∷ xss)) m ≡ sum_below (λ t. times t xs + sum_by (λ list. times t list) xss) m =
    below-same (λ t. sum_by (λ list. times t list) (xs ∷ xss)) (λ t. times t xs + sum_by (λ list. times t list) xss) m (λ t. sum_by-cons (λ list. times t list) xs xss) in
    omega (arith, first, rest, split, below-add (λ t. times t xs) (λ t. sum_by (λ list. times t list) xss) m, sum_by-cons (λ list. length list) xs xss)
