-- Sums over the views, and the one view that has a seat.
use Rattle.std.proofs.Common.{◌≡◌, ◌≢◌, ℕ, zero, suc, ◌+◌, ◌<◌, ◌≤◌, ◌&&◌, nat_le, nat_lt, Bool, true, false, List, [], ◌∷◌, length, get_or, set, sum_by, count_by, All, arith, refl, sym, ap, ⊎_elim, ◌⊎◌, inl, inr}
use Rattle.std.proofs.lemmas.Bool.{cases_Bool, cond-false}
use Rattle.std.proofs.lemmas.Bool.Decides.{nat_tests}
use Rattle.std.proofs.lemmas.List.Elements.{All-head, All-tail}
use Rattle.std.proofs.lemmas.List.Sums.{sum_by-cons, sum_by-set, get_or-le-sum_by}
use mathlib.Core.Option.{some, some-injective, some-ne-none}
use lib.ListN.{get_elem?}
use Rattle.race_core.specs.State.{one_if}
use Rattle.race_table.specs.Views.{has, InRange}
use Rattle.race_table.specs.declared.view.View.{View}

pub at_get : {A : Type 0} (l : List A) (i : ℕ) (a d : A) → get_elem? l i ≡ some a → (i < length l) × (get_or l i d ≡ a)
at_get [] i a d e = absurd (some-ne-none a (sym e))
at_get (x ∷ xs) zero a d e = (omega arith, some-injective x a e)
at_get (x ∷ xs) (suc i) a d e = let r = at_get xs i a d e in (omega (arith, r.0), r.1)

pub sum-set : (f : View → ℕ) (views : List View) (id : ℕ) (v w : View) → get_elem? views id ≡ some v → sum_by f (set views id w) + f v ≡ sum_by f views + f w
sum-set f views id v w e = let g = at_get views id v v e in omega (arith, sum_by-set f views id w v g.0, ap f g.1)

pub term-le : (f : View → ℕ) (views : List View) (id : ℕ) (v : View) → get_elem? views id ≡ some v → f v ≤ sum_by f views
term-le f views id v e = let g = at_get views id v v e in omega (arith, get_or-le-sum_by f views id v g.0, ap f g.1)

-- the terms of two views are within the sum
pub two-le : (f : View → ℕ) (views : List View) (k id : ℕ) (u v : View) → k ≢ id → get_elem? views k ≡ some u → get_elem? views id ≡ some v → f u + f v ≤ sum_by f views
two-le f [] k id u v ne a b = absurd (some-ne-none v (sym b))
two-le f (x ∷ xs) zero zero u v ne a b = absurd (ne refl)
two-le f (x ∷ xs) zero (suc id) u v ne a b = omega (arith, sum_by-cons f x xs, ap f (some-injective x u a), term-le f xs id v b)
two-le f (x ∷ xs) (suc k) zero u v ne a b = omega (arith, sum_by-cons f x xs, ap f (some-injective x v b), term-le f xs k u a)
two-le f (x ∷ xs) (suc k) (suc id) u v ne a b = omega (arith, sum_by-cons f x xs, two-le f xs k id u v (λ e. ne (ap suc e)) a b)

one_or_zero : (b : Bool) → (one_if b ≡ 1) ⊎ (one_if b ≡ 0)
one_or_zero true = inl refl
one_or_zero false = inr refl

pub has-cases : (s : ℕ) (v : View) → (has s v ≡ 1) ⊎ (has s v ≡ 0)
has-cases s v = one_or_zero (nat_le v.first s && nat_lt s (v.first + v.parts))

pub has-first : (v : View) → 0 < v.parts → has v.first v ≡ 1
has-first v some_part = grind (arith, nat_tests)

pub has-range : (s : ℕ) (v : View) → InRange v s → has s v ≡ 1
has-range s v range = grind (arith, nat_tests)

pub range-has : (s : ℕ) (v : View) → has s v ≡ 1 → InRange v s
range-has s v mine = (grind (arith, nat_tests), grind (arith, nat_tests))

-- no other view has a seat of this one
pub lonely : (seats s : ℕ) (views : List View) (id : ℕ) (v : View) → ((t : ℕ) → sum_by (has t) views ≡ one_if (nat_le 1 t && nat_le t seats)) → get_elem? views id ≡ some v → has s v ≡ 1
    → (k : ℕ) (u : View) → k ≢ id → get_elem? views k ≡ some u → has s u ≡ 0
lonely seats s views id v numbers at mine k u ne there =
    let both : has s u + has s v ≤ sum_by (has s) views = two-le (has s) views k id u v ne there at in
    let most : one_if (nat_le 1 s && nat_le s seats) ≤ 1 = grind (arith, nat_tests) in
    omega (arith, numbers s)

-- a seat of a view is one of the table's
pub seat_of : (seats s : ℕ) (views : List View) (id : ℕ) (v : View) → ((t : ℕ) → sum_by (has t) views ≡ one_if (nat_le 1 t && nat_le t seats)) → get_elem? views id ≡ some v → has s v ≡ 1
    → (1 ≤ s) × (s ≤ seats)
seat_of seats s views id v numbers at mine =
    let within : 1 ≤ one_if (nat_le 1 s && nat_le s seats) = omega (arith, numbers s, term-le (has s) views id v at) in
    (grind (arith, nat_tests), grind (arith, nat_tests))

-- a count is 0 where no element that meets P passes
pub none_pass : {X : Type 0} (P : X → Type 0) (test : X → Bool) (xs : List X) → All P xs → ((x : X) → P x → test x ≡ false) → count_by test xs ≡ 0
none_pass P test [] all fails = refl
none_pass P test (x ∷ xs) all fails =
    let first : one_if (test x) ≡ 0 = cond-false (test x) 1 0 (fails x (All-head P x xs all)) in
    omega (arith, sum_by-cons (λ y. one_if (test y)) x xs, none_pass P test xs (All-tail P x xs all) fails)
