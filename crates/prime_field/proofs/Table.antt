-- Each number of the table is prime, by one computed test; a prime is above 1.
use Rattle.std.proofs.Common.{◌≡◌, ◌≢◌, ℕ, suc, zero, Bool, true, ◌&&◌, ◌==◌, ◌<◌, ◌≤◌, ◌%◌, ◌+◌, ◌-◌, List, [], ◌∷◌, refl, arith}
use Rattle.std.proofs.lemmas.Bool.Decides.{nat_tests, Decides-below_and, Decides-not, Decides-eqb}
use Rattle.std.specs.Bool.{Decides}
use Rattle.std.specs.Prelude.{not, nat_le}
use Rattle.prime_field.specs.Primes.{is_among, characteristics, IsPrime, CharacteristicsArePrime}

-- no number from 2 to n + 1 divides p
unfoldable pub no_divisor : ℕ → ℕ → Bool
no_divisor p zero = true
no_divisor p (suc n) = not (p % (n + 2) == 0) && no_divisor p n

-- each number of the list is 2 or more
unfoldable pub all_from_two : List ℕ → Bool
all_from_two [] = true
all_from_two (p ∷ ps) = nat_le 2 p && all_from_two ps

-- each number of the list has no such divisor
unfoldable pub all_prime : List ℕ → Bool
all_prime [] = true
all_prime (p ∷ ps) = no_divisor p (p - 2) && all_prime ps

pub table_from_two : all_from_two characteristics ≡ true
unfolding all_from_two
table_from_two = refl

pub table_is_prime : all_prime characteristics ≡ true
unfolding all_prime no_divisor
table_is_prime = refl

-- the test below p - 2 means that p is prime
prime_means : (p : ℕ) → 2 ≤ p → no_divisor p (p - 2) ≡ true → IsPrime p
unfolding no_divisor
prime_means p two t =
    let means : Decides (no_divisor p (p - 2)) ((k : ℕ) → k < p - 2 → p % (k + 2) ≢ 0) =
    Decides-below_and (λ k. not (p % (k + 2) == 0)) (λ k. p % (k + 2) ≢ 0) (no_divisor p)
    (λ k. Decides-not (p % (k + 2) == 0) (Decides-eqb (p % (k + 2)) 0)) refl (λ _. refl) (p - 2) in (
      two,
      λ d low high e.
          let back : d - 2 + 2 ≡ d = omega arith in
          let lt : d - 2 < p - 2 = omega arith in
          means.0 t (d - 2) lt (rw back e),
    )

-- a number of a list whose members pass the test
among_means : (ps : List ℕ) (p : ℕ) → all_prime ps ≡ true → is_among ps p ≡ true → no_divisor p (p - 2) ≡ true
unfolding all_prime
among_means [] p all one = cc
among_means (q ∷ qs) p all one = grind (arith, nat_tests, among_means qs p)

-- a number of a list whose members are 2 or more
among_from_two : (ps : List ℕ) (p : ℕ) → all_from_two ps ≡ true → is_among ps p ≡ true → 2 ≤ p
unfolding all_from_two
among_from_two [] p all one = cc
among_from_two (q ∷ qs) p all one = grind (arith, nat_tests, among_from_two qs p)

pub characteristics-are_prime : CharacteristicsArePrime
characteristics-are_prime p one =
    prime_means p (among_from_two characteristics p table_from_two one) (among_means characteristics p table_is_prime one)

-- ---- the bounds of a prime

pub positive_of_prime : (p : ℕ) → IsPrime p → 0 < p
positive_of_prime p prime = let two = prime.0 in omega arith

pub above_one : (p : ℕ) → IsPrime p → 1 < p
above_one p prime = let two = prime.0 in omega arith
