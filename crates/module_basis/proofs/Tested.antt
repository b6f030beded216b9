-- Monomials in the first variables.
use Rattle.std.proofs.Common.{◌≡◌, ℕ, ◌<◌, ◌≤◌, zero, suc, List, [], ◌∷◌, length, get_or, arith}
use Rattle.polys.specs.Terms.{OnlyFirst}

-- where the exponents of the others are 0, a monomial is in the first variables
pub only_first : (n : ℕ) (xs : List ℕ) → ((k : ℕ) → n ≤ k → k < length xs → get_or xs k 0 ≡ 0) → OnlyFirst n xs
only_first n [] h = tt
only_first zero (x ∷ xs) h = (h 0 (omega arith) (omega arith), only_first zero xs (λ k a b. h (suc k) (omega arith) (omega arith)))
only_first (suc n) (x ∷ xs) h = only_first n xs (λ k a b. h (suc k) (omega arith) (omega arith))
