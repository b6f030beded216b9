-- What a write through a slice leaves.
use Rattle.std.proofs.Common.{◌≡◌, ◌≢◌, ℕ, ◌<◌, List, ◌++◌, length, get_or, set, take, drop, arith, ap, ◌∙◌, get_or-set_other, get_or-set_same}
use Rattle.std.proofs.Math.ListN.{length-set}
use Rattle.std.proofs.Math.Seq.{take-append_seam}

-- the items of a Vec that was written as a whole
pub written_whole : {X : Type 0} (n : ℕ) (xs ys : List X) → n ≡ length xs → take n (xs ++ drop (length xs) ys) ≡ xs
written_whole n xs ys h = ap (λ m. take m (xs ++ drop (length xs) ys)) h ∙ take-append_seam xs (drop (length xs) ys)

-- a place that was written twice
pub twice_here : {X : Type 0} (xs : List X) (i j : ℕ) (x y d : X) → i < length xs → j ≡ i → get_or (set (set xs i x) i y) j d ≡ y
twice_here xs i j x y d h e =
    let inside : i < length (set xs i x) = omega (arith, length-set xs i x) in
    ap (λ m. get_or (set (set xs i x) i y) m d) e ∙ get_or-set_same (set xs i x) i y d inside

pub twice_there : {X : Type 0} (xs : List X) (i j : ℕ) (x y d : X) → j ≢ i → get_or (set (set xs i x) i y) j d ≡ get_or xs j d
twice_there xs i j x y d h = get_or-set_other (set xs i x) i j y d h ∙ get_or-set_other xs i j x d h
