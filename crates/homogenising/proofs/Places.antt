-- The exponents of a monomial of the program as those of the six variables and the homogenising one.
use Rattle.std.proofs.Common.{◌≡◌, ℕ, ◌+◌, ◌≤◌, zero, suc, List, [], ◌∷◌, ◌++◌, length, take, set, refl, arith}
use Rattle.monomials.specs.Mono.{pointwise}
use Rattle.polys.specs.Terms.{OnlyFirst}

pub split_last : (k : ℕ) (e : List ℕ) → length e ≡ suc k → (a : List ℕ) × (y : ℕ) × (length a ≡ k) × (e ≡ a ++ y ∷ [])
split_last k [] h = absurd (omega arith)
split_last zero (x ∷ []) h = ([], x, refl, refl)
split_last zero (x ∷ z ∷ e) h = absurd (omega arith)
split_last (suc k) (x ∷ e) h =
    let r = split_last k e (omega arith) in
    let l = r.2 in
    (x ∷ r.0, r.1, (omega arith), λ i. x ∷ r.3 i)

pub set_last : (a : List ℕ) (y e : ℕ) → set (a ++ y ∷ []) (length a) e ≡ a ++ e ∷ []
set_last [] y e = refl
set_last (x ∷ a) y e = λ i. x ∷ set_last a y e i

abbrev pub plus : List ℕ → List ℕ → List ℕ
plus a b = pointwise (λ x y. x + y) a b

pub plus_last : (a b : List ℕ) (x y : ℕ) → length a ≡ length b → plus (a ++ x ∷ []) (b ++ y ∷ []) ≡ plus a b ++ (x + y) ∷ []
plus_last [] [] x y h = refl
plus_last [] (z ∷ b) x y h = absurd (omega arith)
plus_last (z ∷ a) [] x y h = absurd (omega arith)
plus_last (z ∷ a) (w ∷ b) x y h = λ i. (z + w) ∷ plus_last a b x y (omega arith) i

pub take_last : (a : List ℕ) (y : ℕ) → take (length a) (a ++ y ∷ []) ≡ a
take_last [] y = refl
take_last (x ∷ a) y = λ i. x ∷ take_last a y i

pub only_last : (n : ℕ) (a : List ℕ) (y : ℕ) → n ≤ length a → OnlyFirst n (a ++ y ∷ []) → OnlyFirst n a × (y ≡ 0)
only_last zero [] y h o = (tt, o.0)
only_last (suc n) [] y h o = absurd (omega arith)
only_last zero (x ∷ a) y h o = let r = only_last zero a y (omega arith) o.1 in ((o.0, r.0), r.1)
only_last (suc n) (x ∷ a) y h o = only_last n a y (omega arith) o

pub only_with : (n : ℕ) (a : List ℕ) → n ≤ length a → OnlyFirst n a → OnlyFirst n (a ++ 0 ∷ [])
only_with zero [] h o = (refl, tt)
only_with (suc n) [] h o = absurd (omega arith)
only_with zero (x ∷ a) h o = (o.0, only_with zero a (omega arith) o.1)
only_with (suc n) (x ∷ a) h o = only_with n a (omega arith) o
