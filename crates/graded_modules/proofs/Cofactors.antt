-- Divisors, cofactors and least common multiples of graded monomials.
use Rattle.std.proofs.Common.{◌≡◌, ℕ, ◌+◌, ◌-◌, ◌*◌, ◌≤◌, suc, List, [], ◌∷◌, length, get_or, max, refl, sym, ap, ◌∙◌, arith}
use Rattle.monomials.specs.Mono.{Monomial, pointwise, times, common_multiple, total_degree, Divides}
use Rattle.monomials.specs.Laws.{SameLength}
use Rattle.monomials.proofs.Exponents.{plus, pointwise_comm, total_degree_le}
use Rattle.monomials.proofs.Factors.{lcm_law, divides_law, divides_trans}
use Rattle.monomials.proofs.Order.{times_comm, times_assoc, times_cancel}
use Rattle.polys.specs.Poly.{IsPlain}
use Rattle.polys.proofs.Units.{seven_times}
use Rattle.graded_modules.specs.Vector.{IsGraded, degree_at}
use Rattle.graded_modules.specs.SVector.{cofactor}
use Rattle.graded_modules.proofs.Graded.{graded_pointwise}

abbrev minus : List ℕ → List ℕ → List ℕ
minus = pointwise (λ x y. y - x)

plus_minus : (a b : List ℕ) → length a ≡ length b → ((i : ℕ) → get_or a i 0 ≤ get_or b i 0) → plus a (minus a b) ≡ b
plus_minus [] b e h = refl
plus_minus (x ∷ a) [] e h = absurd (omega arith)
plus_minus (x ∷ a) (y ∷ b) e h =
    let first : x ≤ y = h 0 in
    let s : x + (y - x) ≡ y = omega arith in
    λ i. s i ∷ plus_minus a b (omega arith) (λ k. h (suc k)) i

pub same_shape : (n : ℕ) (a b : Monomial) → IsGraded n a → IsGraded n b → SameLength a b
same_shape n a b h k = h.seven ∙ sym k.seven

pub times_cofactor : (a b : Monomial) → SameLength a b → Divides a b → times a (cofactor a b) ≡ b
times_cofactor a b e d =
    let s : a.component + 0 ≡ b.component = let q = d.same in omega arith in
    let x = plus_minus a.exponents b.exponents e d.none_greater in
    λ i. record { exponents = x i; component = s i }

pub graded_cofactor : (n : ℕ) (a b : Monomial) → IsGraded n a → IsGraded n b → IsGraded n (cofactor a b)
graded_cofactor n a b h k = graded_pointwise (λ x y. y - x) (λ x y p q. omega arith) n 0 a b (omega arith) h k

pub graded_lcm : (n : ℕ) (a b : Monomial) → IsGraded n a → IsGraded n b → IsGraded n (common_multiple a b)
graded_lcm n a b h k = graded_pointwise max (λ x y p q. omega arith) n a.component a b h.two h k

pub lcm_comm : (a b : Monomial) → a.component ≡ b.component → common_multiple a b ≡ common_multiple b a
lcm_comm a b e =
    let x = pointwise_comm max (λ x y. omega arith) a.exponents b.exponents in
    λ i. record { exponents = x i; component = e i }

pub divides_by : (n : ℕ) (a c : Monomial) → IsGraded n a → IsGraded n c → IsPlain c → Divides a (times a c)
divides_by n a c h k z = (divides_law a (times a c) (h.seven ∙ sym (seven_times a c h.seven k.seven))).1 (c, same_shape n a c h k, z, refl)

-- the factor of a product is the cofactor
pub cofactor_times : (n : ℕ) (a c : Monomial) → IsGraded n a → IsGraded n c → IsGraded n (times a c) → IsPlain c → cofactor a (times a c) ≡ c
cofactor_times n a c h k l z =
    times_cancel (cofactor a (times a c)) c a (same_shape n (cofactor a (times a c)) c (graded_cofactor n a (times a c) h l) k)
    (times_comm (cofactor a (times a c)) a
    ∙ times_cofactor a (times a c) (same_shape n a (times a c) h l) (divides_by n a c h k z)
    ∙ times_comm a c)

-- through a common multiple between
pub cofactor_steps : (n : ℕ) (a b c : Monomial) → IsGraded n a → IsGraded n b → IsGraded n c → Divides a b → Divides b c
    → times (cofactor a b) (cofactor b c) ≡ cofactor a c
cofactor_steps n a b c ga gb gc h k =
    times_cancel (times (cofactor a b) (cofactor b c)) (cofactor a c) a
    (seven_times (cofactor a b) (cofactor b c) (graded_cofactor n a b ga gb).seven (graded_cofactor n b c gb gc).seven ∙ sym (graded_cofactor n a c ga gc).seven)
    (times_comm (times (cofactor a b) (cofactor b c)) a
    ∙ sym (times_assoc a (cofactor a b) (cofactor b c))
    ∙ ap (λ w. times w (cofactor b c)) (times_cofactor a b (same_shape n a b ga gb) h)
    ∙ times_cofactor b c (same_shape n b c gb gc) k
    ∙ sym (times_cofactor a c (same_shape n a c ga gc) (divides_trans a b c h k))
    ∙ times_comm a (cofactor a c))

-- a divisor has no greater degree, and is the monomial itself if its degree is no less
pub divides_degree : (shift : ℕ) (a b : Monomial) → Divides a b → degree_at shift a ≤ degree_at shift b
divides_degree shift a b d =
    let x = total_degree_le a.exponents b.exponents d.none_greater in
    let s : a.component * shift ≡ b.component * shift = ap (λ (n : ℕ). n * shift) d.same in
    omega arith

same_exponents : (a b : List ℕ) → length a ≡ length b → ((i : ℕ) → get_or a i 0 ≤ get_or b i 0) → total_degree b ≤ total_degree a → a ≡ b
same_exponents [] [] e h l = refl
same_exponents [] (y ∷ b) e h l = absurd (omega arith)
same_exponents (x ∷ a) [] e h l = absurd (omega arith)
same_exponents (x ∷ a) (y ∷ b) e h l =
    let first : x ≤ y = h 0 in
    let rest = total_degree_le a b (λ i. h (suc i)) in
    let s : x ≡ y = omega arith in
    λ i. s i ∷ same_exponents a b (omega arith) (λ k. h (suc k)) (omega arith) i

pub divides_same : (shift : ℕ) (a b : Monomial) → SameLength a b → Divides a b → degree_at shift b ≤ degree_at shift a → a ≡ b
divides_same shift a b e d l =
    let s : a.component * shift ≡ b.component * shift = ap (λ (n : ℕ). n * shift) d.same in
    let x = same_exponents a.exponents b.exponents e d.none_greater (omega arith) in
    let c = d.same in
    λ i. record { exponents = x i; component = c i }

pub lcm_left : (n : ℕ) (a b : Monomial) → IsGraded n a → IsGraded n b → a.component ≡ b.component → Divides a (common_multiple a b)
lcm_left n a b h k s = lcm_law.left a b (same_shape n a b h k) s

pub lcm_right : (n : ℕ) (a b : Monomial) → IsGraded n a → IsGraded n b → a.component ≡ b.component → Divides b (common_multiple a b)
lcm_right n a b h k s = lcm_law.right a b (same_shape n a b h k) s
