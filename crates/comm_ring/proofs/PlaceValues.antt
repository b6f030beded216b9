-- Numbers i + s m with i below s: the low and the high part are determined.
use Rattle.std.proofs.Common.{◌≡◌, sym, ap, ℕ, suc, ◌<◌, ◌≤◌, ◌+◌, ◌*◌, arith, mul-le-mul_left}

ordered : (s i j m n : ℕ) → i < s → j < s → i + s * m ≡ j + s * n → m < n → ⊥
ordered s i j m n a b e l = let h : s * suc m ≤ s * n = mul-le-mul_left s l in omega arith

-- equal numbers have equal high parts, and then equal low ones
pub digit_high : (s i j m n : ℕ) → i < s → j < s → i + s * m ≡ j + s * n → m ≡ n
digit_high s i j m n a b e = let h : ¬ (m < n) = ordered s i j m n a b e in let k : ¬ (n < m) = ordered s j i n m b a (sym e) in omega arith

pub digit_low : (s i j m n : ℕ) → i + s * m ≡ j + s * n → m ≡ n → i ≡ j
digit_low s i j m n e q = let h : s * m ≡ s * n = ap (λ k. s * k) q in omega arith

-- the same number has room below the product
pub digit_room : (s c i m : ℕ) → i < s → m < c → i + s * m < s * c
digit_room s c i m a b = let h : s * suc m ≤ s * c = mul-le-mul_left s b in omega arith
