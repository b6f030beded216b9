-- Residues of products, by an estimate of the quotient.
use Rattle.std.proofs.Common.{◌≡◌, ℕ, ◌+◌, ◌-◌, ◌*◌, ◌/◌, ◌%◌, ◌^◌, ◌<◌, ◌≤◌, min, arith, ap, sym, ◌∙◌, ⊎_elim, cond, ltb}
use Rattle.std.proofs.lemmas.Nat.{mul-le}
use Rattle.std.proofs.lemmas.Bool.{cases_lt}
use Rattle.std.proofs.lemmas.Bool.Decides.{nat_tests}
use Rattle.std.proofs.Math.Nat.{mod-eq_of_lt, add-mul-mod_self_left, div-mul-le_self, lt-div-mul-add}

pub cond-min : (x y : ℕ) → cond (ltb x y) x y ≡ min x y
cond-min x y = grind (arith, nat_tests)

-- one subtraction, as lanes do it: where p is too much, the difference wraps to a large number
abbrev pub down : ℕ → ℕ → ℕ
down r p = min r ((r + (2 ^ 32 - p)) % 2 ^ 32)

down-below : (r p : ℕ) → r < p → p ≤ 32003 → down r p ≡ r
down-below r p less top = omega arith

down-above : (r p : ℕ) → p ≤ r → r < 2 ^ 31 → 0 < p → p ≤ 32003 → down r p ≡ r - p
down-above r p more small pos top = omega arith

pub residue : (n p t r : ℕ) → r < p → r + p * t ≡ n → n % p ≡ r
residue n p t r small e = ap (λ k. k % p) (sym e) ∙ add-mul-mod_self_left r p t ∙ mod-eq_of_lt small

-- what is left after t times p was taken from n
pub down_is : (n p t r : ℕ) → r + t * p ≡ n → r < 2 * p → 0 < p → p ≤ 32003 → down r p ≡ n % p
down_is n p t r e small pos top = ⊎_elim
    (λ a. down-below r p a top ∙ sym (residue n p t r a (omega arith)))
    (λ a. let less : r - p < p = omega arith in
    down-above r p a (omega arith) pos top ∙ sym (residue n p (t + 1) (r - p) less (omega arith)))
    (cases_lt r p)

-- the upper half q of m * y is at most the quotient of c * y by p
estimate-low : (p c m y q : ℕ) → m * p ≤ c * 65536 → q * 65536 ≤ m * y → q * p ≤ c * y
estimate-low p c m y q under part =
    let first : (q * 65536) * p ≤ (m * y) * p = mul-le (q * 65536) p (m * y) p part (omega arith) in
    let second : (m * p) * y ≤ (c * 65536) * y = mul-le (m * p) y (c * 65536) y under (omega arith) in
    omega arith

-- and at most one less
estimate-high : (p c m y q : ℕ) → 0 < p → y ≤ 65536 → c * 65536 ≤ m * p + p → m * y + 1 ≤ q * 65536 + 65536 → c * y < (q + 2) * p
estimate-high p c m y q pos small over next =
    let first : (c * 65536) * y ≤ (m * p + p) * y = mul-le (c * 65536) y (m * p + p) y over (omega arith) in
    let second : (m * y + 1) * p ≤ (q * 65536 + 65536) * p = mul-le (m * y + 1) p (q * 65536 + 65536) p next (omega arith) in
    let third : p * y ≤ p * 65536 = mul-le p y p 65536 (omega arith) small in
    omega arith

-- the facts on the factor m, the estimate q and what is left of the product
pub record IsEstimate (p c m y : ℕ) : Type 0 where
  pub factor : m < 65536
  pub product : m * y < 2 ^ 31
  pub whole : c * y < 2 ^ 30
  pub low : m * y / 65536 * p ≤ c * y
  pub high : c * y < m * y / 65536 * p + 2 * p

pub estimates : (p c m y : ℕ) → 2 ≤ p → p ≤ 32003 → c < p → m ≡ c * 65536 / p → y < p → IsEstimate p c m y
estimates p c m y two top small is residue =
    let under : m * p ≤ c * 65536 = rw is (div-mul-le_self (c * 65536) p) in
    let over : c * 65536 < m * p + p = rw is (lt-div-mul-add (omega arith)) in
    let part : m * y / 65536 * 65536 ≤ m * y = div-mul-le_self (m * y) 65536 in
    let next : m * y < m * y / 65536 * 65536 + 65536 = omega arith in
    let less : m * p < 65536 * p = omega arith in
    let factor : m < 65536 = ⊎_elim (λ a. a) (λ a. absurd (let more : 65536 * p ≤ m * p = mul-le 65536 p m p a (omega arith) in omega arith)) (cases_lt m 65536) in
    let high : c * y < (m * y / 65536 + 2) * p = estimate-high p c m y (m * y / 65536) (omega arith) (omega arith) (omega arith) (omega arith) in
    record {
      factor = factor;
      product = (let most : m * y ≤ 65535 * 32002 = mul-le m y 65535 32002 (omega arith) (omega arith) in omega arith);
      whole = (let most : c * y ≤ 32002 * 32002 = mul-le c y 32002 32002 (omega arith) (omega arith) in omega arith);
      low = estimate-low p c m y (m * y / 65536) under part;
      high = omega arith;
    }

-- the product of one lane, as lanes compute it
pub lane : (p c m y : ℕ) → 2 ≤ p → p ≤ 32003 → c < p → m ≡ c * 65536 / p → y < p
    → (let rest = (y * c) % 2 ^ 32 + (2 ^ 32 - ((y * m) % 2 ^ 32 / 2 ^ 16 * p) % 2 ^ 32) in down (rest % 2 ^ 32) p) ≡ (c * y) % p
lane p c m y two top small is residue =
    let e = estimates p c m y two top small is residue in
    let low : m * y / 65536 * p ≤ c * y = e.low in
    let high : c * y < m * y / 65536 * p + 2 * p = e.high in
    let product : (y * m) % 2 ^ 32 ≡ m * y = omega (arith, e.product) in
    let whole : (y * c) % 2 ^ 32 ≡ c * y = omega (arith, e.whole) in
    let rest : (c * y + (2 ^ 32 - (m * y / 65536 * p) % 2 ^ 32)) % 2 ^ 32 ≡ c * y - m * y / 65536 * p = omega (arith, e.whole) in
    rw (product, whole, rest) (down_is (c * y) p (m * y / 65536) (c * y - m * y / 65536 * p) (omega arith) (omega arith) (omega arith) top)
