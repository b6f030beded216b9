-- Lists of exponents, place by place.
use Rattle.std.proofs.Common.{◌≡◌, ℕ, ◌+◌, ◌-◌, ◌<◌, ◌≤◌, zero, suc, List, [], ◌∷◌, ◌++◌, length, take, set, get_or, replicate, refl, ap, arith}
use Rattle.monomials.specs.Mono.{pointwise, total_degree}

-- a list of zeros has 0 at each place
pub zeros_at : (n i : ℕ) → get_or (replicate {A = ℕ} n 0) i 0 ≡ 0
zeros_at zero i = refl
zeros_at (suc n) zero = refl
zeros_at (suc n) (suc i) = zeros_at n i

-- ---- an operation at each place

module _ (f : ℕ → ℕ → ℕ) where
  pub pointwise_none : (a : List ℕ) → pointwise f a [] ≡ a
  pointwise_none [] = refl
  pointwise_none (x ∷ a) = refl

  pub pointwise_comm : ((x y : ℕ) → f x y ≡ f y x) → (a b : List ℕ) → pointwise f a b ≡ pointwise f b a
  pointwise_comm h [] [] = refl
  pointwise_comm h [] (y ∷ b) = refl
  pointwise_comm h (x ∷ a) [] = refl
  pointwise_comm h (x ∷ a) (y ∷ b) = λ i. h x y i ∷ pointwise_comm h a b i

  pub pointwise_assoc : ((x y z : ℕ) → f (f x y) z ≡ f x (f y z)) → (a b c : List ℕ) → pointwise f (pointwise f a b) c ≡ pointwise f a (pointwise f b c)
  pointwise_assoc h [] b c = refl
  pointwise_assoc h (x ∷ a) [] c = refl
  pointwise_assoc h (x ∷ a) (y ∷ b) [] = refl
  pointwise_assoc h (x ∷ a) (y ∷ b) (z ∷ c) = λ i. h x y z i ∷ pointwise_assoc h a b c i

  pub length-pointwise : (n : ℕ) (a b : List ℕ) → length a ≡ n → length b ≡ n → length (pointwise f a b) ≡ n
  length-pointwise n [] b h k = k
  length-pointwise n (x ∷ a) [] h k = h
  length-pointwise zero (x ∷ a) (y ∷ b) h k = absurd (omega arith)
  length-pointwise (suc n) (x ∷ a) (y ∷ b) h k = let ih = length-pointwise n a b (omega arith) (omega arith) in omega arith

  -- one place more
  pub pointwise_more : (a b : List ℕ) (i : ℕ) → i < length a → i < length b
      → pointwise f a (take (i + 1) b) ≡ set (pointwise f a (take i b)) i (f (get_or (pointwise f a (take i b)) i 0) (get_or b i 0))
  pointwise_more a b i h k = let n : i + 1 ≡ suc i = omega arith in rw n (go a b i h k)
    where
      go : (a b : List ℕ) (i : ℕ) → i < length a → i < length b
          → pointwise f a (take (suc i) b) ≡ set (pointwise f a (take i b)) i (f (get_or (pointwise f a (take i b)) i 0) (get_or b i 0))
      go [] b i h k = absurd (omega arith)
      go (x ∷ a) [] i h k = absurd (omega arith)
      go (x ∷ a) (y ∷ b) zero h k = ap (λ l. f x y ∷ l) (pointwise_none a)
      go (x ∷ a) (y ∷ b) (suc i) h k = ap (λ l. f x y ∷ l) (go a b i (omega arith) (omega arith))

  -- a place that has not been reached
  pub get_or-pointwise_take : (a b : List ℕ) (i : ℕ) → i < length a → get_or (pointwise f a (take i b)) i 0 ≡ get_or a i 0
  get_or-pointwise_take [] b i h = absurd (omega arith)
  get_or-pointwise_take (x ∷ a) b zero h = refl
  get_or-pointwise_take (x ∷ a) [] (suc i) h = refl
  get_or-pointwise_take (x ∷ a) (y ∷ b) (suc i) h = get_or-pointwise_take a b i (omega arith)

  pub get_or-pointwise : (a b : List ℕ) (i : ℕ) → length a ≡ length b → i < length a → get_or (pointwise f a b) i 0 ≡ f (get_or a i 0) (get_or b i 0)
  get_or-pointwise [] b i e h = absurd (omega arith)
  get_or-pointwise (x ∷ a) [] i e h = absurd (omega arith)
  get_or-pointwise (x ∷ a) (y ∷ b) zero e h = refl
  get_or-pointwise (x ∷ a) (y ∷ b) (suc i) e h = get_or-pointwise a b i (omega arith) (omega arith)

-- ---- sums of exponents

abbrev pub plus : List ℕ → List ℕ → List ℕ
plus = pointwise (λ x y. x + y)

pub plus_comm : (a b : List ℕ) → plus a b ≡ plus b a
plus_comm = pointwise_comm (λ x y. x + y) (λ x y. omega arith)

pub plus_assoc : (a b c : List ℕ) → plus (plus a b) c ≡ plus a (plus b c)
plus_assoc = pointwise_assoc (λ x y. x + y) (λ x y z. omega arith)

pub plus_zeros : (n : ℕ) (a : List ℕ) → length a ≡ n → plus a (replicate n 0) ≡ a
plus_zeros zero [] e = refl
plus_zeros zero (x ∷ a) e = absurd (omega arith)
plus_zeros (suc n) [] e = absurd (omega arith)
plus_zeros (suc n) (x ∷ a) e = let z : x + 0 ≡ x = omega arith in λ i. z i ∷ plus_zeros n a (omega arith) i

pub total_degree-plus : (a b : List ℕ) → total_degree (plus a b) ≡ total_degree a + total_degree b
total_degree-plus [] b = omega arith
total_degree-plus (x ∷ a) [] = omega arith
total_degree-plus (x ∷ a) (y ∷ b) = omega (arith, total_degree-plus a b)

pub total_degree-push : (a : List ℕ) (c : ℕ) → total_degree (a ++ c ∷ []) ≡ total_degree a + c
total_degree-push [] c = omega arith
total_degree-push (x ∷ a) c = omega (arith, total_degree-push a c)

pub exponent_le : (a : List ℕ) (i : ℕ) → get_or a i 0 ≤ total_degree a
exponent_le [] i = omega arith
exponent_le (x ∷ a) zero = omega arith
exponent_le (x ∷ a) (suc i) = let ih = exponent_le a i in omega arith

pub total_degree-take : (a : List ℕ) (i : ℕ) → i < length a → total_degree (take (i + 1) a) ≡ total_degree (take i a) + get_or a i 0
total_degree-take a i h = let n : i + 1 ≡ suc i = omega arith in rw n (go a i h)
  where
    go : (a : List ℕ) (i : ℕ) → i < length a → total_degree (take (suc i) a) ≡ total_degree (take i a) + get_or a i 0
    go [] i h = absurd (omega arith)
    go (x ∷ a) zero h = omega arith
    go (x ∷ a) (suc i) h = let ih = go a i (omega arith) in omega arith

pub total_degree-take_le : (a : List ℕ) (i : ℕ) → total_degree (take i a) ≤ total_degree a
total_degree-take_le a zero = omega arith
total_degree-take_le [] (suc i) = omega arith
total_degree-take_le (x ∷ a) (suc i) = let ih = total_degree-take_le a i in omega arith

pub total_degree-set : (a : List ℕ) (i v : ℕ) → i < length a → total_degree (set a i v) + get_or a i 0 ≡ total_degree a + v
total_degree-set [] i v h = absurd (omega arith)
total_degree-set (x ∷ a) zero v h = omega arith
total_degree-set (x ∷ a) (suc i) v h = let ih = total_degree-set a i v (omega arith) in omega arith

-- a list with no greater entries has no greater sum
pub total_degree_le : (a b : List ℕ) → ((i : ℕ) → get_or a i 0 ≤ get_or b i 0) → total_degree a ≤ total_degree b
total_degree_le [] b h = omega arith
total_degree_le (x ∷ a) [] h =
    let first : x ≤ 0 = h 0 in
    let rest = total_degree_le a [] (λ i. h (suc i)) in
    omega arith
total_degree_le (x ∷ a) (y ∷ b) h =
    let first : x ≤ y = h 0 in
    let rest = total_degree_le a b (λ i. h (suc i)) in
    omega arith

-- ---- differences

-- what was taken away at the first i places, and at one place more
pub minus_more : (e b : List ℕ) (i : ℕ) → i < length e → i < length b → get_or b i 0 ≤ get_or e i 0
    → plus (set e i (get_or e i 0 - get_or b i 0)) (take (i + 1) b) ≡ plus e (take i b)
minus_more e b i h k l = let n : i + 1 ≡ suc i = omega arith in rw n (go e b i h k l)
  where
    go : (e b : List ℕ) (i : ℕ) → i < length e → i < length b → get_or b i 0 ≤ get_or e i 0
        → plus (set e i (get_or e i 0 - get_or b i 0)) (take (suc i) b) ≡ plus e (take i b)
    go [] b i h k l = absurd (omega arith)
    go (x ∷ e) [] i h k l = absurd (omega arith)
    go (x ∷ e) (y ∷ b) zero h k l =
        let s : (x - y) + y ≡ x = omega arith in
        λ j. s j ∷ pointwise_none (λ x y. x + y) e j
    go (x ∷ e) (y ∷ b) (suc i) h k l = ap (λ t. (x + y) ∷ t) (go e b i (omega arith) (omega arith) l)

-- a factor cancels
pub plus_cancel : (a b c : List ℕ) → length a ≡ length b → plus a c ≡ plus b c → a ≡ b
plus_cancel [] [] c e h = refl
plus_cancel [] (y ∷ b) c e h = absurd (omega arith)
plus_cancel (x ∷ a) [] c e h = absurd (omega arith)
plus_cancel (x ∷ a) (y ∷ b) [] e h = h
plus_cancel (x ∷ a) (y ∷ b) (z ∷ c) e h =
    let sums : x + z ≡ y + z = cc in
    let first : x ≡ y = omega arith in
    let tails : plus a c ≡ plus b c = cc in
    λ i. first i ∷ plus_cancel a b c (omega arith) tails i
