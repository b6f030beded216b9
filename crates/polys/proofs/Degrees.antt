-- Degrees of sums, products and powers.
use Rattle.std.proofs.Common.{◌≡◌, ℕ, ◌+◌, ◌*◌, ◌<◌, ◌≤◌, zero, suc, List, [], ◌∷◌, ◌++◌, length, take, get_or, max, ap, arith, mul-le-mul_left}
use Rattle.monomials.specs.Mono.{Monomial, total_degree}
use Rattle.monomials.proofs.Exponents.{total_degree-plus}
use Rattle.polys.specs.declared.term.Term.{Term}
use Rattle.polys.specs.Terms.{EachMono, add, mul, products, power, degree_of}
use Rattle.polys.proofs.Each.{every_more, every_append, every_products, every_normal}

abbrev pub AtMost : ℕ → Monomial → Type 0
AtMost d m = total_degree m.exponents ≤ d

pub each_degree : (f : List Term) → EachMono (AtMost (degree_of f)) f
each_degree [] = tt
each_degree (t ∷ f) =
    (omega arith, every_more (AtMost (degree_of f)) (AtMost (degree_of (t ∷ f))) f (λ m h. omega arith) (each_degree f))

pub degree_le : (d : ℕ) (f : List Term) → EachMono (AtMost d) f → degree_of f ≤ d
degree_le d [] h = omega arith
degree_le d (t ∷ f) h = let ih = degree_le d f h.1 in let first = h.0 in omega arith

pub degree_of-mul : (p : ℕ) (f g : List Term) → degree_of (mul p f g) ≤ degree_of f + degree_of g
degree_of-mul p f g =
    degree_le (degree_of f + degree_of g) (mul p f g)
    (every_normal (AtMost (degree_of f + degree_of g)) p (products f g)
    (every_products (AtMost (degree_of f)) (AtMost (degree_of g)) (AtMost (degree_of f + degree_of g)) f g
    (λ m n h k. omega (arith, total_degree-plus m.exponents n.exponents)) (each_degree f) (each_degree g)))

pub degree_of-add : (p : ℕ) (f g : List Term) → degree_of (add p f g) ≤ max (degree_of f) (degree_of g)
degree_of-add p f g =
    let d = max (degree_of f) (degree_of g) in
    degree_le d (add p f g)
    (every_normal (AtMost d) p (f ++ g)
    (every_append (AtMost d) f g (every_more (AtMost (degree_of f)) (AtMost d) f (λ m h. omega arith) (each_degree f))
    (every_more (AtMost (degree_of g)) (AtMost d) g (λ m h. omega arith) (each_degree g))))

pub degree_of-power : (p : ℕ) (f : List Term) (n : ℕ) → degree_of (power p f n) ≤ degree_of f * n
degree_of-power p f zero = omega arith
degree_of-power p f (suc n) = let ih = degree_of-power p f n in omega (arith, degree_of-mul p f (power p f n))

-- a smaller power has room where a greater one has
pub power_room : (d k n : ℕ) → k ≤ n → d * n ≤ 60000 → d * k ≤ 60000
power_room d k n h r = let x : d * k ≤ d * n = mul-le-mul_left d h in omega arith

-- one more term of a loop
pub degree_of-take_more : (f : List Term) (i : ℕ) (t : Term) → i < length f → t ≡ get_or f i t
    → degree_of (take (i + 1) f) ≡ max (degree_of (take i f)) (total_degree t.mono.exponents)
degree_of-take_more f i t h e = let n : i + 1 ≡ suc i = omega arith in rw n (go f i t h e)
  where
    go : (f : List Term) (i : ℕ) (t : Term) → i < length f → t ≡ get_or f i t → degree_of (take (suc i) f) ≡ max (degree_of (take i f)) (total_degree t.mono.exponents)
    go [] i t h e = absurd (omega arith)
    go (x ∷ f) zero t h e = let q : total_degree t.mono.exponents ≡ total_degree x.mono.exponents = ap (λ w. total_degree w.mono.exponents) e in omega arith
    go (x ∷ f) (suc i) t h e = let ih = go f i t (omega arith) e in omega arith
