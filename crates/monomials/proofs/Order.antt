-- dp is a total order that products keep.
use Rattle.std.proofs.Common.{◌≡◌, ◌≢◌, ℕ, ◌+◌, ◌<◌, zero, suc, [], ◌∷◌, List, length, refl, sym, ap, ◌∙◌, arith}
use Rattle.std.specs.declared.cmp.Ordering.{Ordering}
use Rattle.std.specs.declared.cmp.Ordering.TheVariants.{Less, Equal, Greater}
use Rattle.std.specs.Ordering.{MatchOrdering, ordering_then, ordering_reverse, nat_cmp}
use Rattle.std.specs.Cmp.{IsTotalOrder, ranked, nat_cmp_is, nat_cmp_total, then_flip, then_total, on_total, back_total, ranks}
use Rattle.monomials.specs.Mono.{Monomial, times, unit, total_degree, cmp_last, cmp_dp}
use Rattle.monomials.specs.Laws.{DpIsTotal, ProductsKeepDp, Products}
use Rattle.monomials.proofs.Exponents.{plus, plus_comm, plus_assoc, plus_zeros, plus_cancel, total_degree-plus}

-- ---- the last place that differs

pub then_equal : (r s : Ordering) → ordering_then r s ≡ Equal → (r ≡ Equal) × (s ≡ Equal)
then_equal Less s e = (e, absurd (grind arith))
then_equal Equal s e = (refl, e)
then_equal Greater s e = (e, absurd (grind arith))

pub same_last : (a b : List ℕ) → cmp_last a b ≡ Equal → a ≡ b
same_last [] [] e = refl
same_last [] (y ∷ b) e = absurd (grind arith)
same_last (x ∷ a) [] e = absurd (grind arith)
same_last (x ∷ a) (y ∷ b) e =
    let h = then_equal (cmp_last a b) (nat_cmp y x) e in
    let q : y ≡ x = ranked y x Equal (sym h.1) in
    λ i. sym q i ∷ same_last a b h.0 i

turn_last : (a b : List ℕ) → cmp_last a b ≡ ordering_reverse (cmp_last b a)
turn_last [] [] = refl
turn_last [] (y ∷ b) = refl
turn_last (x ∷ a) [] = refl
turn_last (x ∷ a) (y ∷ b) =
    (λ i. ordering_then (turn_last a b i) (nat_cmp_total.antisymm y x i)) ∙ then_flip (cmp_last b a) (nat_cmp x y)

self_last : (a : List ℕ) → cmp_last a a ≡ Equal
self_last [] = refl
self_last (x ∷ a) = (λ i. ordering_then (self_last a i) (nat_cmp x x)) ∙ sym (nat_cmp_is x x Equal refl)

chain_last_step : (a b c : List ℕ) (x y z : ℕ) (r s : Ordering)
    → (cmp_last a b ≡ Less → cmp_last b c ≡ Less → cmp_last a c ≡ Less)
    → cmp_last a b ≡ r → cmp_last b c ≡ s
    → ordering_then r (nat_cmp y x) ≡ Less → ordering_then s (nat_cmp z y) ≡ Less
    → ordering_then (cmp_last a c) (nat_cmp z x) ≡ Less
chain_last_step a b c x y z Less Less ih p q h k = λ i. ordering_then (ih p q i) (nat_cmp z x)
chain_last_step a b c x y z Less Equal ih p q h k = λ i. ordering_then ((ap (cmp_last a) (sym (same_last b c q)) ∙ p) i) (nat_cmp z x)
chain_last_step a b c x y z Less Greater ih p q h k = absurd (grind arith)
chain_last_step a b c x y z Equal Less ih p q h k = λ i. ordering_then ((ap (λ w. cmp_last w c) (same_last a b p) ∙ q) i) (nat_cmp z x)
chain_last_step a b c x y z Equal Equal ih p q h k =
    (λ i. ordering_then ((ap (λ w. cmp_last w c) (same_last a b p) ∙ q) i) (nat_cmp z x)) ∙ nat_cmp_total.trans z y x k h
chain_last_step a b c x y z Equal Greater ih p q h k = absurd (grind arith)
chain_last_step a b c x y z Greater s ih p q h k = absurd (grind arith)

chain_last : (a b c : List ℕ) → cmp_last a b ≡ Less → cmp_last b c ≡ Less → cmp_last a c ≡ Less
chain_last [] b [] h k = elim b as (λ b. cmp_last [] b ≡ Less → cmp_last b [] ≡ Less → Equal ≡ Less) [ [] ↦ λ h k. k | y ∷ b ↦ λ h k. absurd (grind arith) ] h k
chain_last [] b (z ∷ c) h k = refl
chain_last (x ∷ a) [] c h k = absurd (grind arith)
chain_last (x ∷ a) (y ∷ b) [] h k = absurd (grind arith)
chain_last (x ∷ a) (y ∷ b) (z ∷ c) h k =
    chain_last_step a b c x y z (cmp_last a b) (cmp_last b c) (chain_last a b c) refl refl h k

last_total : IsTotalOrder cmp_last
last_total = record { antisymm = turn_last; trans = chain_last; congr = λ x y z e. ap (λ w. cmp_last w z) (same_last x y e) }

-- ---- dp

pub same_dp : (a b : Monomial) → cmp_dp a b ≡ Equal → a ≡ b
same_dp a b e =
    let h = then_equal (nat_cmp b.component a.component) (ordering_then (nat_cmp (total_degree a.exponents) (total_degree b.exponents)) (cmp_last a.exponents b.exponents)) e in
    let k = then_equal (nat_cmp (total_degree a.exponents) (total_degree b.exponents)) (cmp_last a.exponents b.exponents) h.1 in
    let c : b.component ≡ a.component = ranked b.component a.component Equal (sym h.0) in
    let x = same_last a.exponents b.exponents k.1 in
    λ i. record { exponents = x i; component = sym c i }

pub self_dp : (a : Monomial) → cmp_dp a a ≡ Equal
self_dp a =
    rw (sym (nat_cmp_is a.component a.component Equal refl), sym (nat_cmp_is (total_degree a.exponents) (total_degree a.exponents) Equal refl)) (self_last a.exponents)

pub dp_total : IsTotalOrder cmp_dp
dp_total =
    then_total (on_total {K = Monomial} (λ m. m.component) (back_total nat_cmp_total))
    (then_total (on_total {K = Monomial} (λ m. total_degree m.exponents) nat_cmp_total) (on_total {K = Monomial} (λ m. m.exponents) last_total))

pub dp_law : DpIsTotal
dp_law = record { order = dp_total; ties = same_dp }

-- the comparison from the other side
pub turn_down : (a b : Monomial) → cmp_dp a b ≡ Greater → cmp_dp b a ≡ Less
turn_down a b e = dp_total.antisymm b a ∙ ap ordering_reverse e

pub turn_up : (a b : Monomial) → cmp_dp a b ≡ Less → cmp_dp b a ≡ Greater
turn_up a b e = dp_total.antisymm b a ∙ ap ordering_reverse e

pub chain_up : (a b c : Monomial) → cmp_dp a b ≡ Greater → cmp_dp b c ≡ Greater → cmp_dp a c ≡ Greater
chain_up a b c h k = turn_up c a (dp_total.trans c b a (turn_down b c k) (turn_down a b h))

-- ---- products keep the order

nat_cmp-add : (x y z : ℕ) → nat_cmp (x + z) (y + z) ≡ nat_cmp x y
nat_cmp-add x y z = go (nat_cmp x y) (ranks x y)
  where
    go : (r : Ordering) → MatchOrdering r (x < y) (x ≡ y) (y < x) → nat_cmp (x + z) (y + z) ≡ r
    go Less h = sym (nat_cmp_is (x + z) (y + z) Less (omega arith))
    go Equal h = sym (nat_cmp_is (x + z) (y + z) Equal (omega arith))
    go Greater h = sym (nat_cmp_is (x + z) (y + z) Greater (omega arith))

cmp_last-plus : (a b c : List ℕ) → length a ≡ length b → cmp_last (plus a c) (plus b c) ≡ cmp_last a b
cmp_last-plus [] [] c e = self_last c
cmp_last-plus [] (y ∷ b) c e = absurd (omega arith)
cmp_last-plus (x ∷ a) [] c e = absurd (omega arith)
cmp_last-plus (x ∷ a) (y ∷ b) [] e = refl
cmp_last-plus (x ∷ a) (y ∷ b) (z ∷ c) e =
    λ i. ordering_then (cmp_last-plus a b c (omega arith) i) (nat_cmp-add y x z i)

pub cmp_dp-times : (a b c : Monomial) → length a.exponents ≡ length b.exponents → cmp_dp (times a c) (times b c) ≡ cmp_dp a b
cmp_dp-times a b c e =
    rw (
      nat_cmp-add b.component a.component c.component,
      total_degree-plus a.exponents c.exponents,
      total_degree-plus b.exponents c.exponents,
      nat_cmp-add (total_degree a.exponents) (total_degree b.exponents) (total_degree c.exponents),
      cmp_last-plus a.exponents b.exponents c.exponents e,
    )

-- what is added is 0 throughout, or the sum of the exponents grows
grown : (a c : List ℕ) → length a ≡ length c → (total_degree c ≡ 0 → plus a c ≡ a)
grown [] [] e z = refl
grown [] (y ∷ c) e z = absurd (omega arith)
grown (x ∷ a) [] e z = refl
grown (x ∷ a) (y ∷ c) e z = let first : x + y ≡ x = omega arith in λ i. first i ∷ grown a c (omega arith) (omega arith) i

pub multiple_not_less : (a c : Monomial) → length a.exponents ≡ length c.exponents → c.component ≡ 0 → cmp_dp (times a c) a ≢ Less
multiple_not_less a c e z h = go (total_degree c.exponents) refl
  where
    level : nat_cmp a.component (a.component + c.component) ≡ Equal
    level = let n : a.component ≡ a.component + c.component = omega arith in sym (nat_cmp_is a.component (a.component + c.component) Equal n)

    by_degree : ordering_then (nat_cmp (total_degree (plus a.exponents c.exponents)) (total_degree a.exponents)) (cmp_last (plus a.exponents c.exponents) a.exponents) ≡ Less
    by_degree = rw level at h

    go : (n : ℕ) → total_degree c.exponents ≡ n → ⊥
    go zero q =
        let same : plus a.exponents c.exponents ≡ a.exponents = grown a.exponents c.exponents e q in
        let k : ordering_then (nat_cmp (total_degree a.exponents) (total_degree a.exponents)) (cmp_last a.exponents a.exponents) ≡ Less = rw same at by_degree in
        let tie = sym (nat_cmp_is (total_degree a.exponents) (total_degree a.exponents) Equal refl) in
        let l = rw tie at k in
        let no : Equal ≡ Less = sym (self_last a.exponents) ∙ l in
        absurd (grind arith)
    go (suc n) q =
        let sums = total_degree-plus a.exponents c.exponents in
        let more : total_degree a.exponents < total_degree (plus a.exponents c.exponents) = omega arith in
        let above = sym (nat_cmp_is (total_degree (plus a.exponents c.exponents)) (total_degree a.exponents) Greater more) in
        let no = rw above at by_degree in
        absurd (grind arith)

pub keep_law : ProductsKeepDp
keep_law = record { kept = cmp_dp-times; grows = multiple_not_less }

-- ---- products

pub times_comm : (a b : Monomial) → times a b ≡ times b a
times_comm a b =
    let c : a.component + b.component ≡ b.component + a.component = omega arith in
    λ i. record { exponents = plus_comm a.exponents b.exponents i; component = c i }

pub times_assoc : (a b c : Monomial) → times (times a b) c ≡ times a (times b c)
times_assoc a b c =
    let s : (a.component + b.component) + c.component ≡ a.component + (b.component + c.component) = omega arith in
    λ i. record { exponents = plus_assoc a.exponents b.exponents c.exponents i; component = s i }

pub times_one : (a : Monomial) → length a.exponents ≡ 7 → times a unit ≡ a
times_one a e =
    let s : a.component + 0 ≡ a.component = omega arith in
    λ i. record { exponents = plus_zeros 7 a.exponents e i; component = s i }

pub times_cancel : (a b c : Monomial) → length a.exponents ≡ length b.exponents → times a c ≡ times b c → a ≡ b
times_cancel a b c e h =
    let s : a.component + c.component ≡ b.component + c.component = ap (λ m. m.component) h in
    let n : a.component ≡ b.component = omega arith in
    let x = plus_cancel a.exponents b.exponents c.exponents e (ap (λ m. m.exponents) h) in
    λ i. record { exponents = x i; component = n i }

pub product_law : Products
product_law = record { comm = times_comm; assoc = times_assoc; one = times_one; cancel = times_cancel }
