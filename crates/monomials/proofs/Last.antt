-- Which place decides a comparison, and the comparison of the first so many exponents.
use Rattle.std.proofs.Common.{◌≡◌, ◌≢◌, ℕ, ◌+◌, ◌<◌, ◌≤◌, zero, suc, List, [], ◌∷◌, ◌++◌, length, take, get_or, refl, sym, ap, ◌∙◌, arith}
use Rattle.std.specs.declared.cmp.Ordering.{Ordering}
use Rattle.std.specs.declared.cmp.Ordering.TheVariants.{Less, Equal, Greater}
use Rattle.std.specs.Ordering.{ordering_then, nat_cmp}
use Rattle.std.specs.Cmp.{nat_cmp_is}
use Rattle.std.specs.Cmp.{ranked}
use Rattle.monomials.specs.Mono.{Monomial, total_degree, cmp_last, cmp_dp}

-- a number is level with itself
pub level : (x : ℕ) → nat_cmp x x ≡ Equal
level x = sym (nat_cmp_is x x Equal refl)

pub then_right : (r : Ordering) → r ≡ ordering_then r Equal
then_right Less = refl
then_right Equal = refl
then_right Greater = refl

pub then_assoc : (r s t : Ordering) → ordering_then (ordering_then r s) t ≡ ordering_then r (ordering_then s t)
then_assoc Less s t = refl
then_assoc Equal s t = refl
then_assoc Greater s t = refl

then_decided : (r s : Ordering) → r ≢ Equal → r ≡ ordering_then r s
then_decided Less s h = refl
then_decided Equal s h = absurd (h refl)
then_decided Greater s h = refl

last_at : (a b : List ℕ) (i : ℕ) → i < length a → i < length b
    → cmp_last (take (suc i) a) (take (suc i) b) ≡ ordering_then (nat_cmp (get_or b i 0) (get_or a i 0)) (cmp_last (take i a) (take i b))
last_at [] b i h k = absurd (omega arith)
last_at (x ∷ a) [] i h k = absurd (omega arith)
last_at (x ∷ a) (y ∷ b) zero h k = then_right (nat_cmp y x)
last_at (x ∷ a) (y ∷ b) (suc i) h k =
    (λ j. ordering_then (last_at a b i (omega arith) (omega arith) j) (nat_cmp y x))
    ∙ then_assoc (nat_cmp (get_or b i 0) (get_or a i 0)) (cmp_last (take i a) (take i b)) (nat_cmp y x)

-- a last place more decides first
pub cmp_last-push : (a b : List ℕ) (x y : ℕ) → length a ≡ length b → cmp_last (a ++ x ∷ []) (b ++ y ∷ []) ≡ ordering_then (nat_cmp y x) (cmp_last a b)
cmp_last-push [] [] x y h = then_right (nat_cmp y x)
cmp_last-push [] (w ∷ b) x y h = absurd (omega arith)
cmp_last-push (z ∷ a) [] x y h = absurd (omega arith)
cmp_last-push (z ∷ a) (w ∷ b) x y h =
    (λ i. ordering_then (cmp_last-push a b x y (omega arith) i) (nat_cmp w z)) ∙ then_assoc (nat_cmp y x) (cmp_last a b) (nat_cmp w z)

not_tied : (x y : ℕ) → x ≢ y → nat_cmp x y ≢ Equal
not_tied x y h e = h (ranked x y Equal (sym e))

-- the component decides
pub by_component : (a b : Monomial) → a.component ≢ b.component → nat_cmp b.component a.component ≡ cmp_dp a b
by_component a b h =
    then_decided (nat_cmp b.component a.component) (ordering_then (nat_cmp (total_degree a.exponents) (total_degree b.exponents)) (cmp_last a.exponents b.exponents))
    (not_tied b.component a.component (λ e. h (sym e)))

past_component : (a b : Monomial) → a.component ≡ b.component
    → ordering_then (nat_cmp (total_degree a.exponents) (total_degree b.exponents)) (cmp_last a.exponents b.exponents) ≡ cmp_dp a b
past_component a b e =
    ap (λ r. ordering_then r (ordering_then (nat_cmp (total_degree a.exponents) (total_degree b.exponents)) (cmp_last a.exponents b.exponents)))
    (nat_cmp_is b.component a.component Equal (sym e))

-- the degree decides
pub by_degree : (a b : Monomial) → a.component ≡ b.component → total_degree a.exponents ≢ total_degree b.exponents
    → nat_cmp (total_degree a.exponents) (total_degree b.exponents) ≡ cmp_dp a b
by_degree a b e h =
    then_decided (nat_cmp (total_degree a.exponents) (total_degree b.exponents)) (cmp_last a.exponents b.exponents) (not_tied (total_degree a.exponents) (total_degree b.exponents) h)
    ∙ past_component a b e

-- the last place decides
pub by_last : (a b : Monomial) → a.component ≡ b.component → total_degree a.exponents ≡ total_degree b.exponents → cmp_last a.exponents b.exponents ≡ cmp_dp a b
by_last a b e d =
    ap (λ r. ordering_then r (cmp_last a.exponents b.exponents)) (nat_cmp_is (total_degree a.exponents) (total_degree b.exponents) Equal d) ∙ past_component a b e

pub same_at : (a b : List ℕ) (k i : ℕ) → k ≡ i + 1 → k ≤ length a → k ≤ length b → get_or a i 0 ≡ get_or b i 0
    → cmp_last (take i a) (take i b) ≡ cmp_last (take k a) (take k b)
same_at a b k i e h g s =
    let q : k ≡ suc i = omega arith in
    rw q (sym (last_at a b i (omega arith) (omega arith)
    ∙ ap (λ r. ordering_then r (cmp_last (take i a) (take i b))) (sym (nat_cmp_is (get_or b i 0) (get_or a i 0) Equal (sym s)))))

pub decided_at : (a b : List ℕ) (k i : ℕ) → k ≡ i + 1 → k ≤ length a → k ≤ length b → get_or a i 0 ≢ get_or b i 0
    → nat_cmp (get_or b i 0) (get_or a i 0) ≡ cmp_last (take k a) (take k b)
decided_at a b k i e h g s =
    let q : k ≡ suc i = omega arith in
    rw q (then_decided (nat_cmp (get_or b i 0) (get_or a i 0)) (cmp_last (take i a) (take i b)) (not_tied (get_or b i 0) (get_or a i 0) (λ t. s (sym t)))
    ∙ sym (last_at a b i (omega arith) (omega arith)))
