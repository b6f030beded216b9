-- The p-th power of a sum over a commutative ring in which p is 0, and of a residue modulo p, for each characteristic p up to 47.
use Rattle.std.proofs.Common.{◌≡◌, ℕ, zero, suc, ◌+◌, ◌*◌, ◌%◌, ◌/◌, ◌<◌, ◌≤◌, ◌==◌, ◌&&◌, Bool, true, false, List, [], ◌∷◌, length, refl, sym, ap, subst, arith}
use Rattle.std.proofs.lemmas.Bool.Decides.{nat_tests}
use Rattle.prime_field.specs.Primes.{is_among, IsCharacteristic}
use Rattle.comm_ring.specs.Ring.{CommRing, pow, number}
use Rattle.comm_ring.proofs.Derived.{number-add, number-mul, pow_same}
use Rattle.comm_ring.proofs.Quote.{ring, quote}

-- the characteristics up to 47
abbrev pub small_characteristics : List ℕ
small_characteristics = 2 ∷ 3 ∷ 5 ∷ 7 ∷ 11 ∷ 13 ∷ 17 ∷ 19 ∷ 23 ∷ 29 ∷ 31 ∷ 37 ∷ 41 ∷ 43 ∷ 47 ∷ []

pub is_small : (p : ℕ) → IsCharacteristic p → p ≤ 47 → is_among small_characteristics p ≡ true
is_small p c h = grind (arith, nat_tests)

-- ---- the p-th power of a residue, computed for each residue

abbrev pub times_itself : ℕ → ℕ → ℕ
times_itself c zero = 1
times_itself c (suc k) = c * times_itself c k

unfoldable fermat_below : ℕ → ℕ → Bool
fermat_below p zero = true
fermat_below p (suc n) = (times_itself n p % p == n) && fermat_below p n

unfoldable all_fermat : List ℕ → Bool
all_fermat [] = true
all_fermat (p ∷ ps) = fermat_below p p && all_fermat ps

table_fermat : all_fermat small_characteristics ≡ true
unfolding all_fermat fermat_below
table_fermat = refl

among_fermat : (ps : List ℕ) (p : ℕ) → all_fermat ps ≡ true → is_among ps p ≡ true → fermat_below p p ≡ true
unfolding all_fermat
among_fermat [] p all one = cc
among_fermat (q ∷ qs) p all one = grind (arith, nat_tests, among_fermat qs p)

below_means : (p n c : ℕ) → fermat_below p n ≡ true → c < n → times_itself c p % p ≡ c
unfolding fermat_below
below_means p zero c e h = absurd (omega arith)
below_means p (suc n) c e h = grind (arith, nat_tests, below_means p n c)

pub power_of-residue : (p c : ℕ) → is_among small_characteristics p ≡ true → c < p → times_itself c p % p ≡ c
power_of-residue p c e h = below_means p p c (among_fermat small_characteristics p table_fermat e) h

-- ---- rows of Pascal's triangle: row p is 1, 0, .., 0, 1 modulo p

abbrev pad : List ℕ → List ℕ
pad [] = 0 ∷ []
pad (c ∷ cs) = c ∷ pad cs

abbrev plus_each : List ℕ → List ℕ → List ℕ
plus_each [] ds = ds
plus_each (c ∷ cs) [] = c ∷ cs
plus_each (c ∷ cs) (d ∷ ds) = (c + d) ∷ plus_each cs ds

abbrev step : List ℕ → List ℕ
step cs = plus_each (pad cs) (0 ∷ cs)

abbrev row : ℕ → List ℕ
row zero = 1 ∷ []
row (suc n) = step (row n)

abbrev last : ℕ → List ℕ
last zero = 1 ∷ []
last (suc n) = 0 ∷ last n

abbrev ends : ℕ → List ℕ
ends zero = []
ends (suc n) = 1 ∷ last n

abbrev residues_of : ℕ → List ℕ → List ℕ
residues_of p [] = []
residues_of p (c ∷ cs) = (c % p) ∷ residues_of p cs

abbrev same_list : List ℕ → List ℕ → Bool
same_list [] [] = true
same_list [] (d ∷ ds) = false
same_list (c ∷ cs) [] = false
same_list (c ∷ cs) (d ∷ ds) = (c == d) && same_list cs ds

unfoldable all_flat : List ℕ → Bool
all_flat [] = true
all_flat (p ∷ ps) = same_list (residues_of p (row p)) (ends p) && all_flat ps

flat : all_flat small_characteristics ≡ true
unfolding all_flat
flat = refl

same_means : (cs ds : List ℕ) → same_list cs ds ≡ true → cs ≡ ds
same_means [] [] e = refl
same_means [] (d ∷ ds) e = cc
same_means (c ∷ cs) [] e = cc
same_means (c ∷ cs) (d ∷ ds) e = grind (arith, nat_tests, same_means cs ds)

among_flat : (ps : List ℕ) (p : ℕ) → all_flat ps ≡ true → is_among ps p ≡ true → same_list (residues_of p (row p)) (ends p) ≡ true
unfolding all_flat
among_flat [] p all one = cc
among_flat (q ∷ qs) p all one = grind (arith, nat_tests, among_flat qs p)

length_pad : (cs : List ℕ) → length (pad cs) ≡ suc (length cs)
length_pad [] = refl
length_pad (c ∷ cs) = ap suc (length_pad cs)

length_plus : (cs ds : List ℕ) → length cs ≡ length ds → length (plus_each cs ds) ≡ length ds
length_plus [] ds e = refl
length_plus (c ∷ cs) [] e = e
length_plus (c ∷ cs) (d ∷ ds) e = let ih = length_plus cs ds (omega arith) in omega (arith, ih)

length_last : (n : ℕ) → length (last n) ≡ suc n
length_last zero = refl
length_last (suc n) = ap suc (length_last n)

module _ (R : CommRing) where
  open R use {ops, carrier, ◌≈◌, ◌⊕◌, ◌⊗◌, neg, 𝟘, 𝟙, rfl, symm, trans, add_cong, mul_cong}

  infix 40 ◌≈◌
  infixl 60 ◌⊕◌
  infixl 70 ◌⊗◌
  pad_none : (x y : carrier) → 𝟘 ⊗ 𝟙 ⊕ x ⊗ 𝟘 ≈ y ⊗ 𝟘
  pad_none x y = ring R (x ∷ y ∷ []) (search quote depth 20) tt

  pad_more : (x y n q h : carrier) → n ⊗ (y ⊗ q) ⊕ x ⊗ (y ⊗ h) ≈ y ⊗ (n ⊗ q ⊕ x ⊗ h)
  pad_more x y n q h = ring R (x ∷ y ∷ n ∷ q ∷ h ∷ []) (search quote depth 20) tt

  plus_none : 𝟘 ≈ 𝟘 ⊕ 𝟘
  plus_none = ring R [] (search quote depth 20) tt

  plus_more : (x a b q h k : carrier) → (a ⊕ b) ⊗ q ⊕ x ⊗ (h ⊕ k) ≈ (a ⊗ q ⊕ x ⊗ h) ⊕ (b ⊗ q ⊕ x ⊗ k)
  plus_more x a b q h k = ring R (x ∷ a ∷ b ∷ q ∷ h ∷ k ∷ []) (search quote depth 20) tt

  step_sum : (x y q h : carrier) → y ⊗ h ⊕ (𝟘 ⊗ q ⊕ x ⊗ h) ≈ (x ⊕ y) ⊗ h
  step_sum x y q h = ring R (x ∷ y ∷ q ∷ h ∷ []) (search quote depth 20) tt

  shift_one : (x q h : carrier) → 𝟘 ⊗ q ⊕ x ⊗ h ≈ x ⊗ h
  shift_one x q h = ring R (x ∷ q ∷ h ∷ []) (search quote depth 20) tt

  one_end : (x : carrier) → (𝟙 ⊕ 𝟘) ⊗ 𝟙 ⊕ x ⊗ 𝟘 ≈ 𝟙
  one_end x = ring R (x ∷ []) (search quote depth 20) tt

  both_ends : (q h : carrier) → (𝟙 ⊕ 𝟘) ⊗ q ⊕ h ≈ h ⊕ q
  both_ends q h = ring R (q ∷ h ∷ []) (search quote depth 20) tt

  no_multiple : (a b : carrier) → a ⊕ 𝟘 ⊗ b ≈ a
  no_multiple a b = ring R (a ∷ b ∷ []) (search quote depth 20) tt

  module _ (x y : carrier) where
    -- the sum of c_k x^k y^(n-k) over the list of the c_k
    unfoldable mixed : List ℕ → carrier
    mixed [] = 𝟘
    mixed (c ∷ cs) = number ops c ⊗ pow ops y (length cs) ⊕ x ⊗ mixed cs

    mixed_pad : (cs : List ℕ) → mixed (pad cs) ≈ y ⊗ mixed cs
    unfolding mixed number pow
    mixed_pad [] = pad_none x y
    mixed_pad (c ∷ cs) =
        trans
        (add_cong (mul_cong (rfl (number ops c)) (pow_same R y (length (pad cs)) (suc (length cs)) (length_pad cs))) (mul_cong (rfl x) (mixed_pad cs)))
        (pad_more x y (number ops c) (pow ops y (length cs)) (mixed cs))

    mixed_plus : (cs ds : List ℕ) → length cs ≡ length ds → mixed (plus_each cs ds) ≈ mixed cs ⊕ mixed ds
    unfolding mixed
    mixed_plus [] [] e = plus_none
    mixed_plus [] (d ∷ ds) e = absurd (omega arith)
    mixed_plus (c ∷ cs) [] e = absurd (omega arith)
    mixed_plus (c ∷ cs) (d ∷ ds) e =
        let l : length cs ≡ length ds = omega arith in
        trans
        (add_cong
        (mul_cong (number-add R c d) (pow_same R y (length (plus_each cs ds)) (length ds) (length_plus cs ds l)))
        (mul_cong (rfl x) (mixed_plus cs ds l)))
        (trans (plus_more x (number ops c) (number ops d) (pow ops y (length ds)) (mixed cs) (mixed ds))
        (add_cong (add_cong (mul_cong (rfl (number ops c)) (pow_same R y (length ds) (length cs) (sym l))) (rfl (x ⊗ mixed cs))) (rfl (number ops d ⊗ pow ops y (length ds) ⊕ x ⊗ mixed ds))))

    mixed_step : (cs : List ℕ) → mixed (step cs) ≈ (x ⊕ y) ⊗ mixed cs
    unfolding mixed number
    mixed_step cs =
        trans (mixed_plus (pad cs) (0 ∷ cs) (length_pad cs))
        (trans (add_cong (mixed_pad cs) (rfl (𝟘 ⊗ pow ops y (length cs) ⊕ x ⊗ mixed cs)))
        (step_sum x y (pow ops y (length cs)) (mixed cs)))

    binomial : (n : ℕ) → pow ops (x ⊕ y) n ≈ mixed (row n)
    unfolding mixed number pow
    binomial zero = symm (one_end x)
    binomial (suc n) = trans (mul_cong (rfl (x ⊕ y)) (binomial n)) (symm (mixed_step (row n)))

    mixed_last : (n : ℕ) → mixed (last n) ≈ pow ops x n
    unfolding mixed number pow
    mixed_last zero = one_end x
    mixed_last (suc n) = trans (shift_one x (pow ops y (length (last n))) (mixed (last n))) (mul_cong (rfl x) (mixed_last n))

    mixed_ends : (n : ℕ) → mixed (ends (suc n)) ≈ pow ops x (suc n) ⊕ pow ops y (suc n)
    unfolding mixed number pow
    mixed_ends n =
        trans (add_cong (mul_cong (rfl (𝟙 ⊕ 𝟘)) (pow_same R y (length (last n)) (suc n) (length_last n))) (mul_cong (rfl x) (mixed_last n)))
        (both_ends (y ⊗ pow ops y n) (x ⊗ pow ops x n))

    mixed_residues : (p : ℕ) → number ops p ≈ 𝟘 → (cs : List ℕ) → mixed (residues_of p cs) ≈ mixed cs
    unfolding mixed
    mixed_residues p z [] = rfl 𝟘
    mixed_residues p z (c ∷ cs) =
        add_cong (mul_cong residue (pow_same R y (length (residues_of p cs)) (length cs) (length_residues cs))) (mul_cong (rfl x) (mixed_residues p z cs))
      where
        length_residues : (cs : List ℕ) → length (residues_of p cs) ≡ length cs
        length_residues [] = refl
        length_residues (c ∷ cs) = ap suc (length_residues cs)

        parts : c ≡ c % p + p * (c / p)
        parts = omega arith

        residue : number ops (c % p) ≈ number ops c
        residue =
            symm (trans (subst (λ n. number ops c ≈ number ops n) parts (rfl (number ops c)))
            (trans (number-add R (c % p) (p * (c / p)))
            (trans (add_cong (rfl (number ops (c % p))) (trans (number-mul R p (c / p)) (mul_cong z (rfl (number ops (c / p))))))
            (no_multiple (number ops (c % p)) (number ops (c / p))))))

    -- the p-th power of a sum is the sum of the p-th powers
    pub power_of-sum : (p : ℕ) → is_among small_characteristics p ≡ true → number ops p ≈ 𝟘 → pow ops (x ⊕ y) p ≈ pow ops x p ⊕ pow ops y p
    power_of-sum zero e z = cc
    power_of-sum (suc n) e z =
        let q = same_means (residues_of (suc n) (row (suc n))) (ends (suc n)) (among_flat small_characteristics (suc n) flat e) in
        trans (binomial (suc n)) (trans (symm (mixed_residues (suc n) z (row (suc n)))) (subst (λ l. mixed l ≈ pow ops x (suc n) ⊕ pow ops y (suc n)) (sym q) (mixed_ends n)))
