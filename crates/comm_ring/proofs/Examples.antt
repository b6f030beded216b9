-- An identity of each kind, proved by one line.
use Rattle.std.proofs.Common.{◌≡◌, ℕ, ◌+◌, ◌*◌, ◌-◌, ◌%◌, ◌<◌, ◌≤◌, Bool, true, false, not, refl, [], ◌∷◌}
use Rattle.comm_ring.specs.Ring.{CommRing, sub, pow, number}
use Rattle.comm_ring.proofs.Quote.{ring, ring_by, fact, quote}
use Rattle.comm_ring.proofs.Expressions.{ring_as, v0, v1, v2, c1, ◌+:◌, ◌*:◌, minus}
use Rattle.comm_ring.proofs.Equality.{path_ring}
use Rattle.comm_ring.proofs.Residues.{mod_ring, mod_quote}
use Rattle.comm_ring.proofs.Modules.{Module}
use Rattle.comm_ring.proofs.Linear.{linear, linear_quote}

module _ (R : CommRing) where
  open R use {ops, carrier, ◌≈◌, ◌⊕◌, ◌⊗◌, neg, 𝟘, 𝟙}

  infix 40 ◌≈◌
  infixl 60 ◌⊕◌
  infixl 70 ◌⊗◌
  -- expansion, with powers at numerals and a numeral
  square-of_sum : (x y : carrier) → pow ops (x ⊕ y) 2 ≈ pow ops x 2 ⊕ number ops 2 ⊗ x ⊗ y ⊕ pow ops y 2
  square-of_sum x y = ring R (x ∷ y ∷ []) (search quote depth 20) tt

  -- cancellation, with a difference
  difference-of_squares : (x y : carrier) → (x ⊕ y) ⊗ sub ops x y ≈ sub ops (pow ops x 2) (pow ops y 2)
  difference-of_squares x y = ring R (x ∷ y ∷ []) (search quote depth 20) tt

  -- powers with exponents that are variables: their powers are atoms
  common_power : (d x y : carrier) (k l : ℕ) → pow ops d (k + l) ⊗ x ⊕ pow ops d k ⊗ (pow ops d l ⊗ y) ≈ pow ops d l ⊗ (pow ops d k ⊗ (y ⊕ x))
  common_power d x y k l = ring R (x ∷ y ∷ pow ops d k ∷ pow ops d l ∷ []) (search quote depth 20) tt

  -- with a hypothesis and what it is multiplied by
  square_modulo : (x y d q : carrier) → x ≈ y ⊕ d ⊗ q → x ⊗ x ≈ y ⊗ y ⊕ d ⊗ (q ⊗ (x ⊕ y))
  square_modulo x y d q e = ring_by R (x ∷ y ∷ d ∷ q ∷ []) (fact (x ⊕ y) _ _ e ∷ []) (search quote depth 20) tt

  -- with the expressions written out
  written_out : (x y z : carrier) → (x ⊕ y) ⊗ (z ⊕ 𝟙) ⊕ neg y ≈ z ⊗ y ⊕ x ⊗ (𝟙 ⊕ z)
  written_out x y z = ring_as R (x ∷ y ∷ z ∷ []) ((v0 +: v1) *: (v2 +: c1) +: minus v1) (v2 *: v1 +: v0 *: (c1 +: v2)) tt

-- between remainders
module _ (p : ℕ) (positive : 0 < p) where
  remainder-of_product : (a b c : ℕ) → ((a % p) * ((b + c) % p)) % p ≡ ((a * b) % p + a * c) % p
  remainder-of_product a b c = mod_ring p positive (a ∷ b ∷ c ∷ []) _ _ (search mod_quote depth 20) tt

  multiple-of_modulus : (a q : ℕ) → (a + p * q) % p ≡ a % p
  multiple-of_modulus a q = mod_ring p positive (a ∷ q ∷ []) _ _ (search mod_quote depth 20) tt

  -- a difference wants its order among the hypotheses
  negative_cancels : (a b : ℕ) → a ≤ p → (b * (p - a) + b * a) % p ≡ 0 % p
  negative_cancels a b within = mod_ring p positive (a ∷ b ∷ []) _ _ (search mod_quote depth 20) tt

-- between members of a module
module _ (R : CommRing) (M : Module R) where
  open M use {carrier, ◌≋◌, ◌⊞◌, opposite, ◌·◌}

  infix 40 ◌≋◌
  infixl 60 ◌⊞◌
  infixr 65 ◌·◌
  members_regroup : (a b : R.carrier) (x y : carrier) → (R.◌⊕◌ a b · (x ⊞ y)) ⊞ opposite (a · y) ≋ b · y ⊞ (a · x ⊞ b · x)
  members_regroup a b x y = linear R M (a ∷ b ∷ []) (x ∷ y ∷ []) (search linear_quote depth 20) tt

-- in a ring whose equations are paths: the truth values
exclusive : Bool → Bool → Bool
exclusive true y = not y
exclusive false y = y

both : Bool → Bool → Bool
both true y = y
both false y = false

-- each is its own negative
unchanged : Bool → Bool
unchanged x = x

assoc : (x y z : Bool) → exclusive (exclusive x y) z ≡ exclusive x (exclusive y z)
unfolding exclusive both unchanged
assoc true true true = refl
assoc true true false = refl
assoc true false z = refl
assoc false y z = refl

comm : (x y : Bool) → exclusive x y ≡ exclusive y x
unfolding exclusive both unchanged
comm true true = refl
comm true false = refl
comm false true = refl
comm false false = refl

zero : (x : Bool) → exclusive x false ≡ x
unfolding exclusive both unchanged
zero true = refl
zero false = refl

own : (x : Bool) → exclusive x (unchanged x) ≡ false
unfolding exclusive both unchanged
own true = refl
own false = refl

both_assoc : (x y z : Bool) → both (both x y) z ≡ both x (both y z)
unfolding exclusive both unchanged
both_assoc true y z = refl
both_assoc false y z = refl

both_comm : (x y : Bool) → both x y ≡ both y x
unfolding exclusive both unchanged
both_comm true true = refl
both_comm true false = refl
both_comm false true = refl
both_comm false false = refl

one : (x : Bool) → both x true ≡ x
unfolding exclusive both unchanged
one true = refl
one false = refl

distributes : (x y z : Bool) → both x (exclusive y z) ≡ exclusive (both x y) (both x z)
unfolding exclusive both unchanged
distributes true y z = refl
distributes false y z = refl

abbrev truth_values : CommRing
truth_values = path_ring Bool exclusive both unchanged false true assoc comm zero own both_assoc both_comm one distributes

truth_identity : (x y : Bool) → both (exclusive x y) (exclusive x y) ≡ exclusive (exclusive (both x x) (both y y)) (exclusive (both x y) (both x y))
truth_identity x y = ring truth_values (x ∷ y ∷ []) (search quote depth 20) tt
