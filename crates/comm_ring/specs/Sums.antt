-- Finite sums and products over lists.
use Rattle.std.specs.Prelude.{ℕ, List, [], ◌∷◌}
use Rattle.std.specs.List.{range_with_len}
use Rattle.comm_ring.specs.Ring.{Ops}

-- the values of f over the list, joined by one operation, from its unit on
unfoldable pub joined : {A X : Type 0} → (A → A → A) → A → (X → A) → List X → A
joined op unit f [] = unit
joined op unit f (x ∷ xs) = op (f x) (joined op unit f xs)

-- f x_1 + .. + f x_n
abbrev pub sum : (O : Ops) {X : Type 0} → (X → O.carrier) → List X → O.carrier
sum O f xs = joined O.◌⊕◌ O.𝟘 f xs

-- f x_1 * .. * f x_n
abbrev pub product : (O : Ops) {X : Type 0} → (X → O.carrier) → List X → O.carrier
product O f xs = joined O.◌⊗◌ O.𝟙 f xs

-- the numbers 0, .., n - 1
abbrev pub below : ℕ → List ℕ
below n = range_with_len 0 n
