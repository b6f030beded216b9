-- A ring modulo the ideal of a list, with a denominator d: what is asked of it.
use Rattle.std.specs.Prelude.{ℕ, List, [], ◌∷◌, ◌++◌}
use Rattle.comm_ring.specs.Ring.{Ops}
use Rattle.comm_ring.specs.Modules.{ModuleOps, modulo, module_through}
use Rattle.comm_ring.specs.Ideals.{InIdeal, quotient_ops}

module _ (O : Ops) (I : List O.carrier) where
  open O use {carrier, ◌⊗◌}

  infixl 70 ◌⊗◌
  -- the ring modulo the ideal of I
  abbrev pub curve_ops : Ops
  curve_ops = quotient_ops O (InIdeal O I)

  -- d times a member is in the ideal of I only where the member is
  abbrev pub RegularOver : carrier → Type 0
  RegularOver d = (a : carrier) → InIdeal O I (d ⊗ a) → InIdeal O I a

  -- the ring over scalars, modulo I and d
  abbrev pub space_over : (ℕ → carrier) → carrier → ModuleOps ℕ
  space_over scalar d = modulo (module_through O scalar) (InIdeal O (I ++ d ∷ []))
