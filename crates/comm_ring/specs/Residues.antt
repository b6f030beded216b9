-- The numbers modulo p.
use Rattle.std.specs.Prelude.{◌≡◌, ℕ, ◌+◌, ◌-◌, ◌*◌, ◌%◌}
use Rattle.comm_ring.specs.Ring.{Ops}

-- numbers are equal where they leave one remainder; sums, products and negatives are remainders
abbrev pub residue_ops : ℕ → Ops
residue_ops p = record {
  carrier = ℕ;
  ◌≈◌ = λ a b. a % p ≡ b % p;
  ◌⊕◌ = λ a b. (a + b) % p;
  ◌⊗◌ = λ a b. (a * b) % p;
  neg = λ a. (p - a % p) % p;
  𝟘 = 0;
  𝟙 = 1;
}
