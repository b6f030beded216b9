-- The residues below p as members of a ring, and spans modulo d by coefficients below p.
use Rattle.std.specs.Prelude.{◌≡◌, ℕ, ◌<◌, List, length}
use Rattle.comm_ring.specs.Ring.{Ops}
use Rattle.fraction_laws.proofs.Settings.{EachN, comb_of}

-- the residues 0 to p - 1 as members of a ring
pub record Scalars (Q : Ops) : Type 0 where
  pub p : ℕ
  pub scal : ℕ → Q.carrier
  pub scal_zero : Q.◌≈◌ (scal 0) Q.𝟘
  pub inverse : (c : ℕ) → 0 < c → c < p → (e : ℕ) × (e < p) × Q.◌≈◌ (Q.◌⊗◌ (scal e) (scal c)) Q.𝟙
  -- b - t c e
  pub comb : (b t e c : ℕ) → b < p → t < p → e < p → c < p → (r : ℕ) × (r < p) × Q.◌≈◌ (scal r) (Q.◌⊕◌ (scal b) (Q.neg (Q.◌⊗◌ (Q.◌⊗◌ (scal t) (scal e)) (scal c))))

module _ (Q : Ops) (p : ℕ) (scal : ℕ → Q.carrier) (d : Q.carrier) where
  open Q use {carrier, ◌≈◌, ◌⊕◌, ◌⊗◌, neg, 𝟘, 𝟙}

  infix 40 ◌≈◌
  infixl 60 ◌⊕◌
  infixl 70 ◌⊗◌
  abbrev pub sum_of : List ℕ → List carrier → carrier
  sum_of cs us = comb_of Q scal cs us

  -- f is a sum of multiples of the members of us, modulo d
  abbrev pub Spanned : List carrier → carrier → Type 0
  Spanned us f = (cs : List ℕ) × (q : carrier) × length cs ≡ length us × EachN (λ c. c < p) cs × f ≈ (sum_of cs us ⊕ (d ⊗ q))

  abbrev pub Spans : List carrier → Type 0
  Spans us = (f : carrier) → Spanned us f

  -- some list of n members spans, and no list of fewer
  abbrev pub Dim : ℕ → Type 0
  Dim n = (us : List carrier) × length us ≡ n × Spans us × ((vs : List carrier) → length vs < n → Spans vs → ⊥)
