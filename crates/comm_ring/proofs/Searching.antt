-- A search through the numbers below a bound decides.
use Rattle.std.proofs.Common.{◌≡◌, subst, ℕ, zero, suc, ◌<◌, arith}
use native.Mathlib.Decide.{ℕ_discrete}

-- a search below a bound
pub below : (b : ℕ) (V : ℕ → Type 0) → ((c : ℕ) → Dec (V c)) → Dec ((c : ℕ) × (c < b) × V c)
below zero V f = no (λ w. none w.0 w.1)
  where
    none : (c : ℕ) → c < 0 → ⊥
    none c l = omega arith
below (suc b) V f = go (f b) (below b V f)
  where
    last : (c : ℕ) → c < suc b → V c → ¬ (V b) → ¬ ((c : ℕ) × (c < b) × V c) → ⊥
    last c l v n m = at_b (ℕ_discrete c b)
      where
        at_b : Dec (c ≡ b) → ⊥
        at_b (yes e) = n (subst V e v)
        at_b (no e) = m (c, omega arith, v)

    go : Dec (V b) → Dec ((c : ℕ) × (c < b) × V c) → Dec ((c : ℕ) × (c < suc b) × V c)
    go (yes v) r = yes (b, omega arith, v)
    go (no n) (yes r) = yes (r.0, (let l : r.0 < b = r.1 in omega arith), r.2)
    go (no n) (no m) = no (λ w. last w.0 w.1 w.2 n m)
