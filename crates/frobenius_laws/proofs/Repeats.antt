-- In a finite ring some power of each member is its own square.
use Rattle.std.proofs.Common.{◌≡◌, refl, sym, ap, ◌∙◌, ℕ, zero, suc, ◌+◌, ◌*◌, ◌-◌, ◌<◌, ◌≤◌, List, [], ◌∷◌, arith}
use Rattle.comm_ring.specs.Ring.{CommRing, pow}
use Rattle.comm_ring.proofs.Derived as Derived
use Rattle.comm_ring.proofs.Pigeons.{pigeonhole}

module _ (R : CommRing) where
  open R use {ops, carrier, ◌≈◌, ◌⊗◌, 𝟙, rfl, symm, trans, mul_cong}

  infix 40 ◌≈◌
  infixl 70 ◌⊗◌
  infixr 30 ◌⨾◌
  ◌⨾◌ : {u v w : carrier} → u ≈ v → v ≈ w → u ≈ w
  ◌⨾◌ e f = trans e f

  module _ (f : carrier) (i d : ℕ) (e : pow ops f i ≈ pow ops f (i + d)) where
    -- from the exponent i on the powers repeat with period d
    later : (t : ℕ) → pow ops f (i + t) ≈ pow ops f (i + t + d)
    later t = Derived.pow-add R f i t ⨾ (mul_cong e (rfl (pow ops f t)) ⨾ (symm (Derived.pow-add R f (i + d) t) ⨾ Derived.pow_same R f (i + d + t) (i + t + d) (omega arith)))

    periods : (t k : ℕ) → pow ops f (i + t) ≈ pow ops f (i + t + k * d)
    periods t zero = Derived.pow_same R f (i + t) (i + t + 0 * d) (omega arith)
    periods t (suc k) = periods t k ⨾ (Derived.pow_same R f (i + t + k * d) (i + (t + k * d)) (omega arith) ⨾ (later (t + k * d) ⨾ Derived.pow_same R f (i + (t + k * d) + d) (i + t + suc k * d) (omega arith)))

    -- the exponent n = (i + 1) d is above i
    squared : (n : ℕ) → n ≡ suc i * d → i ≤ n → pow ops f n ≈ pow ops f n ⊗ pow ops f n
    squared n e l = Derived.pow_same R f n (i + (n - i)) (omega arith) ⨾ (periods (n - i) (suc i)
        ⨾ (Derived.pow_same R f (i + (n - i) + suc i * d) (n + n) (omega arith) ⨾ Derived.pow-add R f n n))

  above : (i d : ℕ) → 0 < d → i < suc i * d
  above i zero l = absurd (omega arith)
  above i (suc d) l = let h : suc i * suc d ≡ suc i + suc i * d = omega arith in omega arith

  -- with a number below size for each member, which tells members apart
  pub idempotent_power : (code : carrier → ℕ) (size : ℕ) → ((j : ℕ) (f : carrier) → code (pow ops f j) < size) → ((f : carrier) (i j : ℕ) → code (pow ops f i) ≡ code (pow ops f j) → pow ops f i ≈ pow ops f j)
      → (f : carrier) → (n : ℕ) × (pow ops f (suc n) ≈ pow ops f (suc n) ⊗ pow ops f (suc n))
  idempotent_power code size small apart f =
      let t = pigeonhole size (λ j. code (pow ops f j)) (λ j l. small j f) in
      let i : ℕ = t.0 in
      let j : ℕ = t.1 in
      let less : t.0 < t.1 = t.2 in
      let step : t.1 ≡ t.0 + (t.1 - t.0) = omega arith in
      let e : pow ops f t.0 ≈ pow ops f (t.0 + (t.1 - t.0)) = apart f t.0 t.1 t.4 ⨾ Derived.pow_same R f t.1 (t.0 + (t.1 - t.0)) step in
      let a : t.0 < suc t.0 * (t.1 - t.0) = above t.0 (t.1 - t.0) (omega arith) in (
        suc t.0 * (t.1 - t.0) - 1,
        squared f t.0 (t.1 - t.0) e (suc (suc t.0 * (t.1 - t.0) - 1)) (omega arith) (omega arith),
      )
