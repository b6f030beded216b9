-- Of m + 1 numbers below m two are equal.
use Rattle.std.proofs.Common.{◌≡◌, refl, sym, ap, ◌∙◌, ℕ, zero, suc, ◌<◌, ◌≤◌, ◌⊎◌, inl, inr, arith}
use native.Mathlib.Decide.{ℕ_discrete}
use Rattle.comm_ring.specs.Pigeonhole.{HasTwice, PigeonholePrinciple}

-- h takes the value v below n
abbrev Hit : (ℕ → ℕ) → ℕ → ℕ → Type 0
Hit h v n = (i : ℕ) × (i < n) × h i ≡ v

find : (h : ℕ → ℕ) (v n : ℕ) → Hit h v n ⊎ ((i : ℕ) → i < n → ¬ (h i ≡ v))
find h v zero = inr (λ i l. absurd (omega arith))
find h v (suc n) = go (ℕ_discrete (h n) v) (find h v n)
  where
    none : ¬ (h n ≡ v) → ((i : ℕ) → i < n → ¬ (h i ≡ v)) → (i : ℕ) → i < suc n → ¬ (h i ≡ v)
    none ne f i l e = below (ℕ_discrete i n)
      where
        below : Dec (i ≡ n) → ⊥
        below (yes q) = ne (sym (ap h q) ∙ e)
        below (no q) = f i (omega arith) e

    go : Dec (h n ≡ v) → Hit h v n ⊎ ((i : ℕ) → i < n → ¬ (h i ≡ v)) → Hit h v (suc n) ⊎ ((i : ℕ) → i < suc n → ¬ (h i ≡ v))
    go (yes e) f = inl (n, omega arith, e)
    go (no ne) (inl f) = inl (f.0, omega arith, f.2)
    go (no ne) (inr f) = inr (none ne f)

-- r is k, but w in place of m
abbrev Put : ℕ → ℕ → ℕ → ℕ → Type 0
Put m w k r = ((k ≡ m) × (r ≡ w)) ⊎ (¬ (k ≡ m) × (r ≡ k))

pick : (m w k : ℕ) → (r : ℕ) × Put m w k r
pick m w k = go (ℕ_discrete k m)
  where
    go : Dec (k ≡ m) → (r : ℕ) × Put m w k r
    go (yes e) = (w, inl (e, refl))
    go (no e) = (k, inr (e, refl))

small : (m w k r : ℕ) → Put m w k r → w < suc m → k < suc m → ¬ (k ≡ w) → r < m
small m w k r (inl p) a b c = let e : r ≡ w = p.1 in let f : k ≡ m = p.0 in let g : ¬ (w ≡ m) = (λ q. c (f ∙ sym q)) in omega arith
small m w k r (inr p) a b c = let e : r ≡ k = p.1 in let f : ¬ (k ≡ m) = p.0 in omega arith

back : (m w k l r s : ℕ) → Put m w k r → Put m w l s → r ≡ s → ¬ (k ≡ w) → ¬ (l ≡ w) → k ≡ l
back m w k l r s (inl p) (inl q) e a b = p.0 ∙ sym q.0
back m w k l r s (inl p) (inr q) e a b = absurd (b (sym q.1 ∙ (sym e ∙ p.1)))
back m w k l r s (inr p) (inl q) e a b = absurd (a (sym p.1 ∙ (e ∙ q.1)))
back m w k l r s (inr p) (inr q) e a b = sym p.1 ∙ (e ∙ q.1)

-- by induction: the last value is met before, or is put in place of m
pub pigeonhole : PigeonholePrinciple
pigeonhole zero h b = absurd (no (b 0 (omega arith)))
  where
    no : h 0 < 0 → ⊥
    no l = omega arith
pigeonhole (suc m) h b = go (find h (h (suc m)) (suc m)) (pigeonhole m (λ k. (pick m (h (suc m)) (h k)).0))
  where
    go : Hit h (h (suc m)) (suc m) ⊎ ((i : ℕ) → i < suc m → ¬ (h i ≡ h (suc m)))
        → (((j : ℕ) → j ≤ m → (pick m (h (suc m)) (h j)).0 < m) → HasTwice (λ k. (pick m (h (suc m)) (h k)).0) m) → HasTwice h (suc m)
    go (inl f) ih = (f.0, suc m, f.1, omega arith, f.2)
    go (inr f) ih = lift (ih below)
      where
        below : (j : ℕ) → j ≤ m → (pick m (h (suc m)) (h j)).0 < m
        below j l = small m (h (suc m)) (h j) _ (pick m (h (suc m)) (h j)).1 (b (suc m) (omega arith)) (b j (omega arith)) (f j (omega arith))

        lift : HasTwice (λ k. (pick m (h (suc m)) (h k)).0) m → HasTwice h (suc m)
        lift q = (q.0, q.1, q.2, omega arith, back m (h (suc m)) _ _ _ _ (pick m (h (suc m)) (h q.0)).1 (pick m (h (suc m)) (h q.1)).1 q.4 (f q.0 (omega arith)) (f q.1 (omega arith)))
