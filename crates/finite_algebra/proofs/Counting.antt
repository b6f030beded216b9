-- A list that has each number below n exactly once has the length n.
use Rattle.std.proofs.Common.{◌≡◌, ◌≢◌, ℕ, ◌<◌, ◌≤◌, ◌⊎◌, inl, inr, List, length, get_or, sym, ap, ◌∙◌, arith, ⊎_elim}
use Rattle.std.proofs.lemmas.Bool.{cases_lt}
use Rattle.comm_ring.specs.Pigeonhole.{HasTwice}
use Rattle.comm_ring.proofs.Pigeons.{pigeonhole}
use Rattle.finite_algebra.proofs.Classes.{among}

-- where the number k stands in the list
abbrev Standing : List ℕ → ℕ → Type 0
Standing xs k = (i : ℕ) × (i < length xs) × get_or xs i 0 ≡ k

abbrev Found : List ℕ → ℕ → Type 0
Found xs k = Standing xs k ⊎ ((i : ℕ) → i < length xs → get_or xs i 0 ≢ k)

index_of : (xs : List ℕ) (k : ℕ) → Found xs k → ℕ
index_of xs k (inl f) = f.0
index_of xs k (inr g) = 0

index_stands : (xs : List ℕ) (k : ℕ) (f : Found xs k) → Standing xs k → (index_of xs k f < length xs) × get_or xs (index_of xs k f) 0 ≡ k
unfolding index_of
index_stands xs k (inl f) s = (f.1, f.2)
index_stands xs k (inr g) s = absurd (g s.0 s.1 s.2)

module _ (xs : List ℕ) (n : ℕ) (within : (i : ℕ) → i < length xs → get_or xs i 0 < n) (once : (i j : ℕ) → i < j → j < length xs → get_or xs i 0 ≢ get_or xs j 0)
    (all : (k : ℕ) → k < n → Standing xs k) where
  many : n < length xs → ⊥
  many c = clash (pigeonhole n (λ i. get_or xs i 0) (λ j h. within j (omega arith)))
    where
      clash : HasTwice (λ i. get_or xs i 0) n → ⊥
      clash t = once t.0 t.1 t.2 (let h : t.1 ≤ n = t.3 in omega arith) t.4

  index : ℕ → ℕ
  index k = index_of xs k (among k xs)

  few : length xs < n → ⊥
  unfolding index
  few c = clash (pigeonhole (length xs) index (λ j h. (index_stands xs j (among j xs) (all j (omega arith))).0))
    where
      stands : (k : ℕ) → k < n → get_or xs (index_of xs k (among k xs)) 0 ≡ k
      stands k h = (index_stands xs k (among k xs) (all k h)).1

      clash : HasTwice index (length xs) → ⊥
      clash t =
          let i : ℕ = t.0 in
          let j : ℕ = t.1 in
          let below : t.0 < t.1 = t.2 in
          let last : t.1 ≤ length xs = t.3 in
          let same : t.0 ≡ t.1 = sym (stands t.0 (omega arith)) ∙ ap (λ q. get_or xs q 0) t.4 ∙ stands t.1 (omega arith) in
          absurd (omega arith)

  pub count : length xs ≡ n
  count = ⊎_elim
      (λ (a : length xs < n). absurd (few a))
      (λ (b : n ≤ length xs). ⊎_elim
      (λ (c : n < length xs). absurd (many c))
      (λ (d : length xs ≤ n). omega arith)
      (cases_lt n (length xs)))
      (cases_lt (length xs) n)
