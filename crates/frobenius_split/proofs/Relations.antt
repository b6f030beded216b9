-- A relation of the products of an idempotent and the powers of an element is a polynomial in it.
use Rattle.std.proofs.Common.{◌≡◌, ◌⊎◌, inl, inr, sym, ap, subst, ◌∙◌, ℕ, suc, ◌+◌, ◌<◌, List, [], ◌∷◌, ◌++◌, length, get_or, arith, length-append}
use native.Mathlib.Decide.{ℕ_discrete}
use Rattle.std.proofs.lemmas.List.{get_or_append_left, get_or_push}
use Rattle.prime_field.specs.Primes.{IsPrime}
use Rattle.comm_ring.specs.Ring.{CommRing, pow, number}
use Rattle.comm_ring.specs.Modules.{combine, combination}
use Rattle.comm_ring.proofs.Derived as Derived
use Rattle.comm_ring.proofs.Quote.{ring, ring_by, fact, quote}
use Rattle.row_space.specs.Subspace.{IsZero, product}
use Rattle.finite_algebra.specs.Elements.{FiniteAlgebra, IsAlgebra, elements, ring_of}
use Rattle.frobenius_split.specs.Parts.{polynomial}
use Rattle.frobenius_map.proofs.Ground as Ground

-- an image does not depend on how its parts are written
pub image_of : (p p' n n' : ℕ) (v v' : List ℕ) (matrix : List (List ℕ)) (w : List ℕ) → w ≡ product p n v matrix → p ≡ p' → n ≡ n' → v ≡ v' → w ≡ product p' n' v' matrix
image_of p p' n n' v v' matrix w e a b d = e ∙ ap (λ q. product q n v matrix) a ∙ ap (λ k. product p' k v matrix) b ∙ ap (λ x. product p' n' x matrix) d

pub zero_of : (p p' n n' : ℕ) (v : List ℕ) (matrix matrix' : List (List ℕ)) → IsZero p n (product p n v matrix) → p ≡ p' → n ≡ n' → matrix ≡ matrix' → IsZero p' n' (product p' n' v matrix')
zero_of p p' n n' v matrix matrix' z a b d = subst (λ m. IsZero p' n' (product p' n' v m)) d (subst (λ k. IsZero p' k (product p' k v matrix)) b (subst (λ q. IsZero q n (product q n v matrix)) a z))

module _ (A : FiniteAlgebra) (prime : IsPrime A.prime) (a : IsAlgebra A) (u e : List ℕ) where
  abbrev R : CommRing
  R = Ground.R A prime a

  open R use {◌≈◌, ◌⊕◌, ◌⊗◌, neg, 𝟘, 𝟙}

  infix 40 ◌≈◌
  infixl 60 ◌⊕◌
  infixl 70 ◌⊗◌
  abbrev power : ℕ → List ℕ
  power i = pow (ring_of A) u i

  -- the rows are the products of e and the powers from the exponent s on
  abbrev pub ArePowersFrom : ℕ → List (List ℕ) → Type 0
  ArePowersFrom s rows = (i : ℕ) → i < length rows → get_or rows i [] ≈ power (s + i) ⊗ e

  nothing_ring : (s : List ℕ) → 𝟘 ≈ (s ⊗ 𝟘) ⊗ e
  nothing_ring s = ring R (s ∷ e ∷ []) (search quote depth 20) tt

  step_ring : (s f b r g : List ℕ) → r ≈ s ⊗ e → g ≈ ((u ⊗ s) ⊗ f) ⊗ e → b ⊗ r ⊕ g ≈ (s ⊗ (b ⊕ u ⊗ f)) ⊗ e
  step_ring s f b r g h k = ring_by R (s ∷ f ∷ u ∷ b ∷ r ∷ g ∷ e ∷ []) (fact b _ _ h ∷ fact 𝟙 _ _ k ∷ []) (search quote depth 20) tt

  -- combined, they are u^s times the polynomial, times e
  relation : (s : ℕ) (cs : List ℕ) (rs : List (List ℕ)) → length cs ≡ length rs → ArePowersFrom s rs → combination (elements A) cs rs ≈ (power s ⊗ polynomial A cs u) ⊗ e
  unfolding combine
  relation s [] rs l h = nothing_ring (power s)
  relation s (c ∷ cs) [] l h = absurd (omega arith)
  relation s (c ∷ cs) (r ∷ rs) l h =
      let first : r ≈ power s ⊗ e = subst (λ i. r ≈ power i ⊗ e) (let k : s + 0 ≡ s = omega arith in k) (h 0 (omega arith)) in
      let rest = relation (suc s) cs rs (omega arith) (λ i m. subst (λ n. get_or rs i [] ≈ power n ⊗ e) (let k : s + suc i ≡ suc s + i = omega arith in k) (h (suc i) (omega arith))) in
      R.trans (R.add_cong (Ground.scaled-is A prime a c r) (R.trans rest (R.mul_cong (R.mul_cong (Derived.pow-suc R u s) (R.rfl (polynomial A cs u))) (R.rfl e))))
      (R.trans (step_ring (power s) (polynomial A cs u) (number (ring_of A) c) r (((u ⊗ power s) ⊗ polynomial A cs u) ⊗ e) first (R.rfl _))
      (R.mul_cong (R.mul_cong (R.rfl (power s)) (R.add_cong (Ground.number-is A prime a c) (R.rfl (u ⊗ polynomial A cs u)))) (R.rfl e)))

  -- a combination that is 0 gives a polynomial whose product with e is 0, and so does the empty one
  pub vanishing_law : (rows : List (List ℕ)) → ((i : ℕ) → i < length rows → get_or rows i [] ≈ power i ⊗ e) → (cs : List ℕ) → (cs ≡ []) ⊎ (length cs ≡ length rows × IsZero A.prime A.dimension (product A.prime A.dimension cs rows)) → polynomial A cs u ⊗ e ≈ 𝟘
  unfolding pow
  vanishing_law rows h cs (inl none) = subst (λ l. polynomial A l u ⊗ e ≈ 𝟘) (sym none) (Derived.zero_mul R e)
  vanishing_law rows h cs (inr w) = R.trans (R.mul_cong (R.symm (Derived.one_mul R (polynomial A cs u))) (R.rfl e)) (R.trans (R.symm (relation 0 cs rows w.0 (λ i l. subst (λ n. get_or rows i [] ≈ power n ⊗ e) (let k : i ≡ 0 + i = omega arith in k) (h i l)))) w.1)

  pub first_power : (row : List ℕ) → row ≡ e → row ≈ power 0 ⊗ e
  unfolding pow
  first_power row h = R.trans (Derived.of_path R h) (R.symm (Derived.one_mul R e))

  -- one more row, and the next power
  pub powers_pushed : (rows new : List (List ℕ)) (x : List ℕ) → new ≡ rows ++ x ∷ [] → x ≈ power (length rows) ⊗ e → ((i : ℕ) → i < length rows → get_or rows i [] ≈ power i ⊗ e) → (i : ℕ) → i < length new → get_or new i [] ≈ power i ⊗ e
  powers_pushed rows new x pushed last all i l = subst (λ r. get_or r i [] ≈ power i ⊗ e) (sym pushed) (each (ℕ_discrete i (length rows)))
    where
      long : i < suc (length rows)
      long = omega (arith, ap length pushed, length-append rows (x ∷ []))

      each : Dec (i ≡ length rows) → get_or (rows ++ x ∷ []) i [] ≈ power i ⊗ e
      each (yes q) = subst (λ r. r ≈ power i ⊗ e) (sym (get_or_push rows x [] i (sym q))) (subst (λ n. x ≈ power n ⊗ e) (sym q) last)
      each (no n) =
          let inside : i < length rows = omega (arith, long) in
          subst (λ r. r ≈ power i ⊗ e) (sym (get_or_append_left rows (x ∷ []) [] i inside)) (all i inside)

  pub next_power : (rows new : List (List ℕ)) (x next : List ℕ) → new ≡ rows ++ x ∷ [] → next ≈ u ⊗ x → x ≈ power (length rows) ⊗ e → next ≈ power (length new) ⊗ e
  next_power rows new x next pushed made last =
      let long : suc (length rows) ≡ length new = omega (arith, ap length pushed, length-append rows (x ∷ [])) in
      subst (λ n. next ≈ power n ⊗ e) long (R.trans made (R.trans (R.mul_cong (R.rfl u) last) (R.trans (R.symm (R.mul_assoc u (power (length rows)) e)) (R.mul_cong (R.symm (Derived.pow-suc R u (length rows))) (R.rfl e)))))
