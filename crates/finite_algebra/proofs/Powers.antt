-- Powers by squares.
use Rattle.std.proofs.Common.{◌≡◌, ◌∙◌, ℕ, suc, ◌+◌, ◌/◌, ◌%◌, ◌<◌, List, Bool, true, false, IsTrue, nat_eq, refl, sym, ap, ap₂, subst, arith}
use Rattle.std.proofs.lemmas.Bool.{eqb-true, eqb-false}
use Rattle.comm_ring.specs.Ring.{CommRing, pow}
use Rattle.comm_ring.proofs.Derived as Derived
use Rattle.finite_algebra.specs.Elements.{FiniteAlgebra, IsElement, IsAlgebra, times, ring_of}
use Rattle.finite_algebra.proofs.Products.{ring_from, pow_fits, same, times_fits}

module _ (A : FiniteAlgebra) (positive : 0 < A.prime) (a : IsAlgebra A) where
  abbrev R : CommRing
  R = ring_from A positive a

  pub power-none : (x : List ℕ) (n : ℕ) → n ≡ 0 → A.one ≡ pow (ring_of A) x n
  unfolding pow
  power-none x n e = subst (λ k. A.one ≡ pow (ring_of A) x k) (sym e) refl

  pub power-one : (x : List ℕ) (n : ℕ) → IsElement A x → n ≡ 1 → x ≡ pow (ring_of A) x n
  power-one x n fits e = subst (λ k. x ≡ pow (ring_of A) x k) (sym e) (same A positive x (pow (ring_of A) x 1) fits (pow_fits A positive a x 1) (R.symm (Derived.pow-one R x)))

  -- the square of the power by h, and that times x
  power-even : (x row made : List ℕ) (h n : ℕ) → row ≡ pow (ring_of A) x h → made ≡ times A row row → h + h ≡ n → made ≡ pow (ring_of A) x n
  power-even x row made h n e f k = f ∙ same A positive (times A row row) (pow (ring_of A) x n) (times_fits A positive row row) (pow_fits A positive a x n)
      (R.trans (Derived.of_path R (ap₂ (times A) e e)) (R.trans (R.symm (Derived.pow-add R x h h)) (Derived.pow_same R x (h + h) n k)))

  power-odd : (x row square made : List ℕ) (h n : ℕ) → row ≡ pow (ring_of A) x h → square ≡ times A row row → made ≡ times A square x → suc (h + h) ≡ n → made ≡ pow (ring_of A) x n
  power-odd x row square made h n e f g k =
      let even = power-even x row square h (h + h) e f refl in
      g ∙ same A positive (times A square x) (pow (ring_of A) x n) (times_fits A positive square x) (pow_fits A positive a x n)
      (R.trans (Derived.of_path R (ap (λ s. times A s x) even)) (R.trans (R.mul_comm _ x) (R.trans (R.symm (Derived.pow-suc R x (h + h))) (Derived.pow_same R x (suc (h + h)) n k))))

  pub power_step : (x root square made : List ℕ) (n : ℕ) → root ≡ pow (ring_of A) x (n / 2) → square ≡ times A root root
      → (IsTrue (nat_eq (n % 2) 1) → made ≡ times A square x) → (nat_eq (n % 2) 1 ≡ false → made ≡ square) → made ≡ pow (ring_of A) x n
  power_step x root square made n e f g h = go (nat_eq (n % 2) 1) refl g h
    where
      go : (b : Bool) → nat_eq (n % 2) 1 ≡ b → (IsTrue b → made ≡ times A square x) → (b ≡ false → made ≡ square) → made ≡ pow (ring_of A) x n
      go true is g h = let odd : n % 2 ≡ 1 = eqb-true (n % 2) 1 is in power-odd x root square made (n / 2) n e f (g refl) (let k : suc (n / 2 + n / 2) ≡ n = omega arith in k)
      go false is g h = let even : ¬ (n % 2 ≡ 1) = eqb-false (n % 2) 1 is in h refl ∙ power-even x root square (n / 2) n e f (let k : n / 2 + n / 2 ≡ n = omega arith in k)
