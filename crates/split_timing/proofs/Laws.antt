-- The powers of x modulo x^n - r, as a basis and its products, have the laws of an algebra.
use Rattle.std.proofs.Common.{◌-◌, ◌∷◌, ◌++◌, length-append, ◌≡◌, ◌⊎◌, inl, inr, sym, ap, ap₂, subst, ◌∙◌, ℕ, zero, suc, ◌+◌, ◌*◌, ◌/◌, ◌%◌, ◌<◌, ◌≤◌, List, [], length, get_or, arith}
use Rattle.std.proofs.lemmas.Bool.{cases_lt}
use Rattle.std.proofs.lemmas.List.Elements.{All-from_get_or, All-push}
use Rattle.std.proofs.lemmas.List.{get_or_append_left, get_or_push}
use native.Mathlib.Decide.{ℕ_discrete}
use Rattle.std.proofs.lemmas.Nat.{div-mul-add, mod-mul-add, mul-add-lt, mul-le}
use Rattle.std.proofs.Math.Nat.{div-add-mod}
use native.Mathlib.Nat.{mod-lt}
use Rattle.comm_ring.proofs.Modules.{Module}
use Rattle.comm_ring.proofs.Residues.{residues}
use Rattle.comm_ring.proofs.Rows.{row_module}
use Rattle.row_space.specs.Echelon.{IsRow}
use Rattle.row_space.specs.Subspace.{product}
use Rattle.finite_algebra.specs.Elements.{FiniteAlgebra, HasBasisLaws, times, unit_row}
use Rattle.finite_algebra.proofs.Totals.{IsLinear, linear_then, of_path}
use Rattle.finite_algebra.proofs.Units.{agree, along-unit}
use Rattle.finite_algebra.proofs.Images.{product-along, product_linear}
use Rattle.finite_algebra.proofs.Products.{left_linear, right_linear, same, times-units, times_fits}
use Rattle.split_timing.specs.Powers.{ArePowersOfX, AreProductsOfPowers, IsStep}

-- one more power
pub powers_more : (p n : ℕ) (matrix : List (List ℕ)) (k : ℕ) (powers : List (List ℕ)) (next : List ℕ) → 0 < n → n ≤ k → IsRow p n next → next ≡ product p n (get_or powers (k - 1) []) matrix → ArePowersOfX p n matrix k powers → ArePowersOfX p n matrix (k + 1) (powers ++ next ∷ [])
powers_more p n matrix k powers next some far fits is w = record {
  count = length-append powers (next ∷ []) ∙ ap (λ m. m + 1) w.count;
  rows = All-push (IsRow p n) powers next w.rows fits;
  first = λ j h l. old j (omega arith) ∙ w.first j h (omega arith);
  next = λ j h l. go j h l (ℕ_discrete (suc j) k);
}
  where
    old : (j : ℕ) → j < k → get_or (powers ++ next ∷ []) j [] ≡ get_or powers j []
    old j h = get_or_append_left powers (next ∷ []) [] j (omega (arith, w.count))

    go : (j : ℕ) → n ≤ suc j → suc j < k + 1 → Dec (suc j ≡ k) → get_or (powers ++ next ∷ []) (suc j) [] ≡ product p n (get_or (powers ++ next ∷ []) j []) matrix
    go j h l (yes e) = get_or_push powers next [] (suc j) (w.count ∙ sym e) ∙ is ∙ ap (λ v. product p n v matrix) (ap (λ i. get_or powers i []) (let b : k - 1 ≡ j = omega arith in b) ∙ sym (old j (omega arith)))
    go j h l (no d) = old (suc j) (omega arith) ∙ w.next j h (omega arith) ∙ ap (λ v. product p n v matrix) (sym (old j (omega arith)))

module _ (p : ℕ) (positive : 0 < p) (r : List ℕ) (some : 0 < length r) (matrix powers products : List (List ℕ))
    (s : IsStep p r matrix) (w : ArePowersOfX p (length r) matrix (length r + length r) powers) (q : AreProductsOfPowers (length r) powers (length r * length r) products) where
  abbrev n : ℕ
  n = length r

  abbrev pub A : FiniteAlgebra
  A = record { prime = p; dimension = n; one = unit_row n 0; products = products }

  abbrev M : Module (residues p positive)
  M = row_module p positive n

  open M use {◌≋◌}

  infix 40 ◌≋◌
  path : {x y : List ℕ} → x ≡ y → x ≋ y
  path e = of_path (residues p positive) M e

  abbrev e : ℕ → List ℕ
  e k = unit_row n k

  abbrev P : ℕ → List ℕ
  P k = get_or powers k []

  abbrev X : List ℕ → List ℕ
  X v = product p n v matrix

  -- times x, so many times
  abbrev stepped : ℕ → List ℕ → List ℕ
  stepped zero v = v
  stepped (suc k) v = X (stepped k v)

  step_linear : IsLinear M.ops M.ops X
  step_linear = product_linear p positive n n matrix s.count

  stepped_linear : (k : ℕ) → IsLinear M.ops M.ops (stepped k)
  stepped_linear zero = record { resp = λ x y h. h; add = λ x y. M.rfl _; scale = λ c x. M.rfl _ }
  stepped_linear (suc k) = linear_then (residues p positive) M M M (stepped k) X (stepped_linear k) step_linear

  stepped-add : (j k : ℕ) (v : List ℕ) → stepped (j + k) v ≡ stepped j (stepped k v)
  stepped-add zero k v = ap (λ m. stepped m v) (let h : zero + k ≡ k = omega arith in h)
  stepped-add (suc j) k v = ap (λ m. stepped m v) (let h : suc j + k ≡ suc (j + k) = omega arith in h) ∙ ap X (stepped-add j k v)

  row_of_unit : (k : ℕ) → k < n → X (e k) ≋ get_or matrix k []
  row_of_unit k h = M.trans (product-along p positive n n matrix s.count (e k)) (along-unit p positive n M (λ j. get_or matrix j []) k h)

  power_next : (k : ℕ) → suc k < n + n → P (suc k) ≋ X (P k)
  power_next k h = go (cases_lt (suc k) n)
    where
      go : (suc k < n) ⊎ (n ≤ suc k) → P (suc k) ≋ X (P k)
      go (inl l) = M.trans (path (w.first (suc k) l h ∙ sym (s.next k l))) (M.trans (M.symm (row_of_unit k (omega arith))) (path (ap X (sym (w.first k (omega arith) (omega arith))))))
      go (inr l) = path (w.next k l h)

  power_is : (k : ℕ) → k < n + n → P k ≋ stepped k (e 0)
  power_is zero h = path (w.first 0 some h)
  power_is (suc k) h = M.trans (power_next k h) (step_linear.resp _ _ (power_is k (omega arith)))

  unit_is : (k : ℕ) → k < n → e k ≋ stepped k (e 0)
  unit_is k h = M.trans (path (sym (w.first k h (omega arith)))) (power_is k (omega arith))

  -- the products of the basis elements
  table : (i j : ℕ) → i < n → j < n → get_or products (i * n + j) [] ≡ P (i + j)
  table i j h l =
      let room : i * n + j < n * n = mul-add-lt i n j n h l in
      q.each (i * n + j) room ∙ ap P (ap₂ (λ a b. a + b) (div-mul-add i n j l) (mod-mul-add i n j l))

  of_units : (i j : ℕ) → i < n → j < n → times A (e i) (e j) ≋ P (i + j)
  of_units i j h l = M.trans (times-units A positive i j h l) (path (table i j h l))

  by_left : (k : ℕ) → k < n → (v : List ℕ) → times A v (e k) ≋ stepped k v
  by_left k l v = agree p positive n M (λ u. times A u (e k)) (stepped k) (left_linear A positive (e k)) (stepped_linear k) (λ i h. M.trans (of_units i k h l) (M.trans (power_is (i + k) (omega arith)) (M.trans (path (ap (λ m. stepped m (e 0)) (let c : i + k ≡ k + i = omega arith in c) ∙ stepped-add k i (e 0))) ((stepped_linear k).resp _ _ (M.symm (unit_is i h)))))) v

  by_right : (k : ℕ) → k < n → (v : List ℕ) → times A (e k) v ≋ stepped k v
  by_right k l v = agree p positive n M (λ u. times A (e k) u) (stepped k) (right_linear A positive (e k)) (stepped_linear k) (λ i h. M.trans (of_units k i l h) (M.trans (power_is (k + i) (omega arith)) (M.trans (path (stepped-add k i (e 0))) ((stepped_linear k).resp _ _ (M.symm (unit_is i h)))))) v

  products_step : (i j : ℕ) → i < n → j < n → times A (e i) (e j) ≋ stepped (i + j) (e 0)
  products_step i j h l = M.trans (of_units i j h l) (power_is (i + j) (omega arith))

  associates : (i j k : ℕ) → i < n → j < n → k < n → times A (times A (e i) (e j)) (e k) ≋ times A (e i) (times A (e j) (e k))
  associates i j k h l m = M.trans (by_left k m (times A (e i) (e j))) (M.trans ((stepped_linear k).resp _ _ (products_step i j h l)) (M.trans (path (sym (stepped-add k (i + j) (e 0)) ∙ ap (λ t. stepped t (e 0)) (let c : k + (i + j) ≡ i + (j + k) = omega arith in c) ∙ stepped-add i (j + k) (e 0))) (M.trans ((stepped_linear i).resp _ _ (M.symm (products_step j k l m))) (M.symm (by_right i h (times A (e j) (e k)))))))

  power_fits : (k : ℕ) → k < n + n → IsRow p n (P k)
  power_fits k h = w.rows k [] (omega (arith, w.count))

  unit_row_fits : (k : ℕ) → k < n → IsRow p n (e k)
  unit_row_fits k h = subst (IsRow p n) (w.first k h (omega arith)) (power_fits k (omega arith))

  times_up : (a c : ℕ) → a ≤ c → a * a ≤ a * c
  times_up a c l = mul-le a a a c (omega arith) l

  quotient_below : (k : ℕ) → k < n * n → k / n + k % n < n + n
  quotient_below k h =
      let below : k % n < n = mod-lt k some in
      let whole : n * (k / n) + k % n ≡ k = div-add-mod k n in
      go below whole (cases_lt (k / n) n)
    where
      go : k % n < n → n * (k / n) + k % n ≡ k → (k / n < n) ⊎ (n ≤ k / n) → k / n + k % n < n + n
      go b e (inl l) = omega arith
      go b e (inr l) = absurd (let m : n * n ≤ n * (k / n) = times_up n (k / n) l in omega arith)

  pub basis_laws : HasBasisLaws A
  basis_laws = record {
    count = q.count;
    rows = All-from_get_or (IsRow p n) products [] (λ k l. let h : k < n * n = omega (arith, q.count) in subst (IsRow p n) (sym (q.each k h)) (power_fits _ (quotient_below k h)));
    unit = unit_row_fits 0 some;
    neutral = λ k l. same A positive _ _ (times_fits A positive (e 0) (e k)) (unit_row_fits k l) (by_right 0 some (e k));
    commutative = λ i j h l. same A positive _ _ (times_fits A positive (e i) (e j)) (times_fits A positive (e j) (e i))
        (M.trans (of_units i j h l) (M.trans (path (ap P (let c : i + j ≡ j + i = omega arith in c))) (M.symm (of_units j i l h))));
    associative = λ i j k h l m. same A positive _ _ (times_fits A positive _ _) (times_fits A positive _ _) (associates i j k h l m);
  }
