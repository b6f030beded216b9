-- The projection along a space: its kernel is the space, and the unit rows at the free places go to unit rows.
use Rattle.std.proofs.Common.{◌≡◌, ◌≢◌, ℕ, ◌+◌, ◌*◌, ◌%◌, ◌<◌, ◌≤◌, ◌-◌, List, [], ◌++◌, length, length-append, map, get_or, refl, subst, sym, ap, ◌∙◌, arith, ⊎_elim}
use Rattle.std.proofs.lemmas.Bool.{cases_eq, cases_lt}
use Rattle.std.proofs.lemmas.List.{length-map, get_or-map, get_or_append_left, get_or-append_right}
use Rattle.comm_ring.specs.Sums.{below}
use Rattle.comm_ring.specs.Modules.{InSpan}
use Rattle.comm_ring.specs.Rows.{rows}
use Rattle.comm_ring.proofs.Modules.{Module}
use Rattle.comm_ring.proofs.Quotients as Quotients
use Rattle.comm_ring.proofs.Residues.{residues}
use Rattle.comm_ring.proofs.Rows.{row_module, row-entry}
use Rattle.comm_ring.proofs.Sums.{sum_below_ext}
use Rattle.row_space.specs.Echelon.{IsEchelon, entries_at}
use Rattle.row_space.specs.Subspace.{product}
use Rattle.finite_algebra.specs.Elements.{unit_row}
use Rattle.finite_algebra.specs.Projections.{IsClass, AreFree}
use Rattle.finite_algebra.proofs.Totals.{IsLinear, linear_same, of_path, combination-total}
use Rattle.finite_algebra.proofs.Units.{joined-entry, unit-own, unit-other, along, along_linear, along-unit}
use Rattle.finite_algebra.proofs.Counting.{count}
use Rattle.finite_algebra.proofs.Classes.{space, N, members, Q, pivot_or_own, zero_there, zero_member, normal, normal_class, normal_zero}

-- v times the matrix is linear in v
pub product-along : (p : ℕ) (positive : 0 < p) (n m : ℕ) (matrix : List (List ℕ)) → length matrix ≡ n → (v : List ℕ)
    → (rows p m).◌≋◌ (product p m v matrix) (along p positive n (row_module p positive m) (λ k. get_or matrix k []) v)
product-along p positive n m matrix long v = (row_module p positive m).trans
    (combination-total (residues p positive) (row_module p positive m) v matrix [])
    (of_path (residues p positive) (row_module p positive m) (ap (λ l. along p positive l (row_module p positive m) (λ k. get_or matrix k []) v) long))

pub product_linear : (p : ℕ) (positive : 0 < p) (n m : ℕ) (matrix : List (List ℕ)) → length matrix ≡ n → IsLinear (rows p n) (rows p m) (λ v. product p m v matrix)
product_linear p positive n m matrix long = linear_same (residues p positive) (row_module p positive n) (row_module p positive m) _ _
    (product-along p positive n m matrix long) (along_linear p positive n (row_module p positive m) (λ k. get_or matrix k []))

-- a matrix of m columns whose kernel is the space, with a place for each unit row of length m
pub record Splits (p n m : ℕ) (us matrix : List (List ℕ)) (place : ℕ → ℕ) : Type 0 where
  pub count : length matrix ≡ n
  pub into : (v : List ℕ) → InSpan (rows p n) us v → (rows p m).◌≋◌ (product p m v matrix) (rows p m).origin
  pub from : (v : List ℕ) → (rows p m).◌≋◌ (product p m v matrix) (rows p m).origin → InSpan (rows p n) us v
  pub lifts : (a : ℕ) → a < m → (rows p m).◌≋◌ (product p m (unit_row n (place a)) matrix) (unit_row m a)
  pub within : (a : ℕ) → a < m → place a < n

module _ (p : ℕ) (positive : 0 < p) (n : ℕ) (us : List (List ℕ)) (two : 2 ≤ p) (pivots : List ℕ) (e : IsEchelon p n us pivots)
    (classes : List (List ℕ)) (long : length classes ≡ n) (known : (k : ℕ) → k < n → IsClass (space p n us) k (get_or classes k []))
    (places : List ℕ) (free : AreFree classes n places) where
  abbrev V : Module (residues p positive)
  V = row_module p positive n

  abbrev m : ℕ
  m = length places

  abbrev W : Module (residues p positive)
  W = row_module p positive m

  abbrev r : ℕ → List ℕ
  r k = get_or classes k []

  abbrev place : ℕ → ℕ
  place a = get_or places a 0

  abbrev matrix : List (List ℕ)
  matrix = map (entries_at places) classes

  abbrev image : List ℕ → List ℕ
  image v = product p m v matrix

  matrix_long : length matrix ≡ n
  matrix_long = length-map classes (entries_at places) ∙ long

  row-is : (k : ℕ) → k < n → get_or matrix k [] ≡ entries_at places (r k)
  row-is k h = get_or-map (entries_at places) classes k [] [] (omega (arith, long))

  matrix-entry : (k a : ℕ) → k < n → a < m → get_or (get_or matrix k []) a 0 ≡ get_or (r k) (place a) 0
  matrix-entry k a h l = ap (λ row. get_or row a 0) (row-is k h) ∙ get_or-map (λ q. get_or (r k) q 0) places a 0 0 l

  -- the image has the entries of the normal row at the places
  image-entry : (v : List ℕ) (a : ℕ) → a < m → get_or (image v) a 0 % p ≡ get_or (normal p positive n us r known v) (place a) 0 % p
  image-entry v a l =
      product-along p positive n m matrix matrix_long v a l
      ∙ ap (λ x. x % p) (joined-entry p m _ (below n) a l)
      ∙ sum_below_ext (residues p positive) _ _ n (λ k h. ap (λ x. x % p)
      (row-entry m _ a l ∙ ap (λ x. (get_or v k 0 * x) % p) (matrix-entry k a h l) ∙ sym (row-entry n _ (place a) (free.within a l))))
      ∙ sym (ap (λ x. x % p) (joined-entry p n _ (below n) (place a) (free.within a l)))

  -- at a free place the class of the unit row is the unit row
  own : (a : ℕ) → a < m → r (place a) ≡ unit_row n (place a)
  own a l = ⊎_elim
      (λ z. absurd (free.nonzero a l (zero_there p positive n us two pivots e (r (place a)) (known (place a) (free.within a l)).zero z.0 (place a) z.1 z.2)))
      (λ s. s)
      (pivot_or_own p positive n us two pivots e (r (place a)) (place a) (free.within a l) (known (place a) (free.within a l)))

  into : (v : List ℕ) → InSpan (rows p n) us v → (rows p m).◌≋◌ (image v) (rows p m).origin
  into v h a l = image-entry v a l ∙ none (place a) (free.within a l) ∙ ap (λ x. x % p) (row-entry n (λ _. 0) (place a) (free.within a l) ∙ sym (row-entry m (λ _. 0) a l))
    where
      none : (rows p n).◌≋◌ (normal p positive n us r known v) (rows p n).origin
      none = zero_member p positive n us r known (normal p positive n us r known v)
          (Quotients.modulo_origin (residues p positive) V (N p positive n us) (members p positive n us) _
          ((Q p positive n us).trans ((Q p positive n us).symm (normal_class p positive n us r known v)) (Quotients.origin_modulo (residues p positive) V (N p positive n us) (members p positive n us) v h)))
          (normal_zero p positive n us r known v)

  from : (v : List ℕ) → (rows p m).◌≋◌ (image v) (rows p m).origin → InSpan (rows p n) us v
  from v h = Quotients.modulo_origin (residues p positive) V (N p positive n us) (members p positive n us) v
      ((Q p positive n us).trans (normal_class p positive n us r known v) (Quotients.equal_modulo (residues p positive) V (N p positive n us) (members p positive n us) _ _ none))
    where
      none : (rows p n).◌≋◌ (normal p positive n us r known v) (rows p n).origin
      none t l = ⊎_elim
          (λ z. ap (λ x. x % p) (zero_there p positive n us two pivots e (normal p positive n us r known v) (normal_zero p positive n us r known v) z.0 t z.1 z.2 ∙ sym (row-entry n (λ _. 0) t l)))
          (λ s. at_free (free.all t l (λ z. absurd (let one : get_or (r t) t 0 ≡ 1 = ap (λ row. get_or row t 0) s ∙ unit-own n t l in omega arith))))
          (pivot_or_own p positive n us two pivots e (r t) t l (known t l))
        where
          at_free : (a : ℕ) × (a < m) × place a ≡ t → get_or (normal p positive n us r known v) t 0 % p ≡ get_or (rows p n).origin t 0 % p
          at_free f = ap (λ q. get_or (normal p positive n us r known v) q 0 % p) (sym f.2) ∙ sym (image-entry v f.0 f.1) ∙ h f.0 f.1
              ∙ ap (λ x. x % p) (row-entry m (λ _. 0) f.0 f.1 ∙ sym (row-entry n (λ _. 0) t l))

  lifts : (a : ℕ) → a < m → (rows p m).◌≋◌ (image (unit_row n (place a))) (unit_row m a)
  lifts a l = W.trans (product-along p positive n m matrix matrix_long (unit_row n (place a)))
      (W.trans (along-unit p positive n W (λ k. get_or matrix k []) (place a) (free.within a l)) (λ b h. ap (λ x. x % p) (at b h)))
    where
      at : (b : ℕ) → b < m → get_or (get_or matrix (place a) []) b 0 ≡ get_or (unit_row m a) b 0
      at b h = matrix-entry (place a) b (free.within a l) h ∙ ap (λ row. get_or row (place b) 0) (own a l) ∙ ⊎_elim
          (λ (s : b ≡ a). ap (λ c. get_or (unit_row n (place a)) (place c) 0) s ∙ unit-own n (place a) (free.within a l) ∙ sym (ap (λ c. get_or (unit_row m a) c 0) s ∙ unit-own m a l))
          (λ (d : b ≢ a). unit-other n (place a) (place b) (free.within b h) (λ s. d (free.once b a h l s)) ∙ sym (unit-other m a b h d))
          (cases_eq b a)

  -- the free places and the pivots are all places, each once
  pub dimensions : m + length us ≡ n
  dimensions = omega (arith, count (places ++ pivots) n within once all, length-append places pivots, e.count)
    where
      front : (i : ℕ) → i < m → get_or (places ++ pivots) i 0 ≡ place i
      front i h = get_or_append_left places pivots 0 i h

      rest : (i : ℕ) → m ≤ i → get_or (places ++ pivots) i 0 ≡ get_or pivots (i - m) 0
      rest i h = get_or-append_right places pivots m i 0 refl h

      inside : (i : ℕ) → m ≤ i → i < length (places ++ pivots) → i - m < length us
      inside i h l = omega (arith, length-append places pivots, e.count)

      within : (i : ℕ) → i < length (places ++ pivots) → get_or (places ++ pivots) i 0 < n
      within i l = ⊎_elim
          (λ (h : i < m). subst (λ k. k < n) (sym (front i h)) (free.within i h))
          (λ (h : m ≤ i). subst (λ k. k < n) (sym (rest i h)) (e.within (i - m) (inside i h l)))
          (cases_lt i m)

      apart : (a j : ℕ) → a < m → j < length us → place a ≢ get_or pivots j 0
      apart a j h l s = let none = zero_there p positive n us two pivots e (r (place a)) (known (place a) (free.within a h)).zero j (place a) l (sym s) in free.nonzero a h none

      once : (i j : ℕ) → i < j → j < length (places ++ pivots) → get_or (places ++ pivots) i 0 ≢ get_or (places ++ pivots) j 0
      once i j h l s = ⊎_elim
          (λ (b : j < m). let same = free.once i j (omega arith) b (sym (front i (omega arith)) ∙ s ∙ front j b) in absurd (omega arith))
          (λ (b : m ≤ j). ⊎_elim
          (λ (c : i < m). apart i (j - m) c (inside j b l) (sym (front i c) ∙ s ∙ rest j b))
          (λ (c : m ≤ i).
          let same : get_or pivots (i - m) 0 ≡ get_or pivots (j - m) 0 = sym (rest i c) ∙ s ∙ rest j b in
          let one = e.own (i - m) (inside i c (omega arith)) in
          let none = e.others (i - m) (j - m) (inside i c (omega arith)) (inside j b l) (λ q. absurd (omega arith)) in
          absurd (let both = sym one ∙ ap (λ q. get_or (get_or us (i - m) []) q 0) same ∙ none in omega arith))
          (cases_lt i m))
          (cases_lt j m)

      all : (k : ℕ) → k < n → (i : ℕ) × (i < length (places ++ pivots)) × get_or (places ++ pivots) i 0 ≡ k
      all k h = ⊎_elim
          (λ z. (m + z.0, omega (arith, length-append places pivots, e.count, z.1), rest (m + z.0) (omega arith) ∙ ap (λ i. get_or pivots i 0) (omega arith) ∙ z.2))
          (λ s. let f = free.all k h (λ z. absurd (let one : get_or (r k) k 0 ≡ 1 = ap (λ row. get_or row k 0) s ∙ unit-own n k h in omega arith)) in
          (f.0, omega (arith, length-append places pivots, f.1), front f.0 f.1 ∙ f.2))
          (pivot_or_own p positive n us two pivots e (r k) k h (known k h))

  pub splits : Splits p n m us matrix place
  splits = record { count = matrix_long; into = into; from = from; lifts = lifts; within = free.within }
