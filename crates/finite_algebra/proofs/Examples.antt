-- A finite check of the laws at the basis, and the algebras of the tests.
use Rattle.std.proofs.Common.{◌≡◌, ℕ, zero, suc, ◌+◌, ◌*◌, ◌<◌, Bool, true, false, ◌&&◌, eqb, ltb, ◌≤◌, List, [], ◌∷◌, length, get_or, refl, ap, sym, ap₂, ◌∙◌, ◌%◌, arith, ⊎_elim, subst}
use Rattle.std.proofs.lemmas.Bool.{eqb-true, cases_lt, false≢true}
use borrow.Author.Tests.{ltb-true}
use Rattle.std.proofs.lemmas.List.Elements.{All-from_get_or}
use Rattle.comm_ring.specs.Sums.{joined, sum, below}
use Rattle.comm_ring.specs.Residues.{residue_ops}
use Rattle.comm_ring.proofs.Residues.{residues}
use Rattle.comm_ring.proofs.Sums.{sum_below_ext}
use Rattle.row_space.specs.Echelon.{IsRow}
use Rattle.finite_algebra.specs.Elements.{FiniteAlgebra, IsAlgebra, elements, total, times, unit_row}
use Rattle.finite_algebra.proofs.BasisLaws.{laws}
use Rattle.finite_algebra.proofs.Totals.{of_path}
use Rattle.finite_algebra.proofs.Units.{joined-entry}
use Rattle.finite_algebra.proofs.Products.{module_of, times_cong, times-units, times-right_unit, times-left_unit, times_fits, same}
use Rattle.finite_algebra.proofs.Classes.{unit_fits}
use Rattle.comm_ring.proofs.Rows.{row-entry}

both : (a b : Bool) → (a && b) ≡ true → (a ≡ true) × (b ≡ true)
both true true e = (refl, refl)
both true false e = absurd (false≢true e)
both false b e = absurd (false≢true e)

-- the test holds at each number below n
unfoldable pub holds_below : (ℕ → Bool) → ℕ → Bool
holds_below p zero = true
holds_below p (suc n) = holds_below p n && p n

below_holds : (p : ℕ → Bool) (n : ℕ) → holds_below p n ≡ true → (k : ℕ) → k < n → p k ≡ true
unfolding holds_below
below_holds p zero e k h = absurd (omega arith)
below_holds p (suc n) e k h = ⊎_elim
    (λ (a : k < n). below_holds p n (both (holds_below p n) (p n) e).0 k a)
    (λ (a : n ≤ k). let s : n ≡ k = omega arith in subst (λ j. p j ≡ true) s (both (holds_below p n) (p n) e).1)
    (cases_lt k n)

-- the rows are equal
unfoldable pub same_row : List ℕ → List ℕ → Bool
same_row [] [] = true
same_row [] (y ∷ ys) = false
same_row (x ∷ xs) [] = false
same_row (x ∷ xs) (y ∷ ys) = eqb x y && same_row xs ys

row_same : (xs ys : List ℕ) → same_row xs ys ≡ true → xs ≡ ys
unfolding same_row
row_same [] [] e = refl
row_same [] (y ∷ ys) e = absurd (false≢true e)
row_same (x ∷ xs) [] e = absurd (false≢true e)
row_same (x ∷ xs) (y ∷ ys) e = let s = both (eqb x y) (same_row xs ys) e in ap₂ ◌∷◌ (eqb-true x y s.0) (row_same xs ys s.1)

-- the row has n residues
unfoldable pub fits : ℕ → ℕ → List ℕ → Bool
fits p n x = eqb (length x) n && holds_below (λ t. ltb (get_or x t 0) p) n

row_fits : (p n : ℕ) (x : List ℕ) → fits p n x ≡ true → IsRow p n x
unfolding fits
row_fits p n x e =
    let s = both (eqb (length x) n) (holds_below (λ t. ltb (get_or x t 0) p) n) e in
    let long : length x ≡ n = eqb-true (length x) n s.0 in
    (long, All-from_get_or (λ c. c < p) x 0 (λ t h. ltb-true (get_or x t 0) p (below_holds (λ t. ltb (get_or x t 0) p) n s.1 t (omega arith))))

module _ (A : FiniteAlgebra) where
  abbrev pub n : ℕ
  n = A.dimension

  abbrev pub e : ℕ → List ℕ
  e k = unit_row A.dimension k

  abbrev pub P : ℕ → ℕ → List ℕ
  P i j = get_or A.products (i * A.dimension + j) []

  -- the entry t of the sum of the rows r l, each times the entry l of x
  abbrev pub at : List ℕ → (ℕ → List ℕ) → ℕ → ℕ
  at x r t = sum (residue_ops A.prime) (λ l. (get_or x l 0 * get_or (r l) t 0) % A.prime) (below A.dimension)

  unfoldable pub shape : Bool
  shape = eqb (length A.products) (n * n) && (holds_below (λ q. fits A.prime n (get_or A.products q [])) (n * n) && fits A.prime n A.one)

  unfoldable pub neutral : Bool
  neutral = holds_below (λ k. holds_below (λ t. eqb (at A.one (λ l. P l k) t) (get_or (e k) t 0)) n) n

  unfoldable pub commutative : Bool
  commutative = holds_below (λ i. holds_below (λ j. same_row (P i j) (P j i)) n) n

  unfoldable pub associative : Bool
  associative = holds_below (λ i. holds_below (λ j. holds_below (λ k. holds_below (λ t. eqb (at (P i j) (λ l. P l k) t) (at (P j k) (λ l. P i l) t)) n) n) n) n

  module _ (positive : 0 < A.prime) where
    -- the entry of such a sum
    sum-at : (x : List ℕ) (r : ℕ → List ℕ) (t : ℕ) → t < n → get_or (total (elements A) (λ l. (elements A).◌·◌ (get_or x l 0) (r l)) A.dimension) t 0 % A.prime ≡ at x r t % A.prime
    sum-at x r t h = ap (λ m. m % A.prime) (joined-entry A.prime A.dimension _ (below A.dimension) t h)
        ∙ sum_below_ext (residues A.prime positive) _ _ A.dimension (λ l m. ap (λ z. z % A.prime) (row-entry A.dimension _ t h))

    has_neutral : neutral ≡ true → (k : ℕ) → k < n → (elements A).◌≋◌ (times A A.one (e k)) (e k)
    unfolding neutral
    has_neutral u k h = (module_of A positive).trans (times-right_unit A positive A.one k h) (λ t l. sum-at A.one (λ l. P l k) t l
        ∙ ap (λ z. z % A.prime) (eqb-true _ _ (below_holds (λ t. eqb (at A.one (λ l. P l k) t) (get_or (e k) t 0)) n
        (below_holds (λ k. holds_below (λ t. eqb (at A.one (λ l. P l k) t) (get_or (e k) t 0)) n) n u k h) t l)))

    has_commutative : commutative ≡ true → (i j : ℕ) → i < n → j < n → (elements A).◌≋◌ (times A (e i) (e j)) (times A (e j) (e i))
    unfolding commutative
    has_commutative c i j h l = (module_of A positive).trans (times-units A positive i j h l) ((module_of A positive).trans
        (of_path (residues A.prime positive) (module_of A positive) (row_same _ _ (below_holds (λ j. same_row (P i j) (P j i)) n (below_holds (λ i. holds_below (λ j. same_row (P i j) (P j i)) n) n c i h) j l)))
        ((module_of A positive).symm (times-units A positive j i l h)))

    has_associative : associative ≡ true → (i j k : ℕ) → i < n → j < n → k < n → (elements A).◌≋◌ (times A (times A (e i) (e j)) (e k)) (times A (e i) (times A (e j) (e k)))
    unfolding associative
    has_associative a i j k h l m =
        (module_of A positive).trans (times_cong A positive _ (P i j) (e k) (e k) (times-units A positive i j h l) ((module_of A positive).rfl (e k)))
        ((module_of A positive).trans (times-right_unit A positive (P i j) k m)
        ((module_of A positive).trans (λ t b. sum-at (P i j) (λ q. P q k) t b ∙ ap (λ z. z % A.prime) (equal t b) ∙ sym (sum-at (P j k) (λ q. P i q) t b))
        ((module_of A positive).symm ((module_of A positive).trans (times_cong A positive (e i) (e i) _ (P j k) ((module_of A positive).rfl (e i)) (times-units A positive j k l m)) (times-left_unit A positive i (P j k) h)))))
      where
        equal : (t : ℕ) → t < n → at (P i j) (λ q. P q k) t ≡ at (P j k) (λ q. P i q) t
        equal t b = eqb-true _ _ (below_holds (λ t. eqb (at (P i j) (λ l. P l k) t) (at (P j k) (λ l. P i l) t)) n
            (below_holds (λ k. holds_below (λ t. eqb (at (P i j) (λ l. P l k) t) (at (P j k) (λ l. P i l) t)) n) n
            (below_holds (λ j. holds_below (λ k. holds_below (λ t. eqb (at (P i j) (λ l. P l k) t) (at (P j k) (λ l. P i l) t)) n) n) n
            (below_holds (λ i. holds_below (λ j. holds_below (λ k. holds_below (λ t. eqb (at (P i j) (λ l. P l k) t) (at (P j k) (λ l. P i l) t)) n) n) n) n a i h) j l) k m) t b)

    unit_is_row : 2 ≤ A.prime → (k : ℕ) → IsRow A.prime n (e k)
    unit_is_row two k = unit_fits A.prime n k two

    pub has_laws : 2 ≤ A.prime → shape ≡ true → neutral ≡ true → commutative ≡ true → associative ≡ true → IsAlgebra A
    unfolding shape
    has_laws two s u c a =
        let first = both (eqb (length A.products) (n * n)) _ s in
        let second = both (holds_below (λ q. fits A.prime n (get_or A.products q [])) (n * n)) (fits A.prime n A.one) first.1 in
        let count : length A.products ≡ A.dimension * A.dimension = eqb-true (length A.products) (n * n) first.0 in
        laws A positive (record {
          count = count;
          rows = All-from_get_or (IsRow A.prime n) A.products [] (λ q h. row_fits A.prime n (get_or A.products q []) (below_holds (λ q. fits A.prime n (get_or A.products q [])) (n * n) second.0 q (omega arith)));
          unit = row_fits A.prime n A.one second.1;
          neutral = λ k h. same A positive _ (e k) (times_fits A positive A.one (e k)) (unit_is_row two k) (has_neutral u k h);
          commutative = λ i j h l. same A positive _ _ (times_fits A positive (e i) (e j)) (times_fits A positive (e j) (e i)) (has_commutative c i j h l);
          associative = λ i j k h l m. same A positive _ _ (times_fits A positive _ (e k)) (times_fits A positive (e i) _) (has_associative a i j k h l m);
        })

-- F_2[x]/(x^2), F_3[x]/(x^2 + 1), F_7[x]/(x^3 - x) and the zero algebra
abbrev pub dual : FiniteAlgebra
dual = record { prime = 2; dimension = 2; one = 1 ∷ 0 ∷ []; products = (1 ∷ 0 ∷ []) ∷ (0 ∷ 1 ∷ []) ∷ (0 ∷ 1 ∷ []) ∷ (0 ∷ 0 ∷ []) ∷ [] }

pub dual_laws : IsAlgebra dual
unfolding shape neutral commutative associative holds_below same_row fits joined
dual_laws = has_laws dual (omega arith) (omega arith) refl refl refl refl

abbrev pub nine : FiniteAlgebra
nine = record { prime = 3; dimension = 2; one = 1 ∷ 0 ∷ []; products = (1 ∷ 0 ∷ []) ∷ (0 ∷ 1 ∷ []) ∷ (0 ∷ 1 ∷ []) ∷ (2 ∷ 0 ∷ []) ∷ [] }

pub nine_laws : IsAlgebra nine
unfolding shape neutral commutative associative holds_below same_row fits joined
nine_laws = has_laws nine (omega arith) (omega arith) refl refl refl refl

abbrev pub three : FiniteAlgebra
three = record {
  prime = 7;
  dimension = 3;
  one = 1 ∷ 0 ∷ 0 ∷ [];
  products = (1 ∷ 0 ∷ 0 ∷ []) ∷ (0 ∷ 1 ∷ 0 ∷ []) ∷ (0 ∷ 0 ∷ 1 ∷ []) ∷ (0 ∷ 1 ∷ 0 ∷ []) ∷ (0 ∷ 0 ∷ 1 ∷ []) ∷ (0 ∷ 1 ∷ 0 ∷ []) ∷ (0 ∷ 0 ∷ 1 ∷ []) ∷ (0 ∷ 1 ∷ 0 ∷ []) ∷ (0 ∷ 0 ∷ 1 ∷ []) ∷ [];
}

pub three_laws : IsAlgebra three
unfolding shape neutral commutative associative holds_below same_row fits joined
three_laws = has_laws three (omega arith) (omega arith) refl refl refl refl

abbrev pub zero_algebra : FiniteAlgebra
zero_algebra = record { prime = 5; dimension = 0; one = []; products = [] }

pub zero_laws : IsAlgebra zero_algebra
unfolding shape neutral commutative associative holds_below same_row fits joined
zero_laws = has_laws zero_algebra (omega arith) (omega arith) refl refl refl refl
