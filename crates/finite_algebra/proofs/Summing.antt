-- What the loops over rows sum.
use Rattle.std.proofs.Common.{◌≡◌, ℕ, suc, ◌+◌, ◌-◌, ◌*◌, ◌%◌, ◌<◌, ◌≤◌, List, [], ◌∷◌, length, take, drop, get_or, replicate, refl, sym, ap, ◌∙◌, arith, length-take, length-drop, mod-lt}
use Rattle.std.proofs.lemmas.List.{get_or-take, get_or-drop, get_or-replicate}
use Rattle.std.proofs.lemmas.Grind.{same_number_lists}
use Rattle.std.proofs.Math.Nat.{mul-le-mul_left}
use Rattle.comm_ring.specs.Modules.{combine, combination}
use Rattle.comm_ring.specs.Rows.{rows}
use Rattle.comm_ring.proofs.Residues.{residues, mod_ring, mod_quote}
use Rattle.row_space.specs.Echelon.{IsRow}
use Rattle.row_space.specs.Sums.{weighted}
use Rattle.row_space.proofs.Members.{combination-entry}
use Rattle.comm_ring.proofs.Rows.{row-entry}
use Rattle.row_space.specs.Subspace.{product}
use Rattle.finite_algebra.specs.Elements.{FiniteAlgebra, elements, total}
use Rattle.finite_algebra.proofs.Totals.{of_path, total_ext, total-zero, total-suc, combination-total}
use Rattle.finite_algebra.proofs.Products.{row_fits, summed, module_of, basis_product}

-- a row of a range of rows
pub range-row : (us : List (List ℕ)) (from n k : ℕ) (d : List ℕ) → k < n → get_or (take (from + n - from) (drop from us)) k d ≡ get_or us (from + k) d
range-row us from n k d h = get_or-take (from + n - from) (drop from us) k d (omega arith) ∙ get_or-drop from us k d

pub range-length : (us : List (List ℕ)) (from n : ℕ) → from + n ≤ length us → length (take (from + n - from) (drop from us)) ≡ n
range-length us from n h = simp (length-take, length-drop) (omega arith)

pub range_room : (i n : ℕ) → i < n → i * n + n ≤ n * n
range_room i n h = let a : i + 1 ≤ n = omega arith in omega (arith, mul-le-mul_left n a)

-- combinations of rows are rows of residues
pub combination_fits : (p width : ℕ) → 0 < p → (cs : List ℕ) (us : List (List ℕ)) → IsRow p width (combination (rows p width) cs us)
unfolding combine
combination_fits p width positive [] us = row_fits p width (λ _. 0) (λ t h. positive)
combination_fits p width positive (c ∷ cs) [] = row_fits p width (λ _. 0) (λ t h. positive)
combination_fits p width positive (c ∷ cs) (u ∷ us) = row_fits p width _ (λ t h. mod-lt _ positive)

-- what is added to zeros is the combination
pub image_is : (p width : ℕ) → 0 < p → (cs : List ℕ) (us : List (List ℕ)) (out : List ℕ) → length out ≡ width
    → ((t : ℕ) → t < width → get_or out t 0 ≡ (get_or (replicate width 0) t 0 + 1 * weighted cs us t) % p) → out ≡ product p width cs us
image_is p width positive cs us out long e = same_number_lists out (product p width cs us) (long ∙ sym (combination_fits p width positive cs us).0)
    (λ t h. let inside : t < width = omega arith in
    e t inside ∙ ap (λ n. n % p) (ap (λ o. o + 1 * weighted cs us t) (get_or-replicate width t 0 0 inside) ∙ (let z : 0 + 1 * weighted cs us t ≡ weighted cs us t = omega arith in z)) ∙ sym (combination-entry p width cs us t inside))

-- nothing is summed yet
pub sum_start : (A : FiniteAlgebra) (positive : 0 < A.prime) (x y : List ℕ) → (elements A).◌≋◌ (replicate A.dimension 0) (summed A x y 0)
sum_start A positive x y t h = ap (λ m. m % A.prime) (get_or-replicate A.dimension t 0 0 h ∙ sym (row-entry A.dimension (λ _. 0) t h))
    ∙ (module_of A positive).symm (total-zero (residues A.prime positive) (module_of A positive) _) t h

-- remainders before and after
reduced_first : (p : ℕ) → 0 < p → (o a w : ℕ) → (o + a * w) % p ≡ (o + (a * (w % p)) % p) % p
reduced_first p positive o a w = mod_ring p positive (o ∷ a ∷ w ∷ []) (o + a * w) (o + (a * (w % p)) % p) (search mod_quote depth 20) tt

-- one more basis element on the left of the product
pub sum_step : (A : FiniteAlgebra) (positive : 0 < A.prime) (x y : List ℕ) (i : ℕ) (out new : List ℕ) (us : List (List ℕ)) → length us ≡ A.dimension
    → ((k : ℕ) → k < A.dimension → get_or us k [] ≡ basis_product A positive i k)
    → (elements A).◌≋◌ out (summed A x y i)
    → ((t : ℕ) → t < A.dimension → get_or new t 0 ≡ (get_or out t 0 + get_or x i 0 * weighted y us t) % A.prime)
    → (elements A).◌≋◌ new (summed A x y (i + 1))
sum_step A positive x y i out new us long same e h = (module_of A positive).trans added
    ((module_of A positive).trans ((module_of A positive).add_cong e ((module_of A positive).scale_cong {c = get_or x i 0} {c' = get_or x i 0} refl inner))
    ((module_of A positive).trans ((module_of A positive).symm (total-suc (residues A.prime positive) (module_of A positive) term i))
    (of_path (residues A.prime positive) (module_of A positive) (ap (λ k. summed A x y k) (let q : suc i ≡ i + 1 = omega arith in q)))))
  where
    term : ℕ → List ℕ
    term k = (elements A).◌·◌ (get_or x k 0) (total (elements A) (λ j. (elements A).◌·◌ (get_or y j 0) (get_or A.products (k * A.dimension + j) [])) A.dimension)

    inner : (elements A).◌≋◌ (combination (elements A) y us) (total (elements A) (λ j. (elements A).◌·◌ (get_or y j 0) (get_or A.products (i * A.dimension + j) [])) A.dimension)
    inner = (module_of A positive).trans (combination-total (residues A.prime positive) (module_of A positive) y us [])
        ((module_of A positive).trans (of_path (residues A.prime positive) (module_of A positive) (ap (λ l. total (elements A) (λ k. (elements A).◌·◌ (get_or y k 0) (get_or us k [])) l) long))
        (total_ext (residues A.prime positive) (module_of A positive) _ _ A.dimension (λ k l. (module_of A positive).scale_cong {c = get_or y k 0} {c' = get_or y k 0} refl (of_path (residues A.prime positive) (module_of A positive) (same k l)))))

    added : (elements A).◌≋◌ new ((elements A).◌⊞◌ out ((elements A).◌·◌ (get_or x i 0) (combination (elements A) y us)))
    added t l = ap (λ z. z % A.prime) (h t l ∙ reduced_first A.prime positive (get_or out t 0) (get_or x i 0) (weighted y us t)
        ∙ sym (row-entry A.dimension _ t l ∙ ap (λ z. (get_or out t 0 + z) % A.prime)
        (row-entry A.dimension _ t l ∙ ap (λ z. (get_or x i 0 * z) % A.prime) (combination-entry A.prime A.dimension y us t l))))
