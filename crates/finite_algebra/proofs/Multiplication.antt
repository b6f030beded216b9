-- The matrix of the multiplication by an element.
use Rattle.std.proofs.Common.{◌≡◌, ◌<◌, ◌≤◌, ◌+◌, ◌-◌, ◌*◌, ◌∙◌, ℕ, List, [], length, get_or, take, drop, refl, ap, arith}
use Rattle.comm_ring.proofs.Modules.{Module}
use Rattle.comm_ring.proofs.Residues.{residues}
use Rattle.row_space.specs.Subspace.{product}
use Rattle.finite_algebra.specs.Elements.{FiniteAlgebra, AreProducts, elements, times, total, unit_row}
use Rattle.finite_algebra.proofs.Images.{product-along, product_linear}
use Rattle.finite_algebra.proofs.Products.{basis_product, left_linear, module_of, same, times_fits, times-left_unit}
use Rattle.finite_algebra.proofs.Summing.{combination_fits, range-length, range-row, range_room}
use Rattle.finite_algebra.proofs.Totals.{combination-total, of_path, total_ext}
use Rattle.finite_algebra.proofs.Units.{agree, along-unit}

module _ (A : FiniteAlgebra) (positive : 0 < A.prime) where
  abbrev M : Module (residues A.prime positive)
  M = module_of A positive

  -- the product of a basis element and y, by the products of the basis element with the others
  pub unit_product : (y : List ℕ) (i : ℕ) → i < A.dimension → (us : List (List ℕ)) → length us ≡ A.dimension
      → ((k : ℕ) → k < A.dimension → get_or us k [] ≡ basis_product A positive i k) → product A.prime A.dimension y us ≡ times A (unit_row A.dimension i) y
  unit_product y i inside us long rows = same A positive _ _ (combination_fits A.prime A.dimension positive y us) (times_fits A positive (unit_row A.dimension i) y)
      (M.trans (combination-total (residues A.prime positive) M y us [])
      (M.trans (of_path (residues A.prime positive) M (ap (λ l. total (elements A) (λ k. (elements A).◌·◌ (get_or y k 0) (get_or us k [])) l) long))
      (M.trans (total_ext (residues A.prime positive) M _ _ A.dimension (λ k l. M.scale_cong {c = get_or y k 0} {c' = get_or y k 0} refl (of_path (residues A.prime positive) M (rows k l))))
      (M.symm (times-left_unit A positive i y inside)))))

  -- and by its range of the rows of all products
  pub range_product : (y : List ℕ) (i : ℕ) → i < A.dimension → (us : List (List ℕ)) → us ≡ A.products → length A.products ≡ A.dimension * A.dimension
      → product A.prime A.dimension y (take (i * A.dimension + A.dimension - i * A.dimension) (drop (i * A.dimension) us)) ≡ times A (unit_row A.dimension i) y
  range_product y i inside us e count = unit_product y i inside _ (range-length us (i * A.dimension) A.dimension (let room : i * A.dimension + A.dimension ≤ length us = omega (arith, range_room i A.dimension inside, ap length e, count) in room))
      (λ k h. range-row us (i * A.dimension) A.dimension k [] h ∙ ap (λ vs. get_or vs (i * A.dimension + k) []) e)

  -- the product of v and x is v times the matrix
  pub product-times : (x : List ℕ) (matrix : List (List ℕ)) → AreProducts A x matrix → (v : List ℕ) → M.◌≋◌ (product A.prime A.dimension v matrix) (times A v x)
  product-times x matrix q v = agree A.prime positive A.dimension M (λ u. product A.prime A.dimension u matrix) (λ u. times A u x)
      (product_linear A.prime positive A.dimension A.dimension matrix q.count) (left_linear A positive x)
      (λ k h. M.trans (product-along A.prime positive A.dimension A.dimension matrix q.count (unit_row A.dimension k))
      (M.trans (along-unit A.prime positive A.dimension M (λ j. get_or matrix j []) k h) (of_path (residues A.prime positive) M (q.products k h)))) v
