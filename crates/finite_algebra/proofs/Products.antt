-- The product of an algebra: bilinear, and by its laws on elements that of a ring.
use Rattle.std.proofs.Common.{◌≡◌, ℕ, zero, suc, ◌+◌, ◌*◌, ◌<◌, List, [], ◌∷◌, map, get_or, refl, subst, sym, arith, mod-lt}
use Rattle.std.proofs.lemmas.List.FromFn.{length-map-range_with_len}
use Rattle.std.proofs.lemmas.List.Elements.{All-from_get_or}
use Rattle.std.specs.List.{range_with_len}
use Rattle.comm_ring.specs.Ring.{IsCommRing, CommRing, pow}
use Rattle.comm_ring.specs.Sums.{joined, below}
use Rattle.comm_ring.specs.Rows.{rows}
use Rattle.comm_ring.proofs.Modules.{Module}
use Rattle.comm_ring.proofs.Residues.{residues}
use Rattle.comm_ring.proofs.Rows.{row_module, equal_rows, row-entry}
use Rattle.row_space.specs.Echelon.{IsRow}
use Rattle.finite_algebra.specs.Elements.{FiniteAlgebra, IsElement, IsAlgebra, IsBilinear, elements, total, times, ring_of, unit_row}
use Rattle.finite_algebra.proofs.Totals.{IsLinear, total_ext, total-add, total-scale}
use Rattle.finite_algebra.proofs.Units.{along, along_linear, along-unit}

-- a row of residues by its entries
pub row_fits : (p width : ℕ) (f : ℕ → ℕ) → ((t : ℕ) → t < width → f t < p) → IsRow p width (map f (range_with_len 0 width))
row_fits p width f h = (
  length-map-range_with_len f 0 width,
  All-from_get_or (λ x. x < p) (map f (range_with_len 0 width)) 0
      (λ t l. let inside : t < width = omega (arith, length-map-range_with_len f 0 width) in subst (λ x. x < p) (sym (row-entry width f t inside)) (h t inside)),
)

-- sums of rows are rows of residues
pub joined_fits : (p width : ℕ) → 0 < p → (f : ℕ → List ℕ) (xs : List ℕ) → let V = rows p width in IsRow p width (joined V.◌⊞◌ V.origin f xs)
unfolding joined
joined_fits p width positive f [] = row_fits p width (λ _. 0) (λ t h. positive)
joined_fits p width positive f (x ∷ xs) = row_fits p width _ (λ t h. mod-lt _ positive)

-- the first k summands of the product of x and y
abbrev pub summed : FiniteAlgebra → (x y : List ℕ) → ℕ → List ℕ
summed A x y k =
    let V = elements A in
    total V (λ i. V.◌·◌ (get_or x i 0) (total V (λ j. V.◌·◌ (get_or y j 0) (get_or A.products (i * A.dimension + j) [])) A.dimension)) k

module _ (A : FiniteAlgebra) (positive : 0 < A.prime) where
  -- the elements, as a module
  abbrev pub module_of : Module (residues A.prime positive)
  module_of = row_module A.prime positive A.dimension

  -- the product of the basis elements i and j
  abbrev pub basis_product : ℕ → ℕ → List ℕ
  basis_product i j = get_or A.products (i * A.dimension + j) []

  -- the product of the basis element i and y
  abbrev by_basis : List ℕ → ℕ → List ℕ
  by_basis y i = along A.prime positive A.dimension module_of (basis_product i) y

  by_basis_linear : (i : ℕ) → IsLinear (elements A) (elements A) (λ y. by_basis y i)
  by_basis_linear i = along_linear A.prime positive A.dimension module_of (basis_product i)

  swapped : (a c : ℕ) (x : List ℕ) → let V = elements A in V.◌≋◌ (V.◌·◌ a (V.◌·◌ c x)) (V.◌·◌ c (V.◌·◌ a x))
  swapped a c x = let M = module_of in M.trans (M.symm (M.product_scale a c x)) (M.trans (M.scale_cong ((residues A.prime positive).mul_comm a c) (M.rfl x)) (M.product_scale c a x))

  -- the product is linear in either factor
  pub left_linear : (y : List ℕ) → IsLinear (elements A) (elements A) (λ x. times A x y)
  unfolding times
  left_linear y = along_linear A.prime positive A.dimension module_of (by_basis y)

  pub right_linear : (x : List ℕ) → IsLinear (elements A) (elements A) (λ y. times A x y)
  unfolding times
  right_linear x = record {
    resp = λ y z e. total_ext (residues A.prime positive) module_of _ _ A.dimension (λ i h. module_of.scale_cong {c = get_or x i 0} {c' = get_or x i 0} refl ((by_basis_linear i).resp y z e));
    add = λ y z. module_of.trans
        (total_ext (residues A.prime positive) module_of _ _ A.dimension (λ i h. module_of.trans
        (module_of.scale_cong {c = get_or x i 0} {c' = get_or x i 0} refl ((by_basis_linear i).add y z))
        (module_of.scale_sum (get_or x i 0) (by_basis y i) (by_basis z i))))
        (total-add (residues A.prime positive) module_of (λ i. module_of.◌·◌ (get_or x i 0) (by_basis y i)) (λ i. module_of.◌·◌ (get_or x i 0) (by_basis z i)) A.dimension);
    scale = λ c y. module_of.trans
        (total_ext (residues A.prime positive) module_of _ _ A.dimension (λ i h. module_of.trans
        (module_of.scale_cong {c = get_or x i 0} {c' = get_or x i 0} refl ((by_basis_linear i).scale c y))
        (swapped (get_or x i 0) c (by_basis y i))))
        (total-scale (residues A.prime positive) module_of c (λ i. module_of.◌·◌ (get_or x i 0) (by_basis y i)) A.dimension);
  }

  pub bilinear : IsBilinear A
  bilinear = record {
    left_sum = λ x y z. (left_linear z).add x y;
    right_sum = λ x y z. (right_linear z).add x y;
    left_multiple = λ c x z. (left_linear z).scale c x;
    right_multiple = λ c x z. (right_linear z).scale c x;
  }

  pub times_cong : (x x' y y' : List ℕ) → let V = elements A in V.◌≋◌ x x' → V.◌≋◌ y y' → V.◌≋◌ (times A x y) (times A x' y')
  times_cong x x' y y' e f = module_of.trans ((left_linear y).resp x x' e) ((right_linear x').resp y y' f)

  -- the product of two unit rows
  pub times-units : (i j : ℕ) → i < A.dimension → j < A.dimension → (elements A).◌≋◌ (times A (unit_row A.dimension i) (unit_row A.dimension j)) (basis_product i j)
  unfolding times
  times-units i j h k = module_of.trans
      (along-unit A.prime positive A.dimension module_of (by_basis (unit_row A.dimension j)) i h)
      (along-unit A.prime positive A.dimension module_of (basis_product i) j k)

  -- the product with one basis element
  pub times-right_unit : (x : List ℕ) (k : ℕ) → k < A.dimension → (elements A).◌≋◌ (times A x (unit_row A.dimension k)) (total (elements A) (λ l. (elements A).◌·◌ (get_or x l 0) (basis_product l k)) A.dimension)
  unfolding times
  times-right_unit x k h = total_ext (residues A.prime positive) module_of _ _ A.dimension
      (λ l m. module_of.scale_cong {c = get_or x l 0} {c' = get_or x l 0} refl (along-unit A.prime positive A.dimension module_of (basis_product l) k h))

  pub times-left_unit : (i : ℕ) (y : List ℕ) → i < A.dimension → (elements A).◌≋◌ (times A (unit_row A.dimension i) y) (total (elements A) (λ l. (elements A).◌·◌ (get_or y l 0) (basis_product i l)) A.dimension)
  unfolding times
  times-left_unit i y h = along-unit A.prime positive A.dimension module_of (by_basis y) i h

  -- all summands together are the product
  pub summed-all : (x y : List ℕ) → summed A x y A.dimension ≡ times A x y
  unfolding times
  summed-all x y = refl

  -- a product is an element
  pub times_fits : (x y : List ℕ) → IsElement A (times A x y)
  unfolding times
  times_fits x y = joined_fits A.prime A.dimension positive _ (below A.dimension)

  -- elements that are equal modulo p are equal
  pub same : (x y : List ℕ) → IsElement A x → IsElement A y → (elements A).◌≋◌ x y → x ≡ y
  same x y h k e = equal_rows A.prime A.dimension x y h.0 k.0 h.1 k.1 e

  -- the element with the remainders of the entries
  abbrev pub reduced : List ℕ → List ℕ
  reduced x = (elements A).◌⊞◌ x (elements A).origin

  pub reduced_fits : (x : List ℕ) → IsElement A (reduced x)
  reduced_fits x = row_fits A.prime A.dimension _ (λ t h. mod-lt _ positive)

  reduced_is : (x : List ℕ) → (elements A).◌≋◌ x (reduced x)
  reduced_is x = module_of.symm (module_of.add_origin x)

  module _ (a : IsAlgebra A) where
    of_path : (x y : List ℕ) → x ≡ y → (elements A).◌≋◌ x y
    of_path x y e = subst ((elements A).◌≋◌ x) e (module_of.rfl x)

    commutes : (x y : List ℕ) → (elements A).◌≋◌ (times A x y) (times A y x)
    commutes x y = module_of.trans (times_cong x (reduced x) y (reduced y) (reduced_is x) (reduced_is y))
        (module_of.trans (of_path _ _ (a.commutative (reduced x) (reduced y) (reduced_fits x) (reduced_fits y)))
        (times_cong (reduced y) y (reduced x) x (module_of.symm (reduced_is y)) (module_of.symm (reduced_is x))))

    associates : (x y z : List ℕ) → (elements A).◌≋◌ (times A (times A x y) z) (times A x (times A y z))
    associates x y z = module_of.trans
        (times_cong _ _ z (reduced z) (times_cong x (reduced x) y (reduced y) (reduced_is x) (reduced_is y)) (reduced_is z))
        (module_of.trans (of_path _ _ (a.associative (reduced x) (reduced y) (reduced z) (reduced_fits x) (reduced_fits y) (reduced_fits z)))
        (times_cong (reduced x) x _ _ (module_of.symm (reduced_is x)) (times_cong (reduced y) y (reduced z) z (module_of.symm (reduced_is y)) (module_of.symm (reduced_is z)))))

    has_one : (x : List ℕ) → (elements A).◌≋◌ (times A x A.one) x
    has_one x = module_of.trans (commutes x A.one) (module_of.trans (times_cong A.one A.one x (reduced x) (module_of.rfl A.one) (reduced_is x))
        (module_of.trans (of_path _ _ (a.neutral (reduced x) (reduced_fits x))) (module_of.symm (reduced_is x))))

    -- the laws of a ring
    pub ring_laws : IsCommRing (ring_of A)
    ring_laws = record {
      rfl = λ x. module_of.rfl x;
      symm = λ {x} {y} e. module_of.symm e;
      trans = λ {x} {y} {z} e f. module_of.trans e f;
      add_cong = λ {x} {x'} {y} {y'} e f. module_of.add_cong e f;
      mul_cong = λ {x} {x'} {y} {y'} e f. times_cong x x' y y' e f;
      neg_cong = λ {x} {x'} e. module_of.opposite_cong e;
      add_assoc = module_of.add_assoc;
      add_comm = module_of.add_comm;
      add_zero = module_of.add_origin;
      add_neg = module_of.add_opposite;
      mul_assoc = associates;
      mul_comm = commutes;
      mul_one = has_one;
      distrib = λ x y z. (right_linear x).add y z;
    }

    -- the ring of the elements
    abbrev pub ring_from : CommRing
    ring_from = record { ops = ring_of A; laws = ring_laws }

    -- powers are elements
    pub pow_fits : (x : List ℕ) (k : ℕ) → IsElement A (pow (ring_of A) x k)
    unfolding pow
    pow_fits x zero = a.unit
    pow_fits x (suc k) = times_fits x (pow (ring_of A) x k)
