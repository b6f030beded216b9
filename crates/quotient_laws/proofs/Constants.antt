-- Structure constants: rows that stand for members of a ring, with the products of the basis members as rows.
use Rattle.std.proofs.Common.{◌≡◌, ℕ, ◌+◌, ◌*◌, ◌%◌, ◌<◌, List, [], length, All, get_or, sym, ap, ◌∙◌, subst, arith, mod-lt}
use Rattle.comm_ring.specs.Ring.{CommRing, IsRingMap}
use Rattle.comm_ring.specs.Residues.{residue_ops}
use Rattle.comm_ring.specs.Modules.{combination, module_through}
use Rattle.comm_ring.specs.Rows.{rows}
use Rattle.comm_ring.proofs.Derived as Derived
use Rattle.comm_ring.proofs.Modules as Modules
use Rattle.comm_ring.proofs.Modules.{Module, through}
use Rattle.comm_ring.proofs.Residues.{residues}
use Rattle.comm_ring.proofs.Rows.{row_module, row-entry, equal_rows}
use Rattle.finite_algebra.specs.Elements.{FiniteAlgebra, IsAlgebra, IsElement, times, unit_row}
use Rattle.finite_algebra.proofs.Totals.{IsLinear, combination-total, linear_then, linear-sub}
use Rattle.finite_algebra.proofs.Units.{along, along_linear, along-unit, agree}
use Rattle.finite_algebra.proofs.Products.{row_fits, left_linear, right_linear, times_fits, times-units}

-- coordinates over a list are the coefficients of a combination
pub along_list : (C : CommRing) (p : ℕ) (positive : 0 < p) (member : ℕ → C.carrier) (scalar : IsRingMap (residue_ops p) C.ops member) (n : ℕ) (xs : List C.carrier) → length xs ≡ n → (x : List ℕ)
    → C.◌≈◌ (along p positive n (through (residues p positive) C member scalar) (λ i. get_or xs i C.𝟘) x) (combination (module_through C.ops member) x xs)
along_list C p positive member scalar n xs l x =
    let M = through (residues p positive) C member scalar in
    subst (λ n. C.◌≈◌ (along p positive n M (λ i. get_or xs i C.𝟘) x) (combination M.ops x xs)) l
    (C.symm (combination-total (residues p positive) M x xs C.𝟘))

module _ (C : CommRing) (a : FiniteAlgebra) (positive : 0 < a.prime) (member : ℕ → C.carrier) (scalar : IsRingMap (residue_ops a.prime) C.ops member)
    (u : ℕ → C.carrier) where
  open C use {carrier, ◌≈◌, ◌⊕◌, ◌⊗◌, neg, 𝟘, 𝟙, rfl, symm, trans, mul_cong, mul_comm, mul_assoc, distrib}

  infix 40 ◌≈◌
  infixl 60 ◌⊕◌
  infixl 70 ◌⊗◌
  abbrev p : ℕ
  p = a.prime

  abbrev n : ℕ
  n = a.dimension

  -- the ring as a module over the residues
  abbrev M : Module (residues p positive)
  M = through (residues p positive) C member scalar

  -- the member with these coordinates
  abbrev pub worth : List ℕ → carrier
  worth x = along p positive n M u x

  pub worth_linear : IsLinear (rows p n) M.ops worth
  worth_linear = along_linear p positive n M u

  -- products with one member are linear
  by_member : (z : carrier) → IsLinear M.ops M.ops (λ x. z ⊗ x)
  by_member z = record {
    resp = λ x y e. mul_cong (rfl z) e;
    add = λ x y. distrib z x y;
    scale = λ c x. Derived.mul_left_comm C z (member c) x;
  }

  module _ (products : (i j : ℕ) → i < n → j < n → worth (get_or a.products (i * n + j) []) ≈ u i ⊗ u j) where
    -- the product of coordinates is that of the members
    at_units : (i : ℕ) → i < n → (y : List ℕ) → worth (times a (unit_row n i) y) ≈ u i ⊗ worth y
    at_units i h y = agree p positive n M (λ y. worth (times a (unit_row n i) y)) (λ y. u i ⊗ worth y)
        (linear_then (residues p positive) (row_module p positive n) (row_module p positive n) M (λ y. times a (unit_row n i) y) worth (right_linear a positive (unit_row n i)) worth_linear)
        (linear_then (residues p positive) (row_module p positive n) M M worth (λ x. u i ⊗ x) worth_linear (by_member (u i)))
        (λ j l. trans (worth_linear.resp _ _ (times-units a positive i j h l)) (trans (products i j h l) (mul_cong (rfl (u i)) (symm (along-unit p positive n M u j l))))) y

    pub product : (x y : List ℕ) → worth (times a x y) ≈ worth x ⊗ worth y
    product x y = trans (agree p positive n M (λ x. worth (times a x y)) (λ x. worth y ⊗ worth x)
        (linear_then (residues p positive) (row_module p positive n) (row_module p positive n) M (λ x. times a x y) worth (left_linear a positive y) worth_linear)
        (linear_then (residues p positive) (row_module p positive n) M M worth (λ x. worth y ⊗ x) worth_linear (by_member (worth y)))
        (λ i l. trans (at_units i l y) (trans (mul_cong (symm (along-unit p positive n M u i l)) (rfl (worth y))) (mul_comm (worth (unit_row n i)) (worth y)))) x)
        (mul_comm (worth y) (worth x))

    module _ (zero : (x : List ℕ) → IsElement a x → worth x ≈ 𝟘 → All (λ c. c ≡ 0) x) where
      -- coordinates are unique
      pub unique : (x y : List ℕ) → IsElement a x → IsElement a y → worth x ≈ worth y → x ≡ y
      unique x y hx hy e = equal_rows p n x y hx.0 hy.0 hx.1 hy.1 same
        where
          V : Module (residues p positive)
          V = row_module p positive n

          difference : List ℕ
          difference = V.◌⊞◌ x (V.opposite y)

          fits : IsElement a difference
          fits = row_fits p n _ (λ t h. mod-lt _ positive)

          nothing : All (λ c. c ≡ 0) difference
          nothing = zero difference fits
              (trans (linear-sub (residues p positive) V M worth worth_linear x y) (Modules.sub_of_equal (residues p positive) M (worth x) (worth y) e))

          origin : V.◌≋◌ difference V.origin
          origin t h = ap (λ z. z % p) (nothing t 0 (let l = fits.0 in omega arith) ∙ sym (row-entry n (λ _. 0) t h))

          same : V.◌≋◌ x y
          same = Modules.equal_of_sub (residues p positive) V x y origin

      -- with the coordinates of 1 they are an algebra
      pub algebra : length a.products ≡ n * n → All (IsElement a) a.products → IsElement a a.one → worth a.one ≈ 𝟙 → IsAlgebra a
      algebra count fit unit one = record {
        count = count;
        rows = fit;
        unit = unit;
        neutral = λ x h. unique (times a a.one x) x (times_fits a positive a.one x) h
            (trans (product a.one x) (trans (mul_cong one (rfl (worth x))) (Derived.one_mul C (worth x))));
        commutative = λ x y h g. unique (times a x y) (times a y x) (times_fits a positive x y) (times_fits a positive y x)
            (trans (product x y) (trans (mul_comm (worth x) (worth y)) (symm (product y x))));
        associative = λ x y z h g l. unique (times a (times a x y) z) (times a x (times a y z)) (times_fits a positive (times a x y) z) (times_fits a positive x (times a y z))
            (trans (product (times a x y) z) (trans (mul_cong (product x y) (rfl (worth z))) (trans (mul_assoc (worth x) (worth y) (worth z))
            (symm (trans (product x (times a y z)) (mul_cong (rfl (worth x)) (product y z)))))));
      }
