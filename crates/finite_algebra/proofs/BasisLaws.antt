-- The laws of an algebra from its basis elements.
use Rattle.std.proofs.Common.{◌≡◌, ℕ, ◌<◌, List}
use Rattle.comm_ring.proofs.Residues.{residues}
use Rattle.finite_algebra.specs.Elements.{FiniteAlgebra, IsAlgebra, HasBasisLaws, BasisLawsSuffice, elements, times, unit_row}
use Rattle.finite_algebra.proofs.Totals.{IsLinear, linear_then, of_path}
use Rattle.finite_algebra.proofs.Units.{agree}
use Rattle.finite_algebra.proofs.Products.{module_of, left_linear, right_linear, times_fits, same}

module _ (A : FiniteAlgebra) (positive : 0 < A.prime) (h : HasBasisLaws A) where
  -- the basis element k
  abbrev e : ℕ → List ℕ
  e k = unit_row A.dimension k

  -- linear maps on elements that agree at the basis elements
  everywhere : (f g : List ℕ → List ℕ) → IsLinear (elements A) (elements A) f → IsLinear (elements A) (elements A) g → ((k : ℕ) → k < A.dimension → (elements A).◌≋◌ (f (e k)) (g (e k)))
      → (x : List ℕ) → (elements A).◌≋◌ (f x) (g x)
  everywhere f g l m s x = agree A.prime positive A.dimension (module_of A positive) f g l m s x

  then : (f g : List ℕ → List ℕ) → IsLinear (elements A) (elements A) f → IsLinear (elements A) (elements A) g → IsLinear (elements A) (elements A) (λ x. g (f x))
  then f g l m = linear_then (residues A.prime positive) (module_of A positive) (module_of A positive) (module_of A positive) f g l m

  path : (x y : List ℕ) → x ≡ y → (elements A).◌≋◌ x y
  path x y s = of_path (residues A.prime positive) (module_of A positive) s

  same_map : IsLinear (elements A) (elements A) (λ x. x)
  same_map = record { resp = λ x y s. s; add = λ x y. (module_of A positive).rfl _; scale = λ c x. (module_of A positive).rfl _ }

  neutral : (x : List ℕ) → (elements A).◌≋◌ (times A A.one x) x
  neutral x = everywhere (λ y. times A A.one y) (λ y. y) (right_linear A positive A.one) same_map (λ k l. path _ _ (h.neutral k l)) x

  commutes : (x y : List ℕ) → (elements A).◌≋◌ (times A x y) (times A y x)
  commutes x y = everywhere (λ u. times A u y) (λ u. times A y u) (left_linear A positive y) (right_linear A positive y)
      (λ i l. everywhere (λ v. times A (e i) v) (λ v. times A v (e i)) (right_linear A positive (e i)) (left_linear A positive (e i)) (λ j m. path _ _ (h.commutative i j l m)) y)
      x

  associates : (x y z : List ℕ) → (elements A).◌≋◌ (times A (times A x y) z) (times A x (times A y z))
  associates x y z = everywhere (λ u. times A (times A u y) z) (λ u. times A u (times A y z))
      (then (λ u. times A u y) (λ u. times A u z) (left_linear A positive y) (left_linear A positive z)) (left_linear A positive (times A y z))
      (λ i l. everywhere (λ v. times A (times A (e i) v) z) (λ v. times A (e i) (times A v z))
      (then (λ v. times A (e i) v) (λ v. times A v z) (right_linear A positive (e i)) (left_linear A positive z))
      (then (λ v. times A v z) (λ v. times A (e i) v) (left_linear A positive z) (right_linear A positive (e i)))
      (λ j m. everywhere (λ w. times A (times A (e i) (e j)) w) (λ w. times A (e i) (times A (e j) w))
      (right_linear A positive (times A (e i) (e j)))
      (then (λ w. times A (e j) w) (λ w. times A (e i) w) (right_linear A positive (e j)) (right_linear A positive (e i)))
      (λ k r. path _ _ (h.associative i j k l m r))
      z)
      y)
      x

  pub laws : IsAlgebra A
  laws = record {
    count = h.count;
    rows = h.rows;
    unit = h.unit;
    neutral = λ x l. same A positive _ x (times_fits A positive A.one x) l (neutral x);
    commutative = λ x y l m. same A positive _ _ (times_fits A positive x y) (times_fits A positive y x) (commutes x y);
    associative = λ x y z l m r. same A positive _ _ (times_fits A positive _ z) (times_fits A positive x _) (associates x y z);
  }

pub suffices : BasisLawsSuffice
suffices A positive h = laws A positive h
