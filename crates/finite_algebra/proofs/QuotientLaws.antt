-- The quotient of an algebra by an ideal is an algebra, and the projection keeps sums, products and the one.
use Rattle.std.proofs.Common.{◌≡◌, ℕ, ◌+◌, ◌*◌, ◌<◌, List, [], length, get_or, All}
use Rattle.comm_ring.specs.Ring.{IsRingMap}
use Rattle.comm_ring.specs.Sums.{below}
use Rattle.comm_ring.specs.Modules.{InSpan}
use Rattle.comm_ring.specs.Rows.{rows}
use Rattle.comm_ring.proofs.Modules as Modules
use Rattle.comm_ring.proofs.Modules.{Module}
use Rattle.comm_ring.proofs.Residues.{residues}
use Rattle.comm_ring.proofs.Rows.{row_module}
use Rattle.row_space.specs.Echelon.{IsRow}
use Rattle.row_space.specs.Subspace.{product}
use Rattle.finite_algebra.specs.Elements.{FiniteAlgebra, IsElement, IsAlgebra, elements, times, ring_of, unit_row}
use Rattle.finite_algebra.proofs.Totals.{IsLinear, linear_then, linear-sub, of_path}
use Rattle.finite_algebra.proofs.Units.{along, along_linear, along-unit, agree}
use Rattle.finite_algebra.proofs.Products.{joined_fits, left_linear, right_linear, times_cong, times-units, times_fits, basis_product, same, reduced, reduced_fits, ring_laws}
use Rattle.finite_algebra.proofs.Images.{Splits, product_linear}

module _ (A : FiniteAlgebra) (positive : 0 < A.prime) (a : IsAlgebra A) (us matrix : List (List ℕ)) (m : ℕ) (place : ℕ → ℕ) (s : Splits A.prime A.dimension m us matrix place)
    (absorbs : (x f : List ℕ) → IsElement A x → IsElement A f → InSpan (elements A) us f → InSpan (elements A) us (times A x f)) where
  abbrev V : Module (residues A.prime positive)
  V = row_module A.prime positive A.dimension

  abbrev W : Module (residues A.prime positive)
  W = row_module A.prime positive m

  abbrev N : List ℕ → Type 0
  N x = InSpan (elements A) us x

  -- the projection, and an element with a given image
  abbrev image : List ℕ → List ℕ
  image v = product A.prime m v matrix

  abbrev pub lift : List ℕ → List ℕ
  lift w = along A.prime positive m V (λ k. unit_row A.dimension (place k)) w

  pub image_linear : IsLinear (elements A) (rows A.prime m) image
  image_linear = product_linear A.prime positive A.dimension m matrix s.count

  lift_linear : IsLinear (rows A.prime m) (elements A) lift
  lift_linear = along_linear A.prime positive m V (λ k. unit_row A.dimension (place k))

  lift-unit : (k : ℕ) → k < m → (elements A).◌≋◌ (lift (unit_row m k)) (unit_row A.dimension (place k))
  lift-unit k h = along-unit A.prime positive m V (λ k. unit_row A.dimension (place k)) k h

  pub lift_fits : (w : List ℕ) → IsElement A (lift w)
  lift_fits w = joined_fits A.prime A.dimension positive _ (below m)

  pub image-lift : (w : List ℕ) → (rows A.prime m).◌≋◌ (image (lift w)) w
  image-lift w = agree A.prime positive m W (λ x. image (lift x)) (λ x. x)
      (linear_then (residues A.prime positive) W V W lift image lift_linear image_linear)
      (record { resp = λ x y e. e; add = λ x y. W.rfl _; scale = λ c x. W.rfl _ })
      (λ k h. W.trans (image_linear.resp _ _ (lift-unit k h)) (s.lifts k h))
      w

  -- elements with equal images differ by a member of the ideal, and conversely
  in_ideal : (x y : List ℕ) → (rows A.prime m).◌≋◌ (image x) (image y) → N (V.◌⊞◌ x (V.opposite y))
  in_ideal x y e = s.from _ (W.trans (linear-sub (residues A.prime positive) V W image image_linear x y) (Modules.sub_of_equal (residues A.prime positive) W (image x) (image y) e))

  of_ideal : (x y : List ℕ) → N (V.◌⊞◌ x (V.opposite y)) → (rows A.prime m).◌≋◌ (image x) (image y)
  of_ideal x y h = Modules.equal_of_sub (residues A.prime positive) W (image x) (image y)
      (W.trans (W.symm (linear-sub (residues A.prime positive) V W image image_linear x y)) (s.into _ h))

  -- the ideal holds every product with a member
  absorbs_all : (x f : List ℕ) → N f → N (times A x f)
  absorbs_all x f h = (Modules.span_submodule (residues A.prime positive) V us).resp _ _
      (times_cong A positive (reduced A positive x) x (reduced A positive f) f (V.add_origin x) (V.add_origin f))
      (absorbs (reduced A positive x) (reduced A positive f) (reduced_fits A positive x) (reduced_fits A positive f)
      ((Modules.span_submodule (residues A.prime positive) V us).resp _ _ (V.symm (V.add_origin f)) h))

  -- the image of a product depends on the images of the factors alone
  right_factor : (x y z : List ℕ) → (rows A.prime m).◌≋◌ (image y) (image z) → (rows A.prime m).◌≋◌ (image (times A x y)) (image (times A x z))
  right_factor x y z e = of_ideal _ _ ((Modules.span_submodule (residues A.prime positive) V us).resp _ _
      (linear-sub (residues A.prime positive) V V (λ t. times A x t) (right_linear A positive x) y z)
      (absorbs_all x _ (in_ideal y z e)))

  commuted : (x y : List ℕ) → (rows A.prime m).◌≋◌ (image (times A x y)) (image (times A y x))
  commuted x y = image_linear.resp _ _ ((ring_laws A positive a).mul_comm x y)

  factors : (x x' y y' : List ℕ) → (rows A.prime m).◌≋◌ (image x) (image x') → (rows A.prime m).◌≋◌ (image y) (image y') → (rows A.prime m).◌≋◌ (image (times A x y)) (image (times A x' y'))
  factors x x' y y' e f = W.trans (right_factor x y y' f) (W.trans (commuted x y') (W.trans (right_factor y' x x' e) (commuted y' x')))

  module _ (products : List (List ℕ)) (count : length products ≡ m * m) (fit : All (IsRow A.prime m) products)
      (are : (k l : ℕ) → k < m → l < m → get_or products (k * m + l) [] ≡ image (basis_product A positive (place k) (place l))) where
    -- the quotient
    abbrev pub quotient_of : FiniteAlgebra
    quotient_of = record { prime = A.prime; dimension = m; one = image A.one; products = products }

    -- its product is the image of the product of lifts: both are bilinear, and agree at the unit rows
    at_units : (k l : ℕ) → k < m → l < m → (rows A.prime m).◌≋◌ (times quotient_of (unit_row m k) (unit_row m l)) (image (times A (lift (unit_row m k)) (lift (unit_row m l))))
    at_units k l h i = W.trans (times-units quotient_of positive k l h i) (W.trans (of_path (residues A.prime positive) W (are k l h i))
        (image_linear.resp _ _ (V.symm (V.trans (times_cong A positive _ _ _ _ (lift-unit k h) (lift-unit l i)) (times-units A positive (place k) (place l) (s.within k h) (s.within l i))))))

    at_unit : (k : ℕ) → k < m → (w : List ℕ) → (rows A.prime m).◌≋◌ (times quotient_of (unit_row m k) w) (image (times A (lift (unit_row m k)) (lift w)))
    at_unit k h w = agree A.prime positive m W (λ x. times quotient_of (unit_row m k) x) (λ x. image (times A (lift (unit_row m k)) (lift x)))
        (right_linear quotient_of positive (unit_row m k))
        (linear_then (residues A.prime positive) W V W (λ x. times A (lift (unit_row m k)) (lift x)) image
        (linear_then (residues A.prime positive) W V V lift (λ y. times A (lift (unit_row m k)) y) lift_linear (right_linear A positive (lift (unit_row m k)))) image_linear)
        (λ l i. at_units k l h i) w

    times-is : (w v : List ℕ) → (rows A.prime m).◌≋◌ (times quotient_of w v) (image (times A (lift w) (lift v)))
    times-is w v = agree A.prime positive m W (λ x. times quotient_of x v) (λ x. image (times A (lift x) (lift v)))
        (left_linear quotient_of positive v)
        (linear_then (residues A.prime positive) W V W (λ x. times A (lift x) (lift v)) image
        (linear_then (residues A.prime positive) W V V lift (λ y. times A y (lift v)) lift_linear (left_linear A positive (lift v))) image_linear)
        (λ k h. at_unit k h v) w

    -- so the projection keeps products
    pub keeps_product : (x y : List ℕ) → (rows A.prime m).◌≋◌ (image (times A x y)) (times quotient_of (image x) (image y))
    keeps_product x y = W.symm (W.trans (times-is (image x) (image y)) (factors (lift (image x)) x (lift (image y)) y (image-lift (image x)) (image-lift (image y))))

    commutes : (w v : List ℕ) → (rows A.prime m).◌≋◌ (times quotient_of w v) (times quotient_of v w)
    commutes w v = W.trans (times-is w v) (W.trans (commuted (lift w) (lift v)) (W.symm (times-is v w)))

    -- the image of the product of lifts, with a product as one factor
    triple : (w v u : List ℕ) → (rows A.prime m).◌≋◌ (times quotient_of (times quotient_of w v) u) (image (times A (times A (lift w) (lift v)) (lift u)))
    triple w v u = W.trans (times-is _ u) (factors _ _ (lift u) (lift u) (W.trans (image-lift _) (times-is w v)) (W.rfl _))

    associates : (w v u : List ℕ) → (rows A.prime m).◌≋◌ (times quotient_of (times quotient_of w v) u) (times quotient_of w (times quotient_of v u))
    associates w v u = W.trans (triple w v u) (W.trans (image_linear.resp _ _ (moved (lift w) (lift v) (lift u)))
        (W.trans (W.symm (triple v u w)) (commutes (times quotient_of v u) w)))
      where
        moved : (x y z : List ℕ) → (elements A).◌≋◌ (times A (times A x y) z) (times A (times A y z) x)
        moved x y z = V.trans ((ring_laws A positive a).mul_assoc x y z) ((ring_laws A positive a).mul_comm x (times A y z))

    has_one : (w : List ℕ) → (rows A.prime m).◌≋◌ (times quotient_of (image A.one) w) w
    has_one w = W.trans (times-is (image A.one) w) (W.trans (factors (lift (image A.one)) A.one (lift w) (lift w) (image-lift (image A.one)) (W.rfl _))
        (W.trans (image_linear.resp _ _ (V.trans ((ring_laws A positive a).mul_comm A.one (lift w)) ((ring_laws A positive a).mul_one (lift w)))) (image-lift w)))

    pub is_algebra : IsElement quotient_of (image A.one) → IsAlgebra quotient_of
    is_algebra one_fits = record {
      count = count;
      rows = fit;
      unit = one_fits;
      neutral = λ x h. same quotient_of positive _ x (times_fits quotient_of positive (image A.one) x) h (has_one x);
      commutative = λ x y h k. same quotient_of positive _ _ (times_fits quotient_of positive x y) (times_fits quotient_of positive y x) (commutes x y);
      associative = λ x y z h k l. same quotient_of positive _ _ (times_fits quotient_of positive _ z) (times_fits quotient_of positive x _) (associates x y z);
    }

    pub ring_map : IsRingMap (ring_of A) (ring_of quotient_of) image
    ring_map = record {
      resp = image_linear.resp;
      one = W.rfl (image A.one);
      add = image_linear.add;
      mul = keeps_product;
    }
