-- A modulo d as an algebra of rows of digits.
use Rattle.std.proofs.Common.{◌≡◌, ℕ, zero, suc, ◌+◌, ◌*◌, ◌/◌, ◌%◌, ◌<◌, List, [], ◌∷◌, map, length, get_or, refl, sym, ap, ◌∙◌, subst, arith, append-nil}
use Rattle.std.proofs.Math.Nat.{div-add-mod, mod-lt, div-lt_iff_lt-mul}
use Rattle.std.proofs.lemmas.List.{length-map, get_or-map, get_or_default}
use Rattle.std.proofs.lemmas.List.Elements.{All-head, All-tail}
use Rattle.comm_ring.specs.Sums.{joined}
use Rattle.comm_ring.specs.Modules.{ModuleOps}
use Rattle.comm_ring.specs.Rows.{rows}
use Rattle.comm_ring.proofs.Modules as Modules
use Rattle.comm_ring.proofs.Rows.{row_module, equal_rows}
use Rattle.comm_ring.proofs.Residues.{residues}
use Rattle.prime_field.proofs.Table.{positive_of_prime}
use Rattle.monomials.specs.Mono.{Monomial, unit}
use Rattle.row_space.specs.Echelon.{IsRow}
use Rattle.polys.specs.declared.term.Term.{Term}
use Rattle.polys.specs.Terms.{IsPoly, one, add, mul, multiple}
use Rattle.polys.specs.Ideal.{number_combination}
use Rattle.polys.specs.Curve.{CurveData}
use Rattle.polys.proofs.Affine.{poly_none, poly_mul, poly_multiple, sevens_of}
use Rattle.polys.proofs.Sums.{mul_comm, mul_assoc, mul-add, mul_none}
use Rattle.polys.proofs.Units.{mul_one}
use Rattle.ideal_laws.proofs.Multiples.{multiple-mul}
use Rattle.curve_model.specs.Laws.{IsFinite, ArePolys}
use Rattle.chain_laws.proofs.ChainLaws.{one_poly}
use Rattle.finite_algebra.specs.Elements.{FiniteAlgebra, IsAlgebra, IsElement, total, times}
use Rattle.finite_algebra.proofs.Totals.{total-zero, total-front}
use Rattle.finite_algebra.proofs.Products.{joined_fits, ring_laws}
use Rattle.standard_monomials.specs.Standard.{polynomial_of}
use Rattle.digit_laws.specs.Digits.{AreCornersOf, spread, places, value, AreDigits}
use Rattle.digit_laws.specs.Laws.{DigitsAreCoordinates}
use Rattle.digit_laws.proofs.DigitLaws.{digit_law, numbers_poly, value_poly, row_digits, place_polys}
use Rattle.over_laws.specs.BaseIdeals.{IsDigitAlgebra, CornerProductsAreAlgebras}

module _ (A : CurveData) (c : IsFinite A) (ms : List Monomial) (k : AreCornersOf A ms) where
  pos : 0 < A.prime
  pos = positive_of_prime A.prime c.curve.prime

  abbrev W : ℕ
  W = length ms * 1

  abbrev R : List Term → List ℕ → Type 0
  R f x = AreDigits A ms 1 f x

  abbrev P : List Term → Type 0
  P f = IsPoly A.prime A.variables f

  abbrev V : ModuleOps ℕ
  V = rows A.prime W

  abbrev U : List (List Term)
  U = map polynomial_of ms

  laws : DigitsAreCoordinates A ms 1
  laws = digit_law A c ms k 1

  same_row : (x y : List ℕ) → IsRow A.prime W x → IsRow A.prime W y → V.◌≋◌ x y → x ≡ y
  same_row x y h g e = equal_rows A.prime W x y h.0 g.0 h.1 g.1 e

  -- the places at depth 1 are the corners
  corner_places : places A ms 1 ≡ U
  unfolding spread
  corner_places = append-nil U

  pub corner_polys : ArePolys A U
  corner_polys = subst (ArePolys A) corner_places (place_polys A c ms k 1)

  value_is : (x : List ℕ) → value A ms 1 x ≡ number_combination A.prime x U
  value_is x = ap (number_combination A.prime x) corner_places

  origin_fits : IsRow A.prime W V.origin
  unfolding joined
  origin_fits = joined_fits A.prime W pos (λ i. V.origin) []

  none_digits : R [] V.origin
  none_digits =
      let r = laws.exist [] (poly_none A.prime A.variables) in
      let z = laws.multiple 0 [] r.0 (poly_none A.prime A.variables) r.1 in
      subst (R []) (same_row _ _ z.fits origin_fits (Modules.zero_scale (residues A.prime pos) (row_module A.prime pos W) r.0)) z

  scaled_out : (e : ℕ) (q u : List Term) → mul A.prime q (multiple A.prime e u) ≡ multiple A.prime e (mul A.prime q u)
  scaled_out e q u = mul_comm A.prime q (multiple A.prime e u) ∙ multiple-mul A.prime e u q ∙ ap (multiple A.prime e) (mul_comm A.prime u q)

  -- the digits of q times a sum of multiples are the sum of the multiples of the digits of q times the members
  summed : (q : List Term) → P q → (us : List (List Term)) → ArePolys A us → (cs : List ℕ) → length cs ≡ length us → (g : ℕ → List ℕ)
      → ((j : ℕ) → j < length us → R (mul A.prime q (get_or us j [])) (g j))
      → R (mul A.prime q (number_combination A.prime cs us)) (total V (λ j. V.◌·◌ (get_or cs j 0) (g j)) (length us))
  summed q hq [] h [] l g r =
      let f : ℕ → List ℕ = λ j. V.◌·◌ (get_or [] j 0) (g j) in
      subst (λ z. R z (total V f 0)) (sym (mul_none A.prime q))
      (subst (R []) (sym (same_row (total V f 0) V.origin (joined_fits A.prime W pos f []) none_digits.fits (total-zero (residues A.prime pos) (row_module A.prime pos W) f))) none_digits)
  summed q hq [] h (e ∷ cs) l g r = absurd (omega arith)
  summed q hq (u ∷ us) h [] l g r = absurd (omega arith)
  summed q hq (u ∷ us) h (e ∷ cs) l g r =
      let p = A.prime in
      let f : ℕ → List ℕ = λ j. V.◌·◌ (get_or (e ∷ cs) j 0) (g j) in
      let hu = All-head P u us h in
      let hs = All-tail P u us h in
      let rest = summed q hq us hs cs (let m : length (e ∷ cs) ≡ length (u ∷ us) = l in omega arith) (λ j. g (suc j)) (λ j m. r (suc j) (omega arith)) in
      let qu = poly_mul p A.variables q u pos hq hu in
      let whole = laws.sum (multiple p e (mul p q u)) (mul p q (number_combination p cs us)) (V.◌·◌ e (g 0)) (total V (λ j. f (suc j)) (length us))
      (poly_multiple p A.variables e (mul p q u) pos qu) (poly_mul p A.variables q (number_combination p cs us) pos hq (numbers_poly A c ms k cs us hs))
      (laws.multiple e (mul p q u) (g 0) qu (r 0 (omega arith))) rest in
      subst (λ z. R z (total V f (suc (length us)))) (sym (mul-add p q (multiple p e u) (number_combination p cs us) ∙ ap (λ x. add p x (mul p q (number_combination p cs us))) (scaled_out e q u)))
      (subst (R (add p (multiple p e (mul p q u)) (mul p q (number_combination p cs us))))
      (sym (same_row (total V f (suc (length us))) (V.◌⊞◌ (f 0) (total V (λ j. f (suc j)) (length us))) (joined_fits p W pos f _) whole.fits
      (total-front (residues p pos) (row_module p pos W) f (length us)))) whole)

  module _ (one_row : List ℕ) (products : List (List ℕ)) (count : length products ≡ W * W) (first : R one one_row)
      (basis : (i j : ℕ) → i < W → j < W → R (mul A.prime (polynomial_of (get_or ms i unit)) (polynomial_of (get_or ms j unit))) (get_or products (i * W + j) [])) where
    abbrev a : FiniteAlgebra
    a = record { prime = A.prime; dimension = W; one = one_row; products = products }

    many : length U ≡ W
    many = let n : length U ≡ length ms = length-map ms polynomial_of in omega arith

    corner_at : (i : ℕ) → i < W → get_or U i [] ≡ polynomial_of (get_or ms i unit)
    corner_at i h = get_or-map polynomial_of ms i unit [] (omega arith)

    -- the products of a corner and the polynomial of a row
    abbrev inner : List ℕ → ℕ → List ℕ
    inner y i = total V (λ j. V.◌·◌ (get_or y j 0) (get_or products (i * W + j) [])) W

    corner_poly : (i : ℕ) → i < W → P (polynomial_of (get_or ms i unit))
    corner_poly i h = subst P (corner_at i h) (corner_polys i [] (let n = many in omega arith))

    inner_digits : (y : List ℕ) → IsElement a y → (i : ℕ) → i < W → R (mul A.prime (polynomial_of (get_or ms i unit)) (value A ms 1 y)) (inner y i)
    inner_digits y hy i h =
        let q = polynomial_of (get_or ms i unit) in
        let g : ℕ → List ℕ = λ j. get_or products (i * W + j) [] in
        let l : length y ≡ length U = hy.0 ∙ sym many in
        let n = many in
        subst (λ z. R (mul A.prime q z) (inner y i)) (sym (value_is y))
        (subst (λ m. R (mul A.prime q (number_combination A.prime y U)) (total V (λ j. V.◌·◌ (get_or y j 0) (g j)) m)) many
        (summed q (corner_poly i h) U corner_polys y l g (λ j m. subst (λ z. R (mul A.prime q z) (g j)) (sym (corner_at j (omega arith))) (basis i j h (omega arith)))))

    product : (x y : List ℕ) → IsElement a x → IsElement a y → R (mul A.prime (value A ms 1 x) (value A ms 1 y)) (times a x y)
    unfolding times
    product x y hx hy =
        let p = A.prime in
        let v = value A ms 1 y in
        let l : length x ≡ length U = hx.0 ∙ sym many in
        let n = many in
        subst (λ z. R z (times a x y)) (mul_comm p v (value A ms 1 x))
        (subst (λ z. R (mul p v z) (times a x y)) (sym (value_is x))
        (subst (λ m. R (mul p v (number_combination p x U)) (total V (λ i. V.◌·◌ (get_or x i 0) (inner y i)) m)) many
        (summed v (value_poly A c ms k 1 y) U corner_polys x l (inner y)
        (λ i m. let h : i < W = omega arith in
        subst (λ z. R (mul p v z) (inner y i)) (sym (corner_at i h)) (subst (λ z. R z (inner y i)) (mul_comm p (polynomial_of (get_or ms i unit)) v) (inner_digits y hy i h))))))

    -- a factor may be worked with any polynomial that has its digits
    times_digits : (f h : List Term) (x y : List ℕ) → P f → P h → R f x → R h y → R (mul A.prime f h) (times a x y)
    times_digits f h x y hf hh r s =
        let vx = value A ms 1 x in
        let half : R (mul A.prime vx h) (times a x y) = laws.product vx h y (times a x y) (value_poly A c ms k 1 x) hh s (product x y r.fits s.fits) in
        subst (λ z. R z (times a x y)) (mul_comm A.prime h f)
        (laws.product h f x (times a x y) hh hf r (subst (λ z. R z (times a x y)) (mul_comm A.prime vx h) half))

    own : (x : List ℕ) → IsElement a x → R (value A ms 1 x) x
    own x h = row_digits A c ms k 1 x h

    abbrev val : List ℕ → List Term
    val x = value A ms 1 x

    poly : (x : List ℕ) → P (value A ms 1 x)
    poly x = value_poly A c ms k 1 x

    algebra : IsAlgebra a
    algebra = record {
      count = count;
      rows = λ i d h. row_at i d h;
      unit = first.fits;
      neutral = λ x h.
          let r = times_digits one (val x) one_row x (one_poly A c) (poly x) first (own x h) in
          laws.unique (val x) (times a one_row x) x (poly x)
          (subst (λ z. R z (times a one_row x)) (mul_comm A.prime one (val x) ∙ mul_one A.prime (val x) (poly x).canonical (sevens_of A.prime A.variables (val x) (poly x))) r) (own x h);
      commutative = λ x y h g. laws.unique (mul A.prime (val x) (val y)) (times a x y) (times a y x) (both x y) (product x y h g)
          (subst (λ z. R z (times a y x)) (mul_comm A.prime (val y) (val x)) (product y x g h));
      associative = λ x y z h g l.
          let p = A.prime in
          laws.unique (mul p (mul p (val x) (val y)) (val z)) (times a (times a x y) z) (times a x (times a y z)) (poly_mul p A.variables (mul p (val x) (val y)) (val z) pos (both x y) (poly z))
          (times_digits (mul p (val x) (val y)) (val z) (times a x y) z (both x y) (poly z) (product x y h g) (own z l))
          (subst (λ w. R w (times a x (times a y z))) (sym (mul_assoc p (val x) (val y) (val z)))
          (times_digits (val x) (mul p (val y) (val z)) x (times a y z) (poly x) (both y z) (own x h) (product y z g l)));
    }
      where
        both : (x y : List ℕ) → P (mul A.prime (value A ms 1 x) (value A ms 1 y))
        both x y = poly_mul A.prime A.variables (value A ms 1 x) (value A ms 1 y) pos (value_poly A c ms k 1 x) (value_poly A c ms k 1 y)

        row_at : (i : ℕ) (d : List ℕ) → i < length products → IsRow A.prime W (get_or products i d)
        row_at i d h =
            let n : i < W * W = omega (arith, count) in
            let some : 0 < W = positive_width W i n in
            let q : i / W < W = (div-lt_iff_lt-mul some).1 n in
            let m : i % W < W = mod-lt i some in
            let e : (i / W) * W + i % W ≡ i = omega (arith, div-add-mod i W) in
            subst (IsRow A.prime W) (ap (λ j. get_or products j []) e ∙ get_or_default products i [] d h) (basis (i / W) (i % W) q m).fits
          where
            positive_width : (w i : ℕ) → i < w * w → 0 < w
            positive_width zero i h = absurd (omega arith)
            positive_width (suc w) i h = omega arith

    base_algebra : IsAlgebra a × IsDigitAlgebra A ms 1 (record { prime = A.prime; dimension = W; one = one_row; products = products })
    base_algebra = (algebra, record { prime = refl; dimension = (let e : length ms * 1 ≡ length ms = omega arith in e); ring = ring_laws a pos algebra; product = product })

pub algebras_law : CornerProductsAreAlgebras
algebras_law A c ms k a h =
    let e : length ms ≡ length ms * 1 = omega arith in
    subst (λ n. IsAlgebra (with_dimension n) × IsDigitAlgebra A ms 1 (with_dimension n)) (sym (h.dimension ∙ e))
    (subst (λ p. IsAlgebra (with_prime p) × IsDigitAlgebra A ms 1 (with_prime p)) (sym h.prime)
    (base_algebra A c ms k a.one a.products (h.count ∙ ap (λ n. n * n) e) h.one
    (subst (λ n. (i j : ℕ) → i < n → j < n → AreDigits A ms 1 (mul A.prime (polynomial_of (get_or ms i unit)) (polynomial_of (get_or ms j unit))) (get_or a.products (i * n + j) [])) e h.products)))
  where
    with_prime : ℕ → FiniteAlgebra
    with_prime p = record { prime = p; dimension = length ms * 1; one = a.one; products = a.products }

    with_dimension : ℕ → FiniteAlgebra
    with_dimension n = record { prime = a.prime; dimension = n; one = a.one; products = a.products }
