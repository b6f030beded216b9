-- The products of the corners, by rows.
use Rattle.std.proofs.Common.{◌≡◌, ◌⊎◌, inl, inr, ℕ, ◌+◌, ◌-◌, ◌*◌, ◌<◌, ◌≤◌, List, [], ◌++◌, map, length, get_or, sym, ap, ◌∙◌, subst, arith, length-append, mul-le-mul_right}
use Rattle.std.proofs.Math.Nat.{eq-or-lt_of_le}
use Rattle.std.proofs.lemmas.List.{length-map, get_or-map, get_or_append_left}
use Rattle.std.proofs.Math.Seq.{get_or-append_right}
use Rattle.monomials.specs.Mono.{unit}
use Rattle.polys.specs.Terms.{IsPoly, one, mul}
use Rattle.polys.specs.Curve.{CurveData, data_of}
use Rattle.polys.proofs.Affine.{sevens_of}
use Rattle.polys.proofs.Sums.{mul_comm}
use Rattle.polys.proofs.Units.{mul_one}
use Rattle.curve_model.specs.Laws.{IsFinite}
use Rattle.curve_laws.proofs.FitLaws.{fit_law}
use Rattle.chain_laws.proofs.ChainLaws.{one_poly}
use Rattle.standard_monomials.specs.Standard.{polynomial_of}
use Rattle.digit_laws.specs.Laws.{DigitsAreCoordinates}
use Rattle.digit_laws.proofs.DigitLaws.{digit_law}
use Rattle.digit_space.specs.Model.{DigitData, IsDigitSpace, IsDigitsOf, corner, value_of}
use Rattle.digit_space.specs.Adding.{corner_multiple}
use Rattle.over_laws.proofs.BaseAlgebras.{corner_polys}
use Rattle.point_quotient.specs.Algebras.{AreCornerRows, AreFirstProducts}

module _ (g : DigitData) (s : IsDigitSpace g) where
  abbrev A : CurveData
  A = data_of g.curve

  pub finite : IsFinite (data_of g.curve)
  finite = fit_law g.curve s.prime s.fit

  laws : DigitsAreCoordinates (data_of g.curve) g.basis g.depth
  laws = digit_law (data_of g.curve) finite g.basis s.corners g.depth

  corner_poly : (i : ℕ) → i < length g.basis → IsPoly g.curve.prime g.curve.variables (polynomial_of (corner g i))
  corner_poly i h =
      let n : length (map polynomial_of g.basis) ≡ length g.basis = length-map g.basis polynomial_of in
      subst (IsPoly g.curve.prime g.curve.variables) (get_or-map polynomial_of g.basis i unit [] h) (corner_polys (data_of g.curve) finite g.basis s.corners i [] (omega arith))

  -- the products with 1 are the corners
  pub with_one : (row : List ℕ) → IsDigitsOf g one row → (i : ℕ) → i < length g.basis → (out : List ℕ) → IsDigitsOf g (corner_multiple g row i) out
      → IsDigitsOf g (polynomial_of (corner g i)) out
  with_one row r i h out m =
      let p = g.curve.prime in
      let q = polynomial_of (corner g i) in
      let hq = corner_poly i h in
      subst (λ z. IsDigitsOf g z out) (mul_one p q hq.canonical (sevens_of p g.curve.variables q hq))
      (laws.product q one row out hq (one_poly (data_of g.curve) finite) r (subst (λ z. IsDigitsOf g z out) (mul_comm p (value_of g row) q) m))

  -- and those with a corner are the products of two corners
  pub with_corner : (i : ℕ) → i < length g.basis → (row : List ℕ) → IsDigitsOf g (polynomial_of (corner g i)) row → (j : ℕ) → j < length g.basis → (out : List ℕ)
      → IsDigitsOf g (corner_multiple g row j) out → IsDigitsOf g (mul g.curve.prime (polynomial_of (corner g i)) (polynomial_of (corner g j))) out
  with_corner i h row r j l out m =
      let p = g.curve.prime in
      let f = polynomial_of (corner g i) in
      let q = polynomial_of (corner g j) in
      subst (λ z. IsDigitsOf g z out) (mul_comm p q f)
      (laws.product q f row out (corner_poly j l) (corner_poly i h) r (subst (λ z. IsDigitsOf g z out) (mul_comm p (value_of g row) q) m))

  pub corner_rows : (row : List ℕ) → IsDigitsOf g one row → (rows : List (List ℕ)) → length rows ≡ length g.basis
      → ((i : ℕ) → i < length g.basis → IsDigitsOf g (corner_multiple g row i) (get_or rows i [])) → AreCornerRows g rows
  corner_rows row r rows n each = record { count = n; each = λ i h. with_one row r i h (get_or rows i []) (each i h) }

  -- the products of one more corner
  pub one_more : (i : ℕ) → i < length g.basis → (row : List ℕ) → IsDigitsOf g (polynomial_of (corner g i)) row → (old rows new : List (List ℕ)) → new ≡ old ++ rows
      → length rows ≡ length g.basis → ((j : ℕ) → j < length g.basis → IsDigitsOf g (corner_multiple g row j) (get_or rows j []))
      → AreFirstProducts g i old → AreFirstProducts g (i + 1) new
  one_more i h row r old rows new e n each before = record {
    count = let l = length-append old rows in let b = before.count in ap length e ∙ l ∙ (let x : length old + length rows ≡ (i + 1) * length g.basis = omega arith in x);
    each = λ k j l m. go k j m (eq-or-lt_of_le (let x : k ≤ i = omega arith in x));
  }
    where
      N : ℕ
      N = length g.basis

      go : (k j : ℕ) → j < length g.basis → (k ≡ i) ⊎ (k < i)
          → IsDigitsOf g (mul g.curve.prime (polynomial_of (corner g k)) (polynomial_of (corner g j))) (get_or new (k * length g.basis + j) [])
      go k j m (inl q) =
          let b = before.count in
          let w : length old ≤ k * length g.basis + j = let x = ap (λ z. z * length g.basis) q in omega arith in
          let place : (k * length g.basis + j) - length old ≡ j = let x = ap (λ z. z * length g.basis) q in omega arith in
          let at : get_or new (k * length g.basis + j) [] ≡ get_or rows j [] =
          ap (λ z. get_or z (k * length g.basis + j) []) e ∙ get_or-append_right old rows (k * length g.basis + j) [] w ∙ ap (λ z. get_or rows z []) place in
          subst (λ z. IsDigitsOf g (mul g.curve.prime (polynomial_of (corner g z)) (polynomial_of (corner g j))) (get_or new (k * length g.basis + j) [])) (sym q)
          (subst (IsDigitsOf g (mul g.curve.prime (polynomial_of (corner g i)) (polynomial_of (corner g j)))) (sym at) (with_corner i h row r j m (get_or rows j []) (each j m)))
      go k j m (inr l) =
          let b = before.count in
          let up : (k + 1) * length g.basis ≤ i * length g.basis = mul-le-mul_right (length g.basis) (let x : k + 1 ≤ i = omega arith in x) in
          let inside : k * length g.basis + j < length old = omega arith in
          subst (IsDigitsOf g (mul g.curve.prime (polynomial_of (corner g k)) (polynomial_of (corner g j))))
          (sym (ap (λ z. get_or z (k * length g.basis + j) []) e ∙ get_or_append_left old rows [] (k * length g.basis + j) inside)) (before.each k j l m)
