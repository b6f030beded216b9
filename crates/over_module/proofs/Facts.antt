-- What is known of the digits of a fit curve.
use Rattle.std.proofs.Common.{◌≡◌, ℕ, ◌+◌, ◌-◌, ◌*◌, ◌<◌, ◌≤◌, List, [], ◌∷◌, ◌++◌, map, length, replicate, take, ap, ◌∙◌, subst, arith, mul-le-mul, mul-add, length-append}
use Rattle.std.proofs.lemmas.List.{length-map, length-replicate, get_or-map}
use Rattle.std.proofs.lemmas.List.Elements.{All-append}
use Rattle.monomials.specs.Mono.{unit}
use Rattle.polys.specs.declared.term.Term.{Term}
use Rattle.polys.specs.Terms.{IsPoly, mul}
use Rattle.polys.specs.Curve.{data_of}
use Rattle.polys.proofs.Sums.{mul_comm}
use Rattle.curve_model.specs.Laws.{IsFinite}
use Rattle.curve_laws.proofs.FitLaws.{fit_law}
use Rattle.standard_monomials.specs.Standard.{polynomial_of}
use Rattle.standard_monomials.proofs.Unique.{unique_law}
use Rattle.row_space.specs.Echelon.{IsRow}
use Rattle.digit_laws.specs.Digits.{AreDigits, value}
use Rattle.digit_laws.specs.Laws.{DigitsAreCoordinates}
use Rattle.digit_laws.proofs.DigitLaws.{digit_law}
use Rattle.digit_laws.proofs.Blocks.{block_law, zeros_row}
use Rattle.digit_space.specs.Model.{DigitData, IsDigitSpace, IsDigitRow, IsDigitsOf, corner, value_of}
use Rattle.digit_space.specs.Adding.{corner_multiple}
use Rattle.over_laws.proofs.BaseAlgebras.{corner_polys}
use Rattle.over_module.proofs.Values.{filled}

module _ (g : DigitData) (s : IsDigitSpace g) where
  pub finite : IsFinite (data_of g.curve)
  finite = fit_law g.curve s.prime s.fit

  laws : DigitsAreCoordinates (data_of g.curve) g.basis g.depth
  laws = digit_law (data_of g.curve) finite g.basis s.corners g.depth

  -- the corners are as many as the dimension of a fit curve
  few : length g.basis ≤ 256
  few =
      let A = data_of g.curve in
      let n = s.fit.finite.1 in
      subst (λ k. k ≤ 256) (unique_law.one A.prime A.variables (A.denominator ∷ A.ideal) s.fit.finite.0 (length g.basis) s.fit.finite.2 laws.dimension) n

  -- a row is not long
  pub small : (t : ℕ) → t ≤ g.depth → length g.basis * t ≤ 51200
  small t h = let d = s.shallow in let m = mul-le-mul few (let x : t ≤ 200 = omega arith in x) in omega arith

  corner_poly : (i : ℕ) → i < length g.basis → IsPoly g.curve.prime g.curve.variables (polynomial_of (corner g i))
  corner_poly i h =
      let n : length (map polynomial_of g.basis) ≡ length g.basis = length-map g.basis polynomial_of in
      subst (IsPoly g.curve.prime g.curve.variables) (get_or-map polynomial_of g.basis i unit [] h) (corner_polys (data_of g.curve) finite g.basis s.corners i [] (omega arith))

  -- the products of the row's polynomial with the corners are those of a polynomial with these digits
  pub generator_row : (f : List Term) → IsPoly g.curve.prime g.curve.variables f → (row : List ℕ) → IsDigitsOf g f row → (i : ℕ) → i < length g.basis → (out : List ℕ)
      → IsDigitsOf g (corner_multiple g row i) out → IsDigitsOf g (mul g.curve.prime f (polynomial_of (corner g i))) out
  generator_row f hf row r i h out m =
      let p = g.curve.prime in
      let q = polynomial_of (corner g i) in
      subst (λ z. IsDigitsOf g z out) (mul_comm p q f) (laws.product q f row out (corner_poly i h) hf r (subst (λ z. IsDigitsOf g z out) (mul_comm p (value_of g row) q) m))

  -- ---- rows that are filled with zeros

  wide : (t : ℕ) → t ≤ g.depth → length g.basis * g.depth ≡ length g.basis * t + length g.basis * (g.depth - t)
  wide t h = ap (λ n. length g.basis * n) (let q : g.depth ≡ t + (g.depth - t) = omega arith in q) ∙ mul-add (length g.basis) t (g.depth - t)

  pub zeros_are : (t : ℕ) → t ≤ g.depth → (row : List ℕ) → length row ≡ length g.basis * t → length g.basis * g.depth - length row ≡ length g.basis * (g.depth - t)
  zeros_are t h row e = let a = wide t h in omega arith

  module _ (t : ℕ) (h : t ≤ g.depth) (row : List ℕ) (fits : IsRow g.curve.prime (length g.basis * t) row) (zeros : ℕ) (e : zeros ≡ length g.basis * (g.depth - t)) where
    pub filled_row : IsDigitRow g (row ++ replicate zeros 0)
    filled_row = (
      (let a : length {A = ℕ} (row ++ replicate zeros 0) ≡ length row + length {A = ℕ} (replicate zeros 0) = length-append row (replicate zeros 0) in let b : length {A = ℕ} (replicate zeros 0) ≡ zeros = length-replicate zeros 0 in let l : length row ≡ length g.basis * t = fits.0 in let w = wide t h in omega arith),
      All-append (λ x. x < g.curve.prime) row (replicate zeros 0) fits.1 (zeros_row (data_of g.curve) finite g.basis s.corners zeros),
    )

    pub filled_value : value_of g (row ++ replicate zeros 0) ≡ value (data_of g.curve) g.basis t row
    filled_value = ap (λ n. value_of g (row ++ replicate {A = ℕ} n 0)) e
        ∙ filled (data_of g.curve) finite g.basis s.corners t (g.depth - t) g.depth (let q : g.depth ≡ t + (g.depth - t) = omega arith in q) row fits.0

  -- the first blocks
  pub front_digits : (t : ℕ) → t ≤ g.depth → (f : List Term) → IsPoly g.curve.prime g.curve.variables f → (row : List ℕ) → IsDigitsOf g f row
      → AreDigits (data_of g.curve) g.basis t f (take (length g.basis * t) row)
  front_digits t h f hf row d =
      let e : g.depth ≡ t + (g.depth - t) = omega arith in
      (block_law (data_of g.curve) finite g.basis s.corners).truncated t (g.depth - t) f row hf (subst (λ z. AreDigits (data_of g.curve) g.basis z f row) e d)

  pub front_inside : (t : ℕ) → t ≤ g.depth → (f : List Term) (row : List ℕ) → IsDigitsOf g f row → length g.basis * t ≤ length row
  front_inside t h f row d = let l = d.fits.0 in let m = mul-le-mul (let x : length g.basis ≤ length g.basis = omega arith in x) h in omega arith
