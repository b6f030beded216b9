-- What is known of the digits of the program: the laws of digits at its curve, corners and depth.
use Rattle.std.proofs.Common.{◌≡◌, ℕ, ◌*◌, ◌+◌, ◌<◌, ◌≤◌, [], ◌∷◌, length, subst, arith, mul-le-mul_right, mul-le-mul}
use Rattle.std.proofs.lemmas.List.{length-map, get_or-map}
use Rattle.monomials.specs.Mono.{unit}
use Rattle.polys.specs.Terms.{IsPoly}
use Rattle.standard_monomials.specs.Standard.{polynomial_of}
use Rattle.polys.specs.Curve.{HasDimModulo, data_of}
use Rattle.curve_model.specs.Laws.{IsFinite}
use Rattle.curve_laws.proofs.FitLaws.{fit_law}
use Rattle.standard_monomials.proofs.Unique.{unique_law}
use Rattle.digit_laws.specs.Laws.{DigitsAreCoordinates, BlocksAreDepths}
use Rattle.digit_space.specs.Model.{DigitData, IsDigitSpace, corner}
use Rattle.digit_laws.proofs.DigitLaws.{digit_law, span}
use Rattle.digit_laws.proofs.Blocks.{block_law}

module _ (g : DigitData) (s : IsDigitSpace g) where
  pub finite : IsFinite (data_of g.curve)
  finite = fit_law g.curve s.prime s.fit

  pub laws : DigitsAreCoordinates (data_of g.curve) g.basis g.depth
  laws = digit_law (data_of g.curve) finite g.basis s.corners g.depth

  pub blocks : BlocksAreDepths (data_of g.curve) g.basis
  blocks = block_law (data_of g.curve) finite g.basis s.corners

  pub dimension : HasDimModulo (data_of g.curve) (length g.basis)
  dimension = laws.dimension

  -- the corners are as many as the dimension of a fit curve
  pub few : length g.basis ≤ 256
  few =
      let A = data_of g.curve in
      let n = s.fit.finite.1 in
      subst (λ k. k ≤ 256) (unique_law.one A.prime A.variables (A.denominator ∷ A.ideal) s.fit.finite.0 (length g.basis) s.fit.finite.2 dimension) n

  -- a corner is a polynomial
  pub corner_poly : (i : ℕ) → i < length g.basis → IsPoly g.curve.prime g.curve.variables (polynomial_of (corner g i))
  corner_poly i l =
      subst (IsPoly g.curve.prime g.curve.variables) (get_or-map polynomial_of g.basis i unit [] l)
      ((span (data_of g.curve) finite g.basis s.corners).polys i [] (let e = length-map g.basis polynomial_of in omega arith))

-- a place among the products
pub place_below : (n N v i : ℕ) → v < n → i < N → v * N + i < n * N
place_below n N v i a b = let h : (v + 1) * N ≤ n * N = mul-le-mul_right {m = v + 1} {n = n} N (omega arith) in omega arith

-- and it is a small number
pub place_small : (g : DigitData) (s : IsDigitSpace g) (v i : ℕ) → v < g.curve.variables → i < length g.basis → v * length g.basis + i < 1536
place_small g s v i a b =
    let h = place_below g.curve.variables (length g.basis) v i a b in
    let m = mul-le-mul s.fit.six_variables (few g s) in
    omega arith

-- the products of one variable
pub products_small : (g : DigitData) (s : IsDigitSpace g) (v : ℕ) → v < g.curve.variables → v * length g.basis + length g.basis ≤ 1536
products_small g s v a =
    let h : (v + 1) * length g.basis ≤ g.curve.variables * length g.basis = mul-le-mul_right {m = v + 1} {n = g.curve.variables} (length g.basis) (omega arith) in
    let m = mul-le-mul s.fit.six_variables (few g s) in
    let e : (v + 1) * length g.basis ≡ v * length g.basis + length g.basis = omega arith in
    omega arith

-- a row is not long
pub width_small : (g : DigitData) (s : IsDigitSpace g) → length g.basis * g.depth ≤ 51200
width_small g s = let m = mul-le-mul (few g s) s.shallow in omega arith
