-- What the kept products are: rows of digits of products of a variable and a corner.
use Rattle.std.proofs.Common.{◌≡◌, ◌⊎◌, inl, inr, ℕ, zero, suc, ◌+◌, ◌-◌, ◌*◌, ◌<◌, ◌≤◌, List, [], ◌∷◌, ◌++◌, map, length, replicate, get_or, Option, sym, ap, ap₂, ◌∙◌, subst, arith, length-append, ⊎_elim}
use Rattle.std.proofs.lemmas.Bool.{cases_lt}
use Rattle.std.proofs.lemmas.List.{length-map, length-replicate, get_or-map, get_or_append_left}
use Rattle.std.proofs.lemmas.List.Elements.{All-nil, All-cons, All-head, All-tail, All-append}
use Rattle.std.proofs.Math.Nat.{le-mul_of_pos_right}
use Rattle.comm_ring.specs.Ring.{CommRing}
use Rattle.comm_ring.proofs.Derived.{one_mul}
use Rattle.comm_ring.proofs.Quote.{ring, quote}
use Rattle.monomials.specs.Mono.{unit, variable}
use Rattle.monomials.proofs.Order.{times_comm}
use Rattle.prime_field.proofs.Table.{above_one}
use Rattle.polys.specs.declared.term.Term.{Term}
use Rattle.polys.specs.Terms.{IsPoly, add, mul, multiple}
use Rattle.polys.specs.Ideal.{number_combination}
use Rattle.polys.specs.Curve.{CurveData, data_of}
use Rattle.polys.proofs.Affine.{mul_constant, sevens_of}
use Rattle.curve_model.specs.Laws.{IsFinite, ArePolys}
use Rattle.curve_laws.proofs.Base.{Ring, member}
use Rattle.curve_laws.proofs.Scalars.{scalar_map}
use Rattle.lane_rows.specs.Rows.{AreResidues}
use Rattle.row_space.specs.Echelon.{IsRow}
use Rattle.standard_monomials.specs.Standard.{polynomial_of}
use Rattle.standard_monomials.proofs.Powers.{affine_power}
use Rattle.digit_space.specs.declared.products.Product.{Product}
use Rattle.digit_space.specs.declared.products.Product.TheVariants.{Corner, Border}
use Rattle.digit_laws.specs.Digits.{spread, places, value}
use Rattle.digit_space.specs.Model.{DigitData, IsDigitSpace, IsProduct, AreKept, AreFirstDigits, IsDigitsOf, kept_at, corner, width}
use Rattle.digit_space.specs.Adding.{unit_at, product_row, rows_from, IsWithin, IsUnused, HasMultiples}
use Rattle.digit_laws.proofs.DigitLaws.{place_polys, place_count}
use Rattle.digit_laws.proofs.Blocks.{multiple_none, zeros_combine, zeros_row}
use Rattle.digit_laws.proofs.Spaces.{mono_product, affine_poly}
use Rattle.digit_space.proofs.Spaced.{finite, laws}

module _ (C : CommRing) where
  open C use {carrier, ◌≈◌, ◌⊕◌, 𝟘}

  infix 40 ◌≈◌
  infixl 60 ◌⊕◌
  pub none_before : (x : carrier) → 𝟘 ⊕ x ≈ x
  none_before x = ring C (x ∷ []) (search quote depth 20) tt

  none_behind : (x : carrier) → x ⊕ 𝟘 ≈ x
  none_behind x = ring C (x ∷ []) (search quote depth 20) tt

-- 1 at a place, zeros before and behind
abbrev unit_row : ℕ → ℕ → List ℕ
unit_row j n = unit_at j ++ replicate n 0

module _ (A : CurveData) (c : IsFinite A) where
  abbrev P : List Term → Type 0
  P f = IsPoly A.prime A.variables f

  one_times : (u : List Term) → P u → multiple A.prime 1 u ≡ u
  one_times u h = sym (mul_constant A.prime 1 u (sevens_of A.prime A.variables u h)) ∙ ap (λ z. mul A.prime z u) (scalar_map A c).one ∙ one_mul (Ring A c.curve) (member A c.curve u h)

  -- a combination by a unit row is the polynomial at its place
  unit_combines : (j n : ℕ) (us : List (List Term)) → ArePolys A us → j < length us → number_combination A.prime (unit_row j n) us ≡ get_or us j []
  unit_combines j n [] h l = absurd (omega arith)
  unit_combines zero n (u ∷ us) h l =
      let hu = All-head P u us h in
      ap₂ (add A.prime) (one_times u hu) (zeros_combine A c n us (All-tail P u us h)) ∙ none_behind (Ring A c.curve) (member A c.curve u hu)
  unit_combines (suc j) n (u ∷ us) h l =
      ap₂ (add A.prime) (multiple_none A c u (All-head P u us h)) (unit_combines j n us (All-tail P u us h) (omega arith))
      ∙ none_before (Ring A c.curve) (member A c.curve (get_or us j []) (h (suc j) [] l))

module _ (g : DigitData) (s : IsDigitSpace g) where
  pub variable_poly : (v : ℕ) → v < g.curve.variables → IsPoly g.curve.prime g.curve.variables (polynomial_of (variable v))
  variable_poly v l = affine_poly (data_of g.curve) (finite g s) g.basis s.corners g.depth (variable v) (affine_power g.curve.variables v 1 l)

  unit_length : (j : ℕ) → length (unit_at j) ≡ j + 1
  unit_length j = length-append (replicate j 0) (1 ∷ []) ∙ ap (λ k. k + 1) (length-replicate j 0)

  unit_residues : (j : ℕ) → AreResidues g.curve.prime (unit_at j)
  unit_residues j = All-append (λ e. e < g.curve.prime) (replicate j 0) (1 ∷ []) (zeros_row (data_of g.curve) (finite g s) g.basis s.corners j)
      (All-cons (λ e. e < g.curve.prime) 1 [] (above_one g.curve.prime s.prime) (All-nil (λ e. e < g.curve.prime)))

  first_place : (j T : ℕ) → j < length g.basis → 0 < T → get_or (places (data_of g.curve) g.basis T) j [] ≡ polynomial_of (corner g j)
  unfolding spread
  first_place j zero l h = absurd (omega arith)
  first_place j (suc T) l h =
      get_or_append_left (map polynomial_of g.basis) (map (mul g.curve.prime g.curve.denominator.terms) (places (data_of g.curve) g.basis T)) [] j
      (let e = length-map g.basis polynomial_of in omega arith)
      ∙ get_or-map polynomial_of g.basis j unit [] l

  -- a corner has a unit row for its digits
  pub corner_digits : (j : ℕ) → j < length g.basis → 0 < g.depth → AreFirstDigits g (polynomial_of (corner g j)) (unit_at j)
  corner_digits j l h =
      let A = data_of g.curve in
      let n = width g - length (unit_at j) in
      let row = unit_row j n in
      let high : length g.basis ≤ width g = le-mul_of_pos_right (length g.basis) h in
      let one : length (unit_at j) ≡ j + 1 = unit_length j in
      let short : length (unit_at j) ≤ width g = omega arith in
      let long : length row ≡ width g = length-append (unit_at j) (replicate n 0) ∙ ap (λ k. length (unit_at j) + k) (length-replicate n 0) ∙ (let w : length (unit_at j) + n ≡ width g = omega arith in w) in
      let fits : IsRow g.curve.prime (width g) row =
      (long, All-append (λ e. e < g.curve.prime) (unit_at j) (replicate n 0) (unit_residues j) (zeros_row A (finite g s) g.basis s.corners n)) in
      let us = places A g.basis g.depth in
      let is : value A g.basis g.depth row ≡ polynomial_of (corner g j) =
      unit_combines A (finite g s) j n us (place_polys A (finite g s) g.basis s.corners g.depth) (let e = place_count A (finite g s) g.basis s.corners g.depth in omega arith)
      ∙ first_place j g.depth l h in
      record { short = short; digits = subst (λ z. IsDigitsOf g z row) is ((laws g s).row row fits).1 }

  -- the digits of the kept products
  pub kept_rows : (border : List (List ℕ)) (products : Option (List Product)) → AreKept g border products → (v : ℕ) → v < g.curve.variables → (row : List ℕ)
      → HasMultiples g (polynomial_of (variable v)) row (rows_from border products (v * length g.basis))
  kept_rows border products k v lv row i li = go (kept_at products (v * length g.basis + i)) (k.each v i lv li)
    where
      go : (q : Product) → IsProduct g border v i q → IsUnused g row i ⊎ AreFirstDigits g (mul g.curve.prime (polynomial_of (variable v)) (polynomial_of (corner g i))) (product_row border q)
      go (Corner j) h = ⊎_elim
          (λ d. inr (subst (λ z. AreFirstDigits g z (unit_at j))
          (ap polynomial_of (sym h.1 ∙ times_comm (corner g i) (variable v)) ∙ mono_product (data_of g.curve) (finite g s) g.basis s.corners g.depth (variable v) (corner g i))
          (corner_digits j h.0 d)))
          (λ d. inl (λ t l. absurd (omega arith)))
          (cases_lt 0 g.depth)
      go (Border r) h = inr h.1

  -- and they are within the rows
  pub kept_within : (border : List (List ℕ)) (products : Option (List Product)) → AreKept g border products → (v : ℕ) → v < g.curve.variables
      → (i : ℕ) → i < length g.basis → IsWithin g.curve.prime (length g.basis) border (kept_at products (v * length g.basis + i))
  kept_within border products k v lv i li = go (kept_at products (v * length g.basis + i)) (k.each v i lv li)
    where
      go : (q : Product) → IsProduct g border v i q → IsWithin g.curve.prime (length g.basis) border q
      go (Corner j) h = h.0
      go (Border r) h =
          let row = get_or border r [] in
          let zeros = replicate (width g - length row) 0 in
          (h.0, λ n d l. subst (λ x. x < g.curve.prime) (get_or_append_left row zeros d n l) (h.1.digits.fits.1 n d (let e = length-append row zeros in omega arith)))
