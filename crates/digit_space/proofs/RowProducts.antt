-- Products of rows, by the products of one of them with the corners.
use Rattle.std.proofs.Common.{◌≡◌, inr, ℕ, ◌+◌, ◌<◌, List, [], ◌∷◌, ◌++◌, length, get_or, None, sym, ap, ◌∙◌, subst, arith, ⊎_elim}
use Rattle.std.proofs.lemmas.Bool.{cases_lt}
use Rattle.std.proofs.lemmas.List.{get_or_append_left}
use Rattle.std.proofs.Math.Seq.{get_or-append_seam}
use Rattle.lane_rows.specs.Rows.{AreResidues}
use Rattle.comm_ring.specs.Ring.{CommRing}
use Rattle.comm_ring.proofs.Quote.{ring, quote}
use Rattle.monomials.specs.Mono.{unit, times, variable}
use Rattle.prime_field.proofs.Table.{positive_of_prime}
use Rattle.polys.specs.declared.term.Term.{Term}
use Rattle.polys.specs.Terms.{IsPoly, mul}
use Rattle.polys.specs.Curve.{data_of}
use Rattle.polys.proofs.Affine.{poly_mul}
use Rattle.curve_laws.proofs.Base.{Ring, member}
use Rattle.standard_monomials.specs.Standard.{polynomial_of}
use Rattle.digit_space.specs.declared.products.Product.TheVariants.{Border}
use Rattle.digit_space.specs.Model.{DigitData, IsDigitSpace, IsDigitRow, AreFirstDigits, IsDigitsOf, corner, times_variable, value_of}
use Rattle.digit_space.specs.Adding.{AreMultiples, HasMultiples, IsWithin, corner_multiple, rows_from}
use Rattle.digit_laws.proofs.DigitLaws.{value_poly}
use Rattle.digit_laws.proofs.Spaces.{mono_product}
use Rattle.digit_space.proofs.Spaced.{finite, laws, corner_poly}
use Rattle.digit_space.proofs.Kept.{whole_row}
use Rattle.digit_space.proofs.KeptRows.{variable_poly}

module _ (C : CommRing) where
  open C use {carrier, ◌≈◌, ◌⊗◌, 𝟙}

  infix 40 ◌≈◌
  infixl 70 ◌⊗◌
  times_one : (b : carrier) → b ⊗ 𝟙 ≈ b
  times_one b = ring C (b ∷ []) (search quote depth 20) tt

  moved : (x b m : carrier) → x ⊗ (b ⊗ m) ≈ b ⊗ (m ⊗ x)
  moved x b m = ring C (x ∷ b ∷ m ∷ []) (search quote depth 20) tt

module _ (g : DigitData) (s : IsDigitSpace g) where
  abbrev P : List Term → Type 0
  P f = IsPoly g.curve.prime g.curve.variables f

  pub row_poly : (row : List ℕ) → P (value_of g row)
  row_poly row = value_poly (data_of g.curve) (finite g s) g.basis s.corners g.depth row

  multiple_poly : (row : List ℕ) (i : ℕ) → i < length g.basis → P (corner_multiple g row i)
  multiple_poly row i l = poly_mul g.curve.prime g.curve.variables (value_of g row) (polynomial_of (corner g i)) (positive_of_prime g.curve.prime s.prime) (row_poly row) (corner_poly g s i l)

  -- times the corner 1
  pub first_multiple : (row : List ℕ) (i : ℕ) → IsDigitRow g row → corner g i ≡ unit → IsDigitsOf g (corner_multiple g row i) row
  first_multiple row i h e =
      subst (λ z. IsDigitsOf g z row)
      (sym (ap (λ m. mul g.curve.prime (value_of g row) (polynomial_of m)) e ∙ times_one (Ring (data_of g.curve) (finite g s).curve) (member (data_of g.curve) (finite g s).curve (value_of g row) (row_poly row))))
      ((laws g s).row row h).1

  -- times a corner, from a corner before it
  pub next_multiple : (row before made : List ℕ) (i j v : ℕ) → i < length g.basis → j < length g.basis → v < g.curve.variables → times (corner g j) (variable v) ≡ corner g i
      → IsDigitsOf g (corner_multiple g row j) before → IsDigitsOf g (times_variable g v (value_of g before)) made → IsDigitsOf g (corner_multiple g row i) made
  next_multiple row before made i j v li lj lv e d m =
      let A = data_of g.curve in
      let c = (finite g s).curve in
      let x = member A c (polynomial_of (variable v)) (variable_poly g s v lv) in
      let b = member A c (value_of g row) (row_poly row) in
      let w = member A c (polynomial_of (corner g j)) (corner_poly g s j lj) in
      let same : mul g.curve.prime (polynomial_of (variable v)) (corner_multiple g row j) ≡ corner_multiple g row i =
      moved (Ring A c) x b w
      ∙ ap (mul g.curve.prime (value_of g row)) (sym (mono_product A (finite g s) g.basis s.corners g.depth (corner g j) (variable v)) ∙ ap polynomial_of e) in
      subst (λ z. IsDigitsOf g z made) same ((laws g s).product (polynomial_of (variable v)) (corner_multiple g row j) before made (variable_poly g s v lv) (multiple_poly row j lj) d m)

  -- the rows of multiples, in order
  pub multiples_in_order : (q : List Term) (a : List ℕ) (rows : List (List ℕ)) → AreMultiples g q rows → HasMultiples g q a (rows_from rows None 0)
  multiples_in_order q a rows h i l =
      inr (subst (λ k. AreFirstDigits g (mul g.curve.prime q (polynomial_of (corner g i))) (get_or rows k [])) (let w : i ≡ 0 + i = omega arith in w)
      (whole_row g (mul g.curve.prime q (polynomial_of (corner g i))) (get_or rows i []) (h i l)))

  pub multiples_within : (rows : List (List ℕ)) → length rows ≡ length g.basis → ((i : ℕ) → i < length g.basis → IsDigitRow g (get_or rows i []))
      → (i : ℕ) → i < length g.basis → IsWithin g.curve.prime (length g.basis) rows (Border (0 + i))
  multiples_within rows e h i l = (omega arith, subst (λ k. AreResidues g.curve.prime (get_or rows k [])) (let w : i ≡ 0 + i = omega arith in w) (h i l).1)

  -- one row more
  pub more_rows : (row made : List ℕ) (rows new : List (List ℕ)) (i : ℕ) → length rows ≡ i → new ≡ rows ++ made ∷ []
      → ((k : ℕ) → k < i → IsDigitsOf g (corner_multiple g row k) (get_or rows k [])) → IsDigitsOf g (corner_multiple g row i) made
      → (k : ℕ) → k < i + 1 → IsDigitsOf g (corner_multiple g row k) (get_or new k [])
  more_rows row made rows new i e n h d k l = subst (λ z. IsDigitsOf g (corner_multiple g row k) (get_or z k [])) (sym n) (⊎_elim
      (λ q. subst (IsDigitsOf g (corner_multiple g row k)) (sym (get_or_append_left rows (made ∷ []) [] k (omega arith))) (h k q))
      (λ q. let same : k ≡ length rows = omega arith in
      subst (λ m. IsDigitsOf g (corner_multiple g row m) (get_or (rows ++ made ∷ []) m [])) (sym same)
      (subst (IsDigitsOf g (corner_multiple g row (length rows))) (sym (get_or-append_seam rows made [] [])) (subst (λ m. IsDigitsOf g (corner_multiple g row m) made) (sym e) d)))
      (cases_lt k i))
