-- What is known of an ideal by its first blocks of digits, and of the monomials that the program has tried.
use Rattle.std.proofs.Common.{◌≡◌, ◌⊎◌, ℕ, ◌+◌, ◌-◌, ◌*◌, ◌<◌, ◌≤◌, List, [], ◌∷◌, ◌++◌, map, length, get_or, take, sym, ap, ◌∙◌, subst, arith, mul-le-mul, ⊎_elim}
use Rattle.std.proofs.lemmas.Bool.{cases_lt}
use Rattle.std.proofs.lemmas.List.{get_or_append_left, get_or-append-add, get_or-map, get_or_push, length-append, length_push}
use Rattle.prime_field.proofs.Table.{above_one}
use Rattle.monomials.specs.Mono.{Monomial, times, unit, variable}
use Rattle.monomials.proofs.Order.{times_comm}
use Rattle.polys.specs.declared.term.Term.{Term}
use Rattle.polys.specs.Terms.{IsAffine, IsPoly, normal}
use Rattle.polys.specs.Curve.{CurveData, data_of}
use Rattle.curve_model.specs.Laws.{IsFinite}
use Rattle.curve_laws.proofs.FitLaws.{fit_law}
use Rattle.row_space.specs.Subspace.{Subspace, IsReduced}
use Rattle.standard_monomials.specs.Standard.{polynomial_of}
use Rattle.standard_monomials.proofs.Minimal.{one_term}
use Rattle.standard_monomials.proofs.Powers.{affine_power}
use Rattle.standard_monomials.proofs.Unique.{unique_law}
use Rattle.digit_laws.specs.Digits.{AreDigits}
use Rattle.digit_laws.specs.Laws.{DigitsAreCoordinates, BlocksAreDepths, SpaceIsIdeal}
use Rattle.digit_laws.proofs.Blocks.{block_law}
use Rattle.digit_laws.proofs.DigitLaws.{digit_law}
use Rattle.digit_laws.proofs.Spaces.{affine_poly, mono_product, spaces_law}
use Rattle.digit_space.specs.Model.{DigitData, IsDigitSpace, IsDigitsOf, times_variable, value_of}
use Rattle.corner_basis.specs.Fronts.{IsFrontIdeal}
use Rattle.corner_basis.specs.Tried.{HaveDigits}

module _ (g : DigitData) (s : IsDigitSpace g) where
  pub finite : IsFinite (data_of g.curve)
  finite = fit_law g.curve s.prime s.fit

  laws : DigitsAreCoordinates (data_of g.curve) g.basis g.depth
  laws = digit_law (data_of g.curve) finite g.basis s.corners g.depth

  blocks : BlocksAreDepths (data_of g.curve) g.basis
  blocks = block_law (data_of g.curve) finite g.basis s.corners

  -- the corners are as many as the dimension of a fit curve
  few : length g.basis ≤ 256
  few =
      let A = data_of g.curve in
      let n = s.fit.finite.1 in
      subst (λ k. k ≤ 256) (unique_law.one A.prime A.variables (A.denominator ∷ A.ideal) s.fit.finite.0 (length g.basis) s.fit.finite.2 laws.dimension) n

  -- a row is not long
  pub front_small : (t : ℕ) → t ≤ g.depth → length g.basis * t ≤ 51200
  front_small t h = let d = s.shallow in let m = mul-le-mul few (let x : t ≤ 200 = omega arith in x) in omega arith

  pub monomial_poly : (m : Monomial) → IsAffine g.curve.variables m → IsPoly g.curve.prime g.curve.variables (polynomial_of m)
  monomial_poly m a = affine_poly (data_of g.curve) finite g.basis s.corners g.depth m a

  -- the first blocks of the digits
  pub front_digits : (t : ℕ) → t ≤ g.depth → (m : Monomial) → IsAffine g.curve.variables m → (row : List ℕ) → IsDigitsOf g (polynomial_of m) row
      → AreDigits (data_of g.curve) g.basis t (polynomial_of m) (take (length g.basis * t) row)
  front_digits t h m a row d =
      let e : g.depth ≡ t + (g.depth - t) = omega arith in
      blocks.truncated t (g.depth - t) (polynomial_of m) row (monomial_poly m a) (subst (λ z. AreDigits (data_of g.curve) g.basis z (polynomial_of m) row) e d)

  pub front_inside : (t : ℕ) → t ≤ g.depth → (f : List Term) (row : List ℕ) → IsDigitsOf g f row → length g.basis * t ≤ length row
  front_inside t h f row d = let l = d.fits.0 in let m = mul-le-mul (let x : length g.basis ≤ length g.basis = omega arith in x) h in omega arith

  -- the row of a monomial from that of a factor
  pub row_by : (w m : Monomial) (v : ℕ) (row out : List ℕ) → v < g.curve.variables → IsAffine g.curve.variables w → IsDigitsOf g (polynomial_of w) row → times w (variable v) ≡ m
      → IsDigitsOf g (times_variable g v (value_of g row)) out → IsDigitsOf g (polynomial_of m) out
  row_by w m v row out l a d e h =
      let x = laws.product (polynomial_of (variable v)) (polynomial_of w) row out (monomial_poly (variable v) (affine_power g.curve.variables v 1 l)) (monomial_poly w a) d h in
      subst (λ z. IsDigitsOf g z out)
      (sym (ap polynomial_of (sym e ∙ times_comm w (variable v)) ∙ mono_product (data_of g.curve) finite g.basis s.corners g.depth (variable v) w)) x

  -- the monomial as a polynomial of the program
  pub monomial_over : (m : Monomial) → IsAffine g.curve.variables m → IsPoly g.curve.prime g.curve.variables (normal g.curve.prime (polynomial_of m))
  monomial_over m a = subst (IsPoly g.curve.prime g.curve.variables) (sym (one_term g.curve.prime m (above_one g.curve.prime s.prime))) (monomial_poly m a)

  pub front_ideal : (t : ℕ) (space : Subspace) → IsFrontIdeal g t space → IsReduced space → SpaceIsIdeal (data_of g.curve) g.basis t space
  front_ideal t space i r = spaces_law (data_of g.curve) finite g.basis s.corners t space r.1.rows i

-- one more monomial with its row
pub digits_push : (g : DigitData) (ws : List Monomial) (rows : List (List ℕ)) (m : Monomial) (row : List ℕ) → HaveDigits g ws rows → IsDigitsOf g (polynomial_of m) row → HaveDigits g (ws ++ m ∷ []) (rows ++ row ∷ [])
digits_push g ws rows m row h d = record {
  count = (let a = length_push ws m in let b = length_push rows row in let c = h.count in omega arith);
  digits = each;
}
  where
    each : (i : ℕ) → i < length (ws ++ m ∷ []) → IsDigitsOf g (polynomial_of (get_or (ws ++ m ∷ []) i unit)) (get_or (rows ++ row ∷ []) i [])
    each i l = ⊎_elim
        (λ (a : i < length ws).
        subst (λ z. IsDigitsOf g (polynomial_of z) (get_or (rows ++ row ∷ []) i [])) (sym (get_or_append_left ws (m ∷ []) unit i a))
        (subst (IsDigitsOf g (polynomial_of (get_or ws i unit))) (sym (get_or_append_left rows (row ∷ []) [] i (let c = h.count in omega arith))) (h.digits i a)))
        (λ (a : length ws ≤ i).
        let e : length ws ≡ i = (let q = length_push ws m in omega arith) in
        subst (λ z. IsDigitsOf g (polynomial_of z) (get_or (rows ++ row ∷ []) i [])) (sym (get_or_push ws m unit i e))
        (subst (IsDigitsOf g (polynomial_of m)) (sym (get_or_push rows row [] i (let c = h.count in omega arith))) d))
        (cases_lt i (length ws))

-- the first entries of two lists of rows are those of the lists end to end
module _ (A : CurveData) (ms : List Monomial) (t n : ℕ) where
  abbrev Rows : List Monomial → List (List ℕ) → Type 0
  Rows ws rs = (i : ℕ) → i < length ws → AreDigits A ms t (polynomial_of (get_or ws i unit)) (get_or rs i [])

  pub rows_together : (ls ss : List Monomial) (xs ys : List (List ℕ)) → length xs ≡ length ls → length ys ≡ length ss
      → ((i : ℕ) → i < length ls → AreDigits A ms t (polynomial_of (get_or ls i unit)) (take n (get_or xs i [])))
      → ((i : ℕ) → i < length ss → AreDigits A ms t (polynomial_of (get_or ss i unit)) (take n (get_or ys i []))) → Rows (ls ++ ss) (map (take n) (xs ++ ys))
  rows_together ls ss xs ys a b x y i l = ⊎_elim left right (cases_lt i (length ls))
    where
      whole : length (xs ++ ys) ≡ length ls + length ss
      whole = let q = length-append xs ys in omega arith

      inside : i < length (xs ++ ys)
      inside = let q = whole in let r = length-append ls ss in omega arith

      at : get_or (map (take n) (xs ++ ys)) i [] ≡ take n (get_or (xs ++ ys) i [])
      at = get_or-map (take n) (xs ++ ys) i [] [] inside

      left : i < length ls → AreDigits A ms t (polynomial_of (get_or (ls ++ ss) i unit)) (get_or (map (take n) (xs ++ ys)) i [])
      left q =
          subst (λ z. AreDigits A ms t (polynomial_of z) (get_or (map (take n) (xs ++ ys)) i [])) (sym (get_or_append_left ls ss unit i q))
          (subst (AreDigits A ms t (polynomial_of (get_or ls i unit))) (sym (at ∙ ap (take n) (get_or_append_left xs ys [] i (omega arith)))) (x i q))

      right : length ls ≤ i → AreDigits A ms t (polynomial_of (get_or (ls ++ ss) i unit)) (get_or (map (take n) (xs ++ ys)) i [])
      right q =
          let k = i - length ls in
          let e : length ls + (i - length ls) ≡ i = omega arith in
          let f : length xs + (i - length ls) ≡ i = omega arith in
          let one : get_or (ls ++ ss) i unit ≡ get_or ss (i - length ls) unit = ap (λ z. get_or (ls ++ ss) z unit) (sym e) ∙ get_or-append-add ls ss (i - length ls) unit in
          let two : get_or (xs ++ ys) i [] ≡ get_or ys (i - length ls) [] = ap (λ z. get_or (xs ++ ys) z []) (sym f) ∙ get_or-append-add xs ys (i - length ls) [] in
          subst (λ z. AreDigits A ms t (polynomial_of z) (get_or (map (take n) (xs ++ ys)) i [])) (sym one)
          (subst (AreDigits A ms t (polynomial_of (get_or ss (i - length ls) unit))) (sym (at ∙ ap (take n) two)) (y (i - length ls) (let r = length-append ls ss in omega arith)))
