-- Rows of digits at depth 1 as classes of polynomials modulo I and d.
use Rattle.std.proofs.Common.{◌≡◌, ℕ, ◌+◌, ◌-◌, ◌*◌, ◌%◌, ◌<◌, List, [], ◌∷◌, map, length, get_or, sym, ap, ◌∙◌, subst, arith, mod-eq_of_lt}
use Rattle.std.specs.List.{AllZip, Contains, range_with_len}
use Rattle.std.proofs.lemmas.List.Elements.{All-head, All-tail}
use Rattle.std.proofs.lemmas.Slice.Zip.{AllZip-long}
use Rattle.comm_ring.specs.Modules.{ModuleOps, combine, combination}
use Rattle.comm_ring.specs.Rows.{rows}
use Rattle.comm_ring.proofs.Modules as Modules
use Rattle.comm_ring.proofs.Residues.{residues}
use Rattle.comm_ring.proofs.Rows.{row_module, equal_rows}
use Rattle.prime_field.proofs.Table.{positive_of_prime, above_one}
use Rattle.monomials.specs.Mono.{Monomial}
use Rattle.polys.specs.declared.term.Term.{Term}
use Rattle.polys.specs.Terms.{IsPoly, one, sub, mul, multiple}
use Rattle.polys.specs.Ideal.{number_combination}
use Rattle.polys.specs.Curve.{CurveData}
use Rattle.polys.proofs.Affine.{poly_none, poly_multiple, poly_one, sevens_of}
use Rattle.polys.proofs.Sums.{mul_comm}
use Rattle.polys.proofs.Units.{mul_one}
use Rattle.ideal_laws.proofs.Ideals.{in_none, in_sub, in_more, in_head, in_generator}
use Rattle.curve_model.specs.Fraction.{denominator_power}
use Rattle.curve_model.specs.Laws.{IsFinite, ArePolys}
use Rattle.curve_model.specs.OneExponent.{InPower}
use Rattle.row_space.specs.Echelon.{IsRow}
use Rattle.digit_laws.specs.Digits.{AreCornersOf, value, AreDigits}
use Rattle.digit_laws.specs.Laws.{DigitsAreCoordinates}
use Rattle.digit_laws.proofs.DigitLaws.{digit_law, numbers_poly, value_poly, row_fits, row_digits}
use native.Mathlib.Nat.{zero-mod}

-- p - 1 times a row is its opposite
opposite_row : (p width : ℕ) → 1 < p → (positive : 0 < p) → (y : List ℕ) → (rows p width).◌≋◌ ((rows p width).◌·◌ (p - 1) y) ((rows p width).opposite y)
opposite_row p width high positive y = let R = row_module p positive width in R.trans (R.scale_cong {x = y} {x' = y} same (R.rfl y)) (Modules.opposite_is (residues p positive) R y)
  where
    same : (p - 1) % p ≡ ((p - 1 % p) % p) % p
    same =
        let one : 1 % p ≡ 1 = mod-eq_of_lt high in
        let less : (p - 1) % p ≡ p - 1 = mod-eq_of_lt (omega arith) in
        sym (ap (λ z. ((p - z) % p) % p) one ∙ ap (λ z. z % p) less)

module _ (A : CurveData) (c : IsFinite A) (ms : List Monomial) (k : AreCornersOf A ms) where
  pub pos : 0 < A.prime
  pos = positive_of_prime A.prime c.curve.prime

  pub high : 1 < A.prime
  high = above_one A.prime c.curve.prime

  abbrev pub P : List Term → Type 0
  P f = IsPoly A.prime A.variables f

  abbrev pub D : List Term → List ℕ → Type 0
  D f x = AreDigits A ms 1 f x

  abbrev pub W : ℕ
  W = length ms * 1

  abbrev pub V : ModuleOps ℕ
  V = rows A.prime (length ms * 1)

  abbrev pub RM : Modules.Module (residues A.prime (positive_of_prime A.prime c.curve.prime))
  RM = row_module A.prime (positive_of_prime A.prime c.curve.prime) (length ms * 1)

  pub laws : DigitsAreCoordinates A ms 1
  laws = digit_law A c ms k 1

  pub one_is_poly : P one
  one_is_poly = poly_one A.prime A.variables high

  -- ---- what is 0 modulo I and d

  zero_row : (row : List ℕ) → V.◌·◌ 0 row ≡ V.origin
  zero_row row = ap (λ f. map f (range_with_len 0 W)) (λ j i. z i j)
    where
      z : (i : ℕ) → (0 * get_or row i 0) % A.prime ≡ 0
      z i = let e : 0 * get_or row i 0 ≡ 0 = omega arith in ap (λ n. n % A.prime) e ∙ zero-mod A.prime

  pub none_digits : D [] V.origin
  none_digits =
      let r = laws.exist [] (poly_none A.prime A.variables) in
      subst (D []) (zero_row r.0) (laws.multiple 0 [] r.0 (poly_none A.prime A.variables) r.1)

  pub zero_digits : (f : List Term) → P f → InPower A 1 f → D f V.origin
  zero_digits f hf i = laws.same [] f V.origin (poly_none A.prime A.variables) hf
      (in_sub A.prime A.variables (denominator_power A 1 ∷ A.ideal) [] f pos hf (in_none A.prime A.variables (denominator_power A 1 ∷ A.ideal)) i) none_digits

  pub ideal_zero : (f : List Term) → Contains A.ideal f → InPower A 1 f
  ideal_zero f m = in_more A.prime A.variables (denominator_power A 1) A.ideal f (in_generator A.prime A.variables A.ideal f high c.curve.ideal m)

  pub power_is : denominator_power A 1 ≡ A.denominator
  power_is = mul_one A.prime A.denominator c.curve.denominator.canonical (sevens_of A.prime A.variables A.denominator c.curve.denominator)

  pub denominator_zero : InPower A 1 A.denominator
  denominator_zero = subst (InPower A 1) power_is
      (in_head A.prime A.variables (denominator_power A 1) A.ideal high (subst P (sym power_is) c.curve.denominator))

  -- ---- differences, combinations and lists

  pub sub_digits : (f h : List Term) (x y : List ℕ) → P f → P h → D f x → D h y → D (sub A.prime f h) (V.◌⊞◌ x (V.opposite y))
  sub_digits f h x y hf hh r s =
      let p = A.prime in
      let z : List ℕ = V.◌·◌ (p - 1) y in
      let out : List ℕ = V.◌⊞◌ x (V.opposite y) in
      let t = laws.sum f (multiple p (p - 1) h) x z hf (poly_multiple p A.variables (p - 1) h pos hh) r (laws.multiple (p - 1) h y hh s) in
      let fits = row_fits A c ms k 1 (λ i. get_or x i 0 + get_or (V.opposite y) i 0) in
      subst (D (sub p f h)) (equal_rows p W (V.◌⊞◌ x z) out t.fits.0 fits.0 t.fits.1 fits.1
      (RM.add_cong {x = x} {x' = x} {y = z} {y' = V.opposite y} (RM.rfl x) (opposite_row p W high pos y))) t

  pub listed : (us : List (List Term)) → ArePolys A us → (gs : List (List ℕ)) × AllZip D us gs
  listed [] h = ([], tt)
  listed (u ∷ us) h =
      let r = laws.exist u (All-head P u us h) in
      let t = listed us (All-tail P u us h) in
      (r.0 ∷ t.0, (r.1, t.1))

  pub combination_digits : (us : List (List Term)) (gs : List (List ℕ)) → AllZip D us gs → ArePolys A us → (cs : List ℕ)
      → D (number_combination A.prime cs us) (combination V cs gs)
  unfolding combine
  combination_digits us gs z h [] = none_digits
  combination_digits [] [] z h (e ∷ cs) = none_digits
  combination_digits [] (y ∷ gs) z h (e ∷ cs) = absurd z
  combination_digits (u ∷ us) [] z h (e ∷ cs) = absurd z
  combination_digits (u ∷ us) (y ∷ gs) z h (e ∷ cs) =
      let p = A.prime in
      let hu = All-head P u us h in
      laws.sum (multiple p e u) (number_combination p cs us) (V.◌·◌ e y) (combination V cs gs) (poly_multiple p A.variables e u pos hu)
      (numbers_poly A c ms k cs us (All-tail P u us h)) (laws.multiple e u y hu z.0) (combination_digits us gs z.1 (All-tail P u us h) cs)

  pub numbers : (cs : List ℕ) (us : List (List Term)) → ArePolys A us → P (number_combination A.prime cs us)
  numbers cs us h = numbers_poly A c ms k cs us h

  pub as_long : (us : List (List Term)) (gs : List (List ℕ)) → AllZip D us gs → length gs ≡ length us
  as_long us gs z = AllZip-long D us gs z

  -- ---- values of rows

  pub val_poly : (x : List ℕ) → P (value A ms 1 x)
  val_poly x = value_poly A c ms k 1 x

  pub own : (x : List ℕ) → IsRow A.prime (length ms * 1) x → D (value A ms 1 x) x
  own x h = row_digits A c ms k 1 x h

  pub normal_fits : (x : List ℕ) → IsRow A.prime (length ms * 1) (V.◌·◌ 1 x)
  normal_fits x = row_fits A c ms k 1 (λ i. 1 * get_or x i 0)

  -- a product of rows may be worked with any polynomials that have their digits
  module _ (times : List ℕ → List ℕ → List ℕ)
      (product : (x y : List ℕ) → IsRow A.prime (length ms * 1) x → IsRow A.prime (length ms * 1) y → D (mul A.prime (value A ms 1 x) (value A ms 1 y)) (times x y)) where
    pub times_digits : (f h : List Term) (x y : List ℕ) → P f → P h → D f x → D h y → D (mul A.prime f h) (times x y)
    times_digits f h x y hf hh r s =
        let vx = value A ms 1 x in
        let half : D (mul A.prime vx h) (times x y) = laws.product vx h y (times x y) (value_poly A c ms k 1 x) hh s (product x y r.fits s.fits) in
        subst (λ z. D z (times x y)) (mul_comm A.prime h f)
        (laws.product h f x (times x y) hh hf r (subst (λ z. D z (times x y)) (mul_comm A.prime vx h) half))
