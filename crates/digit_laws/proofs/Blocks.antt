-- Blocks of digits and depths.
use Rattle.std.proofs.Common.{◌≡◌, ℕ, zero, suc, ◌+◌, ◌*◌, ◌<◌, List, [], ◌∷◌, ◌++◌, map, length, take, drop, replicate, All, refl, sym, ap, ap₂, ◌∙◌, subst, arith, mul-add}
use Rattle.std.proofs.lemmas.List.{length-map, length-append, length-replicate, length-take-le, take-append-drop}
use Rattle.std.proofs.lemmas.List.Elements.{All-nil, All-cons, All-head, All-tail, All-append}
use Rattle.comm_ring.specs.Ring.{CommRing, pow}
use Rattle.comm_ring.proofs.Derived.{pow-add}
use Rattle.comm_ring.proofs.Quote.{ring, quote}
use Rattle.fraction_laws.proofs.FractionRing.{cancel_two}
use Rattle.monomials.specs.Mono.{Monomial, unit}
use Rattle.polys.specs.declared.term.Term.{Term}
use Rattle.polys.specs.Terms.{IsPoly, keep, add, sub, mul, multiple}
use Rattle.polys.specs.Ideal.{number_combination}
use Rattle.polys.specs.Curve.{CurveData}
use Rattle.polys.proofs.Affine.{mul_constant, sevens_of, positive}
use Rattle.ideal_laws.proofs.Ideals.{in_add}
use Rattle.curve_model.specs.Laws.{IsFinite, ArePolys}
use Rattle.curve_model.specs.OneExponent.{InPower}
use Rattle.curve_laws.proofs.Base.{high, Ring, Poly, d, Q, Curve, member}
use Rattle.curve_laws.proofs.Locals.{taken_up, taken_down}
use Rattle.curve_laws.proofs.Regulars.{regular_curve}
use Rattle.standard_monomials.specs.Standard.{polynomial_of}
use Rattle.row_space.specs.Echelon.{IsRow}
use Rattle.digit_laws.specs.Digits.{AreCornersOf, spread, places, value, AreDigits}
use Rattle.digit_laws.specs.Laws.{BlockLaws}
use Rattle.digit_laws.proofs.DigitLaws.{U, span, times_polys, place_polys, appended, pushed, numbers_poly, value_poly}
use native.Mathlib.Nat.{zero-mod}
use Rattle.curve_model.specs.Fraction.{denominator_power}

module _ (C : CommRing) where
  open C use {ops, carrier, ◌≈◌, ◌⊕◌, ◌⊗◌, neg, 𝟘, 𝟙}

  infix 40 ◌≈◌
  infixl 60 ◌⊕◌
  infixl 70 ◌⊗◌
  taken_out : (e f v : carrier) → e ⊗ f ⊕ neg (e ⊗ v) ≈ e ⊗ (f ⊕ neg v)
  taken_out e f v = ring C (e ∷ f ∷ v ∷ []) (search quote depth 20) tt

  higher : (e x z : carrier) (T : ℕ) → x ≈ z ⊗ pow ops e T → e ⊗ x ≈ z ⊗ pow ops e (suc T)
  unfolding pow
  higher e x z T h = C.trans (C.mul_cong (C.rfl e) h) (over (pow ops e T))
    where
      over : (y : carrier) → e ⊗ (z ⊗ y) ≈ z ⊗ (e ⊗ y)
      over y = ring C (e ∷ z ∷ y ∷ []) (search quote depth 20) tt

  -- what d times is a multiple of d^(T+1) is a multiple of d^T
  lower : (e x z : carrier) (T : ℕ) → ((y : carrier) → pow ops e 1 ⊗ x ≈ pow ops e 1 ⊗ y → x ≈ y) → e ⊗ x ≈ z ⊗ pow ops e (suc T) → x ≈ z ⊗ pow ops e T
  unfolding pow
  lower e x z T cancel h = cancel (z ⊗ pow ops e T) (C.trans (C.mul_cong (C.mul_one e) (C.rfl x)) (C.trans h (over (pow ops e T))))
    where
      over : (y : carrier) → z ⊗ (e ⊗ y) ≈ (e ⊗ 𝟙) ⊗ (z ⊗ y)
      over y = ring C (e ∷ z ∷ y ∷ []) (search quote depth 20) tt

  fewer : (e x z : carrier) (T s : ℕ) → x ≈ z ⊗ pow ops e (T + s) → x ≈ (z ⊗ pow ops e s) ⊗ pow ops e T
  fewer e x z T s h = C.trans h (C.trans (C.mul_cong (C.rfl z) (pow-add C e T s)) (over (pow ops e T) (pow ops e s)))
    where
      over : (y w : carrier) → z ⊗ (y ⊗ w) ≈ (z ⊗ w) ⊗ y
      over y w = ring C (z ∷ y ∷ w ∷ []) (search quote depth 20) tt

  by_block : (f a g w e : carrier) → (f ⊕ neg (a ⊕ e ⊗ g)) ⊕ e ⊗ (g ⊕ neg w) ≈ f ⊕ neg (a ⊕ e ⊗ w)
  by_block f a g w e = ring C (f ∷ a ∷ g ∷ w ∷ e ∷ []) (search quote depth 20) tt

  one_block : (a g w e : carrier) → (a ⊕ e ⊗ g) ⊕ neg (a ⊕ e ⊗ w) ≈ e ⊗ (g ⊕ neg w)
  one_block a g w e = ring C (a ∷ g ∷ w ∷ e ∷ []) (search quote depth 20) tt

  by_way : (f v w : carrier) → (f ⊕ neg v) ⊕ (v ⊕ neg w) ≈ f ⊕ neg w
  by_way f v w = ring C (f ∷ v ∷ w ∷ []) (search quote depth 20) tt

  all_multiples : (e x : carrier) → x ≈ x ⊗ pow ops e 0
  unfolding pow
  all_multiples e x = C.symm (C.mul_one x)

  none_first : (x : carrier) → 𝟘 ⊕ x ≈ x
  none_first x = ring C (x ∷ []) (search quote depth 20) tt

module _ (A : CurveData) (c : IsFinite A) where
  pub multiple_none : (f : List Term) → IsPoly A.prime A.variables f → multiple A.prime 0 f ≡ []
  multiple_none f hf = sym (mul_constant A.prime 0 f (sevens_of A.prime A.variables f hf)) ∙ ap (λ z. mul A.prime (keep z unit []) f) (zero-mod A.prime)

  pub zeros_combine : (n : ℕ) (us : List (List Term)) → ArePolys A us → number_combination A.prime (replicate n 0) us ≡ []
  zeros_combine zero us h = refl
  zeros_combine (suc n) [] h = refl
  zeros_combine (suc n) (u ∷ us) h = ap₂ (add A.prime) (multiple_none u (All-head (IsPoly A.prime A.variables) u us h)) (zeros_combine n us (All-tail (IsPoly A.prime A.variables) u us h))

module _ (A : CurveData) (c : IsFinite A) (ms : List Monomial) (k : AreCornersOf A ms) where
  pos : 0 < A.prime
  pos = positive A.prime (high A c.curve)

  abbrev P : List Term → Type 0
  P f = IsPoly A.prime A.variables f

  -- the value of a first block and the others
  pub split : (T : ℕ) (a b : List ℕ) → length a ≡ length ms
      → value A ms (suc T) (a ++ b) ≡ add A.prime (number_combination A.prime a (U A c ms k)) (mul A.prime A.denominator (value A ms T b))
  unfolding spread
  split T a b l =
      appended A c ms k a b (U A c ms k) (map (mul A.prime A.denominator) (places A ms T)) (span A c ms k).polys (times_polys A c ms k (places A ms T) (place_polys A c ms k T)) (l ∙ sym (length-map ms polynomial_of))
      ∙ ap (add A.prime (number_combination A.prime a (U A c ms k))) (pushed A c ms k b (places A ms T) (place_polys A c ms k T))

  abbrev V : (T : ℕ) (row : List ℕ) → Poly A c.curve
  V T row = member A c.curve (value A ms T row) (value_poly A c ms k T row)

  shifted : (T : ℕ) (row : List ℕ) → value A ms (suc T) (replicate (length ms) 0 ++ row) ≡ mul A.prime A.denominator (value A ms T row)
  shifted T row = split T (replicate (length ms) 0) row (length-replicate (length ms) 0)
      ∙ ap (λ z. add A.prime z (mul A.prime A.denominator (value A ms T row))) (zeros_combine A c (length ms) (U A c ms k) (span A c ms k).polys)
      ∙ none_first (Ring A c.curve) ((Ring A c.curve).◌⊗◌ (d A c.curve) (V T row))

  pub zeros_row : (n : ℕ) → All (λ e. e < A.prime) (replicate n 0)
  zeros_row zero = All-nil (λ e. e < A.prime)
  zeros_row (suc n) = All-cons (λ e. e < A.prime) 0 (replicate n 0) pos (zeros_row n)

  longer : (T : ℕ) (row : List ℕ) → IsRow A.prime (length ms * T) row → IsRow A.prime (length ms * suc T) (replicate (length ms) 0 ++ row)
  longer T row h = (
    (let a : length {A = ℕ} (replicate (length ms) 0 ++ row) ≡ length {A = ℕ} (replicate (length ms) 0) + length row = length-append (replicate (length ms) 0) row in let b : length {A = ℕ} (replicate (length ms) 0) ≡ length ms = length-replicate (length ms) 0 in let e : length row ≡ length ms * T = h.0 in let q : length ms * suc T ≡ length ms + length ms * T = omega arith in omega arith),
    All-append (λ e. e < A.prime) (replicate (length ms) 0) row (zeros_row (length ms)) h.1,
  )

  up_by_d : (T : ℕ) (f : List Term) (row : List ℕ) → P f → AreDigits A ms T f row → AreDigits A ms (suc T) (mul A.prime A.denominator f) (replicate (length ms) 0 ++ row)
  up_by_d T f row hf a =
      let x = member A c.curve f hf in
      let y = (Q A c.curve).◌⊕◌ x ((Q A c.curve).neg (V T row)) in
      let t = taken_up A c.curve T y a.close in
      let e = (Q A c.curve).◌⊗◌ (d A c.curve) y in
      record {
        fits = longer T row a.fits;
        close = subst (λ z. InPower A (suc T) (sub A.prime (mul A.prime A.denominator f) z)) (sym (shifted T row))
            (subst (InPower A (suc T)) (sym (taken_out (Ring A c.curve) (d A c.curve) x (V T row)))
            (taken_down A c.curve (suc T) e (t.0, higher (Curve A c.curve) (d A c.curve) y t.0 T t.1)));
      }

  down_by_d : (T : ℕ) (f : List Term) (row : List ℕ) → P f → AreDigits A ms (suc T) (mul A.prime A.denominator f) (replicate (length ms) 0 ++ row) → AreDigits A ms T f row
  down_by_d T f row hf a =
      let x = member A c.curve f hf in
      let y = (Q A c.curve).◌⊕◌ x ((Q A c.curve).neg (V T row)) in
      let e = (Q A c.curve).◌⊗◌ (d A c.curve) y in
      let t = taken_up A c.curve (suc T) e (subst (InPower A (suc T)) (taken_out (Ring A c.curve) (d A c.curve) x (V T row))
      (subst (λ z. InPower A (suc T) (sub A.prime (mul A.prime A.denominator f) z)) (shifted T row) a.close)) in
      record {
        fits = shorter (length ms) T row a.fits;
        close = taken_down A c.curve T y (t.0, lower (Curve A c.curve) (d A c.curve) y t.0 T (λ z h. cancel_two (Curve A c.curve) (d A c.curve) (regular_curve A c.curve) 1 y z h) t.1);
      }
    where
      residues : (n : ℕ) (row : List ℕ) → All (λ e. e < A.prime) (replicate n 0 ++ row) → All (λ e. e < A.prime) row
      residues zero row h = h
      residues (suc n) row h = residues n row (All-tail (λ e. e < A.prime) 0 (replicate n 0 ++ row) h)

      shorter : (n T : ℕ) (row : List ℕ) → IsRow A.prime (n * suc T) (replicate n 0 ++ row) → IsRow A.prime (n * T) row
      shorter n T row h = (
        (let a : length {A = ℕ} (replicate n 0 ++ row) ≡ length {A = ℕ} (replicate n 0) + length row = length-append (replicate n 0) row in let b : length {A = ℕ} (replicate n 0) ≡ n = length-replicate n 0 in let e : length {A = ℕ} (replicate n 0 ++ row) ≡ n * suc T = h.0 in let q : n * suc T ≡ n + n * T = omega arith in omega arith),
        residues n row h.1,
      )

  -- ---- smaller depths

  weaker : (T s : ℕ) (x : Poly A c.curve) → InPower A (T + s) x.terms → InPower A T x.terms
  weaker T s x h = let t = taken_up A c.curve (T + s) x h in
      taken_down A c.curve T x ((Q A c.curve).◌⊗◌ t.0 (pow (Q A c.curve) (d A c.curve) s), fewer (Curve A c.curve) (d A c.curve) x t.0 T s t.1)

  take_more : (a b : List ℕ) (n m t : ℕ) → length a ≡ n → t ≡ n + m → take t (a ++ b) ≡ a ++ take m b
  take_more [] b n m t l e = ap (λ z. take z b) (let q : length {A = ℕ} [] ≡ n = l in let w : t ≡ m = omega arith in w)
  take_more (x ∷ a) b zero m t l e = absurd (omega arith)
  take_more (x ∷ a) b (suc n) m zero l e = absurd (omega arith)
  take_more (x ∷ a) b (suc n) m (suc t) l e = ap (λ z. x ∷ z) (take_more a b n m t (let q : length (x ∷ a) ≡ suc n = l in omega arith) (let q : suc t ≡ suc n + m = e in omega arith))

  residues_drop : (n : ℕ) (row : List ℕ) → All (λ e. e < A.prime) row → All (λ e. e < A.prime) (drop n row)
  residues_drop zero row h = h
  residues_drop (suc n) [] h = h
  residues_drop (suc n) (e ∷ row) h = residues_drop n row (All-tail (λ z. z < A.prime) e row h)

  residues_take : (n : ℕ) (row : List ℕ) → All (λ e. e < A.prime) row → All (λ e. e < A.prime) (take n row)
  residues_take zero row h = All-nil (λ e. e < A.prime)
  residues_take (suc n) [] h = All-nil (λ e. e < A.prime)
  residues_take (suc n) (e ∷ row) h = All-cons (λ z. z < A.prime) e (take n row) (All-head (λ z. z < A.prime) e row h) (residues_take n row (All-tail (λ z. z < A.prime) e row h))

  front : (T s D : ℕ) → D ≡ T + s → (row : List ℕ) → IsRow A.prime (length ms * D) row → InPower A T (sub A.prime (value A ms D row) (value A ms T (take (length ms * T) row)))
  front zero s D q row h =
      let x = (Q A c.curve).◌⊕◌ (V D row) ((Q A c.curve).neg (V 0 (take (length ms * 0) row))) in
      taken_down A c.curve 0 x (x, all_multiples (Curve A c.curve) (d A c.curve) x)
  front (suc T) s zero q row h = absurd (omega arith)
  front (suc T) s (suc D) q row h =
      let N = length ms in
      let a = take (length ms) row in
      let b = drop (length ms) row in
      let whole : a ++ b ≡ row = take-append-drop (length ms) row in
      let e : length row ≡ length ms * suc D = h.0 in
      let wide : length ms * suc D ≡ length ms + length ms * D = omega arith in
      let la : length a ≡ length ms = length-take-le (length ms) row (omega arith) in
      let lb : length a + length b ≡ length row = sym (length-append a b) ∙ ap length whole in
      let fits : IsRow A.prime (length ms * D) b = ((omega arith), residues_drop (length ms) row h.1) in
      let w = take (length ms * T) b in
      let first : value A ms (suc D) row ≡ add A.prime (number_combination A.prime a (U A c ms k)) (mul A.prime A.denominator (value A ms D b)) = ap (value A ms (suc D)) (sym whole) ∙ split D a b la in
      let low : take (length ms * suc T) row ≡ a ++ w = ap (take (length ms * suc T)) (sym whole) ∙ take_more a b (length ms) (length ms * T) (length ms * suc T) la (omega arith) in
      let second : value A ms (suc T) (take (length ms * suc T) row) ≡ add A.prime (number_combination A.prime a (U A c ms k)) (mul A.prime A.denominator (value A ms T w)) = ap (value A ms (suc T)) low ∙ split T a w la in
      let n = member A c.curve (number_combination A.prime a (U A c ms k)) (numbers_poly A c ms k a (U A c ms k) (span A c ms k).polys) in
      let y = (Q A c.curve).◌⊕◌ (V D b) ((Q A c.curve).neg (V T w)) in
      let t = taken_up A c.curve T y (front T s D (let z : suc D ≡ suc T + s = q in omega arith) b fits) in
      let x = (Q A c.curve).◌⊗◌ (d A c.curve) y in
      subst (InPower A (suc T)) (sym (ap₂ (sub A.prime) first second ∙ one_block (Ring A c.curve) n (V D b) (V T w) (d A c.curve)))
      (taken_down A c.curve (suc T) x (t.0, higher (Curve A c.curve) (d A c.curve) y t.0 T t.1))

  truncated : (T s : ℕ) (f : List Term) (row : List ℕ) → P f → AreDigits A ms (T + s) f row → AreDigits A ms T f (take (length ms * T) row)
  truncated T s f row hf a =
      let x = member A c.curve f hf in
      let v = V (T + s) row in
      let w = V T (take (length ms * T) row) in
      let y = (Q A c.curve).◌⊕◌ x ((Q A c.curve).neg v) in
      let wide : length ms * (T + s) ≡ length ms * T + length ms * s = mul-add (length ms) T s in
      record {
        fits = (length-take-le (length ms * T) row (let e : length row ≡ length ms * (T + s) = a.fits.0 in omega arith), residues_take (length ms * T) row a.fits.1);
        close = subst (InPower A T) (by_way (Ring A c.curve) x v w)
            (in_add A.prime A.variables (denominator_power A T ∷ A.ideal) (sub A.prime f (value A ms (T + s) row)) (sub A.prime (value A ms (T + s) row) (value A ms T (take (length ms * T) row))) pos
            (weaker T s y a.close) (front T s (T + s) refl row a.fits));
      }

  put_before : (T : ℕ) (f g : List Term) (a b : List ℕ) → P f → P g → IsRow A.prime (length ms) a → AreDigits A ms T g b
      → InPower A (suc T) (sub A.prime f (add A.prime (number_combination A.prime a (U A c ms k)) (mul A.prime A.denominator g))) → AreDigits A ms (suc T) f (a ++ b)
  put_before T f g a b hf hg ha r i =
      let x = member A c.curve f hf in
      let z = member A c.curve g hg in
      let n = member A c.curve (number_combination A.prime a (U A c ms k)) (numbers_poly A c ms k a (U A c ms k) (span A c ms k).polys) in
      let y = (Q A c.curve).◌⊕◌ z ((Q A c.curve).neg (V T b)) in
      let t = taken_up A c.curve T y r.close in
      let e = (Q A c.curve).◌⊗◌ (d A c.curve) y in
      record {
        fits = (
          (let p : length (a ++ b) ≡ length a + length b = length-append a b in let m : length a ≡ length ms = ha.0 in let q : length b ≡ length ms * T = r.fits.0 in let w : length ms * suc T ≡ length ms + length ms * T = omega arith in omega arith),
          All-append (λ z. z < A.prime) a b ha.1 r.fits.1,
        );
        close = subst (λ v. InPower A (suc T) (sub A.prime f v)) (sym (split T a b ha.0))
            (subst (InPower A (suc T)) (by_block (Ring A c.curve) x n z (V T b) (d A c.curve))
            (in_add A.prime A.variables (denominator_power A (suc T) ∷ A.ideal) (sub A.prime f (add A.prime (number_combination A.prime a (U A c ms k)) (mul A.prime A.denominator g))) ((Q A c.curve).◌⊗◌ (d A c.curve) y).terms pos i
            (taken_down A c.curve (suc T) e (t.0, higher (Curve A c.curve) (d A c.curve) y t.0 T t.1))));
      }

pub block_law : BlockLaws
block_law A c ms k = record { truncated = truncated A c ms k; append = put_before A c ms k; up = λ T f row hf. (up_by_d A c ms k T f row hf, down_by_d A c ms k T f row hf) }
