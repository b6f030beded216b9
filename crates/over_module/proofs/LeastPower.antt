-- The least power of d that serves a module.
use Rattle.std.proofs.Common.{◌≡◌, ℕ, zero, suc, ◌+◌, ◌-◌, ◌*◌, ◌<◌, ◌≤◌, List, length, get_or, All, sym, ap, ◌∙◌, subst, arith, mul-add}
use Rattle.monomials.specs.Mono.{Monomial}
use Rattle.polys.specs.declared.term.Term.{Term}
use Rattle.polys.specs.Terms.{IsPoly, sub}
use Rattle.polys.specs.Curve.{CurveData, data_of}
use Rattle.ideal_laws.proofs.Ideals.{in_more}
use Rattle.curve_model.specs.Fraction.{Fraction, IsFraction, EqualsOver, denominator_power, over}
use Rattle.curve_model.specs.Laws.{IsFinite}
use Rattle.curve_model.specs.OneExponent.{AreAsNumerators}
use Rattle.chain_laws.proofs.OneExponent.{eq_trans, one_exponent_law}
use Rattle.row_space.specs.Echelon.{IsRow}
use Rattle.digit_laws.specs.Digits.{AreCornersOf, AreDigits, value}
use Rattle.digit_laws.specs.Laws.{DigitsAreCoordinates}
use Rattle.digit_laws.proofs.DigitLaws.{digit_law, value_poly}
use Rattle.over_laws.specs.Over.{OverData, InRows, HasRows, IsLeastPower}
use Rattle.over_module.specs.Raising.{behind_zeros, BeginsWithZeros, IsAtPower}
use Rattle.over_module.proofs.DepthRows.{raise, raise_poly, raise_equal, raise_digits, of_has}
use Rattle.over_module.proofs.ZeroRows.{begins, in_zeros, own_row}
use Rattle.over_module.proofs.Moved.{finite, count}

module _ (A : CurveData) (c : IsFinite A) (ms : List Monomial) (k : AreCornersOf A ms) where
  laws1 : AreAsNumerators A
  laws1 = one_exponent_law A c

  laws : (T : ℕ) → DigitsAreCoordinates A ms T
  laws T = digit_law A c ms k T

  equals_up : (t L M : ℕ) (f : Fraction) → IsFraction A f → M ≡ t + L → EqualsOver A L f → EqualsOver A M f
  equals_up zero L M f hf e h = subst (λ n. EqualsOver A n f) (let q : L ≡ M = omega arith in q) h
  equals_up (suc t) L zero f hf e h = absurd (omega arith)
  equals_up (suc t) L (suc M) f hf e h = laws1.raised M f hf (equals_up t L M f hf (let q : suc M ≡ suc t + L = e in omega arith) h)

  -- what is some a over a smaller power has digits that begin with zeros
  begins_row : (s M T z : ℕ) (v : List Term) (row : List ℕ) → IsPoly A.prime A.variables v → AreDigits A ms T v row → T ≡ s + M → z ≡ length ms * s
      → EqualsOver A M (over v T) → BeginsWithZeros z row
  begins_row s M T z v row hv a e zeros h =
      let q = (laws M).exist h.0 h.1 in
      let b = raise A s h.0 in
      let hb = raise_poly A c s h.0 h.1 in
      let there = raise_digits A c ms k s M T z h.0 q.0 h.1 e zeros q.1 in
      let equal = eq_trans A c (over v T) (over h.0 M) (over b T) hv h.1 hb h.2 (raise_equal A c s M T h.0 h.1 e) in
      let near = in_more A.prime A.variables (denominator_power A T) A.ideal (sub A.prime v b) ((laws1.equal T v b hv hb).0 equal) in
      let is : row ≡ behind_zeros z q.0 = (laws T).unique b row (behind_zeros z q.0) hb ((laws T).same v b row hv hb near a) there in
      let long : z ≤ length row =
      let l : length row ≡ length ms * T = a.fits.0 in
      let m : length ms * T ≡ length ms * s + length ms * M = ap (λ n. length ms * n) e ∙ mul-add (length ms) s M in omega arith in
      begins z row long (λ i l. ap (λ r. get_or r i 0) is ∙ in_zeros z i q.0 l)

module _ (o q : OverData) (h : HasRows o) (s : ℕ) (le : s ≤ o.power) (there : IsAtPower o (o.power - s) q) where
  module _ (L : ℕ) (l : L < o.power - s) (all : (f : Fraction) → IsFraction (data_of q.curve) f → InRows (data_of q.curve) q.power q.power q.rows f → EqualsOver (data_of q.curve) L f) where
    -- then all rows of o begin with one block of zeros more
    one_more : All (BeginsWithZeros (o.dimension * (s + 1))) o.rows.basis
    one_more i d j =
        let row = get_or o.rows.basis i d in
        let fits : IsRow (data_of o.curve).prime (length h.corners * o.power) (get_or o.rows.basis i d) =
        subst (λ p. IsRow p (length h.corners * o.power) (get_or o.rows.basis i d)) h.rows_prime (subst (λ n. IsRow o.rows.prime n (get_or o.rows.basis i d)) h.ideal.of_digits.width (h.fits i d j)) in
        let v = value (data_of o.curve) h.corners o.power (get_or o.rows.basis i d) in
        let hv = value_poly (data_of o.curve) (finite o h) h.corners h.known o.power (get_or o.rows.basis i d) in
        let a : AreDigits (data_of o.curve) h.corners o.power v row = ((digit_law (data_of o.curve) (finite o h) h.corners h.known o.power).row (get_or o.rows.basis i d) fits).1 in
        let f : Fraction = over v o.power in
        let inside = of_has (data_of o.curve) (finite o h) h.corners h.known o.power o.rows v hv (row, a, own_row o.rows i d j) in
        let low : EqualsOver (data_of o.curve) L f =
        subst (λ C. EqualsOver (data_of C) L f) there.curve (all f (subst (λ C. IsFraction (data_of C) f) (sym there.curve) hv) ((there.same f hv).0 inside)) in
        begins_row (data_of o.curve) (finite o h) h.corners h.known (s + 1) (o.power - (s + 1)) o.power (o.dimension * (s + 1)) v row hv a
        (let e : o.power ≡ (s + 1) + (o.power - (s + 1)) = omega arith in e) (ap (λ n. n * (s + 1)) (count o h))
        (equals_up (data_of o.curve) (finite o h) h.corners h.known ((o.power - (s + 1)) - L) L (o.power - (s + 1)) f hv (let e : o.power - (s + 1) ≡ ((o.power - (s + 1)) - L) + L = omega arith in e) low)

  pub is_least : (s < o.power → ¬ (All (BeginsWithZeros (o.dimension * (s + 1))) o.rows.basis)) → IsLeastPower q
  is_least more L l all =
      let e : q.power ≡ o.power - s = there.power in
      let m : L < o.power - s = omega arith in
      let n : s < o.power = omega arith in
      more n (one_more L m all)
