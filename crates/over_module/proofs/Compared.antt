-- Which fractions are in a module.
use Rattle.std.proofs.Common.{◌≡◌, ◌↔◌, ℕ, ◌+◌, ◌-◌, ◌*◌, ◌≤◌, List, [], length, get_or, take, All, sym, ap, ap₂, ◌∙◌, subst, refl, arith}
use Rattle.comm_ring.specs.Modules.{InSpan}
use Rattle.comm_ring.specs.Rows.{rows}
use Rattle.monomials.specs.Mono.{Monomial}
use Rattle.polys.specs.declared.term.Term.{Term}
use Rattle.polys.specs.Terms.{IsPoly}
use Rattle.polys.specs.Curve.{CurveData, HasDimModulo, data_of}
use Rattle.curve_model.specs.Fraction.{Fraction, IsFraction, over}
use Rattle.curve_model.specs.Laws.{IsFinite}
use Rattle.row_space.specs.Sums.{Covers}
use Rattle.row_space.specs.Echelon.{IsRow}
use Rattle.row_space.specs.Subspace.{Subspace, FitsIn, IsIn}
use Rattle.row_space.proofs.Weights.{through}
use Rattle.row_space.proofs.Members.{weighted_of, span_of}
use Rattle.digit_laws.specs.Digits.{AreCornersOf, AreDigits, IsOfDigits, value}
use Rattle.digit_laws.proofs.Blocks.{block_law}
use Rattle.digit_laws.proofs.Corners.{corners_law}
use Rattle.digit_laws.proofs.DigitLaws.{digit_law, value_poly}
use Rattle.digit_space.specs.Model.{DigitData, IsDigitSpace, IsDigitsOf}
use Rattle.over_laws.specs.Over.{OverData, InOver, InRows, HasRows, HaveSameFractions}
use Rattle.over_module.specs.Raising.{behind_zeros, HoldsFractions, IsAtPower}
use Rattle.over_module.proofs.DepthRows.{raise, raise_poly, raise_equal, raise_digits, decided, known, in_rows, of_has, has_of, row_in}
use Rattle.over_module.proofs.ZeroRows.{own_row}
use Rattle.over_module.proofs.Moved.{finite, count, corner_count}

-- ---- a fraction over d^k

-- a module is over its own power
pub own_power : (o : OverData) → IsAtPower o o.power o
own_power o = record { curve = refl; dimension = refl; power = refl; same = λ f hf. ((λ i. i), λ i. i); rank = refl }

module _ (o q : OverData) (D : ℕ) (h : HasRows o) (hq : HasRows q) (there : IsAtPower o D q) (g : DigitData) (s : IsDigitSpace g) (e : g.curve ≡ o.curve) (f : List Term)
    (hf : IsPoly o.curve.prime o.curve.variables f) (k : ℕ) (le : k ≤ D) (deep : k ≤ g.depth) (row : List ℕ) (a : IsDigitsOf g f row) where
  corners : AreCornersOf (data_of o.curve) g.basis
  corners = subst (λ C. AreCornersOf (data_of C) g.basis) e s.corners

  digits : AreDigits (data_of o.curve) g.basis (k + (g.depth - k)) f row
  digits = subst (λ t. AreDigits (data_of o.curve) g.basis t f row) (let q : g.depth ≡ k + (g.depth - k) = omega arith in q)
      (subst (λ C. AreDigits (data_of C) g.basis g.depth f row) e a)

  sum : D ≡ (D - k) + k
  sum = omega arith

  abbrev pub moved : List ℕ
  moved = behind_zeros (length g.basis * (D - k)) (take (length g.basis * k) row)

  moved_digits : AreDigits (data_of o.curve) g.basis D (raise (data_of o.curve) (D - k) f) moved
  moved_digits = raise_digits (data_of o.curve) (finite o h) g.basis corners (D - k) k D (length g.basis * (D - k)) f (take (length g.basis * k) row) hf sum refl
      ((block_law (data_of o.curve) (finite o h) g.basis corners).truncated k (g.depth - k) f row hf digits)

  inside : IsIn q.rows moved ↔ InRows (data_of o.curve) D D q.rows (over f k)
  inside = decided (data_of o.curve) (finite o h) g.basis corners D q.rows (over f k) (raise (data_of o.curve) (D - k) f) moved hf (raise_poly (data_of o.curve) (finite o h) (D - k) f hf)
      (raise_equal (data_of o.curve) (finite o h) (D - k) k D f hf sum) moved_digits

  into : InOver q (over f k) → InRows (data_of o.curve) D D q.rows (over f k)
  into r = subst (λ C. InRows (data_of C) D D q.rows (over f k)) there.curve (subst (λ n. InRows (data_of q.curve) n n q.rows (over f k)) there.power r)

  back : InRows (data_of o.curve) D D q.rows (over f k) → InOver q (over f k)
  back r = subst (λ n. InRows (data_of q.curve) n n q.rows (over f k)) (sym there.power) (subst (λ C. InRows (data_of C) D D q.rows (over f k)) (sym there.curve) r)

  pub contains_is : IsIn q.rows moved ↔ InOver o (over f k)
  contains_is = ((λ i. (there.same (over f k) hf).1 (back (inside.0 i))), λ r. inside.1 (into ((there.same (over f k) hf).0 r)))

  pub contains_fits : FitsIn q.rows moved
  contains_fits =
      let prime : q.rows.prime ≡ o.curve.prime = hq.rows_prime ∙ ap (λ C. C.prime) there.curve in
      let many : o.dimension ≡ length g.basis = count o h ∙ ap length (corners_law (data_of o.curve) (finite o h) h.corners g.basis h.known corners) in
      let width : q.rows.width ≡ length g.basis * D = hq.rows_width ∙ ap₂ (λ n m. n * m) (there.dimension ∙ many) there.power in
      subst (λ p. IsRow p q.rows.width moved) (sym prime) (subst (λ n. IsRow o.curve.prime n moved) (sym width) moved_digits.fits)

-- ---- the fractions of one module in another one

module _ (A : CurveData) (c : IsFinite A) (ms : List Monomial) (k : AreCornersOf A ms) (T : ℕ) (S W : Subspace) (os : IsOfDigits A ms T S) (ow : IsOfDigits A ms T W) where
  one_prime : W.prime ≡ S.prime
  one_prime = ow.prime ∙ sym os.prime

  one_width : W.width ≡ S.width
  one_width = ow.width ∙ sym os.width

  here : (vs : List (List ℕ)) (row : List ℕ) → InSpan (rows W.prime W.width) vs row → InSpan (rows S.prime S.width) vs row
  here vs row h = subst (λ p. InSpan (rows p S.width) vs row) one_prime (subst (λ n. InSpan (rows W.prime n) vs row) one_width h)

  away : (vs : List (List ℕ)) (row : List ℕ) → InSpan (rows S.prime S.width) vs row → InSpan (rows W.prime W.width) vs row
  away vs row h = subst (λ p. InSpan (rows p W.width) vs row) (sym one_prime) (subst (λ n. InSpan (rows S.prime n) vs row) (sym one_width) h)

  covers : All (IsIn W) S.basis → Covers S.prime S.width W.basis S.basis
  covers h i l = weighted_of S.prime S.width W.basis (get_or S.basis i []) (here W.basis (get_or S.basis i []) (h i [] l))

  pub rows_within : All (IsIn W) S.basis → (f : Fraction) → IsFraction A f → InRows A T T S f → InRows A T T W f
  rows_within h f hf r =
      let w = known A c ms k T T S f r in
      let i : IsIn W w.row = away W.basis w.row (span_of S.prime S.width W.basis w.row (through S.prime S.width W.basis S.basis (λ n. get_or w.row n 0) (covers h) (weighted_of S.prime S.width S.basis w.row w.inside))) in
      in_rows A c ms k T T W f w.numerator w.poly (w.row, w.digits, i) w.equal

  pub fractions_within : All (FitsIn S) S.basis → ((f : Fraction) → IsFraction A f → InRows A T T S f → InRows A T T W f) → All (IsIn W) S.basis
  fractions_within fits h i d l =
      let row = get_or S.basis i d in
      let f : IsRow A.prime (length ms * T) (get_or S.basis i d) = subst (λ p. IsRow p (length ms * T) (get_or S.basis i d)) os.prime (subst (λ n. IsRow S.prime n (get_or S.basis i d)) os.width (fits i d l)) in
      let v = value A ms T (get_or S.basis i d) in
      let hv = value_poly A c ms k T (get_or S.basis i d) in
      let a : AreDigits A ms T (value A ms T (get_or S.basis i d)) (get_or S.basis i d) = ((digit_law A c ms k T).row (get_or S.basis i d) f).1 in
      row_in A c ms k T W v row hv a (has_of A c ms k T W v hv (h (over v T) hv (of_has A c ms k T S v hv (row, a, own_row S i d l))))

-- of two modules over one power
module _ (o q : OverData) (h : HasRows o) (hq : HasRows q) (curve : q.curve ≡ o.curve) (power : q.power ≡ o.power) where
  q_digits : IsOfDigits (data_of o.curve) h.corners o.power q.rows
  q_digits = record {
    prime = hq.rows_prime ∙ ap (λ C. C.prime) curve;
    width = hq.rows_width ∙ ap₂ (λ n m. n * m) (corner_count o h q.dimension (subst (λ C. HasDimModulo (data_of C) q.dimension) curve hq.dimension)) power;
  }

  to_q : (f : Fraction) → InRows (data_of o.curve) o.power o.power q.rows f → InOver q f
  to_q f r = subst (λ n. InRows (data_of q.curve) n n q.rows f) (sym power) (subst (λ C. InRows (data_of C) o.power o.power q.rows f) (sym curve) r)

  of_q : (f : Fraction) → InOver q f → InRows (data_of o.curve) o.power o.power q.rows f
  of_q f r = subst (λ C. InRows (data_of C) o.power o.power q.rows f) curve (subst (λ n. InRows (data_of q.curve) n n q.rows f) power r)

  pub holds_is : All (IsIn o.rows) q.rows.basis ↔ HoldsFractions o q
  holds_is = (
    (λ a f hf r. rows_within (data_of o.curve) (finite o h) h.corners h.known o.power q.rows o.rows q_digits h.ideal.of_digits a f hf (of_q f r)),
    λ a. fractions_within (data_of o.curve) (finite o h) h.corners h.known o.power q.rows o.rows q_digits h.ideal.of_digits hq.fits (λ f hf r. a f hf (to_q f r)),
  )

  pub holds_fits : All (FitsIn o.rows) q.rows.basis
  holds_fits i d l =
      let prime : q.rows.prime ≡ o.rows.prime = q_digits.prime ∙ sym h.ideal.of_digits.prime in
      let width : q.rows.width ≡ o.rows.width = q_digits.width ∙ sym h.ideal.of_digits.width in
      subst (λ p. IsRow p o.rows.width (get_or q.rows.basis i d)) prime (subst (λ n. IsRow q.rows.prime n (get_or q.rows.basis i d)) width (hq.fits i d l))

-- of two modules by copies over one power
module _ (o q l r : OverData) (D E : ℕ) (ol : IsAtPower o D l) (qr : IsAtPower q E r) (curve : q.curve ≡ o.curve) where
  at_q : (f : Fraction) → IsFraction (data_of o.curve) f → IsFraction (data_of q.curve) f
  at_q f h = subst (λ C. IsFraction (data_of C) f) (sym curve) h

  at_l : (f : Fraction) → IsFraction (data_of o.curve) f → IsFraction (data_of l.curve) f
  at_l f h = subst (λ C. IsFraction (data_of C) f) (sym ol.curve) h

  at_r : (f : Fraction) → IsFraction (data_of o.curve) f → IsFraction (data_of r.curve) f
  at_r f h = subst (λ C. IsFraction (data_of C) f) (sym qr.curve) (at_q f h)

  of_l : (f : Fraction) → IsFraction (data_of l.curve) f → IsFraction (data_of o.curve) f
  of_l f h = subst (λ C. IsFraction (data_of C) f) ol.curve h

  of_r : (f : Fraction) → IsFraction (data_of r.curve) f → IsFraction (data_of o.curve) f
  of_r f h = subst (λ C. IsFraction (data_of C) f) (qr.curve ∙ curve) h

  pub same_of_both : HoldsFractions l r → HoldsFractions r l → HaveSameFractions o q
  same_of_both a b f hf = (
    (λ i. (qr.same f (at_q f hf)).1 (b f (at_r f hf) ((ol.same f hf).0 i))),
    λ i. (ol.same f hf).1 (a f (at_l f hf) ((qr.same f (at_q f hf)).0 i)),
  )

  pub left_of_same : HaveSameFractions o q → HoldsFractions l r
  left_of_same e f hl i = let hf = of_l f hl in (ol.same f hf).0 ((e f hf).1 ((qr.same f (at_q f hf)).1 i))

  pub right_of_same : HaveSameFractions o q → HoldsFractions r l
  right_of_same e f hr i = let hf = of_r f hr in (qr.same f (at_q f hf)).0 ((e f hf).0 ((ol.same f hf).1 i))
