-- The sum of two modules by rows.
use Rattle.std.proofs.Common.{◌≡◌, ◌↔◌, ℕ, ◌*◌, List, length, sym, ◌∙◌, subst}
use Rattle.polys.specs.Curve.{data_of}
use Rattle.curve_model.specs.Fraction.{Fraction, IsFraction}
use Rattle.curve_model.specs.Steps.{IsSumOfTwo}
use Rattle.row_space.specs.Subspace.{Subspace, IsIn, IsReduced, IsSumOf}
use Rattle.digit_laws.specs.Digits.{AreCornersOf, IsIdealSpace}
use Rattle.digit_laws.proofs.Corners.{corners_law}
use Rattle.over_laws.specs.Over.{OverData, InOver, InRows, HasRows}
use Rattle.over_module.specs.Raising.{IsAtPower}
use Rattle.over_module.proofs.Moved.{finite, has_rows}
use Rattle.over_module.proofs.SummedRows.{by_other_names, spanned, sum_down, sum_ideal, sum_up}

-- a module of one curve over d^D by the corners of another
pub ideal_at : (o m : OverData) (h : HasRows o) → HasRows m → (D : ℕ) → m.curve ≡ o.curve → m.power ≡ D → IsIdealSpace (data_of o.curve) h.corners D m.rows
ideal_at o m h hm D curve power =
    let known : AreCornersOf (data_of o.curve) hm.corners = subst (λ C. AreCornersOf (data_of C) hm.corners) curve hm.known in
    subst (λ z. IsIdealSpace (data_of o.curve) z D m.rows) (corners_law (data_of o.curve) (finite o h) hm.corners h.corners known h.known)
    (subst (λ C. IsIdealSpace (data_of C) hm.corners D m.rows) curve (subst (λ n. IsIdealSpace (data_of m.curve) hm.corners n m.rows) power hm.ideal))

-- its fractions by rows over d^D
pub in_over : (o m : OverData) (D : ℕ) → m.curve ≡ o.curve → m.power ≡ D → (f : Fraction) → InRows (data_of o.curve) D D m.rows f ↔ InOver m f
in_over o m D curve power f = (
  (λ r. subst (λ n. InRows (data_of m.curve) n n m.rows f) (sym power) (subst (λ C. InRows (data_of C) D D m.rows f) (sym curve) r)),
  λ r. subst (λ C. InRows (data_of C) D D m.rows f) curve (subst (λ n. InRows (data_of m.curve) n n m.rows f) power r),
)

module _ (o q l r : OverData) (D : ℕ) (h : HasRows o) (hl : HasRows l) (hr : HasRows r) (ol : IsAtPower o D l) (qr : IsAtPower q D r) (curve : q.curve ≡ o.curve) (V : Subspace)
    (prime : V.prime ≡ l.rows.prime) (width : V.width ≡ l.rows.width) (members : (row : List ℕ) → IsIn V row ↔ IsSumOf l.rows r.rows row) where
  il : IsIdealSpace (data_of o.curve) h.corners D l.rows
  il = ideal_at o l h hl D ol.curve ol.power

  ir : IsIdealSpace (data_of o.curve) h.corners D r.rows
  ir = ideal_at o r h hr D (qr.curve ∙ curve) qr.power

  abbrev S : Subspace
  S = spanned (data_of o.curve) (finite o h) h.corners h.known D l.rows.basis

  abbrev W : Subspace
  W = spanned (data_of o.curve) (finite o h) h.corners h.known D r.rows.basis

  left : l.rows ≡ S
  left = by_other_names l.rows (data_of o.curve).prime (length h.corners * D) il.of_digits.prime il.of_digits.width

  right : r.rows ≡ W
  right = by_other_names r.rows (data_of o.curve).prime (length h.corners * D) ir.of_digits.prime ir.of_digits.width

  sums : (row : List ℕ) → IsIn V row ↔ IsSumOf S W row
  sums row = subst (λ s. IsIn V row ↔ IsSumOf S s row) right (subst (λ s. IsIn V row ↔ IsSumOf s r.rows row) left (members row))

  to_left : (g : Fraction) → IsFraction (data_of o.curve) g → InRows (data_of o.curve) D D S g ↔ InOver o g
  to_left g hg =
      let e = in_over o l D ol.curve ol.power g in
      let s = ol.same g hg in (
        (λ i. s.1 (e.0 (subst (λ z. InRows (data_of o.curve) D D z g) (sym left) i))),
        λ i. subst (λ z. InRows (data_of o.curve) D D z g) left (e.1 (s.0 i)),
      )

  to_right : (g : Fraction) → IsFraction (data_of o.curve) g → InRows (data_of o.curve) D D W g ↔ InOver q g
  to_right g hg =
      let e = in_over o r D (qr.curve ∙ curve) qr.power g in
      let s = qr.same g (subst (λ C. IsFraction (data_of C) g) (sym curve) hg) in (
        (λ i. s.1 (e.0 (subst (λ z. InRows (data_of o.curve) D D z g) (sym right) i))),
        λ i. subst (λ z. InRows (data_of o.curve) D D z g) right (e.1 (s.0 i)),
      )

  pub sum_fractions : (f : Fraction) → IsFraction (data_of o.curve) f → InRows (data_of o.curve) D D V f ↔ IsSumOfTwo (data_of o.curve) (InOver o) (InOver q) f
  sum_fractions f hf = (
    (λ i.
        let s = sum_up (data_of o.curve) (finite o h) h.corners h.known D l.rows.basis r.rows.basis V sums f hf i in
        record {
          left = s.left;
          right = s.right;
          left_fraction = s.left_fraction;
          right_fraction = s.right_fraction;
          in_left = (to_left s.left s.left_fraction).0 s.in_left;
          in_right = (to_right s.right s.right_fraction).0 s.in_right;
          equal = s.equal;
        }),
    λ s. sum_down (data_of o.curve) (finite o h) h.corners h.known D l.rows.basis r.rows.basis V sums f hf (record {
      left = s.left;
      right = s.right;
      left_fraction = s.left_fraction;
      right_fraction = s.right_fraction;
      in_left = (to_left s.left s.left_fraction).1 s.in_left;
      in_right = (to_right s.right s.right_fraction).1 s.in_right;
      equal = s.equal;
    }),
  )

  pub sum_rows : IsReduced V → HasRows (record { curve = o.curve; dimension = o.dimension; power = D; rows = V })
  sum_rows e = has_rows o h D V e
      (sum_ideal (data_of o.curve) (finite o h) h.corners h.known D l.rows.basis r.rows.basis V sums
      (subst (IsIdealSpace (data_of o.curve) h.corners D) left il) (subst (IsIdealSpace (data_of o.curve) h.corners D) right ir)
      (record { prime = prime ∙ il.of_digits.prime; width = width ∙ il.of_digits.width }))
