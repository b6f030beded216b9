-- Sums of two modules over one power of d.
use Rattle.std.proofs.Common.{◌≡◌, ◌↔◌, ℕ, ◌+◌, ◌-◌, ◌*◌, ◌<◌, List, [], ◌∷◌, length, get_or, refl, ap, ◌∙◌, subst}
use Rattle.comm_ring.specs.Ring.{CommRing}
use Rattle.comm_ring.specs.Modules.{InSpan, IsSubmodule}
use Rattle.comm_ring.specs.Rows.{rows}
use Rattle.comm_ring.proofs.Modules as Modules
use Rattle.comm_ring.proofs.Quote.{ring, quote}
use Rattle.comm_ring.proofs.Residues.{residues}
use Rattle.comm_ring.proofs.Rows.{row_module}
use Rattle.prime_field.proofs.Table.{positive_of_prime}
use Rattle.monomials.specs.Mono.{Monomial, variable}
use Rattle.polys.specs.declared.term.Term.{Term}
use Rattle.polys.specs.Terms.{IsPoly, add, sub, mul, multiple}
use Rattle.polys.specs.Curve.{CurveData}
use Rattle.polys.proofs.Affine.{poly_add, poly_sub, poly_multiple, positive}
use Rattle.curve_model.specs.Fraction.{Fraction, IsFraction, AreEqual, denominator_power, over, sum_of}
use Rattle.curve_model.specs.Laws.{IsFinite}
use Rattle.curve_model.specs.OneExponent.{AreAsNumerators}
use Rattle.curve_model.specs.Steps.{IsSumOfTwo}
use Rattle.curve_laws.proofs.Base.{high, Ring, member}
use Rattle.curve_laws.proofs.StatedLaws.{sum_poly, power_poly}
use Rattle.chain_laws.proofs.OneExponent.{eq_sym, eq_trans, eq_sum, one_exponent_law}
use Rattle.standard_monomials.specs.Standard.{polynomial_of}
use Rattle.row_space.specs.Echelon.{IsRow}
use Rattle.row_space.specs.Subspace.{Subspace, IsIn, IsSumOf}
use Rattle.digit_laws.specs.Digits.{AreCornersOf, AreDigits, IsIdealSpace, IsOfDigits, value}
use Rattle.digit_laws.specs.Laws.{DigitsAreCoordinates}
use Rattle.digit_laws.proofs.DigitLaws.{digit_law, value_poly, row_fits}
use Rattle.digit_laws.proofs.Linear.{opposite_row}
use Rattle.over_laws.specs.Over.{InRows}
use Rattle.over_module.proofs.DepthRows.{known, in_rows, of_has, has_of, ideal_of_polys, x_times, x_product, x_poly, x_equal, x_in}

module _ (C : CommRing) where
  open C use {carrier, ◌≈◌, ◌⊕◌, ◌⊗◌, neg}

  infix 40 ◌≈◌
  infixl 60 ◌⊕◌
  infixl 70 ◌⊗◌
  undone : (v b : carrier) → v ⊕ (b ⊕ neg v) ≈ b
  undone v b = ring C (v ∷ b ∷ []) (search quote depth 20) tt

  spread_out : (x a e b g : carrier) → x ⊗ (a ⊗ e ⊕ b ⊗ g) ≈ (x ⊗ a) ⊗ e ⊕ (x ⊗ b) ⊗ g
  spread_out x a e b g = ring C (x ∷ a ∷ e ∷ b ∷ g ∷ []) (search quote depth 20) tt

-- the space by its prime and width under other names
pub by_other_names : (s : Subspace) (p n : ℕ) → s.prime ≡ p → s.width ≡ n → (let other : Subspace = record { prime = p; width = n; basis = s.basis } in s ≡ other)
by_other_names s p n e f =
    let by_prime : ℕ → Subspace = λ x. record { prime = x; width = s.width; basis = s.basis } in
    let by_width : ℕ → Subspace = λ x. record { prime = p; width = x; basis = s.basis } in
    ap by_prime e ∙ ap by_width f

module _ (A : CurveData) (c : IsFinite A) (ms : List Monomial) (k : AreCornersOf A ms) (T : ℕ) where
  pos : 0 < A.prime
  pos = positive A.prime (high A c.curve)

  abbrev P : List Term → Type 0
  P f = IsPoly A.prime A.variables f

  laws : DigitsAreCoordinates A ms T
  laws = digit_law A c ms k T

  laws1 : AreAsNumerators A
  laws1 = one_exponent_law A c

  abbrev Scalars : CommRing
  Scalars = residues A.prime (positive_of_prime A.prime c.curve.prime)

  abbrev RM : Modules.Module Scalars
  RM = row_module A.prime (positive_of_prime A.prime c.curve.prime) (length ms * T)

  abbrev pub spanned : List (List ℕ) → Subspace
  spanned us = record { prime = A.prime; width = length ms * T; basis = us }

  module _ (us ws : List (List ℕ)) (V : Subspace) (members : (row : List ℕ) → IsIn V row ↔ IsSumOf (spanned us) (spanned ws) row) where
    abbrev S : Subspace
    S = spanned us

    abbrev W : Subspace
    W = spanned ws

    left_span : IsSubmodule (rows A.prime (length ms * T)) (InSpan (rows A.prime (length ms * T)) us)
    left_span = Modules.span_submodule Scalars RM us

    right_span : IsSubmodule (rows A.prime (length ms * T)) (InSpan (rows A.prime (length ms * T)) ws)
    right_span = Modules.span_submodule Scalars RM ws

    -- a row of the sum is one of the left with residues, and one of the right
    record Parts (row : List ℕ) : Type 0 where
      left : List ℕ
      fits : IsRow A.prime (length ms * T) left
      in_left : IsIn S left
      in_right : IsIn W ((rows A.prime (length ms * T)).◌⊞◌ row ((rows A.prime (length ms * T)).◌·◌ (A.prime - 1) left))

    parts : (row : List ℕ) → IsIn V row → Parts row
    parts row h =
        let R = rows A.prime (length ms * T) in
        let s = (members row).0 h in
        let f : List ℕ = s.0 in
        let g : List ℕ = s.1 in
        let one : List ℕ = R.◌·◌ 1 f in
        let less : List ℕ = R.◌·◌ (A.prime - 1) one in
        let is_one : R.◌≋◌ one f = RM.one_scale f in
        let minus : R.◌≋◌ less (R.opposite f) =
        RM.trans {x = less} {y = R.◌·◌ (A.prime - 1) f} {z = R.opposite f} (RM.scale_cong {c = A.prime - 1} {c' = A.prime - 1} {x = one} {x' = f} refl is_one) (opposite_row A.prime (length ms * T) (high A c.curve) (positive_of_prime A.prime c.curve.prime) f) in
        let right : R.◌≋◌ (R.◌⊞◌ row less) g =
        RM.trans {x = R.◌⊞◌ row less} {y = R.◌⊞◌ (R.◌⊞◌ f g) (R.opposite f)} {z = g} (RM.add_cong {x = row} {x' = R.◌⊞◌ f g} {y = less} {y' = R.opposite f} s.4 minus) (Modules.add_undo_left Scalars RM g f) in
        record {
          left = one;
          fits = row_fits A c ms k T (λ i. 1 * get_or f i 0);
          in_left = left_span.scale 1 f s.2;
          in_right = right_span.resp g (R.◌⊞◌ row less) (RM.symm {x = R.◌⊞◌ row less} {y = g} right) s.3;
        }

    pub sum_up : (f : Fraction) → IsFraction A f → InRows A T T V f → IsSumOfTwo A (InRows A T T S) (InRows A T T W) f
    sum_up f hf r =
        let w = known A c ms k T T V f r in
        let b = w.numerator in
        let q = parts w.row w.inside in
        let v = value A ms T q.left in
        let hv = value_poly A c ms k T q.left in
        let a : AreDigits A ms T (value A ms T q.left) q.left = (laws.row q.left q.fits).1 in
        let hm = poly_multiple A.prime A.variables (A.prime - 1) v pos hv in
        let g = sub A.prime w.numerator (value A ms T q.left) in
        let hg = poly_sub A.prime A.variables b v pos w.poly hv in
        let other : AreDigits A ms T (sub A.prime w.numerator (value A ms T q.left)) ((rows A.prime (length ms * T)).◌⊞◌ w.row ((rows A.prime (length ms * T)).◌·◌ (A.prime - 1) q.left)) =
        laws.sum b (multiple A.prime (A.prime - 1) v) w.row ((rows A.prime (length ms * T)).◌·◌ (A.prime - 1) q.left) w.poly hm w.digits (laws.multiple (A.prime - 1) v q.left hv a) in
        let whole : add A.prime v g ≡ b = undone (Ring A c.curve) (member A c.curve v hv) (member A c.curve b w.poly) in
        record {
          left = over v T;
          right = over g T;
          left_fraction = hv;
          right_fraction = hg;
          in_left = of_has A c ms k T S v hv (q.left, a, q.in_left);
          in_right = of_has A c ms k T W g hg ((rows A.prime (length ms * T)).◌⊞◌ w.row ((rows A.prime (length ms * T)).◌·◌ (A.prime - 1) q.left), other, q.in_right);
          equal = eq_trans A c f (over b T) (sum_of A (over v T) (over g T)) hf w.poly (sum_poly A c (over v T) (over g T) hv hg) w.equal
              (eq_sym A c (sum_of A (over v T) (over g T)) (over b T) (sum_poly A c (over v T) (over g T) hv hg) w.poly
              (subst (λ z. AreEqual A (sum_of A (over v T) (over g T)) (over z T)) whole (laws1.sum T v g hv hg)));
        }

    pub sum_down : (f : Fraction) → IsFraction A f → IsSumOfTwo A (InRows A T T S) (InRows A T T W) f → InRows A T T V f
    sum_down f hf s =
        let l = known A c ms k T T S s.left s.in_left in
        let r = known A c ms k T T W s.right s.in_right in
        let a = l.numerator in
        let b = r.numerator in
        let row : List ℕ = (rows A.prime (length ms * T)).◌⊞◌ l.row r.row in
        let hs = poly_add A.prime A.variables a b pos l.poly r.poly in
        let h1 = sum_poly A c s.left s.right s.left_fraction s.right_fraction in
        let h2 = sum_poly A c (over a T) (over b T) l.poly r.poly in
        let e = eq_sum A c s.left s.right (over a T) (over b T) s.left_fraction s.right_fraction l.poly r.poly l.equal r.equal in
        in_rows A c ms k T T V f (add A.prime a b) hs
        (row, laws.sum a b l.row r.row l.poly r.poly l.digits r.digits, (members row).1 (l.row, r.row, l.inside, r.inside, RM.rfl row))
        (eq_trans A c f (sum_of A s.left s.right) (over (add A.prime a b) T) hf h1 hs s.equal
        (eq_trans A c (sum_of A s.left s.right) (sum_of A (over a T) (over b T)) (over (add A.prime a b) T) h1 h2 hs e (laws1.sum T a b l.poly r.poly)))

    module _ (is : IsIdealSpace A ms T S) (iw : IsIdealSpace A ms T W) where
      -- a variable times a sum
      x_sum : (v : ℕ) → v < A.variables → (f : Fraction) → IsFraction A f → IsSumOfTwo A (InRows A T T S) (InRows A T T W) f
          → IsSumOfTwo A (InRows A T T S) (InRows A T T W) (x_times A c ms k v f)
      x_sum v l f hf s =
          let x = polynomial_of (variable v) in
          let hx = x_poly A c ms k v l in
          let a = s.left.numerator in
          let b = s.right.numerator in
          let xl = x_times A c ms k v s.left in
          let xr = x_times A c ms k v s.right in
          let de = denominator_power A s.right.exponent in
          let dg = denominator_power A s.left.exponent in
          let apart : mul A.prime x (add A.prime (mul A.prime a de) (mul A.prime b dg)) ≡ add A.prime (mul A.prime (mul A.prime x a) de) (mul A.prime (mul A.prime x b) dg) =
          spread_out (Ring A c.curve) (member A c.curve x hx) (member A c.curve a s.left_fraction) (member A c.curve de (power_poly A c s.right.exponent)) (member A c.curve b s.right_fraction) (member A c.curve dg (power_poly A c s.left.exponent)) in
          record {
            left = xl;
            right = xr;
            left_fraction = x_product A c ms k v l a s.left_fraction;
            right_fraction = x_product A c ms k v l b s.right_fraction;
            in_left = x_in A c ms k T S is v l s.left s.left_fraction s.in_left;
            in_right = x_in A c ms k T W iw v l s.right s.right_fraction s.in_right;
            equal = subst (λ z. AreEqual A (x_times A c ms k v f) (over z (s.left.exponent + s.right.exponent))) apart
                (x_equal A c ms k v l f (sum_of A s.left s.right) hf (sum_poly A c s.left s.right s.left_fraction s.right_fraction) s.equal);
          }

      pub sum_ideal : IsOfDigits A ms T V → IsIdealSpace A ms T V
      sum_ideal o = ideal_of_polys A c ms k T V o (λ v l f hf h.
          let hx = x_product A c ms k v l f hf in
          has_of A c ms k T V (mul A.prime (polynomial_of (variable v)) f) hx
          (sum_down (x_times A c ms k v (over f T)) hx (x_sum v l (over f T) hf (sum_up (over f T) hf (of_has A c ms k T V f hf h)))))
