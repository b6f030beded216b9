-- The zero space of rows is an ideal, that of the multiples of d^T.
use Rattle.std.proofs.Common.{◌≡◌, ℕ, ◌-◌, ◌*◌, ◌<◌, List, [], ◌∷◌, length, sym, ◌∙◌, subst, refl}
use Rattle.comm_ring.specs.Modules.{combine, combination, InSpan}
use Rattle.comm_ring.specs.Rows.{rows}
use Rattle.comm_ring.proofs.Modules as Modules
use Rattle.comm_ring.proofs.Rows.{equal_rows}
use Rattle.monomials.specs.Mono.{Monomial, variable}
use Rattle.polys.specs.declared.term.Term.{Term}
use Rattle.polys.specs.Terms.{normal, sub, mul, multiple}
use Rattle.polys.specs.Curve.{CurveData}
use Rattle.polys.proofs.Affine.{poly_add, poly_mul, poly_none}
use Rattle.polys.proofs.Sums.{add_normal_left, mul_normal_right, normal_normal}
use Rattle.ideal_laws.proofs.Differences.{from_sub, sub_none}
use Rattle.ideal_laws.proofs.Ideals.{in_mul, in_none, in_poly, in_sub}
use Rattle.curve_model.specs.Fraction.{denominator_power}
use Rattle.curve_model.specs.Laws.{IsFinite}
use Rattle.curve_model.specs.OneExponent.{InPower}
use Rattle.row_space.specs.Echelon.{IsRow}
use Rattle.row_space.specs.Subspace.{Subspace, IsIn}
use Rattle.standard_monomials.specs.Standard.{polynomial_of}
use Rattle.standard_monomials.proofs.Powers.{affine_power}
use Rattle.digit_laws.specs.Digits.{AreCornersOf, AreDigits, HasDigitsIn, IsIdealSpace, value}
use Rattle.digit_laws.proofs.DigitLaws.{gens, value_poly}
use Rattle.digit_laws.proofs.Spaces.{affine_poly, moved_in}
use Rattle.corner_basis.proofs.Classes.{pos, P, laws, RM, Scalars}

module _ (A : CurveData) (c : IsFinite A) (ms : List Monomial) (k : AreCornersOf A ms) (T : ℕ) where
  abbrev G : List (List Term)
  G = denominator_power A T ∷ A.ideal

  positive : 0 < A.prime
  positive = pos A c ms k T

  none : P A c ms k T []
  none = poly_none A.prime A.variables

  -- a row that is 0 has the digits of 0
  zero_digits : (row : List ℕ) → IsRow A.prime (length ms * T) row → (rows A.prime (length ms * T)).◌≋◌ row (rows A.prime (length ms * T)).origin → AreDigits A ms T [] row
  zero_digits row fits e =
      let V = rows A.prime (length ms * T) in
      let R = RM A c ms k T in
      let r = (laws A c ms k T).exist [] none in
      let z : List ℕ = V.◌·◌ 0 r.0 in
      let d : AreDigits A ms T [] z = (laws A c ms k T).multiple 0 [] r.0 none r.1 in
      let same : V.◌≋◌ row z = R.trans {x = row} {y = V.origin} {z = z} e (R.symm {x = z} {y = V.origin} (Modules.zero_scale (Scalars A c ms k T) R r.0)) in
      subst (AreDigits A ms T []) (sym (equal_rows A.prime (length ms * T) row z fits.0 d.fits.0 fits.1 d.fits.1 same)) d

  module _ (f : List Term) (row : List ℕ) (d : AreDigits A ms T f row) where
    v : List Term
    v = value A ms T row

    hv : P A c ms k T (value A ms T row)
    hv = value_poly A c ms k T row

    whole : P A c ms k T (normal A.prime f)
    whole = subst (P A c ms k T) (sym (from_sub A.prime f (value A ms T row) (sub A.prime f (value A ms T row)) positive refl))
        (poly_add A.prime A.variables (value A ms T row) (sub A.prime f (value A ms T row)) positive hv
        (in_poly A.prime A.variables G (sub A.prime f (value A ms T row)) positive (gens A c ms k T) d.close))

    digits : AreDigits A ms T (normal A.prime f) row
    digits = record { fits = d.fits; close = subst (InPower A T) (sym (add_normal_left A.prime f (multiple A.prime (A.prime - 1) (value A ms T row)))) d.close }

    -- a multiple of what has the digits of 0 has them
    zero_multiple : (q : List Term) → P A c ms k T q → AreDigits A ms T [] row → AreDigits A ms T (mul A.prime q f) row
    zero_multiple q hq z =
        let g = normal A.prime f in
        let h = mul A.prime q (normal A.prime f) in
        let i : InPower A T (normal A.prime f) =
        subst (InPower A T) (sub_none A.prime (normal A.prime f) positive ∙ normal_normal A.prime f) ((laws A c ms k T).close (normal A.prime f) [] row whole none digits z) in
        let j : InPower A T (mul A.prime q (normal A.prime f)) = in_mul A.prime A.variables G q (normal A.prime f) positive hq i in
        let hm = poly_mul A.prime A.variables q (normal A.prime f) positive hq whole in
        subst (λ x. AreDigits A ms T x row) (mul_normal_right A.prime q f)
        ((laws A c ms k T).same [] (mul A.prime q (normal A.prime f)) row none hm
        (in_sub A.prime A.variables G [] (mul A.prime q (normal A.prime f)) positive hm (in_none A.prime A.variables G) j) z)

  -- the sum of no rows
  no_rows : (row cs : List ℕ) → (rows A.prime (length ms * T)).◌≋◌ row (combination (rows A.prime (length ms * T)) cs []) → (rows A.prime (length ms * T)).◌≋◌ row (rows A.prime (length ms * T)).origin
  unfolding combine
  no_rows row [] e = e
  no_rows row (x ∷ cs) e = e

  pub zero_ideal : (space : Subspace) → space.basis ≡ [] → space.prime ≡ A.prime → space.width ≡ length ms * T → IsIdealSpace A ms T space
  zero_ideal space empty prime width = record { of_digits = record { prime = prime; width = width }; closed = λ u l f h. closed u l f h }
    where
      is_zero : (row : List ℕ) → IsIn space row → (rows A.prime (length ms * T)).◌≋◌ row (rows A.prime (length ms * T)).origin
      is_zero row h =
          let i = moved_in space.prime A.prime space.width (length ms * T) space.basis row prime width h in
          let j = subst (λ vs. InSpan (rows A.prime (length ms * T)) vs row) empty i in
          no_rows row j.0 j.2

      closed : (u : ℕ) → u < A.variables → (f : List Term) → HasDigitsIn A ms T space f → HasDigitsIn A ms T space (mul A.prime (polynomial_of (variable u)) f)
      closed u l f h = (
        h.0,
        zero_multiple f h.0 h.1 (polynomial_of (variable u)) (affine_poly A c ms k T (variable u) (affine_power A.variables u 1 l)) (zero_digits h.0 h.1.fits (is_zero h.0 h.2)),
        h.2,
      )
