-- The zero space of rows is an ideal, that of the multiples of d^T.
use Rattle.std.proofs.Common.{◌≡◌, ℕ, ◌*◌, ◌%◌, ◌<◌, List, [], ◌∷◌, length, replicate, refl, sym, ap, ◌∙◌, subst, arith}
use Rattle.std.proofs.lemmas.List.{append-nil, length-replicate, get_or-replicate}
use Rattle.std.proofs.Math.Nat.{zero-mod}
use Rattle.comm_ring.specs.Rows.{rows}
use Rattle.comm_ring.specs.Modules.{combine, InSpan}
use Rattle.comm_ring.proofs.Rows.{row-entry, equal_rows}
use Rattle.monomials.specs.Mono.{Monomial, variable}
use Rattle.polys.specs.declared.term.Term.{Term}
use Rattle.polys.specs.Terms.{normal, products, sub, mul}
use Rattle.polys.specs.Curve.{CurveData}
use Rattle.polys.proofs.Affine.{positive}
use Rattle.polys.proofs.Sums.{mul_normal_right, normal_normal}
use Rattle.ideal_laws.proofs.Ideals.{in_mul}
use Rattle.curve_model.specs.Fraction.{denominator_power}
use Rattle.curve_model.specs.Laws.{IsFinite}
use Rattle.curve_model.specs.OneExponent.{InPower}
use Rattle.curve_laws.proofs.Base.{high}
use Rattle.row_space.specs.Echelon.{IsRow}
use Rattle.row_space.specs.Subspace.{Subspace}
use Rattle.row_space.proofs.Members.{combination-entry}
use Rattle.row_space.proofs.Weights.{weighted-none}
use Rattle.standard_monomials.specs.Standard.{polynomial_of}
use Rattle.standard_monomials.proofs.Powers.{affine_power}
use Rattle.digit_laws.specs.Digits.{AreCornersOf, HasDigitsIn, IsIdealSpace, places, value}
use Rattle.digit_laws.proofs.DigitLaws.{place_polys}
use Rattle.digit_laws.proofs.Blocks.{zeros_combine, zeros_row}
use Rattle.digit_laws.proofs.Spaces.{affine_poly}

module _ (A : CurveData) (c : IsFinite A) (ms : List Monomial) (k : AreCornersOf A ms) (T : ℕ) where
  pos : 0 < A.prime
  pos = positive A.prime (high A c.curve)

  abbrev none : Subspace
  none = record { prime = A.prime; width = length ms * T; basis = [] }

  abbrev zeros : List ℕ
  zeros = replicate (length ms * T) 0

  zeros_fit : IsRow A.prime (length ms * T) zeros
  zeros_fit = (length-replicate (length ms * T) 0, zeros_row A c ms k (length ms * T))

  zeros_value : value A ms T zeros ≡ []
  zeros_value = zeros_combine A c (length ms * T) (places A ms T) (place_polys A c ms k T)

  zeros_in : InSpan (rows A.prime (length ms * T)) [] zeros
  unfolding combine
  zeros_in = ([], refl, λ i l. ap (λ n. n % A.prime) (get_or-replicate (length ms * T) i 0 0 l ∙ sym (row-entry (length ms * T) (λ _. 0) i l)))

  -- a row in the zero space is 0
  is_zeros : (row : List ℕ) → IsRow A.prime (length ms * T) row → InSpan (rows A.prime (length ms * T)) [] row → row ≡ zeros
  is_zeros row f h = equal_rows A.prime (length ms * T) row zeros f.0 zeros_fit.0 f.1 zeros_fit.1
      (λ i l. h.2 i l ∙ ap (λ n. n % A.prime) (combination-entry A.prime (length ms * T) h.0 [] i l ∙ ap (λ n. n % A.prime) (weighted-none h.0 [] i (λ j m. absurd (omega arith))) ∙ low)
      ∙ ap (λ n. n % A.prime) (sym (get_or-replicate (length ms * T) i 0 0 l)))
    where
      low : 0 % A.prime ≡ 0
      low = zero-mod A.prime

  closed : (v : ℕ) → v < A.variables → (f : List Term) → HasDigitsIn A ms T none f → HasDigitsIn A ms T none (mul A.prime (polynomial_of (variable v)) f)
  closed v l f h =
      let x = polynomial_of (variable v) in
      let hx = affine_poly A c ms k T (variable v) (affine_power A.variables v 1 l) in
      let e : value A ms T h.0 ≡ [] = ap (value A ms T) (is_zeros h.0 h.1.fits h.2) ∙ zeros_value in
      let near = subst (InPower A T) (ap (sub A.prime f) e ∙ ap (normal A.prime) (append-nil f)) h.1.close in
      let times = subst (InPower A T) (mul_normal_right A.prime x f) (in_mul A.prime A.variables (denominator_power A T ∷ A.ideal) x (normal A.prime f) pos hx near) in
      let y = mul A.prime x f in
      let back : sub A.prime (mul A.prime x f) (value A ms T zeros) ≡ mul A.prime x f = ap (sub A.prime (mul A.prime x f)) zeros_value ∙ ap (normal A.prime) (append-nil (mul A.prime x f)) ∙ normal_normal A.prime (products x f) in
      (zeros, record { fits = zeros_fit; close = subst (InPower A T) (sym back) times }, zeros_in)

  pub zero_ideal : (space : Subspace) → space.basis ≡ [] → space.prime ≡ A.prime → space.width ≡ length ms * T → IsIdealSpace A ms T space
  zero_ideal space eb ep ew = subst (IsIdealSpace A ms T) same (record { of_digits = record { prime = refl; width = refl }; closed = closed })
    where
      same : none ≡ space
      same = λ i. record { prime = sym ep i; width = sym ew i; basis = sym eb i }
