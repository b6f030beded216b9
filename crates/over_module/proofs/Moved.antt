-- Modules over another power of d.
use Rattle.std.proofs.Common.{◌≡◌, ◌↔◌, ℕ, ◌+◌, ◌-◌, ◌*◌, ◌<◌, ◌≤◌, List, ◌∷◌, map, drop, length, get_or, All, sym, ap, ap₂, ◌∙◌, subst, refl, arith, mul-add}
use Rattle.std.proofs.lemmas.List.Elements.{All-map}
use Rattle.polys.specs.declared.curve.Curve.{Curve}
use Rattle.polys.proofs.Affine.{positive}
use Rattle.curve_laws.proofs.Base.{high}
use Rattle.prime_field.specs.Primes.{IsPrime}
use Rattle.polys.specs.Curve.{HasDimModulo, data_of}
use Rattle.curve_model.specs.Fraction.{Fraction, IsFraction}
use Rattle.curve_model.specs.Laws.{IsFinite}
use Rattle.curve_laws.proofs.FitLaws.{fit_law}
use Rattle.standard_monomials.proofs.Unique.{unique_law}
use Rattle.row_space.specs.Echelon.{IsRow}
use Rattle.row_space.specs.Subspace.{Subspace, IsReduced}
use Rattle.digit_laws.specs.Digits.{IsIdealSpace, IsOfDigits}
use Rattle.digit_laws.proofs.DigitLaws.{digit_law}
use Rattle.over_laws.specs.Over.{OverData, InRows, HasRows, HaveSameFractions}
use Rattle.over_module.specs.Raising.{behind_zeros, AreRowsAt, BeginsWithZeros, IsAtPower, IsRaised, IsSpannedBy}
use Rattle.over_module.proofs.DepthRows.{raised_same, ideal_moved}
use Rattle.over_module.proofs.Ranks.{same_rank}
use Rattle.over_module.proofs.ZeroRows.{fits_of, independent_of, all_longer, shorter, raised_space, spanned_basis, zeros_back}

module _ (o : OverData) (h : HasRows o) where
  pub finite : IsFinite (data_of o.curve)
  finite = fit_law o.curve h.prime h.fit

  pub over_zero : 0 < o.rows.prime
  over_zero = subst (λ p. 0 < p) (sym h.rows_prime) (positive (data_of o.curve).prime (high (data_of o.curve) finite.curve))

  -- a dimension is the number of the corners
  pub corner_count : (n : ℕ) → HasDimModulo (data_of o.curve) n → n ≡ length h.corners
  corner_count n d =
      let A = data_of o.curve in
      unique_law.one A.prime A.variables (A.denominator ∷ A.ideal) n (length h.corners) d (digit_law (data_of o.curve) finite h.corners h.known o.power).dimension

  pub count : o.dimension ≡ length h.corners
  count = corner_count o.dimension h.dimension

  -- rows of some width over some power that are an ideal
  pub has_rows : (D : ℕ) (S : Subspace) → IsReduced S → IsIdealSpace (data_of o.curve) h.corners D S → HasRows (record { curve = o.curve; dimension = o.dimension; power = D; rows = S })
  has_rows D S r i = record {
    prime = h.prime;
    fit = h.fit;
    dimension = h.dimension;
    rows_prime = i.of_digits.prime;
    rows_width = i.of_digits.width ∙ ap (λ n. n * D) (sym count);
    fits = fits_of S r;
    independent = independent_of S r;
    corners = h.corners;
    known = h.known;
    ideal = i;
  }

  module _ (s D z : ℕ) (high : Subspace) (sum : D ≡ s + o.power) (zeros : z ≡ o.dimension * s) (r : IsRaised z o.rows high) where
    at_high : z ≡ length h.corners * s
    at_high = zeros ∙ ap (λ n. n * s) count

    digits_high : IsOfDigits (data_of o.curve) h.corners D high
    digits_high = record {
      prime = r.prime ∙ h.ideal.of_digits.prime;
      width = r.width ∙ ap₂ (λ a b. a + b) at_high h.ideal.of_digits.width ∙ sym (mul-add (length h.corners) s o.power) ∙ ap (λ n. length h.corners * n) (sym sum);
    }

    pub raised_fractions : (f : Fraction) → IsFraction (data_of o.curve) f → InRows (data_of o.curve) o.power o.power o.rows f ↔ InRows (data_of o.curve) D D high f
    raised_fractions = raised_same (data_of o.curve) finite h.corners h.known s o.power D z o.rows high sum at_high h.ideal.of_digits digits_high r

    pub raised_rows : IsReduced high → HasRows (record { curve = o.curve; dimension = o.dimension; power = D; rows = high })
    raised_rows e = has_rows D high e (ideal_moved (data_of o.curve) finite h.corners h.known o.power D o.rows high h.ideal digits_high raised_fractions)

  module _ (s K z : ℕ) (low : Subspace) (sum : o.power ≡ s + K) (zeros : z ≡ o.dimension * s) (digits_low : IsOfDigits (data_of o.curve) h.corners K low) (r : IsRaised z low o.rows) where
    pub lowered_fractions : (f : Fraction) → IsFraction (data_of o.curve) f → InRows (data_of o.curve) o.power o.power o.rows f ↔ InRows (data_of o.curve) K K low f
    lowered_fractions f hf =
        let e = raised_same (data_of o.curve) finite h.corners h.known s K o.power z low o.rows sum (zeros ∙ ap (λ n. n * s) count) digits_low h.ideal.of_digits r f hf in
        (e.1, e.0)

    pub lowered_rows : IsReduced low → HasRows (record { curve = o.curve; dimension = o.dimension; power = K; rows = low })
    lowered_rows e = has_rows K low e (ideal_moved (data_of o.curve) finite h.corners h.known o.power K o.rows low h.ideal digits_low lowered_fractions)

-- ---- what the program makes

pub spanned_moved : (p q v w : ℕ) (vs : List (List ℕ)) (s : Subspace) → q ≡ p → w ≡ v → IsSpannedBy q w vs s → IsSpannedBy p v vs s
spanned_moved p q v w vs s ep ev h = subst (λ n. IsSpannedBy n v vs s) ep (subst (λ n. IsSpannedBy q n vs s) ev h)

module _ (o : OverData) (D : ℕ) (S : Subspace) (C : Curve) (n : ℕ) (ec : C ≡ o.curve) (en : n ≡ o.dimension) where
  pub rows_moved : HasRows (record { curve = o.curve; dimension = o.dimension; power = D; rows = S }) → HasRows (record { curve = C; dimension = n; power = D; rows = S })
  rows_moved h = subst (λ m. HasRows (record { curve = C; dimension = m; power = D; rows = S })) (sym en)
      (subst (λ K. HasRows (record { curve = K; dimension = o.dimension; power = D; rows = S })) (sym ec) h)

  pub power_moved : HaveSameFractions o (record { curve = o.curve; dimension = o.dimension; power = D; rows = S }) → length S.basis ≡ length o.rows.basis
      → IsAtPower o D (record { curve = C; dimension = n; power = D; rows = S })
  power_moved h rank = record {
    curve = ec;
    dimension = en;
    power = refl;
    same = subst (λ m. HaveSameFractions o (record { curve = C; dimension = m; power = D; rows = S })) (sym en)
        (subst (λ K. HaveSameFractions o (record { curve = K; dimension = o.dimension; power = D; rows = S })) (sym ec) h);
    rank = rank;
  }

module _ (o : OverData) (h : HasRows o) (e : IsReduced o.rows) where
  rows_prime : IsPrime o.rows.prime
  rows_prime = subst IsPrime (sym h.rows_prime) h.prime

  -- ---- at a greater power
  module _ (D : ℕ) (le : o.power ≤ D) where
    wide : o.dimension * D ≡ o.dimension * (D - o.power) + o.rows.width
    wide = ap (λ n. o.dimension * n) (let q : D ≡ (D - o.power) + o.power = omega arith in q) ∙ mul-add o.dimension (D - o.power) o.power ∙ ap (λ n. o.dimension * (D - o.power) + n) (sym h.rows_width)

    raised_fit : All (IsRow o.rows.prime (o.dimension * D)) (map (behind_zeros (o.dimension * (D - o.power))) o.rows.basis)
    raised_fit = all_longer o.rows.prime (o.dimension * (D - o.power)) o.rows.width (o.dimension * D) o.rows.basis (over_zero o h) wide h.fits

    module _ (S : Subspace) (s : IsSpannedBy o.rows.prime (o.dimension * D) (map (behind_zeros (o.dimension * (D - o.power))) o.rows.basis) S) where
      raised_is : IsRaised (o.dimension * (D - o.power)) o.rows S
      raised_is = raised_space o.rows.prime (o.dimension * (D - o.power)) o.rows.width (o.dimension * D) o.rows.basis o.rows S wide (spanned_basis o.rows e) s

      made_rows : HasRows (record { curve = o.curve; dimension = o.dimension; power = D; rows = S })
      made_rows = raised_rows o h (D - o.power) D (o.dimension * (D - o.power)) S (let q : D ≡ (D - o.power) + o.power = omega arith in q) refl raised_is s.reduced

      made_same : HaveSameFractions o (record { curve = o.curve; dimension = o.dimension; power = D; rows = S })
      made_same = raised_fractions o h (D - o.power) D (o.dimension * (D - o.power)) S (let q : D ≡ (D - o.power) + o.power = omega arith in q) refl raised_is

      made_rank : length S.basis ≡ length o.rows.basis
      made_rank = same_rank (o.dimension * (D - o.power)) o.rows S rows_prime raised_is e s.reduced

    pub raised_at : AreRowsAt o D (map (behind_zeros (o.dimension * (D - o.power))) o.rows.basis)
    raised_at = record { fit = raised_fit; rows = made_rows; same = made_same; rank = made_rank }

  -- ---- at a smaller power
  module _ (s : ℕ) (le : s ≤ o.power) where
    narrow : o.rows.width ≡ o.dimension * s + o.dimension * (o.power - s)
    narrow = h.rows_width ∙ ap (λ n. o.dimension * n) (let q : o.power ≡ s + (o.power - s) = omega arith in q) ∙ mul-add o.dimension s (o.power - s)

    lowered_fit : All (IsRow o.rows.prime (o.dimension * (o.power - s))) (map (drop (o.dimension * s)) o.rows.basis)
    lowered_fit = All-map (IsRow o.rows.prime (o.dimension * (o.power - s))) (drop (o.dimension * s)) o.rows.basis
        (λ i d l. shorter o.rows.prime (o.dimension * s) (o.dimension * (o.power - s)) o.rows.width (get_or o.rows.basis i d) narrow (h.fits i d l))

    module _ (begin : All (BeginsWithZeros (o.dimension * s)) o.rows.basis) (S : Subspace) (t : IsSpannedBy o.rows.prime (o.dimension * (o.power - s)) (map (drop (o.dimension * s)) o.rows.basis) S) where
      again : IsSpannedBy o.rows.prime o.rows.width (map (behind_zeros (o.dimension * s)) (map (drop (o.dimension * s)) o.rows.basis)) o.rows
      again = subst (λ us. IsSpannedBy o.rows.prime o.rows.width us o.rows) (zeros_back (o.dimension * s) o.rows.basis begin) (spanned_basis o.rows e)

      lowered_is : IsRaised (o.dimension * s) S o.rows
      lowered_is = raised_space o.rows.prime (o.dimension * s) (o.dimension * (o.power - s)) o.rows.width (map (drop (o.dimension * s)) o.rows.basis) S o.rows narrow t again

      digits : IsOfDigits (data_of o.curve) h.corners (o.power - s) S
      digits = record { prime = t.prime ∙ h.rows_prime; width = t.width ∙ ap (λ n. n * (o.power - s)) (count o h) }

      less_rows : HasRows (record { curve = o.curve; dimension = o.dimension; power = o.power - s; rows = S })
      less_rows = lowered_rows o h s (o.power - s) (o.dimension * s) S (let q : o.power ≡ s + (o.power - s) = omega arith in q) refl digits lowered_is t.reduced

      less_same : HaveSameFractions o (record { curve = o.curve; dimension = o.dimension; power = o.power - s; rows = S })
      less_same = lowered_fractions o h s (o.power - s) (o.dimension * s) S (let q : o.power ≡ s + (o.power - s) = omega arith in q) refl digits lowered_is

      less_rank : length S.basis ≡ length o.rows.basis
      less_rank = sym (same_rank (o.dimension * s) S o.rows (subst IsPrime (sym t.prime) rows_prime) lowered_is t.reduced e)

    pub lowered_at : All (BeginsWithZeros (o.dimension * s)) o.rows.basis → AreRowsAt o (o.power - s) (map (drop (o.dimension * s)) o.rows.basis)
    lowered_at begin = record { fit = lowered_fit; rows = less_rows begin; same = less_same begin; rank = less_rank begin }
