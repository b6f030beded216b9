-- A itself by rows.
use Rattle.std.proofs.Common.{◌≡◌, ◌↔◌, ℕ, ◌*◌, List, [], ◌∷◌, length, refl, arith}
use Rattle.std.proofs.lemmas.List.Elements.{All-nil, All-cons}
use Rattle.prime_field.specs.Primes.{IsPrime}
use Rattle.monomials.specs.Mono.{Monomial}
use Rattle.polys.specs.declared.term.Term.{Term}
use Rattle.polys.specs.declared.curve.Curve.{Curve}
use Rattle.polys.specs.Terms.{IsPoly}
use Rattle.polys.specs.Curve.{Fit, HasDimModulo, data_of}
use Rattle.curve_model.specs.Fraction.{Fraction, IsFraction, InA}
use Rattle.curve_model.specs.Laws.{IsFinite}
use Rattle.curve_laws.proofs.FitLaws.{fit_law}
use Rattle.basis_existence.proofs.Corners.{corners_law}
use Rattle.row_space.specs.Subspace.{Subspace, FitsIn, IsIn}
use Rattle.digit_laws.specs.Digits.{AreCornersOf, HasDigitsIn, IsIdealSpace}
use Rattle.digit_laws.proofs.DigitLaws.{digit_law}
use Rattle.over_laws.specs.Over.{OverData, InOver, HasRows}
use Rattle.over_laws.proofs.Rows.{rows_law}
use Rattle.over_module.proofs.DepthRows.{ideal_of_polys, x_product}

module _ (C : Curve) (n : ℕ) (prime : IsPrime C.prime) (fit : Fit C) (dimension : HasDimModulo (data_of C) n) where
  c : IsFinite (data_of C)
  c = fit_law C prime fit

  corners : (ms : List Monomial) × AreCornersOf (data_of C) ms
  corners =
      let A = data_of C in
      corners_law A.prime A.variables (A.denominator ∷ A.ideal) c.dimension.0 c.curve.prime
      (All-cons (IsPoly A.prime A.variables) A.denominator A.ideal c.curve.denominator c.curve.ideal) c.dimension.1

  abbrev pub none : Subspace
  none = record { prime = C.prime; width = 0; basis = [] }

  abbrev pub whole_ring : OverData
  whole_ring = record { curve = C; dimension = n; power = 0; rows = record { prime = C.prime; width = 0; basis = [] } }

  all_in : (row : List ℕ) → IsIn none row
  all_in row = ([], refl, λ i l. absurd (omega arith))

  has_all : (g : List Term) → IsPoly (data_of C).prime (data_of C).variables g → HasDigitsIn (data_of C) corners.0 0 none g
  has_all g h = let r = (digit_law (data_of C) c corners.0 corners.1 0).exist g h in (r.0, r.1, all_in r.0)

  ideal : IsIdealSpace (data_of C) corners.0 0 none
  ideal = ideal_of_polys (data_of C) c corners.0 corners.1 0 none (record { prime = refl; width = (let q : 0 ≡ length corners.0 * 0 = omega arith in q) })
      (λ v l f hf h. has_all _ (x_product (data_of C) c corners.0 corners.1 v l f hf))

  pub plain_rows : HasRows whole_ring
  plain_rows = record {
    prime = prime;
    fit = fit;
    dimension = dimension;
    rows_prime = refl;
    rows_width = (let q : 0 ≡ n * 0 = omega arith in q);
    fits = All-nil (FitsIn none);
    independent = λ cs l e i d h. absurd (omega arith);
    corners = corners.0;
    known = corners.1;
    ideal = ideal;
  }

  pub plain_fractions : (f : Fraction) → IsFraction (data_of C) f → InOver whole_ring f ↔ InA (data_of C) f
  plain_fractions f hf = ((λ r. (r.numerator, r.poly, r.equal)), (rows_law whole_ring plain_rows).whole f hf)
