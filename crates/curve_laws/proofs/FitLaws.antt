-- A fit curve has a regular denominator and a finite dimension modulo it.
use Rattle.std.proofs.Common.{ℕ, List, [], ◌∷◌, map, All}
use Rattle.std.proofs.lemmas.List.Elements.{All-nil, All-cons, All-head, All-tail}
use Rattle.polys.specs.Terms.{IsPoly}
use Rattle.polys.specs.Poly.{Polynomial}
use Rattle.polys.specs.Curve.{IsOver}
use Rattle.curve_model.specs.Steps.{FitIsFinite}

terms_poly : (p n : ℕ) (fs : List Polynomial) → All (IsOver p n) fs → All (IsPoly p n) (map (λ f. f.terms) fs)
terms_poly p n [] h = All-nil (IsPoly p n)
terms_poly p n (f ∷ fs) h = All-cons (IsPoly p n) f.terms (map (λ g. g.terms) fs) (All-head (IsOver p n) f fs h).poly (terms_poly p n fs (All-tail (IsOver p n) f fs h))

pub fit_law : FitIsFinite
fit_law c prime fit = record {
  curve = record { prime = prime; ideal = terms_poly c.prime c.variables c.ideal fit.ideal; denominator = fit.denominator.poly; regular = fit.regular };
  dimension = (fit.finite.0, fit.finite.2);
}
