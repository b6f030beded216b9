-- The points of a curve are few.
use Rattle.std.proofs.Common.{◌∙◌, ◌<◌, ◌≤◌, List, [], map, length, arith, sym, subst}
use Rattle.std.proofs.lemmas.List.{length-map, get_or-map}
use Rattle.std.proofs.lemmas.List.Elements.{All-map}
use Rattle.prime_field.specs.Primes.{IsPrime}
use Rattle.polys.specs.declared.curve.Curve.{Curve}
use Rattle.polys.specs.declared.curve.TheConstants.{LARGEST_DIMENSION}
use Rattle.polys.specs.Curve.{Fit, data_of}
use Rattle.curve_model.specs.declared.point.Point.{Point}
use Rattle.curve_model.specs.Laws.{ArePoints}
use Rattle.curve_model.specs.Point.{IsPoint, basis_of}
use Rattle.curve_model.specs.PointSets.{FitCurvesHaveFewPoints}
use Rattle.join_book.specs.Book.{ArePointsOf}

nowhere : Point
nowhere = record { basis = []; degree = 0 }

-- distinct points of the program are distinct points of the curve's data
are_points : (c : Curve) (Ps : List Point) → ArePointsOf c Ps → ArePoints (data_of c) (map basis_of Ps)
are_points c Ps h = record {
  points = All-map (IsPoint (data_of c)) basis_of Ps (λ i d l. (h.each i d l).is_point);
  distinct = λ i j d less within e.
      let inside : j < length Ps = subst (λ n. j < n) (length-map Ps basis_of) within in
      let before : i < length Ps = omega arith in
      h.once i j nowhere less inside (sym (get_or-map basis_of Ps i nowhere d before) ∙ (e ∙ get_or-map basis_of Ps j nowhere d inside));
}

pub few_points : FitCurvesHaveFewPoints → (c : Curve) (Ps : List Point) → IsPrime c.prime → Fit c → ArePointsOf c Ps → length Ps ≤ LARGEST_DIMENSION
few_points law c Ps prime fit h = subst (λ n. n ≤ LARGEST_DIMENSION) (length-map Ps basis_of) (law c prime fit (map basis_of Ps) (are_points c Ps h))
