-- The points that were chosen are those that the problem names.
use Rattle.std.proofs.Common.{◌≡◌, ◌≢◌, ◌⊎◌, ◌↔◌, inl, inr, ℕ, ◌<◌, List, [], ◌∷◌, map, length, sym, ap, ◌∙◌, subst}
use Rattle.std.specs.List.{All, AllPairs, AllZip, Any, Contains}
use Rattle.std.proofs.lemmas.List.{get_or-map, length-map}
use Rattle.std.proofs.lemmas.List.Elements.{All-contains, All-contains_itself, All-weaker}
use Rattle.polys.specs.declared.term.Term.{Term}
use Rattle.polys.specs.Poly.{Polynomial, terms_of}
use Rattle.polys.specs.Terms.{IsPoly}
use Rattle.polys.specs.Ideal.{InIdeal}
use Rattle.polys.specs.Curve.{CurveData, IsOver, data_of}
use Rattle.ideal_laws.proofs.Unique.{contains_cases, contains_head, contains_none, contains_tail}
use Rattle.problem.specs.declared.problem.Problem.{Problem}
use Rattle.problem.specs.Problem.{IsFit, IsFitProblem, problem_data}
use Rattle.curve_model.specs.declared.point.Point.{Point}
use Rattle.curve_model.specs.Point.{IsPointOf, basis_of}
use Rattle.curve_points.specs.Points.{AreThePoints}
use Rattle.digit_space.specs.Model.{DigitData}
use Rattle.split_points.specs.declared.splitting.CurvePoint.{CurvePoint}
use Rattle.split_points.specs.Splitting.{AreValuesAt}
use Rattle.norm_text.specs.Named.{IsNamed}
use Rattle.named_points.specs.Deciding.{AreChosen, AreDistinct, HaveDigits, IsNamedBy}
use Rattle.named_points.specs.Naming.{AreNamed}
use Rattle.named_points.proofs.Pairs.{pairs_map, pairs_unmap}
use Rattle.named_points.proofs.Values.{named_exact}

-- the polynomials of the statements are over the curve's prime and in its variables
pub over_at : (p q n m : ℕ) → p ≡ q → n ≡ m → (statements : List (List Polynomial)) → All (All (IsFit q m)) statements → All (All (IsOver p n)) statements
over_at p q n m e d statements h =
    All-weaker (All (IsFit q m)) (All (IsOver p n))
    (λ fs. All-weaker (IsFit q m) (IsOver p n) (λ f k. record {
      prime = k.prime ∙ sym e;
      poly = subst (λ r. IsPoly r n f.terms) (sym e) (subst (λ v. IsPoly q v f.terms) (sym d) k.poly);
    }) fs) statements h

-- ---- members of a list of images

module _ {X Y : Type 0} (f : X → Y) where
  pub contains_map : (xs : List X) (x : X) → Contains xs x → Contains (map f xs) (f x)
  contains_map xs x (k, l, e) = (k, subst (λ n. k < n) (sym (length-map xs f)) l, get_or-map f xs k x (f x) l ∙ ap f e)

  pub contains_unmap : (xs : List X) (y : Y) → Contains (map f xs) y → (x : X) × Contains xs x × (f x ≡ y)
  contains_unmap [] y c = absurd (contains_none y c)
  contains_unmap (x ∷ xs) y c = go (contains_cases (f x) y (map f xs) c) (contains_unmap xs y)
    where
      go : (f x ≡ y) ⊎ Contains (map f xs) y → (Contains (map f xs) y → (v : X) × Contains xs v × (f v ≡ y)) → (v : X) × Contains (x ∷ xs) v × (f v ≡ y)
      go (inl e) more = (x, contains_head x xs, e)
      go (inr d) more = let r = more d in (r.0, contains_tail x r.0 xs r.1, r.2)

-- ---- the points that a problem names

-- the points of the curve with their values, the digits of the statements, and the points that were chosen by them
pub record IsChoice (problem : Problem) (g : DigitData) (found : List CurvePoint) (made : List (List (List ℕ))) (points : List Point) : Type 0 where
  pub fit : IsFitProblem problem
  pub prime : g.curve.prime ≡ problem.prime
  pub variables : g.curve.variables ≡ length problem.letters
  pub each : All (λ local. IsPointOf (data_of g.curve) local.point) found
  pub exact : AreThePoints (data_of g.curve) (map (λ local. basis_of local.point) found)
  pub values : All (λ local. AreValuesAt g local.point local.values) found
  pub digits : AllZip (HaveDigits g) problem.at made
  pub chosen : AreChosen g made found points

module _ (problem : Problem) (g : DigitData) (found : List CurvePoint) (made : List (List (List ℕ))) (points : List Point) (h : IsChoice problem g found made points) where
  abbrev A : CurveData
  A = data_of g.curve

  abbrev base : CurvePoint → List (List Term)
  base local = basis_of local.point

  -- a point that was chosen, with what the splitting tells of it
  from_chosen : (P : Point) → Contains points P → (local : CurvePoint) × Contains h.chosen.chosen local × (local.point ≡ P)
  from_chosen P c = contains_unmap (λ local. local.point) h.chosen.chosen P (subst (λ ps. Contains ps P) h.chosen.same c)

  is_point : (P : Point) → Contains points P → IsPointOf A P
  is_point P c =
      let w = from_chosen P c in
      subst (IsPointOf A) w.2 (All-contains (λ local. IsPointOf A local.point) found w.0 h.each (h.chosen.inside w.0 w.1).0)

  -- what values say of a point that was found
  decided : (local : CurvePoint) → Contains found local
      → IsNamedBy g made local ↔ ((map terms_of problem.at ≡ []) ⊎ Any (λ fs. All (InIdeal A.prime A.variables (basis_of local.point)) fs) (map terms_of problem.at))
  decided local c =
      named_exact g local (All-contains (λ l. AreValuesAt g l.point l.values) found local h.values c) problem.at made
      (over_at g.curve.prime problem.prime g.curve.variables (length problem.letters) h.prime h.variables problem.at h.fit.at) h.digits

  listed : (P : List (List Term)) → Contains (map basis_of points) P → IsNamed (problem_data problem) A P
  listed P c =
      let q = contains_unmap basis_of points P c in
      let w = from_chosen q.0 q.1 in
      let inside = h.chosen.inside w.0 w.1 in
      let here : IsNamed (problem_data problem) A (base w.0) = record {
        point = (All-contains (λ local. IsPointOf A local.point) found w.0 h.each inside.0).is_point;
        named = (decided w.0 inside.0).0 inside.1;
      } in
      subst (IsNamed (problem_data problem) A) (ap basis_of w.2 ∙ q.2) here

  all_listed : (P : List (List Term)) → IsNamed (problem_data problem) A P → Contains (map basis_of points) P
  all_listed P n =
      let q = contains_unmap base found P ((h.exact.exact P).1 n.point) in
      let named = subst (λ B. (map terms_of problem.at ≡ []) ⊎ Any (λ fs. All (InIdeal A.prime A.variables B) fs) (map terms_of problem.at)) (sym q.2) n.named in
      let c = h.chosen.covers q.0 q.1 ((decided q.0 q.1).1 named) in
      let among : Contains points q.0.point = subst (λ ps. Contains ps q.0.point) (sym h.chosen.same) (contains_map (λ local. local.point) h.chosen.chosen q.0 c) in
      subst (Contains (map basis_of points)) q.2 (contains_map basis_of points q.0.point among)

  apart : AreDistinct h.chosen.chosen
  apart = h.chosen.distinct (pairs_unmap (λ P R. P ≢ R) base found h.exact.distinct)

  without_values : Point → CurvePoint
  without_values P = record { point = P; idempotent = []; values = [] }

  no_point : List (List Term) → Point
  no_point P = record { basis = []; degree = 0 }

  pub are_named : AreNamed problem (data_of g.curve) points
  are_named = record {
    each = All-weaker (Contains points) (IsPointOf A) is_point points (All-contains_itself points);
    all = λ P. (listed P, all_listed P);
    distinct = pairs_map (λ P R. P ≢ R) basis_of no_point points
        (subst (AllPairs (λ P R. basis_of P ≢ basis_of R)) (sym h.chosen.same)
        (pairs_map (λ P R. basis_of P ≢ basis_of R) (λ local. local.point) without_values h.chosen.chosen apart));
  }
