-- What an answer says of fractions.
use Rattle.std.proofs.Common.{◌≡◌, ◌≢◌, ℕ, ◌<◌, List, [], ◌∷◌, map, length, slice_index_or, refl, sym, ap, ◌∙◌, subst, inl, arith}
use Rattle.std.specs.List.{All, Contains, AllPairs}
use Rattle.std.specs.Ordering.{nat_cmp}
use Rattle.std.specs.Cmp.Lexicographic.{slice_cmp}
use Rattle.std.specs.declared.cmp.Ordering.TheVariants.{Less, Equal}
use Rattle.std.proofs.lemmas.List.{get_or-map, length-map}
use Rattle.std.proofs.lemmas.List.Elements.{All-weaker, All-contains_itself}
use Rattle.monomials.proofs.Last.{level}
use Rattle.polys.specs.declared.term.Term.{Term}
use Rattle.polys.specs.Curve.{CurveData}
use Rattle.curve_model.specs.Laws.{IsRegular, IsFinite, ArePolys, ArePoints}
use Rattle.curve_model.specs.Point.{IsPoint}
use Rattle.curve_laws.proofs.ClosingLaws.{exact_law}
use Rattle.curve_laws.proofs.PointSetLaws.{grows_law}
use Rattle.curve_points.specs.Points.{AreThePoints}
use Rattle.curve_points.proofs.Points.{closure_points_law, integral_points_law}
use Rattle.poly_text.specs.PolyText.{list_text}
use Rattle.problem.specs.Problem.{ProblemData, curve_of}
use Rattle.norm_text.specs.Named.{IsNamedList}
use Rattle.norm_text.specs.Answer.{AnswerData}
use Rattle.norm_text.specs.Answers.{IsAnswer}
use Rattle.norm_text.specs.Meaning.{ModulesAreIntegral, ModulesAreLocal, PowersAreLeast}

-- no text comes before itself
pub same_text : (xs : List ℕ) → slice_cmp nat_cmp xs xs ≡ Equal
same_text [] = refl
same_text (x ∷ xs) = rw (level x) (same_text xs)

module _ (problem : ProblemData) (A : CurveData) (S : List (List (List Term))) (h : IsNamedList problem A S) where
  -- points whose texts rise are distinct
  pub distinct : AllPairs (λ P R. P ≢ R) S
  distinct i j d less within e =
      let text = list_text problem.prime problem.letters in
      let inside : i < length S = omega arith in
      let long : j < length (map text S) = subst (λ n. j < n) (sym (length-map S text)) within in
      let rising : slice_cmp nat_cmp (slice_index_or (map text S) i (text d)) (slice_index_or (map text S) j (text d)) ≡ Less = h.rising i j (text d) less long in
      let first : slice_index_or (map text S) i (text d) ≡ text (slice_index_or S i d) = get_or-map text S i d (text d) inside in
      let second : slice_index_or (map text S) j (text d) ≡ text (slice_index_or S j d) = get_or-map text S j d (text d) within in
      let same : slice_cmp nat_cmp (slice_index_or (map text S) i (text d)) (slice_index_or (map text S) j (text d)) ≡ Equal =
      ap (λ t. slice_cmp nat_cmp t (slice_index_or (map text S) j (text d))) (first ∙ ap text e ∙ sym second) ∙ same_text (slice_index_or (map text S) j (text d))
      in
      absurd (cc)

  pub named_points : All (IsPoint A) S
  named_points = All-weaker (Contains S) (IsPoint A) (λ P k. ((h.all P).0 k).point) S (All-contains_itself S)

  pub named_are_points : ArePoints A S
  named_are_points = record { points = named_points; distinct = distinct }

  -- where no points are named, the list has exactly the points
  pub are_the_points : problem.at ≡ [] → AreThePoints A S
  are_the_points none = record {
    exact = λ P. (λ k. ((h.all P).0 k).point, λ k. (h.all P).1 (record { point = k; named = inl none }));
    distinct = distinct;
  }

pub finite_of : (problem : ProblemData) (d : List Term) → IsRegular (curve_of problem d) → (a : AnswerData) → IsAnswer problem d a → IsFinite (curve_of problem d)
finite_of problem d c a h = record { curve = c; dimension = (a.dimension, h.dimension) }

pub integral_law : ModulesAreIntegral
integral_law problem d c none a h f k =
    let S = map (λ P. P.basis) h.points in
    closure_points_law (curve_of problem d) (finite_of problem d c a h) S (are_the_points problem (curve_of problem d) S h.are_points.named none) a.power a.numerators h.closure f k

pub local_law : ModulesAreLocal
local_law problem d c a h T named f k =
    let A = curve_of problem d in
    let S = map (λ P. P.basis) h.points in
    let finite = finite_of problem d c a h in
    let listed = h.are_points.named in
    let one = named_are_points problem A S listed in
    let two = named_are_points problem A T named in
    let polys : All (ArePolys A) S = All-weaker (IsPoint A) (ArePolys A) (λ P w. w.reduced.polys) S one.points in
    let there = exact_law A finite S polys a.power a.numerators h.closure f k in (
      λ m. grows_law A finite T S two one (λ P w. (named.all P).1 ((listed.all P).0 w)) f k (there.0 m),
      λ l. there.1 (grows_law A finite S T one two (λ P w. (listed.all P).1 ((named.all P).0 w)) f k l),
    )

pub least_law : PowersAreLeast
least_law problem d c none a h k less all =
    let S = map (λ P. P.basis) h.points in
    let A = curve_of problem d in
    h.closure.least k less (λ f w l. all f w ((integral_points_law A (finite_of problem d c a h) S (are_the_points problem A S h.are_points.named none) f w).0.1 l))
