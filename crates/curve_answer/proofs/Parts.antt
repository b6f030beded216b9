-- What a book tells of the problem.
use Rattle.std.proofs.Common.{◌≡◌, ℕ, ◌<◌, ◌≤◌, List, [], ◌∷◌, ◌++◌, map, length, get_or, take, ◌+◌, All, Contains, arith, refl, sym, ap, subst, ◌∙◌}
use Rattle.std.specs.Prelude.{◌==◌, not}
use Rattle.std.proofs.lemmas.List.{length-map, map-append, take_more}
use Rattle.std.proofs.lemmas.List.Elements.{All-nil, All-cons, All-head, All-tail, All-push, All-weaker, All-contains}
use Rattle.polys.specs.Curve.{CurveData, IsOver, HasDimModulo, data_of}
use Rattle.polys.specs.Poly.{Polynomial, terms_of}
use Rattle.curve_model.specs.declared.point.Point.{Point}
use Rattle.curve_model.specs.Closure.{Closure}
use Rattle.curve_model.specs.Delta.{HasDelta, IsDeltaAbove}
use Rattle.curve_model.specs.Generators.{OneIdealOneClosure}
use Rattle.curve_model.specs.Point.{IsPointOf, HasDegree, basis_of}
use Rattle.problem.specs.declared.problem.Problem.{Problem}
use Rattle.problem.specs.Problem.{problem_data, curve_of}
use Rattle.lift_colon.specs.Lifted.{LiftedData}
use Rattle.join_book.specs.Book.{BookData, BookIs}
use Rattle.norm_text.specs.declared.answer.Answer.{Answer}
use Rattle.norm_text.specs.declared.answer.PointLine.{PointLine}
use Rattle.norm_text.specs.Answer.{PointData}
use Rattle.norm_text.specs.Answers.{named_number}
use Rattle.norm_text.specs.Named.{IsNamedList}
use Rattle.norm_text.specs.Shown.{point_of}
use Rattle.curve_answer.specs.Deltas.{IsWithin, IsFirstAbove}
use Rattle.curve_answer.specs.Reading.{AreLinesOf, IsLine, with_delta}
use Rattle.curve_answer.specs.Telling.{IsPrintable, IsRight, IsAbove}
use Rattle.curve_answer.proofs.Lists.{cut_at, filtered_images, all_filtered, all_of_images}
use Rattle.curve_answer.proofs.OneRing.{IsOneRing, same_prime, agree, named, degree, above}

-- ---- the lines

-- what holds of the lines' deltas holds of their points
pub within_lines : (A : CurveData) (L : ℕ) (ls : List PointLine) → All (IsLine A L) ls → IsWithin A L (map basis_of (map (λ line. line.point) ls))
within_lines A L [] q = All-nil (λ P. (r : ℕ) × HasDelta A P r × (r ≤ L))
within_lines A L (line ∷ ls) q =
    let here = All-head (IsLine A L) line ls q in
    All-cons (λ P. (r : ℕ) × HasDelta A P r × (r ≤ L)) (basis_of line.point) (map basis_of (map (λ line. line.point) ls)) (line.delta, here.0, here.1)
    (within_lines A L ls (All-tail (IsLine A L) line ls q))

-- lines of all points
pub within_all : (A : CurveData) (L : ℕ) (Ps : List Point) (ls : List PointLine) → AreLinesOf A L Ps ls → IsWithin A L (map basis_of Ps)
within_all A L Ps ls h = subst (λ Qs. IsWithin A L (map basis_of Qs)) h.points (within_lines A L ls h.deltas)

-- the lines of the first points, and one more
pub more_lines : (A : CurveData) (L : ℕ) (Ps : List Point) (ls : List PointLine) (i : ℕ) (line : PointLine) → AreLinesOf A L (take i Ps) ls → i < length Ps
    → get_or Ps i line.point ≡ line.point → IsLine A L line → AreLinesOf A L (take (i + 1) Ps) (ls ++ line ∷ [])
more_lines A L Ps ls i line h l at is = record {
  points =
      map-append (λ (x : PointLine). x.point) ls (line ∷ [])
      ∙ (ap (λ (Qs : List Point). Qs ++ line.point ∷ []) h.points ∙ (ap (λ P. take i Ps ++ P ∷ []) (sym at) ∙ sym (take_more Ps i line.point l)));
  deltas = All-push (IsLine A L) ls line h.deltas is;
}

-- where delta is above the limit at the next point, it is the first
pub first_of : (A : CurveData) (L : ℕ) (Ps : List Point) (ls : List PointLine) (i : ℕ) (P : Point) → AreLinesOf A L (take i Ps) ls → i < length Ps → get_or Ps i P ≡ P
    → IsDeltaAbove A (basis_of P) L → Contains Ps P × IsFirstAbove A L (map basis_of Ps) (basis_of P)
first_of A L Ps ls i P h l at above =
    let cut = cut_at Ps i P l in (
      (i, l, at),
      record {
        before = map basis_of (take i Ps);
        after = map basis_of cut.0;
        place =
            ap (map basis_of) (cut.1 ∙ ap (λ Q. take i Ps ++ Q ∷ cut.0) at)
            ∙ map-append basis_of (take i Ps) (P ∷ cut.0);
        within = within_all A L (take i Ps) ls h;
        above = above;
      },
    )

-- ---- the answer

-- what its parts are
pub record HasParts (problem : Problem) (b : BookData) (l : LiftedData) (n : ℕ) (all : List PointLine) (a : Answer) : Type 0 where
  pub keeps : BookIs b
  pub ring : IsOneRing problem b.curve l
  pub named : IsNamedList (problem_data problem) (data_of b.curve) (map basis_of b.points)
  pub dimension : HasDimModulo (curve_of (problem_data problem) l.denominator.terms) n
  pub lines : AreLinesOf (data_of b.curve) b.limit b.points all
  pub prime : a.prime ≡ problem.prime
  pub letters : a.letters ≡ problem.letters
  pub denominator : a.denominator ≡ l.denominator
  pub same_dimension : a.dimension ≡ n
  pub number : a.named ≡ named_number (problem_data problem).at (length b.points)
  pub points : a.points ≡ with_delta all
  pub over : All (IsOver b.curve.prime b.curve.variables) a.numerators
  pub closure : Closure (data_of b.curve) (map basis_of b.points) a.power (terms_of a.numerators)

primes_of : (p n : ℕ) (q : ℕ) (fs : List Polynomial) → p ≡ q → All (IsOver p n) fs → All (λ f. f.prime ≡ q) fs
primes_of p n q fs e a = All-weaker (IsOver p n) (λ f. f.prime ≡ q) (λ f h. h.prime ∙ e) fs a

-- the bases of the lines' points
bases_of : (lines : List PointLine) → map (λ P. P.basis) (map point_of lines) ≡ map basis_of (map (λ line. line.point) lines)
bases_of [] = refl
bases_of (line ∷ lines) = ap (λ l. basis_of line.point ∷ l) (bases_of lines)

module _ (law : OneIdealOneClosure) (problem : Problem) (b : BookData) (l : LiftedData) (n : ℕ) (lines : List PointLine) (a : Answer) (h : HasParts problem b l n lines a) where
  abbrev A : CurveData
  A = data_of b.curve

  abbrev B : CurveData
  B = curve_of (problem_data problem) l.denominator.terms

  -- each line's point is a point of the curve
  on_curve : All (λ line. IsPointOf A line.point) lines
  on_curve = all_of_images (λ line. line.point) (IsPointOf A) lines (subst (All (IsPointOf A)) (sym h.lines.points) h.keeps.points.each)

  same_bases : map (λ P. P.basis) (map point_of lines) ≡ map basis_of b.points
  same_bases = bases_of lines ∙ ap (map basis_of) h.lines.points

  -- what holds of each line holds of its data
  of_lines : (P : PointData → Type 0) (ls : List PointLine) → All (λ line. P (point_of line)) ls → All P (map point_of ls)
  of_lines P [] q = All-nil P
  of_lines P (line ∷ ls) q = All-cons P (point_of line) (map point_of ls) (All-head (λ line. P (point_of line)) line ls q) (of_lines P ls (All-tail (λ line. P (point_of line)) line ls q))

  within_here : IsWithin B b.limit (map basis_of b.points)
  within_here =
      All-weaker (λ P. (r : ℕ) × HasDelta A P r × (r ≤ b.limit)) (λ P. (r : ℕ) × HasDelta B P r × (r ≤ b.limit))
      (λ P w. (w.0, (agree problem b.curve l h.ring law).delta P w.0 w.1, w.2)) (map basis_of b.points) (within_all A b.limit b.points lines h.lines)

  printable : IsPrintable a
  printable = record {
    denominator = ap (λ f. f.prime) h.denominator ∙ (ap (λ f. f.prime) h.ring.lifted.denominator ∙ (h.keeps.fit.denominator.prime ∙ (same_prime problem b.curve l h.ring ∙ sym h.prime)));
    points =
        subst (λ ls. All (λ line. All (λ f. f.prime ≡ a.prime) line.point.basis) ls) (sym h.points)
        (all_filtered (λ line. not (line.delta == 0)) (λ line. All (λ f. f.prime ≡ a.prime) line.point.basis) lines
        (All-weaker (λ line. IsPointOf A line.point) (λ line. All (λ f. f.prime ≡ a.prime) line.point.basis)
        (λ line p. primes_of b.curve.prime b.curve.variables a.prime line.point.basis (same_prime problem b.curve l h.ring ∙ sym h.prime) p.over) lines on_curve));
    numerators = primes_of b.curve.prime b.curve.variables a.prime a.numerators (same_prime problem b.curve l h.ring ∙ sym h.prime) h.over;
  }

  at_bases : IsNamedList (problem_data problem) B (map (λ P. P.basis) (map point_of lines))
  at_bases = subst (IsNamedList (problem_data problem) B) (sym same_bases) (named problem b.curve l h.ring law (map basis_of b.points) h.named)

  pub right : IsRight problem l.denominator.terms b.limit a
  right = record {
    printable = printable;
    points = map basis_of b.points;
    named = named problem b.curve l h.ring law (map basis_of b.points) h.named;
    within = within_here;
    answer = record {
      points = map point_of lines;
      are_points = record {
        named = at_bases;
        degrees =
            of_lines (λ P. HasDegree B P.basis P.degree) lines
            (All-weaker (λ line. IsPointOf A line.point) (λ line. HasDegree B (basis_of line.point) line.point.degree)
            (λ line p. degree problem b.curve l h.ring (basis_of line.point) line.point.degree p.degree) lines on_curve);
        deltas =
            of_lines (λ P. HasDelta B P.basis P.delta) lines
            (All-weaker (IsLine A b.limit) (λ line. HasDelta B (basis_of line.point) line.delta)
            (λ line q. (agree problem b.curve l h.ring law).delta (basis_of line.point) line.delta q.0) lines h.lines.deltas);
        at_most_64 =
            of_lines (λ P. P.delta ≤ 64) lines
            (All-weaker (IsLine A b.limit) (λ line. line.delta ≤ 64) (λ line q. let low : b.limit ≤ 64 = h.keeps.low_limit in let few : line.delta ≤ b.limit = q.1 in omega arith) lines h.lines.deltas);
      };
      prime = h.prime;
      letters = h.letters;
      denominator = ap (λ f. f.terms) h.denominator;
      dimension = subst (HasDimModulo B) (sym h.same_dimension) h.dimension;
      named =
          h.number
          ∙ ap (named_number (problem_data problem).at) (sym (length-map lines point_of ∙ (sym (length-map lines (λ (line : PointLine). line.point)) ∙ ap length h.lines.points)));
      lines = ap (map point_of) h.points ∙ filtered_images point_of (λ P. not (P.delta == 0)) lines;
      closure =
          subst (λ S. Closure B S a.power (map (λ f. f.terms) a.numerators)) (sym same_bases)
          ((agree problem b.curve l h.ring law).closure (map basis_of b.points) a.power (terms_of a.numerators) h.closure);
    };
  }

-- ---- the first point above

module _ (law : OneIdealOneClosure) (problem : Problem) (b : BookData) (l : LiftedData) (keeps : BookIs b) (ring : IsOneRing problem b.curve l) where
  pub first-above : (P : Point) → IsNamedList (problem_data problem) (data_of b.curve) (map basis_of b.points) → Contains b.points P
      → IsFirstAbove (data_of b.curve) b.limit (map basis_of b.points) (basis_of P) → IsAbove problem l.denominator.terms b.limit P
  first-above P names member first = record {
    inside =
        primes_of b.curve.prime b.curve.variables problem.prime P.basis (same_prime problem b.curve l ring)
        (All-contains (IsPointOf (data_of b.curve)) b.points P keeps.points.each member).over;
    points = map basis_of b.points;
    named = named problem b.curve l ring law (map basis_of b.points) names;
    first = record {
      before = first.before;
      after = first.after;
      place = first.place;
      within =
          All-weaker (λ R. (r : ℕ) × HasDelta (data_of b.curve) R r × (r ≤ b.limit)) (λ R. (r : ℕ) × HasDelta (curve_of (problem_data problem) l.denominator.terms) R r × (r ≤ b.limit))
          (λ R w. (w.0, (agree problem b.curve l ring law).delta R w.0 w.1, w.2)) first.before first.within;
      above = above problem b.curve l ring law (basis_of P) b.limit first.above;
    };
  }
