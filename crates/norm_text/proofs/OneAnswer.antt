-- A problem with a denominator has one answer.
use Rattle.std.proofs.Common.{◌≡◌, ◌<◌, ℕ, List, [], ◌∷◌, map, length, refl, sym, ap, ◌∙◌, subst, arith}
use Rattle.std.specs.Prelude.{not, ◌==◌, filter}
use Rattle.std.specs.List.{All}
use Rattle.std.proofs.lemmas.List.Elements.{All-head, All-tail}
use Rattle.polys.specs.declared.term.Term.{Term}
use Rattle.polys.specs.Curve.{CurveData}
use Rattle.polys.specs.Ideal.{HasDim}
use Rattle.curve_model.specs.Laws.{IsFinite, ArePolys}
use Rattle.curve_model.specs.Point.{IsPoint, HasDegree}
use Rattle.curve_model.specs.Delta.{HasDelta}
use Rattle.curve_model.specs.Closure.{Closure}
use Rattle.curve_laws.proofs.ClosingLaws.{unique_closure_law}
use Rattle.chain_laws.proofs.FewerLaws.{unique_delta_law}
use Rattle.problem.specs.Problem.{curve_of}
use Rattle.norm_text.specs.Answer.{PointData, answer_text}
use Rattle.norm_text.specs.Answers.{named_number}
use Rattle.norm_text.specs.Meaning.{AnswersAreOne, TextsAreOne}
use Rattle.norm_text.proofs.Meaning.{named_points, finite_of}
use Rattle.norm_text.proofs.OneList.{one_list}

-- an ideal has one dimension
one_dimension : (p n : ℕ) (gs : List (List Term)) (N M : ℕ) → HasDim p n gs N → HasDim p n gs M → N ≡ M
one_dimension p n gs N M a b =
    let less : N < M → ⊥ = λ l. b.least a.basis (let e = a.as_many in omega arith) a.spans in
    let more : M < N → ⊥ = λ l. a.least b.basis (let e = b.as_many in omega arith) b.spans in
    omega arith

no_point : {T : Type 0} {x : T} {xs : List T} → [] ≡ x ∷ xs → ⊥
no_point e = omega (arith, ap length e)

-- points with one list of bases have the same degrees and deltas
same_points : (A : CurveData) → IsFinite A → (Ps Rs : List PointData) → map (λ P. P.basis) Ps ≡ map (λ P. P.basis) Rs
    → All (IsPoint A) (map (λ P. P.basis) Ps)
    → All (λ P. HasDegree A P.basis P.degree) Ps → All (λ P. HasDegree A P.basis P.degree) Rs
    → All (λ P. HasDelta A P.basis P.delta) Ps → All (λ P. HasDelta A P.basis P.delta) Rs → Ps ≡ Rs
same_points A c [] [] e points m n r s = refl
same_points A c [] (R ∷ Rs) e points m n r s = absurd (no_point e)
same_points A c (P ∷ Ps) [] e points m n r s = absurd (no_point (sym e))
same_points A c (P ∷ Ps) (R ∷ Rs) e points m n r s =
    let basis : P.basis ≡ R.basis = ap (λ xs. head_or P.basis xs) e in
    let polys : ArePolys A P.basis = (All-head (IsPoint A) P.basis (map (λ P. P.basis) Ps) points).reduced.polys in
    let degree : P.degree ≡ R.degree =
    one_dimension A.prime A.variables P.basis P.degree R.degree (All-head (λ P. HasDegree A P.basis P.degree) P Ps m)
    (subst (λ B. HasDegree A B R.degree) (sym basis) (All-head (λ P. HasDegree A P.basis P.degree) R Rs n))
    in
    let delta : P.delta ≡ R.delta =
    unique_delta_law A c P.basis polys P.delta R.delta (All-head (λ P. HasDelta A P.basis P.delta) P Ps r)
    (subst (λ B. HasDelta A B R.delta) (sym basis) (All-head (λ P. HasDelta A P.basis P.delta) R Rs s))
    in
    let rest : Ps ≡ Rs =
    same_points A c Ps Rs (ap tail_of e) (All-tail (IsPoint A) P.basis (map (λ P. P.basis) Ps) points)
    (All-tail (λ P. HasDegree A P.basis P.degree) P Ps m) (All-tail (λ P. HasDegree A P.basis P.degree) R Rs n)
    (All-tail (λ P. HasDelta A P.basis P.delta) P Ps r) (All-tail (λ P. HasDelta A P.basis P.delta) R Rs s)
    in
    (λ i. record { basis = basis i; degree = degree i; delta = delta i } ∷ rest i)
  where
    head_or : {T : Type 0} → T → List T → T
    head_or x [] = x
    head_or x (y ∷ ys) = y

    tail_of : {T : Type 0} → List T → List T
    tail_of [] = []
    tail_of (y ∷ ys) = ys

pub one_answer_law : AnswersAreOne
one_answer_law problem d c a b h k =
    let A = curve_of problem d in
    let finite = finite_of problem d c a h in
    let bases : map (λ P. P.basis) h.points ≡ map (λ P. P.basis) k.points =
    one_list problem A (map (λ P. P.basis) h.points) (map (λ P. P.basis) k.points) h.are_points.named k.are_points.named
    in
    let points : h.points ≡ k.points =
    same_points A finite h.points k.points bases (named_points problem A (map (λ P. P.basis) h.points) h.are_points.named)
    h.are_points.degrees k.are_points.degrees h.are_points.deltas k.are_points.deltas
    in
    let closed = unique_closure_law A finite (map (λ P. P.basis) k.points) a.power b.power a.numerators b.numerators (subst (λ S. Closure A S a.power a.numerators) bases h.closure) k.closure in
    let dimension : a.dimension ≡ b.dimension = one_dimension A.prime A.variables (A.denominator ∷ A.ideal) a.dimension b.dimension h.dimension k.dimension in
    let named : a.named ≡ b.named = h.named ∙ ap (λ Ps. named_number problem.at (length Ps)) points ∙ sym k.named in
    let lines : a.points ≡ b.points = h.lines ∙ ap (λ Ps. filter (λ P. not (P.delta == 0)) Ps) points ∙ sym k.lines in
    let prime : a.prime ≡ b.prime = h.prime ∙ sym k.prime in
    let letters : a.letters ≡ b.letters = h.letters ∙ sym k.letters in
    let denominator : a.denominator ≡ b.denominator = h.denominator ∙ sym k.denominator in
    (λ i. record {
      prime = prime i;
      letters = letters i;
      denominator = denominator i;
      dimension = dimension i;
      named = named i;
      points = lines i;
      power = closed.0 i;
      numerators = closed.1 i;
    })

pub one_text_law : TextsAreOne
one_text_law problem d c s t h k = h.2 ∙ ap answer_text (one_answer_law problem d c h.0 k.0 h.1 k.1) ∙ sym k.2
