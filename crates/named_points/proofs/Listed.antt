-- The named points have distinct texts, and in the order of these they are as a problem's list has them.
use Rattle.std.proofs.Common.{◌≡◌, ◌≢◌, ◌<◌, ◌≤◌, List, [], map, length, get_or, sym, ap, ◌∙◌, subst, arith}
use Rattle.std.specs.Prelude.{codes}
use Rattle.std.specs.List.{All, AllPairs}
use Rattle.std.specs.List.Sorted.{IsPermutation}
use Rattle.std.specs.Cmp.Lexicographic.{slice_cmp}
use Rattle.std.specs.Ordering.{nat_cmp}
use Rattle.std.specs.declared.cmp.Ordering.TheVariants.{Less}
use Rattle.std.proofs.lemmas.List.Elements.{All-map, All-weaker}
use Rattle.std.proofs.lemmas.List.Sorted.{All-permutation, Contains-permutation, IsPermutation-map, IsPermutation-sym}
use Rattle.prime_field.specs.Primes.{IsCharacteristic}
use Rattle.monomials.specs.Mono.{IsMono}
use Rattle.polys.specs.declared.term.Term.{Term}
use Rattle.polys.specs.Terms.{IsPoly}
use Rattle.polys.specs.Curve.{CurveData, IsOver}
use Rattle.polys.proofs.Each.{every_more}
use Rattle.problem.specs.declared.problem.Problem.{Problem}
use Rattle.problem.specs.Letters.{AreLetters}
use Rattle.problem.specs.Problem.{problem_data}
use Rattle.curve_model.specs.declared.point.Point.{Point}
use Rattle.curve_model.specs.Point.{IsPointOf, basis_of}
use Rattle.poly_text.specs.PolyText.{join, list_text}
use Rattle.poly_text.specs.PolyReading.{IsWithinDegree, TextsTellPolynomials}
use Rattle.norm_text.specs.Named.{IsNamedList}
use Rattle.norm_text.proofs.Pieces.{texts}
use Rattle.named_points.specs.Naming.{AreNamed, HasKnownTerms}
use Rattle.named_points.specs.Ordering.{AreInTextOrder, HaveDistinctTexts, own_text}
use Rattle.named_points.proofs.Commas.{IsPrintable, lists_tell}
use Rattle.named_points.proofs.Pairs.{pairs_map, pairs_unmap}

-- the named points, and what tells their texts apart
pub record AreTold (problem : Problem) (A : CurveData) (points : List Point) : Type 0 where
  pub prime : A.prime ≡ problem.prime
  pub variables : A.variables ≡ length problem.letters
  pub known : IsCharacteristic problem.prime
  pub few : problem.prime ≤ 60000
  pub letters : AreLetters problem.letters
  pub tells : TextsTellPolynomials
  pub named : AreNamed problem A points
  pub low : All HasKnownTerms points

module _ (problem : Problem) (A : CurveData) (points : List Point) (h : AreTold problem A points) where
  text_is : (P : Point) → IsPointOf A P → own_text problem.letters P ≡ list_text problem.prime problem.letters (basis_of P)
  text_is P k =
      ap (join (codes ", ")) (texts problem.prime problem.letters P.basis
      (All-weaker (IsOver A.prime A.variables) (λ f. f.prime ≡ problem.prime) (λ f o. o.prime ∙ h.prime) P.basis k.over))

  printable : (P : Point) → IsPointOf A P → HasKnownTerms P → All (IsPrintable problem.prime problem.letters) (basis_of P)
  printable P k low =
      All-map (IsPrintable problem.prime problem.letters) (λ f. f.terms) P.basis (λ i d l. record {
        poly = subst (λ r. IsPoly r (length problem.letters) (get_or P.basis i d).terms) h.prime
            (subst (λ v. IsPoly A.prime v (get_or P.basis i d).terms) h.variables (k.over i d l).poly);
        low = every_more IsMono IsWithinDegree (get_or P.basis i d).terms (λ m w. w.bounded) (low i d l).monos;
      })

  -- points with one text have one basis
  same_basis : (P R : Point) → IsPointOf A P → IsPointOf A R → HasKnownTerms P → HasKnownTerms R
      → own_text problem.letters P ≡ own_text problem.letters R → basis_of P ≡ basis_of R
  same_basis P R k l low also e =
      lists_tell h.tells problem.prime h.few h.known problem.letters h.letters (basis_of P) (basis_of R) (printable P k low) (printable R l also)
      (sym (text_is P k) ∙ e ∙ text_is R l)

  pub distinct_texts : HaveDistinctTexts problem.letters points
  distinct_texts i j d less within e =
      let inside : i < length points = omega arith in
      pairs_unmap (λ P R. P ≢ R) basis_of points h.named.distinct i j d less within
      (same_basis (get_or points i d) (get_or points j d) (h.named.each i d inside) (h.named.each j d within) (h.low i d inside) (h.low j d within) e)

  module _ (sorted : List Point) (same : IsPermutation points sorted) (rising : AreInTextOrder problem.letters sorted) where
    each_point : All (IsPointOf A) sorted
    each_point = All-permutation (IsPointOf A) points sorted same h.named.each

    same_bases : IsPermutation (map basis_of points) (map basis_of sorted)
    same_bases = IsPermutation-map basis_of points sorted same

    texts_rise : AllPairs (λ P R. slice_cmp nat_cmp (list_text problem.prime problem.letters (basis_of P)) (list_text problem.prime problem.letters (basis_of R)) ≡ Less) sorted
    texts_rise i j d less within =
        let P = get_or sorted i d in
        let R = get_or sorted j d in
        let first = text_is P (each_point i d (omega arith)) in
        let second = text_is R (each_point j d within) in
        subst (λ t. slice_cmp nat_cmp t (list_text problem.prime problem.letters (basis_of R)) ≡ Less) first
        (subst (λ t. slice_cmp nat_cmp (own_text problem.letters P) t ≡ Less) second (rising i j d less within))

    no_point : List (List Term) → Point
    no_point P = record { basis = []; degree = 0 }

    -- the list has the named points, and their texts rise
    pub named_list : IsNamedList (problem_data problem) A (map basis_of sorted)
    named_list = record {
      all = λ P. (
        λ c. (h.named.all P).0 (Contains-permutation (map basis_of sorted) (map basis_of points) P (IsPermutation-sym (map basis_of points) (map basis_of sorted) same_bases) c),
        λ n. Contains-permutation (map basis_of points) (map basis_of sorted) P same_bases ((h.named.all P).1 n),
      );
      rising = pairs_map (λ a b. slice_cmp nat_cmp a b ≡ Less) (list_text problem.prime problem.letters) (λ t. []) (map basis_of sorted)
          (pairs_map (λ P R. slice_cmp nat_cmp (list_text problem.prime problem.letters P) (list_text problem.prime problem.letters R) ≡ Less) basis_of no_point sorted texts_rise);
    }
