-- Before any monomial is tried; and the dimension of a space is at most the length of its rows.
use Rattle.std.proofs.Common.{◌≡◌, inl, inr, ℕ, ◌+◌, ◌*◌, ◌<◌, ◌≤◌, List, [], ◌∷◌, ◌++◌, length, get_or, refl, sym, ap, ◌∙◌, subst, arith, ⊎_elim}
use Rattle.std.specs.List.{Contains}
use Rattle.std.proofs.lemmas.Bool.{cases_lt}
use Rattle.comm_ring.proofs.Pigeons.{pigeonhole}
use Rattle.monomials.specs.Mono.{Monomial}
use Rattle.polys.specs.declared.term.Term.{Term}
use Rattle.polys.specs.Terms.{EachMono, sub}
use Rattle.polys.specs.Curve.{CurveData}
use Rattle.polys.proofs.Affine.{poly_none}
use Rattle.polys.proofs.Units.{canonical_same}
use Rattle.ideal_laws.proofs.Differences.{sub_none}
use Rattle.ideal_laws.proofs.Unique.{contains_none}
use Rattle.curve_model.specs.Laws.{IsFinite}
use Rattle.row_space.specs.Sums.{entry, Covers}
use Rattle.row_space.specs.Subspace.{Subspace, IsIn, IsReduced, Joins}
use Rattle.row_space.proofs.Members.{span_of, weighted_of}
use Rattle.row_space.proofs.Weights.{through}
use Rattle.digit_laws.specs.Digits.{AreCornersOf, IsOfDigits}
use Rattle.corner_basis.specs.Staircase.{IsAmong, IsClassOf, IsStaircase}
use Rattle.digit_laws.proofs.Spaces.{moved_in}
use Rattle.corner_basis.proofs.Classes.{pos, P, In, k_same}

-- each pivot is one of the places
pub rank_within : (s : Subspace) → IsReduced s → length s.basis ≤ s.width
rank_within s r = ⊎_elim (λ (a : s.width < length s.basis). absurd (twice a)) (λ (a : length s.basis ≤ s.width). a) (cases_lt s.width (length s.basis))
  where
    twice : s.width < length s.basis → ⊥
    twice a =
        let q = pigeonhole s.width (λ j. get_or r.0 j 0) (λ j b. r.1.within j (omega arith)) in
        let lo : q.0 < length s.basis = (let x = q.2 in let y = q.3 in omega arith) in
        let hi : q.1 < length s.basis = (let y = q.3 in omega arith) in
        let own : entry s.basis q.0 (get_or r.0 q.0 0) ≡ 1 = r.1.own q.0 lo in
        let other : entry s.basis q.0 (get_or r.0 q.1 0) ≡ 0 = r.1.others q.0 q.1 lo hi (λ e. let x = q.2 in omega arith) in
        let none : entry s.basis q.0 (get_or r.0 q.0 0) ≡ 0 = ap (λ z. entry s.basis q.0 z) q.4 ∙ other in
        omega arith

module _ (A : CurveData) (c : IsFinite A) (ms : List Monomial) (k : AreCornersOf A ms) (T : ℕ) (space span : Subspace) (o : IsOfDigits A ms T space) (none : Subspace) (empty : none.basis ≡ [])
    (prime : none.prime ≡ A.prime) (width : none.width ≡ length ms * T) (j : Joins none space.basis span) (r : IsReduced span) where
  of_digits : IsOfDigits A ms T span
  of_digits = record { prime = j.prime ∙ prime; width = j.width ∙ width }

  -- the space has the rows of the other one
  there : (row : List ℕ) → IsIn space row → IsIn span row
  there row h =
      let p : space.prime ≡ none.prime = o.prime ∙ sym prime in
      let w : space.width ≡ none.width = o.width ∙ sym width in
      let i = moved_in space.prime none.prime space.width none.width space.basis row p w h in
      moved_in none.prime span.prime none.width span.width span.basis row (sym j.prime) (sym j.width)
      (span_of none.prime none.width span.basis row (through none.prime none.width span.basis space.basis (λ q. get_or row q 0)
      (subst (λ z. Covers none.prime none.width span.basis (z ++ space.basis)) empty j.covers) (weighted_of none.prime none.width space.basis row i)))

  back : (row : List ℕ) → IsIn span row → IsIn space row
  back row h =
      let p : none.prime ≡ space.prime = prime ∙ sym o.prime in
      let w : none.width ≡ space.width = width ∙ sym o.width in
      let i = moved_in span.prime none.prime span.width none.width span.basis row j.prime j.width h in
      moved_in none.prime space.prime none.width space.width space.basis row p w
      (span_of none.prime none.width space.basis row (through none.prime none.width space.basis span.basis (λ q. get_or row q 0)
      (subst (λ z. Covers none.prime none.width (z ++ space.basis) span.basis) empty j.covered) (weighted_of none.prime none.width span.basis row i)))

  only_none : (h : List Term) → EachMono (Contains []) h → h ≡ []
  only_none [] e = refl
  only_none (t ∷ h) e = absurd (contains_none t.mono e.0)

  -- less 0 is the same
  less_none : (f : List Term) → P A c ms k T f → sub A.prime f [] ≡ f
  less_none f hf = sub_none A.prime f (pos A c ms k T) ∙ canonical_same A.prime f hf.canonical

  neither : (m : Monomial) → IsAmong [] [] m → ⊥
  neither m (inl d) = contains_none m d
  neither m (inr d) = contains_none m d

  pub staircase_start : IsStaircase A ms T space span [] []
  staircase_start = record {
    affine = λ m d. absurd (neither m d);
    rising = λ a b d x y. absurd (omega arith);
    minimal = λ a b d x y. absurd (omega arith);
    outside = λ s d q. contains_none s d;
    low = λ s d. absurd (contains_none s d);
    reach = λ l d. absurd (contains_none l d);
    free = λ h hh e i. only_none h e;
    reducible = λ l d. absurd (contains_none l d);
    of_digits = of_digits;
    few = omega arith;
    within = (let a = rank_within span r in let b = of_digits.width in omega arith);
    spans = λ f hf. (forth f hf, turn f hf);
  }
    where
      forth : (f : List Term) → P A c ms k T f → In A c ms k T span f → IsClassOf A ms T space (Contains []) f
      forth f hf h = record {
        sum = [];
        poly = poly_none A.prime A.variables;
        monos = tt;
        close = subst (In A c ms k T space) (sym (less_none f hf)) (k_same A c ms k T span space back f h);
      }

      turn : (f : List Term) → P A c ms k T f → IsClassOf A ms T space (Contains []) f → In A c ms k T span f
      turn f hf q =
          k_same A c ms k T space span there f
          (subst (In A c ms k T space) (ap (sub A.prime f) (only_none q.sum q.monos) ∙ less_none f hf) q.close)
