-- The rows of all products.
use Rattle.std.proofs.Common.{◌≡◌, ℕ, ◌+◌, ◌*◌, ◌<◌, List, [], ◌∷◌, ◌++◌, map, length, take, get_or, sym, ap, ◌∙◌, subst, arith, ⊎_elim}
use Rattle.std.specs.List.{Contains}
use Rattle.std.proofs.lemmas.List.{get_or-map, length-map, map-append, take_more}
use Rattle.std.proofs.lemmas.List.Elements.{All-nil, All-contains, All-append, All-from_get_or, All-weaker, Contains-append_left, Contains-append_right, Contains-get_or, Contains-push_cases}
use Rattle.ideal_laws.proofs.Unique.{contains_head, contains_none}
use Rattle.monomials.specs.Mono.{Monomial}
use Rattle.polys.specs.declared.term.Term.{Term}
use Rattle.polys.specs.declared.poly.Poly.{Poly}
use Rattle.polys.specs.Terms.{mul}
use Rattle.polys.specs.Curve.{CurveData, data_of}
use Rattle.digit_laws.specs.Digits.{AreDigits}
use Rattle.digit_space.specs.Model.{DigitData, value_of}
use Rattle.quotient_laws.specs.ProductRows.{IsProductRow, IsProductSpace}
use Rattle.comm_ring.specs.Modules.{InSpan}
use Rattle.comm_ring.specs.Rows.{rows as rows_of}
use Rattle.comm_ring.proofs.Modules as Modules
use Rattle.comm_ring.proofs.Residues.{residues}
use Rattle.comm_ring.proofs.Rows.{row_module}
use Rattle.row_space.specs.Subspace.{Subspace}
use Rattle.over_module.specs.Raising.{IsSpannedBy}
use Rattle.point_quotient.specs.Quotients.{AreTimes, AreAllProducts}

module _ (g : DigitData) (T : ℕ) (rows : List (List ℕ)) where
  abbrev A : CurveData
  A = data_of g.curve

  abbrev vs : List (List Term)
  vs = map (value_of g) rows

  pub no_products : AreAllProducts A g.basis T [] vs []
  no_products = record {
    rows = All-nil (IsProductRow A g.basis T [] vs);
    each = λ q v c k. absurd (contains_none q c);
  }

  module _ (P : List (List Term)) (q : List Term) (old made new : List (List ℕ)) (w : AreAllProducts A g.basis T P vs old) (t : AreTimes g T q rows made) (e : new ≡ old ++ made) where
    P' : List (List Term)
    P' = P ++ q ∷ []

    old_row : (row : List ℕ) → IsProductRow A g.basis T P vs row → IsProductRow A g.basis T (P ++ q ∷ []) vs row
    old_row row r = record {
      factor = r.factor;
      numerator = r.numerator;
      factor_in = Contains-append_left P (q ∷ []) r.factor r.factor_in;
      numerator_in = r.numerator_in;
      digits = r.digits;
    }

    new_row : (i : ℕ) → i < length made → IsProductRow A g.basis T (P ++ q ∷ []) vs (get_or made i [])
    new_row i l =
        let n = t.count in
        let k : i < length rows = omega arith in
        record {
          factor = q;
          numerator = value_of g (get_or rows i []);
          factor_in = Contains-append_right P (q ∷ []) q (contains_head q []);
          numerator_in = (i, (let m : length vs ≡ length rows = length-map rows (value_of g) in omega arith), get_or-map (value_of g) rows i [] (value_of g (get_or rows i [])) k);
          digits = t.each i k;
        }

    more : AreAllProducts A g.basis T (P ++ q ∷ []) vs new
    more = subst (AreAllProducts A g.basis T (P ++ q ∷ []) vs) (sym e) (record {
      rows = All-append (IsProductRow A g.basis T (P ++ q ∷ []) vs) old made (All-weaker (IsProductRow A g.basis T P vs) (IsProductRow A g.basis T (P ++ q ∷ []) vs) old_row old w.rows)
          (All-from_get_or (IsProductRow A g.basis T (P ++ q ∷ []) vs) made [] new_row);
      each = λ f v cf cv. ⊎_elim (old_each f v cv) (new_each f v cv) (Contains-push_cases P q f cf);
    })
      where
        old_each : (f v : List Term) → Contains vs v → Contains P f → (row : List ℕ) × AreDigits A g.basis T (mul A.prime f v) row × Contains (old ++ made) row
        old_each f v cv cf = let r = w.each f v cf cv in (r.0, r.1, Contains-append_left old made r.0 r.2)

        new_each : (f v : List Term) → Contains vs v → q ≡ f → (row : List ℕ) × AreDigits A g.basis T (mul A.prime f v) row × Contains (old ++ made) row
        new_each f v cv same =
            let i = cv.0 in
            let n = t.count in
            let m : length vs ≡ length rows = length-map rows (value_of g) in
            let k : i < length rows = let l : i < length vs = cv.1 in omega arith in
            let l : i < length made = omega arith in
            let is : value_of g (get_or rows i []) ≡ v = sym (get_or-map (value_of g) rows i [] v k) ∙ cv.2 in (
              get_or made i [],
              subst (λ z. AreDigits A g.basis T (mul A.prime z v) (get_or made i [])) same (subst (λ z. AreDigits A g.basis T (mul A.prime q z) (get_or made i [])) is (t.each i k)),
              Contains-append_right old made (get_or made i []) (Contains-get_or made i [] l),
            )

  -- one factor more
  pub products_more : (factors : List Poly) (i : ℕ) (f : Poly) → i < length factors → f ≡ get_or factors i f → (old made new : List (List ℕ))
      → AreAllProducts A g.basis T (map (λ f. f.terms) (take i factors)) vs old → AreTimes g T f.terms rows made → new ≡ old ++ made
      → AreAllProducts A g.basis T (map (λ f. f.terms) (take (i + 1) factors)) vs new
  products_more factors i f l is old made new w t e = subst (λ P. AreAllProducts A g.basis T P vs new)
      (sym (ap (map (λ f. f.terms)) (take_more factors i f l ∙ ap (λ z. take i factors ++ z ∷ []) (sym is)) ∙ map-append (λ f. f.terms) (take i factors) (f ∷ [])))
      (more (map (λ f. f.terms) (take i factors)) f.terms old made new w t e)

-- the space that they span
pub spanned_products : (A : CurveData) (ms : List Monomial) (T : ℕ) (P vs : List (List Term)) (list : List (List ℕ)) → AreAllProducts A ms T P vs list → (positive : 0 < A.prime) → (w : ℕ) → w ≡ length ms * T
    → (space : Subspace) → IsSpannedBy A.prime w list space → IsProductSpace A ms T P vs space
spanned_products A ms T P ns list r positive w e space s = record {
  of_digits = record { prime = s.prime; width = s.width ∙ e };
  basis = λ row i. (list, r.rows, subst (λ n. InSpan (rows_of A.prime n) list row) e ((s.members row).0 i));
  holds = λ q v cq cv. let z = r.each q v cq cv in
      (z.0, z.1, (s.members z.0).1 (All-contains (InSpan (rows_of A.prime w) list) list z.0 (Modules.span_self (residues A.prime positive) (row_module A.prime positive w) list) z.2));
}
