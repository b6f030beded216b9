-- Tables of coordinates, row by row.
use Rattle.std.proofs.Common.{◌≡◌, ℕ, ◌+◌, ◌-◌, ◌*◌, ◌<◌, ◌≤◌, List, [], ◌∷◌, ◌++◌, length, get_or, sym, ap, ◌∙◌, subst, arith, ⊎_elim, length-append, mul-le-mul_right}
use Rattle.std.proofs.lemmas.Bool.{cases_lt}
use Rattle.std.proofs.lemmas.List.{get_or_append_left, get_or_push}
use Rattle.std.proofs.Math.Seq.{get_or-append_right}
use Rattle.polys.specs.declared.term.Term.{Term}
use Rattle.row_space.specs.Subspace.{Subspace}
use Rattle.digit_space.specs.Model.{DigitData, value_of}
use Rattle.point_quotient.specs.Quotients.{AreProductCoordinates, AreProductsWith, IsProductTable}

module _ (g : DigitData) (k : ℕ) (products rest : Subspace) (list : List (List ℕ)) where
  -- one product more
  pub with_more : (u : List Term) (made new : List (List ℕ)) (j : ℕ) (x : List ℕ) → AreProductsWith g k products rest u j list made → new ≡ made ++ x ∷ []
      → AreProductCoordinates g k products rest u (value_of g (get_or list j [])) x → AreProductsWith g k products rest u (j + 1) list new
  with_more u made new j x w e r = record {
    count = ap length e ∙ length-append made (x ∷ []) ∙ omega (arith, w.count);
    each = λ i h. subst (AreProductCoordinates g k products rest u (value_of g (get_or list i []))) (sym (ap (λ rs. get_or rs i []) e)) (⊎_elim
        (λ (a : i < j). subst (AreProductCoordinates g k products rest u (value_of g (get_or list i []))) (sym (get_or_append_left made (x ∷ []) [] i (omega (arith, w.count)))) (w.each i a))
        (λ (a : j ≤ i).
        let same : j ≡ i = omega arith in
        subst (AreProductCoordinates g k products rest u (value_of g (get_or list i []))) (sym (get_or_push made x [] i (omega (arith, w.count))))
        (subst (λ z. AreProductCoordinates g k products rest u (value_of g (get_or list z [])) x) same r))
        (cases_lt i j));
  }

  -- the products of one factor more
  pub table_more : (table made new : List (List ℕ)) (i : ℕ) → IsProductTable g k products rest list i table
      → AreProductsWith g k products rest (value_of g (get_or list i [])) (length list) list made → new ≡ table ++ made → IsProductTable g k products rest list (i + 1) new
  table_more table made new i t w e =
      let n = length list in
      record {
        count = ap length e ∙ length-append table made ∙ (let a = t.count in let b = w.count in let c : (i + 1) * n ≡ i * n + n = mul-suc i n in omega arith);
        each = λ a j la lj. subst (AreProductCoordinates g k products rest (value_of g (get_or list a [])) (value_of g (get_or list j []))) (sym (ap (λ rs. get_or rs (a * n + j) []) e)) (⊎_elim
            (λ (h : a < i).
            let c = t.count in
            let q : a * n + j < i * n = before a i n j h lj in
            subst (AreProductCoordinates g k products rest (value_of g (get_or list a [])) (value_of g (get_or list j []))) (sym (get_or_append_left table made [] (a * n + j) (omega arith))) (t.each a j h lj))
            (λ (h : i ≤ a).
            let same : i ≡ a = omega arith in
            let c : length table ≡ i * length list = t.count in
            let m : i * length list ≡ a * length list = ap (λ z. z * length list) same in
            let low : length table ≤ a * n + j = omega arith in
            let place : (a * n + j) - length table ≡ j = omega arith in
            let at : get_or (table ++ made) (a * n + j) [] ≡ get_or made j [] = get_or-append_right table made (a * n + j) [] low ∙ ap (λ z. get_or made z []) place in
            subst (AreProductCoordinates g k products rest (value_of g (get_or list a [])) (value_of g (get_or list j []))) (sym at)
            (subst (λ z. AreProductCoordinates g k products rest (value_of g (get_or list z [])) (value_of g (get_or list j [])) (get_or made j [])) same (w.each j lj)))
            (cases_lt a i));
      }
    where
      mul-suc : (i n : ℕ) → (i + 1) * n ≡ i * n + n
      mul-suc i n = omega arith

      before : (a i n j : ℕ) → a < i → j < n → a * n + j < i * n
      before a i n j h l = let up : (a + 1) * n ≤ i * n = mul-le-mul_right n (let x : a + 1 ≤ i = omega arith in x) in omega arith
