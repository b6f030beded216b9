-- Steps of a division by rows.
use Rattle.std.proofs.Common.{◌≡◌, ℕ, ◌+◌, ◌%◌, ◌<◌, List, [], ◌∷◌, ◌++◌, length, get_or, drop, map, refl, sym, ap, ◌∙◌, subst}
use Rattle.std.specs.List.{All}
use Rattle.std.proofs.lemmas.List.{drop_more, get_or_default}
use Rattle.prime_field.specs.Primes.{IsPrime}
use Rattle.monomials.specs.Mono.{Monomial, unit}
use Rattle.polys.specs.declared.term.Term.{Term}
use Rattle.polys.specs.Terms.{add, mul, normal}
use Rattle.polys.specs.Poly.{IsVector}
use Rattle.polys.proofs.Sums.{add_normal_left}
use Rattle.graded_modules.specs.Module.{IsLeadMultiple}
use Rattle.module_division.specs.Division.{term_product}
use Rattle.module_division.specs.declared.rows.TheConstants.{ENTRY_LIMIT}
use Rattle.module_division.specs.Rows.{AreFalling, row_terms}
use Rattle.module_division.proofs.Merging.{product_of_term}
use Rattle.module_division.proofs.Steps.{Divided, Opposes, divided_keep, divided_after, left_vector}
use Rattle.module_division.proofs.RowTerms.{falling_drop, row_more, row_skip, row_top}

-- what the row stands for from a column on
abbrev pub row_from : ℕ → List Monomial → List ℕ → ℕ → List Term
row_from p ms cs i = normal p (row_terms (drop i ms) (drop i cs))

-- what is so before the column i is looked at
pub record IsRow (p : ℕ) (bs : List (List Term)) (v out : List Term) (ms : List Monomial) (cs : List ℕ) (i : ℕ) : Type 0 where
  pub same_length : length cs ≡ length ms
  pub entries : All (λ k. k < ENTRY_LIMIT) cs
  pub divided : Divided p bs v out (row_from p ms cs i)

module _ (p : ℕ) (bs : List (List Term)) (v out : List Term) (ms : List Monomial) (cs : List ℕ) (i : ℕ)
    (inside : i < length ms) (same_length : length cs ≡ length ms) where
  -- a column whose coefficient is 0
  pub divided_skip : get_or cs i 0 % p ≡ 0 → Divided p bs v out (row_from p ms cs i) → Divided p bs v out (row_from p ms cs (i + 1))
  divided_skip e d =
      let m = get_or ms i unit in
      let f = row_terms (drop (i + 1) ms) (drop (i + 1) cs) in
      let q : row_terms (drop i ms) (drop i cs) ≡ record { coeff = get_or cs i 0; mono = m } ∷ f = row_more ms cs i m (get_or cs i 0) inside same_length (get_or_default ms i unit m inside) refl in
      subst (Divided p bs v out) (ap (normal p) q ∙ row_skip p (get_or cs i 0) m f e) d

  module _ (m : Monomial) (c : ℕ) (at_m : m ≡ get_or ms i m) (at_c : c ≡ get_or cs i 0 % p) (falling : AreFalling ms) (some : 0 < c) where
    pub row_at : row_from p ms cs i ≡ record { coeff = c; mono = m } ∷ row_from p ms cs (i + 1)
    row_at =
        let q : drop i ms ≡ m ∷ drop (i + 1) ms = drop_more ms i m inside ∙ ap (λ x. x ∷ drop (i + 1) ms) (sym at_m) in
        let fall : AreFalling (m ∷ drop (i + 1) ms) = subst AreFalling q (falling_drop i ms falling) in
        ap (normal p) (row_more ms cs i m (get_or cs i 0) inside same_length at_m refl)
        ∙ row_top p (get_or cs i 0) m (drop (i + 1) ms) (drop (i + 1) cs) (subst (λ n. 0 < n) at_c some) fall.0
        ∙ ap (λ k. record { coeff = k; mono = m } ∷ row_from p ms cs (i + 1)) (sym at_c)

    -- a column that no lead divides
    pub divided_put : (IsLeadMultiple bs m → ⊥) → Divided p bs v out (row_from p ms cs i) → Divided p bs v (out ++ record { coeff = c; mono = m } ∷ []) (row_from p ms cs (i + 1))
    divided_put none d = divided_keep p bs v out (row_from p ms cs (i + 1)) (record { coeff = c; mono = m }) none (subst (Divided p bs v out) row_at d)

    pub vector_at : Divided p bs v out (row_from p ms cs i) → IsVector p (record { coeff = c; mono = m } ∷ row_from p ms cs (i + 1))
    vector_at d = left_vector p out (record { coeff = c; mono = m } ∷ row_from p ms cs (i + 1)) (subst (Divided p bs v out) row_at d).vector

    -- a column that is taken away by the multiple of a divisor
    pub divided_by : (b : List Term) (s : Term) (new : List ℕ) → IsPrime p → Opposes p bs b s (record { coeff = c; mono = m }) → Divided p bs v out (row_from p ms cs i)
        → row_from p ms new i ≡ add p (row_terms (drop i ms) (drop i cs)) (map (term_product p s) b) → Divided p bs v out (row_from p ms new i)
    divided_by b s new prime o d e =
        let t : Term = record { coeff = c; mono = m } in
        let f = row_from p ms cs (i + 1) in
        let X = map (term_product p s) b in
        let same : row_from p ms new i ≡ add p (t ∷ f) (mul p b (s ∷ [])) =
        e ∙ sym (add_normal_left p (row_terms (drop i ms) (drop i cs)) X) ∙ ap (λ r. add p r X) row_at ∙ ap (add p (t ∷ f)) (product_of_term p s b prime o.not_zero o.residue o.divisor.vector) in
        subst (Divided p bs v out) (sym same) (divided_after p bs b s t f v out prime o (vector_at d) (subst (Divided p bs v out) row_at d))
