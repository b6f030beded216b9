-- A sum of multiples of rising monomials as a falling list of terms, and what the loop that makes it owes.
use Rattle.std.proofs.Common.{◌≡◌, ◌≢◌, ℕ, ◌+◌, ◌-◌, ◌*◌, ◌%◌, ◌<◌, ◌≤◌, List, [], ◌∷◌, ◌++◌, map, length, get_or, drop, All, sym, ap, ap₂, ◌∙◌, subst, arith, mod-eq_of_lt, get_or-drop}
use Rattle.std.specs.List.{Contains}
use Rattle.std.specs.declared.cmp.Ordering.TheVariants.{Less}
use Rattle.std.proofs.lemmas.List.{drop_all, drop_more, get_or_default, length-drop}
use native.Mathlib.Decide.{ℕ_discrete}
use Rattle.monomials.specs.Mono.{Monomial, cmp_dp, unit}
use Rattle.polys.specs.declared.term.Term.{Term}
use Rattle.polys.specs.Terms.{EachMono, IsCanonical, keep, put, put_by, add, multiple}
use Rattle.polys.specs.Ideal.{number_combination}
use Rattle.polys.proofs.Each.{every_more}
use Rattle.polys.proofs.Leads.{keep_some}
use Rattle.polys.proofs.Units.{canonical_same}
use Rattle.polys.proofs.Weights.{is_canonical, normal_canon}
use Rattle.standard_monomials.specs.Standard.{IsRising, polynomial_of}
use Rattle.standard_monomials.proofs.Sums.{sum_within}

sum_canonical : (p : ℕ) → 0 < p → (cs : List ℕ) (us : List (List Term)) → IsCanonical p (number_combination p cs us)
sum_canonical p h [] us = tt
sum_canonical p h (e ∷ cs) [] = tt
sum_canonical p h (e ∷ cs) (u ∷ us) = is_canonical p (add p (multiple p e u) (number_combination p cs us)) h (normal_canon p (multiple p e u ++ number_combination p cs us))

put_last : (p : ℕ) (t : Term) (g : List Term) → t.coeff ≢ 0 → t.coeff < p → EachMono (λ x. cmp_dp t.mono x ≡ Less) g → put p t g ≡ g ++ t ∷ []
put_last p t [] n l e = ap (λ z. keep z t.mono []) (mod-eq_of_lt l) ∙ keep_some t.coeff t.mono [] n
put_last p t (u ∷ g) n l e = ap (put_by p t u g (put p t g)) e.0 ∙ ap (λ z. u ∷ z) (put_last p t g n l e.1)

one_more : (p c : ℕ) (w : Monomial) (g : List Term) → c < p → c ≢ 0 → IsCanonical p g → EachMono (λ x. cmp_dp w x ≡ Less) g
    → add p (multiple p c (polynomial_of w)) g ≡ g ++ record { coeff = c; mono = w } ∷ []
one_more p c w g l n k e =
    ap (λ z. add p (keep z w []) g) (ap (λ z. z % p) (let q : c * 1 ≡ c = omega arith in q) ∙ mod-eq_of_lt l)
    ∙ ap (λ z. add p z g) (keep_some c w [] n)
    ∙ ap (put p (record { coeff = c; mono = w })) (canonical_same p g k)
    ∙ put_last p (record { coeff = c; mono = w }) g n l e

none_more : (p c : ℕ) (w : Monomial) (g : List Term) → c < p → c ≡ 0 → IsCanonical p g → add p (multiple p c (polynomial_of w)) g ≡ g
none_more p c w g l z k =
    ap (λ z. add p (keep z w []) g) (ap (λ z. z % p) (let q : c * 1 ≡ 0 = omega arith in q) ∙ mod-eq_of_lt (let q : 0 < p = omega arith in q))
    ∙ canonical_same p g k

-- the sum of the multiples from a number on
abbrev pub from : ℕ → ℕ → List ℕ → List Monomial → List Term
from p i cs ws = number_combination p (drop i cs) (map polynomial_of (drop i ws))

module _ (p : ℕ) (cs : List ℕ) (ws : List Monomial) (count : length cs ≡ length ws) (residues : All (λ e. e < p) cs) (rising : IsRising ws) (i : ℕ) (inside : i < length ws) where
  small : get_or cs i 0 < p
  small = residues i 0 (omega arith)

  canonical : IsCanonical p (from p (i + 1) cs ws)
  canonical = sum_canonical p (let s = small in omega arith) (drop (i + 1) cs) (map polynomial_of (drop (i + 1) ws))

  below : EachMono (λ x. cmp_dp (get_or ws i unit) x ≡ Less) (from p (i + 1) cs ws)
  below = every_more (Contains (drop (i + 1) ws)) (λ x. cmp_dp (get_or ws i unit) x ≡ Less) (from p (i + 1) cs ws) later (sum_within p (drop (i + 1) cs) (drop (i + 1) ws))
    where
      later : (x : Monomial) → Contains (drop (i + 1) ws) x → cmp_dp (get_or ws i unit) x ≡ Less
      later x d =
          let l : length (drop (i + 1) ws) ≡ length ws - (i + 1) = length-drop (i + 1) ws in
          let k : d.0 < length (drop (i + 1) ws) = d.1 in
          let e : get_or ws ((i + 1) + d.0) x ≡ x = sym (get_or-drop (i + 1) ws d.0 x) ∙ d.2 in
          subst (λ z. cmp_dp (get_or ws i unit) z ≡ Less) e
          (subst (λ z. cmp_dp z (get_or ws ((i + 1) + d.0) x) ≡ Less) (get_or_default ws i x unit inside) (rising i ((i + 1) + d.0) x (omega arith) (omega arith)))

  opened : from p i cs ws ≡ add p (multiple p (get_or cs i 0) (polynomial_of (get_or ws i unit))) (from p (i + 1) cs ws)
  opened = ap₂ (λ a b. number_combination p a (map polynomial_of b)) (drop_more cs i 0 (omega arith)) (drop_more ws i unit inside)

  pub from_zero : get_or cs i 0 ≡ 0 → from p i cs ws ≡ from p (i + 1) cs ws
  from_zero z = opened ∙ none_more p (get_or cs i 0) (get_or ws i unit) (from p (i + 1) cs ws) small z canonical

  pub from_some : get_or cs i 0 ≢ 0 → from p i cs ws ≡ from p (i + 1) cs ws ++ record { coeff = get_or cs i 0; mono = get_or ws i unit } ∷ []
  from_some n = opened ∙ one_more p (get_or cs i 0) (get_or ws i unit) (from p (i + 1) cs ws) small n canonical below

-- the loop begins behind the last monomial
pub from_end : (p i : ℕ) (cs : List ℕ) (ws : List Monomial) → length cs ≤ i → from p i cs ws ≡ []
from_end p i cs ws l = ap (λ z. number_combination p z (map polynomial_of (drop i ws))) (drop_all i cs l)

-- one step of the loop
pub next_terms : (p : ℕ) (cs : List ℕ) (ws : List Monomial) → length cs ≡ length ws → All (λ e. e < p) cs → IsRising ws → (i : ℕ) → 0 < i → i ≤ length ws
    → (head t : Term) (old new : List Term) → t.coeff ≡ get_or cs (i - 1) 0 → t.mono ≡ get_or ws (i - 1) t.mono → old ≡ head ∷ from p i cs ws → (t.coeff ≡ 0 → new ≡ old)
    → (t.coeff ≢ 0 → new ≡ old ++ t ∷ []) → new ≡ head ∷ from p (i - 1) cs ws
next_terms p cs ws count residues rising i some low head t old new c m e zero other = go (ℕ_discrete t.coeff 0)
  where
    one : (i - 1) + 1 ≡ i
    one = omega arith

    here : from p i cs ws ≡ from p ((i - 1) + 1) cs ws
    here = ap (λ z. from p z cs ws) (sym one)

    inside : i - 1 < length ws
    inside = omega arith

    is : t ≡ record { coeff = get_or cs (i - 1) 0; mono = get_or ws (i - 1) unit }
    is = let q : t.mono ≡ get_or ws (i - 1) unit = m ∙ get_or_default ws (i - 1) t.mono unit inside in λ j. record { coeff = c j; mono = q j }

    go : Dec (t.coeff ≡ 0) → new ≡ head ∷ from p (i - 1) cs ws
    go (yes z) = zero z ∙ e ∙ ap (λ x. head ∷ x) (here ∙ sym (from_zero p cs ws count residues rising (i - 1) inside (sym c ∙ z)))
    go (no n) =
        other n ∙ ap (λ x. x ++ t ∷ []) (e ∙ ap (λ x. head ∷ x) here) ∙ ap (λ x. (head ∷ from p ((i - 1) + 1) cs ws) ++ x ∷ []) is
        ∙ ap (λ x. head ∷ x) (sym (from_some p cs ws count residues rising (i - 1) inside (λ z. n (c ∙ z))))
