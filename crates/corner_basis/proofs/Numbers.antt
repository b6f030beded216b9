-- Sums of multiples of polynomials by rows of numbers.
use Rattle.std.proofs.Common.{◌≡◌, ℕ, zero, suc, ◌+◌, ◌-◌, ◌*◌, ◌%◌, ◌<◌, List, [], ◌∷◌, ◌++◌, map, length, get_or, set, replicate, All, refl, sym, ap, ap₂, ◌∙◌, subst, arith}
use Rattle.std.specs.List.{Contains}
use Rattle.std.proofs.lemmas.List.Elements.{All-head, All-tail}
use Rattle.comm_ring.specs.Modules.{combination, module_through}
use Rattle.comm_ring.specs.Rows.{rows}
use Rattle.comm_ring.proofs.Fields.{residue_coefficients}
use Rattle.comm_ring.proofs.Modules.{Module, through}
use Rattle.comm_ring.proofs.Rows.{row_module}
use Rattle.monomials.specs.Mono.{Monomial, unit}
use Rattle.prime_field.specs.Primes.{IsPrime}
use Rattle.polys.specs.declared.term.Term.{Term}
use Rattle.polys.specs.Terms.{EachMono, IsAffine, IsPoly, keep, add, sub, mul, multiple}
use Rattle.polys.specs.Ideal.{InIdeal, number_combination}
use Rattle.polys.specs.Ideal.{combination as ideal_combination}
use Rattle.polys.specs.Ring.{Member}
use Rattle.polys.proofs.Affine.{mul_constant, poly_add, poly_multiple, poly_none, sevens_of}
use Rattle.polys.proofs.Units.{add_none, canonical_same}
use Rattle.ideal_laws.proofs.Members.{lift, length-lift}
use Rattle.ideal_laws.proofs.Unique.{same_from_sub}
use Rattle.homogenising.proofs.Spanning.{pos, two}
use Rattle.standard_monomials.specs.Standard.{polynomial_of}
use Rattle.standard_monomials.proofs.Space as Space
use Rattle.standard_monomials.proofs.Sums.{spread, monomial_polys}
use Rattle.digit_laws.proofs.Linear.{opposite_row, row-length, same_rows, sum_rows, multiple_row}
use native.Mathlib.Nat.{zero-mod}

module _ (p n : ℕ) (prime : IsPrime p) where
  abbrev positive : 0 < p
  positive = pos p n prime

  pub sum_poly : (cs : List ℕ) (us : List (List Term)) → All (IsPoly p n) us → IsPoly p n (number_combination p cs us)
  sum_poly [] us h = poly_none p n
  sum_poly (e ∷ cs) [] h = poly_none p n
  sum_poly (e ∷ cs) (u ∷ us) h = poly_add p n (multiple p e u) (number_combination p cs us) positive
      (poly_multiple p n e u positive (All-head (IsPoly p n) u us h)) (sum_poly cs us (All-tail (IsPoly p n) u us h))

  none_of : (f : List Term) → IsPoly p n f → multiple p 0 f ≡ []
  none_of f hf = sym (mul_constant p 0 f (sevens_of p n f hf)) ∙ ap (λ z. mul p (keep z unit []) f) (zero-mod p)

  pub zeros_sum : (k : ℕ) (us : List (List Term)) → All (IsPoly p n) us → number_combination p (replicate k 0) us ≡ []
  zeros_sum zero us h = refl
  zeros_sum (suc k) [] h = refl
  zeros_sum (suc k) (u ∷ us) h = ap₂ (add p) (none_of u (All-head (IsPoly p n) u us h)) (zeros_sum k us (All-tail (IsPoly p n) u us h))

  -- behind zeros
  pub behind_zeros : (cs : List ℕ) (us vs : List (List Term)) → All (IsPoly p n) us → All (IsPoly p n) vs
      → number_combination p (replicate (length us) 0 ++ cs) (us ++ vs) ≡ number_combination p cs vs
  behind_zeros cs [] vs h g = refl
  behind_zeros cs (u ∷ us) vs h g =
      let r = All-tail (IsPoly p n) u us h in
      ap₂ (add p) (none_of u (All-head (IsPoly p n) u us h)) (behind_zeros cs us vs r g) ∙ canonical_same p (number_combination p cs vs) (sum_poly cs vs g).canonical

  pub one_number : (e i : ℕ) (us : List (List Term)) → All (IsPoly p n) us → i < length us → number_combination p (set (replicate (length us) 0) i e) us ≡ multiple p e (get_or us i [])
  one_number e i [] h l = absurd (omega arith)
  one_number e zero (u ∷ us) h l =
      ap (add p (multiple p e u)) (zeros_sum (length us) us (All-tail (IsPoly p n) u us h)) ∙ add_none p (multiple p e u) (poly_multiple p n e u positive (All-head (IsPoly p n) u us h)).canonical
  one_number e (suc i) (u ∷ us) h l =
      let r = All-tail (IsPoly p n) u us h in
      ap₂ (add p) (none_of u (All-head (IsPoly p n) u us h)) (one_number e i us r (let q : suc i < suc (length us) = l in omega arith))
      ∙ canonical_same p (multiple p e (get_or us i [])) (poly_multiple p n e (get_or us i []) positive (at us r i (let q : suc i < suc (length us) = l in omega arith))).canonical
    where
      at : (us : List (List Term)) → All (IsPoly p n) us → (i : ℕ) → i < length us → IsPoly p n (get_or us i [])
      at us r i l = r i [] l

  module _ (us : List (List Term)) (polys : All (IsPoly p n) us) where
    abbrev V : Module (Space.K p n prime)
    V = through (Space.K p n prime) (Space.Ring p n prime) (Space.scalar p n prime) (Space.scalar_map p n prime)

    abbrev vs : List (Member p n)
    vs = lift p n us polys

    abbrev N : List ℕ → List Term
    N row = number_combination p row us

    is : (row : List ℕ) → (combination (module_through (Space.Ring p n prime).ops (Space.scalar p n prime)) row vs).terms ≡ number_combination p row us
    is row = Space.combination-numbers p n prime row us polys

    many : length vs ≡ length us
    many = length-lift p n us polys

    -- the difference of two rows
    pub difference_sum : (row other : List ℕ) (w : ℕ) → w ≡ length us → length row ≡ w → length other ≡ w
        → number_combination p ((rows p w).◌⊞◌ row ((rows p w).opposite other)) us ≡ sub p (number_combination p row us) (number_combination p other us)
    difference_sum row other w e l m =
        subst (λ z. number_combination p ((rows p z).◌⊞◌ row ((rows p z).opposite other)) us ≡ sub p (number_combination p row us) (number_combination p other us)) (many ∙ sym e)
        (at (l ∙ e ∙ sym many) (m ∙ e ∙ sym many))
      where
        at : length row ≡ length vs → length other ≡ length vs
            → number_combination p ((rows p (length vs)).◌⊞◌ row ((rows p (length vs)).opposite other)) us ≡ sub p (number_combination p row us) (number_combination p other us)
        at l m =
            let M = row_module p positive (length vs) in
            let o : List ℕ = (rows p (length vs)).opposite other in
            let q : List ℕ = (rows p (length vs)).◌·◌ (p - 1) other in
            let lo : length o ≡ length vs = row-length (length vs) (λ i. (p - get_or other i 0 % p) % p) in
            let lq : length q ≡ length vs = row-length (length vs) (λ i. ((p - 1) * get_or other i 0) % p) in
            sym (is ((rows p (length vs)).◌⊞◌ row o))
            ∙ sum_rows p positive V row o vs l lo
            ∙ ap₂ (add p) (is row)
            (same_rows p positive V o q vs lo lq (M.symm {x = q} {y = o} (opposite_row p (length vs) (two p n prime) positive other))
            ∙ multiple_row p positive V (p - 1) other vs m
            ∙ ap (λ z. mul p ((Space.scalar p n prime (p - 1)).terms) z) (is other)
            ∙ mul_constant p (p - 1) (number_combination p other us) (sevens_of p n (number_combination p other us) (sum_poly other us polys)))

  -- a polynomial whose monomials are in the list is a sum of multiples of them
  pub numbers_of : (ss : List Monomial) → All (IsAffine n) ss → (f : List Term) → IsPoly p n f → EachMono (Contains ss) f
      → (cs : List ℕ) × (length cs ≡ length (map polynomial_of ss)) × All (λ c. c < p) cs × (f ≡ number_combination p cs (map polynomial_of ss))
  numbers_of ss affine f hf monos = (r.0, r.1 ∙ length-lift p n (map polynomial_of ss) polys, r.2, equal)
    where
      polys : All (IsPoly p n) (map polynomial_of ss)
      polys = monomial_polys p n prime ss affine

      x : Member p n
      x = record { terms = f; is_poly = hf }

      r : (cs : List ℕ) × length cs ≡ length (lift p n (map polynomial_of ss) polys) × All (λ c. c < p) cs × (Space.space p n prime []).◌≋◌ x (combination (Space.space p n prime []).ops cs (lift p n (map polynomial_of ss) polys))
      r = residue_coefficients p (pos p n prime) (Space.space p n prime []) (lift p n (map polynomial_of ss) polys) x (spread p n prime [] ss polys f hf monos)

      only_none : (g : List Term) → InIdeal p n [] g → g ≡ []
      only_none g i = i.combined ∙ go i.factors
        where
          go : (qs : List (List Term)) → ideal_combination p qs [] ≡ []
          go [] = refl
          go (q ∷ qs) = refl

      equal : f ≡ number_combination p r.0 (map polynomial_of ss)
      equal =
          let e = Space.combination-numbers p n prime r.0 (map polynomial_of ss) polys in
          same_from_sub p n f (number_combination p r.0 (map polynomial_of ss)) positive hf (sum_poly r.0 (map polynomial_of ss) polys)
          (subst (λ z. sub p f z ≡ []) e (only_none (sub p f (combination (module_through (Space.Ring p n prime).ops (Space.scalar p n prime)) r.0 (lift p n (map polynomial_of ss) polys)).terms) r.3))
