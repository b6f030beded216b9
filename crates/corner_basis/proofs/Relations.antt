-- The relations between the monomials give the members of the basis.
use Rattle.std.proofs.Common.{◌≡◌, ◌⊎◌, inl, inr, ◌↔◌, ℕ, zero, suc, ◌+◌, ◌-◌, ◌%◌, ◌<◌, ◌≤◌, List, [], ◌∷◌, ◌++◌, map, length, get_or, set, drop, replicate, All, refl, sym, ap, ap₂, ◌∙◌, subst, arith, mod-eq_of_lt, ⊎_elim, get_or-drop}
use Rattle.std.specs.List.{Contains}
use Rattle.std.specs.declared.cmp.Ordering.TheVariants.{Less}
use Rattle.std.proofs.lemmas.Bool.{cases_lt}
use Rattle.std.proofs.lemmas.List.{get_or_append_left, get_or-map, length-append, length-map, length-replicate, length-set}
use Rattle.std.proofs.lemmas.List.Elements.{All-append, All-contains_itself, All-head, All-weaker, All-tail, Contains-append_cases}
use Rattle.comm_ring.specs.Ring.{CommRing}
use Rattle.comm_ring.specs.Modules.{combine, combination, IsSubmodule}
use Rattle.comm_ring.specs.Rows.{rows}
use Rattle.comm_ring.proofs.Modules as Modules
use Rattle.comm_ring.proofs.Quote.{ring, quote}
use Rattle.comm_ring.proofs.Residues.{residues}
use Rattle.comm_ring.proofs.Rows.{row_module}
use Rattle.lane_rows.specs.Rows.{IsFirstNonzero}
use Rattle.monomials.specs.Mono.{Monomial, cmp_dp, unit}
use Rattle.polys.specs.declared.term.Term.{Term}
use Rattle.polys.specs.Terms.{EachMono, IsAffine, IsPoly, sub, multiple, coefficient}
use Rattle.polys.specs.Ideal.{number_combination}
use Rattle.polys.specs.Curve.{CurveData}
use Rattle.polys.proofs.Affine.{poly_multiple, poly_none, poly_sub}
use Rattle.polys.proofs.Each.{every_more, every_multiple}
use Rattle.polys.proofs.Units.{canonical_same}
use Rattle.curve_model.specs.Laws.{IsFinite}
use Rattle.curve_laws.proofs.Base.{Ring, member}
use Rattle.row_space.specs.Subspace.{Subspace, DifferIn, FitsIn, IsIn, IsZeroAtPivots, product}
use Rattle.standard_monomials.specs.Standard.{polynomial_of}
use Rattle.standard_monomials.proofs.Rising.{rising_distinct}
use Rattle.standard_monomials.proofs.Sums.{all_zero, monomial_polys, sum_within}
use Rattle.digit_laws.specs.Digits.{AreCornersOf, AreDigits, IsOfDigits}
use Rattle.digit_laws.proofs.Blocks.{zeros_row}
use Rattle.digit_laws.proofs.Linear.{row-length}
use Rattle.digit_laws.proofs.Spaces.{affine_poly}
use Rattle.corner_basis.specs.Staircase.{AreRelations, IsStaircase, IsTailed}
use Rattle.corner_basis.proofs.Numbers.{behind_zeros, difference_sum, numbers_of, one_number, sum_poly}
use Rattle.basis_existence.proofs.LeadsDecided.{lead_stays}
use Rattle.corner_basis.proofs.Classes.{pos, P, W, laws, Span, RM, Scalars, In, up, down, k_multiple, k_row}

pub all_of : {X : Type 0} (R : X → Type 0) (xs : List X) → ((x : X) → Contains xs x → R x) → All R xs
all_of R xs h = All-weaker (Contains xs) R h xs (All-contains_itself xs)

module _ (C : CommRing) where
  open C use {ops, carrier, ◌≈◌, ◌⊕◌, neg}

  infix 40 ◌≈◌
  infixl 60 ◌⊕◌
  turned : (l s : carrier) → neg l ⊕ neg (neg s) ≈ neg (l ⊕ neg s)
  turned l s = ring C (l ∷ s ∷ []) (search quote depth 20) tt

module _ (A : CurveData) (c : IsFinite A) (ms : List Monomial) (k : AreCornersOf A ms) (T : ℕ) where
  abbrev Poly : List Term → Type 0
  Poly f = P A c ms k T f

  abbrev Wide : ℕ
  Wide = W A c ms k T

  -- the rows have the digits of the monomials
  abbrev Rows : List Monomial → List (List ℕ) → Type 0
  Rows ws rs = (i : ℕ) → i < length ws → AreDigits A ms T (polynomial_of (get_or ws i unit)) (get_or rs i [])

  abbrev Sum : List ℕ → List Monomial → List Term
  Sum cs ws = number_combination A.prime cs (map polynomial_of ws)

  none_combined : (row : List ℕ) × AreDigits A ms T [] row × (rows A.prime Wide).◌≋◌ row (rows A.prime Wide).origin
  none_combined =
      let r = (laws A c ms k T).exist [] (poly_none A.prime A.variables) in
      ((rows A.prime Wide).◌·◌ 0 r.0, (laws A c ms k T).multiple 0 [] r.0 (poly_none A.prime A.variables) r.1, Modules.zero_scale (Scalars A c ms k T) (RM A c ms k T) r.0)

  -- the digits of a sum of multiples of monomials are the combination of their rows
  combined : (cs : List ℕ) (ws : List Monomial) (rs : List (List ℕ)) → length rs ≡ length ws → All (IsAffine A.variables) ws → Rows ws rs
      → (row : List ℕ) × AreDigits A ms T (Sum cs ws) row × (rows A.prime Wide).◌≋◌ row (combination (rows A.prime Wide) cs rs)
  unfolding combine
  combined [] ws rs l a d = none_combined
  combined (e ∷ cs) [] [] l a d = none_combined
  combined (e ∷ cs) [] (r ∷ rs) l a d = absurd (omega arith)
  combined (e ∷ cs) (w ∷ ws) [] l a d = absurd (omega arith)
  combined (e ∷ cs) (w ∷ ws) (r ∷ rs) l a d =
      let V = rows A.prime Wide in
      let b = All-tail (IsAffine A.variables) w ws a in
      let q = combined cs ws rs (let x : length (r ∷ rs) ≡ length (w ∷ ws) = l in omega arith) b (λ i h. d (suc i) (omega arith)) in
      let hw = affine_poly A c ms k T w (All-head (IsAffine A.variables) w ws a) in
      let y : List ℕ = V.◌·◌ e r in (
        V.◌⊞◌ y q.0,
        (laws A c ms k T).sum (multiple A.prime e (polynomial_of w)) (Sum cs ws) y q.0 (poly_multiple A.prime A.variables e (polynomial_of w) (pos A c ms k T) hw)
            (sum_poly A.prime A.variables c.curve.prime cs (map polynomial_of ws) (monomial_polys A.prime A.variables c.curve.prime ws b))
            ((laws A c ms k T).multiple e (polynomial_of w) r hw (d 0 (omega arith))) q.1,
        (RM A c ms k T).add_cong {x = y} {x' = y} {y = q.0} {y' = combination V cs rs} ((RM A c ms k T).rfl y) q.2,
      )

  module _ (space : Subspace) (o : IsOfDigits A ms T space) where
    -- the product of a row and the matrix is in the space where the sum is in the ideal
    pub related : (v : List ℕ) (ws : List Monomial) (rs : List (List ℕ)) → length rs ≡ length ws → All (IsAffine A.variables) ws → Rows ws rs
        → IsIn space (product space.prime space.width v rs) ↔ In A c ms k T space (Sum v ws)
    related v ws rs l a d = (forth, back)
      where
        q : (row : List ℕ) × AreDigits A ms T (Sum v ws) row × (rows A.prime Wide).◌≋◌ row (combination (rows A.prime Wide) v rs)
        q = combined v ws rs l a d

        S : IsSubmodule (rows A.prime Wide) (Span A c ms k T space.basis)
        S = Modules.span_submodule (Scalars A c ms k T) (RM A c ms k T) space.basis

        x : List ℕ
        x = combination (rows A.prime Wide) v rs

        forth : IsIn space (product space.prime space.width v rs) → In A c ms k T space (Sum v ws)
        forth h =
            let i : IsIn space (combination (rows A.prime Wide) v rs) = subst (λ z. IsIn space (product z Wide v rs)) o.prime (subst (λ z. IsIn space (product space.prime z v rs)) o.width h) in
            (q.0, q.1, down A c ms k T space o q.0 (S.resp (combination (rows A.prime Wide) v rs) q.0 ((RM A c ms k T).symm {x = q.0} {y = combination (rows A.prime Wide) v rs} q.2) (up A c ms k T space o (combination (rows A.prime Wide) v rs) i)))

        back : In A c ms k T space (Sum v ws) → IsIn space (product space.prime space.width v rs)
        back h =
            let hs = sum_poly A.prime A.variables c.curve.prime v (map polynomial_of ws) (monomial_polys A.prime A.variables c.curve.prime ws a) in
            let i : IsIn space q.0 = k_row A c ms k T space o (Sum v ws) q.0 hs q.1 h in
            let j : IsIn space (combination (rows A.prime Wide) v rs) =
            down A c ms k T space o (combination (rows A.prime Wide) v rs) (S.resp q.0 (combination (rows A.prime Wide) v rs) q.2 (up A c ms k T space o q.0 i)) in
            subst (λ z. IsIn space (product space.prime z v rs)) (sym o.width) (subst (λ z. IsIn space (product z Wide v rs)) (sym o.prime) j)

    module _ (span : Subspace) (ss ls : List Monomial) (h : IsStaircase A ms T space span ss ls) (relations : Subspace) (r : AreRelations A ms T space ss ls relations)
        (reduced : All (FitsIn relations) relations.basis) where
      affine : All (IsAffine A.variables) (ls ++ ss)
      affine = all_of (IsAffine A.variables) (ls ++ ss) (λ w d. pick w (Contains-append_cases ls ss w d))
        where
          pick : (w : Monomial) → Contains ls w ⊎ Contains ss w → IsAffine A.variables w
          pick w (inl d) = h.affine w (inr d)
          pick w (inr d) = h.affine w (inl d)

      affine_ss : All (IsAffine A.variables) ss
      affine_ss = all_of (IsAffine A.variables) ss (λ w d. h.affine w (inl d))

      affine_ls : All (IsAffine A.variables) ls
      affine_ls = all_of (IsAffine A.variables) ls (λ w d. h.affine w (inr d))

      abbrev G : ℕ
      G = length ls

      abbrev us : List (List Term)
      us = map polynomial_of (ls ++ ss)

      polys : All (IsPoly A.prime A.variables) (map polynomial_of (ls ++ ss))
      polys = monomial_polys A.prime A.variables c.curve.prime (ls ++ ss) affine

      many : length (map polynomial_of (ls ++ ss)) ≡ length ls + length ss
      many = length-map (ls ++ ss) polynomial_of ∙ length-append ls ss

      -- a row behind zeros is a sum of multiples of ss
      behind : (cs : List ℕ) → Sum (replicate (length ls) 0 ++ cs) (ls ++ ss) ≡ Sum cs ss
      behind cs = both ∙ behind_zeros A.prime A.variables c.curve.prime cs (map polynomial_of ls) (map polynomial_of ss)
          (monomial_polys A.prime A.variables c.curve.prime ls affine_ls) (monomial_polys A.prime A.variables c.curve.prime ss affine_ss)
        where
          split : (xs ys : List Monomial) → map polynomial_of (xs ++ ys) ≡ map polynomial_of xs ++ map polynomial_of ys
          split [] ys = refl
          split (x ∷ xs) ys = ap (λ z. polynomial_of x ∷ z) (split xs ys)

          both : Sum (replicate (length ls) 0 ++ cs) (ls ++ ss) ≡ number_combination A.prime (replicate (length (map polynomial_of ls)) 0 ++ cs) (map polynomial_of ls ++ map polynomial_of ss)
          both = ap (number_combination A.prime (replicate (length ls) 0 ++ cs)) (split ls ss)
              ∙ ap (λ z. number_combination A.prime (replicate z 0 ++ cs) (map polynomial_of ls ++ map polynomial_of ss)) (sym (length-map ls polynomial_of))

      -- a relation that is 0 at the leads is 0
      no_relation : (cs : List ℕ) → length cs ≡ length ss → IsIn relations (replicate (length ls) 0 ++ cs) → All (λ e. e % A.prime ≡ 0 % A.prime) cs
      no_relation cs l i =
          let wide : length (replicate (length ls) 0 ++ cs) ≡ length ls + length ss = length-append (replicate (length ls) 0) cs ∙ ap₂ (λ a b. a + b) (length-replicate (length ls) 0) l in
          let y : In A c ms k T space (Sum cs ss) = subst (In A c ms k T space) (behind cs) ((r.members (replicate (length ls) 0 ++ cs) wide).0 i) in
          let none : Sum cs ss ≡ [] = h.free (Sum cs ss) (sum_poly A.prime A.variables c.curve.prime cs (map polynomial_of ss) (monomial_polys A.prime A.variables c.curve.prime ss affine_ss)) (sum_within A.prime cs ss) y in
          all_zero A.prime cs ss (rising_distinct ss h.rising) l (λ m d. ap (λ z. coefficient z m % A.prime) none)

      front_zeros : (n : ℕ) (b : List ℕ) → n ≤ length b → ((i : ℕ) → i < n → get_or b i 0 ≡ 0) → b ≡ replicate n 0 ++ drop n b
      front_zeros zero b l z = refl
      front_zeros (suc n) [] l z = absurd (omega arith)
      front_zeros (suc n) (x ∷ b) l z =
          let e : x ≡ 0 = z 0 (omega arith) in
          let f = front_zeros n b (let q : suc n ≤ suc (length b) = l in omega arith) (λ i a. z (suc i) (omega arith)) in
          λ j. e j ∷ f j

      -- the first entry that is not 0 of a relation is at a lead
      at_lead : (j pivot : ℕ) → j < length relations.basis → IsFirstNonzero (get_or relations.basis j []) pivot → pivot < length ls
      at_lead j pivot l f = ⊎_elim (λ a. a) (λ (a : length ls ≤ pivot). absurd (f.nonzero (zero_there a))) (cases_lt pivot (length ls))
        where
          b : List ℕ
          b = get_or relations.basis j []

          fits : FitsIn relations (get_or relations.basis j [])
          fits = reduced j [] l

          inside : IsIn relations (get_or relations.basis j [])
          inside = Modules.span_self (residues relations.prime positive) (row_module relations.prime positive relations.width) relations.basis j [] l
            where
              positive : 0 < relations.prime
              positive = subst (λ z. 0 < z) (sym r.prime) (pos A c ms k T)

          long : length (get_or relations.basis j []) ≡ length ls + length ss
          long = fits.0 ∙ r.width

          zero_there : length ls ≤ pivot → get_or (get_or relations.basis j []) pivot 0 ≡ 0
          zero_there a =
              let cs = drop (length ls) (get_or relations.basis j []) in
              let e : get_or relations.basis j [] ≡ replicate (length ls) 0 ++ drop (length ls) (get_or relations.basis j []) =
              front_zeros (length ls) (get_or relations.basis j []) (let q = long in omega arith) (λ i q. f.before i (omega arith)) in
              let len : length ls + length (drop (length ls) (get_or relations.basis j [])) ≡ length ls + length ss =
              sym (ap length e ∙ length-append (replicate (length ls) 0) (drop (length ls) (get_or relations.basis j [])) ∙ ap (λ z. z + length (drop (length ls) (get_or relations.basis j []))) (length-replicate (length ls) 0)) ∙ long in
              let z = no_relation (drop (length ls) (get_or relations.basis j [])) (omega arith) (subst (IsIn relations) e inside) in
              let w = f.within in
              let place : length ls + (pivot - length ls) ≡ pivot = omega arith in
              let there : get_or (drop (length ls) (get_or relations.basis j [])) (pivot - length ls) 0 % A.prime ≡ 0 % A.prime = z (pivot - length ls) 0 (let q = long in omega arith) in
              let same : get_or (get_or relations.basis j []) pivot 0 ≡ get_or (drop (length ls) (get_or relations.basis j [])) (pivot - length ls) 0 =
              sym (get_or-drop (length ls) (get_or relations.basis j []) (pivot - length ls) 0 ∙ ap (λ q. get_or (get_or relations.basis j []) q 0) place) in
              let small : get_or (get_or relations.basis j []) pivot 0 < A.prime = subst (λ z. get_or (get_or relations.basis j []) pivot 0 < z) r.prime (fits.1 pivot 0 w) in
              sym (mod-eq_of_lt small) ∙ ap (λ q. q % A.prime) same ∙ there ∙ mod-eq_of_lt (pos A c ms k T)

      drop_zeros : (n : ℕ) (cs : List ℕ) → drop n (replicate n 0 ++ cs) ≡ cs
      drop_zeros zero cs = refl
      drop_zeros (suc n) cs = drop_zeros n cs

      zero_before : (n i : ℕ) (cs : List ℕ) → i < n → get_or (replicate n 0 ++ cs) i 0 ≡ 0
      zero_before zero i cs l = absurd (omega arith)
      zero_before (suc n) zero cs l = refl
      zero_before (suc n) (suc i) cs l = zero_before n i cs (omega arith)

      module _ (i : ℕ) (l : Monomial) (inside : i < length ls) (is : l ≡ get_or ls i l) (row z : List ℕ) (row_is : row ≡ set (replicate (length ls + length ss) 0) i (A.prime - 1))
          (only : (other : List ℕ) → FitsIn relations other → DifferIn relations row other → IsZeroAtPivots relations other → other ≡ z) where
        there : Contains ls l
        there = (i, inside, sym is)

        abbrev x : List Term
        x = polynomial_of l

        hx : Poly (polynomial_of l)
        hx = affine_poly A c ms k T l (h.affine l (inr there))

        abbrev s : List Term
        s = (h.reducible l there).sum

        hs : Poly (h.reducible l there).sum
        hs = (h.reducible l there).poly

        abbrev minus : List Term
        minus = multiple A.prime (A.prime - 1) (h.reducible l there).sum

        hm : Poly (multiple A.prime (A.prime - 1) (h.reducible l there).sum)
        hm = poly_multiple A.prime A.variables (A.prime - 1) (h.reducible l there).sum (pos A c ms k T) hs

        monos : EachMono (Contains ss) (multiple A.prime (A.prime - 1) (h.reducible l there).sum)
        monos = every_multiple (Contains ss) A.prime (A.prime - 1) (h.reducible l there).sum
            (every_more (λ w. Contains ss w × (cmp_dp w l ≡ Less)) (Contains ss) (h.reducible l there).sum (λ w b. b.0) (h.reducible l there).monos)

        n : (cs : List ℕ) × (length cs ≡ length (map polynomial_of ss)) × All (λ e. e < A.prime) cs × (multiple A.prime (A.prime - 1) (h.reducible l there).sum ≡ number_combination A.prime cs (map polynomial_of ss))
        n = numbers_of A.prime A.variables c.curve.prime ss affine_ss minus hm monos

        abbrev cs : List ℕ
        cs = n.0

        long : length n.0 ≡ length ss
        long = n.1 ∙ length-map ss polynomial_of

        abbrev other : List ℕ
        other = replicate (length ls) 0 ++ n.0

        wide : length (replicate (length ls) 0 ++ n.0) ≡ length ls + length ss
        wide = length-append (replicate (length ls) 0) n.0 ∙ ap₂ (λ a b. a + b) (length-replicate (length ls) 0) long

        fits : FitsIn relations (replicate (length ls) 0 ++ n.0)
        fits = (
          wide ∙ sym r.width,
          subst (λ p. All (λ e. e < p) (replicate (length ls) 0 ++ n.0)) (sym r.prime) (All-append (λ e. e < A.prime) (replicate (length ls) 0) n.0 (zeros_row A c ms k (length ls)) n.2),
        )

        row_long : length row ≡ relations.width
        row_long = ap length row_is ∙ length-set (replicate (length ls + length ss) 0) i (A.prime - 1) ∙ length-replicate (length ls + length ss) 0 ∙ sym r.width

        row_sum : Sum row (ls ++ ss) ≡ multiple A.prime (A.prime - 1) (polynomial_of l)
        row_sum =
            ap (λ v. Sum v (ls ++ ss)) (row_is ∙ ap (λ w. set (replicate w 0) i (A.prime - 1)) (sym many))
            ∙ one_number A.prime A.variables c.curve.prime (A.prime - 1) i (map polynomial_of (ls ++ ss)) polys (let m = many in omega arith)
            ∙ ap (multiple A.prime (A.prime - 1)) (get_or-map polynomial_of (ls ++ ss) i l [] (let m = length-append ls ss in omega arith)
            ∙ ap polynomial_of (get_or_append_left ls ss l i inside ∙ sym is))

        differ : DifferIn relations row (replicate (length ls) 0 ++ n.0)
        differ =
            let d = difference_sum A.prime A.variables c.curve.prime (map polynomial_of (ls ++ ss)) polys row other relations.width (r.width ∙ sym many) row_long (wide ∙ sym r.width) in
            let y = sub A.prime (polynomial_of l) (h.reducible l there).sum in
            let hy = poly_sub A.prime A.variables (polynomial_of l) (h.reducible l there).sum (pos A c ms k T) hx hs in
            let e : Sum ((rows A.prime relations.width).◌⊞◌ row ((rows A.prime relations.width).opposite other)) (ls ++ ss) ≡ multiple A.prime (A.prime - 1) y =
            d ∙ ap₂ (sub A.prime) row_sum (behind n.0 ∙ sym n.3) ∙ turned (Ring A c.curve) (member A c.curve (polynomial_of l) hx) (member A c.curve (h.reducible l there).sum hs) in
            let i : In A c ms k T space (Sum ((rows A.prime relations.width).◌⊞◌ row ((rows A.prime relations.width).opposite other)) (ls ++ ss)) =
            subst (In A c ms k T space) (sym e) (k_multiple A c ms k T space o (A.prime - 1) y hy (h.reducible l there).close) in
            let at : In A c ms k T space (Sum ((rows relations.prime relations.width).◌⊞◌ row ((rows relations.prime relations.width).opposite other)) (ls ++ ss)) =
            subst (λ p. In A c ms k T space (Sum ((rows p relations.width).◌⊞◌ row ((rows p relations.width).opposite other)) (ls ++ ss))) (sym r.prime) i in
            (r.members ((rows relations.prime relations.width).◌⊞◌ row ((rows relations.prime relations.width).opposite other))
            (row-length relations.width (λ j. (get_or row j 0 + get_or ((rows relations.prime relations.width).opposite other) j 0) % relations.prime) ∙ r.width)).1 at

        same : replicate (length ls) 0 ++ n.0 ≡ z
        same = only other fits differ (λ j pivot a f. zero_before (length ls) pivot n.0 (at_lead j pivot a f))

        lower : Sum (drop (length ls) z) ss ≡ multiple A.prime (A.prime - 1) (h.reducible l there).sum
        lower = ap (λ v. Sum v ss) (ap (drop (length ls)) (sym same) ∙ drop_zeros (length ls) n.0) ∙ sym n.3

        difference : sub A.prime (polynomial_of l) (h.reducible l there).sum ≡ record { coeff = 1; mono = l } ∷ multiple A.prime (A.prime - 1) (h.reducible l there).sum
        difference =
            lead_stays A.prime A.variables (record { coeff = 1; mono = l }) [] (h.reducible l there).sum (pos A c ms k T) hx hs
            (every_more (λ w. Contains ss w × (cmp_dp w l ≡ Less)) (λ w. cmp_dp w l ≡ Less) (h.reducible l there).sum (λ w b. b.1) (h.reducible l there).monos)
            ∙ ap (λ v. record { coeff = 1; mono = l } ∷ v) (canonical_same A.prime minus hm.canonical)

        pub tailed : (f : List Term) → f ≡ record { coeff = 1; mono = l } ∷ Sum (drop (length ls) z) ss → IsTailed A ms T space ss l f
        tailed f e =
            let whole : f ≡ record { coeff = 1; mono = l } ∷ multiple A.prime (A.prime - 1) (h.reducible l there).sum = e ∙ ap (λ v. record { coeff = 1; mono = l } ∷ v) lower in
            let is : sub A.prime (polynomial_of l) (h.reducible l there).sum ≡ f = difference ∙ sym whole in
            record {
              rest = multiple A.prime (A.prime - 1) (h.reducible l there).sum;
              whole = whole;
              poly = subst (IsPoly A.prime A.variables) is (poly_sub A.prime A.variables (polynomial_of l) (h.reducible l there).sum (pos A c ms k T) hx hs);
              monos = monos;
              member = subst (In A c ms k T space) is (h.reducible l there).close;
            }
