-- The loop over the blocks of a row, from the last one to the first.
use Rattle.std.proofs.Common.{◌≡◌, inl, inr, ℕ, zero, suc, ◌+◌, ◌-◌, ◌*◌, ◌%◌, ◌<◌, ◌≤◌, List, [], ◌∷◌, ◌++◌, length, take, drop, replicate, get_or, refl, sym, ap, ◌∙◌, subst, arith, ⊎_elim, mul-add, mul_comm}
use Rattle.std.proofs.lemmas.Bool.{cases_lt}
use Rattle.std.proofs.lemmas.List.Elements.{All-append, All-take, All-drop}
use Rattle.std.proofs.Math.Seq.{drop-append_seam, drop-drop}
use Rattle.std.proofs.lemmas.List.{length-drop, length-take, get_or-map, length-take-le, length-replicate, get_or-take, get_or-drop, get_or_append_left, get_or-append_right, get_or_past, get_or-replicate, take-append-drop}
use Rattle.monomials.specs.Mono.{unit}
use Rattle.polys.specs.declared.term.Term.{Term}
use Rattle.polys.specs.Terms.{IsPoly, mul}
use Rattle.polys.specs.Curve.{CurveData, data_of}
use Rattle.polys.proofs.Affine.{poly_mul}
use Rattle.prime_field.proofs.Table.{positive_of_prime}
use Rattle.lane_rows.specs.Rows.{AreResidues}
use Rattle.row_space.specs.Echelon.{IsRow}
use Rattle.standard_monomials.specs.Standard.{polynomial_of}
use Rattle.digit_laws.specs.Digits.{value, AreDigits}
use Rattle.digit_space.specs.Adding.{sum_at, HasMultiples}
use Rattle.digit_space.specs.Model.{DigitData, IsDigitSpace, IsDigitRow, width, corner}
use Rattle.digit_space.proofs.Spaced.{finite, blocks, corner_poly}
use Rattle.digit_laws.proofs.DigitLaws.{digit_law, U, value_poly}
use Rattle.digit_laws.proofs.Blocks.{zeros_row}
use Rattle.digit_space.proofs.BlockSums.{HasRow, block_more}

-- the blocks from a place on are in the sum, and before it is 0
pub record BlocksAdded (g : DigitData) (f : ℕ → List ℕ) (row : List ℕ) (from : ℕ) (out : List ℕ) : Type 0 where
  pub before : ℕ
  pub place : from ≡ before * length g.basis
  pub within : before ≤ g.depth
  pub residues : AreResidues g.curve.prime out
  pub zeros : (i : ℕ) → i < from → get_or out i 0 ≡ 0
  pub digits : (q : List Term) → IsPoly g.curve.prime g.curve.variables q → HasMultiples g q row f
      → AreDigits (data_of g.curve) g.basis (g.depth - before) (mul g.curve.prime q (value (data_of g.curve) g.basis (g.depth - before) (drop from row))) (drop from out)

-- a row with zeros behind it
abbrev longer : List ℕ → ℕ → List ℕ
longer row n = row ++ replicate n 0

-- zeros behind a row change no entry
pub padded : (row : List ℕ) (n t : ℕ) → get_or (longer row n) t 0 ≡ get_or row t 0
padded row n t = ⊎_elim inside behind (cases_lt t (length row))
  where
    inside : t < length row → get_or (longer row n) t 0 ≡ get_or row t 0
    inside l = get_or_append_left row (replicate n 0) 0 t l

    zeros : (k : ℕ) → get_or (longer [] n) k 0 ≡ 0
    zeros k = ⊎_elim (λ l. get_or-replicate n k 0 0 l) (λ l. get_or_past (replicate n 0) k 0 (let e : length {A = ℕ} (replicate n 0) ≡ n = length-replicate n 0 in omega arith)) (cases_lt k n)

    behind : length row ≤ t → get_or (longer row n) t 0 ≡ get_or row t 0
    behind l = get_or-append_right row (replicate n 0) (length row) t 0 refl l ∙ zeros (t - length row) ∙ sym (get_or_past row t 0 l)

module _ (g : DigitData) (s : IsDigitSpace g) where
  abbrev N : ℕ
  N = length g.basis

  abbrev A : CurveData
  A = data_of g.curve

  abbrev P : List Term → Type 0
  P f = IsPoly g.curve.prime g.curve.variables f

  -- the row has the digits of q times the value of another
  abbrev Claim : (D : ℕ) (q : List Term) (row out : List ℕ) → Type 0
  Claim D q row out = AreDigits A g.basis D (mul g.curve.prime q (value A g.basis D row)) out

  times_value : (D : ℕ) (q : List Term) (row : List ℕ) → P q → P (mul g.curve.prime q (value A g.basis D row))
  times_value D q row hq = poly_mul g.curve.prime g.curve.variables q (value A g.basis D row) (positive_of_prime g.curve.prime s.prime) hq (value_poly A (finite g s) g.basis s.corners D row)

  -- a row without entries has the digits of everything
  pub no_entries : (D : ℕ) (q : List Term) (row out : List ℕ) → N * D ≡ 0 → length out ≡ 0 → P q → Claim D q row out
  no_entries D q row out none l hq =
      let r = (digit_law A (finite g s) g.basis s.corners D).exist (mul g.curve.prime q (value A g.basis D row)) (times_value D q row hq) in
      subst (λ z. Claim D q row z) (empty r.0 (r.1.fits.0 ∙ none) ∙ sym (empty out l)) r.1
    where
      empty : (xs : List ℕ) → length xs ≡ 0 → xs ≡ []
      empty [] e = refl
      empty (x ∷ xs) e = absurd (omega arith)

  module _ (f : ℕ → List ℕ) (row : List ℕ) (h : IsDigitRow g row) where
    pub start : (out : List ℕ) → out ≡ replicate (width g) 0 → BlocksAdded g f row (length row) out
    start out e =
        let lo : length out ≡ width g = ap length e ∙ length-replicate (width g) 0 in
        let lr : length row ≡ width g = h.0 in
        record {
          before = g.depth;
          place = h.0 ∙ mul_comm N g.depth;
          within = omega arith;
          residues = subst (AreResidues g.curve.prime) (sym e) (zeros_row A (finite g s) g.basis s.corners (width g));
          zeros = λ i l. ap (λ z. get_or z i 0) e ∙ get_or-replicate (width g) i 0 0 (omega arith);
          digits = λ q hq hm. subst (λ D. Claim D q (drop (length row) row) (drop (length row) out)) (let w : 0 ≡ g.depth - g.depth = omega arith in w)
              (no_entries 0 q (drop (length row) row) (drop (length row) out) (let w : N * 0 ≡ 0 = omega arith in w) (length-drop (length row) out ∙ (let w : length out - length row ≡ 0 = omega arith in w)) hq);
        }

    one_before : (from before : ℕ) → from ≡ before * N → 0 < from → (m : ℕ) × (before ≡ suc m) × (from ≡ m * N + N)
    one_before from zero e l = absurd (let w : from ≡ 0 = e ∙ (let v : 0 * N ≡ 0 = omega arith in v) in omega arith)
    one_before from (suc m) e l = (m, refl, e ∙ (let v : suc m * N ≡ m * N + N = omega arith in v))

    -- a place that is not the first has a block before it
    pub room : (from : ℕ) (out : List ℕ) → BlocksAdded g f row from out → 0 < from → (N ≤ from) × (0 < N)
    room from out b l = let o = one_before from b.before b.place l in ((let w = o.2 in omega arith), some N o.0 (let w : 0 < o.0 * N + N = subst (λ z. 0 < z) o.2 l in w))
      where
        some : (n m : ℕ) → 0 < m * n + n → 0 < n
        some zero m p = absurd (let w : m * 0 + 0 ≡ 0 = omega arith in omega arith)
        some (suc n) m p = omega arith

    -- the rows at a smaller depth
    at_depth : (D : ℕ) → suc D ≤ g.depth → (m to : ℕ) → to ≡ m * N → m < g.depth → (a : List ℕ) → a ≡ take N (drop to row) → (q : List Term) → P q → HasMultiples g q row f
        → (i : ℕ) → i < length a → HasRow A (finite g s) g.basis s.corners (suc D) q a (U A (finite g s) g.basis s.corners) f i
    at_depth D ld m to e lm a ea q hq hm i l =
        ⊎_elim
        (λ z. inl (ap (λ x. get_or x i 0) ea ∙ get_or-take N (drop to row) i 0 within ∙ get_or-drop to row i 0 ∙ ap (λ n. get_or row (n + i) 0) e ∙ z m lm))
        (λ r. inr (
          take (N * suc D) (f i ++ replicate (width g - length (f i)) 0),
          subst (λ u. AreDigits A g.basis (suc D) (mul g.curve.prime q u) (take (N * suc D) (f i ++ replicate (width g - length (f i)) 0))) (sym (get_or-map polynomial_of g.basis i unit [] within))
              ((blocks g s).truncated (suc D) (g.depth - suc D) (mul g.curve.prime q (polynomial_of (corner g i))) (f i ++ replicate (width g - length (f i)) 0)
              (poly_mul g.curve.prime g.curve.variables q (polynomial_of (corner g i)) (positive_of_prime g.curve.prime s.prime) hq (corner_poly g s i within))
              (subst (λ T. AreDigits A g.basis T (mul g.curve.prime q (polynomial_of (corner g i))) (f i ++ replicate (width g - length (f i)) 0)) (let w : g.depth ≡ suc D + (g.depth - suc D) = omega arith in w) r.digits)),
          λ t lt. get_or-take (N * suc D) (f i ++ replicate (width g - length (f i)) 0) t 0 lt ∙ padded (f i) (width g - length (f i)) t,
        ))
        (hm i within)
      where
        within : i < N
        within = let e : length a ≡ length (take N (drop to row)) = ap length ea in let t = length-take N (drop to row) in omega arith

    pub next : (from to : ℕ) (out old rest a : List ℕ) → length out ≡ width g → BlocksAdded g f row from out → 0 < from → to ≡ from - N
        → old ≡ drop to out → a ≡ take N (drop to row)
        → AreResidues g.curve.prime rest → length rest ≡ length old
        → ((t : ℕ) → t < length old → get_or rest t 0 ≡ (get_or old t 0 + sum_at a f t) % g.curve.prime)
        → BlocksAdded g f row to (take to out ++ rest)
    next from to out old rest a lo b l e eo ea r lr entries = go (one_before from b.before b.place l)
      where
        go : (m : ℕ) × (b.before ≡ suc m) × (from ≡ m * N + N) → BlocksAdded g f row to (take to out ++ rest)
        go (m, em, ef) = record {
          before = m;
          place = omega arith;
          within = (let w = b.within in omega arith);
          residues = All-append (λ x. x < g.curve.prime) (take to out) rest (All-take (λ x. x < g.curve.prime) to out b.residues) r;
          zeros = λ i j. get_or_append_left (take to out) rest 0 i (omega (arith, lt)) ∙ get_or-take to out i 0 j ∙ b.zeros i (omega arith);
          digits = λ q hq hm. subst (λ D. Claim D q (drop to row) (drop to (take to out ++ rest))) ed (subst (λ z. Claim (suc D) q z (drop to (take to out ++ rest))) ab
              (subst (λ z. Claim (suc D) q (a ++ drop from row) z) (sym dropped)
              (block_more A (finite g s) g.basis s.corners D q a (drop from row) (drop from out) rest f hq ha (b.digits q hq hm)
              (at_depth D (let w = b.within in omega arith) m to place (let w = b.within in omega arith) a ea q hq hm) hn
              (λ t j. entries t (omega (arith, lold, wide)) ∙ ap (λ x. (x + sum_at a f t) % g.curve.prime) (ap (λ z. get_or z t 0) eo ∙ shifted t)))));
        }
          where
            D : ℕ
            D = g.depth - b.before

            ed : suc D ≡ g.depth - m
            ed = let w = b.within in omega arith

            place : to ≡ m * N
            place = omega arith

            whole : length row ≡ N * g.depth
            whole = h.0

            -- N * depth in three parts
            parts : N * g.depth ≡ m * N + (N + N * D)
            parts = ap (λ z. N * z) (let w = b.within in let v : g.depth ≡ m + suc D = omega arith in v) ∙ mul-add N m (suc D) ∙ (let v : N * m ≡ m * N = mul_comm N m in let u : N * suc D ≡ N + N * D = omega arith in omega arith)

            lt : length (take to out) ≡ to
            lt = length-take-le to out (omega (arith, parts))

            wide : N * suc D ≡ N + N * D
            wide = omega arith

            lold : length old ≡ N * suc D
            lold = ap length eo ∙ length-drop to out ∙ (let v : length out - to ≡ N * suc D = omega (arith, parts, wide) in v)

            hn : IsRow g.curve.prime (N * suc D) rest
            hn = (lr ∙ lold, r)

            dropped : drop to (take to out ++ rest) ≡ rest
            dropped = ap (λ k. drop k (take to out ++ rest)) (sym lt) ∙ drop-append_seam (take to out) rest

            after : drop N (drop to row) ≡ drop from row
            after = drop-drop N to row ∙ ap (λ k. drop k row) (let v : to + N ≡ from = omega arith in v)

            ab : a ++ drop from row ≡ drop to row
            ab = ap (λ z. z ++ drop from row) ea ∙ ap (λ z. take N (drop to row) ++ z) (sym after) ∙ take-append-drop N (drop to row)

            ha : IsRow g.curve.prime N a
            ha = (
              ap length ea ∙ length-take-le N (drop to row) (let v = length-drop to row in omega (arith, parts)),
              subst (AreResidues g.curve.prime) (sym ea) (All-take (λ x. x < g.curve.prime) N (drop to row) (All-drop (λ x. x < g.curve.prime) to row h.1)),
            )

            shifted : (t : ℕ) → get_or (drop to out) t 0 ≡ get_or (replicate N 0 ++ drop from out) t 0
            shifted t = ⊎_elim front back (cases_lt t N)
              where
                z : length {A = ℕ} (replicate N 0) ≡ N
                z = length-replicate N 0

                front : t < N → get_or (drop to out) t 0 ≡ get_or (replicate N 0 ++ drop from out) t 0
                front j = get_or-drop to out t 0 ∙ b.zeros (to + t) (omega arith) ∙ sym (get_or-replicate N t 0 0 j) ∙ sym (get_or_append_left (replicate N 0) (drop from out) 0 t (omega (arith, z)))

                back : N ≤ t → get_or (drop to out) t 0 ≡ get_or (replicate N 0 ++ drop from out) t 0
                back j = get_or-drop to out t 0 ∙ ap (λ k. get_or out k 0) (let v : to + t ≡ from + (t - N) = omega arith in v) ∙ sym (get_or-drop from out (t - N) 0) ∙ sym (get_or-append_right (replicate N 0) (drop from out) N t 0 z j)

    pub finish : (from : ℕ) (out : List ℕ) → length out ≡ width g → BlocksAdded g f row from out → from ≡ 0 → (q : List Term) → P q → HasMultiples g q row f → Claim g.depth q row out
    finish from out lo b z q hq hm = go b.before b.place (b.digits q hq hm)
      where
        go : (m : ℕ) → from ≡ m * N → Claim (g.depth - m) q (drop from row) (drop from out) → Claim g.depth q row out
        go zero e d = subst (λ D. Claim D q row out) (let w : g.depth - 0 ≡ g.depth = omega arith in w) (subst (λ k. Claim (g.depth - 0) q (drop k row) (drop k out)) z d)
        go (suc m) e d =
            let none : N ≡ 0 = (let v : suc m * N ≡ m * N + N = omega arith in omega arith) in
            let flat : N * g.depth ≡ 0 = ap (λ k. k * g.depth) none ∙ (let v : 0 * g.depth ≡ 0 = omega arith in v) in
            no_entries g.depth q row out flat (lo ∙ flat) hq
