-- The sum of the corners by residues, as a list of terms, and Horner's rule over the blocks of a row.
use Rattle.std.proofs.Common.{◌≡◌, ℕ, zero, suc, ◌+◌, ◌-◌, ◌*◌, ◌%◌, ◌<◌, ◌≤◌, List, [], ◌∷◌, ◌++◌, map, length, take, drop, get_or, All, refl, sym, ap, ap₂, ◌∙◌, subst, arith, mul_comm, mul-le-mul_right}
use Rattle.std.proofs.Math.Seq.{drop-drop}
use Rattle.std.proofs.lemmas.List.{drop_more, drop_all, length-drop, length-take-le, get_or-drop, get_or_default, take-append-drop}
use Rattle.std.proofs.lemmas.List.Elements.{All-drop, All-take}
use Rattle.std.specs.List.{Contains}
use Rattle.std.specs.declared.cmp.Ordering.TheVariants.{Less}
use Rattle.monomials.specs.Mono.{Monomial, IsMono, unit, cmp_dp}
use Rattle.polys.specs.declared.term.Term.{Term}
use Rattle.polys.specs.Terms.{EachMono, IsAffine, IsPoly, IsCanonical, put, put_by, keep, add, mul, multiple, degree_of}
use Rattle.polys.specs.Ideal.{number_combination}
use Rattle.polys.proofs.Each.{every_more}
use Rattle.polys.specs.Poly.{Polynomial, IsVector}
use Rattle.polys.specs.Curve.{data_of}
use Rattle.curve_laws.proofs.Base.{Ring, member}
use Rattle.row_space.specs.Echelon.{IsRow}
use Rattle.polys.proofs.Units.{canonical_same}
use Rattle.standard_monomials.specs.Standard.{IsRising, polynomial_of}
use Rattle.standard_monomials.proofs.Sums.{sum_within, monomial_polys}
use Rattle.digit_laws.specs.Digits.{places, value}
use Rattle.digit_space.specs.Model.{DigitData, IsDigitSpace, IsDigitRow, IsDigitsOf, corner, width}
use Rattle.digit_laws.proofs.DigitLaws.{numbers_poly, value_poly}
use Rattle.digit_laws.proofs.Blocks.{multiple_none, split}
use Rattle.digit_space.proofs.Spaced.{finite, laws, corner_poly}
use Rattle.digit_space.proofs.Found.{standard, corner_affine}
use Rattle.digit_space.proofs.KeptRows.{none_before}
use Rattle.digit_space.proofs.TermRows.{no_width}
use Rattle.digit_space.proofs.Lows.{corner_low, value_low}

-- a term below all others comes last
put_last : (p : ℕ) (t : Term) (f : List Term) → IsCanonical p (t ∷ []) → EachMono (λ w. cmp_dp t.mono w ≡ Less) f → put p t f ≡ f ++ (t ∷ [])
put_last p t [] h e = canonical_same p (t ∷ []) h
put_last p t (u ∷ f) h e = ap (put_by p t u f (put p t f)) e.0 ∙ ap (λ z. u ∷ z) (put_last p t f h e.1)

each_more : (Q : Monomial → Type 0) (f : List Term) (t : Term) → EachMono Q f → Q t.mono → EachMono Q (f ++ (t ∷ []))
each_more Q [] t h q = (q, tt)
each_more Q (u ∷ f) t h q = (h.0, each_more Q f t h.1 q)

-- the corners behind the first one are greater
above_first : (m : Monomial) (ms : List Monomial) → IsRising (m ∷ ms) → (w : Monomial) → Contains ms w → cmp_dp m w ≡ Less
above_first m ms r w (k, l, e) = subst (λ z. cmp_dp m z ≡ Less) e (r 0 (suc k) w (omega arith) (omega arith))

abbrev sum_of : ℕ → List ℕ → List Monomial → List Term
sum_of p cs ms = number_combination p cs (map polynomial_of ms)

-- one corner more, in front
pub sum_more : (p n c : ℕ) (cs : List ℕ) (m : Monomial) (ms : List Monomial) → IsRising (m ∷ ms) → 0 < c → c < p → IsPoly p n (sum_of p cs ms)
    → sum_of p (c ∷ cs) (m ∷ ms) ≡ sum_of p cs ms ++ (record { coeff = c; mono = m } ∷ [])
sum_more p n c cs m ms r low high h =
    let t : Term = record { coeff = c; mono = m } in
    let canonical : IsCanonical p (t ∷ []) = (low, high, tt, tt) in
    let one : multiple p c (polynomial_of m) ≡ t ∷ [] = (let e : c * 1 ≡ c = omega arith in ap (λ z. keep (z % p) m []) e) ∙ canonical_same p (t ∷ []) canonical in
    ap (λ z. add p z (sum_of p cs ms)) one
    ∙ ap (put p t) (canonical_same p (sum_of p cs ms) h.canonical)
    ∙ put_last p t (sum_of p cs ms) canonical (every_more (Contains ms) (λ w. cmp_dp m w ≡ Less) (sum_of p cs ms) (above_first m ms r) (sum_within p cs ms))

-- the terms of the corners from a place on
pub record BlockTerms (g : DigitData) (block : List ℕ) (i : ℕ) (items : List Term) : Type 0 where
  pub within : i ≤ length g.basis
  pub is : items ≡ sum_of g.curve.prime (drop i block) (drop i g.basis)
  pub monos : EachMono IsMono items

-- the polynomial is the value of the blocks from a place on
pub record BlocksValued (g : DigitData) (row : List ℕ) (from : ℕ) (f : Polynomial) : Type 0 where
  pub before : ℕ
  pub place : from ≡ before * length g.basis
  pub within : before ≤ g.depth
  pub prime : f.prime ≡ g.curve.prime
  pub is : f.terms ≡ value (data_of g.curve) g.basis (g.depth - before) (drop from row)

-- ---- the loop over the corners, from the last one

module _ (g : DigitData) (s : IsDigitSpace g) where
  abbrev P : List Term → Type 0
  P f = IsPoly g.curve.prime g.curve.variables f

  corner_mono : (i : ℕ) → i < length g.basis → IsMono (corner g i)
  corner_mono i l = let a = corner_affine g s i l in let low = corner_low g s i l in record { seven = a.seven; bounded = omega arith; one_of_two = (let z = a.plain in omega arith) }

  corners_affine : All (IsAffine g.curve.variables) g.basis
  corners_affine i d l = (standard g s (get_or g.basis i d) (i, l, get_or_default g.basis i (get_or g.basis i d) d l)).affine

  sums_poly : (cs : List ℕ) (i : ℕ) → P (sum_of g.curve.prime cs (drop i g.basis))
  sums_poly cs i = numbers_poly (data_of g.curve) (finite g s) g.basis s.corners cs (map polynomial_of (drop i g.basis))
      (monomial_polys g.curve.prime g.curve.variables s.prime (drop i g.basis) (All-drop (IsAffine g.curve.variables) i g.basis corners_affine))

  rising_drop : (i : ℕ) → IsRising (drop i g.basis)
  rising_drop i a b d l h =
      let e = length-drop i g.basis in
      subst (λ z. cmp_dp z (get_or (drop i g.basis) b d) ≡ Less) (sym (get_or-drop i g.basis a d))
      (subst (λ z. cmp_dp (get_or g.basis (i + a) d) z ≡ Less) (sym (get_or-drop i g.basis b d)) (s.corners.rising (i + a) (i + b) d (omega arith) (omega arith)))

  pub terms_begin : (block : List ℕ) (i : ℕ) → length block ≡ length g.basis → i ≡ length g.basis → BlockTerms g block i []
  terms_begin block i l e = record {
    within = omega arith;
    is = sym (ap (λ z. number_combination g.curve.prime z (map polynomial_of (drop i g.basis))) (drop_all i block (omega arith)));
    monos = tt;
  }

  whole : (block : List ℕ) (i : ℕ) (m : Monomial) → length block ≡ length g.basis → i < length g.basis → m ≡ get_or g.basis i m
      → sum_of g.curve.prime (drop i block) (drop i g.basis) ≡ sum_of g.curve.prime (get_or block i 0 ∷ drop (i + 1) block) (m ∷ drop (i + 1) g.basis)
  whole block i m l h e = ap₂ (sum_of g.curve.prime) (drop_more block i 0 (omega arith)) (drop_more g.basis i m h ∙ ap (λ z. z ∷ drop (i + 1) g.basis) (sym e))

  -- a corner with an entry that is not 0
  pub term_kept : (block : List ℕ) (i : ℕ) (m : Monomial) (items : List Term) → IsRow g.curve.prime (length g.basis) block → 0 < i → BlockTerms g block i items
      → m ≡ get_or g.basis (i - 1) m → 0 < get_or block (i - 1) 0
      → BlockTerms g block (i - 1) (items ++ (record { coeff = get_or block (i - 1) 0; mono = m } ∷ []))
  term_kept block i m items h p b e nz =
      let w = b.within in
      let l = h.0 in
      let next : i ≡ (i - 1) + 1 = omega arith in
      let rest : items ≡ sum_of g.curve.prime (drop ((i - 1) + 1) block) (drop ((i - 1) + 1) g.basis) = b.is ∙ ap (λ n. sum_of g.curve.prime (drop n block) (drop n g.basis)) next in
      let same : drop (i - 1) g.basis ≡ m ∷ drop ((i - 1) + 1) g.basis = drop_more g.basis (i - 1) m (omega arith) ∙ ap (λ z. z ∷ drop ((i - 1) + 1) g.basis) (sym e) in
      record {
        within = omega arith;
        is = ap (λ z. z ++ (record { coeff = get_or block (i - 1) 0; mono = m } ∷ [])) rest
            ∙ sym (sum_more g.curve.prime g.curve.variables (get_or block (i - 1) 0) (drop ((i - 1) + 1) block) m (drop ((i - 1) + 1) g.basis) (subst IsRising same (rising_drop (i - 1))) nz
            (h.1 (i - 1) 0 (omega arith)) (sums_poly (drop ((i - 1) + 1) block) ((i - 1) + 1)))
            ∙ sym (whole block (i - 1) m l (omega arith) e);
        monos = each_more IsMono items (record { coeff = get_or block (i - 1) 0; mono = m }) b.monos (subst IsMono (sym (e ∙ get_or_default g.basis (i - 1) m unit (omega arith))) (corner_mono (i - 1) (omega arith)));
      }

  -- a corner with the entry 0
  pub term_passed : (block : List ℕ) (i : ℕ) (items : List Term) → IsRow g.curve.prime (length g.basis) block → 0 < i → BlockTerms g block i items → get_or block (i - 1) 0 ≡ 0 → BlockTerms g block (i - 1) items
  term_passed block i items h p b z =
      let w = b.within in
      let l = h.0 in
      let c = finite g s in
      let m = corner g (i - 1) in
      let next : i ≡ (i - 1) + 1 = omega arith in
      let rest = sum_of g.curve.prime (drop ((i - 1) + 1) block) (drop ((i - 1) + 1) g.basis) in
      let hr = sums_poly (drop ((i - 1) + 1) block) ((i - 1) + 1) in
      let e : m ≡ get_or g.basis (i - 1) m = sym (get_or_default g.basis (i - 1) m unit (omega arith)) in
      record {
        within = omega arith;
        is = b.is ∙ ap (λ n. sum_of g.curve.prime (drop n block) (drop n g.basis)) next
            ∙ sym (ap (λ q. add g.curve.prime q rest) (ap (λ q. multiple g.curve.prime q (polynomial_of m)) z ∙ multiple_none (data_of g.curve) c (polynomial_of m) (corner_poly g s (i - 1) (omega arith)))
            ∙ none_before (Ring (data_of g.curve) c.curve) (member (data_of g.curve) c.curve rest hr))
            ∙ sym (whole block (i - 1) m l (omega arith) e);
        monos = b.monos;
      }

  pub terms_end : (block : List ℕ) (items : List Term) → BlockTerms g block 0 items → items ≡ number_combination g.curve.prime block (map polynomial_of g.basis)
  terms_end block items b = b.is

  pub terms_vector : (block : List ℕ) (i : ℕ) (items : List Term) → BlockTerms g block i items → IsVector g.curve.prime items
  terms_vector block i items b = record { canonical = subst (IsCanonical g.curve.prime) (sym b.is) (sums_poly (drop i block) i).canonical; monos = b.monos }

  -- ---- Horner's rule

  pub blocks_begin : (row : List ℕ) (f : Polynomial) → IsDigitRow g row → f.prime ≡ g.curve.prime → f.terms ≡ [] → BlocksValued g row (length row) f
  blocks_begin row f h ep et = record {
    before = g.depth;
    place = h.0 ∙ mul_comm (length g.basis) g.depth;
    within = omega arith;
    prime = ep;
    is = et ∙ sym (ap (λ z. number_combination g.curve.prime z (places (data_of g.curve) g.basis (g.depth - g.depth))) (drop_all (length row) row (omega arith)));
  }

  one_before : (from before : ℕ) → from ≡ before * length g.basis → 0 < from → (m : ℕ) × (before ≡ suc m) × (from ≡ m * length g.basis + length g.basis)
  one_before from zero e l = absurd (let w : from ≡ 0 = e ∙ (let v : 0 * length g.basis ≡ 0 = omega arith in v) in omega arith)
  one_before from (suc m) e l = (m, refl, e ∙ (let v : suc m * length g.basis ≡ m * length g.basis + length g.basis = omega arith in v))

  -- one block before is within the row
  pub block_before : (row : List ℕ) (from : ℕ) (f : Polynomial) → BlocksValued g row from f → 0 < from → length g.basis ≤ from
  block_before row from f b l = let o = one_before from b.before b.place l in let w = o.2 in omega arith

  from_within : (row : List ℕ) (from : ℕ) (f : Polynomial) → IsDigitRow g row → BlocksValued g row from f → from ≤ length row
  from_within row from f h b =
      let m : b.before * length g.basis ≤ g.depth * length g.basis = mul-le-mul_right {m = b.before} {n = g.depth} (length g.basis) b.within in
      let p = b.place in
      let e : length row ≡ g.depth * length g.basis = h.0 ∙ mul_comm (length g.basis) g.depth in
      omega arith

  -- the block before has an entry for each corner
  pub block_row : (row : List ℕ) (from to : ℕ) (f : Polynomial) → IsDigitRow g row → BlocksValued g row from f → 0 < from → to ≡ from - length g.basis
      → IsRow g.curve.prime (length g.basis) (take (length g.basis) (drop to row))
  block_row row from to f h b l e =
      let w = from_within row from f h b in
      let n = block_before row from f b l in (
        length-take-le (length g.basis) (drop to row) (let v = length-drop to row in omega arith),
        All-take (λ x. x < g.curve.prime) (length g.basis) (drop to row) (All-drop (λ x. x < g.curve.prime) to row h.1),
      )

  -- one block more, in front
  pub one_block_more : (row : List ℕ) (from to : ℕ) (f more : Polynomial) → IsDigitRow g row → BlocksValued g row from f → 0 < from → to ≡ from - length g.basis → more.prime ≡ g.curve.prime
      → more.terms ≡ add g.curve.prime (sum_of g.curve.prime (take (length g.basis) (drop to row)) g.basis) (mul g.curve.prime g.curve.denominator.terms f.terms) → BlocksValued g row to more
  one_block_more row from to f more h b l e ep et = go (one_before from b.before b.place l)
    where
      a : List ℕ
      a = take (length g.basis) (drop to row)

      go : (m : ℕ) × (b.before ≡ suc m) × (from ≡ m * length g.basis + length g.basis) → BlocksValued g row to more
      go (m, em, ef) = record {
        before = m;
        place = omega arith;
        within = (let w = b.within in omega arith);
        prime = ep;
        is =
            let D = g.depth - b.before in
            let after : drop (length g.basis) (drop to row) ≡ drop from row = drop-drop (length g.basis) to row ∙ ap (λ k. drop k row) (let v : to + length g.basis ≡ from = omega arith in v) in
            let whole : a ++ drop from row ≡ drop to row = ap (λ z. a ++ z) (sym after) ∙ take-append-drop (length g.basis) (drop to row) in
            let deeper : suc D ≡ g.depth - m = (let w = b.within in omega arith) in
            et ∙ ap (λ z. add g.curve.prime (sum_of g.curve.prime a g.basis) (mul g.curve.prime g.curve.denominator.terms z)) b.is
            ∙ sym (split (data_of g.curve) (finite g s) g.basis s.corners D a (drop from row) (block_row row from to f h b l e).0)
            ∙ ap₂ (value (data_of g.curve) g.basis) deeper whole;
      }

  pub blocks_poly : (row : List ℕ) (from : ℕ) (f : Polynomial) → BlocksValued g row from f → P f.terms
  blocks_poly row from f b = subst P (sym b.is) (value_poly (data_of g.curve) (finite g s) g.basis s.corners (g.depth - b.before) (drop from row))

  pub blocks_low : (row : List ℕ) (from : ℕ) (f : Polynomial) → BlocksValued g row from f → degree_of f.terms ≤ 255 + 119 * g.depth
  blocks_low row from f b =
      let w = value_low g s (g.depth - b.before) (drop from row) in
      let e : degree_of f.terms ≡ degree_of (value (data_of g.curve) g.basis (g.depth - b.before) (drop from row)) = ap degree_of b.is in
      omega arith

  pub blocks_end : (row : List ℕ) (from : ℕ) (f : Polynomial) → IsDigitRow g row → BlocksValued g row from f → from ≡ 0 → IsDigitsOf g f.terms row
  blocks_end row from f h b z = go b.before b.place b.is
    where
      go : (m : ℕ) → from ≡ m * length g.basis → f.terms ≡ value (data_of g.curve) g.basis (g.depth - m) (drop from row) → IsDigitsOf g f.terms row
      go zero e is = subst (λ t. IsDigitsOf g t row) (sym (is ∙ ap₂ (value (data_of g.curve) g.basis) (let w : g.depth - 0 ≡ g.depth = omega arith in w) (ap (λ k. drop k row) z))) ((laws g s).row row h).1
      go (suc m) e is =
          let none : length g.basis ≡ 0 = (let v : suc m * length g.basis ≡ m * length g.basis + length g.basis = omega arith in omega arith) in
          let flat : width g ≡ 0 = ap (λ k. k * g.depth) none ∙ (let v : 0 * g.depth ≡ 0 = omega arith in v) in
          no_width g s f.terms row (blocks_poly row from f b) flat (h.0 ∙ flat)
