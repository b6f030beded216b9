-- The space that reduced rows span.
use Rattle.std.proofs.Common.{◌≡◌, ℕ, suc, ◌+◌, ◌-◌, ◌*◌, ◌%◌, ◌<◌, ◌≤◌, List, [], ◌∷◌, ◌++◌, length, get_or, All, refl, sym, ap, subst, ◌∙◌, arith, ⊎_elim}
use Rattle.std.proofs.lemmas.Bool.{cases_lt}
use Rattle.std.proofs.lemmas.List.{length-map, get_or-map, get_or_default}
use Rattle.std.proofs.lemmas.List.Elements.{All-from_get_or}
use Rattle.std.proofs.lemmas.Grind.{same_number_lists}
use Rattle.std.proofs.Math.Nat.{mod-mod, mod-add-mod, add-mod-mod, add-mod_right, mod-eq_of_lt}
use Rattle.comm_ring.specs.Modules.{InSpan, Independent, IsBasis}
use Rattle.comm_ring.specs.Residues.{residue_ops}
use Rattle.comm_ring.specs.Rows.{rows}
use Rattle.lane_rows.specs.Rows.{AreResidues, IsFirstNonzero}
use Rattle.row_space.specs.Sums.{weighted, IsWeighted, Covers}
use Rattle.row_space.specs.Echelon.{IsEchelon, IsRest, IsRow, entries_at}
use Rattle.row_space.specs.Subspace.{Subspace, IsSumOfBasis, Gains, Joins, DifferIn, IsZeroAtPivots}
use Rattle.row_space.proofs.Weights.{weighted-same, cancel-mod, multiple-mod, through, covers_trans, covers_cons, covers_tail, covers_self, member_in, more_in, same_in}
use Rattle.row_space.proofs.Gathering.{covers_append, covers_left, covers_right, covers_one}
use Rattle.row_space.proofs.Members.{combination-entry, weighted_of, span_of}
use Rattle.row_space.proofs.Rest.{coefficient, entries_long, rest_of_member, member_of_rest}
use Rattle.comm_ring.proofs.Rows.{row-entry}

-- the space with these rows
abbrev pub space : (p width : ℕ) → List (List ℕ) → Subspace
space p width us = record { prime = p; width = width; basis = us }

pub rest_same : (p width width' : ℕ) (us us' : List (List ℕ)) (pivots pivots' row row' rest rest' : List ℕ) → width ≡ width' → us ≡ us' → pivots ≡ pivots' → row ≡ row' → rest ≡ rest'
    → IsRest p width us pivots row rest → IsRest p width' us' pivots' row' rest'
rest_same p width width' us us' pivots pivots' row row' rest rest' ew eu eq ex er h =
    subst (λ w. IsRest p w us' pivots' row' rest') ew
    (subst (λ u. IsRest p width u pivots' row' rest') eu
    (subst (λ q. IsRest p width us q row' rest') eq
    (subst (λ x. IsRest p width us pivots x rest') ex
    (subst (λ r. IsRest p width us pivots row r) er h))))

-- x is r + w, so x - r is w
take_away : (p x r w : ℕ) → r < p → (r + w) % p ≡ x → (x + (p - r % p) % p) % p ≡ w % p
take_away p x r w small e =
    let same : r % p ≡ r = mod-eq_of_lt small in
    add-mod-mod x (p - r % p) p
    ∙ ap (λ n. (x + (p - n)) % p) same
    ∙ ap (λ n. (n + (p - r)) % p) (sym e)
    ∙ mod-add-mod (r + w) p (p - r)
    ∙ ap (λ n. n % p) (let e : r + w + (p - r) ≡ w + p = omega arith in e)
    ∙ add-mod_right w p

put_back : (p x r w : ℕ) → r < p → (x + (p - r % p) % p) % p ≡ w % p → (r + w) % p ≡ x % p
put_back p x r w small e =
    let same : r % p ≡ r = mod-eq_of_lt small in
    sym (add-mod-mod r w p)
    ∙ ap (λ n. (r + n) % p) (sym e)
    ∙ add-mod-mod r (x + (p - r % p) % p) p
    ∙ ap (λ n. n % p) (let e : r + (x + (p - r % p) % p) ≡ r + x + (p - r % p) % p = omega arith in e)
    ∙ add-mod-mod (r + x) (p - r % p) p
    ∙ ap (λ n. (r + x + (p - n)) % p) same
    ∙ ap (λ n. n % p) (let e : r + x + (p - r) ≡ x + p = omega arith in e)
    ∙ add-mod_right x p

-- w and p - 1 times w are p times w
once_more : {p : ℕ} (r w : ℕ) → 0 < p → r + w + (p - 1) * w ≡ r + p * w
once_more {p} r w pos =
    let m : ℕ = p - 1 in
    let whole : p ≡ m + 1 = omega arith in
    let split : p * w ≡ (p - 1) * w + w = ap (λ n. n * w) whole ∙ omega arith in
    omega arith

differ : (p d x w : ℕ) → 0 < p → d < p → (d + (x + w)) % p ≡ (x + w) % p → d ≡ 0
differ p d x w pos small h = cancel-mod p d (x + w) pos small h

-- residues are equal where they are equal modulo p beside equal sums
equal : (p x y v w : ℕ) → 0 < p → x < p → y < p → (x + v) % p ≡ (y + w) % p → v % p ≡ w % p → x ≡ y
equal p x y v w pos hx hy e h = ⊎_elim
    (λ (a : x < y). absurd (let z = differ p (y - x) x w pos (omega arith) (ap (λ n. n % p) (omega arith) ∙ sym e ∙ move) in omega arith))
    (λ (a : y ≤ x). let z = differ p (x - y) y w pos (omega arith) (ap (λ n. n % p) (omega arith) ∙ sym move ∙ e) in omega arith)
    (cases_lt x y)
  where
    move : (x + v) % p ≡ (x + w) % p
    move = sym (add-mod-mod x v p) ∙ ap (λ n. (x + n) % p) h ∙ add-mod-mod x w p

module _ (p width : ℕ) (us : List (List ℕ)) (pivots : List ℕ) (pos : 0 < p) (e : IsEchelon p width us pivots) where
  -- the pivot of a basis row is its first entry that is not 0
  pivot_first : (j : ℕ) → j < length us → 2 ≤ p → IsFirstNonzero (get_or us j []) (get_or pivots j 0)
  pivot_first j h two = record {
    within = omega (arith, (e.rows j [] h).0, e.within j h);
    nonzero = λ z. absurd (omega (arith, e.own j h));
    before = λ k l. e.before j k h l;
  }

  pub first_is_pivot : (j q : ℕ) → j < length us → IsFirstNonzero (get_or us j []) q → q ≡ get_or pivots j 0
  first_is_pivot j q h f = ⊎_elim
      (λ (a : q < get_or pivots j 0). absurd (f.nonzero (e.before j q h a)))
      (λ (a : get_or pivots j 0 ≤ q). ⊎_elim
      (λ (b : get_or pivots j 0 < q). absurd (let z : get_or (get_or us j []) (get_or pivots j 0) 0 ≡ 0 = f.before (get_or pivots j 0) b in omega (arith, e.own j h)))
      (λ (b : q ≤ get_or pivots j 0). omega arith)
      (cases_lt (get_or pivots j 0) q))
      (cases_lt q (get_or pivots j 0))

  pub zero_at_pivots : (row : List ℕ) → ((j : ℕ) → j < length us → get_or row (get_or pivots j 0) 0 ≡ 0) → IsZeroAtPivots (space p width us) row
  zero_at_pivots row h = λ i q l f. ap (λ k. get_or row k 0) (first_is_pivot i q l f) ∙ h i l

  module _ (row rest : List ℕ) (fits : IsRow p width rest) (r : IsRest p width us pivots row rest) where
    pub in_of_zero : ((k : ℕ) → k < width → get_or rest k 0 ≡ 0) → InSpan (rows p width) us row
    in_of_zero none = span_of p width us row (entries_at pivots row, entries_long p width us pivots row e, member_of_rest p width us pivots row rest r none)

    pub zero_of_in : InSpan (rows p width) us row → (k : ℕ) → k < width → get_or rest k 0 ≡ 0
    zero_of_in h = rest_of_member p width us pivots row rest pos e fits r (weighted_of p width us row h)

    pub sum_of_basis : IsRow p width row → ((k : ℕ) → k < width → get_or rest k 0 ≡ 0) → IsSumOfBasis (space p width us) (entries_at pivots row) row
    sum_of_basis small none = record {
      fit = (entries_long p width us pivots row e, residues);
      sum = λ k h. member_of_rest p width us pivots row rest r none k h ∙ sym (ap (λ n. n % p) (combination-entry p width (entries_at pivots row) us k h) ∙ mod-mod (weighted (entries_at pivots row) us k) p);
    }
      where
        residues : AreResidues p (entries_at pivots row)
        residues = All-from_get_or (λ x. x < p) (entries_at pivots row) 0
            (λ j h.
            let inside : j < length pivots = omega (arith, length-map pivots (λ q. get_or row q 0)) in
            let is : get_or (entries_at pivots row) j 0 ≡ get_or row (get_or pivots j 0) 0 = get_or-map (λ q. get_or row q 0) pivots j 0 0 inside in
            omega (arith, small.1 (get_or pivots j 0) 0 (omega (arith, small.0, e.within j (omega (arith, e.count))))))

    -- the row and what is left of it span the same with the basis
    row_from_rest : IsWeighted p width (rest ∷ us) (λ k. get_or row k 0)
    row_from_rest = (
      1 ∷ entries_at pivots row,
      ap suc (entries_long p width us pivots row e),
      λ k h. ap (λ n. n % p) (sym (r.sum k h)) ∙ mod-mod (get_or rest k 0 + weighted (entries_at pivots row) us k) p ∙ ap (λ n. n % p) (omega arith),
    )

    rest_from_row : IsWeighted p width (row ∷ us) (λ k. get_or rest k 0)
    rest_from_row =
        same_in p width (row ∷ us) (λ k. get_or rest k 0) (λ k. get_or row k 0 + (p - 1) * weighted (entries_at pivots row) us k) back
        (more_in p width (row ∷ us) (λ k. get_or row k 0) (weighted (entries_at pivots row) us) (p - 1) (member_in p width (row ∷ us) 0 (omega arith))
        (through p width (row ∷ us) us (weighted (entries_at pivots row) us) (covers_tail p width row us) (entries_at pivots row, entries_long p width us pivots row e, λ k h. refl)))
      where
        back : (k : ℕ) → k < width → get_or rest k 0 % p ≡ (get_or row k 0 + (p - 1) * weighted (entries_at pivots row) us k) % p
        back k h =
            let w : ℕ = weighted (entries_at pivots row) us k in
            sym (
            ap (λ n. (n + (p - 1) * weighted (entries_at pivots row) us k) % p) (sym (r.sum k h))
            ∙ mod-add-mod (get_or rest k 0 + weighted (entries_at pivots row) us k) p ((p - 1) * weighted (entries_at pivots row) us k)
            ∙ ap (λ n. n % p) (once_more (get_or rest k 0) (weighted (entries_at pivots row) us k) pos)
            ∙ multiple-mod p (get_or rest k 0) (weighted (entries_at pivots row) us k)
            )

    pub gains : (vs : List (List ℕ)) → length vs ≡ length us + 1 → Covers p width vs (rest ∷ us) → Covers p width (rest ∷ us) vs → Gains (space p width us) row (space p width vs)
    gains vs long covers covered = record {
      prime = refl;
      width = refl;
      more = long;
      members = λ f. (
        λ h. span_of p width (row ∷ us) f (through p width (row ∷ us) (rest ∷ us) (λ k. get_or f k 0) (covers_cons p width (row ∷ us) rest us rest_from_row (covers_tail p width row us))
            (through p width (rest ∷ us) vs (λ k. get_or f k 0) covered (weighted_of p width vs f h))),
        λ h. span_of p width vs f (through p width vs (rest ∷ us) (λ k. get_or f k 0) covers
            (through p width (rest ∷ us) (row ∷ us) (λ k. get_or f k 0) (covers_cons p width (rest ∷ us) row us row_from_rest (covers_tail p width rest us)) (weighted_of p width (row ∷ us) f h))),
      );
    }

    pub joins_none : ((k : ℕ) → k < width → get_or rest k 0 ≡ 0) → Joins (space p width us) (row ∷ []) (space p width us)
    joins_none none = record {
      prime = refl;
      width = refl;
      covers = covers_append p width us us (row ∷ []) (covers_self p width us) (covers_one p width us row (weighted_of p width us row (in_of_zero none)));
      covered = covers_left p width us (row ∷ []);
    }

    pub joins_some : (vs : List (List ℕ)) → Covers p width vs (rest ∷ us) → Covers p width (rest ∷ us) vs → Joins (space p width us) (row ∷ []) (space p width vs)
    joins_some vs covers covered = record {
      prime = refl;
      width = refl;
      covers = covers_append p width vs us (row ∷ []) (covers_trans p width vs (rest ∷ us) us covers (covers_tail p width rest us))
          (covers_one p width vs row (through p width vs (rest ∷ us) (λ k. get_or row k 0) covers row_from_rest));
      covered = covers_trans p width (us ++ row ∷ []) (rest ∷ us) vs
          (covers_cons p width (us ++ row ∷ []) rest us
          (through p width (us ++ row ∷ []) (row ∷ us) (λ k. get_or rest k 0) (covers_cons p width (us ++ row ∷ []) row us (covers_right p width us (row ∷ []) 0 (omega arith)) (covers_left p width us (row ∷ []))) rest_from_row)
          (covers_left p width us (row ∷ [])))
          covered;
    }

    pub same_class : DifferIn (space p width us) row rest
    same_class = (
      entries_at pivots row,
      entries_long p width us pivots row e,
      λ k h.
          ap (λ n. n % p) (row-entry width _ k h ∙ ap (λ n. (get_or row k 0 + n) % p) (row-entry width _ k h))
          ∙ mod-mod (get_or row k 0 + (p - get_or rest k 0 % p) % p) p
          ∙ take_away p (get_or row k 0) (get_or rest k 0) (weighted (entries_at pivots row) us k) (fits.1 k 0 (omega (arith, fits.0))) (r.sum k h)
          ∙ sym (ap (λ n. n % p) (combination-entry p width (entries_at pivots row) us k h) ∙ mod-mod (weighted (entries_at pivots row) us k) p),
    )

    pub only : 2 ≤ p → (other : List ℕ) → IsRow p width other → DifferIn (space p width us) row other → IsZeroAtPivots (space p width us) other → other ≡ rest
    only two other small d zeros = same_number_lists other rest (small.0 ∙ sym fits.0) (λ k h. same k (omega (arith, small.0)))
      where
        other_sum : (k : ℕ) → k < width → (get_or other k 0 + weighted d.0 us k) % p ≡ get_or row k 0 % p
        other_sum k h = put_back p (get_or row k 0) (get_or other k 0) (weighted d.0 us k) (small.1 k 0 (omega (arith, small.0)))
            (sym (ap (λ n. n % p) (row-entry width _ k h ∙ ap (λ n. (get_or row k 0 + n) % p) (row-entry width _ k h)) ∙ mod-mod (get_or row k 0 + (p - get_or other k 0 % p) % p) p)
            ∙ d.2 k h ∙ ap (λ n. n % p) (combination-entry p width d.0 us k h) ∙ mod-mod (weighted d.0 us k) p)

        at_pivot : (j : ℕ) → j < length us → get_or d.0 j 0 % p ≡ get_or (entries_at pivots row) j 0 % p
        at_pivot j h =
            let q : ℕ = get_or pivots j 0 in
            let none : get_or other (get_or pivots j 0) 0 ≡ 0 = zeros j (get_or pivots j 0) h (pivot_first j h two) in
            let inside : j < length pivots = omega (arith, e.count) in
            ap (λ n. n % p) (sym (coefficient p width us pivots d.0 e d.1 j h))
            ∙ ap (λ n. n % p) (let z : weighted d.0 us (get_or pivots j 0) ≡ 0 + weighted d.0 us (get_or pivots j 0) = omega arith in z)
            ∙ ap (λ n. (n + weighted d.0 us (get_or pivots j 0)) % p) (sym none)
            ∙ other_sum (get_or pivots j 0) (e.within j h)
            ∙ ap (λ n. n % p) (sym (get_or-map (λ q. get_or row q 0) pivots j 0 0 inside))

        same_weights : (k : ℕ) → weighted d.0 us k % p ≡ weighted (entries_at pivots row) us k % p
        same_weights k = weighted-same p d.0 (entries_at pivots row) us k d.1 (entries_long p width us pivots row e) at_pivot

        same : (k : ℕ) → k < width → get_or other k 0 ≡ get_or rest k 0
        same k h =
            equal p (get_or other k 0) (get_or rest k 0) (weighted d.0 us k) (weighted (entries_at pivots row) us k) pos (small.1 k 0 (omega (arith, small.0))) (fits.1 k 0 (omega (arith, fits.0)))
            (other_sum k h ∙ sym (ap (λ n. n % p) (r.sum k h)) ∙ mod-mod (get_or rest k 0 + weighted (entries_at pivots row) us k) p) (same_weights k)

  -- the basis is one in the sense of modules
  pub basis_is_basis : IsBasis (residue_ops p) (rows p width) (InSpan (rows p width) us) us
  basis_is_basis = (members, (λ f h. h), independent)
    where
      members : All (InSpan (rows p width) us) us
      members k d h = subst (InSpan (rows p width) us) (get_or_default us k [] d h) (span_of p width us (get_or us k []) (member_in p width us k h))

      independent : Independent (residue_ops p) (rows p width) us
      independent cs long none j d h =
          let inside : j < length us = omega arith in
          let here = none (get_or pivots j 0) (e.within j inside) in
          ap (λ n. n % p) (get_or_default cs j d 0 h ∙ sym (coefficient p width us pivots cs e long j inside))
          ∙ sym (ap (λ n. n % p) (combination-entry p width cs us (get_or pivots j 0) (e.within j inside)) ∙ mod-mod (weighted cs us (get_or pivots j 0)) p)
          ∙ here ∙ ap (λ n. n % p) (row-entry width (λ _. 0) (get_or pivots j 0) (e.within j inside))
