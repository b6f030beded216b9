-- Spaces of rows that begin with zeros.
use Rattle.std.proofs.Common.{◌≡◌, ℕ, zero, suc, ◌+◌, ◌-◌, ◌*◌, ◌%◌, ◌<◌, ◌≤◌, List, [], ◌∷◌, map, length, get_or, drop, replicate, All, refl, sym, ap, ap₂, ◌∙◌, subst, arith, ⊎_elim}
use Rattle.std.proofs.lemmas.Bool.{cases_lt}
use Rattle.std.proofs.lemmas.List.{length-append, length-replicate, length-map, length-drop, get_or-replicate, get_or-append_right, get_or_append_left, get_or-drop, get_or_default}
use Rattle.std.proofs.lemmas.List.Elements.{All-head, All-tail, All-append, All-map}
use Rattle.std.proofs.Math.Nat.{mod-eq_of_lt, zero-mod, mod-mod}
use Rattle.comm_ring.specs.Modules.{InSpan, Independent}
use Rattle.comm_ring.specs.Residues.{residue_ops}
use Rattle.comm_ring.specs.Rows.{rows}
use Rattle.comm_ring.proofs.Rows.{row-entry}
use Rattle.row_space.specs.Sums.{weighted, IsWeighted}
use Rattle.row_space.specs.Echelon.{IsRow, IsEchelon}
use Rattle.row_space.specs.Subspace.{Subspace, FitsIn, IsIn, IsReduced, Joins}
use Rattle.row_space.proofs.Weights.{member_in, weighted-one, through}
use Rattle.row_space.proofs.Members.{combination-entry, weighted_of, span_of}
use Rattle.over_module.specs.Raising.{behind_zeros, BeginsWithZeros, IsSpannedBy, IsRaised}

-- ---- entries behind zeros

pub in_zeros : (z k : ℕ) (row : List ℕ) → k < z → get_or (behind_zeros z row) k 0 ≡ 0
in_zeros z k row h =
    let l : length {A = ℕ} (replicate z 0) ≡ z = length-replicate z 0 in
    get_or_append_left (replicate z 0) row 0 k (let q : k < length {A = ℕ} (replicate z 0) = omega arith in q) ∙ get_or-replicate z k 0 0 h

pub behind : (z k : ℕ) (row : List ℕ) → z ≤ k → get_or (behind_zeros z row) k 0 ≡ get_or row (k - z) 0
behind z k row h = get_or-append_right (replicate z 0) row z k 0 (length-replicate z 0) h

zero_sum : (z k : ℕ) (cs : List ℕ) (us : List (List ℕ)) → k < z → weighted cs (map (behind_zeros z) us) k ≡ 0
zero_sum z k [] us h = refl
zero_sum z k (c ∷ cs) [] h = refl
zero_sum z k (c ∷ cs) (u ∷ us) h = rw (in_zeros z k u h, zero_sum z k cs us h) (let q : c * 0 + 0 ≡ 0 = omega arith in q)

sum_behind : (z k : ℕ) (cs : List ℕ) (us : List (List ℕ)) → z ≤ k → weighted cs (map (behind_zeros z) us) k ≡ weighted cs us (k - z)
sum_behind z k [] us h = refl
sum_behind z k (c ∷ cs) [] h = refl
sum_behind z k (c ∷ cs) (u ∷ us) h = ap₂ ◌+◌ (ap (λ x. c * x) (behind z k u h)) (sum_behind z k cs us h)

module _ (p z w : ℕ) (vs : List (List ℕ)) where
  pub raised_sum : (row : List ℕ) → IsWeighted p w vs (λ k. get_or row k 0) → IsWeighted p (z + w) (map (behind_zeros z) vs) (λ k. get_or (behind_zeros z row) k 0)
  raised_sum row h = (
    h.0,
    h.1 ∙ sym (length-map vs (behind_zeros z)),
    λ k l. ⊎_elim
        (λ (a : k < z). ap (λ x. x % p) (in_zeros z k row a ∙ sym (zero_sum z k h.0 vs a)))
        (λ (a : z ≤ k). ap (λ x. x % p) (behind z k row a) ∙ h.2 (k - z) (omega arith) ∙ ap (λ x. x % p) (sym (sum_behind z k h.0 vs a)))
        (cases_lt k z),
  )

  -- a sum of such rows is 0 before the zeros end
  lowered_sum : (row : List ℕ) → IsWeighted p (z + w) (map (behind_zeros z) vs) (λ k. get_or row k 0) → IsWeighted p w vs (λ k. get_or (drop z row) k 0)
  lowered_sum row h = (
    h.0,
    h.1 ∙ length-map vs (behind_zeros z),
    λ k l.
        let at : z + k - z ≡ k = omega arith in
        ap (λ x. x % p) (get_or-drop z row k 0) ∙ h.2 (z + k) (omega arith) ∙ ap (λ x. x % p) (sum_behind z (z + k) h.0 vs (omega arith) ∙ ap (weighted h.0 vs) at),
  )

  is_zero : (row : List ℕ) → IsRow p (z + w) row → IsWeighted p (z + w) (map (behind_zeros z) vs) (λ k. get_or row k 0) → (k : ℕ) → k < z → get_or row k 0 ≡ 0
  is_zero row f h k l =
      let i : k < length row = let e : length row ≡ z + w = f.0 in omega arith in
      let small : get_or row k 0 < p = f.1 k 0 i in
      sym (mod-eq_of_lt small) ∙ h.2 k (omega arith) ∙ ap (λ x. x % p) (zero_sum z k h.0 vs l) ∙ zero-mod p

-- ---- rows that begin with zeros

pub begins : (z : ℕ) (row : List ℕ) → z ≤ length row → ((k : ℕ) → k < z → get_or row k 0 ≡ 0) → BeginsWithZeros z row
begins zero row h e = refl
begins (suc z) [] h e = absurd (omega arith)
begins (suc z) (x ∷ row) h e = ap₂ ◌∷◌ (e 0 (omega arith)) (begins z row (let q : suc z ≤ length (x ∷ row) = h in omega arith) (λ k l. e (suc k) (omega arith)))

pub begun : (z k : ℕ) (row : List ℕ) → BeginsWithZeros z row → k < z → get_or row k 0 ≡ 0
begun z k row b h = ap (λ r. get_or r k 0) b ∙ in_zeros z k (drop z row) h

zeros_small : (p z : ℕ) → 0 < p → All (λ e. e < p) (replicate z 0)
zeros_small p z h i d l = let n : length {A = ℕ} (replicate z 0) ≡ z = length-replicate z 0 in
    subst (λ x. x < p) (sym (get_or-replicate z i 0 d (omega arith))) h

pub longer : (p z w wide : ℕ) (row : List ℕ) → 0 < p → wide ≡ z + w → IsRow p w row → IsRow p wide (behind_zeros z row)
longer p z w wide row h e f = (
  (let a : length {A = ℕ} (behind_zeros z row) ≡ length {A = ℕ} (replicate z 0) + length row = length-append (replicate z 0) row in
      let b : length {A = ℕ} (replicate z 0) ≡ z = length-replicate z 0 in
      let l : length row ≡ w = f.0 in omega arith),
  All-append (λ x. x < p) (replicate z 0) row (zeros_small p z h) f.1,
)

pub all_longer : (p z w wide : ℕ) (us : List (List ℕ)) → 0 < p → wide ≡ z + w → All (IsRow p w) us → All (IsRow p wide) (map (behind_zeros z) us)
all_longer p z w wide us h e f = All-map (IsRow p wide) (behind_zeros z) us (λ i d l. longer p z w wide (get_or us i d) h e (f i d l))

pub shorter : (p z w wide : ℕ) (row : List ℕ) → wide ≡ z + w → IsRow p wide row → IsRow p w (drop z row)
shorter p z w wide row e f = (
  (let l : length row ≡ wide = f.0 in length-drop z row ∙ (let q : length row - z ≡ w = omega arith in q)),
  λ i d l. subst (λ x. x < p) (sym (get_or-drop z row i d))
      (f.1 (z + i) d (let n : length (drop z row) ≡ length row - z = length-drop z row in omega arith)),
)

-- ---- spaces that rows span

pub spanned_basis : (s : Subspace) → IsReduced s → IsSpannedBy s.prime s.width s.basis s
spanned_basis s r = record { prime = refl; width = refl; members = λ row. ((λ h. h), λ h. h); reduced = r }

-- a basis row is in its space
pub own_row : (s : Subspace) → All (IsIn s) s.basis
own_row s i d l = subst (IsIn s) (get_or_default s.basis i [] d l) (span_of s.prime s.width s.basis (get_or s.basis i []) (member_in s.prime s.width s.basis i l))

pub fits_of : (s : Subspace) → IsReduced s → All (FitsIn s) s.basis
fits_of s r = r.1.rows

-- the rows of a reduced basis are independent
pub independent_of : (s : Subspace) → IsReduced s → Independent (residue_ops s.prime) (rows s.prime s.width) s.basis
independent_of s r cs long none j d h =
    let e : IsEchelon s.prime s.width s.basis r.0 = r.1 in
    let p = s.prime in
    let inside : j < length s.basis = omega arith in
    let at = get_or r.0 j 0 in
    let within : at < s.width = e.within j inside in
    let one = weighted-one cs s.basis at j long inside (e.own j inside) (λ i l ne. e.others i j l inside ne) in
    ap (λ x. x % s.prime) (get_or_default cs j d 0 h ∙ sym one)
    ∙ sym (ap (λ x. x % s.prime) (combination-entry s.prime s.width cs s.basis at within) ∙ mod-mod (weighted cs s.basis at) s.prime)
    ∙ none at within ∙ ap (λ x. x % s.prime) (row-entry s.width (λ _. 0) at within)

-- a space that rows were added to, which was 0
pub joined_space : (p w : ℕ) (vs : List (List ℕ)) (old new : Subspace) → (old ≡ record { prime = p; width = w; basis = [] }) → Joins old vs new → IsReduced new → IsSpannedBy p w vs new
joined_space p w vs old new e j r = there (subst (λ s. Joins s vs new) e j)
  where
    there : Joins (record { prime = p; width = w; basis = [] }) vs new → IsSpannedBy p w vs new
    there i = record {
      prime = i.prime;
      width = i.width;
      members = λ row. (
        (λ h. span_of p w vs row (through p w vs new.basis (λ k. get_or row k 0) i.covered (weighted_of p w new.basis row (subst (λ x. InSpan (rows p x) new.basis row) i.width (subst (λ x. InSpan (rows x new.width) new.basis row) i.prime h))))),
        λ h. subst (λ x. InSpan (rows x new.width) new.basis row) (sym i.prime) (subst (λ x. InSpan (rows p x) new.basis row) (sym i.width) (span_of p w new.basis row (through p w new.basis vs (λ k. get_or row k 0) i.covers (weighted_of p w vs row h)))),
      );
      reduced = r;
    }

-- the rows, and the rows behind zeros
pub raised_space : (p z w wide : ℕ) (vs : List (List ℕ)) (low high : Subspace) → wide ≡ z + w → IsSpannedBy p w vs low → IsSpannedBy p wide (map (behind_zeros z) vs) high → IsRaised z low high
raised_space p z w wide vs low high e l h = there (subst (λ n. IsSpannedBy p n (map (behind_zeros z) vs) high) e h)
  where
    there : IsSpannedBy p (z + w) (map (behind_zeros z) vs) high → IsRaised z low high
    there t = record {
      prime = t.prime ∙ sym l.prime;
      width = t.width ∙ ap (λ n. z + n) (sym l.width);
      up = λ row f i. (t.members (behind_zeros z row)).1
          (span_of p (z + w) (map (behind_zeros z) vs) (behind_zeros z row) (raised_sum p z w vs row (weighted_of p w vs row ((l.members row).0 i))));
      down = λ row f i.
          let s = weighted_of p (z + w) (map (behind_zeros z) vs) row ((t.members row).0 i) in
          let g : IsRow p (z + w) row = subst (λ n. IsRow p n row) t.width (subst (λ q. IsRow q high.width row) t.prime f) in
          let b = begins z row (let q : length row ≡ z + w = g.0 in omega arith) (is_zero p z w vs row g s) in
          (drop z row, b, (l.members (drop z row)).1 (span_of p w vs (drop z row) (lowered_sum p z w vs row s)));
    }

-- rows that begin with zeros are their rests behind these
pub zeros_back : (z : ℕ) (us : List (List ℕ)) → All (BeginsWithZeros z) us → us ≡ map (behind_zeros z) (map (drop z) us)
zeros_back z [] h = refl
zeros_back z (u ∷ us) h = ap₂ ◌∷◌ (All-head (BeginsWithZeros z) u us h) (zeros_back z us (All-tail (BeginsWithZeros z) u us h))
