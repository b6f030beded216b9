-- Rows that are gathered one after another.
use Rattle.std.proofs.Common.{◌≡◌, ℕ, zero, suc, ◌+◌, ◌-◌, ◌<◌, ◌≤◌, List, [], ◌∷◌, ◌++◌, length, get_or, take, map, All, refl, sym, ap, subst, ◌∙◌, arith, ⊎_elim, length-append}
use Rattle.std.proofs.lemmas.Bool.{cases_lt}
use Rattle.std.proofs.lemmas.List.{get_or_append_left, get_or-append_right, take_more}
use Rattle.std.proofs.lemmas.List.{get_or_default}
use Rattle.std.proofs.lemmas.List.Elements.{All-append, All-map}
use Rattle.std.proofs.Math.Seq.{take-length}
use Rattle.row_space.specs.Sums.{entry, IsWeighted, Covers, side_by_side}
use Rattle.row_space.specs.Echelon.{IsRow}
use Rattle.row_space.specs.Subspace.{Subspace, Joins}
use Rattle.row_space.proofs.Weights.{covers_trans, covers_self, member_in}

pub covers_append : (p width : ℕ) (us xs ys : List (List ℕ)) → Covers p width us xs → Covers p width us ys → Covers p width us (xs ++ ys)
covers_append p width us xs ys hx hy = λ i h. ⊎_elim
    (λ (a : i < length xs). subst (λ r. IsWeighted p width us (λ k. get_or r k 0)) (sym (get_or_append_left xs ys [] i a)) (hx i a))
    (λ (a : length xs ≤ i). subst (λ r. IsWeighted p width us (λ k. get_or r k 0)) (sym (get_or-append_right xs ys (length xs) i [] refl a)) (hy (i - length xs) (omega (arith, length-append xs ys))))
    (cases_lt i (length xs))

pub covers_one : (p width : ℕ) (us : List (List ℕ)) (row : List ℕ) → IsWeighted p width us (λ k. get_or row k 0) → Covers p width us (row ∷ [])
covers_one p width us row h = λ i l. at i l
  where
    at : (i : ℕ) → i < length (row ∷ []) → IsWeighted p width us (entry (row ∷ []) i)
    at zero l = h
    at (suc i) l = absurd (omega arith)

pub covers_left : (p width : ℕ) (xs ys : List (List ℕ)) → Covers p width (xs ++ ys) xs
covers_left p width xs ys = λ i h.
    subst (λ r. IsWeighted p width (xs ++ ys) (λ k. get_or r k 0)) (get_or_append_left xs ys [] i h) (member_in p width (xs ++ ys) i (omega (arith, length-append xs ys)))

pub covers_right : (p width : ℕ) (xs ys : List (List ℕ)) → Covers p width (xs ++ ys) ys
covers_right p width xs ys = λ i h.
    let place : length xs + i - length xs ≡ i = omega arith in
    let is : get_or (xs ++ ys) (length xs + i) [] ≡ get_or ys i [] = get_or-append_right xs ys (length xs) (length xs + i) [] refl (omega arith) ∙ ap (λ m. get_or ys m []) place in
    subst (λ r. IsWeighted p width (xs ++ ys) (λ k. get_or r k 0)) is (member_in p width (xs ++ ys) (length xs + i) (omega (arith, length-append xs ys)))

pub joins_nothing : (s : Subspace) (vs : List (List ℕ)) → vs ≡ [] → Joins s vs s
joins_nothing s vs e = subst (λ xs. Joins s xs s) (sym e) (record {
  prime = refl;
  width = refl;
  covers = covers_append s.prime s.width s.basis s.basis [] (covers_self s.prime s.width s.basis) (λ i h. absurd (omega arith));
  covered = covers_left s.prime s.width s.basis [];
})

pub joins_more : (s t u : Subspace) (vs : List (List ℕ)) (row : List ℕ) (i : ℕ) → i < length vs → row ≡ get_or vs i [] → Joins s (take i vs) t → Joins t (row ∷ []) u → Joins s (take (i + 1) vs) u
joins_more s t u vs row i inside is first next = subst (λ xs. Joins s xs u) (sym (take_more vs i [] inside ∙ ap (λ r. take i vs ++ r ∷ []) (sym is))) (record {
  prime = next.prime ∙ first.prime;
  width = next.width ∙ first.width;
  covers = covers_append s.prime s.width u.basis s.basis (take i vs ++ row ∷ []) u_s (covers_append s.prime s.width u.basis (take i vs) (row ∷ []) u_vs u_row);
  covered = covers_trans s.prime s.width (s.basis ++ (take i vs ++ row ∷ [])) (t.basis ++ row ∷ []) u.basis (covers_append s.prime s.width (s.basis ++ (take i vs ++ row ∷ [])) t.basis (row ∷ []) big_t big_row) (moved (t.basis ++ row ∷ []) u.basis next.covered);
})
  where
    moved : (xs ys : List (List ℕ)) → Covers t.prime t.width xs ys → Covers s.prime s.width xs ys
    moved xs ys h = subst (λ q. Covers q s.width xs ys) first.prime (subst (λ v. Covers t.prime v xs ys) first.width h)

    u_t : Covers s.prime s.width u.basis t.basis
    u_t = covers_trans s.prime s.width u.basis (t.basis ++ row ∷ []) t.basis (moved u.basis (t.basis ++ row ∷ []) next.covers) (covers_left s.prime s.width t.basis (row ∷ []))

    u_row : Covers s.prime s.width u.basis (row ∷ [])
    u_row = covers_trans s.prime s.width u.basis (t.basis ++ row ∷ []) (row ∷ []) (moved u.basis (t.basis ++ row ∷ []) next.covers) (covers_right s.prime s.width t.basis (row ∷ []))

    u_s : Covers s.prime s.width u.basis s.basis
    u_s = covers_trans s.prime s.width u.basis t.basis s.basis u_t (covers_trans s.prime s.width t.basis (s.basis ++ take i vs) s.basis first.covers (covers_left s.prime s.width s.basis (take i vs)))

    u_vs : Covers s.prime s.width u.basis (take i vs)
    u_vs = covers_trans s.prime s.width u.basis t.basis (take i vs) u_t (covers_trans s.prime s.width t.basis (s.basis ++ take i vs) (take i vs) first.covers (covers_right s.prime s.width s.basis (take i vs)))

    big_tail : Covers s.prime s.width (s.basis ++ (take i vs ++ row ∷ [])) (take i vs ++ row ∷ [])
    big_tail = covers_right s.prime s.width s.basis (take i vs ++ row ∷ [])

    big_row : Covers s.prime s.width (s.basis ++ (take i vs ++ row ∷ [])) (row ∷ [])
    big_row = covers_trans s.prime s.width (s.basis ++ (take i vs ++ row ∷ [])) (take i vs ++ row ∷ []) (row ∷ []) big_tail (covers_right s.prime s.width (take i vs) (row ∷ []))

    big_vs : Covers s.prime s.width (s.basis ++ (take i vs ++ row ∷ [])) (take i vs)
    big_vs = covers_trans s.prime s.width (s.basis ++ (take i vs ++ row ∷ [])) (take i vs ++ row ∷ []) (take i vs) big_tail (covers_left s.prime s.width (take i vs) (row ∷ []))

    big_t : Covers s.prime s.width (s.basis ++ (take i vs ++ row ∷ [])) t.basis
    big_t = covers_trans s.prime s.width (s.basis ++ (take i vs ++ row ∷ [])) (s.basis ++ take i vs) t.basis
        (covers_append s.prime s.width (s.basis ++ (take i vs ++ row ∷ [])) s.basis (take i vs) (covers_left s.prime s.width s.basis (take i vs ++ row ∷ [])) big_vs) first.covered

pub joins_all : (s t : Subspace) (vs : List (List ℕ)) (n : ℕ) → n ≡ length vs → Joins s (take n vs) t → Joins s vs t
joins_all s t vs n e h = subst (λ xs. Joins s xs t) (ap (λ m. take m vs) e ∙ take-length vs) h

pub side_by_side-entry : (ls rs : List (List ℕ)) (i : ℕ) → length ls ≡ length rs → i < length ls → get_or (side_by_side ls rs) i [] ≡ get_or ls i [] ++ get_or rs i []
side_by_side-entry [] rs i h l = absurd (omega arith)
side_by_side-entry (x ∷ ls) [] i h l = absurd (omega arith)
side_by_side-entry (x ∷ ls) (y ∷ rs) zero h l = refl
side_by_side-entry (x ∷ ls) (y ∷ rs) (suc i) h l = side_by_side-entry ls rs i (omega arith) (omega arith)

pub length-side_by_side : (ls rs : List (List ℕ)) → length ls ≡ length rs → length (side_by_side ls rs) ≡ length ls
length-side_by_side [] rs h = refl
length-side_by_side (x ∷ ls) [] h = absurd (omega arith)
length-side_by_side (x ∷ ls) (y ∷ rs) h = ap suc (length-side_by_side ls rs (omega arith))

pub fits_moved : (p q v w : ℕ) (row other : List ℕ) → q ≡ p → w ≡ v → other ≡ row → IsRow p v row → IsRow q w other
fits_moved p q v w row other ep ew er h =
    subst (λ n. IsRow n w other) (sym ep) (subst (λ n. IsRow p n other) (sym ew) (subst (λ r. IsRow p v r) (sym er) h))

-- two lists of rows, one after the other, on nothing
pub joins_twice : (z t u : Subspace) (xs ys : List (List ℕ)) → z.basis ≡ [] → Joins z xs t → Joins t ys u → Covers z.prime z.width u.basis (xs ++ ys) × Covers z.prime z.width (xs ++ ys) u.basis
joins_twice z t u xs ys empty first next = (
  covers_append z.prime z.width u.basis xs ys (covers_trans z.prime z.width u.basis t.basis xs u_t t_xs) (covers_trans z.prime z.width u.basis (t.basis ++ ys) ys all (covers_right z.prime z.width t.basis ys)),
  covers_trans z.prime z.width (xs ++ ys) (t.basis ++ ys) u.basis
      (covers_append z.prime z.width (xs ++ ys) t.basis ys (covers_trans z.prime z.width (xs ++ ys) xs t.basis (covers_left z.prime z.width xs ys) xs_t) (covers_right z.prime z.width xs ys))
      (moved (t.basis ++ ys) u.basis next.covered),
)
  where
    moved : (vs ws : List (List ℕ)) → Covers t.prime t.width vs ws → Covers z.prime z.width vs ws
    moved vs ws h = subst (λ q. Covers q z.width vs ws) first.prime (subst (λ v. Covers t.prime v vs ws) first.width h)

    all : Covers z.prime z.width u.basis (t.basis ++ ys)
    all = moved u.basis (t.basis ++ ys) next.covers

    u_t : Covers z.prime z.width u.basis t.basis
    u_t = covers_trans z.prime z.width u.basis (t.basis ++ ys) t.basis all (covers_left z.prime z.width t.basis ys)

    t_xs : Covers z.prime z.width t.basis xs
    t_xs = subst (λ b. Covers z.prime z.width t.basis (b ++ xs)) empty first.covers

    xs_t : Covers z.prime z.width xs t.basis
    xs_t = subst (λ b. Covers z.prime z.width (b ++ xs) t.basis) empty first.covered

pub joined_fits : (p width n : ℕ) (u z : List ℕ) → IsRow p width u → IsRow p n z → IsRow p (width + n) (u ++ z)
joined_fits p width n u z hu hz = (omega (arith, length-append u z, hu.0, hz.0), All-append (λ x. x < p) u z hu.1 hz.1)

pub padded_fit : (p width n : ℕ) (us : List (List ℕ)) (z : List ℕ) → All (IsRow p width) us → IsRow p n z → All (IsRow p (width + n)) (map (λ u. u ++ z) us)
padded_fit p width n us z hu hz = All-map (IsRow p (width + n)) (λ u. u ++ z) us (λ i d h. joined_fits p width n (get_or us i d) z (hu i d h) hz)

pub pairs_fit : (p width n : ℕ) (ls rs : List (List ℕ)) → length ls ≡ length rs → All (IsRow p width) ls → All (IsRow p n) rs → All (IsRow p (width + n)) (side_by_side ls rs)
pairs_fit p width n ls rs e hl hr i d h =
    let inside : i < length ls = omega (arith, length-side_by_side ls rs e) in
    subst (IsRow p (width + n)) (sym (side_by_side-entry ls rs i e inside) ∙ get_or_default (side_by_side ls rs) i [] d h)
    (joined_fits p width n (get_or ls i []) (get_or rs i []) (hl i [] inside) (hr i [] (omega arith)))

-- the empty space, by its prime and width
pub empty_is : (p q n m : ℕ) → p ≡ q → n ≡ m → (let one : Subspace = record { prime = p; width = n; basis = [] } in let two : Subspace = record { prime = q; width = m; basis = [] } in one ≡ two)
empty_is p q n m ep en =
    let by_prime : ℕ → Subspace = λ x. record { prime = x; width = n; basis = [] } in
    let by_width : ℕ → Subspace = λ x. record { prime = q; width = x; basis = [] } in
    ap by_prime ep ∙ ap by_width en
