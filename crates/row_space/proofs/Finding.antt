-- The spaces that are found as images of a space.
use Rattle.std.proofs.Common.{◌≡◌, ℕ, ◌+◌, ◌%◌, ◌<◌, ◌↔◌, List, [], ◌∷◌, ◌++◌, length, get_or, set, replicate, map, All, refl, sym, ap, subst, ◌∙◌}
use Rattle.std.proofs.Math.Nat.{mod-mod, zero-mod}
use Rattle.comm_ring.specs.Modules.{InSpan}
use Rattle.comm_ring.specs.Rows.{rows}
use Rattle.row_space.specs.Sums.{weighted, IsWeighted, IsRightPart, side_by_side}
use Rattle.row_space.specs.Echelon.{IsRow, IsEchelon}
use Rattle.row_space.specs.Subspace.{Subspace, IsIn, IsImage, IsZero, Joins, product}
use Rattle.row_space.proofs.Weights.{weighted-same, same_in}
use Rattle.row_space.proofs.Members.{combination-entry, weighted_of, span_of}
use Rattle.row_space.proofs.Gathering.{joins_twice}
use Rattle.row_space.proofs.RightParts.{right_covers}
use Rattle.row_space.proofs.Images.{images_are, weighted-units}
use Rattle.comm_ring.proofs.Rows.{row-entry}

pub all_moved : (p q v w : ℕ) (us : List (List ℕ)) → q ≡ p → w ≡ v → All (IsRow p v) us → All (IsRow q w) us
all_moved p q v w us ep ew h = subst (λ n. All (IsRow n w) us) (sym ep) (subst (λ n. All (IsRow p n) us) (sym ew) h)

pub echelon_moved : (p q v w : ℕ) (us ws : List (List ℕ)) (pivots others : List ℕ) → q ≡ p → w ≡ v → ws ≡ us → others ≡ pivots → IsEchelon p v us pivots → IsEchelon q w ws others
echelon_moved p q v w us ws pivots others ep ew eu eq h =
    subst (λ n. IsEchelon n w ws others) (sym ep) (subst (λ n. IsEchelon p n ws others) (sym ew) (subst (λ x. IsEchelon p v x others) (sym eu) (subst (λ x. IsEchelon p v us x) (sym eq) h)))

pub parts_moved : (p q left right v w : ℕ) (us ws ts : List (List ℕ)) (f : ℕ → ℕ) → q ≡ p → left ≡ right → w ≡ v → ws ≡ us
    → (IsWeighted q w ts f ↔ IsRightPart q left w ws f) → (IsWeighted p v ts f ↔ IsRightPart p right v us f)
parts_moved p q left right v w us ws ts f ep el ew eu h =
    subst (λ n. IsWeighted n v ts f ↔ IsRightPart n right v us f) ep
    (subst (λ n. IsWeighted q v ts f ↔ IsRightPart q n v us f) el
    (subst (λ n. IsWeighted q n ts f ↔ IsRightPart q left n us f) ew
    (subst (λ x. IsWeighted q w ts f ↔ IsRightPart q left w x f) eu h)))

-- the right parts of the joined rows are the images
pub images_found : (s : Subspace) (width : ℕ) (matrix images : List (List ℕ)) → 0 < s.prime → length matrix ≡ length images
    → ((i : ℕ) → i < length s.basis → length (get_or s.basis i []) ≡ s.width) → ((i : ℕ) → i < length matrix → length (get_or matrix i []) ≡ s.width)
    → (w0 w1 w2 new : Subspace) (z : List ℕ) (us : List (List ℕ)) → (let empty : Subspace = record { prime = s.prime; width = s.width + width; basis = [] } in w0 ≡ empty) → z ≡ replicate width 0 → us ≡ s.basis
    → Joins w0 (map (λ u. u ++ z) us) w1 → Joins w1 (side_by_side matrix images) w2
    → ((f : ℕ → ℕ) → IsWeighted s.prime width new.basis f ↔ IsRightPart s.prime s.width width w2.basis f)
    → (f : ℕ → ℕ) → IsWeighted s.prime width new.basis f ↔ IsImage s width matrix images f
images_found s width matrix images pos count basis_long matrix_long w0 w1 w2 new z us empty zero basis first next members f =
    let all : List (List ℕ) = map (λ u. u ++ replicate width 0) s.basis ++ side_by_side matrix images in
    let are = images_are s width matrix images pos count basis_long matrix_long f in
    let start : Subspace = record { prime = s.prime; width = s.width + width; basis = [] } in
    let rows_first = subst (λ xs. Joins w0 (map (λ u. u ++ replicate width 0) xs) w1) basis (subst (λ r. Joins w0 (map (λ u. u ++ r) us) w1) zero first) in
    let both = joins_twice start w1 w2 (map (λ u. u ++ replicate width 0) s.basis) (side_by_side matrix images) refl (subst (λ w. Joins w (map (λ u. u ++ replicate width 0) s.basis) w1) empty rows_first) next in (
      (λ h. are.0 (right_covers s.prime s.width width all w2.basis f both.1 ((members f).0 h))),
      (λ h. (members f).1 (right_covers s.prime s.width width w2.basis all f both.0 (are.1 h))),
    )

in_moved : (s t : Subspace) (w : ℕ) (f : List ℕ) → t.prime ≡ s.prime → t.width ≡ w → IsIn t f → IsWeighted s.prime w t.basis (λ k. get_or f k 0)
in_moved s t w f ep ew h =
    subst (λ q. IsWeighted q w t.basis (λ k. get_or f k 0)) ep (subst (λ v. IsWeighted t.prime v t.basis (λ k. get_or f k 0)) ew (weighted_of t.prime t.width t.basis f h))

moved_in : (s t : Subspace) (w : ℕ) (f : List ℕ) → t.prime ≡ s.prime → t.width ≡ w → IsWeighted s.prime w t.basis (λ k. get_or f k 0) → IsIn t f
moved_in s t w f ep ew h =
    span_of t.prime t.width t.basis f (subst (λ v. IsWeighted t.prime v t.basis (λ k. get_or f k 0)) (sym ew) (subst (λ q. IsWeighted q w t.basis (λ k. get_or f k 0)) (sym ep) h))

-- the rows of both spaces
pub both_found : (s o t : Subspace) → o.prime ≡ s.prime → o.width ≡ s.width → t.prime ≡ s.prime → t.width ≡ s.width
    → ((f : ℕ → ℕ) → IsWeighted s.prime s.width t.basis f ↔ IsImage s s.width o.basis o.basis f) → (f : List ℕ) → IsIn t f ↔ (IsIn s f × IsIn o f)
both_found s o t op ow tp tw members f = (
  (λ h.
      let image = (members (λ k. get_or f k 0)).0 (in_moved s t s.width f tp tw h) in (
        span_of s.prime s.width s.basis f (same_in s.prime s.width s.basis (λ k. get_or f k 0) (weighted image.0 o.basis) image.3 image.2),
        moved_in s o s.width f op ow (image.0, image.1, image.3),
      )),
  (λ h.
      let other = in_moved s o s.width f op ow h.1 in
      moved_in s t s.width f tp tw ((members (λ k. get_or f k 0)).1 (
        other.0,
        other.1,
        same_in s.prime s.width s.basis (weighted other.0 o.basis) (λ k. get_or f k 0) (λ k l. sym (other.2 k l)) (weighted_of s.prime s.width s.basis f h.0),
        other.2,
      ))),
)

product_in : (s : Subspace) (v w : List ℕ) (matrix : List (List ℕ)) → length v ≡ length matrix → length w ≡ length matrix → ((k : ℕ) → k < length matrix → get_or v k 0 % s.prime ≡ get_or w k 0 % s.prime)
    → IsWeighted s.prime s.width s.basis (weighted w matrix) → IsIn s (product s.prime s.width v matrix)
product_in s v w matrix lv lw same h =
    span_of s.prime s.width s.basis (product s.prime s.width v matrix)
    (same_in s.prime s.width s.basis (λ k. get_or (product s.prime s.width v matrix) k 0) (weighted w matrix)
    (λ k l. ap (λ n. n % s.prime) (combination-entry s.prime s.width v matrix k l) ∙ mod-mod (weighted v matrix k) s.prime ∙ weighted-same s.prime v w matrix k lv lw same) h)

-- the rows that the matrix takes into the space
pub taken_found : (s t : Subspace) (matrix units : List (List ℕ)) → t.prime ≡ s.prime → t.width ≡ length matrix → length units ≡ length matrix
    → ((i : ℕ) → i < length matrix → get_or units i [] ≡ set (replicate (length matrix) 0) i 1)
    → ((f : ℕ → ℕ) → IsWeighted s.prime (length matrix) t.basis f ↔ IsImage s (length matrix) matrix units f)
    → (v : List ℕ) → length v ≡ length matrix → IsIn t v ↔ IsIn s (product s.prime s.width v matrix)
taken_found s t matrix units tp tw long are members v lv = (
  (λ h.
      let image = (members (λ k. get_or v k 0)).0 (in_moved s t (length matrix) v tp tw h) in
      product_in s v image.0 matrix lv image.1
      (λ k l. image.3 k l ∙ ap (λ n. n % s.prime) (weighted-units units image.0 (length matrix) k long image.1 are l)) image.2),
  (λ h.
      moved_in s t (length matrix) v tp tw ((members (λ k. get_or v k 0)).1 (
        v,
        lv,
        same_in s.prime s.width s.basis (weighted v matrix) (λ k. get_or (product s.prime s.width v matrix) k 0)
            (λ k l. sym (ap (λ n. n % s.prime) (combination-entry s.prime s.width v matrix k l) ∙ mod-mod (weighted v matrix k) s.prime))
            (weighted_of s.prime s.width s.basis (product s.prime s.width v matrix) h),
        (λ k l. ap (λ n. n % s.prime) (sym (weighted-units units v (length matrix) k long lv are l))),
      ))),
)

-- only zero is in the zero space
pub zero_found : (p width : ℕ) (row : List ℕ) → InSpan (rows p width) [] row ↔ IsZero p width row
zero_found p width row = (
  (λ h k l. h.2 k l ∙ ap (λ n. n % p) (combination-entry p width h.0 [] k l ∙ ap (λ n. n % p) (nothing h.0 k) ∙ zero-mod p) ∙ ap (λ n. n % p) (sym (row-entry width (λ _. 0) k l))),
  (λ h. span_of p width [] row ([], refl, λ k l. h k l ∙ ap (λ n. n % p) (row-entry width (λ _. 0) k l))),
)
  where
    nothing : (cs : List ℕ) (k : ℕ) → weighted cs [] k ≡ 0
    nothing [] k = refl
    nothing (c ∷ cs) k = refl
