-- Images of the rows that a matrix takes into a space.
use Rattle.std.proofs.Common.{◌≡◌, ℕ, suc, ◌+◌, ◌-◌, ◌*◌, ◌%◌, ◌<◌, ◌↔◌, List, [], ◌∷◌, ◌++◌, length, get_or, set, replicate, take, drop, map, refl, sym, ap, ◌∙◌, arith, length-append, get_or-set_same, get_or-set_other}
use Rattle.std.proofs.lemmas.List.{get_or_append_left, get_or-append_right, get_or-replicate, length-replicate, length-map, length-take, length-drop}
use Rattle.std.proofs.Math.Nat.{mod-add-mod, zero-mod}
use Rattle.row_space.specs.Sums.{weighted, IsWeighted, IsRightPart, side_by_side}
use Rattle.row_space.specs.Subspace.{Subspace, IsImage}
use Rattle.row_space.proofs.Weights.{more-mod, multiple-mod, weighted-split, weighted_twice, weighted-one, zero_in, more_in, same_in}
use Rattle.row_space.proofs.Gathering.{length-side_by_side}

left-entry : (u z : List ℕ) (left k : ℕ) → length u ≡ left → k < left → get_or (u ++ z) k 0 ≡ get_or u k 0
left-entry u z left k long h = get_or_append_left u z 0 k (omega arith)

right-entry : (u z : List ℕ) (left k : ℕ) → length u ≡ left → get_or (u ++ z) (left + k) 0 ≡ get_or z k 0
right-entry u z left k long = get_or-append_right u z left (left + k) 0 long (omega arith) ∙ ap (λ m. get_or z m 0) (omega arith)

padded-left : (cs : List ℕ) (us : List (List ℕ)) (z : List ℕ) (left k : ℕ) → ((i : ℕ) → i < length us → length (get_or us i []) ≡ left) → k < left → weighted cs (map (λ u. u ++ z) us) k ≡ weighted cs us k
padded-left [] us z left k long h = refl
padded-left (c ∷ cs) [] z left k long h = refl
padded-left (c ∷ cs) (u ∷ us) z left k long h =
    let here = left-entry u z left k (long 0 (omega arith)) h in
    let rest = padded-left cs us z left k (λ i l. long (suc i) (omega arith)) h in
    rw (here, rest)

padded-right : (cs : List ℕ) (us : List (List ℕ)) (n left k : ℕ) → ((i : ℕ) → i < length us → length (get_or us i []) ≡ left) → k < n → weighted cs (map (λ u. u ++ replicate n 0) us) (left + k) ≡ 0
padded-right [] us n left k long h = refl
padded-right (c ∷ cs) [] n left k long h = refl
padded-right (c ∷ cs) (u ∷ us) n left k long h =
    let here = right-entry u (replicate n 0) left k (long 0 (omega arith)) ∙ get_or-replicate n k 0 0 h in
    let rest = padded-right cs us n left k (λ i l. long (suc i) (omega arith)) h in
    rw (here, rest) (omega arith)

pairs-left : (cs : List ℕ) (ls rs : List (List ℕ)) (left k : ℕ) → length ls ≡ length rs → ((i : ℕ) → i < length ls → length (get_or ls i []) ≡ left) → k < left → weighted cs (side_by_side ls rs) k ≡ weighted cs ls k
pairs-left [] ls rs left k e long h = refl
pairs-left (c ∷ cs) [] rs left k e long h = refl
pairs-left (c ∷ cs) (l ∷ ls) [] left k e long h = absurd (omega arith)
pairs-left (c ∷ cs) (l ∷ ls) (r ∷ rs) left k e long h =
    let here = left-entry l r left k (long 0 (omega arith)) h in
    let rest = pairs-left cs ls rs left k (omega arith) (λ i m. long (suc i) (omega arith)) h in
    rw (here, rest)

pairs-right : (cs : List ℕ) (ls rs : List (List ℕ)) (left k : ℕ) → length ls ≡ length rs → ((i : ℕ) → i < length ls → length (get_or ls i []) ≡ left) → weighted cs (side_by_side ls rs) (left + k) ≡ weighted cs rs k
pairs-right [] ls rs left k e long = refl
pairs-right (c ∷ cs) [] [] left k e long = refl
pairs-right (c ∷ cs) [] (r ∷ rs) left k e long = absurd (omega arith)
pairs-right (c ∷ cs) (l ∷ ls) [] left k e long = absurd (omega arith)
pairs-right (c ∷ cs) (l ∷ ls) (r ∷ rs) left k e long =
    let here = right-entry l r left k (long 0 (omega arith)) in
    let rest = pairs-right cs ls rs left k (omega arith) (λ i m. long (suc i) (omega arith)) in
    rw (here, rest)

-- every coefficient n times
abbrev times : ℕ → List ℕ → List ℕ
times n cs = map (λ c. n * c) cs

weighted-times : (n : ℕ) (cs : List ℕ) (us : List (List ℕ)) (k : ℕ) → weighted (times n cs) us k ≡ n * weighted cs us k
weighted-times n [] us k = omega arith
weighted-times n (c ∷ cs) [] k = omega arith
weighted-times n (c ∷ cs) (u ∷ us) k = omega (arith, weighted-times n cs us k)

-- p - 1 times w and w are p times w
whole_times : (p w : ℕ) → 0 < p → (p - 1) * w + w ≡ 0 + p * w
whole_times p w pos =
    let m : ℕ = p - 1 in
    let whole : p ≡ m + 1 = omega arith in
    let split : p * w ≡ (p - 1) * w + w = ap (λ n. n * w) whole ∙ omega arith in
    omega arith

negative : (p x y : ℕ) → 0 < p → (x + y) % p ≡ 0 % p → y % p ≡ (0 + (p - 1) * x) % p
negative p x y pos h =
    sym (multiple-mod p y x)
    ∙ ap (λ n. n % p) (let e : y + p * x ≡ x + y + (p - 1) * x = omega (arith, whole_times p x pos) in e)
    ∙ sym (mod-add-mod (x + y) p ((p - 1) * x))
    ∙ ap (λ n. (n + (p - 1) * x) % p) (h ∙ zero-mod p)

cancels : (p w v : ℕ) → 0 < p → v % p ≡ w % p → ((p - 1) * w + v) % p ≡ 0 % p
cancels p w v pos h =
    ap (λ n. n % p) (let e : (p - 1) * w + v ≡ (p - 1) * w + 1 * v = omega arith in e)
    ∙ more-mod p 1 ((p - 1) * w) v ((p - 1) * w) w refl h
    ∙ ap (λ n. n % p) (let e : (p - 1) * w + 1 * w ≡ 0 + p * w = omega (arith, whole_times p w pos) in e)
    ∙ multiple-mod p 0 w

module _ (s : Subspace) (width : ℕ) (matrix images : List (List ℕ)) (pos : 0 < s.prime) (count : length matrix ≡ length images)
    (basis_long : (i : ℕ) → i < length s.basis → length (get_or s.basis i []) ≡ s.width) (matrix_long : (i : ℕ) → i < length matrix → length (get_or matrix i []) ≡ s.width) (f : ℕ → ℕ) where
  to_image : IsRightPart s.prime s.width width (map (λ u. u ++ replicate width 0) s.basis ++ side_by_side matrix images) f → IsImage s width matrix images f
  to_image h =
      let padded : List (List ℕ) = map (λ u. u ++ replicate width 0) s.basis in
      let pairs : List (List ℕ) = side_by_side matrix images in
      let n : ℕ = length padded in
      let same : n ≡ length s.basis = length-map s.basis (λ u. u ++ replicate width 0) in
      let cs : List ℕ = h.1.0 in
      let long : length cs ≡ n + length pairs = h.1.1 ∙ length-append padded pairs in
      let split : (k : ℕ) → weighted cs (padded ++ pairs) k ≡ weighted (take n cs) padded k + weighted (drop n cs) pairs k = λ k. weighted-split cs padded pairs k long in
      let pairs_long : length pairs ≡ length matrix = length-side_by_side matrix images count in (
        drop n cs,
        omega (arith, length-drop n cs),
        same_in s.prime s.width s.basis (weighted (drop n cs) matrix) (λ k. 0 + (s.prime - 1) * weighted (take n cs) s.basis k)
            (λ k l. negative s.prime (weighted (take n cs) s.basis k) (weighted (drop n cs) matrix k) pos
            (ap (λ x. (x + weighted (drop n cs) matrix k) % s.prime) (sym (padded-left (take n cs) s.basis (replicate width 0) s.width k basis_long l))
            ∙ ap (λ x. (weighted (take n cs) padded k + x) % s.prime) (sym (pairs-left (drop n cs) matrix images s.width k count matrix_long l))
            ∙ ap (λ x. x % s.prime) (sym (split k)) ∙ sym (h.1.2 k (omega arith)) ∙ h.2 k l))
            (more_in s.prime s.width s.basis (λ _. 0) (weighted (take n cs) s.basis) (s.prime - 1) (zero_in s.prime s.width s.basis) (take n cs, omega (arith, length-take n cs), λ k l. refl)),
        λ k l.
            h.3 k l ∙ h.1.2 (s.width + k) (omega arith) ∙ ap (λ x. x % s.prime) (split (s.width + k))
            ∙ ap (λ x. (x + weighted (drop n cs) pairs (s.width + k)) % s.prime) (padded-right (take n cs) s.basis width s.width k basis_long l)
            ∙ ap (λ x. (0 + x) % s.prime) (pairs-right (drop n cs) matrix images s.width k count matrix_long)
            ∙ ap (λ x. x % s.prime) (omega arith),
      )

  from_image : IsImage s width matrix images f → IsRightPart s.prime s.width width (map (λ u. u ++ replicate width 0) s.basis ++ side_by_side matrix images) f
  from_image h =
      let padded : List (List ℕ) = map (λ u. u ++ replicate width 0) s.basis in
      let pairs : List (List ℕ) = side_by_side matrix images in
      let same : length padded ≡ length s.basis = length-map s.basis (λ u. u ++ replicate width 0) in
      let v : List ℕ = h.0 in
      let cs : List ℕ = h.2.0 in
      let ds : List ℕ = times (s.prime - 1) cs in
      let ds_long : length ds ≡ length padded = omega (arith, length-map cs (λ c. (s.prime - 1) * c), h.2.1) in
      let pairs_long : length pairs ≡ length matrix = length-side_by_side matrix images count in
      let split : (k : ℕ) → weighted (ds ++ v) (padded ++ pairs) k ≡ weighted ds padded k + weighted v pairs k = λ k. weighted_twice ds v padded pairs k ds_long in (
        weighted (ds ++ v) (padded ++ pairs),
        (ds ++ v, omega (arith, length-append ds v, length-append padded pairs, h.1), λ k l. refl),
        (λ k l. ap (λ x. x % s.prime) (split k)
            ∙ ap (λ x. (x + weighted v pairs k) % s.prime) (padded-left ds s.basis (replicate width 0) s.width k basis_long l ∙ weighted-times (s.prime - 1) cs s.basis k)
            ∙ ap (λ x. ((s.prime - 1) * weighted cs s.basis k + x) % s.prime) (pairs-left v matrix images s.width k count matrix_long l)
            ∙ cancels s.prime (weighted cs s.basis k) (weighted v matrix k) pos (h.2.2 k l)),
        (λ k l. h.3 k l ∙ sym (ap (λ x. x % s.prime) (split (s.width + k))
            ∙ ap (λ x. (x + weighted v pairs (s.width + k)) % s.prime) (padded-right ds s.basis width s.width k basis_long l)
            ∙ ap (λ x. (0 + x) % s.prime) (pairs-right v matrix images s.width k count matrix_long)
            ∙ ap (λ x. x % s.prime) (omega arith))),
      )

  pub images_are : IsRightPart s.prime s.width width (map (λ u. u ++ replicate width 0) s.basis ++ side_by_side matrix images) f ↔ IsImage s width matrix images f
  images_are = (to_image, from_image)

-- no row has no image but 0
pub no_images : (s : Subspace) (width : ℕ) (matrix images us : List (List ℕ)) (f : ℕ → ℕ) → length matrix ≡ 0 → us ≡ [] → IsWeighted s.prime width us f ↔ IsImage s width matrix images f
no_images s width matrix images us f none empty = (
  (λ h. ([], sym none, zero_in s.prime s.width s.basis, λ k l. h.2 k l ∙ ap (λ n. n % s.prime) (at_none h.0 us k (ap length empty)))),
  (λ h. same_in s.prime width us f (λ _. 0) (λ k l. h.3 k l ∙ ap (λ n. n % s.prime) (no_weights h.0 images k (h.1 ∙ none))) (zero_in s.prime width us)),
)
  where
    no_weights : (cs : List ℕ) (us : List (List ℕ)) (k : ℕ) → length cs ≡ 0 → weighted cs us k ≡ 0
    no_weights [] us k h = refl
    no_weights (c ∷ cs) us k h = absurd (omega arith)

    at_none : (cs : List ℕ) (us : List (List ℕ)) (k : ℕ) → length us ≡ 0 → weighted cs us k ≡ 0
    at_none [] us k h = refl
    at_none (c ∷ cs) [] k h = refl
    at_none (c ∷ cs) (u ∷ us) k h = absurd (omega arith)

-- v times the unit rows is v
pub weighted-units : (units : List (List ℕ)) (v : List ℕ) (n k : ℕ) → length units ≡ n → length v ≡ n → ((i : ℕ) → i < n → get_or units i [] ≡ set (replicate n 0) i 1) → k < n → weighted v units k ≡ get_or v k 0
weighted-units units v n k long same rows h =
    weighted-one v units k k (omega arith) (omega arith)
    (ap (λ r. get_or r k 0) (rows k h) ∙ get_or-set_same (replicate n 0) k 1 0 (let whole : length (replicate {A = ℕ} n 0) ≡ n = length-replicate n 0 in omega arith))
    (λ i l ne. ap (λ r. get_or r k 0) (rows i (omega arith)) ∙ get_or-set_other (replicate n 0) i k 1 0 (omega arith) ∙ get_or-replicate n k 0 0 h)
