-- How many rows are a basis modulo a space that is the kernel of a matrix.
use Rattle.std.proofs.Common.{◌≡◌, ◌↔◌, ℕ, ◌+◌, ◌%◌, ◌<◌, ◌≤◌, List, [], ◌∷◌, ◌++◌, map, length, get_or, ap, ◌∙◌, subst, arith, length-append}
use Rattle.std.specs.List.{All, range_with_len}
use Rattle.std.proofs.lemmas.List.{get_or_default, length-map}
use Rattle.std.proofs.lemmas.List.FromFn.{get_or-map-range_with_len, length-range_with_len}
use Rattle.prime_field.specs.Primes.{IsPrime}
use Rattle.prime_field.proofs.Table.{positive_of_prime}
use Rattle.comm_ring.specs.Ring.{CommRing}
use Rattle.comm_ring.specs.Residues.{residue_ops}
use Rattle.comm_ring.specs.Rows.{rows}
use Rattle.comm_ring.specs.Modules.{combine, combination, Independent, InSpan}
use Rattle.comm_ring.proofs.Exchange as Exchange
use Rattle.comm_ring.proofs.Fields.{residue_field}
use Rattle.comm_ring.proofs.Modules as Modules
use Rattle.comm_ring.proofs.Modules.{Module}
use Rattle.comm_ring.proofs.Residues.{residues}
use Rattle.comm_ring.proofs.Rows.{row_module, row-entry}
use Rattle.row_space.specs.Subspace.{IsZero, product}
use Rattle.finite_algebra.specs.Elements.{total, unit_row}
use Rattle.finite_algebra.proofs.Images.{product_linear}
use Rattle.finite_algebra.proofs.Totals.{IsLinear, combination-total, linear-origin, of_path, total_ext, total_in}
use Rattle.finite_algebra.proofs.Units.{expand}

module _ (p : ℕ) (prime : IsPrime p) where
  pos : 0 < p
  pos = positive_of_prime p prime

  abbrev K : CommRing
  K = residues p (positive_of_prime p prime)

  abbrev M : ℕ → Module (residues p (positive_of_prime p prime))
  M n = row_module p (positive_of_prime p prime) n

  module _ (n : ℕ) where
    units : List (List ℕ)
    units = map (unit_row n) (range_with_len 0 n)

    units_count : length units ≡ n
    unfolding units
    units_count = length-map (range_with_len 0 n) (unit_row n) ∙ length-range_with_len 0 n

    unit_at : (k : ℕ) → k < n → get_or units k [] ≡ unit_row n k
    unfolding units
    unit_at k h = get_or-map-range_with_len (unit_row n) 0 n k k [] h (omega arith)

    -- they span all rows
    unit_span : (v : List ℕ) → InSpan (rows p n) units v
    unit_span v =
        let s = Modules.span_submodule K (M n) units in
        s.resp _ v ((M n).symm (expand p pos n v)) (total_in K (M n) (InSpan (rows p n) units) s (λ k. (rows p n).◌·◌ (get_or v k 0) (unit_row n k)) n
        (λ k h. s.scale (get_or v k 0) (unit_row n k)
        (subst (InSpan (rows p n) units) (unit_at k h) (Modules.span_self K (M n) units k [] (let e = units_count in omega arith)))))

    -- their sum with given coefficients is the row of these
    combined : (cs : List ℕ) → (rows p n).◌≋◌ (combination (rows p n) cs units) cs
    combined cs =
        let V = rows p n in
        let f : ℕ → List ℕ = λ k. V.◌·◌ (get_or cs k 0) (get_or units k []) in
        (M n).trans (combination-total K (M n) cs units [])
        ((M n).trans (of_path K (M n) (ap (total V f) units_count))
        ((M n).trans (total_ext K (M n) f (λ k. V.◌·◌ (get_or cs k 0) (unit_row n k)) n (λ k h. of_path K (M n) (ap (V.◌·◌ (get_or cs k 0)) (unit_at k h))))
        ((M n).symm (expand p pos n cs))))

    independent : Independent (residue_ops p) (rows p n) units
    independent cs l e j d h =
        let inside : j < n = let c = units_count in omega arith in
        ap (λ z. z % p) (get_or_default cs j d 0 h)
        ∙ (M n).trans {x = cs} {y = combination (rows p n) cs units} {z = (rows p n).origin} ((M n).symm {x = combination (rows p n) cs units} {y = cs} (combined cs)) e j inside
        ∙ ap (λ z. z % p) (row-entry n (λ i. 0) j inside)

  -- a matrix of m columns has the span of us as its kernel, and m and the number of us are n together
  module _ (n m : ℕ) (us matrix : List (List ℕ)) (count : length matrix ≡ n) (dimension : m + length us ≡ n)
      (kernel : (v : List ℕ) → IsZero p m (product p m v matrix) ↔ InSpan (rows p n) us v) where
    abbrev image : List ℕ → List ℕ
    image v = product p m v matrix

    linear : IsLinear (rows p n) (rows p m) image
    linear = product_linear p pos n m matrix count

    image_combination : (cs : List ℕ) (gs : List (List ℕ)) → (rows p m).◌≋◌ (combination (rows p m) cs (map image gs)) (image (combination (rows p n) cs gs))
    unfolding combine
    image_combination [] gs = (M m).symm (linear-origin K (M n) (M m) image linear)
    image_combination (c ∷ cs) [] = (M m).symm (linear-origin K (M n) (M m) image linear)
    image_combination (c ∷ cs) (g ∷ gs) = (M m).symm ((M m).trans (linear.add ((rows p n).◌·◌ c g) (combination (rows p n) cs gs))
        ((M m).add_cong (linear.scale c g) ((M m).symm (image_combination cs gs))))

    -- rows that are a basis modulo the span are m
    pub as_many : (gs : List (List ℕ)) → ((x : List ℕ) → InSpan (rows p n) (us ++ gs) x)
        → ((cs : List ℕ) → length cs ≡ length gs → InSpan (rows p n) us (combination (rows p n) cs gs) → All (λ c. c % p ≡ 0 % p) cs)
        → length gs ≡ m
    as_many gs spans apart =
        let low : length (units n) ≤ length (us ++ gs) = Exchange.independent_few K (residue_field p prime) (M n) (units n) (us ++ gs) (independent n) (λ j d h. spans (get_or (units n) j d)) in
        let high : length (map image gs) ≤ length (units m) =
        Exchange.independent_few K (residue_field p prime) (M m) (map image gs) (units m) no_relation (λ j d h. unit_span m (get_or (map image gs) j d)) in
        let a : length (us ++ gs) ≡ length us + length gs = length-append us gs in
        let b : length (map image gs) ≡ length gs = length-map gs image in
        let u = units_count n in
        let v = units_count m in
        omega arith
      where
        no_relation : Independent (residue_ops p) (rows p m) (map image gs)
        no_relation cs l e = apart cs (l ∙ length-map gs image) ((kernel (combination (rows p n) cs gs)).0
            ((M m).trans {x = image (combination (rows p n) cs gs)} {y = combination (rows p m) cs (map image gs)} {z = (rows p m).origin}
            ((M m).symm {x = combination (rows p m) cs (map image gs)} {y = image (combination (rows p n) cs gs)} (image_combination cs gs)) e))
