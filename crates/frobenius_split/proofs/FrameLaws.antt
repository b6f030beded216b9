-- Elements in the parts of idempotents: one more of them, and the ideals at the idempotents by coordinates.
use Rattle.std.proofs.Common.{◌≡◌, ◌≢◌, ◌↔◌, refl, sym, ap, ap₂, subst, ◌∙◌, ℕ, ◌+◌, ◌-◌, ◌*◌, ◌%◌, ◌<◌, ◌≤◌, List, [], ◌∷◌, ◌++◌, length, get_or, map, All, arith, length-append}
use native.Mathlib.Decide.{ℕ_discrete}
use Rattle.std.proofs.Math.Decide.{dec_lt}
use Rattle.std.proofs.lemmas.List.{get_or_append_left, get_or-append_right, get_or_push, get_or-map, length-map}
use Rattle.std.proofs.lemmas.List.Elements.{All-push, All-from_get_or}
use Rattle.prime_field.specs.Primes.{IsPrime}
use Rattle.comm_ring.specs.Ring.{CommRing}
use Rattle.comm_ring.specs.Modules.{InSpan, IsSubmodule}
use Rattle.comm_ring.specs.Rows.{rows}
use Rattle.comm_ring.proofs.Derived as Derived
use Rattle.comm_ring.proofs.Modules as Modules
use Rattle.comm_ring.proofs.Modules.{Module}
use Rattle.comm_ring.proofs.Residues.{residues}
use Rattle.comm_ring.proofs.Rows.{row-entry}
use Rattle.row_space.specs.Sums.{weighted}
use Rattle.row_space.specs.Echelon.{IsRow, entries_at}
use Rattle.row_space.specs.Subspace.{Subspace, IsIn, IsZero, product}
use Rattle.row_space.proofs.Members.{combination-entry}
use Rattle.row_space.proofs.Weights.{more-mod}
use Rattle.finite_algebra.specs.Elements.{FiniteAlgebra, IsAlgebra, IsElement, elements, times, unit_row}
use Rattle.finite_algebra.proofs.Totals.{IsLinear, linear-origin, linear_then, total_in}
use Rattle.finite_algebra.proofs.Units.{along-unit, agree, unit-other}
use Rattle.finite_algebra.proofs.Images.{product-along, product_linear}
use Rattle.finite_algebra.proofs.Products.{left_linear}
use Rattle.frobenius_map.specs.Nilpotent.{IsRadicalOf}
use Rattle.frobenius_split.specs.Idempotents.{AreIdempotents, IsIdealAt}
use Rattle.frobenius_split.specs.Frames.{ArePlacesOf, IsFrame}
use Rattle.row_matrices.specs.Inverses.{IsInverse}
use Rattle.frobenius_map.proofs.Ground as Ground
use Rattle.frobenius_split.proofs.IdempotentLaws.{orthogonal_at, radical_ideal}

-- one more element and its number
pub frame_pushed : (A : FiniteAlgebra) (es us vs : List (List ℕ)) (numbers more : List ℕ) (row : List ℕ) (k : ℕ) → vs ≡ us ++ row ∷ [] → more ≡ numbers ++ k ∷ [] → IsElement A row → k < length es
    → (elements A).◌≋◌ (times A row (get_or es k [])) row → IsFrame A es us numbers → IsFrame A es vs more
frame_pushed A es us vs numbers more row k e d fits small own f =
    subst (λ (ws : List (List ℕ)). IsFrame A es ws more) (sym e) (subst (λ (ns : List ℕ). IsFrame A es (us ++ row ∷ []) ns) (sym d) (record {
      count = omega (arith, length-append numbers (k ∷ []), length-append us (row ∷ []), f.count);
      rows = All-push (IsElement A) us row f.rows fits;
      inside = λ j l. each j l (ℕ_discrete j (length us));
    }))
  where
    Inside : List ℕ → ℕ → Type 0
    Inside x i = (i < length es) × (elements A).◌≋◌ (times A x (get_or es i [])) x

    each : (j : ℕ) → j < length (us ++ row ∷ []) → Dec (j ≡ length us) → Inside (get_or (us ++ row ∷ []) j []) (get_or (numbers ++ k ∷ []) j 0)
    each j l (yes q) =
        subst (λ x. Inside x (get_or (numbers ++ k ∷ []) j 0)) (sym (get_or_push us row [] j (sym q)))
        (subst (λ i. Inside row i) (sym (get_or_push numbers k 0 j (f.count ∙ sym q))) (small, own))
    each j l (no n) =
        let inside : j < length us = omega (arith, l, length-append us (row ∷ [])) in
        let also : j < length numbers = omega (arith, f.count) in
        subst (λ x. Inside x (get_or (numbers ++ k ∷ []) j 0)) (sym (get_or_append_left us (row ∷ []) [] j inside))
        (subst (λ i. Inside (get_or us j []) i) (sym (get_or_append_left numbers (k ∷ []) 0 j also)) (f.inside j inside))

-- the entries of a product at places are the product with the columns at them
column-entry : (p n : ℕ) (v : List ℕ) (qs : List (List ℕ)) (places : List ℕ) (t : ℕ) → t < length places → get_or places t 0 < n
    → get_or (product p (length places) v (map (entries_at places) qs)) t 0 ≡ get_or (product p n v qs) (get_or places t 0) 0
column-entry p n v qs places t l k =
    combination-entry p (length places) v (map (entries_at places) qs) t l ∙ (ap (λ z. z % p) (same v qs) ∙ sym (combination-entry p n v qs (get_or places t 0) k))
  where
    same : (cs : List ℕ) (rs : List (List ℕ)) → weighted cs (map (entries_at places) rs) t ≡ weighted cs rs (get_or places t 0)
    same [] rs = refl
    same (c ∷ cs) [] = refl
    same (c ∷ cs) (r ∷ rs) = ap₂ ◌+◌ (ap (λ z. c * z) (get_or-map (λ q. get_or r q 0) places t 0 0 l)) (same cs rs)

-- the columns are rows of residues
pub columns_fit : (p n : ℕ) (places : List ℕ) (qs : List (List ℕ)) → ((t : ℕ) → t < length places → get_or places t 0 < n) → All (IsRow p n) qs → All (IsRow p (length places)) (map (entries_at places) qs)
columns_fit p n places qs within fit = All-from_get_or (IsRow p (length places)) (map (entries_at places) qs) [] (λ i l.
    let m : i < length qs = omega (arith, length-map qs (entries_at places)) in
    subst (IsRow p (length places)) (sym (get_or-map (entries_at places) qs i [] [] m)) (each (get_or qs i []) (fit i [] m)))
  where
    each : (row : List ℕ) → IsRow p n row → IsRow p (length places) (entries_at places row)
    each row f = (
      length-map places (λ q. get_or row q 0),
      All-from_get_or (λ x. x < p) (entries_at places row) 0 (λ t l.
          let m : t < length places = omega (arith, length-map places (λ q. get_or row q 0)) in
          subst (λ x. x < p) (sym (get_or-map (λ q. get_or row q 0) places t 0 0 m)) (f.1 (get_or places t 0) 0 (let h : get_or places t 0 < n = within t m in omega (arith, f.0)))),
    )

sum_same : (q a b c d : ℕ) → a % q ≡ c % q → b % q ≡ d % q → ((a + b) % q) % q ≡ ((c + d) % q) % q
sum_same q a b c d e f =
    let h : (a + 1 * b) % q ≡ (c + 1 * d) % q = more-mod q 1 a b c d e f in
    ap (λ z. z % q) (ap (λ z. z % q) (let k : a + b ≡ a + 1 * b = omega arith in k) ∙ (h ∙ ap (λ z. z % q) (let k : c + 1 * d ≡ c + d = omega arith in k)))

multiple_same : (q c a b : ℕ) → a % q ≡ b % q → ((c * a) % q) % q ≡ ((c * b) % q) % q
multiple_same q c a b e =
    let h : (0 + c * a) % q ≡ (0 + c * b) % q = more-mod q c 0 a 0 b refl e in
    ap (λ z. z % q) (ap (λ z. z % q) (let k : c * a ≡ 0 + c * a = omega arith in k) ∙ (h ∙ ap (λ z. z % q) (let k : 0 + c * b ≡ c * b = omega arith in k)))

module _ (A : FiniteAlgebra) (prime : IsPrime A.prime) (a : IsAlgebra A) where
  abbrev p : ℕ
  p = A.prime

  abbrev n : ℕ
  n = A.dimension

  abbrev pos : 0 < A.prime
  pos = Ground.positive A prime a

  abbrev R : CommRing
  R = Ground.R A prime a

  abbrev M : Module (residues A.prime pos)
  M = Ground.M A prime a

  -- the product of y and an element in a part is in the part
  pub inside_times : (y x e z : List ℕ) → M.◌≋◌ (times A x e) x → M.◌≋◌ z (times A y x) → M.◌≋◌ (times A z e) z
  inside_times y x e z h k = R.trans (R.mul_cong k (R.rfl e)) (R.trans (R.mul_assoc y x e) (R.trans (R.mul_cong (R.rfl y) h) (R.symm k)))

  module _ (nil : Subspace) (rad : IsRadicalOf A nil) (es us : List (List ℕ)) (numbers : List ℕ) (w : AreIdempotents A es) (f : IsFrame A es us numbers)
      (qs : List (List ℕ)) (inv : IsInverse A.prime A.dimension (us ++ nil.basis) qs) (k : ℕ) (small : k < length es) where
    abbrev e : List ℕ
    e = get_or es k []

    abbrev xs : List (List ℕ)
    xs = us ++ nil.basis

    abbrev x : ℕ → List ℕ
    x j = get_or (us ++ nil.basis) j []

    -- the coordinates, and what has them
    abbrev coordinates : List ℕ → List ℕ
    coordinates v = product A.prime A.dimension v qs

    abbrev row : List ℕ → List ℕ
    row v = product A.prime A.dimension v (us ++ nil.basis)

    coordinates_linear : IsLinear (elements A) (elements A) coordinates
    coordinates_linear = product_linear A.prime pos A.dimension A.dimension qs inv.count

    -- an element is the sum of its coordinates times the basis
    back : (v : List ℕ) → M.◌≋◌ (row (coordinates v)) v
    back v = agree A.prime pos A.dimension M (λ u. row (coordinates u)) (λ u. u)
        (linear_then (residues A.prime pos) M M M coordinates row coordinates_linear (product_linear A.prime pos A.dimension A.dimension (us ++ nil.basis) inv.long))
        (record { resp = λ u v h. h; add = λ u v. M.rfl _; scale = λ c u. M.rfl _ })
        (λ i l. M.trans ((product_linear A.prime pos A.dimension A.dimension (us ++ nil.basis) inv.long).resp _ _ (unit_coordinates i l)) (Derived.of_path R (inv.right i l))) v
      where
        unit_coordinates : (i : ℕ) → i < A.dimension → M.◌≋◌ (coordinates (unit_row A.dimension i)) (get_or qs i [])
        unit_coordinates i l = M.trans (product-along A.prime pos A.dimension A.dimension qs inv.count (unit_row A.dimension i)) (along-unit A.prime pos A.dimension M (λ j. get_or qs j []) i l)

    -- what holds of the elements of the basis and is linear holds of all
    all_by_basis : (N : List ℕ → Type 0) → IsSubmodule (elements A) N → ((j : ℕ) → j < A.dimension → N (x j)) → (v : List ℕ) → N v
    all_by_basis N s h v = s.resp _ _ (M.trans (M.symm (product-along A.prime pos A.dimension A.dimension (us ++ nil.basis) inv.long (coordinates v))) (back v))
        (total_in (residues A.prime pos) M N s (λ j. M.◌·◌ (get_or (coordinates v) j 0) (x j)) A.dimension (λ j l. s.scale (get_or (coordinates v) j 0) (x j) (h j l)))

    abbrev In : List ℕ → Type 0
    In v = InSpan (elements A) nil.basis v

    abbrev S : IsSubmodule (elements A) In
    S = Ground.span_of A prime a nil.basis

    abbrev here : ℕ → Type 0
    here j = (j < length us) × (get_or numbers j 0 ≡ k)

    is_here : (j : ℕ) → Dec (here j)
    is_here j = go (dec_lt j (length us)) (ℕ_discrete (get_or numbers j 0) k)
      where
        go : Dec (j < length us) → Dec (get_or numbers j 0 ≡ k) → Dec (here j)
        go (yes l) (yes q) = yes (l, q)
        go (yes l) (no q) = no (λ h. q h.1)
        go (no l) q = no (λ h. l h.0)

    -- the elements of other parts and the nilpotent ones go to nilpotent ones
    own : (j : ℕ) → here j → M.◌≋◌ (times A (x j) e) (x j)
    own j h = subst (λ u. M.◌≋◌ (times A u e) u) (sym (get_or_append_left us nil.basis [] j h.0)) (subst (λ i. M.◌≋◌ (times A (get_or us j []) (get_or es i [])) (get_or us j [])) h.1 (f.inside j h.0).1)

    abbrev I : IsSubmodule (elements A) (λ v. In (times A v e))
    I = record {
      resp = λ u v h. S.resp _ _ (R.mul_cong h (R.rfl e));
      none = S.resp _ _ (R.symm (Derived.zero_mul R e)) S.none;
      add = λ u v h i. S.resp _ _ (R.symm ((left_linear A pos e).add u v)) (S.add _ _ h i);
      scale = λ c u h. S.resp _ _ (R.symm ((left_linear A pos e).scale c u)) (S.scale c _ h);
    }

    away : (j : ℕ) → j < A.dimension → ¬ (here j) → In (times A (x j) e)
    away j l not = go (dec_lt j (length us))
      where
        long : length us + length nil.basis ≡ A.dimension
        long = sym (length-append us nil.basis) ∙ inv.long

        go : Dec (j < length us) → In (times A (x j) e)
        go (yes m) =
            let i = f.inside j m in
            let none : M.◌≋◌ (times A (get_or us j []) e) M.origin = R.trans (R.mul_cong (R.symm i.1) (R.rfl e)) (R.trans (R.mul_assoc (get_or us j []) (get_or es (get_or numbers j 0) []) e)
            (R.trans (R.mul_cong (R.rfl (get_or us j [])) (orthogonal_at A prime a es w.orthogonal (get_or numbers j 0) k i.0 small (λ q. not (m, q)))) (Derived.mul_zero R (get_or us j [])))) in
            subst (λ u. In (times A u e)) (sym (get_or_append_left us nil.basis [] j m)) (S.resp _ _ (R.symm none) S.none)
        go (no m) =
            let beyond : length us ≤ j = omega arith in
            subst (λ u. In (times A u e)) (sym (get_or-append_right us nil.basis (length us) j [] refl beyond))
            (S.resp _ _ (R.mul_comm e _) ((Ground.members_ideal A prime a nil (radical_ideal A prime a nil rad)).scale e _
            (Modules.span_self (residues A.prime pos) M nil.basis (j - length us) [] (omega (arith, long)))))

    -- where two linear maps agree at one place is a submodule
    entry_submodule : (g h : List ℕ → List ℕ) → IsLinear (elements A) (elements A) g → IsLinear (elements A) (elements A) h → (j : ℕ) → j < A.dimension → IsSubmodule (elements A) (λ v. get_or (g v) j 0 % A.prime ≡ get_or (h v) j 0 % A.prime)
    entry_submodule g h m o j l = record {
      resp = λ u v q r. sym (m.resp u v q j l) ∙ (r ∙ o.resp u v q j l);
      none = linear-origin (residues A.prime pos) M M g m j l ∙ sym (linear-origin (residues A.prime pos) M M h o j l);
      add = λ u v q r. m.add u v j l ∙ (ap (λ z. z % A.prime) (row-entry A.dimension _ j l) ∙ (sum_same A.prime (get_or (g u) j 0) (get_or (g v) j 0) (get_or (h u) j 0) (get_or (h v) j 0) q r
          ∙ sym (o.add u v j l ∙ ap (λ z. z % A.prime) (row-entry A.dimension _ j l))));
      scale = λ c u q. m.scale c u j l ∙ (ap (λ z. z % A.prime) (row-entry A.dimension _ j l) ∙ (multiple_same A.prime c (get_or (g u) j 0) (get_or (h u) j 0) q
          ∙ sym (o.scale c u j l ∙ ap (λ z. z % A.prime) (row-entry A.dimension _ j l))));
    }

    place_room : (j : ℕ) → here j → j < A.dimension
    place_room j h = omega (arith, h.0, length-append us nil.basis, inv.long)

    -- the coordinates of other elements of the basis
    other_none : (i j : ℕ) → i < A.dimension → here j → j ≢ i → get_or (coordinates (x i)) j 0 % A.prime ≡ 0 % A.prime
    other_none i j l h n = ap (λ z. z % A.prime) (ap (λ r. get_or r j 0) (inv.left i l) ∙ unit-other A.dimension i j (place_room j h) n)

    origin_linear : IsLinear (elements A) (elements A) (λ v. M.origin)
    origin_linear = record { resp = λ u v q. M.rfl M.origin; add = λ u v. M.symm (M.add_origin M.origin); scale = λ c u. M.symm (Modules.scale_origin (residues A.prime pos) M c) }

    -- the coordinates at the own elements
    abbrev Same : ℕ → List ℕ → Type 0
    Same j v = get_or (coordinates v) j 0 % A.prime ≡ get_or (coordinates (times A v e)) j 0 % A.prime

    nil_none : (j : ℕ) → here j → (v : List ℕ) → In v → get_or (coordinates v) j 0 % A.prime ≡ 0 % A.prime
    nil_none j h v i = Modules.span_least (residues A.prime pos) M (λ u. get_or (coordinates u) j 0 % A.prime ≡ get_or M.origin j 0 % A.prime)
        (entry_submodule coordinates (λ u. M.origin) coordinates_linear origin_linear j (place_room j h)) nil.basis
        (All-from_get_or (λ u. get_or (coordinates u) j 0 % A.prime ≡ get_or M.origin j 0 % A.prime) nil.basis [] (λ t l. each t l ∙ sym origin_entry)) v i
        ∙ origin_entry
      where
        origin_entry : get_or M.origin j 0 % A.prime ≡ 0 % A.prime
        origin_entry = ap (λ z. z % A.prime) (row-entry A.dimension _ j (place_room j h))

        each : (t : ℕ) → t < length nil.basis → get_or (coordinates (get_or nil.basis t [])) j 0 % A.prime ≡ 0 % A.prime
        each t l =
            let is : x (length us + t) ≡ get_or nil.basis t [] = get_or-append_right us nil.basis (length us) (length us + t) [] refl (omega arith) ∙ ap (λ i. get_or nil.basis i []) (let q : length us + t - length us ≡ t = omega arith in q) in
            let room : length us + t < A.dimension = omega (arith, length-append us nil.basis, inv.long) in
            subst (λ u. get_or (coordinates u) j 0 % A.prime ≡ 0 % A.prime) is (other_none (length us + t) j room h (λ q. let m : j < length us = h.0 in absurd (omega arith)))

    unchanged : (j : ℕ) → here j → (v : List ℕ) → Same j v
    unchanged j h v = all_by_basis (Same j)
        (entry_submodule coordinates (λ u. coordinates (times A u e)) coordinates_linear (linear_then (residues A.prime pos) M M M (λ u. times A u e) coordinates (left_linear A pos e) coordinates_linear) j (place_room j h))
        (λ i l. each i l (is_here i)) v
      where
        each : (i : ℕ) → i < A.dimension → Dec (here i) → Same j (x i)
        each i l (yes q) = sym (coordinates_linear.resp _ _ (own i q) j (place_room j h))
        each i l (no q) = other_none i j l h (λ r. q (subst here r h)) ∙ sym (nil_none j h (times A (x i) e) (away i l q))

    -- an element goes to a nilpotent one exactly where its coordinates at the own elements are 0
    pub goes_to_nilpotent : (v : List ℕ) → ((j : ℕ) → here j → get_or (coordinates v) j 0 % A.prime ≡ 0 % A.prime) → In (times A v e)
    goes_to_nilpotent v z = I.resp _ _ (M.trans (M.symm (product-along A.prime pos A.dimension A.dimension (us ++ nil.basis) inv.long (coordinates v))) (back v))
        (total_in (residues A.prime pos) M (λ u. In (times A u e)) I (λ j. M.◌·◌ (get_or (coordinates v) j 0) (x j)) A.dimension (λ j l. each j l (is_here j)))
      where
        each : (j : ℕ) → j < A.dimension → Dec (here j) → In (times A (M.◌·◌ (get_or (coordinates v) j 0) (x j)) e)
        each j l (yes h) = I.resp _ _ (M.symm (M.trans (M.scale_cong {c = get_or (coordinates v) j 0} {c' = 0} (z j h) (M.rfl (x j))) (Modules.zero_scale (residues A.prime pos) M (x j)))) I.none
        each j l (no h) = I.scale (get_or (coordinates v) j 0) (x j) (away j l h)

    pub own_coordinates : (v : List ℕ) → In (times A v e) → (j : ℕ) → here j → get_or (coordinates v) j 0 % A.prime ≡ 0 % A.prime
    own_coordinates v h j m = unchanged j m v ∙ nil_none j m (times A v e) h

    -- so the kernel of the coordinates at the own elements is the ideal at the idempotent
    pub ideal_by_columns : (places : List ℕ) → ArePlacesOf numbers (length numbers) k places → (columns : List (List ℕ)) → columns ≡ map (entries_at places) qs → (s : Subspace) → s.prime ≡ A.prime → s.width ≡ length columns
        → ((v : List ℕ) → length v ≡ length columns → IsIn s v ↔ IsZero A.prime (length places) (product A.prime (length places) v columns)) → IsIdealAt A nil e s
    ideal_by_columns places pl columns is s sp sw members = record {
      prime = sp;
      width = sw ∙ long;
      members = λ v fits. (
        λ h. Ground.outward A prime a nil (radical_ideal A prime a nil rad) _ (goes_to_nilpotent v (λ j m. from v ((members v (fits.0 ∙ sym long)).0 h) j m)),
        λ h. (members v (fits.0 ∙ sym long)).1 (λ t l. to v (own_coordinates v (Ground.inward A prime a nil (radical_ideal A prime a nil rad) _ h)) t l),
      );
    }
      where
        long : length columns ≡ A.dimension
        long = ap length is ∙ (length-map qs (entries_at places) ∙ inv.count)

        room : (t : ℕ) → t < length places → here (get_or places t 0)
        room t l = (let m : get_or places t 0 < length numbers = pl.within t l in omega (arith, f.count), pl.own t l)

        entry_is : (v : List ℕ) (t : ℕ) → t < length places → get_or (product A.prime (length places) v columns) t 0 ≡ get_or (coordinates v) (get_or places t 0) 0
        entry_is v t l = ap (λ cs. get_or (product A.prime (length places) v cs) t 0) is ∙ column-entry A.prime A.dimension v qs places t l (place_room _ (room t l))

        zero_entry : (t : ℕ) → t < length places → get_or ((rows A.prime (length places)).origin) t 0 % A.prime ≡ 0 % A.prime
        zero_entry t l = ap (λ z. z % A.prime) (row-entry (length places) _ t l)

        from : (v : List ℕ) → IsZero A.prime (length places) (product A.prime (length places) v columns) → (j : ℕ) → here j → get_or (coordinates v) j 0 % A.prime ≡ 0 % A.prime
        from v z j h =
            let m : j < length numbers = omega (arith, h.0, f.count) in
            let at_place = pl.all j m h.1 in
            subst (λ i. get_or (coordinates v) i 0 % A.prime ≡ 0 % A.prime) at_place.2 (ap (λ y. y % A.prime) (sym (entry_is v at_place.0 at_place.1)) ∙ (z at_place.0 at_place.1 ∙ zero_entry at_place.0 at_place.1))

        to : (v : List ℕ) → ((j : ℕ) → here j → get_or (coordinates v) j 0 % A.prime ≡ 0 % A.prime) → (t : ℕ) → t < length places → get_or (product A.prime (length places) v columns) t 0 % A.prime ≡ get_or ((rows A.prime (length places)).origin) t 0 % A.prime
        to v z t l = ap (λ y. y % A.prime) (entry_is v t l) ∙ (z _ (room t l) ∙ sym (zero_entry t l))
