-- Orthogonal idempotents with the one as their sum: sums, replacing one by its parts, and the maximal ideals at them.
use Rattle.std.proofs.Common.{◌≡◌, ◌≢◌, ◌⊎◌, inl, inr, refl, sym, ap, subst, ◌∙◌, ℕ, zero, suc, ◌+◌, ◌-◌, ◌*◌, ◌<◌, List, [], ◌∷◌, ◌++◌, length, get_or, All, arith, length-append}
use Rattle.std.proofs.lemmas.List.{get_or_append_left, get_or-append_right}
use Rattle.std.proofs.lemmas.List.Elements.{All-append, All-cons, All-from_get_or, All-nil}
use Rattle.prime_field.specs.Primes.{IsPrime}
use Rattle.comm_ring.specs.Ring.{CommRing, pow, number}
use Rattle.comm_ring.specs.Modules.{InSpan}
use Rattle.comm_ring.proofs.Derived as Derived
use Rattle.comm_ring.proofs.Quote.{ring, ring_by, fact, quote}
use Rattle.row_space.specs.Subspace.{Subspace, IsIn, IsZero}
use Rattle.finite_algebra.specs.Elements.{FiniteAlgebra, IsAlgebra, IsElement, elements, ring_of, IsNilpotent}
use Rattle.finite_algebra.specs.Projections.{IsIdealOf}
use Rattle.finite_algebra.proofs.Generated.{moved}
use Rattle.finite_algebra.proofs.Products.{reduced, reduced_fits, times_fits}
use Rattle.frobenius_laws.proofs.Ideals.{InOrInverse, is_radical}
use Rattle.frobenius_split.specs.Points.{AreMaximalIdeals, IsMaximalIdeal, at}
use Rattle.frobenius_map.specs.Nilpotent.{IsRadicalOf}
use Rattle.frobenius_split.specs.Parts.{AreParts, ArePulledApart, HasValue, IsPart, number_of}
use Rattle.frobenius_map.specs.Powers.{IsWithin}
use Rattle.frobenius_split.specs.Idempotents.{AreIdempotents, AreIdempotentsIn, AreIdempotentsOf, AreOrthogonal, IsIdealAt, IsNumberAt, sum_of}
use Rattle.frobenius_split.proofs.AllMaximal.{maximal_inverse, maximal_proper}
use Rattle.frobenius_map.proofs.Ground as Ground

-- what holds of two lists together holds of each
pub all_left : {X : Type 0} (P : X → Type 0) (xs ys : List X) → All P (xs ++ ys) → All P xs
all_left P xs ys h = λ i d l. subst P (get_or_append_left xs ys d i l) (h i d (omega (arith, length-append xs ys)))

pub all_right : {X : Type 0} (P : X → Type 0) (xs ys : List X) → All P (xs ++ ys) → All P ys
all_right P xs ys h = λ i d l. subst P (get_or-append_right xs ys (length xs) (length xs + i) d refl (omega arith) ∙ ap (λ k. get_or ys k d) (let e : length xs + i - length xs ≡ i = omega arith in e))
    (h (length xs + i) d (omega (arith, length-append xs ys)))

module _ (A : FiniteAlgebra) (prime : IsPrime A.prime) (a : IsAlgebra A) where
  abbrev pos : 0 < A.prime
  pos = Ground.positive A prime a

  abbrev R : CommRing
  R = Ground.R A prime a

  open R use {◌≈◌, ◌⊕◌, ◌⊗◌, neg, 𝟘, 𝟙}

  infix 40 ◌≈◌
  infixl 60 ◌⊕◌
  infixl 70 ◌⊗◌
  pub sum-append : (xs ys : List (List ℕ)) → sum_of A (xs ++ ys) ≈ sum_of A xs ⊕ sum_of A ys
  sum-append [] ys = R.symm (Derived.zero_add R (sum_of A ys))
  sum-append (x ∷ xs) ys = R.trans (R.add_cong (R.rfl x) (sum-append xs ys)) (R.symm (R.add_assoc x (sum_of A xs) (sum_of A ys)))

  -- the sum of what equals the products with y
  pub sum_times : (y : List ℕ) (xs zs : List (List ℕ)) → length xs ≡ length zs → ((i : ℕ) → i < length xs → y ⊗ get_or xs i [] ≈ get_or zs i []) → y ⊗ sum_of A xs ≈ sum_of A zs
  sum_times y [] [] e h = Derived.mul_zero R y
  sum_times y [] (z ∷ zs) e h = absurd (omega arith)
  sum_times y (x ∷ xs) [] e h = absurd (omega arith)
  sum_times y (x ∷ xs) (z ∷ zs) e h = R.trans (R.distrib y x (sum_of A xs)) (R.add_cong (h 0 (omega arith)) (sum_times y xs zs (omega arith) (λ i l. h (suc i) (omega arith))))

  sum_none : (y : List ℕ) (xs : List (List ℕ)) → All (λ x. y ⊗ x ≈ 𝟘) xs → y ⊗ sum_of A xs ≈ 𝟘
  sum_none y [] h = Derived.mul_zero R y
  sum_none y (x ∷ xs) h = R.trans (R.distrib y x (sum_of A xs)) (R.trans (R.add_cong (h 0 [] (omega arith)) (sum_none y xs (λ i d l. h (suc i) d (omega arith)))) (R.add_zero 𝟘))

  -- two different ones
  pub orthogonal_at : (xs : List (List ℕ)) → AreOrthogonal A xs → (i j : ℕ) → i < length xs → j < length xs → i ≢ j → get_or xs i [] ⊗ get_or xs j [] ≈ 𝟘
  orthogonal_at [] o i j l m n = absurd (omega arith)
  orthogonal_at (x ∷ xs) o zero zero l m n = absurd (n refl)
  orthogonal_at (x ∷ xs) o zero (suc j) l m n = o.0 j [] (omega arith)
  orthogonal_at (x ∷ xs) o (suc i) zero l m n = R.trans (R.mul_comm (get_or xs i []) x) (o.0 i [] (omega arith))
  orthogonal_at (x ∷ xs) o (suc i) (suc j) l m n = orthogonal_at xs o.1 i j (omega arith) (omega arith) (λ e. n (ap suc e))

  -- and by two indices
  pub orthogonal_from : (xs : List (List ℕ)) → ((i j : ℕ) → i < j → j < length xs → get_or xs i [] ⊗ get_or xs j [] ≈ 𝟘) → AreOrthogonal A xs
  orthogonal_from [] h = tt
  orthogonal_from (x ∷ xs) h = (All-from_get_or (λ y. x ⊗ y ≈ 𝟘) xs [] (λ j l. h 0 (suc j) (omega arith) (omega arith)), orthogonal_from xs (λ i j l m. h (suc i) (suc j) (omega arith) (omega arith)))

  single_ring : (x s : List ℕ) → x ⊗ s ≈ 𝟘 → (x ⊕ s) ⊗ x ≈ x ⊗ x
  single_ring x s e = ring_by R (x ∷ s ∷ []) (fact 𝟙 _ _ e ∷ []) (search quote depth 20) tt

  rest_ring : (x s y : List ℕ) → x ⊗ y ≈ 𝟘 → (x ⊕ s) ⊗ y ≈ s ⊗ y
  rest_ring x s y e = ring_by R (x ∷ s ∷ y ∷ []) (fact 𝟙 _ _ e ∷ []) (search quote depth 20) tt

  sum_at : (xs : List (List ℕ)) → AreOrthogonal A xs → (i : ℕ) → i < length xs → sum_of A xs ⊗ get_or xs i [] ≈ get_or xs i [] ⊗ get_or xs i []
  sum_at [] o i l = absurd (omega arith)
  sum_at (x ∷ xs) o zero l = single_ring x (sum_of A xs) (sum_none x xs o.0)
  sum_at (x ∷ xs) o (suc i) l = R.trans (rest_ring x (sum_of A xs) (get_or xs i []) (o.0 i [] (omega arith))) (sum_at xs o.1 i (omega arith))

  -- each is its own square
  pub own_square : (e : List ℕ) (es : List (List ℕ)) → AreIdempotentsIn A e es → (i : ℕ) → i < length es → get_or es i [] ⊗ get_or es i [] ≈ get_or es i []
  own_square e es w i l = R.trans (R.symm (sum_at es w.orthogonal i l)) (R.trans (R.mul_cong w.sum (R.rfl _)) (w.inside i [] l))

  orthogonal_append : (xs ys : List (List ℕ)) → AreOrthogonal A xs → AreOrthogonal A ys → All (λ x. All (λ y. x ⊗ y ≈ 𝟘) ys) xs → AreOrthogonal A (xs ++ ys)
  orthogonal_append [] ys o p h = p
  orthogonal_append (x ∷ xs) ys o p h = (All-append (λ y. x ⊗ y ≈ 𝟘) xs ys o.0 (h 0 [] (omega arith)), orthogonal_append xs ys o.1 p (λ i d l. h (suc i) d (omega arith)))

  pass_ring : (e g y : List ℕ) → e ⊗ g ≈ g → e ⊗ y ≈ 𝟘 → g ⊗ y ≈ 𝟘
  pass_ring e g y h k = R.trans (R.mul_cong (R.symm h) (R.rfl y)) (R.trans (swap_ring e g y) (R.trans (R.mul_cong (R.rfl g) k) (Derived.mul_zero R g)))
    where
      swap_ring : (e g y : List ℕ) → (e ⊗ g) ⊗ y ≈ g ⊗ (e ⊗ y)
      swap_ring e g y = ring R (e ∷ g ∷ y ∷ []) (search quote depth 20) tt

  -- one of them is replaced by its parts
  module _ (e : List ℕ) (back gs : List (List ℕ)) (w : AreIdempotentsIn A e gs) where
    replaced_orthogonal : (front : List (List ℕ)) → AreOrthogonal A (front ++ e ∷ back) → AreOrthogonal A (front ++ (gs ++ back))
    replaced_orthogonal [] o = orthogonal_append gs back w.orthogonal o.1 (λ i d l. λ j b m. pass_ring e (get_or gs i d) (get_or back j b) (w.inside i d l) (o.0 j b m))
    replaced_orthogonal (x ∷ xs) o = (
      All-append (λ y. x ⊗ y ≈ 𝟘) xs (gs ++ back) (all_left (λ y. x ⊗ y ≈ 𝟘) xs (e ∷ back) o.0)
          (All-append (λ y. x ⊗ y ≈ 𝟘) gs back
          (λ i d l. R.trans (R.mul_comm x (get_or gs i d)) (pass_ring e (get_or gs i d) x (w.inside i d l) (R.trans (R.mul_comm e x) (all_right (λ y. x ⊗ y ≈ 𝟘) xs (e ∷ back) o.0 0 [] (omega arith)))))
          (λ j b m. all_right (λ y. x ⊗ y ≈ 𝟘) xs (e ∷ back) o.0 (suc j) b (omega arith))),
      replaced_orthogonal xs o.1,
    )

    pub replaced : (front : List (List ℕ)) → AreIdempotents A (front ++ e ∷ back) → AreIdempotents A (front ++ (gs ++ back))
    replaced front v = record {
      rows = exchange (IsElement A) v.rows w.rows;
      nonzero = exchange (λ f. ¬ (IsZero A.prime A.dimension f)) v.nonzero w.nonzero;
      inside = λ i d l. Derived.one_mul R _;
      orthogonal = replaced_orthogonal front v.orthogonal;
      sum = R.trans (sum-append front (gs ++ back)) (R.trans (R.add_cong (R.rfl (sum_of A front)) (R.trans (sum-append gs back) (R.add_cong w.sum (R.rfl (sum_of A back))))) (R.trans (R.symm (sum-append front (e ∷ back))) v.sum));
    }
      where
        exchange : (P : List ℕ → Type 0) → All P (front ++ e ∷ back) → All P gs → All P (front ++ (gs ++ back))
        exchange P h k = All-append P front (gs ++ back) (all_left P front (e ∷ back) h) (All-append P gs back k (λ i d l. all_right P front (e ∷ back) h (suc i) d (omega arith)))

    -- a number at e is one at its parts
    part_ring : (v g x : List ℕ) → e ⊗ g ≈ g → v ⊗ e ≈ x ⊗ e → v ⊗ g ≈ x ⊗ g
    part_ring v g x h k = R.trans (R.mul_cong (R.rfl v) (R.symm h)) (R.trans (R.symm (R.mul_assoc v e g)) (R.trans (R.mul_cong k (R.rfl g)) (R.trans (R.mul_assoc x e g) (R.mul_cong (R.rfl x) h))))

    pub number_at_parts : (v : List ℕ) → IsNumberAt A v e → All (IsNumberAt A v) gs
    number_at_parts v n i d l = (
      n.0,
      R.trans (part_ring v (get_or gs i d) (number (ring_of A) n.0) (w.inside i d l) (R.trans n.1 (Ground.scaled-is A prime a n.0 e))) (R.symm (Ground.scaled-is A prime a n.0 (get_or gs i d))),
    )

  nil_times : (x y : List ℕ) → IsNilpotent A y → IsNilpotent A (x ⊗ y)
  nil_times x y h = (h.0, R.trans (Derived.mul-pow R x y h.0) (R.trans (R.mul_cong (R.rfl (pow (ring_of A) x h.0)) h.1) (Derived.mul_zero R (pow (ring_of A) x h.0))))

  nil_same : (x y : List ℕ) → x ≈ y → IsNilpotent A x → IsNilpotent A y
  nil_same x y e h = (h.0, R.trans (Derived.pow_cong R h.0 (R.symm e)) h.1)

  nil_zero : (x : List ℕ) → x ≈ 𝟘 → IsNilpotent A x
  nil_zero x e = (1, R.trans (Derived.pow-one R x) e)

  less_ring : (u n e : List ℕ) → u ⊗ e ≈ n ⊗ e → (u ⊕ neg n) ⊗ e ≈ 𝟘
  less_ring u n e h = ring_by R (u ∷ n ∷ e ∷ []) (fact 𝟙 _ _ h ∷ []) (search quote depth 20) tt

  one_less_ring : (e : List ℕ) → e ⊗ e ≈ e → (𝟙 ⊕ neg e) ⊗ e ≈ 𝟘
  one_less_ring e h = ring_by R (e ∷ []) (fact (neg 𝟙) _ _ h ∷ []) (search quote depth 20) tt

  twice_ring : (e f : List ℕ) → (𝟙 ⊕ neg (𝟙 ⊕ neg e)) ⊗ f ≈ e ⊗ f
  twice_ring e f = ring R (e ∷ f ∷ []) (search quote depth 20) tt

  back_ring : (f e g : List ℕ) → g ⊗ (f ⊗ e) ⊕ neg f ⊗ (e ⊗ g ⊕ neg 𝟙) ≈ f
  back_ring f e g = ring R (f ∷ e ∷ g ∷ []) (search quote depth 20) tt

  -- the elements whose product with an idempotent is nilpotent
  module _ (nilpotent : Subspace) (rad : IsRadicalOf A nilpotent) (e : List ℕ) (square : e ⊗ e ≈ e) (nonzero : ¬ (e ≈ 𝟘)) (s : Subspace) (w : IsIdealAt A nilpotent e s) where
    into : (f : List ℕ) → IsIn s f → InSpan (elements A) s.basis f
    into f h = moved s.prime A.prime s.width A.dimension s.basis f w.prime w.width h

    out : (f : List ℕ) → InSpan (elements A) s.basis f → IsIn s f
    out f h = moved A.prime s.prime A.dimension s.width s.basis f (sym w.prime) (sym w.width) h

    same_row : (f g : List ℕ) → f ≈ g → IsIn s f → IsIn s g
    same_row f g h i = out g ((Ground.span_of A prime a s.basis).resp f g h (into f i))

    -- for all rows, also those that are not reduced
    pub nil_of : (x : List ℕ) → IsIn s x → IsNilpotent A (x ⊗ e)
    nil_of x h =
        let r = reduced A pos x in
        nil_same (r ⊗ e) (x ⊗ e) (R.mul_cong (Ground.reduced_is A prime a x) (R.rfl e))
        ((rad.members (r ⊗ e) (times_fits A pos r e)).0 ((w.members r (reduced_fits A pos x)).0 (same_row x r (R.symm (Ground.reduced_is A prime a x)) h)))

    pub of_nil : (x : List ℕ) → IsNilpotent A (x ⊗ e) → IsIn s x
    of_nil x h =
        let r = reduced A pos x in
        same_row r x (Ground.reduced_is A prime a x) ((w.members r (reduced_fits A pos x)).1 ((rad.members (r ⊗ e) (times_fits A pos r e)).1
        (nil_same (x ⊗ e) (r ⊗ e) (R.mul_cong (R.symm (Ground.reduced_is A prime a x)) (R.rfl e)) h)))

    pub ideal : IsIdealOf A s
    ideal = record { prime = w.prime; width = w.width; absorbs = λ x f h k l. of_nil (x ⊗ f) (nil_same (x ⊗ (f ⊗ e)) ((x ⊗ f) ⊗ e) (R.symm (R.mul_assoc x f e)) (nil_times x (f ⊗ e) (nil_of f l))) }

    power_own : (k : ℕ) → pow (ring_of A) e k ⊗ e ≈ e
    unfolding pow
    power_own zero = Derived.one_mul R e
    power_own (suc k) = R.trans (R.mul_assoc e (pow (ring_of A) e k) e) (R.trans (R.mul_cong (R.rfl e) (power_own k)) square)

    proper : ¬ (IsIn s A.one)
    proper h = let n = nil_of A.one h in
        let k = n.0 in
        let z : pow (ring_of A) e n.0 ≈ 𝟘 = R.trans (Derived.pow_cong R n.0 (R.symm (Derived.one_mul R e))) n.1 in
        nonzero (R.trans (R.symm (power_own n.0)) (R.trans (R.mul_cong z (R.rfl e)) (Derived.zero_mul R e)))

    power_suc : (x : List ℕ) (k : ℕ) → pow (ring_of A) (x ⊗ e) (suc k) ≈ pow (ring_of A) x (suc k) ⊗ e
    power_suc x k = R.trans (Derived.mul-pow R x e (suc k)) (R.mul_cong (R.rfl _) (R.trans (Derived.pow-suc R e k) (R.trans (R.mul_comm e (pow (ring_of A) e k)) (power_own k))))

    radical : (x : List ℕ) (k : ℕ) → IsIn s (pow (ring_of A) x k) → IsIn s x
    unfolding pow
    radical x zero h = absurd (proper h)
    radical x (suc k) h = let n = nil_of (pow (ring_of A) x (suc k)) h in
        of_nil x (suc k * n.0, R.trans (Derived.pow-mul R (x ⊗ e) (suc k) n.0) (R.trans (Derived.pow_cong R n.0 (power_suc x k)) n.1))

    value : (u : List ℕ) → IsNumberAt A u e → HasValue A s u
    value u n = (
      n.0,
      Ground.differ_outward A prime a s ideal u (number_of A n.0) (into _ (of_nil _ (nil_zero _ (less_ring u (number_of A n.0) e
          (R.trans n.1 (R.trans (Ground.scaled-is A prime a n.0 e) (R.mul_cong (Ground.number-is A prime a n.0) (R.rfl e)))))))),
    )

    pub part : (us : List (List ℕ)) → ((k : ℕ) → k < length us → IsNumberAt A (get_or us k []) e) → IsPart A us (length us) s
    part us numbers = record { ideal = ideal; proper = proper; radical = radical; values = λ k l. value (get_or us k []) (numbers k l) }

    -- it lies within each maximal ideal modulo which e has an inverse
    pub within : (M : Subspace) (m : IsMaximalIdeal A M) (g : List ℕ) → InSpan (elements A) M.basis (e ⊗ g ⊕ neg 𝟙) → IsWithin s M
    within M m g h f l =
        let n = nil_of f l in
        let i = Ground.members_ideal A prime a M m.ideal in
        let inside = is_radical R A.prime prime (Ground.vanishes A prime a) (InSpan (elements A) M.basis) i (maximal_proper A prime a M m) (maximal_inverse A prime a M m) (f ⊗ e) n.0 (i.resp _ _ (R.symm n.1) i.none) in
        Ground.outward A prime a M m.ideal f (i.resp _ _ (back_ring f e g) (i.add _ _ (i.scale g _ inside) (i.scale (neg f) _ h)))

  pub pulled : (nilpotent : Subspace) → IsRadicalOf A nilpotent → (e f : List ℕ) → e ⊗ e ≈ e → ¬ (e ≈ 𝟘) → f ⊗ f ≈ f → ¬ (f ≈ 𝟘) → e ⊗ f ≈ 𝟘 → (s t : Subspace) → IsIdealAt A nilpotent e s → IsIdealAt A nilpotent f t → ArePulledApart A s t
  pulled nilpotent rad e f ee en ff fn ef s t w v = (
    𝟙 ⊕ neg e,
    of_nil nilpotent rad e ee en s w (𝟙 ⊕ neg e) (nil_zero _ (one_less_ring e ee)),
    Ground.differ_outward A prime a t (ideal nilpotent rad f ff fn t v) 𝟙 (𝟙 ⊕ neg e) (into nilpotent rad f ff fn t v _ (of_nil nilpotent rad f ff fn t v _ (nil_zero _ (R.trans (twice_ring e f) ef)))),
  )

  -- modulo a maximal ideal one of them has an inverse
  module _ (M : Subspace) (m : IsMaximalIdeal A M) where
    abbrev In : List ℕ → Type 0
    In f = InSpan (elements A) M.basis f

    sum_in : (xs : List (List ℕ)) → All In xs → In (sum_of A xs)
    sum_in [] h = (Ground.span_of A prime a M.basis).none
    sum_in (x ∷ xs) h = (Ground.span_of A prime a M.basis).add x (sum_of A xs) (h 0 [] (omega arith)) (sum_in xs (λ i d l. h (suc i) d (omega arith)))

    abbrev Invertible : List (List ℕ) → Type 0
    Invertible xs = (i : ℕ) × (i < length xs) × ((g : List ℕ) × In (get_or xs i [] ⊗ g ⊕ neg 𝟙))

    find : (xs : List (List ℕ)) → All In xs ⊎ Invertible xs
    find [] = inl (All-nil In)
    find (x ∷ xs) = go (maximal_inverse A prime a M m x) (find xs)
      where
        go : InOrInverse R In x → All In xs ⊎ Invertible xs → All In (x ∷ xs) ⊎ Invertible (x ∷ xs)
        go (inr g) r = inr (0, omega arith, g)
        go (inl h) (inl k) = inl (All-cons In x xs h k)
        go (inl h) (inr k) = inr (suc k.0, (let l : k.0 < length xs = k.1 in omega arith), k.2)

    pub invertible : (es : List (List ℕ)) → AreIdempotents A es → Invertible es
    invertible es w = go (find es)
      where
        go : All In es ⊎ Invertible es → Invertible es
        go (inl h) = absurd (maximal_proper A prime a M m ((Ground.span_of A prime a M.basis).resp _ _ w.sum (sum_in es h)))
        go (inr i) = i

  -- so the ideals at idempotents at which each fixed element is a number are the parts
  pub parts_at : (nilpotent : Subspace) → IsRadicalOf A nilpotent → (us es : List (List ℕ)) → AreIdempotents A es → ((k : ℕ) → k < length us → All (IsNumberAt A (get_or us k [])) es) → (spaces : List Subspace) → length spaces ≡ length es
      → ((i : ℕ) → i < length es → IsIdealAt A nilpotent (get_or es i []) (at spaces i)) → AreParts A us (length us) spaces
  parts_at nilpotent rad us es w numbers spaces count each = record {
    each = λ i l. part nilpotent rad (get_or es i []) (squared i (short i l)) (w.nonzero i [] (short i l)) (at spaces i) (each i (short i l)) us (λ k h. numbers k h i [] (short i l));
    apart = λ i j l k n. pulled nilpotent rad (get_or es i []) (get_or es j []) (squared i (short i l)) (w.nonzero i [] (short i l)) (squared j (short j k)) (w.nonzero j [] (short j k))
        (orthogonal_at es w.orthogonal i j (short i l) (short j k) n) (at spaces i) (at spaces j) (each i (short i l)) (each j (short j k));
    all = λ M m. let v = invertible M m es w in
        (v.0, (let l : v.0 < length es = v.1 in omega (arith, count)), within nilpotent rad (get_or es v.0 []) (squared v.0 v.1) (w.nonzero v.0 [] v.1) (at spaces v.0) (each v.0 v.1) M m v.2.0 v.2.1);
  }
    where
      short : (i : ℕ) → i < length spaces → i < length es
      short i l = omega (arith, count)

      squared : (i : ℕ) → i < length es → get_or es i [] ⊗ get_or es i [] ≈ get_or es i []
      squared i l = own_square A.one es w i l

  less_one_ring : (e : List ℕ) → e ⊗ e ≈ e → (e ⊕ neg 𝟙) ⊗ e ≈ 𝟘
  less_one_ring e h = ring_by R (e ∷ []) (fact 𝟙 _ _ h ∷ []) (search quote depth 20) tt

  -- and the idempotents are those of these ideals
  pub idempotents_of : (nilpotent : Subspace) → IsRadicalOf A nilpotent → (es : List (List ℕ)) → AreIdempotents A es → (spaces : List Subspace) → length spaces ≡ length es
      → ((i : ℕ) → i < length es → IsIdealAt A nilpotent (get_or es i []) (at spaces i)) → AreIdempotentsOf A spaces es
  idempotents_of nilpotent rad es w spaces count each = record {
    count = sym count;
    idempotents = w;
    square = own_square A.one es w;
    own = λ i l. Ground.differ_outward A prime a (at spaces i) (ideal nilpotent rad (get_or es i []) (own_square A.one es w i l) (w.nonzero i [] l) (at spaces i) (each i l)) (get_or es i []) 𝟙
        (into nilpotent rad (get_or es i []) (own_square A.one es w i l) (w.nonzero i [] l) (at spaces i) (each i l) _
        (of_nil nilpotent rad (get_or es i []) (own_square A.one es w i l) (w.nonzero i [] l) (at spaces i) (each i l) _ (nil_zero _ (less_one_ring (get_or es i []) (own_square A.one es w i l)))));
    others = λ i j l k n. of_nil nilpotent rad (get_or es j []) (own_square A.one es w j k) (w.nonzero j [] k) (at spaces j) (each j k) (get_or es i []) (nil_zero _ (orthogonal_at es w.orthogonal i j l k n));
    members = λ i l x fits. (
      λ h. (rad.members (x ⊗ get_or es i []) (times_fits A pos x (get_or es i []))).0 (((each i l).members x fits).0 h),
      λ h. ((each i l).members x fits).1 ((rad.members (x ⊗ get_or es i []) (times_fits A pos x (get_or es i []))).1 h),
    );
  }

  -- the nilpotent elements are an ideal
  pub radical_ideal : (nilpotent : Subspace) → IsRadicalOf A nilpotent → IsIdealOf A nilpotent
  radical_ideal nilpotent rad = record { prime = rad.prime; width = rad.width; absorbs = λ x f h k l. (rad.members (x ⊗ f) (times_fits A pos x f)).1 (nil_times x f ((rad.members f k).0 l)) }

  -- an algebra of dimension 0 has no maximal ideal
  pub none_at_zero : A.dimension ≡ 0 → AreMaximalIdeals A []
  none_at_zero e = record {
    each = λ i l. absurd (let m : i < 0 = l in omega arith);
    all = λ M m. absurd (maximal_proper A prime a M m ((Ground.span_of A prime a M.basis).resp R.𝟘 R.𝟙 (λ i l. absurd (omega arith)) (Ground.span_of A prime a M.basis).none));
    once = λ i j l. absurd (let m : i < 0 = l in omega arith);
  }
