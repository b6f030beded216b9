-- The pairs of an element and its p-th power are a space that is closed under products.
use Rattle.std.proofs.Common.{◌≡◌, refl, sym, ap, ap₂, subst, ◌∙◌, ℕ, ◌+◌, ◌-◌, ◌*◌, ◌%◌, ◌<◌, ◌≤◌, List, [], ◌∷◌, ◌++◌, length, get_or, take, drop, map, replicate, All, arith, length-append, length-drop, mod-eq_of_lt}
use Rattle.std.proofs.lemmas.List.{get_or_append_left, get_or-append_right, get_or-take, get_or-drop, get_or-map, get_or-replicate, length-map, length-replicate, length-take-le}
use Rattle.std.proofs.lemmas.List.Elements.{All-from_get_or, All-nil, All-cons, All-weaker, All-append}
use Rattle.std.specs.Prelude.{Option, None, Some, MatchOption}
use Rattle.prime_field.specs.Primes.{IsPrime}
use Rattle.finite_algebra.proofs.Classes.{unit_fits}
use Rattle.comm_ring.specs.Ring.{CommRing, pow}
use Rattle.comm_ring.specs.Modules.{InSpan, IsSubmodule}
use Rattle.comm_ring.proofs.Derived as Derived
use Rattle.comm_ring.proofs.Modules as Modules
use Rattle.comm_ring.proofs.Modules.{Module}
use Rattle.comm_ring.proofs.Residues.{residues}
use Rattle.comm_ring.proofs.Rows.{row_module, row-entry}
use Rattle.lane_rows.specs.Rows.{AreResidues, IsZeroRow}
use Rattle.row_space.specs.Echelon.{IsRow}
use Rattle.row_space.specs.Subspace.{Subspace, DifferIn, FitsIn, product}
use Rattle.row_space.specs.Insertion.{IsInsertion}
use Rattle.row_space.specs.declared.space.Insert.{Insert}
use Rattle.row_space.specs.declared.space.Insert.TheVariants.{Inserted, Dependent}
use Rattle.finite_algebra.specs.Elements.{FiniteAlgebra, IsAlgebra, IsElement, ring_of, unit_row}
use Rattle.finite_algebra.proofs.Totals.{IsLinear, linear-origin, linear-sub, linear_then}
use Rattle.finite_algebra.proofs.Units.{length-unit_row}
use Rattle.finite_algebra.proofs.Multiplication.{product-times}
use Rattle.finite_algebra.proofs.Summing.{combination_fits}
use Rattle.frobenius_map.specs.Powers.{AreProductsOfPair, IsGraph, IsPair, IsOnGraph, IsPowerOfUnit, left_half, right_half}
use Rattle.frobenius_map.proofs.Ground as Ground
use Rattle.finite_algebra.proofs.Generated.{moved}
use Rattle.frobenius_map.proofs.Ground.{differ_moved}

-- where two linear maps agree is a submodule
equalizer : (K : CommRing) (V W : Module K) (f g : V.carrier → W.carrier) → IsLinear V.ops W.ops f → IsLinear V.ops W.ops g → IsSubmodule V.ops (λ x. W.◌≋◌ (f x) (g x))
equalizer K V W f g l m = record {
  resp = λ x y e h. W.trans (W.symm (l.resp x y e)) (W.trans h (m.resp x y e));
  none = W.trans (linear-origin K V W f l) (W.symm (linear-origin K V W g m));
  add = λ x y h k. W.trans (l.add x y) (W.trans (W.add_cong h k) (W.symm (m.add x y)));
  scale = λ c x h. W.trans (l.scale c x) (W.trans (W.scale_cong (K.rfl c) h) (W.symm (m.scale c x)));
}

-- what is said of an option's value
pub match_map : {X : Type 0} (o : Option X) (P Q : X → Type 0) → ((x : X) → P x → Q x) → MatchOption o (Unit {0}) P → MatchOption o (Unit {0}) Q
match_map None P Q f h = tt
match_map (Some x) P Q f h = f x h

module _ (A : FiniteAlgebra) (prime : IsPrime A.prime) (a : IsAlgebra A) where
  abbrev p : ℕ
  p = A.prime

  abbrev n : ℕ
  n = A.dimension

  abbrev pos : 0 < A.prime
  pos = Ground.positive A prime a

  abbrev R : CommRing
  R = Ground.R A prime a

  abbrev M : Module (residues A.prime pos)
  M = Ground.M A prime a

  abbrev D : Module (residues A.prime pos)
  D = row_module A.prime pos (A.dimension + A.dimension)

  pub left_linear_half : IsLinear D.ops M.ops (left_half A)
  left_linear_half = record {
    resp = λ x y e i l. ap (λ z. z % p) (row-entry n _ i l) ∙ (e i (omega arith) ∙ sym (ap (λ z. z % p) (row-entry n _ i l)));
    add = λ x y i l. ap (λ z. z % p) (row-entry n _ i l ∙ (row-entry (n + n) _ i (omega arith) ∙ sym (row-entry n _ i l ∙ ap₂ (λ u v. (u + v) % p) (row-entry n _ i l) (row-entry n _ i l))));
    scale = λ c x i l. ap (λ z. z % p) (row-entry n _ i l ∙ (row-entry (n + n) _ i (omega arith) ∙ sym (row-entry n _ i l ∙ ap (λ u. (c * u) % p) (row-entry n _ i l))));
  }

  pub right_linear_half : IsLinear D.ops M.ops (right_half A)
  right_linear_half = record {
    resp = λ x y e i l. ap (λ z. z % p) (row-entry n _ i l) ∙ (e (n + i) (omega arith) ∙ sym (ap (λ z. z % p) (row-entry n _ i l)));
    add = λ x y i l. ap (λ z. z % p) (row-entry n _ i l ∙ (row-entry (n + n) _ (n + i) (omega arith) ∙ sym (row-entry n _ i l ∙ ap₂ (λ u v. (u + v) % p) (row-entry n _ i l) (row-entry n _ i l))));
    scale = λ c x i l. ap (λ z. z % p) (row-entry n _ i l ∙ (row-entry (n + n) _ (n + i) (omega arith) ∙ sym (row-entry n _ i l ∙ ap (λ u. (c * u) % p) (row-entry n _ i l))));
  }

  pub graph_submodule : IsSubmodule D.ops (IsOnGraph A)
  graph_submodule = equalizer (residues A.prime pos) D M (right_half A) (λ x. pow (ring_of A) (left_half A x) A.prime) right_linear_half
      (linear_then (residues A.prime pos) D M M (left_half A) (λ x. pow (ring_of A) x A.prime) left_linear_half (Ground.power_linear A prime a))

  -- a graph that gains a pair is a graph
  pub graph_gains : (old new : Subspace) (row : List ℕ) (said : Insert) → IsGraph A old → IsPair A row → IsInsertion old row new said → IsGraph A new
  graph_gains old new row Inserted g q i = record {
    prime = i.1.prime ∙ g.prime;
    width = i.1.width ∙ g.width;
    members = λ f h. Modules.span_least (residues A.prime pos) D (IsOnGraph A) graph_submodule (row ∷ old.basis)
        (All-cons (IsOnGraph A) row old.basis q.on (All-weaker (InSpan D.ops old.basis) (IsOnGraph A)
        (λ x k. g.members x (moved A.prime old.prime (A.dimension + A.dimension) old.width old.basis x (sym g.prime) (sym g.width) k)) old.basis (Modules.span_self (residues A.prime pos) D old.basis)))
        f (moved old.prime A.prime old.width (A.dimension + A.dimension) (row ∷ old.basis) f g.prime g.width ((i.1.members f).0 h));
  }
  graph_gains old new row (Dependent cs) g q i = subst (IsGraph A) (sym i.1) g

  -- the empty space is a graph
  pub empty_graph : (s : Subspace) → s.prime ≡ A.prime → s.width ≡ A.dimension + A.dimension → s.basis ≡ [] → IsGraph A s
  empty_graph s e w b = record {
    prime = e;
    width = w;
    members = λ f h. Modules.span_least (residues A.prime pos) D (IsOnGraph A) graph_submodule [] (All-nil (IsOnGraph A)) f
        (subst (λ us. InSpan D.ops us f) b (moved s.prime A.prime s.width (A.dimension + A.dimension) s.basis f e w h));
  }

  -- the basis of a graph
  pub basis_pairs : (s : Subspace) → IsGraph A s → All (IsRow s.prime s.width) s.basis → All (IsPair A) s.basis
  basis_pairs s g fits = All-from_get_or (IsPair A) s.basis [] (λ t l. record {
    fits = subst (λ w. IsRow A.prime w (get_or s.basis t [])) g.width (subst (λ q. IsRow q s.width (get_or s.basis t [])) g.prime (fits t [] l));
    on = g.members (get_or s.basis t []) (moved A.prime s.prime (A.dimension + A.dimension) s.width s.basis (get_or s.basis t []) (sym g.prime) (sym g.width)
        (Modules.span_self (residues A.prime pos) D s.basis t [] l));
  })

  -- the halves of two rows that are put together
  pub left-together : (x y : List ℕ) → length x ≡ A.dimension → M.◌≋◌ (left_half A (x ++ y)) x
  left-together x y l i h = ap (λ z. z % p) (row-entry n _ i h ∙ get_or_append_left x y 0 i (omega arith))

  pub right-together : (x y : List ℕ) → length x ≡ A.dimension → M.◌≋◌ (right_half A (x ++ y)) y
  right-together x y l i h = ap (λ z. z % p) (row-entry n _ i h ∙ (get_or-append_right x y A.dimension (A.dimension + i) 0 l (omega arith) ∙ ap (λ m. get_or y m 0) (let q : A.dimension + i - A.dimension ≡ i = omega arith in q)))

  together_fits : (x y : List ℕ) → IsElement A x → IsElement A y → IsRow A.prime (A.dimension + A.dimension) (x ++ y)
  together_fits x y h k = ((let e : length (x ++ y) ≡ length x + length y = length-append x y in omega (arith, h.0, k.0)), All-append (λ c. c < A.prime) x y h.1 k.1)

  pub pair_of : (x y : List ℕ) → IsElement A x → IsElement A y → M.◌≋◌ y (pow (ring_of A) x A.prime) → IsPair A (x ++ y)
  pair_of x y h k e = record {
    fits = together_fits x y h k;
    on = M.trans (right-together x y h.0) (M.trans e (R.symm (Derived.pow_cong R A.prime (left-together x y h.0))));
  }

  -- the halves of a row, as it is cut
  left-cut : (row : List ℕ) → M.◌≋◌ (left_half A row) (take A.dimension row)
  left-cut row i h = ap (λ z. z % p) (row-entry n _ i h ∙ sym (get_or-take n row i 0 h))

  right-cut : (row : List ℕ) → M.◌≋◌ (right_half A row) (drop A.dimension row)
  right-cut row i h = ap (λ z. z % p) (row-entry n _ i h ∙ sym (get_or-drop n row i 0))

  -- the next pair
  pub next_pair : (row : List ℕ) (left right : List (List ℕ)) → IsPair A row → AreProductsOfPair A left right → IsPair A (product A.prime A.dimension (take A.dimension row) left ++ product A.prime A.dimension (drop A.dimension row) right)
  next_pair row left right q w =
      let u = take A.dimension row in
      let v = drop A.dimension row in
      let e : M.◌≋◌ v (pow (ring_of A) u A.prime) = M.trans (M.symm (right-cut row)) (M.trans q.on (Derived.pow_cong R A.prime (left-cut row))) in
      pair_of _ _ (combination_fits A.prime A.dimension pos u left) (combination_fits A.prime A.dimension pos v right)
      (M.trans (product-times A pos _ right w.2 v) (M.trans (R.mul_cong e (R.rfl _)) (M.trans (R.symm (Derived.mul-pow R u w.0 A.prime)) (R.symm (Derived.pow_cong R A.prime (product-times A pos w.0 left w.1 u))))))

  -- the graph tells a power where the left half is reduced to 0
  pub tells : (graph : Subspace) → IsGraph A graph → (k : ℕ) → k < A.dimension → (row : List ℕ) → FitsIn graph row → DifferIn graph (unit_row A.dimension k ++ replicate A.dimension 0) row
      → ((i : ℕ) → i < A.dimension → get_or (take A.dimension row) i 0 ≡ 0) → (image : List ℕ) → image ≡ map (λ x. (A.prime - x) % A.prime) (drop A.dimension row) → AreResidues A.prime image → IsPowerOfUnit A k image
  tells graph g k l row fits d none image e small = record {
    fits = (ap length e ∙ (length-map (drop A.dimension row) (λ x. (A.prime - x) % A.prime) ∙ (let w : length row ≡ A.dimension + A.dimension = fits.0 ∙ g.width in let q : length (drop A.dimension row) ≡ length row - A.dimension = length-drop A.dimension row in omega arith)), small);
    power = M.trans image_is (M.trans (M.symm right_is) (M.trans on (Derived.pow_cong R A.prime left_is)));
  }
    where
      old : List ℕ
      old = unit_row A.dimension k ++ replicate A.dimension 0

      both : List ℕ
      both = D.◌⊞◌ (unit_row A.dimension k ++ replicate A.dimension 0) (D.opposite row)

      on : IsOnGraph A (D.◌⊞◌ (unit_row A.dimension k ++ replicate A.dimension 0) (D.opposite row))
      on = g.members _ (moved A.prime graph.prime (A.dimension + A.dimension) graph.width graph.basis _ (sym g.prime) (sym g.width)
          (differ_moved graph.prime A.prime graph.width (A.dimension + A.dimension) graph.basis _ row g.prime g.width d))

      left_none : M.◌≋◌ (left_half A row) M.origin
      left_none i h = left-cut row i h ∙ (ap (λ z. z % A.prime) (none i h) ∙ sym (ap (λ z. z % A.prime) (row-entry A.dimension _ i h)))

      left_is : M.◌≋◌ (left_half A (D.◌⊞◌ (unit_row A.dimension k ++ replicate A.dimension 0) (D.opposite row))) (unit_row A.dimension k)
      left_is = M.trans (linear-sub (residues A.prime pos) D M (left_half A) left_linear_half _ row)
          (M.trans (M.add_cong (left-together (unit_row A.dimension k) (replicate A.dimension 0) (length-unit_row A.dimension k)) (M.trans (M.opposite_cong left_none) (Modules.opposite_origin (residues A.prime pos) M)))
          (M.add_origin (unit_row A.dimension k)))

      zeros_are : M.◌≋◌ (replicate A.dimension 0) M.origin
      zeros_are i h = ap (λ z. z % A.prime) (get_or-replicate A.dimension i 0 0 h ∙ sym (row-entry A.dimension _ i h))

      right_is : M.◌≋◌ (right_half A (D.◌⊞◌ (unit_row A.dimension k ++ replicate A.dimension 0) (D.opposite row))) (M.opposite (right_half A row))
      right_is = M.trans (linear-sub (residues A.prime pos) D M (right_half A) right_linear_half _ row)
          (M.trans (M.add_cong (M.trans (right-together (unit_row A.dimension k) (replicate A.dimension 0) (length-unit_row A.dimension k)) zeros_are) (M.rfl (M.opposite (right_half A row))))
          (Modules.origin_add (residues A.prime pos) M (M.opposite (right_half A row))))

      image_is : M.◌≋◌ image (M.opposite (right_half A row))
      image_is i h =
          let inside : A.dimension + i < length row = (let w : length row ≡ A.dimension + A.dimension = fits.0 ∙ g.width in omega arith) in
          let small_entry : get_or row (A.dimension + i) 0 < A.prime = subst (λ q. get_or row (A.dimension + i) 0 < q) g.prime (fits.1 (A.dimension + i) 0 inside) in
          let long : i < length (drop A.dimension row) = (let q : length (drop A.dimension row) ≡ length row - A.dimension = length-drop A.dimension row in omega arith) in
          ap (λ z. z % A.prime) (ap (λ r. get_or r i 0) e ∙ (get_or-map (λ x. (A.prime - x) % A.prime) (drop A.dimension row) i 0 0 long
          ∙ (ap (λ z. (A.prime - z) % A.prime) (get_or-drop A.dimension row i 0 ∙ (sym (mod-eq_of_lt small_entry) ∙ ap (λ z. z % A.prime) (sym (row-entry A.dimension _ i h)))) ∙ sym (row-entry A.dimension _ i h))))

  -- a basis element before zeros fits the graph
  pub start_fits : (graph : Subspace) → IsGraph A graph → 2 ≤ A.prime → (k : ℕ) → IsRow graph.prime graph.width (unit_row A.dimension k ++ replicate A.dimension 0)
  start_fits graph g two k = subst (λ w. IsRow graph.prime w (unit_row A.dimension k ++ replicate A.dimension 0)) (sym g.width)
      (subst (λ q. IsRow q (A.dimension + A.dimension) (unit_row A.dimension k ++ replicate A.dimension 0)) (sym g.prime)
      (together_fits (unit_row A.dimension k) (replicate A.dimension 0) (unit_fits A.prime A.dimension k two) (
        length-replicate {A = ℕ} A.dimension 0,
        All-from_get_or (λ x. x < A.prime) (replicate A.dimension 0) 0
            (λ i l. let inside : i < A.dimension = omega (arith, length-replicate {A = ℕ} A.dimension 0) in subst (λ x. x < A.prime) (sym (get_or-replicate A.dimension i 0 0 inside)) pos),
      )))

  pub power-of_one : M.◌≋◌ A.one (pow (ring_of A) A.one A.prime)
  power-of_one = R.symm (Derived.one-pow R A.prime)

  -- the same, as the code says it
  pub told_power : (graph : Subspace) → IsGraph A graph → (k : ℕ) → k < A.dimension → (row : List ℕ) → FitsIn graph row → DifferIn graph (unit_row A.dimension k ++ replicate A.dimension 0) row
      → (q m : ℕ) (seen : List ℕ) → q ≡ A.prime → m ≡ A.dimension → seen ≡ row → (found : Option (List ℕ))
      → MatchOption found (Unit {0}) (λ made. IsZeroRow (take m seen) × (made ≡ map (λ x. (q - x) % q) (drop m seen)) × AreResidues q made)
      → MatchOption found (Unit {0}) (λ made. IsPowerOfUnit A k made)
  told_power graph g k l row fits d q m seen e f h found w = match_map found _ _ (λ made z.
      let z' : (made' : List ℕ) × (made' ≡ made) × IsZeroRow (take A.dimension row) × (made ≡ map (λ x. (A.prime - x) % A.prime) (drop A.dimension row)) × AreResidues A.prime made
      = (
        made,
        refl,
        subst (λ n. IsZeroRow (take n row)) f (subst (λ r. IsZeroRow (take m r)) h z.0),
        z.1 ∙ (ap (λ c. map (λ x. (c - x) % c) (drop m seen)) e ∙ (ap (λ n. map (λ x. (A.prime - x) % A.prime) (drop n seen)) f ∙ ap (λ r. map (λ x. (A.prime - x) % A.prime) (drop A.dimension r)) h)),
        subst (λ c. AreResidues c made) e z.2,
      ) in
      tells graph g k l row fits d (λ i s. z'.2 i 0 (let v : length row ≡ A.dimension + A.dimension = fits.0 ∙ g.width in let u : length (take A.dimension row) ≡ A.dimension = length-take-le A.dimension row (omega arith) in omega arith)) made z'.3 z'.4) w
