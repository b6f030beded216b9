-- The elements that the p-th power takes to 0 in e times, and those that it fixes.
use Rattle.std.proofs.Common.{◌≡◌, ◌⊎◌, ◌↔◌, inl, inr, refl, sym, ap, subst, ◌∙◌, ℕ, zero, suc, ◌+◌, ◌-◌, ◌*◌, ◌<◌, ◌≤◌, List, [], ◌∷◌, ◌++◌, length, get_or, map, All, arith, append-nil, mul-le-mul_right}
use Rattle.std.specs.List.{range_with_len}
use Rattle.std.proofs.lemmas.List.FromFn.{length-map-range_with_len, get_or-map-range_with_len}
use Rattle.std.proofs.lemmas.List.Elements.{All-nil, All-weaker}
use Rattle.prime_field.specs.Primes.{IsPrime}
use Rattle.comm_ring.specs.Ring.{CommRing, pow}
use Rattle.comm_ring.specs.Modules.{InSpan, IsSubmodule, DimensionOf, Dependent}
use Rattle.comm_ring.specs.Rows.{rows}
use Rattle.comm_ring.proofs.Derived as Derived
use Rattle.comm_ring.proofs.Dimension as Dimension
use Rattle.comm_ring.proofs.Exchange as Exchange
use Rattle.comm_ring.proofs.Fields.{residue_field}
use Rattle.comm_ring.proofs.Modules as Modules
use Rattle.comm_ring.proofs.Modules.{Module}
use Rattle.comm_ring.proofs.Residues.{residues}
use Rattle.row_space.specs.Echelon.{IsRow}
use Rattle.row_space.specs.Subspace.{Subspace, IsIn, IsZero, all_rows, product}
use Rattle.finite_algebra.specs.Elements.{FiniteAlgebra, IsAlgebra, elements, ring_of, unit_row}
use Rattle.finite_algebra.proofs.Totals.{IsLinear, linear-origin, total_in}
use Rattle.finite_algebra.proofs.Units.{along-unit, agree, expand}
use Rattle.finite_algebra.proofs.Images.{product-along, product_linear}
use Rattle.finite_algebra.proofs.Products.{reduced, reduced_fits}
use Rattle.frobenius_map.specs.Nilpotent.{IsRadicalOf}
use Rattle.frobenius_map.specs.Powers.{ArePowers, IsStage, IsFixedSpace, IsWithin, iterated}
use Rattle.row_matrices.specs.Rows.{AreLess}
use Rattle.frobenius_map.proofs.Ground as Ground
use Rattle.finite_algebra.proofs.Generated.{moved}

-- the numbers 1, p, p p, ..
height : ℕ → ℕ → ℕ
height p zero = 1
height p (suc e) = p * height p e

high : (p e : ℕ) → 2 ≤ p → e < height p e
unfolding height
high p zero two = omega arith
high p (suc e) two = let h : e < height p e = high p e two in let k : 2 * height p e ≤ p * height p e = mul-le-mul_right (height p e) two in omega arith

dimension_moved : (p q w v : ℕ) (us : List (List ℕ)) (n : ℕ) → p ≡ q → w ≡ v → DimensionOf (rows p w) (InSpan (rows p w) us) n → DimensionOf (rows q v) (InSpan (rows q v) us) n
dimension_moved p q w v us n e f d = subst (λ c. DimensionOf (rows c v) (InSpan (rows c v) us) n) e (subst (λ c. DimensionOf (rows p c) (InSpan (rows p c) us) n) f d)

empty : (xs : List (List ℕ)) → length xs ≡ 0 → xs ≡ []
empty [] e = refl
empty (x ∷ xs) e = absurd (omega arith)

-- what a kernel says, with its arguments as they are written elsewhere
pub kernel_members : (s : Subspace) (v : List ℕ) (p q w n : ℕ) (us vs : List (List ℕ)) → p ≡ q → w ≡ n → us ≡ vs → (IsIn s v ↔ IsZero p w (product p w v us)) → (IsIn s v ↔ IsZero q n (product q n v vs))
kernel_members s v p q w n us vs e f g h = subst (λ c. IsIn s v ↔ IsZero c n (product c n v vs)) e (subst (λ c. IsIn s v ↔ IsZero p c (product p c v vs)) f (subst (λ c. IsIn s v ↔ IsZero p w (product p w v c)) g h))

module _ (A : FiniteAlgebra) (prime : IsPrime A.prime) (a : IsAlgebra A) where
  abbrev pos : 0 < A.prime
  pos = Ground.positive A prime a

  abbrev R : CommRing
  R = Ground.R A prime a

  abbrev M : Module (residues A.prime pos)
  M = Ground.M A prime a

  abbrev F : List ℕ → List ℕ
  F x = pow (ring_of A) x A.prime

  -- the product with the matrix is the p-th power
  pub product-power : (matrix : List (List ℕ)) → ArePowers A matrix → (v : List ℕ) → M.◌≋◌ (product A.prime A.dimension v matrix) (F v)
  product-power matrix q v = agree A.prime pos A.dimension M (λ u. product A.prime A.dimension u matrix) F
      (product_linear A.prime pos A.dimension A.dimension matrix q.count) (Ground.power_linear A prime a)
      (λ k h. M.trans (product-along A.prime pos A.dimension A.dimension matrix q.count (unit_row A.dimension k))
      (M.trans (along-unit A.prime pos A.dimension M (λ j. get_or matrix j []) k h) (q.powers k h))) v

  -- iterates keep equality, and are powers
  iterated_resp : (e : ℕ) (x y : List ℕ) → M.◌≋◌ x y → M.◌≋◌ (iterated A e x) (iterated A e y)
  iterated_resp zero x y h = h
  iterated_resp (suc e) x y h = iterated_resp e (F x) (F y) (Derived.pow_cong R A.prime h)

  iterated-power : (e : ℕ) (x : List ℕ) → M.◌≋◌ (iterated A e x) (pow (ring_of A) x (height A.prime e))
  unfolding height
  iterated-power zero x = R.symm (Derived.pow-one R x)
  iterated-power (suc e) x = M.trans (iterated-power e (F x)) (R.symm (Derived.pow-mul R x A.prime (height A.prime e)))

  iterated-zero : (e : ℕ) → M.◌≋◌ (iterated A e M.origin) M.origin
  iterated-zero zero = M.rfl M.origin
  iterated-zero (suc e) = M.trans (iterated_resp e (F M.origin) M.origin (linear-origin (residues A.prime pos) M M F (Ground.power_linear A prime a))) (iterated-zero e)

  more_powers : (x : List ℕ) (k d : ℕ) → M.◌≋◌ (pow (ring_of A) x k) M.origin → M.◌≋◌ (pow (ring_of A) x (k + d)) M.origin
  more_powers x k d h = R.trans (Derived.pow-add R x k d) (R.trans (R.mul_cong h (R.rfl (pow (ring_of A) x d))) (Derived.zero_mul R (pow (ring_of A) x d)))

  -- membership of a row and of its residues
  module _ (s : Subspace) (sp : s.prime ≡ A.prime) (sw : s.width ≡ A.dimension) where
    pub into : (f : List ℕ) → IsIn s f → InSpan (elements A) s.basis f
    into f h = moved s.prime A.prime s.width A.dimension s.basis f sp sw h

    pub out : (f : List ℕ) → InSpan (elements A) s.basis f → IsIn s f
    out f h = moved A.prime s.prime A.dimension s.width s.basis f (sym sp) (sym sw) h

    pub same_row : (f g : List ℕ) → M.◌≋◌ f g → IsIn s f → IsIn s g
    same_row f g e h = out g ((Ground.span_of A prime a s.basis).resp f g e (into f h))

  stage_members : (e : ℕ) (s : Subspace) → IsStage A e s → (x : List ℕ) → IsIn s x ↔ M.◌≋◌ (iterated A e x) M.origin
  stage_members e s g x =
      let r = reduced A pos x in
      let same_x = Ground.reduced_is A prime a x in (
        λ h. M.trans (iterated_resp e x r (M.symm same_x)) ((g.members r (reduced_fits A pos x)).0 (same_row s g.prime g.width x r (M.symm same_x) h)),
        λ h. same_row s g.prime g.width r x same_x ((g.members r (reduced_fits A pos x)).1 (M.trans (iterated_resp e r x same_x) h)),
      )

  pub first_stage : (s : Subspace) → s.prime ≡ A.prime → s.width ≡ A.dimension → s.basis ≡ [] → IsStage A 0 s
  first_stage s e w b = record {
    prime = e;
    width = w;
    members = λ x h. (
      λ k. Modules.span_least (residues A.prime pos) M (λ f. M.◌≋◌ f M.origin) zeros [] (All-nil (λ f. M.◌≋◌ f M.origin)) x (subst (λ us. InSpan (elements A) us x) b (into s e w x k)),
      λ k. out s e w x ((Ground.span_of A prime a s.basis).resp M.origin x (M.symm k) (Ground.span_of A prime a s.basis).none),
    );
  }
    where
      zeros : IsSubmodule (elements A) (λ f. M.◌≋◌ f M.origin)
      zeros = record {
        resp = λ x y e h. M.trans (M.symm e) h;
        none = M.rfl M.origin;
        add = λ x y h k. M.trans (M.add_cong h k) (M.add_origin M.origin);
        scale = λ c x h. M.trans (M.scale_cong {c = c} {c' = c} refl h) (Modules.scale_origin (residues A.prime pos) M c);
      }

  -- what goes to a stage in one step is the next stage
  pub next_stage : (matrix : List (List ℕ)) → ArePowers A matrix → (e : ℕ) (s t : Subspace) → IsStage A e s → (t.prime ≡ s.prime) × (t.width ≡ length matrix)
      → ((v : List ℕ) → length v ≡ length matrix → IsIn t v ↔ IsIn s (product s.prime s.width v matrix)) → IsStage A (suc e) t
  next_stage matrix q e s t g shape back = record {
    prime = shape.0 ∙ g.prime;
    width = shape.1 ∙ q.count;
    members = λ x h. let b = back x (h.0 ∙ sym q.count) in (
      λ k. M.trans (iterated_resp e (F x) _ (M.symm (image_is x))) ((stage_members e s g _).0 (b.0 k)),
      λ k. b.1 ((stage_members e s g _).1 (M.trans (iterated_resp e _ (F x) (image_is x)) k)),
    );
  }
    where
      image_is : (x : List ℕ) → M.◌≋◌ (product s.prime s.width x matrix) (F x)
      image_is x = subst (λ r. M.◌≋◌ r (F x)) (sym (ap (λ q. product q s.width x matrix) g.prime ∙ ap (λ w. product A.prime w x matrix) g.width)) (product-power matrix q x)

  again : (e : ℕ) (x : List ℕ) → M.◌≋◌ (iterated A e (F x)) (F (iterated A e x))
  again zero x = M.rfl (F x)
  again (suc e) x = again e (F x)

  -- a stage lies within the next
  pub within_next : (e : ℕ) (s t : Subspace) → IsStage A e s → IsStage A (suc e) t → IsWithin s t
  within_next e s t g h f k = (stage_members (suc e) t h f).1 (M.trans (again e f) (M.trans (Derived.pow_cong R A.prime ((stage_members e s g f).0 k)) (linear-origin (residues A.prime pos) M M F (Ground.power_linear A prime a))))

  fill : (us vs : List (List ℕ)) (n : ℕ) (d : DimensionOf (elements A) (InSpan (elements A) us) n) → length vs ≤ n
      → Dependent (residues A.prime pos).ops (elements A) d.0 ⊎ Exchange.Exchanged (residues A.prime pos) (residue_field A.prime prime) M d.0 vs
      → (f : List ℕ) → InSpan (elements A) vs f → InSpan (elements A) us f
  fill us vs n d few (inl x) f h = absurd (Exchange.not_both (residues A.prime pos) (residue_field A.prime prime) M d.0
      (Dimension.independent_of_dimension (residues A.prime pos) (residue_field A.prime prime) M (InSpan (elements A) us) n d) x)
  fill us vs n d few (inr x) f h =
      let none : length x.0 ≡ 0 = (let u : length d.0 + length x.0 ≡ length vs = x.1 in let v : length d.0 ≡ n = d.1 in omega arith) in
      Modules.span_through (residues A.prime pos) M d.0 us d.2 f
      (Modules.span_through (residues A.prime pos) M vs d.0 (subst (λ ws. All (InSpan (elements A) ws) vs) (ap (λ r. d.0 ++ r) (empty x.0 none) ∙ append-nil d.0) x.3) f h)

  -- a space within another of no greater dimension is that one
  pub no_gain : (s t : Subspace) → s.prime ≡ A.prime → s.width ≡ A.dimension → t.prime ≡ A.prime → t.width ≡ A.dimension → IsWithin s t
      → DimensionOf (all_rows s) (IsIn s) (length s.basis) → length t.basis ≤ length s.basis → IsWithin t s
  no_gain s t sp sw tp tw within d few f h =
      let m = dimension_moved s.prime A.prime s.width A.dimension s.basis (length s.basis) sp sw d in
      out s sp sw f (fill s.basis t.basis (length s.basis) m few
      (Exchange.exchange (residues A.prime pos) (residue_field A.prime prime) M m.0 t.basis
      (All-weaker (InSpan (elements A) s.basis) (InSpan (elements A) t.basis) (λ x k. into t tp tw x (within x (out s sp sw x k))) m.0 m.2))
      f (into t tp tw f h))

  -- no space of elements has a greater dimension than the algebra
  pub at_most : (s : Subspace) → s.prime ≡ A.prime → s.width ≡ A.dimension → DimensionOf (all_rows s) (IsIn s) (length s.basis) → length s.basis ≤ A.dimension
  at_most s sp sw d = subst (λ n. length s.basis ≤ n) (length-map-range_with_len (unit_row A.dimension) 0 A.dimension)
      (Dimension.dimension_least (residues A.prime pos) (residue_field A.prime prime) M (InSpan (elements A) s.basis) (length s.basis)
      (dimension_moved s.prime A.prime s.width A.dimension s.basis (length s.basis) sp sw d) units (λ f h. spanned f))
    where
      units : List (List ℕ)
      units = map (unit_row A.dimension) (range_with_len 0 A.dimension)

      spanned : (f : List ℕ) → InSpan (elements A) (map (unit_row A.dimension) (range_with_len 0 A.dimension)) f
      spanned f = (Ground.span_of A prime a (map (unit_row A.dimension) (range_with_len 0 A.dimension))).resp _ _ (M.symm (expand A.prime pos A.dimension f))
          (total_in (residues A.prime pos) M (InSpan (elements A) (map (unit_row A.dimension) (range_with_len 0 A.dimension))) (Ground.span_of A prime a (map (unit_row A.dimension) (range_with_len 0 A.dimension))) _ A.dimension
          (λ k h. (Ground.span_of A prime a (map (unit_row A.dimension) (range_with_len 0 A.dimension))).scale (get_or f k 0) (unit_row A.dimension k)
          (subst (InSpan (elements A) (map (unit_row A.dimension) (range_with_len 0 A.dimension))) (get_or-map-range_with_len (unit_row A.dimension) 0 A.dimension k k [] h (omega arith))
          (Modules.span_self (residues A.prime pos) M (map (unit_row A.dimension) (range_with_len 0 A.dimension)) k [] (omega (arith, length-map-range_with_len (unit_row A.dimension) 0 A.dimension))))))

  pub stable_radical : (e : ℕ) (s t : Subspace) → IsStage A e s → IsStage A (suc e) t → IsWithin t s → IsRadicalOf A s
  stable_radical e s t g h back = record {
    prime = g.prime;
    width = g.width;
    members = λ x i. (
      λ k. (height A.prime e, M.trans (M.symm (iterated-power e x)) ((g.members x i).0 k)),
      λ w. down w.0 x (M.trans (iterated-power w.0 x) (let l : w.0 < height A.prime w.0 = high A.prime w.0 prime.0 in
          R.trans (Derived.pow_same R x (height A.prime w.0) (w.0 + (height A.prime w.0 - w.0)) (omega arith)) (more_powers x w.0 (height A.prime w.0 - w.0) w.1))),
    );
  }
    where
      down : (j : ℕ) (x : List ℕ) → M.◌≋◌ (iterated A j x) M.origin → IsIn s x
      down zero x k = (stage_members e s g x).1 (M.trans (iterated_resp e x M.origin k) (iterated-zero e))
      down (suc j) x k = back x ((stage_members (suc e) t h x).1 ((stage_members e s g (F x)).0 (down j (F x) k)))

  -- the p-th power less the element itself is linear
  less_linear : IsLinear (elements A) (elements A) (λ x. M.◌⊞◌ (F x) (M.opposite x))
  less_linear = record {
    resp = λ x y e. M.add_cong (Derived.pow_cong R A.prime e) (M.opposite_cong e);
    add = λ x y. M.trans (M.add_cong ((Ground.power_linear A prime a).add x y) (Modules.opposite_sum (residues A.prime pos) M x y)) (Modules.add_exchange (residues A.prime pos) M (F x) (F y) (M.opposite x) (M.opposite y));
    scale = λ c x. M.trans (M.add_cong ((Ground.power_linear A prime a).scale c x) (M.symm (Modules.scale_opposite (residues A.prime pos) M c x))) (M.symm (M.scale_sum c (F x) (M.opposite x)));
  }

  product-less : (matrix less : List (List ℕ)) → ArePowers A matrix → AreLess A.prime 1 matrix less → (v : List ℕ) → M.◌≋◌ (product A.prime A.dimension v less) (M.◌⊞◌ (F v) (M.opposite v))
  product-less matrix less q w v = agree A.prime pos A.dimension M (λ u. product A.prime A.dimension u less) (λ u. M.◌⊞◌ (F u) (M.opposite u))
      (product_linear A.prime pos A.dimension A.dimension less (w.count ∙ q.count)) less_linear
      (λ k h. M.trans (product-along A.prime pos A.dimension A.dimension less (w.count ∙ q.count) (unit_row A.dimension k))
      (M.trans (along-unit A.prime pos A.dimension M (λ j. get_or less j []) k h)
      (M.trans (subst (λ n. (rows A.prime n).◌≋◌ (get_or less k []) ((rows A.prime n).◌⊞◌ (get_or matrix k []) ((rows A.prime n).opposite ((rows A.prime n).◌·◌ 1 (unit_row n k))))) q.count (w.less k (let l : k < length matrix = omega (arith, q.count) in l)))
      (M.add_cong (q.powers k h) (M.opposite_cong (M.one_scale (unit_row A.dimension k))))))) v

  pub fixed_space : (matrix less : List (List ℕ)) → ArePowers A matrix → AreLess A.prime 1 matrix less → (s : Subspace) → (s.prime ≡ A.prime) × (s.width ≡ length less)
      → ((v : List ℕ) → length v ≡ length less → IsIn s v ↔ IsZero A.prime A.dimension (product A.prime A.dimension v less)) → All (IsRow s.prime s.width) s.basis → IsFixedSpace A s
  fixed_space matrix less q w s shape back fits = record {
    prime = shape.0;
    width = wide;
    fixed = record {
      rows = subst (λ n. All (IsRow A.prime n) s.basis) wide (subst (λ p. All (IsRow p s.width) s.basis) shape.0 fits);
      fixed = λ f i. let b = back f (i.0 ∙ sym (w.count ∙ q.count)) in (
        λ h. Modules.equal_of_sub (residues A.prime pos) M (F f) f (M.trans (M.symm (product-less matrix less q w f)) (b.0 (out s shape.0 wide f h))),
        λ e. into s shape.0 wide f (b.1 (M.trans (product-less matrix less q w f) (Modules.sub_of_equal (residues A.prime pos) M (F f) f e))),
      );
    };
  }
    where
      wide : s.width ≡ A.dimension
      wide = shape.1 ∙ (w.count ∙ q.count)
