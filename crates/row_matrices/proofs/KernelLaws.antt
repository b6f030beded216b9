-- The kernel of a matrix by some of its rows that have an inverse matrix.
use Rattle.std.proofs.Common.{◌≡◌, ◌↔◌, refl, sym, ap, subst, ◌∙◌, ℕ, ◌+◌, ◌<◌, ◌≤◌, List, [], ◌∷◌, ◌++◌, length, get_or, All, arith, length-append}
use native.Mathlib.Decide.{ℕ_discrete}
use Rattle.std.proofs.lemmas.List.{get_or_append_left, get_or_push}
use Rattle.std.proofs.lemmas.List.Elements.{All-from_get_or, All-push}
use Rattle.comm_ring.specs.Modules.{InSpan, IsSubmodule}
use Rattle.comm_ring.specs.Rows.{rows}
use Rattle.comm_ring.proofs.Modules as Modules
use Rattle.comm_ring.proofs.Modules.{Module}
use Rattle.comm_ring.proofs.Residues.{residues}
use Rattle.comm_ring.proofs.Rows.{row_module}
use Rattle.row_space.specs.Echelon.{IsRow}
use Rattle.row_space.specs.Subspace.{Subspace, IsIn, IsZero, Joins, product}
use Rattle.row_space.proofs.Members.{span_of}
use Rattle.finite_algebra.specs.Elements.{unit_row}
use Rattle.finite_algebra.proofs.Totals.{IsLinear, linear-origin, linear-sub, linear_then, of_path}
use Rattle.finite_algebra.proofs.Units.{along-unit, agree}
use Rattle.finite_algebra.proofs.Images.{product-along, product_linear}
use Rattle.finite_algebra.proofs.Classes.{unit_fits}
use Rattle.finite_algebra.proofs.Generated.{moved}
use Rattle.row_matrices.specs.Inverses.{AreRests, AreRowsAt, AreUnitsAt, IsInverse, IsRest}

-- rows at places, one more of them
pub rests_pushed : (p : ℕ) (us inverse units made new : List (List ℕ)) (row : List ℕ) (k : ℕ) → new ≡ made ++ row ∷ [] → IsRest p (length us) k (get_or us k []) inverse units row → AreRests p us inverse units k made → AreRests p us inverse units (k + 1) new
rests_pushed p us inverse units made new row k e here h = subst (λ (rs : List (List ℕ)). AreRests p us inverse units (k + 1) rs) (sym e) (record {
  count = length-append made (row ∷ []) ∙ ap (λ n. n + 1) h.count;
  rows = All-push (IsRow p (length us)) made row h.rows here.fits;
  rests = λ i l. each i l (ℕ_discrete i k);
})
  where
    Rest : ℕ → List ℕ → Type 0
    Rest i r = IsRest p (length us) i (get_or us i []) inverse units r

    each : (i : ℕ) → i < k + 1 → Dec (i ≡ k) → Rest i (get_or (made ++ row ∷ []) i [])
    each i l (yes q) = subst (λ r. Rest i r) (sym (get_or_push made row [] i (h.count ∙ sym q))) (subst (λ j. Rest j row) (sym q) here)
    each i l (no q) =
        let inside : i < k = omega arith in
        let long : i < length made = omega (arith, h.count) in
        subst (λ r. Rest i r) (sym (get_or_append_left made (row ∷ []) [] i long)) (h.rests i inside)

pub chosen_fit : (p w : ℕ) (us chosen : List (List ℕ)) (places : List ℕ) → AreRowsAt us places chosen → All (λ q. q < length us) places → All (IsRow p w) us → All (IsRow p w) chosen
chosen_fit p w us chosen places c within fit = All-from_get_or (IsRow p w) chosen [] (λ t l.
    let m : t < length places = omega (arith, c.count) in
    subst (IsRow p w) (sym (c.rows t m)) (fit (get_or places t 0) [] (within t 0 m)))

pub units_fit : (p n : ℕ) (places : List ℕ) (units : List (List ℕ)) → 2 ≤ p → AreUnitsAt n places units → All (IsRow p n) units
units_fit p n places units two u = All-from_get_or (IsRow p n) units [] (λ t l.
    let m : t < length places = omega (arith, u.count) in
    subst (IsRow p n) (sym (u.rows t m)) (unit_fits p n (get_or places t 0) two))

module _ (p : ℕ) (pos : 0 < p) where
  abbrev M : ℕ → Module (residues p pos)
  M n = row_module p pos n

  -- a unit row times a matrix is one of its rows
  pub unit-product : (n m : ℕ) (matrix : List (List ℕ)) → length matrix ≡ n → (i : ℕ) → i < n → (M m).◌≋◌ (product p m (unit_row n i) matrix) (get_or matrix i [])
  unit-product n m matrix long i l = (M m).trans (product-along p pos n m matrix long (unit_row n i)) (along-unit p pos n (M m) (λ j. get_or matrix j []) i l)

  same_linear : (n : ℕ) → IsLinear (rows p n) (rows p n) (λ u. u)
  same_linear n = record { resp = λ u v h. h; add = λ u v. (M n).rfl _; scale = λ c u. (M n).rfl _ }

  -- times the inverse and then the matrix
  pub inverse-then : (n : ℕ) (us inverse : List (List ℕ)) → IsInverse p n us inverse → (v : List ℕ) → (M n).◌≋◌ (product p n (product p n v inverse) us) v
  inverse-then n us inverse inv v = agree p pos n (M n) (λ u. product p n (product p n u inverse) us) (λ u. u)
      (linear_then (residues p pos) (M n) (M n) (M n) (λ u. product p n u inverse) (λ u. product p n u us) (product_linear p pos n n inverse inv.count) (product_linear p pos n n us inv.long))
      (same_linear n)
      (λ i l. (M n).trans ((product_linear p pos n n us inv.long).resp _ _ (unit-product n n inverse inv.count i l)) (of_path (residues p pos) (M n) (inv.right i l))) v

  linear_sum : (V W : Module (residues p pos)) (f g : V.carrier → W.carrier) → IsLinear V.ops W.ops f → IsLinear V.ops W.ops g → IsLinear V.ops W.ops (λ x. W.◌⊞◌ (f x) (g x))
  linear_sum V W f g l m = record {
    resp = λ x y e. W.add_cong (l.resp x y e) (m.resp x y e);
    add = λ x y. W.trans (W.add_cong (l.add x y) (m.add x y)) (Modules.add_exchange (residues p pos) W (f x) (f y) (g x) (g y));
    scale = λ c x. W.trans (W.add_cong (l.scale c x) (m.scale c x)) (W.symm (W.scale_sum c (f x) (g x)));
  }

  module _ (g : ℕ) (us : List (List ℕ)) (places : List ℕ) (chosen inverse units made : List (List ℕ)) (within : All (λ q. q < length us) places)
      (c : AreRowsAt us places chosen) (inv : IsInverse p g chosen inverse) (u : AreUnitsAt (length us) places units) (r : AreRests p us inverse units (length us) made) where
    abbrev n : ℕ
    n = length us

    count : length units ≡ g
    count = u.count ∙ (sym c.count ∙ inv.long)

    -- the product with the matrix; the coordinates; the sum of the units
    abbrev f : List ℕ → List ℕ
    f v = product p g v us

    abbrev w : List ℕ → List ℕ
    w v = product p g v inverse

    abbrev b : List ℕ → List ℕ
    b v = product p (length us) v units

    f_linear : IsLinear (rows p (length us)) (rows p g) f
    f_linear = product_linear p pos (length us) g us refl

    w_linear : IsLinear (rows p g) (rows p g) w
    w_linear = product_linear p pos g g inverse inv.count

    b_linear : IsLinear (rows p g) (rows p (length us)) b
    b_linear = product_linear p pos g (length us) units count

    part_linear : IsLinear (rows p (length us)) (rows p (length us)) (λ v. b (w (f v)))
    part_linear = linear_then (residues p pos) (M (length us)) (M g) (M (length us)) f (λ v. b (w v)) f_linear (linear_then (residues p pos) (M g) (M g) (M (length us)) w b w_linear b_linear)

    -- the units times the matrix are the chosen rows
    chosen_by_units : (v : List ℕ) → (M g).◌≋◌ (f (b v)) (product p g v chosen)
    chosen_by_units v = agree p pos g (M g) (λ x. f (b x)) (λ x. product p g x chosen) (linear_then (residues p pos) (M g) (M (length us)) (M g) b f b_linear f_linear) (product_linear p pos g g chosen inv.long)
        (λ t l.
        let m : t < length places = omega (arith, c.count, inv.long) in
        let inside : get_or places t 0 < length us = within t 0 m in
        (M g).trans (f_linear.resp _ _ ((M (length us)).trans (unit-product g (length us) units count t l) (of_path (residues p pos) (M (length us)) (u.rows t m))))
        ((M g).trans (unit-product (length us) g us refl (get_or places t 0) inside)
        ((M g).symm ((M g).trans (unit-product g g chosen inv.long t l) (of_path (residues p pos) (M g) (c.rows t m)))))) v

    part_same : (v : List ℕ) → (M g).◌≋◌ (f (b (w (f v)))) (f v)
    part_same v = (M g).trans (chosen_by_units (w (f v))) (inverse-then g chosen inverse inv (f v))

    rest_is : (i : ℕ) → i < length us → (M (length us)).◌≋◌ (get_or made i []) ((M (length us)).◌⊞◌ (unit_row (length us) i) ((M (length us)).opposite (b (w (f (unit_row (length us) i))))))
    rest_is i l =
        let V = M (length us) in
        let h = r.rests i l in
        V.trans h.is (V.add_cong (V.rfl _) (V.opposite_cong (V.trans (V.one_scale _)
        (subst (λ m. V.◌≋◌ (product p (length us) (product p m (get_or us i []) inverse) units) (b (w (f (unit_row (length us) i))))) (sym count)
        (b_linear.resp _ _ (w_linear.resp _ _ ((M g).symm (unit-product (length us) g us refl i l))))))))

    -- the rests are in the kernel
    rest_in : (i : ℕ) → i < length us → (M g).◌≋◌ (f (get_or made i [])) (M g).origin
    rest_in i l =
        let W = M g in
        W.trans (f_linear.resp _ _ (rest_is i l)) (W.trans (linear-sub (residues p pos) (M (length us)) W f f_linear _ _)
        (W.trans (W.add_cong (W.rfl _) (W.opposite_cong (part_same (unit_row (length us) i)))) (W.add_opposite _)))

    made_linear : IsLinear (rows p (length us)) (rows p (length us)) (λ v. product p (length us) v made)
    made_linear = product_linear p pos (length us) (length us) made r.count

    -- a row is the sum of its entries times the rests, and its part
    whole : (v : List ℕ) → (M (length us)).◌≋◌ ((M (length us)).◌⊞◌ (product p (length us) v made) (b (w (f v)))) v
    whole v = agree p pos (length us) (M (length us)) (λ x. (M (length us)).◌⊞◌ (product p (length us) x made) (b (w (f x)))) (λ x. x)
        (linear_sum (M (length us)) (M (length us)) (λ x. product p (length us) x made) (λ x. b (w (f x))) made_linear part_linear) (same_linear (length us))
        (λ i l. (M (length us)).trans ((M (length us)).add_cong ((M (length us)).trans (unit-product (length us) (length us) made r.count i l) (rest_is i l)) ((M (length us)).rfl _))
        (Modules.sub_undo (residues p pos) (M (length us)) (unit_row (length us) i) (b (w (f (unit_row (length us) i)))))) v

    abbrev Zero : List ℕ → Type 0
    Zero v = (M g).◌≋◌ (f v) (M g).origin

    zeros : IsSubmodule (rows p (length us)) Zero
    zeros = record {
      resp = λ x y e h. (M g).trans ((M g).symm (f_linear.resp x y e)) h;
      none = linear-origin (residues p pos) (M (length us)) (M g) f f_linear;
      add = λ x y h k. (M g).trans (f_linear.add x y) ((M g).trans ((M g).add_cong h k) ((M g).add_origin (M g).origin));
      scale = λ d x h. (M g).trans (f_linear.scale d x) ((M g).trans ((M g).scale_cong refl h) (Modules.scale_origin (residues p pos) (M g) d));
    }

    span_zero : (v : List ℕ) → InSpan (rows p (length us)) made v → Zero v
    span_zero v h = Modules.span_least (residues p pos) (M (length us)) Zero zeros made (All-from_get_or Zero made [] (λ i l. rest_in i (omega (arith, r.count)))) v h

    zero_span : (v : List ℕ) → length v ≡ length us → Zero v → InSpan (rows p (length us)) made v
    zero_span v long h =
        let V = M (length us) in
        let none : V.◌≋◌ (b (w (f v))) V.origin = V.trans (b_linear.resp _ _ ((M g).trans (w_linear.resp _ _ h) (linear-origin (residues p pos) (M g) (M g) w w_linear))) (linear-origin (residues p pos) (M g) V b b_linear) in
        (v, long ∙ sym r.count, V.symm (V.trans (V.symm (V.trans (V.add_cong (V.rfl _) none) (V.add_origin _))) (whole v)))

    -- so the space of the rests is the kernel
    pub kernel_members : (old s : Subspace) (vs : List (List ℕ)) → old.prime ≡ p → old.width ≡ length us → old.basis ≡ [] → vs ≡ made → Joins old vs s → (v : List ℕ) → length v ≡ length us → IsIn s v ↔ IsZero p g (product p g v us)
    kernel_members old s vs e h none same j v long = (
      λ l. span_zero v (Modules.span_through (residues p pos) (M (length us)) s.basis made (All-from_get_or (InSpan (rows p (length us)) made) s.basis []
          (λ k m. subst (λ ws. InSpan (rows p (length us)) ws (get_or s.basis k [])) (ap (λ ws. ws ++ vs) none ∙ same)
          (moved old.prime p old.width (length us) (old.basis ++ vs) _ e h (span_of old.prime old.width (old.basis ++ vs) _ (j.covered k m)))))
          v (moved s.prime p s.width (length us) s.basis v (j.prime ∙ e) (j.width ∙ h) l)),
      λ z. moved p s.prime (length us) s.width s.basis v (sym (j.prime ∙ e)) (sym (j.width ∙ h)) (Modules.span_through (residues p pos) (M (length us)) made s.basis
          (subst (λ ws. All (InSpan (rows p (length us)) s.basis) ws) (ap (λ ws. ws ++ vs) none ∙ same) (All-from_get_or (InSpan (rows p (length us)) s.basis) (old.basis ++ vs) []
          (λ k m. moved old.prime p old.width (length us) s.basis _ e h (span_of old.prime old.width s.basis _ (j.covers k m)))))
          v (zero_span v long z)),
    )
