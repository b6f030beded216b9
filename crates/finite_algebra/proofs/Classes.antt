-- The classes of the unit rows modulo a space, and the rows that they are summed to.
use Rattle.std.proofs.Common.{◌≡◌, ◌≢◌, ℕ, zero, suc, ◌+◌, ◌*◌, ◌%◌, ◌<◌, ◌≤◌, ◌⊎◌, inl, inr, List, [], ◌∷◌, length, get_or, subst, sym, ap, ◌∙◌, arith, ⊎_elim, mod-lt}
use Rattle.std.proofs.lemmas.List.{get_or_past}
use Rattle.std.proofs.lemmas.Bool.{cases_lt, cases_eq}
use Rattle.std.proofs.lemmas.List.Elements.{All-from_get_or}
use Rattle.std.proofs.Math.Nat.{mod-mod, mod-eq_of_lt}
use Rattle.comm_ring.specs.Sums.{below}
use Rattle.comm_ring.specs.Modules.{InSpan, IsSubmodule}
use Rattle.comm_ring.specs.Rows.{rows}
use Rattle.comm_ring.proofs.Modules as Modules
use Rattle.comm_ring.proofs.Modules.{Module}
use Rattle.comm_ring.proofs.Quotients as Quotients
use Rattle.comm_ring.proofs.Residues.{residues}
use Rattle.comm_ring.proofs.Rows.{row_module, row-entry}
use Rattle.comm_ring.proofs.Sums.{sum_below_ext, sum-zero}
use Rattle.lane_rows.specs.Rows.{IsFirstNonzero}
use Rattle.row_space.specs.Echelon.{IsRow, IsEchelon}
use Rattle.row_space.specs.Subspace.{Subspace, IsZeroAtPivots}
use Rattle.finite_algebra.specs.Elements.{unit_row}
use Rattle.finite_algebra.specs.Projections.{IsClass}
use Rattle.finite_algebra.proofs.Totals.{IsLinear}
use Rattle.finite_algebra.proofs.Units.{joined-entry, length-unit_row, unit-own, unit-other, along, along_linear, along-unit, agree}
use Rattle.finite_algebra.proofs.Products.{row_fits, joined_fits}

-- the number stands in the list, or does not
pub among : (k : ℕ) (qs : List ℕ) → ((j : ℕ) × (j < length qs) × get_or qs j 0 ≡ k) ⊎ ((j : ℕ) → j < length qs → get_or qs j 0 ≢ k)
among k [] = inr (λ j h. absurd (omega arith))
among k (q ∷ qs) = ⊎_elim
    (λ (e : q ≡ k). inl (0, omega arith, e))
    (λ (d : q ≢ k). ⊎_elim
    (λ (f : (j : ℕ) × (j < length qs) × get_or qs j 0 ≡ k). inl (suc f.0, omega (arith, f.1), f.2))
    (λ (g : (j : ℕ) → j < length qs → get_or qs j 0 ≢ k). inr (other d g))
    (among k qs))
    (cases_eq q k)
  where
    other : q ≢ k → ((j : ℕ) → j < length qs → get_or qs j 0 ≢ k) → (j : ℕ) → j < length (q ∷ qs) → get_or (q ∷ qs) j 0 ≢ k
    other d g zero h = d
    other d g (suc j) h = g j (omega arith)

-- the space with these rows
abbrev pub space : (p n : ℕ) → List (List ℕ) → Subspace
space p n us = record { prime = p; width = n; basis = us }

-- a unit row has residues
pub unit_fits : (p n k : ℕ) → 2 ≤ p → IsRow p n (unit_row n k)
unit_fits p n k two = (length-unit_row n k, All-from_get_or (λ x. x < p) (unit_row n k) 0 (λ t h. entry_fits t (omega (arith, length-unit_row n k))))
  where
    entry_fits : (t : ℕ) → t < n → get_or (unit_row n k) t 0 < p
    entry_fits t h = ⊎_elim
        (λ (e : t ≡ k). let one : get_or (unit_row n t) t 0 ≡ 1 = unit-own n t h in let same : get_or (unit_row n k) t 0 ≡ get_or (unit_row n t) t 0 = ap (λ j. get_or (unit_row n j) t 0) (sym e) in omega arith)
        (λ (d : t ≢ k). let none : get_or (unit_row n k) t 0 ≡ 0 = unit-other n k t h d in omega arith)
        (cases_eq t k)

module _ (p : ℕ) (positive : 0 < p) (n : ℕ) (us : List (List ℕ)) where
  abbrev V : Module (residues p positive)
  V = row_module p positive n

  -- the members of the space
  abbrev pub N : List ℕ → Type 0
  N x = InSpan (rows p n) us x

  pub members : IsSubmodule (rows p n) N
  members = Modules.span_submodule (residues p positive) V us

  -- rows modulo the space
  abbrev pub Q : Module (residues p positive)
  Q = Quotients.quotient (residues p positive) V N members

  module _ (two : 2 ≤ p) (pivots : List ℕ) (e : IsEchelon p n us pivots) where
    -- the pivot of a basis row is its first entry that is not 0
    pub pivot_first : (j : ℕ) → j < length us → IsFirstNonzero (get_or us j []) (get_or pivots j 0)
    pivot_first j h = record {
      within = omega (arith, (e.rows j [] h).0, e.within j h);
      nonzero = λ z. absurd (omega (arith, e.own j h));
      before = λ k l. e.before j k h l;
    }

    first_is_pivot : (j q : ℕ) → j < length us → IsFirstNonzero (get_or us j []) q → q ≡ get_or pivots j 0
    first_is_pivot j q h f = ⊎_elim
        (λ (a : q < get_or pivots j 0). absurd (f.nonzero (e.before j q h a)))
        (λ (a : get_or pivots j 0 ≤ q). ⊎_elim
        (λ (b : get_or pivots j 0 < q). absurd (let z : get_or (get_or us j []) (get_or pivots j 0) 0 ≡ 0 = f.before (get_or pivots j 0) b in omega (arith, e.own j h)))
        (λ (b : q ≤ get_or pivots j 0). omega arith)
        (cases_lt (get_or pivots j 0) q))
        (cases_lt q (get_or pivots j 0))

    -- a place is a pivot, or the unit row there is its own class
    pub pivot_or_own : (row : List ℕ) (k : ℕ) → k < n → IsClass (space p n us) k row
        → ((j : ℕ) × (j < length us) × get_or pivots j 0 ≡ k) ⊎ (row ≡ unit_row n k)
    pivot_or_own row k h class = ⊎_elim
        (λ (f : (j : ℕ) × (j < length pivots) × get_or pivots j 0 ≡ k). inl (f.0, omega (arith, e.count, f.1), f.2))
        (λ (g : (j : ℕ) → j < length pivots → get_or pivots j 0 ≢ k). inr (sym (class.only (unit_row n k) (unit_fits p n k two)
        (Modules.equal_in (residues p positive) V N members (unit_row n k) (unit_row n k) (V.rfl (unit_row n k)))
        (λ i q l f.
        unit-other n k q (omega (arith, f.within, (e.rows i [] l).0))
        (λ s. g i (omega (arith, e.count)) (sym (first_is_pivot i q l f) ∙ s))))))
        (among k pivots)

    -- a row that is 0 at the pivots is 0 there
    pub zero_there : (other : List ℕ) → IsZeroAtPivots (space p n us) other → (j k : ℕ) → j < length us → get_or pivots j 0 ≡ k → get_or other k 0 ≡ 0
    zero_there other z j k h s = ap (λ t. get_or other t 0) (sym s) ∙ z j (get_or pivots j 0) h (pivot_first j h)

  module _ (r : ℕ → List ℕ) (classes : (k : ℕ) → k < n → IsClass (space p n us) k (r k)) where
    -- a member that is 0 at the pivots is 0
    pub zero_member : (f : List ℕ) → N f → IsZeroAtPivots (space p n us) f → (rows p n).◌≋◌ f (rows p n).origin
    zero_member f h z t l = Modules.add_right_cancel (residues p positive) V f V.origin (r t)
        (V.trans (V.add_comm f (r t)) (V.trans (subst ((rows p n).◌≋◌ (V.◌⊞◌ (r t) f)) moved (V.rfl _)) (V.symm (Modules.origin_add (residues p positive) V (r t))))) t l
      where
        moved : V.◌⊞◌ (r t) f ≡ r t
        moved = (classes t l).only (V.◌⊞◌ (r t) f) (row_fits p n _ (λ k b. mod-lt _ positive))
            (Q.trans (classes t l).same_class (Q.symm (Q.trans (Q.add_cong (Q.rfl (r t)) (Quotients.origin_modulo (residues p positive) V N members f h)) (Q.add_origin (r t)))))
            (λ i q b g. at i q b g)
          where
            at : (i q : ℕ) → i < length us → IsFirstNonzero (get_or us i []) q → get_or (V.◌⊞◌ (r t) f) q 0 ≡ 0
            at i q b g = ⊎_elim
                (λ (c : q < n). row-entry n _ q c ∙ ap (λ m. m % p) (let zr : get_or (r t) q 0 ≡ 0 = (classes t l).zero i q b g in let zf : get_or f q 0 ≡ 0 = z i q b g in omega arith) ∙ mod-eq_of_lt positive)
                (λ (c : n ≤ q). get_or_past (V.◌⊞◌ (r t) f) q 0 (omega (arith, (row_fits p n (λ k. (get_or (r t) k 0 + get_or f k 0) % p) (λ k b. mod-lt _ positive)).0)))
                (cases_lt q n)

    -- v_0 r_0 + .. + v_(n-1) r_(n-1)
    abbrev pub normal : List ℕ → List ℕ
    normal v = along p positive n V r v

    pub normal_linear : IsLinear (rows p n) (rows p n) normal
    normal_linear = along_linear p positive n V r

    -- it is in the class of v
    pub normal_class : (v : List ℕ) → N (V.◌⊞◌ v (V.opposite (normal v)))
    normal_class v = agree p positive n Q (λ x. x) normal
        (record { resp = λ x y b. Quotients.equal_modulo (residues p positive) V N members x y b; add = λ x y. Q.rfl _; scale = λ c x. Q.rfl _ })
        (record {
          resp = λ x y b. Quotients.equal_modulo (residues p positive) V N members _ _ (normal_linear.resp x y b);
          add = λ x y. Quotients.equal_modulo (residues p positive) V N members _ _ (normal_linear.add x y);
          scale = λ c x. Quotients.equal_modulo (residues p positive) V N members _ _ (normal_linear.scale c x);
        })
        (λ k h. Q.trans (classes k h).same_class (Quotients.equal_modulo (residues p positive) V N members _ _ (V.symm (along-unit p positive n V r k h))))
        v

    -- and 0 at the pivots
    pub normal_zero : (v : List ℕ) → IsZeroAtPivots (space p n us) (normal v)
    normal_zero v i q l f = ⊎_elim
        (λ (c : q < n). sym (mod-eq_of_lt ((joined_fits p n positive summand (below n)).1 q 0 (omega (arith, (joined_fits p n positive summand (below n)).0))))
        ∙ ap (λ m. m % p) (joined-entry p n summand (below n) q c)
        ∙ sum_below_ext (residues p positive) _ (λ _. 0) n (λ k b. ap (λ m. m % p) (row-entry n _ q c ∙ ap (λ m. (get_or v k 0 * m) % p) ((classes k b).zero i q l f) ∙ ap (λ m. m % p) (let z : get_or v k 0 * 0 ≡ 0 = omega arith in z)) ∙ mod-mod 0 p)
        ∙ sum-zero (residues p positive) (below n)
        ∙ mod-eq_of_lt positive)
        (λ (c : n ≤ q). get_or_past (normal v) q 0 (omega (arith, (joined_fits p n positive summand (below n)).0)))
        (cases_lt q n)
      where
        summand : ℕ → List ℕ
        summand k = (rows p n).◌·◌ (get_or v k 0) (r k)
