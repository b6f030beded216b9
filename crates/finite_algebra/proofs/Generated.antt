-- The ideal that elements generate: the space that gains their multiples by the basis elements.
use Rattle.std.proofs.Common.{◌≡◌, ◌∙◌, ◌<◌, ◌+◌, ◌++◌, ◌∷◌, [], ℕ, List, All, length, get_or, take, arith, refl, sym, subst}
use Rattle.std.proofs.lemmas.List.{take_more}
use Rattle.std.proofs.lemmas.List.Elements.{All-append, All-cons, All-from_get_or, All-nil, All-weaker}
use Rattle.comm_ring.specs.Ring.{CommRing}
use Rattle.comm_ring.specs.Modules.{InSpan, IsSubmodule}
use Rattle.comm_ring.specs.Ideals.{InIdeal, IsIdeal}
use Rattle.comm_ring.specs.Rows.{rows}
use Rattle.comm_ring.proofs.Derived as Derived
use Rattle.comm_ring.proofs.Ideals as Ideals
use Rattle.comm_ring.proofs.Modules as Modules
use Rattle.comm_ring.proofs.Modules.{Module}
use Rattle.comm_ring.proofs.Residues.{residues}
use Rattle.row_space.specs.Echelon.{IsRow}
use Rattle.row_space.specs.Subspace.{Subspace, FitsIn, IsIn, Joins}
use Rattle.row_space.proofs.Members.{span_of}
use Rattle.finite_algebra.specs.Elements.{FiniteAlgebra, AreProducts, IsAlgebra, IsElement, elements, ring_of, times, unit_row}
use Rattle.finite_algebra.specs.Projections.{IsGeneratedBy}
use Rattle.finite_algebra.proofs.Multiplication.{product-times}
use Rattle.finite_algebra.proofs.Products.{left_linear, module_of, reduced, reduced_fits, right_linear, ring_from, times_fits}
use Rattle.finite_algebra.proofs.Totals.{linear-origin}

-- membership does not depend on how the prime and the length are written
pub moved : (p p' w w' : ℕ) (us : List (List ℕ)) (f : List ℕ) → p ≡ p' → w ≡ w' → InSpan (rows p w) us f → InSpan (rows p' w') us f
moved p p' w w' us f e h s = subst (λ q. InSpan (rows q w') us f) e (subst (λ v. InSpan (rows p v) us f) h s)

module _ (A : FiniteAlgebra) (positive : 0 < A.prime) (a : IsAlgebra A) where
  abbrev M : Module (residues A.prime positive)
  M = module_of A positive

  abbrev R : CommRing
  R = ring_from A positive a

  -- an ideal of the ring holds multiples by numbers
  pub ideal_submodule : (I : List ℕ → Type 0) → IsIdeal (ring_of A) I → IsSubmodule (elements A) I
  ideal_submodule I i = record {
    resp = i.resp;
    none = i.none;
    add = i.add;
    scale = λ c x h. i.resp _ _ (R.trans ((left_linear A positive x).scale c A.one) (M.scale_cong {c = c} {c' = c} refl (Derived.one_mul R x))) (i.scale (M.◌·◌ c A.one) x h);
  }

  -- the elements whose product with x is in a span
  takes_into : (us : List (List ℕ)) (x : List ℕ) → IsSubmodule (elements A) (λ f. InSpan (elements A) us (times A x f))
  takes_into us x =
      let s = Modules.span_submodule (residues A.prime positive) M us in
      let l = right_linear A positive x in
      record {
        resp = λ f g e h. s.resp _ _ (l.resp f g e) h;
        none = s.resp _ _ (M.symm (linear-origin (residues A.prime positive) M M (λ f. times A x f) l)) s.none;
        add = λ f g h k. s.resp _ _ (M.symm (l.add f g)) (s.add _ _ h k);
        scale = λ c f h. s.resp _ _ (M.symm (l.scale c f)) (s.scale c _ h);
      }

  pub none_generated : (s : Subspace) → s.prime ≡ A.prime → s.width ≡ A.dimension → s.basis ≡ [] → IsGeneratedBy A [] s
  none_generated s e h none = record {
    ideal = record {
      prime = e;
      width = h;
      absorbs = λ x f i j l. outward _ (Modules.span_least (residues A.prime positive) M (λ g. InSpan (elements A) s.basis (times A x g)) (takes_into s.basis x) s.basis (nothing (λ g. InSpan (elements A) s.basis (times A x g))) f (inward f l));
    };
    holds = All-nil (IsIn s);
    multiples = λ f l. Modules.span_least (residues A.prime positive) M (InIdeal (ring_of A) []) (ideal_submodule (InIdeal (ring_of A) []) (Ideals.ideal_of_list R [])) s.basis (nothing (InIdeal (ring_of A) [])) f (inward f l);
  }
    where
      inward : (f : List ℕ) → IsIn s f → InSpan (elements A) s.basis f
      inward f l = moved s.prime A.prime s.width A.dimension s.basis f e h l

      outward : (f : List ℕ) → InSpan (elements A) s.basis f → IsIn s f
      outward f l = moved A.prime s.prime A.dimension s.width s.basis f (sym e) (sym h) l

      nothing : (N : List ℕ → Type 0) → All N s.basis
      nothing N = subst (All N) (sym none) (All-nil N)

  module _ (gs : List (List ℕ)) (i : ℕ) (inside : i < length gs) (g : List ℕ) (is : g ≡ get_or gs i []) (table : List (List ℕ)) (products : AreProducts A g table)
      (old new : Subspace) (w : IsGeneratedBy A (take i gs) old) (j : Joins old table new) where
    prime_is : new.prime ≡ A.prime
    prime_is = j.prime ∙ w.ideal.prime

    width_is : new.width ≡ A.dimension
    width_is = j.width ∙ w.ideal.width

    inward : (f : List ℕ) → IsIn new f → InSpan (elements A) new.basis f
    inward f h = moved new.prime A.prime new.width A.dimension new.basis f prime_is width_is h

    outward : (f : List ℕ) → InSpan (elements A) new.basis f → IsIn new f
    outward f h = moved A.prime new.prime A.dimension new.width new.basis f (sym prime_is) (sym width_is) h

    old_inward : (f : List ℕ) → IsIn old f → InSpan (elements A) old.basis f
    old_inward f h = moved old.prime A.prime old.width A.dimension old.basis f w.ideal.prime w.ideal.width h

    old_outward : (f : List ℕ) → InSpan (elements A) old.basis f → IsIn old f
    old_outward f h = moved A.prime old.prime A.dimension old.width old.basis f (sym w.ideal.prime) (sym w.ideal.width) h

    -- the new span is that of the old basis and the products
    into : (f : List ℕ) → InSpan (elements A) (old.basis ++ table) f → InSpan (elements A) new.basis f
    into = Modules.span_through (residues A.prime positive) M (old.basis ++ table) new.basis (All-from_get_or (InSpan (elements A) new.basis) (old.basis ++ table) []
        (λ k l. moved old.prime A.prime old.width A.dimension new.basis _ w.ideal.prime w.ideal.width (span_of old.prime old.width new.basis _ (j.covers k l))))

    from : (f : List ℕ) → InSpan (elements A) new.basis f → InSpan (elements A) (old.basis ++ table) f
    from = Modules.span_through (residues A.prime positive) M new.basis (old.basis ++ table) (All-from_get_or (InSpan (elements A) (old.basis ++ table)) new.basis []
        (λ k l. moved old.prime A.prime old.width A.dimension (old.basis ++ table) _ w.ideal.prime w.ideal.width (span_of old.prime old.width (old.basis ++ table) _ (j.covered k l))))

    from_old : (f : List ℕ) → InSpan (elements A) old.basis f → InSpan (elements A) new.basis f
    from_old f h = into f (Modules.span_left (residues A.prime positive) M old.basis table f h)

    multiple_in : (y : List ℕ) → IsElement A y → InSpan (elements A) new.basis (times A y g)
    multiple_in y h = into _ (Modules.span_right (residues A.prime positive) M old.basis table _ (y, h.0 ∙ sym products.count, M.symm (product-times A positive g table products y)))

    old_absorbs : (x : List ℕ) → IsElement A x → (f : List ℕ) → InSpan (elements A) old.basis f → InSpan (elements A) new.basis (times A x f)
    old_absorbs x h f l = (Modules.span_submodule (residues A.prime positive) M new.basis).resp _ _ ((right_linear A positive x).resp _ _ (M.add_origin f))
        (from_old _ (old_inward _ (w.ideal.absorbs x (reduced A positive f) h (reduced_fits A positive f)
        (old_outward _ ((Modules.span_submodule (residues A.prime positive) M old.basis).resp _ _ (M.symm (M.add_origin f)) l)))))

    row_absorbs : (x : List ℕ) (k : ℕ) → k < length table → InSpan (elements A) new.basis (times A x (get_or table k []))
    row_absorbs x k l = (Modules.span_submodule (residues A.prime positive) M new.basis).resp _ _
        (M.trans (R.mul_assoc x (unit_row A.dimension k) g) (Derived.of_path R (subst (λ r. times A x (times A (unit_row A.dimension k) g) ≡ times A x r) (sym (products.products k (omega (arith, products.count)))) refl)))
        (multiple_in (times A x (unit_row A.dimension k)) (times_fits A positive x (unit_row A.dimension k)))

    absorbs : (x : List ℕ) → IsElement A x → (f : List ℕ) → InSpan (elements A) new.basis f → InSpan (elements A) new.basis (times A x f)
    absorbs x h f l = Modules.span_least (residues A.prime positive) M (λ e. InSpan (elements A) new.basis (times A x e)) (takes_into new.basis x) (old.basis ++ table)
        (All-append (λ e. InSpan (elements A) new.basis (times A x e)) old.basis table
        (All-weaker (InSpan (elements A) old.basis) (λ e. InSpan (elements A) new.basis (times A x e)) (λ e l. old_absorbs x h e l) old.basis (Modules.span_self (residues A.prime positive) M old.basis))
        (All-from_get_or (λ e. InSpan (elements A) new.basis (times A x e)) table [] (λ k l. row_absorbs x k l)))
        f (from f l)

    -- the generators so far
    abbrev more : List (List ℕ)
    more = take i gs ++ g ∷ []

    abbrev more_ideal : IsIdeal (ring_of A) (InIdeal (ring_of A) more)
    more_ideal = Ideals.ideal_of_list R more

    g_in : InIdeal (ring_of A) more g
    g_in = Ideals.sum_is_append R (take i gs) (g ∷ []) g (Ideals.sum_right R _ _ (Ideals.ideal_of_list R (take i gs)) (Ideals.ideal_of_list R (g ∷ [])) g (Ideals.generators_in R (g ∷ []) 0 [] (omega arith)))

    member : (f : List ℕ) → InSpan (elements A) new.basis f → InIdeal (ring_of A) more f
    member f l = Modules.span_least (residues A.prime positive) M (InIdeal (ring_of A) more) (ideal_submodule (InIdeal (ring_of A) more) more_ideal) (old.basis ++ table)
        (All-append (InIdeal (ring_of A) more) old.basis table
        (All-weaker (InSpan (elements A) old.basis) (InIdeal (ring_of A) more)
        (λ h l. Ideals.sum_is_append R (take i gs) (g ∷ []) h (Ideals.sum_left R _ _ (Ideals.ideal_of_list R (take i gs)) (Ideals.ideal_of_list R (g ∷ [])) h (w.multiples h (old_outward h l))))
        old.basis (Modules.span_self (residues A.prime positive) M old.basis))
        (All-from_get_or (InIdeal (ring_of A) more) table [] (λ k l. more_ideal.resp _ _ (Derived.of_path R (sym (products.products k (omega (arith, products.count))))) (more_ideal.scale (unit_row A.dimension k) g g_in))))
        f (from f l)

    pub one_more_generated : IsElement A A.one → IsGeneratedBy A (take (i + 1) gs) new
    one_more_generated one = subst (λ hs. IsGeneratedBy A hs new) (subst (λ r. take i gs ++ r ∷ [] ≡ take (i + 1) gs) (sym is) (sym (take_more gs i [] inside))) (record {
      ideal = record { prime = prime_is; width = width_is; absorbs = λ x f h k l. outward _ (absorbs x h f (inward f l)) };
      holds = All-append (IsIn new) (take i gs) (g ∷ []) (All-weaker (IsIn old) (IsIn new) (λ f h. outward f (from_old f (old_inward f h))) (take i gs) w.holds)
          (All-cons (IsIn new) g [] (outward g ((Modules.span_submodule (residues A.prime positive) M new.basis).resp _ _ (Derived.one_mul R g) (multiple_in A.one one))) (All-nil (IsIn new)));
      multiples = λ f h. member f (inward f h);
    })

-- rows of elements fit in a space of elements
pub fit : (A : FiniteAlgebra) (s : Subspace) (us vs : List (List ℕ)) → s.prime ≡ A.prime → s.width ≡ A.dimension → vs ≡ us → All (IsElement A) us → All (FitsIn s) vs
fit A s us vs e h same h_us = subst (All (FitsIn s)) (sym same) (subst (λ q. All (IsRow q s.width) us) (sym e) (subst (λ w. All (IsRow A.prime w) us) (sym h) h_us))
