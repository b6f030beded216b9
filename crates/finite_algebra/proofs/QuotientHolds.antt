-- The algebra and the matrix that a quotient is made of.
use Rattle.std.proofs.Common.{◌≡◌, ℕ, ◌+◌, ◌<◌, ◌≤◌, List, [], length, map, get_or, All, refl, subst, sym, ap, ap₂, ◌∙◌, arith}
use Rattle.std.proofs.lemmas.List.{length-map, get_or-map}
use Rattle.std.proofs.lemmas.List.Elements.{All-from_get_or, All-map}
use Rattle.comm_ring.specs.Modules.{InSpan}
use Rattle.row_space.specs.Echelon.{IsRow, IsEchelon, entries_at}
use Rattle.row_space.specs.Subspace.{Subspace, IsIn, IsReduced, product}
use Rattle.finite_algebra.specs.Elements.{FiniteAlgebra, IsElement, IsAlgebra, elements, times}
use Rattle.finite_algebra.specs.Projections.{IsIdealOf, IsProjection, IsQuotient, IsClass, AreFree, images_of_products}
use Rattle.finite_algebra.proofs.Classes.{space}
use Rattle.finite_algebra.proofs.Images.{Splits, splits, dimensions}
use Rattle.finite_algebra.proofs.Summing.{combination_fits}
use Rattle.finite_algebra.proofs.Listing.{images_count, images_fit, images_are}
use Rattle.finite_algebra.proofs.QuotientLaws as Laws

-- the entries of a row of residues at places
entries_fit : (p n : ℕ) (row places : List ℕ) → IsRow p n row → ((a : ℕ) → a < length places → get_or places a 0 < n) → IsRow p (length places) (entries_at places row)
entries_fit p n row places fits within = (
  length-map places (λ q. get_or row q 0),
  All-from_get_or (λ x. x < p) (entries_at places row) 0
      (λ a h.
      let inside : a < length places = omega (arith, length-map places (λ q. get_or row q 0)) in
      subst (λ x. x < p) (sym (get_or-map (λ q. get_or row q 0) places a 0 0 inside)) (fits.1 (get_or places a 0) 0 (omega (arith, fits.0, within a inside)))),
)

-- an algebra by its parts
abbrev pub algebra : ℕ → ℕ → List ℕ → List (List ℕ) → FiniteAlgebra
algebra p n one products = record { prime = p; dimension = n; one = one; products = products }

pub same_parts : (p n n' : ℕ) (one one' : List ℕ) (products products' : List (List ℕ)) → n ≡ n' → one ≡ one' → products ≡ products' → algebra p n one products ≡ algebra p n' one' products'
same_parts p n n' one one' products products' e f g = ap₂ (λ k x. algebra p k x products) e f ∙ ap (algebra p n' one') g

module _ (A : FiniteAlgebra) (two : 2 ≤ A.prime) (a : IsAlgebra A) (ideal : Subspace) (i : IsIdealOf A ideal) (reduced : IsReduced ideal)
    (classes : List (List ℕ)) (long : length classes ≡ A.dimension) (known : (k : ℕ) → k < A.dimension → IsClass ideal k (get_or classes k []))
    (places : List ℕ) (free : AreFree classes (length classes) places) where
  positive : 0 < A.prime
  positive = omega arith

  ideal_is : ideal ≡ space A.prime A.dimension ideal.basis
  ideal_is = ap₂ (λ q w. record { prime = q; width = w; basis = ideal.basis }) i.prime i.width

  echelon : IsEchelon A.prime A.dimension ideal.basis reduced.0
  echelon = subst (λ (s : Subspace). IsEchelon s.prime s.width s.basis reduced.0) ideal_is reduced.1

  at_units : (k : ℕ) → k < A.dimension → IsClass (space A.prime A.dimension ideal.basis) k (get_or classes k [])
  at_units k h = subst (λ s. IsClass s k (get_or classes k [])) ideal_is (known k h)

  at_places : AreFree classes A.dimension places
  at_places = subst (λ n. AreFree classes n places) long free

  absorbs : (x f : List ℕ) → IsElement A x → IsElement A f → InSpan (elements A) ideal.basis f → InSpan (elements A) ideal.basis (times A x f)
  absorbs x f h k l = subst (λ s. IsIn s (times A x f)) ideal_is (i.absorbs x f h k (subst (λ s. IsIn s f) (sym ideal_is) l))

  abbrev m : ℕ
  m = length places

  abbrev matrix : List (List ℕ)
  matrix = map (entries_at places) classes

  split : Splits A.prime A.dimension m ideal.basis matrix (λ b. get_or places b 0)
  split = splits A.prime positive A.dimension ideal.basis two reduced.0 echelon classes long at_units places at_places

  pub matrix_fits : All (IsRow A.prime m) matrix
  matrix_fits = All-map (IsRow A.prime m) (entries_at places) classes (All-from_get_or (λ row. IsRow A.prime m (entries_at places row)) classes []
      (λ k h. entries_fit A.prime A.dimension (get_or classes k []) places (at_units k (omega (arith, long))).fits at_places.within))

  -- the quotient
  abbrev pub made : FiniteAlgebra
  made = record { prime = A.prime; dimension = m; one = product A.prime m A.one matrix; products = images_of_products A.prime A.dimension A.products matrix places }

  pub is_algebra : IsAlgebra made
  is_algebra = Laws.is_algebra A positive a ideal.basis matrix m (λ b. get_or places b 0) split absorbs
      (images_of_products A.prime A.dimension A.products matrix places)
      (images_count A.prime A.dimension A.products matrix places)
      (images_fit A.prime A.dimension A.products matrix places positive)
      (images_are A.prime A.dimension A.products matrix places)
      (combination_fits A.prime m positive A.one matrix)

  pub is_quotient : IsQuotient A ideal made matrix
  is_quotient = record {
    prime = refl;
    dimension = dimensions A.prime positive A.dimension ideal.basis two reduced.0 echelon classes long at_units places at_places;
    count = length-map classes (entries_at places) ∙ long;
    rows = matrix_fits;
    ring_map = Laws.ring_map A positive a ideal.basis matrix m (λ b. get_or places b 0) split absorbs
        (images_of_products A.prime A.dimension A.products matrix places)
        (images_count A.prime A.dimension A.products matrix places)
        (images_fit A.prime A.dimension A.products matrix places positive)
        (images_are A.prime A.dimension A.products matrix places);
    onto = λ w. (
      Laws.lift A positive a ideal.basis matrix m (λ b. get_or places b 0) split absorbs w,
      Laws.lift_fits A positive a ideal.basis matrix m (λ b. get_or places b 0) split absorbs w,
      Laws.image-lift A positive a ideal.basis matrix m (λ b. get_or places b 0) split absorbs w,
    );
    kernel = λ v. (
      λ h. subst (λ s. IsIn s v) (sym ideal_is) (split.from v h),
      λ h. split.into v (subst (λ s. IsIn s v) ideal_is h),
    );
  }

  pub is_projection : (k : ℕ) → k + length ideal.basis ≡ A.dimension → IsProjection A ideal k matrix
  is_projection k e = subst (λ n. IsProjection A ideal n matrix) same_dimension (record {
    dimension = is_quotient.dimension;
    count = is_quotient.count;
    rows = is_quotient.rows;
    kernel = is_quotient.kernel;
  })
    where
      same_dimension : length places ≡ k
      same_dimension = omega (arith, is_quotient.dimension, e)
