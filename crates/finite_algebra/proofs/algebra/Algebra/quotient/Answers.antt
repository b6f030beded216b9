use Rattle.std.proofs.Common.{◌≡◌, ◌≤◌, ℕ, List, length, map, All, arith, ap, ap₂, sym, subst, ◌∙◌}
use Rattle.row_space.specs.Echelon.{IsRow, entries_at}
use Rattle.row_space.specs.Subspace.{product}
use Rattle.finite_algebra.specs.Elements.{IsAlgebra}
use Rattle.finite_algebra.specs.Projections.{IsIdealOf, IsQuotient, AreFree, images_of_products}
use Rattle.finite_algebra.proofs.QuotientHolds.{algebra, same_parts, matrix_fits, is_algebra, is_quotient}
use Rattle.finite_algebra.proofs.algebra.Algebra.quotient.Goals as goal

pub image-requires-clause-matrix : goal.image-requires-clause-matrix
image-requires-clause-matrix c =
    let s = c.self.inside in
    let K = c.in_ok-classes.classes in
    let P = c.in_ok-places.places in
    let M = c.in_ok-matrix.matrix in
    let two : 2 ≤ s.prime = omega (arith, c.get-p.ensures.range, c.get-p.ensures.value) in
    let ideal = subst (λ v. IsIdealOf v c.args.ideal.now) (sym c.self.view_is) c.requires in
    let classes_are : c.as_slice.result.now ≡ c.in_ok-classes.classes = c.as_slice.ensures in
    let free = subst (λ (r : List (List ℕ)). AreFree r (length r) P) classes_are c.in_ok-places.ensures in
    let matrix_is : c.in_ok-matrix.matrix ≡ map (entries_at c.in_ok-places.places) c.in_ok-classes.classes = c.in_ok-matrix.ensures ∙ ap₂ (λ ps us. map (entries_at ps) us) c.as_slice-2.ensures c.as_slice-3.ensures in
    let fits = matrix_fits (algebra s.prime s.dimension s.one s.products.items) two c.self.invariant c.args.ideal.now ideal c.in_ok-classes.ensures.reduced K c.in_ok-classes.ensures.long c.in_ok-classes.ensures.classes P free in
    let wide : length c.in_ok-places.places ≡ c.len-dimension.result = sym c.len-dimension.ensures in
    subst (All (IsRow s.prime c.len-dimension.result)) (sym (c.as_slice-4.ensures ∙ matrix_is)) (subst (λ w. All (IsRow s.prime w) (map (entries_at P) K)) wide fits)

pub image_products-requires-clause-matrix : goal.image_products-requires-clause-matrix
image_products-requires-clause-matrix c =
    let s = c.self.inside in
    let K = c.in_ok-classes.classes in
    let P = c.in_ok-places.places in
    let M = c.in_ok-matrix.matrix in
    let two : 2 ≤ s.prime = omega (arith, c.get-p.ensures.range, c.get-p.ensures.value) in
    let ideal = subst (λ v. IsIdealOf v c.args.ideal.now) (sym c.self.view_is) c.requires in
    let classes_are : c.as_slice.result.now ≡ c.in_ok-classes.classes = c.as_slice.ensures in
    let free = subst (λ (r : List (List ℕ)). AreFree r (length r) P) classes_are c.in_ok-places.ensures in
    let matrix_is : c.in_ok-matrix.matrix ≡ map (entries_at c.in_ok-places.places) c.in_ok-classes.classes = c.in_ok-matrix.ensures ∙ ap₂ (λ ps us. map (entries_at ps) us) c.as_slice-2.ensures c.as_slice-3.ensures in
    let fits = matrix_fits (algebra s.prime s.dimension s.one s.products.items) two c.self.invariant c.args.ideal.now ideal c.in_ok-classes.ensures.reduced K c.in_ok-classes.ensures.long c.in_ok-classes.ensures.classes P free in
    let wide : length c.in_ok-places.places ≡ length c.as_slice-7.result.now = sym (ap length c.as_slice-7.ensures) in
    subst (All (IsRow s.prime (length c.as_slice-7.result.now))) (sym (c.as_slice-8.ensures ∙ matrix_is)) (subst (λ w. All (IsRow s.prime w) (map (entries_at P) K)) wide fits)

pub invariant_of-made : goal.invariant_of-made
invariant_of-made c =
    let s = c.self.inside in
    let K = c.in_ok-classes.classes in
    let P = c.in_ok-places.places in
    let M = c.in_ok-matrix.matrix in
    let two : 2 ≤ s.prime = omega (arith, c.get-p.ensures.range, c.get-p.ensures.value) in
    let ideal = subst (λ v. IsIdealOf v c.args.ideal.now) (sym c.self.view_is) c.requires in
    let classes_are : c.as_slice.result.now ≡ c.in_ok-classes.classes = c.as_slice.ensures in
    let free = subst (λ (r : List (List ℕ)). AreFree r (length r) P) classes_are c.in_ok-places.ensures in
    let matrix_is : c.in_ok-matrix.matrix ≡ map (entries_at c.in_ok-places.places) c.in_ok-classes.classes = c.in_ok-matrix.ensures ∙ ap₂ (λ ps us. map (entries_at ps) us) c.as_slice-2.ensures c.as_slice-3.ensures in
    let dimension_is : c.len-dimension.result ≡ length c.in_ok-places.places = c.len-dimension.ensures in
    let one_is = c.in_ok-one.ensures
    ∙ ap (λ w. product s.prime w c.as_slice-5.result.now c.as_slice-4.result.now) dimension_is
    ∙ ap₂ (λ v m. product s.prime (length P) v m) c.as_slice-5.ensures (c.as_slice-4.ensures ∙ matrix_is) in
    let products_are = c.into_vec.ensures ∙ c.in_ok-products.ensures
    ∙ ap₂ (λ q m. images_of_products s.prime s.dimension q m c.as_slice-7.result.now) c.as_slice-6.ensures.value (c.as_slice-8.ensures ∙ matrix_is)
    ∙ ap (images_of_products s.prime s.dimension s.products.items (map (entries_at P) K)) c.as_slice-7.ensures in
    let made_is = same_parts s.prime c.len-dimension.result (length P) c.in_ok-one.one (product s.prime (length P) s.one (map (entries_at P) K)) c.into_vec.result.items
    (images_of_products s.prime s.dimension s.products.items (map (entries_at P) K) P) dimension_is one_is products_are in
    subst IsAlgebra (sym made_is) (is_algebra (algebra s.prime s.dimension s.one s.products.items) two c.self.invariant c.args.ideal.now ideal c.in_ok-classes.ensures.reduced K c.in_ok-classes.ensures.long c.in_ok-classes.ensures.classes P free)

pub returns : goal.returns
returns c =
    let s = c.self.inside in
    let K = c.in_ok-classes.classes in
    let P = c.in_ok-places.places in
    let M = c.in_ok-matrix.matrix in
    let two : 2 ≤ s.prime = omega (arith, c.get-p.ensures.range, c.get-p.ensures.value) in
    let ideal = subst (λ v. IsIdealOf v c.args.ideal.now) (sym c.self.view_is) c.requires in
    let classes_are : c.as_slice.result.now ≡ c.in_ok-classes.classes = c.as_slice.ensures in
    let free = subst (λ (r : List (List ℕ)). AreFree r (length r) P) classes_are c.in_ok-places.ensures in
    let matrix_is : c.in_ok-matrix.matrix ≡ map (entries_at c.in_ok-places.places) c.in_ok-classes.classes = c.in_ok-matrix.ensures ∙ ap₂ (λ ps us. map (entries_at ps) us) c.as_slice-2.ensures c.as_slice-3.ensures in
    let dimension_is : c.len-dimension.result ≡ length c.in_ok-places.places = c.len-dimension.ensures in
    let one_is = c.in_ok-one.ensures
    ∙ ap (λ w. product s.prime w c.as_slice-5.result.now c.as_slice-4.result.now) dimension_is
    ∙ ap₂ (λ v m. product s.prime (length P) v m) c.as_slice-5.ensures (c.as_slice-4.ensures ∙ matrix_is) in
    let products_are = c.into_vec.ensures ∙ c.in_ok-products.ensures
    ∙ ap₂ (λ q m. images_of_products s.prime s.dimension q m c.as_slice-7.result.now) c.as_slice-6.ensures.value (c.as_slice-8.ensures ∙ matrix_is)
    ∙ ap (images_of_products s.prime s.dimension s.products.items (map (entries_at P) K)) c.as_slice-7.ensures in
    let made_is = same_parts s.prime c.len-dimension.result (length P) c.in_ok-one.one (product s.prime (length P) s.one (map (entries_at P) K)) c.into_vec.result.items
    (images_of_products s.prime s.dimension s.products.items (map (entries_at P) K) P) dimension_is one_is products_are in
    let quotient = is_quotient (algebra s.prime s.dimension s.one s.products.items) two c.self.invariant c.args.ideal.now ideal c.in_ok-classes.ensures.reduced K c.in_ok-classes.ensures.long c.in_ok-classes.ensures.classes P free in
    subst (λ v. IsQuotient v c.args.ideal.now (algebra s.prime c.len-dimension.result c.in_ok-one.one c.into_vec.result.items) M) c.self.view_is (subst (λ m. IsQuotient (algebra s.prime s.dimension s.one s.products.items) c.args.ideal.now (algebra s.prime c.len-dimension.result c.in_ok-one.one c.into_vec.result.items) m) (sym matrix_is)
    (subst (λ b. IsQuotient (algebra s.prime s.dimension s.one s.products.items) c.args.ideal.now b (map (entries_at P) K)) (sym made_is) quotient))
