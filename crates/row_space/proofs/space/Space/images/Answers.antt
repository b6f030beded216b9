use Rattle.std.proofs.Common.{◌≡◌, ◌≢◌, ◌+◌, ◌<◌, ◌++◌, [], ℕ, length, replicate, map, All, arith, refl, ap, sym, subst, ◌∙◌}
use Rattle.std.proofs.lemmas.Bool.{eqb-true, eqb-false}
use Rattle.std.proofs.lemmas.List.{get_or_default, length-replicate}
use Rattle.std.proofs.lemmas.List.Elements.{All-replicate}
use Rattle.row_space.specs.Echelon.{IsRow}
use Rattle.row_space.specs.Sums.{side_by_side}
use Rattle.row_space.specs.Subspace.{Subspace, FitsIn}
use Rattle.row_space.proofs.Gathering.{empty_is, padded_fit, pairs_fit}
use Rattle.row_space.proofs.Images.{no_images}
use Rattle.row_space.proofs.Finding.{all_moved, echelon_moved, parts_moved, images_found}
use Rattle.row_space.proofs.space.Space.images.Goals as goal

pub returns-then-is_empty-clause-members : goal.returns-then-is_empty-clause-members
returns-then-is_empty-clause-members c = λ f.
    no_images c.args.self.now c.args.width c.args.matrix.now c.args.images.now c.new-found.result.basis f
    (eqb-true (length c.args.matrix.now) 0 (sym c.if-is_empty.ensures)) (ap (λ (v : Subspace). v.basis) c.new-found.ensures)

pub put_padded-requires : goal.put_padded-requires
put_padded-requires c =
    let s = c.args.self.now in
    let width = c.args.width in
    let matrix = c.args.matrix.now in
    let images = c.args.images.now in
    let prime_is = ap (λ (v : Subspace). v.prime) c.self.view_is in
    let wide = ap (λ (v : Subspace). v.width) c.self.view_is in
    let positive : 0 < s.prime = omega (arith, c.get-modulus.ensures.range, c.get-modulus.ensures.value, prime_is) in
    let some : length matrix ≢ 0 = eqb-false (length matrix) 0 (sym c.if-is_empty.ensures) in
    let inside : 0 < length matrix = omega arith in
    let inside_images : 0 < length images = omega (arith, c.requires.count) in
    let left_is = c.as_slice.ensures ∙ c.index-matrix-0.is ∙ get_or_default matrix 0 c.index-matrix-0.result [] inside in
    let right_is = c.as_slice-2.ensures ∙ c.index-images-0.is ∙ get_or_default images 0 c.index-images-0.result [] inside_images in
    let left_long = ap length left_is ∙ (c.requires.matrix 0 [] inside).0 in
    let right_long = ap length right_is ∙ (c.requires.images 0 [] inside_images).0 in
    let whole_wide : c.joined_length-whole_width.result ≡ s.width + width = omega (arith, c.joined_length-whole_width.ensures, left_long, right_long) in
    let whole_is = c.new-whole.ensures ∙ empty_is c.self.inside.prime s.prime c.joined_length-whole_width.result (s.width + width) prime_is whole_wide in
    let zero_is = c.as_slice-3.ensures.value ∙ c.in_ok-zero.ensures in
    let rows_fit = subst (All (IsRow s.prime s.width)) (sym c.rows.ensures.basis) c.rows.ensures.reduced.1.rows in
    let long : length (replicate {A = ℕ} width 0) ≡ width = length-replicate width 0 in
    let zero_fits = subst (IsRow s.prime width) (sym zero_is) (long, All-replicate (λ x. x < s.prime) width 0 positive) in
    subst (λ v. All (FitsIn v) (map (λ row. row ++ c.as_slice-3.result.now) c.rows.result.now)) (sym whole_is) (padded_fit s.prime s.width width c.rows.result.now c.as_slice-3.result.now rows_fit zero_fits)

pub put_pairs-requires-clause-fit : goal.put_pairs-requires-clause-fit
put_pairs-requires-clause-fit c =
    let s = c.args.self.now in
    let width = c.args.width in
    let matrix = c.args.matrix.now in
    let images = c.args.images.now in
    let prime_is = ap (λ (v : Subspace). v.prime) c.self.view_is in
    let wide = ap (λ (v : Subspace). v.width) c.self.view_is in
    let positive : 0 < s.prime = omega (arith, c.get-modulus.ensures.range, c.get-modulus.ensures.value, prime_is) in
    let some : length matrix ≢ 0 = eqb-false (length matrix) 0 (sym c.if-is_empty.ensures) in
    let inside : 0 < length matrix = omega arith in
    let inside_images : 0 < length images = omega (arith, c.requires.count) in
    let left_is = c.as_slice.ensures ∙ c.index-matrix-0.is ∙ get_or_default matrix 0 c.index-matrix-0.result [] inside in
    let right_is = c.as_slice-2.ensures ∙ c.index-images-0.is ∙ get_or_default images 0 c.index-images-0.result [] inside_images in
    let left_long = ap length left_is ∙ (c.requires.matrix 0 [] inside).0 in
    let right_long = ap length right_is ∙ (c.requires.images 0 [] inside_images).0 in
    let whole_wide : c.joined_length-whole_width.result ≡ s.width + width = omega (arith, c.joined_length-whole_width.ensures, left_long, right_long) in
    let whole_is = c.new-whole.ensures ∙ empty_is c.self.inside.prime s.prime c.joined_length-whole_width.result (s.width + width) prime_is whole_wide in
    let zero_is = c.as_slice-3.ensures.value ∙ c.in_ok-zero.ensures in
    let padded = c.in_ok-put_padded.ensures in
    let padded_prime = padded.prime ∙ ap (λ (v : Subspace). v.prime) whole_is in
    let padded_width = padded.width ∙ ap (λ (v : Subspace). v.width) whole_is in
    all_moved s.prime c.put_padded.new.self.prime (s.width + width) c.put_padded.new.self.width (side_by_side matrix images) padded_prime padded_width
    (pairs_fit s.prime s.width width matrix images c.requires.count c.requires.matrix c.requires.images)

pub put_right_parts-requires-clause-echelon : goal.put_right_parts-requires-clause-echelon
put_right_parts-requires-clause-echelon c =
    let s = c.args.self.now in
    let width = c.args.width in
    let matrix = c.args.matrix.now in
    let images = c.args.images.now in
    let prime_is = ap (λ (v : Subspace). v.prime) c.self.view_is in
    let wide = ap (λ (v : Subspace). v.width) c.self.view_is in
    let positive : 0 < s.prime = omega (arith, c.get-modulus.ensures.range, c.get-modulus.ensures.value, prime_is) in
    let some : length matrix ≢ 0 = eqb-false (length matrix) 0 (sym c.if-is_empty.ensures) in
    let inside : 0 < length matrix = omega arith in
    let inside_images : 0 < length images = omega (arith, c.requires.count) in
    let left_is = c.as_slice.ensures ∙ c.index-matrix-0.is ∙ get_or_default matrix 0 c.index-matrix-0.result [] inside in
    let right_is = c.as_slice-2.ensures ∙ c.index-images-0.is ∙ get_or_default images 0 c.index-images-0.result [] inside_images in
    let left_long = ap length left_is ∙ (c.requires.matrix 0 [] inside).0 in
    let right_long = ap length right_is ∙ (c.requires.images 0 [] inside_images).0 in
    let whole_wide : c.joined_length-whole_width.result ≡ s.width + width = omega (arith, c.joined_length-whole_width.ensures, left_long, right_long) in
    let whole_is = c.new-whole.ensures ∙ empty_is c.self.inside.prime s.prime c.joined_length-whole_width.result (s.width + width) prime_is whole_wide in
    let zero_is = c.as_slice-3.ensures.value ∙ c.in_ok-zero.ensures in
    let padded = c.in_ok-put_padded.ensures in
    let padded_prime = padded.prime ∙ ap (λ (v : Subspace). v.prime) whole_is in
    let padded_width = padded.width ∙ ap (λ (v : Subspace). v.width) whole_is in
    let pairs = c.in_ok-put_pairs.ensures in
    let found_is = c.new-found.ensures ∙ empty_is c.self.inside.prime s.prime width width prime_is refl in
    let found_prime = ap (λ (v : Subspace). v.prime) found_is in
    let found_width = ap (λ (v : Subspace). v.width) found_is in
    let inside_prime = ap (λ (v : Subspace). v.prime) c.whole-2.view_is ∙ pairs.prime ∙ padded_prime in
    let inside_width = ap (λ (v : Subspace). v.width) c.whole-2.view_is ∙ pairs.width ∙ padded_width in
    let i = c.whole-2.inside in
    echelon_moved i.prime c.new-found.result.prime i.width (c.self.inside.width + c.new-found.result.width) i.rows.items c.as_slice-4.result.now i.pivots.items c.as_slice-5.result.now
    (found_prime ∙ sym inside_prime) (omega (arith, wide, found_width, inside_width)) c.as_slice-4.ensures.value c.as_slice-5.ensures.value c.whole-2.invariant

pub returns-clause-members : goal.returns-clause-members
returns-clause-members c =
    let s = c.args.self.now in
    let width = c.args.width in
    let matrix = c.args.matrix.now in
    let images = c.args.images.now in
    let prime_is = ap (λ (v : Subspace). v.prime) c.self.view_is in
    let wide = ap (λ (v : Subspace). v.width) c.self.view_is in
    let positive : 0 < s.prime = omega (arith, c.get-modulus.ensures.range, c.get-modulus.ensures.value, prime_is) in
    let some : length matrix ≢ 0 = eqb-false (length matrix) 0 (sym c.if-is_empty.ensures) in
    let inside : 0 < length matrix = omega arith in
    let inside_images : 0 < length images = omega (arith, c.requires.count) in
    let left_is = c.as_slice.ensures ∙ c.index-matrix-0.is ∙ get_or_default matrix 0 c.index-matrix-0.result [] inside in
    let right_is = c.as_slice-2.ensures ∙ c.index-images-0.is ∙ get_or_default images 0 c.index-images-0.result [] inside_images in
    let left_long = ap length left_is ∙ (c.requires.matrix 0 [] inside).0 in
    let right_long = ap length right_is ∙ (c.requires.images 0 [] inside_images).0 in
    let whole_wide : c.joined_length-whole_width.result ≡ s.width + width = omega (arith, c.joined_length-whole_width.ensures, left_long, right_long) in
    let whole_is = c.new-whole.ensures ∙ empty_is c.self.inside.prime s.prime c.joined_length-whole_width.result (s.width + width) prime_is whole_wide in
    let zero_is = c.as_slice-3.ensures.value ∙ c.in_ok-zero.ensures in
    let padded = c.in_ok-put_padded.ensures in
    let padded_prime = padded.prime ∙ ap (λ (v : Subspace). v.prime) whole_is in
    let padded_width = padded.width ∙ ap (λ (v : Subspace). v.width) whole_is in
    let pairs = c.in_ok-put_pairs.ensures in
    let found_is = c.new-found.ensures ∙ empty_is c.self.inside.prime s.prime width width prime_is refl in
    let found_prime = ap (λ (v : Subspace). v.prime) found_is in
    let found_width = ap (λ (v : Subspace). v.width) found_is in
    let inside_prime = ap (λ (v : Subspace). v.prime) c.whole-2.view_is ∙ pairs.prime ∙ padded_prime in
    let inside_width = ap (λ (v : Subspace). v.width) c.whole-2.view_is ∙ pairs.width ∙ padded_width in
    let rows_are = c.as_slice-4.ensures.value ∙ ap (λ (v : Subspace). v.basis) c.whole-2.view_is in
    images_found s width matrix images positive c.requires.count (λ i h. (c.rows.ensures.reduced.1.rows i [] h).0) (λ i h. (c.requires.matrix i [] h).0)
    c.new-whole.result c.put_padded.new.self c.put_pairs.new.self c.put_right_parts.new.self c.as_slice-3.result.now c.rows.result.now whole_is zero_is c.rows.ensures.basis padded pairs
    (λ f. parts_moved s.prime c.new-found.result.prime c.self.inside.width s.width width c.new-found.result.width c.put_pairs.new.self.basis c.as_slice-4.result.now c.put_right_parts.new.self.basis f
    found_prime wide found_width rows_are (c.in_ok-put_right_parts.ensures.members f))
