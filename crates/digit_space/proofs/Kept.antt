-- How products of a variable and a corner are kept.
use Rattle.std.proofs.Common.{◌≡◌, ℕ, ◌+◌, ◌-◌, ◌*◌, ◌<◌, List, [], ◌++◌, length, replicate, slice_index_or, None, Some, sym, ap, ◌∙◌, subst, arith}
use Rattle.std.proofs.lemmas.List.{append-nil}
use Rattle.polys.specs.declared.term.Term.{Term}
use Rattle.standard_monomials.specs.Standard.{polynomial_of}
use Rattle.digit_space.specs.Model.{DigitData, HasTables, HasProducts, AreFirstDigits, IsDigitsOf, AreKept, width, times_variable, corner}
use Rattle.digit_space.specs.declared.products.Product.{Product}
use Rattle.digit_space.proofs.Spaced.{place_below}

-- a whole row lacks no zeros
pub whole_row : (g : DigitData) (f : List Term) (row : List ℕ) → IsDigitsOf g f row → AreFirstDigits g f row
whole_row g f row d =
    let l : length row ≡ width g = d.fits.0 in
    let none : width g - length row ≡ 0 = omega arith in
    record { short = omega arith; digits = subst (IsDigitsOf g f) (sym (ap (λ k. row ++ replicate k 0) none ∙ append-nil row)) d }

-- a row for each product, in order
pub tables_kept : (g : DigitData) (tables border : List (List ℕ)) → border ≡ tables → HasTables g tables → AreKept g border None
tables_kept g tables border e t = subst (λ z. AreKept g z None) (sym e) (record {
  count = t.count;
  each = λ v i a b. (
    subst (λ n. v * length g.basis + i < n) (sym t.count) (place_below g.curve.variables (length g.basis) v i a b),
    whole_row g (times_variable g v (polynomial_of (corner g i))) (slice_index_or tables (v * length g.basis + i) []) (t.rows v i a b),
  );
})

-- products that are listed
pub listed_kept : (g : DigitData) (border rows : List (List ℕ)) (products : List Product) → rows ≡ border → HasProducts g border products → AreKept g rows (Some products)
listed_kept g border rows products e h = subst (λ z. AreKept g z (Some products)) (sym e) (record { count = h.count; each = h.each })
