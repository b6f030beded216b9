-- What the makers of digits give.
use Rattle.std.specs.Prelude.{◌≡◌, ℕ, ◌++◌, ◌-◌, ◌<◌, ◌≤◌, List, length, replicate, slice_index_or, take}
use Rattle.monomials.specs.Mono.{Monomial, unit}
use Rattle.polys.specs.declared.term.Term.{Term}
use Rattle.polys.specs.Terms.{IsPoly}
use Rattle.digit_space.specs.Model.{DigitData, IsDigitsOf, width}
use Rattle.digit_space.specs.declared.products.OuterRow.{OuterRow}

-- rows of the length without zeros at their ends
pub record AreTrimmed (long : ℕ) (rows short : List (List ℕ)) : Type 0 where
  pub count : length short ≡ length rows
  pub each : (j : ℕ) (d : List ℕ) → j < length rows → (length (slice_index_or rows j d) ≡ long) × (length (slice_index_or short j d) ≤ long)
      × (slice_index_or short j d ++ replicate (long - length (slice_index_or short j d)) 0 ≡ slice_index_or rows j d)

-- monomials with their rows of the length
pub record AreOuter (long : ℕ) (monomials : List Monomial) (rows : List (List ℕ)) (made : List OuterRow) : Type 0 where
  pub count : length made ≡ length monomials
  pub each : (j : ℕ) (d : OuterRow) (e : List ℕ) → j < length made → ((slice_index_or made j d).monomial ≡ slice_index_or monomials j unit)
      × ((slice_index_or made j d).digits ≡ slice_index_or rows j e) × (length (slice_index_or rows j e) ≡ long)

-- where a polynomial has the row as its digits at the second depth, the first blocks are its digits at the first one
abbrev pub HasFirstBlocks : DigitData → DigitData → Type 0
HasFirstBlocks old new =
    (f : List Term) (row : List ℕ) → IsPoly old.curve.prime old.curve.variables f → IsDigitsOf new f row → IsDigitsOf old f (take (width old) row)
