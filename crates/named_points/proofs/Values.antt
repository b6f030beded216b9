-- Values decide what the statements name.
use Rattle.std.proofs.Common.{◌≡◌, ◌⊎◌, ◌↔◌, inl, inr, ℕ, zero, suc, ◌+◌, ◌%◌, ◌<◌, List, [], ◌∷◌, ◌++◌, Option, None, Some, length, map, take, get_or, refl, sym, ap, ◌∙◌, subst, arith}
use Rattle.std.specs.Prelude.{IsTrue, MatchOption}
use Rattle.std.proofs.Math.Nat.{mod-eq_of_lt}
use native.Mathlib.Nat.{zero-mod}
use Rattle.std.specs.List.{All, Any, AllZip}
use Rattle.std.specs.Option.{is_none}
use Rattle.std.proofs.lemmas.List.{take_more}
use Rattle.std.proofs.lemmas.List.Elements.{All-nil, All-cons, All-head, All-tail, All-get_or}
use Rattle.comm_ring.proofs.Rows.{row-entry}
use Rattle.lane_rows.specs.Rows.{IsZeroRow, IsFirstNonzero}
use Rattle.polys.specs.declared.term.Term.{Term}
use Rattle.polys.specs.Poly.{Polynomial, terms_of}
use Rattle.polys.specs.Ideal.{InIdeal}
use Rattle.polys.specs.Curve.{IsOver}
use Rattle.curve_model.specs.Point.{basis_of}
use Rattle.row_space.specs.Echelon.{IsRow}
use Rattle.row_space.specs.Subspace.{IsZero, product}
use Rattle.finite_algebra.proofs.Summing.{combination_fits}
use Rattle.digit_space.specs.Model.{DigitData, IsDigitRow}
use Rattle.split_points.specs.declared.splitting.CurvePoint.{CurvePoint}
use Rattle.split_points.specs.Splitting.{AreValuesAt}
use Rattle.named_points.specs.Deciding.{HaveDigits, IsZeroAt, IsNamedBy}

-- ---- a row that is 0

module _ (p width : ℕ) (positive : 0 < p) (row : List ℕ) (fits : IsRow p width row) where
  zeros_vanish : IsZeroRow row → IsZero p width row
  zeros_vanish h k l =
      let inside : k < length row = let long = fits.0 in omega arith in
      ap (λ n. n % p) (All-get_or (λ x. x ≡ 0) row k 0 inside h ∙ sym (row-entry width (λ i. 0) k l))

  first_does_not : (place : ℕ) → IsFirstNonzero row place → IsZero p width row → ⊥
  first_does_not place f h =
      let inside : place < width = let long = fits.0 in let w = f.within in omega arith in
      let small : get_or row place 0 < p = All-get_or (λ x. x < p) row place 0 f.within fits.1 in
      let same : get_or row place 0 % p ≡ 0 % p = h place inside ∙ ap (λ n. n % p) (row-entry width (λ i. 0) place inside) in
      f.nonzero (sym (mod-eq_of_lt small) ∙ same ∙ zero-mod p)

  -- a search for an entry that is not 0 decides
  pub zero_decided : (found : Option ℕ) → MatchOption found (IsZeroRow row) (λ place. IsFirstNonzero row place)
      → IsTrue (is_none found) ↔ IsZero p width row
  zero_decided None h = (λ t. zeros_vanish h, λ z. refl)
  zero_decided (Some place) h = (λ t. absurd (cc), λ z. absurd (first_does_not place h z))

-- v times a matrix is a row
pub product_fits : (p width : ℕ) → 0 < p → (v : List ℕ) (matrix : List (List ℕ)) → IsRow p width (product p width v matrix)
product_fits p width positive v matrix = combination_fits p width positive v matrix

-- ---- rows of digits

pub digit_rows : (g : DigitData) (polys : List Polynomial) (rows : List (List ℕ)) → HaveDigits g polys rows → All (IsDigitRow g) rows
digit_rows g [] [] h = All-nil (IsDigitRow g)
digit_rows g [] (row ∷ rows) h = absurd h
digit_rows g (f ∷ polys) [] h = absurd h
digit_rows g (f ∷ polys) (row ∷ rows) h = All-cons (IsDigitRow g) row rows h.0.fits (digit_rows g polys rows h.1)

pub all_digit_rows : (g : DigitData) (statements : List (List Polynomial)) (made : List (List (List ℕ))) → AllZip (HaveDigits g) statements made → All (All (IsDigitRow g)) made
all_digit_rows g [] [] h = All-nil (All (IsDigitRow g))
all_digit_rows g [] (rows ∷ made) h = absurd h
all_digit_rows g (polys ∷ statements) [] h = absurd h
all_digit_rows g (polys ∷ statements) (rows ∷ made) h = All-cons (All (IsDigitRow g)) rows made (digit_rows g polys rows h.0) (all_digit_rows g statements made h.1)

-- one pair more
pub zip_push : {X Y : Type 0} (R : X → Y → Type 0) (xs : List X) (ys : List Y) (x : X) (y : Y) → AllZip R xs ys → R x y → AllZip R (xs ++ x ∷ []) (ys ++ y ∷ [])
zip_push R [] [] x y z r = (r, tt)
zip_push R [] (v ∷ ys) x y z r = absurd z
zip_push R (u ∷ xs) [] x y z r = absurd z
zip_push R (u ∷ xs) (v ∷ ys) x y z r = (z.0, zip_push R xs ys x y z.1 r)

-- the item at a place and its partner
pub zip_more : {X Y : Type 0} (R : X → Y → Type 0) (xs : List X) (ys : List Y) (i : ℕ) (x : X) (y : Y) → i < length xs → x ≡ get_or xs i x
    → AllZip R (take i xs) ys → R x y → AllZip R (take (i + 1) xs) (ys ++ y ∷ [])
zip_more R xs ys i x y within is z r =
    subst (λ zs. AllZip R zs (ys ++ y ∷ [])) (ap (λ u. take i xs ++ u ∷ []) is ∙ sym (take_more xs i x within)) (zip_push R (take i xs) ys x y z r)

-- ---- some item of a list

any_here : {X : Type 0} (P : X → Type 0) (x : X) (xs : List X) → P x → Any P (x ∷ xs)
any_here P x xs h = (0, x, omega arith, refl, h)

any_later : {X : Type 0} (P : X → Type 0) (x : X) (xs : List X) → Any P xs → Any P (x ∷ xs)
any_later P x xs w = (suc w.0, w.1, (let l = w.2 in omega arith), w.3, w.4)

any_cases : {X : Type 0} (P : X → Type 0) (x : X) (xs : List X) → Any P (x ∷ xs) → P x ⊎ Any P xs
any_cases P x xs (zero, y, l, e, h) = inl (subst P (sym e) h)
any_cases P x xs (suc k, y, l, e, h) = inr (k, y, omega arith, e, h)

any_none : {X : Type 0} (P : X → Type 0) → Any P [] → ⊥
any_none P w = let l = w.2 in absurd (omega arith)

any_push_cases : {X : Type 0} (P : X → Type 0) (xs : List X) (y : X) → Any P (xs ++ y ∷ []) → Any P xs ⊎ P y
any_push_cases P [] y w = go (any_cases P y [] w)
  where
    go : P y ⊎ Any P [] → Any P [] ⊎ P y
    go (inl h) = inr h
    go (inr v) = inl v
any_push_cases P (x ∷ xs) y w = go (any_cases P x (xs ++ y ∷ []) w) (any_push_cases P xs y)
  where
    more : Any P xs ⊎ P y → Any P (x ∷ xs) ⊎ P y
    more (inl v) = inl (any_later P x xs v)
    more (inr h) = inr h

    go : P x ⊎ Any P (xs ++ y ∷ []) → (Any P (xs ++ y ∷ []) → Any P xs ⊎ P y) → Any P (x ∷ xs) ⊎ P y
    go (inl h) rest = inl (any_here P x xs h)
    go (inr v) rest = more (rest v)

-- the item at a place is none, and none stands before it
pub none_more : {X : Type 0} (P : X → Type 0) (xs : List X) (i : ℕ) (x : X) → i < length xs → x ≡ get_or xs i x → (Any P (take i xs) → ⊥) → (P x → ⊥) → Any P (take (i + 1) xs) → ⊥
none_more P xs i x within is none out w = go (any_push_cases P (take i xs) x (subst (Any P) (take_more xs i x within ∙ ap (λ u. take i xs ++ u ∷ []) (sym is)) w))
  where
    go : Any P (take i xs) ⊎ P x → ⊥
    go (inl v) = none v
    go (inr h) = out h

-- ---- what the statements name

module _ (g : DigitData) (local : CurvePoint) (values : AreValuesAt g local.point local.values) where
  abbrev Holds : List Term → Type 0
  Holds f = InIdeal g.curve.prime g.curve.variables (basis_of local.point) f

  abbrev Over : Polynomial → Type 0
  Over f = IsOver g.curve.prime g.curve.variables f

  all_exact : (polys : List Polynomial) (rows : List (List ℕ)) → All Over polys → HaveDigits g polys rows → All (IsZeroAt g local) rows ↔ All Holds (terms_of polys)
  all_exact [] [] over h = (λ z. All-nil Holds, λ z. All-nil (IsZeroAt g local))
  all_exact [] (row ∷ rows) over h = absurd h
  all_exact (f ∷ polys) [] over h = absurd h
  all_exact (f ∷ polys) (row ∷ rows) over h =
      let first = values.exact f.terms row (All-head Over f polys over).poly h.0 in
      let rest = all_exact polys rows (All-tail Over f polys over) h.1 in (
        λ z. All-cons Holds f.terms (terms_of polys) (first.0 (All-head (IsZeroAt g local) row rows z)) (rest.0 (All-tail (IsZeroAt g local) row rows z)),
        λ z. All-cons (IsZeroAt g local) row rows (first.1 (All-head Holds f.terms (terms_of polys) z)) (rest.1 (All-tail Holds f.terms (terms_of polys) z)),
      )

  any_exact : (statements : List (List Polynomial)) (made : List (List (List ℕ))) → All (All Over) statements → AllZip (HaveDigits g) statements made
      → Any (All (IsZeroAt g local)) made ↔ Any (λ fs. All Holds fs) (map terms_of statements)
  any_exact [] [] over h = (λ w. absurd (any_none (All (IsZeroAt g local)) w), λ w. absurd (any_none (All Holds) w))
  any_exact [] (rows ∷ made) over h = absurd h
  any_exact (polys ∷ statements) [] over h = absurd h
  any_exact (polys ∷ statements) (rows ∷ made) over h =
      let first = all_exact polys rows (All-head (All Over) polys statements over) h.0 in
      let rest = any_exact statements made (All-tail (All Over) polys statements over) h.1 in (
        λ w. there first.0 rest.0 (any_cases (All (IsZeroAt g local)) rows made w),
        λ w. back first.1 rest.1 (any_cases (All Holds) (terms_of polys) (map terms_of statements) w),
      )
    where
      there : (All (IsZeroAt g local) rows → All Holds (terms_of polys)) → (Any (All (IsZeroAt g local)) made → Any (λ fs. All Holds fs) (map terms_of statements))
          → All (IsZeroAt g local) rows ⊎ Any (All (IsZeroAt g local)) made → Any (λ fs. All Holds fs) (terms_of polys ∷ map terms_of statements)
      there one more (inl z) = any_here (All Holds) (terms_of polys) (map terms_of statements) (one z)
      there one more (inr w) = any_later (All Holds) (terms_of polys) (map terms_of statements) (more w)

      back : (All Holds (terms_of polys) → All (IsZeroAt g local) rows) → (Any (λ fs. All Holds fs) (map terms_of statements) → Any (All (IsZeroAt g local)) made)
          → All Holds (terms_of polys) ⊎ Any (All Holds) (map terms_of statements) → Any (All (IsZeroAt g local)) (rows ∷ made)
      back one more (inl z) = any_here (All (IsZeroAt g local)) rows made (one z)
      back one more (inr w) = any_later (All (IsZeroAt g local)) rows made (more w)

  none_exact : (statements : List (List Polynomial)) (made : List (List (List ℕ))) → AllZip (HaveDigits g) statements made → (made ≡ []) ↔ (map terms_of statements ≡ [])
  none_exact [] [] h = (λ e. refl, λ e. refl)
  none_exact [] (rows ∷ made) h = absurd h
  none_exact (polys ∷ statements) [] h = absurd h
  none_exact (polys ∷ statements) (rows ∷ made) h = (λ e. absurd (cc), λ e. absurd (cc))

  -- a point is named by its values exactly where some statement has all its polynomials in the point's ideal
  pub named_exact : (statements : List (List Polynomial)) (made : List (List (List ℕ))) → All (All (IsOver g.curve.prime g.curve.variables)) statements → AllZip (HaveDigits g) statements made
      → IsNamedBy g made local ↔ ((map terms_of statements ≡ []) ⊎ Any (λ fs. All (InIdeal g.curve.prime g.curve.variables (basis_of local.point)) fs) (map terms_of statements))
  named_exact statements made over h =
      let none = none_exact statements made h in
      let some = any_exact statements made over h in
      (λ n. there none.0 some.0 n, λ n. back none.1 some.1 n)
    where
      there : (made ≡ [] → map terms_of statements ≡ []) → (Any (All (IsZeroAt g local)) made → Any (λ fs. All Holds fs) (map terms_of statements))
          → IsNamedBy g made local → (map terms_of statements ≡ []) ⊎ Any (λ fs. All Holds fs) (map terms_of statements)
      there one more (inl e) = inl (one e)
      there one more (inr w) = inr (more w)

      back : (map terms_of statements ≡ [] → made ≡ []) → (Any (λ fs. All Holds fs) (map terms_of statements) → Any (All (IsZeroAt g local)) made)
          → (map terms_of statements ≡ []) ⊎ Any (λ fs. All Holds fs) (map terms_of statements) → IsNamedBy g made local
      back one more (inl e) = inl (one e)
      back one more (inr w) = inr (more w)
