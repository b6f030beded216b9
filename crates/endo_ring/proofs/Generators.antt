-- The rows that one generator leaves.
use Rattle.std.proofs.Common.{◌≡◌, ◌↔◌, ℕ, ◌+◌, ◌*◌, ◌<◌, List, [], ◌∷◌, ◌++◌, map, length, take, drop, replicate, get_or, All, sym, ap, ◌∙◌, subst, arith, mul-add}
use Rattle.std.proofs.Math.Seq.{drop-append_seam}
use Rattle.over_module.proofs.ZeroRows.{shorter}
use Rattle.std.proofs.lemmas.List.{length-map, length-replicate, get_or-map, get_or_default, take_more}
use Rattle.std.proofs.lemmas.List.Elements.{All-nil, All-cons, All-head, All-tail, All-append, All-map}
use Rattle.comm_ring.specs.Rows.{rows}
use Rattle.comm_ring.specs.Modules.{combination}
use Rattle.monomials.specs.Mono.{Monomial}
use Rattle.polys.specs.declared.term.Term.{Term}
use Rattle.polys.specs.Terms.{IsPoly, mul}
use Rattle.polys.specs.Curve.{CurveData}
use Rattle.polys.specs.Poly.{Polynomial, terms_of}
use Rattle.polys.proofs.Affine.{poly_mul, positive}
use Rattle.curve_model.specs.Laws.{IsFinite}
use Rattle.curve_laws.proofs.Base.{high}
use Rattle.row_space.specs.Echelon.{IsRow}
use Rattle.row_space.specs.Subspace.{Subspace, FitsIn, IsIn}
use Rattle.digit_laws.specs.Digits.{AreCornersOf, value, AreDigits, HasDigitsIn, IsOfDigits}
use Rattle.digit_laws.proofs.DigitLaws.{digit_law, value_poly}
use Rattle.over_module.specs.Raising.{behind_zeros, IsRaised}
use Rattle.endo_ring.specs.Taken.{AreProducts, IsTaken, IsTakenSum}
use Rattle.over_module.proofs.Values.{combined_digits, products_poly, pushed, value_combined}

-- a space by its prime and width
same_space : (s : Subspace) (p w : ℕ) → s.prime ≡ p → s.width ≡ w → record { prime = p; width = w; basis = s.basis } ≡ s
same_space s p w e f = λ i. record { prime = sym e i; width = sym f i; basis = s.basis }

module _ (A : CurveData) (c : IsFinite A) (ms : List Monomial) (k : AreCornersOf A ms) (T : ℕ) where
  pos : 0 < A.prime
  pos = positive A.prime (high A c.curve)

  abbrev inner : List (List ℕ) → Subspace
  inner us = record { prime = A.prime; width = length ms * T; basis = us }

  abbrev outer : List (List ℕ) → Subspace
  outer ts = record { prime = A.prime; width = length ms * (T + T); basis = ts }

  module _ (q : List Term) (hq : IsPoly A.prime A.variables q) (us images : List (List ℕ)) (fit : All (IsRow A.prime (length ms * T)) us) (h : AreProducts A ms T q us images) where
    -- the digits of q times the polynomial of a sum of multiples of the rows
    sum_digits : (v row : List ℕ) → IsRow A.prime (length ms * T) row → (rows A.prime (length ms * T)).◌≋◌ row (combination (rows A.prime (length ms * T)) v us)
        → AreDigits A ms (T + T) (mul A.prime q (value A ms T row)) (combination (rows A.prime (length ms * (T + T))) v images)
    sum_digits v row f e =
        let fs = map (λ r. mul A.prime q (value A ms T r)) us in
        let n : length fs ≡ length us = length-map us (λ r. mul A.prime q (value A ms T r)) in
        let m : length images ≡ length us = h.count in
        subst (λ x. AreDigits A ms (T + T) x (combination (rows A.prime (length ms * (T + T))) v images)) (pushed A c ms k T q hq v us ∙ ap (mul A.prime q) (sym (value_combined A c ms k T us fit v row f e)))
        (combined_digits A c ms k (T + T) v fs images (products_poly A c ms k T q hq us) (n ∙ sym m)
        (λ i l. let j : i < length us = omega arith in subst (λ x. AreDigits A ms (T + T) x (get_or images i [])) (sym (get_or-map (λ r. mul A.prime q (value A ms T r)) us i [] [] j)) (h.each i j)))

    poly : (row : List ℕ) → IsPoly A.prime A.variables (mul A.prime q (value A ms T row))
    poly row = poly_mul A.prime A.variables q (value A ms T row) pos hq (value_poly A c ms k T row)

    core : (ts : List (List ℕ)) (row : List ℕ) → IsRow A.prime (length ms * T) row
        → IsTakenSum (outer ts) images (length ms * T) us row ↔ IsIn (inner us) row × HasDigitsIn A ms (T + T) (outer ts) (mul A.prime q (value A ms T row))
    core ts row f = (
      λ t. ((t.0, t.1 ∙ h.count, t.3), (combination (rows A.prime (length ms * (T + T))) t.0 images, sum_digits t.0 row f t.3, t.2)),
      λ t.
          let v : List ℕ = t.0.0 in
          let d = sum_digits t.0.0 row f t.0.2 in
          let same = (digit_law A c ms k (T + T)).unique (mul A.prime q (value A ms T row)) t.1.0 (combination (rows A.prime (length ms * (T + T))) t.0.0 images) (poly row) t.1.1 d in
          (t.0.0, t.0.1 ∙ sym h.count, subst (IsIn (outer ts)) same t.1.2, t.0.2),
    )

  -- the rows that are left
  pub narrowed_members : (q : List Term) → IsPoly A.prime A.variables q → (present target found : Subspace) (images : List (List ℕ)) → IsOfDigits A ms T present → IsOfDigits A ms (T + T) target
      → All (FitsIn present) present.basis → AreProducts A ms T q present.basis images
      → ((row : List ℕ) → IsIn found row ↔ IsTakenSum target images (length ms * T) present.basis row)
      → (row : List ℕ) → IsRow A.prime (length ms * T) row → IsIn found row ↔ IsIn present row × HasDigitsIn A ms (T + T) target (mul A.prime q (value A ms T row))
  narrowed_members q hq present target found images o r fit h m row f =
      let s = same_space present A.prime (length ms * T) o.prime o.width in
      let t = same_space target A.prime (length ms * (T + T)) r.prime r.width in
      let fits = subst (λ z. All (FitsIn z) present.basis) (sym s) fit in
      let both = subst (λ z. IsTakenSum z images (length ms * T) present.basis row ↔ IsIn present row × HasDigitsIn A ms (T + T) z (mul A.prime q (value A ms T row))) t
      (subst (λ z. IsTakenSum (outer target.basis) images (length ms * T) present.basis row ↔ IsIn z row × HasDigitsIn A ms (T + T) (outer target.basis) (mul A.prime q (value A ms T row))) s
      (core q hq present.basis images fits h target.basis row f)) in
      (λ x. both.0 ((m row).0 x), λ x. (m row).1 (both.1 x))

  -- the digits of products fit
  pub products_fit : (q : List Term) (us images : List (List ℕ)) (target : Subspace) → IsOfDigits A ms (T + T) target → AreProducts A ms T q us images → All (FitsIn target) images
  products_fit q us images target r h i d l =
      let n : length images ≡ length us = h.count in
      let f = (h.each i (omega arith)).fits in
      let e = get_or_default images i d [] l in
      subst (λ z. IsRow target.prime target.width z) (sym e) (subst (λ w. IsRow target.prime w (get_or images i [])) (sym r.width) (subst (λ z. IsRow z (length ms * (T + T)) (get_or images i [])) (sym r.prime) f))

  -- ---- the target

  module _ (ideal target : Subspace) (o : IsOfDigits A ms T ideal) (a : IsRaised (length ms * T) ideal target) where
    pub target_digits : IsOfDigits A ms (T + T) target
    target_digits = record { prime = a.prime ∙ o.prime; width = a.width ∙ ap (λ n. length ms * T + n) o.width ∙ sym (mul-add (length ms) T T) }

    pub taken_is : (q : List Term) (row : List ℕ) → HasDigitsIn A ms (T + T) target (mul A.prime q (value A ms T row)) ↔ IsTaken A ms T ideal q row
    taken_is q row = (
      λ h.
          let f = subst (λ z. IsRow z target.width h.0) (sym target_digits.prime) (subst (λ w. IsRow A.prime w h.0) (sym target_digits.width) h.1.fits) in
          let x = a.down h.0 f h.2 in
          record { rest = x.0; inside = x.2; digits = subst (AreDigits A ms (T + T) (mul A.prime q (value A ms T row))) x.1 h.1 },
      λ t. (behind_zeros (length ms * T) t.rest, t.digits, a.up t.rest (fits t) t.inside),
    )
      where
        drop-append : (rest : List ℕ) → drop (length ms * T) (behind_zeros (length ms * T) rest) ≡ rest
        drop-append rest = subst (λ n. drop n (replicate (length ms * T) 0 ++ rest) ≡ rest) (length-replicate (length ms * T) 0) (drop-append_seam (replicate (length ms * T) 0) rest)

        fits : (t : IsTaken A ms T ideal q row) → FitsIn ideal t.rest
        fits t = subst (λ z. IsRow z ideal.width t.rest) (sym o.prime) (subst (λ w. IsRow A.prime w t.rest) (sym o.width)
            (subst (IsRow A.prime (length ms * T)) (drop-append t.rest) (shorter A.prime (length ms * T) (length ms * T) (length ms * (T + T)) (behind_zeros (length ms * T) t.rest) (mul-add (length ms) T T) t.digits.fits)))

-- one more member of a list
pub all_more : {X : Type 0} (P : X → Type 0) (xs : List X) (i : ℕ) (d : X) → i < length xs → All P (take i xs) × P (get_or xs i d) ↔ All P (take (i + 1) xs)
all_more {X = X} P xs i d h = (
  λ t. subst (All P) (sym (take_more xs i d h)) (All-append P (take i xs) (get_or xs i d ∷ []) t.0 (All-cons P (get_or xs i d) [] t.1 (All-nil P))),
  λ t. split (take i xs) (get_or xs i d) (subst (All P) (take_more xs i d h) t),
)
  where
    split : (ys : List X) (y : X) → All P (ys ++ y ∷ []) → All P ys × P y
    split [] y t = (All-nil P, All-head P y [] t)
    split (z ∷ ys) y t = let r = split ys y (All-tail P z (ys ++ y ∷ []) t) in (All-cons P z ys (All-head P z (ys ++ y ∷ []) t) r.0, r.1)

-- of all members of a list, by their terms
pub all_terms : (P : List Term → Type 0) (fs : List Polynomial) → All (λ f. P f.terms) fs ↔ All P (terms_of fs)
all_terms P fs = (λ h. All-map P (λ f. f.terms) fs h, λ h. back fs h)
  where
    back : (gs : List Polynomial) → All P (terms_of gs) → All (λ f. P f.terms) gs
    back [] h = All-nil (λ f. P f.terms)
    back (f ∷ gs) h = All-cons (λ g. P g.terms) f gs (All-head P f.terms (terms_of gs) h) (back gs (All-tail P f.terms (terms_of gs) h))
