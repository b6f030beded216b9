-- Digits of a polynomial, term by term.
use Rattle.std.proofs.Common.{◌≡◌, ℕ, zero, suc, ◌+◌, ◌-◌, ◌*◌, ◌%◌, ◌<◌, List, [], ◌∷◌, ◌++◌, length, set, drop, replicate, get_or, refl, sym, ap, ◌∙◌, subst, arith}
use Rattle.std.proofs.lemmas.List.{drop_more, length-set}
use Rattle.std.proofs.lemmas.Simd.{get_or-zip2, length-zip2}
use Rattle.comm_ring.specs.Rows.{rows}
use Rattle.comm_ring.proofs.Rows.{row-entry}
use Rattle.comm_ring.proofs.Residues.{mod_ring, mod_quote}
use Rattle.prime_field.proofs.Table.{positive_of_prime}
use Rattle.polys.specs.declared.term.Term.{Term}
use Rattle.polys.specs.Terms.{IsPoly, add, multiple, keep}
use Rattle.polys.specs.Curve.{data_of}
use Rattle.polys.proofs.Affine.{poly_multiple}
use Rattle.polys.proofs.Units.{canonical_same}
use Rattle.lane_rows.specs.Rows.{plus_multiple}
use Rattle.lane_rows.proofs.Entries.{residues_of}
use Rattle.standard_monomials.specs.Standard.{polynomial_of}
use Rattle.digit_space.specs.Model.{DigitData, IsDigitSpace, IsDigitsOf, corner, width}
use Rattle.digit_space.specs.Adding.{unit_at}
use Rattle.digit_space.proofs.BlockSums.{by_entries, zeros_digits}
use Rattle.digit_laws.proofs.Spaces.{affine_poly}
use Rattle.digit_space.proofs.Spaced.{finite, laws}
use Rattle.digit_space.proofs.Entries.{corner_added}
use Rattle.digit_space.proofs.Added.{padded}
use Rattle.digit_space.proofs.MonomialRows.{some_corner}
use Rattle.digit_space.proofs.KeptRows.{corner_digits}

module _ (g : DigitData) (s : IsDigitSpace g) where
  abbrev P : List Term → Type 0
  P f = IsPoly g.curve.prime g.curve.variables f

  pos : 0 < g.curve.prime
  pos = positive_of_prime g.curve.prime s.prime

  -- a term is the multiple of its monomial
  one_term : (t : Term) → P (t ∷ []) → multiple g.curve.prime t.coeff (polynomial_of t.mono) ≡ t ∷ []
  one_term t h = (let e : t.coeff * 1 ≡ t.coeff = omega arith in ap (λ z. keep (z % g.curve.prime) t.mono []) e) ∙ canonical_same g.curve.prime (t ∷ []) h.canonical

  -- a multiple of the monomial's row is added
  pub term_added : (t : Term) (f : List Term) (out row new : List ℕ) → P (t ∷ []) → P f → IsDigitsOf g f out → IsDigitsOf g (polynomial_of t.mono) row → length new ≡ width g
      → ((k : ℕ) → k < width g → get_or new k 0 ≡ (get_or out k 0 + t.coeff * get_or row k 0) % g.curve.prime) → IsDigitsOf g (add g.curve.prime (t ∷ []) f) new
  term_added t f out row new ht hf ho hr l entries =
      let A = data_of g.curve in
      let p = g.curve.prime in
      let m = polynomial_of t.mono in
      let hm = affine_poly A (finite g s) g.basis s.corners g.depth t.mono ht.affine.0 in
      let first = (rows p (width g)).◌·◌ t.coeff row in
      let both = (laws g s).sum (multiple p t.coeff m) f first out (poly_multiple p g.curve.variables t.coeff m pos hm) hf ((laws g s).multiple t.coeff m row hm hr) ho in
      by_entries A (finite g s) g.basis s.corners g.depth (add p (t ∷ []) f) ((rows p (width g)).◌⊞◌ first out) new
      (subst (λ z. IsDigitsOf g (add p z f) ((rows p (width g)).◌⊞◌ first out)) (one_term t ht) both)
      (l, residues_of p new (λ k. get_or out k 0 + t.coeff * get_or row k 0) pos (λ k h. entries k (omega arith)))
      (λ k h.
      ap (λ z. z % p) (entries k h)
      ∙ mod_ring p pos (get_or out k 0 ∷ t.coeff ∷ get_or row k 0 ∷ []) ((get_or out k 0 + t.coeff * get_or row k 0) % p) (((t.coeff * get_or row k 0) % p + get_or out k 0) % p) (search mod_quote depth 20) tt
      ∙ ap (λ z. ((z + get_or out k 0) % p) % p) (sym (row-entry (width g) (λ i. (t.coeff * get_or row i 0) % p) k h))
      ∙ ap (λ z. z % p) (sym (row-entry (width g) (λ i. (get_or first i 0 + get_or out i 0) % p) k h)))

  -- one entry gains the coefficient
  pub corner_term : (t : Term) (f : List Term) (out : List ℕ) (j x : ℕ) → P (t ∷ []) → P f → IsDigitsOf g f out → 0 < width g → j < length g.basis → corner g j ≡ t.mono
      → x ≡ (get_or out j 0 + t.coeff) % g.curve.prime → j < length out → IsDigitsOf g (add g.curve.prime (t ∷ []) f) (set out j x)
  corner_term t f out j x ht hf ho w l e ex lj =
      let n = width g - length (unit_at j) in
      let d = (corner_digits g s j l (some_corner g s w).1).digits in
      term_added t f out (unit_at j ++ replicate n 0) (set out j x) ht hf ho (subst (λ m. IsDigitsOf g (polynomial_of m) (unit_at j ++ replicate n 0)) e d) (length-set out j x ∙ ho.fits.0)
      (λ k h. corner_added g.curve.prime t.coeff j x out ho.fits.1 lj ex k (let o = ho.fits.0 in omega arith) ∙ ap (λ y. (get_or out k 0 + t.coeff * y) % g.curve.prime) (sym (padded (unit_at j) n k)))

  -- a row is added
  pub row_term : (t : Term) (f : List Term) (out row new : List ℕ) → P (t ∷ []) → P f → IsDigitsOf g f out → IsDigitsOf g (polynomial_of t.mono) row → new ≡ plus_multiple g.curve.prime t.coeff out row
      → IsDigitsOf g (add g.curve.prime (t ∷ []) f) new
  row_term t f out row new ht hf ho hr e =
      let lo = ho.fits.0 in
      let lr = hr.fits.0 in
      let p = g.curve.prime in
      term_added t f out row new ht hf ho hr (ap length e ∙ length-zip2 (λ x y. (x + t.coeff * y) % p) out row (lo ∙ sym lr) ∙ lo)
      (λ k h. ap (λ z. get_or z k 0) e ∙ get_or-zip2 (λ x y. (x + t.coeff * y) % p) out row k 0 0 0 (omega arith) (omega arith))

  -- ---- the terms of a polynomial from a place on

  pub poly_drop : (k : ℕ) (f : List Term) → P f → P (drop k f)
  poly_drop zero f h = h
  poly_drop (suc k) [] h = h
  poly_drop (suc k) (t ∷ f) h = poly_drop k f (record { canonical = h.canonical.3; affine = h.affine.1 })

  pub first_term : (t : Term) (f : List Term) → P (t ∷ f) → P (t ∷ [])
  first_term t f h = record { canonical = (h.canonical.0, h.canonical.1, tt, tt); affine = (h.affine.0, tt) }

  -- the digits of one term more
  pub one_term_more : (f : List Term) (k : ℕ) (t : Term) (out : List ℕ) → P f → k < length f → t ≡ get_or f k t → IsDigitsOf g (add g.curve.prime (t ∷ []) (drop (k + 1) f)) out
      → IsDigitsOf g (drop k f) out
  one_term_more f k t out h l e d =
      let whole : drop k f ≡ t ∷ drop (k + 1) f = drop_more f k t l ∙ ap (λ z. z ∷ drop (k + 1) f) (sym e) in
      let c = subst P whole (poly_drop k f h) in
      subst (λ z. IsDigitsOf g z out) (canonical_same g.curve.prime (t ∷ drop (k + 1) f) c.canonical ∙ sym whole) d

  -- where there is no entry, a row has the digits of everything
  pub no_width : (f : List Term) (out : List ℕ) → P f → width g ≡ 0 → length out ≡ 0 → IsDigitsOf g f out
  no_width f out h w l =
      let r = (laws g s).exist f h in
      subst (IsDigitsOf g f) (empty r.0 (r.1.fits.0 ∙ w) ∙ sym (empty out l)) r.1
    where
      empty : (xs : List ℕ) → length xs ≡ 0 → xs ≡ []
      empty [] e = refl
      empty (x ∷ xs) e = absurd (omega arith)

  pub none_yet : IsDigitsOf g [] (replicate (width g) 0)
  none_yet = zeros_digits (data_of g.curve) (finite g s) g.basis s.corners g.depth
