-- Polynomials by the spaces of rows that their digits are in.
use Rattle.std.proofs.Common.{◌≡◌, ℕ, ◌-◌, ◌*◌, ◌<◌, List, [], ◌∷◌, length, sym, ◌∙◌, subst, arith}
use Rattle.comm_ring.specs.Ring.{CommRing}
use Rattle.comm_ring.specs.Modules.{combine, combination, InSpan, IsSubmodule}
use Rattle.comm_ring.specs.Rows.{rows}
use Rattle.comm_ring.proofs.Modules as Modules
use Rattle.comm_ring.proofs.Residues.{residues}
use Rattle.comm_ring.proofs.Rows.{row_module}
use Rattle.prime_field.proofs.Table.{positive_of_prime}
use Rattle.monomials.specs.Mono.{Monomial}
use Rattle.polys.specs.declared.term.Term.{Term}
use Rattle.polys.specs.Terms.{IsPoly, add, sub, multiple}
use Rattle.polys.specs.Curve.{CurveData}
use Rattle.polys.proofs.Affine.{poly_none, poly_multiple, poly_sub, positive}
use Rattle.ideal_laws.proofs.Differences.{sub_add}
use Rattle.curve_model.specs.Laws.{IsFinite}
use Rattle.curve_laws.proofs.Base.{high}
use Rattle.row_space.specs.Subspace.{Subspace, Gains, IsIn}
use Rattle.digit_laws.specs.Digits.{AreCornersOf, AreDigits, HasDigitsIn, IsOfDigits}
use Rattle.digit_laws.specs.Laws.{DigitsAreCoordinates}
use Rattle.digit_laws.proofs.DigitLaws.{digit_law}
use Rattle.digit_laws.proofs.Linear.{opposite_row}
use Rattle.digit_laws.proofs.Spaces.{moved_in}

module _ (A : CurveData) (c : IsFinite A) (ms : List Monomial) (k : AreCornersOf A ms) (T : ℕ) where
  pub pos : 0 < A.prime
  pos = positive A.prime (high A c.curve)

  abbrev pub P : List Term → Type 0
  P f = IsPoly A.prime A.variables f

  abbrev pub W : ℕ
  W = length ms * T

  pub laws : DigitsAreCoordinates A ms T
  laws = digit_law A c ms k T

  abbrev pub Scalars : CommRing
  Scalars = residues A.prime (positive_of_prime A.prime c.curve.prime)

  abbrev pub RM : Modules.Module Scalars
  RM = row_module A.prime (positive_of_prime A.prime c.curve.prime) W

  abbrev pub Span : List (List ℕ) → List ℕ → Type 0
  Span vs row = InSpan (rows A.prime W) vs row

  abbrev pub In : Subspace → List Term → Type 0
  In S f = HasDigitsIn A ms T S f

  module _ (S : Subspace) (o : IsOfDigits A ms T S) where
    abbrev K : List Term → Type 0
    K f = HasDigitsIn A ms T S f

    pub up : (row : List ℕ) → IsIn S row → Span S.basis row
    up row h = moved_in S.prime A.prime S.width W S.basis row o.prime o.width h

    pub down : (row : List ℕ) → Span S.basis row → IsIn S row
    down row h = moved_in A.prime S.prime W S.width S.basis row (sym o.prime) (sym o.width) h

    span : IsSubmodule (rows A.prime W) (Span S.basis)
    span = Modules.span_submodule Scalars RM S.basis

    pub k_add : (f g : List Term) → P f → P g → K f → K g → K (add A.prime f g)
    k_add f g hf hg h j = (
      (rows A.prime W).◌⊞◌ h.0 j.0,
      laws.sum f g h.0 j.0 hf hg h.1 j.1,
      down ((rows A.prime W).◌⊞◌ h.0 j.0) (span.add h.0 j.0 (up h.0 h.2) (up j.0 j.2)),
    )

    pub k_multiple : (e : ℕ) (f : List Term) → P f → K f → K (multiple A.prime e f)
    k_multiple e f hf h = (
      (rows A.prime W).◌·◌ e h.0,
      laws.multiple e f h.0 hf h.1,
      down ((rows A.prime W).◌·◌ e h.0) (span.scale e h.0 (up h.0 h.2)),
    )

    pub k_sub : (f g : List Term) → P f → P g → K f → K g → K (sub A.prime f g)
    k_sub f g hf hg h j =
        k_add f (multiple A.prime (A.prime - 1) g) hf (poly_multiple A.prime A.variables (A.prime - 1) g pos hg) h (k_multiple (A.prime - 1) g hg j)

    pub k_none : K []
    k_none =
        let r = laws.exist [] (poly_none A.prime A.variables) in
        let z : List ℕ = (rows A.prime W).◌·◌ 0 r.0 in (
          z,
          laws.multiple 0 [] r.0 (poly_none A.prime A.variables) r.1,
          down z (span.resp (rows A.prime W).origin z (RM.symm {x = z} {y = (rows A.prime W).origin} (Modules.zero_scale Scalars RM r.0)) span.none),
        )

    -- a polynomial has one row of digits
    pub k_row : (f : List Term) (row : List ℕ) → P f → AreDigits A ms T f row → K f → IsIn S row
    k_row f row hf d h = subst (IsIn S) (laws.unique f h.0 row hf h.1 d) h.2

  -- spaces with the same rows
  pub k_same : (S R : Subspace) → ((row : List ℕ) → IsIn S row → IsIn R row) → (f : List Term) → In S f → In R f
  k_same S R e f h = (h.0, h.1, e h.0 h.2)

  -- ---- a space and one more row

  module _ (old new : Subspace) (o : IsOfDigits A ms T old) (row : List ℕ) (g : Gains old row new) where
    pub gained_digits : IsOfDigits A ms T new
    gained_digits = record { prime = g.prime ∙ o.prime; width = g.width ∙ o.width }

    both : (a : List ℕ) → IsIn new a → Span (row ∷ old.basis) a
    both a h = moved_in old.prime A.prime old.width W (row ∷ old.basis) a o.prime o.width ((g.members a).0 h)

    back : (a : List ℕ) → Span (row ∷ old.basis) a → IsIn new a
    back a h = (g.members a).1 (moved_in A.prime old.prime W old.width (row ∷ old.basis) a (sym o.prime) (sym o.width) h)

    -- without a multiple of the row
    without : (a : List ℕ) → Span (row ∷ old.basis) a → (x : ℕ) × Span old.basis ((rows A.prime W).◌⊞◌ a ((rows A.prime W).◌·◌ (A.prime - 1) ((rows A.prime W).◌·◌ x row)))
    unfolding combine
    without a ([], l, e) = absurd (omega arith)
    without a (x ∷ es, l, e) =
        let V = rows A.prime W in
        let y : List ℕ = V.◌·◌ x row in
        let w : List ℕ = combination (rows A.prime W) es old.basis in (
          x,
          (
            es,
            (let q : length (x ∷ es) ≡ length (row ∷ old.basis) = l in omega arith),
            RM.trans {x = V.◌⊞◌ a (V.◌·◌ (A.prime - 1) y)} {y = V.◌⊞◌ (V.◌⊞◌ y w) (V.opposite y)} {z = w}
                (RM.add_cong {x = a} {x' = V.◌⊞◌ y w} {y = V.◌·◌ (A.prime - 1) y} {y' = V.opposite y} e (opposite_row A.prime W (high A c.curve) (positive_of_prime A.prime c.curve.prime) y))
                (Modules.add_undo_left Scalars RM w y),
          ),
        )

    pub gained : (m f : List Term) → P m → P f → AreDigits A ms T m row → In new f → (x : ℕ) × In old (sub A.prime f (multiple A.prime x m))
    gained m f hm hf d h =
        let w = without h.0 (both h.0 h.2) in
        let V = rows A.prime W in
        let y : List ℕ = V.◌·◌ w.0 row in
        let hy = poly_multiple A.prime A.variables w.0 m pos hm in (
          w.0,
          (
            V.◌⊞◌ h.0 (V.◌·◌ (A.prime - 1) y),
            laws.sum f (multiple A.prime (A.prime - 1) (multiple A.prime w.0 m)) h.0 (V.◌·◌ (A.prime - 1) y) hf
                (poly_multiple A.prime A.variables (A.prime - 1) (multiple A.prime w.0 m) pos hy) h.1
                (laws.multiple (A.prime - 1) (multiple A.prime w.0 m) y hy (laws.multiple w.0 m row hm d)),
            down old o (V.◌⊞◌ h.0 (V.◌·◌ (A.prime - 1) y)) w.1,
          ),
        )

    pub kept : (a : List ℕ) → IsIn old a → IsIn new a
    kept a h = back a (Modules.span_tail Scalars RM row old.basis a (up old o a h))

    pub row_in : IsIn new row
    row_in = back row (Modules.span_head Scalars RM row old.basis)

    pub regained : (x : ℕ) (m f : List Term) → P m → P f → AreDigits A ms T m row → In old (sub A.prime f (multiple A.prime x m)) → In new f
    regained x m f hm hf d h =
        let hy = poly_multiple A.prime A.variables x m pos hm in
        subst (In new) (sub_add A.prime f (multiple A.prime x m) pos hf.canonical)
        (k_add new gained_digits (sub A.prime f (multiple A.prime x m)) (multiple A.prime x m) (poly_sub A.prime A.variables f (multiple A.prime x m) pos hf hy) hy
        (k_same old new kept (sub A.prime f (multiple A.prime x m)) h)
        (k_multiple new gained_digits x m hm (row, d, row_in)))
