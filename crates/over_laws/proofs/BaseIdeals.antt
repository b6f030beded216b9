-- Ideals of A/d by digits.
use Rattle.std.proofs.Common.{◌≡◌, ◌↔◌, ℕ, suc, ◌*◌, ◌%◌, ◌<◌, List, [], ◌∷◌, length, get_or, map, refl, sym, ap, ◌∙◌, subst, arith}
use Rattle.std.specs.List.{AllZip, range_with_len}
use Rattle.std.proofs.lemmas.List.Elements.{All-head, All-tail}
use Rattle.comm_ring.specs.Ring.{CommRing, IsCommRing}
use Rattle.comm_ring.specs.Rows.{rows}
use Rattle.comm_ring.specs.Modules.{combine, combination, own_module}
use Rattle.comm_ring.specs.Ideals.{InIdeal}
use Rattle.comm_ring.proofs.Rows.{row_module, equal_rows}
use Rattle.comm_ring.proofs.Residues.{residues}
use Rattle.prime_field.proofs.Table.{positive_of_prime}
use Rattle.comm_ring.proofs.Modules as Modules
use Rattle.comm_ring.proofs.Quote.{ring, quote}
use Rattle.monomials.specs.Mono.{Monomial}
use Rattle.polys.specs.declared.term.Term.{Term}
use Rattle.polys.specs.Terms.{IsPoly, add, sub, mul}
use Rattle.polys.specs.Ideal as Polys
use Rattle.polys.specs.Curve.{CurveData}
use Rattle.polys.proofs.Affine.{poly_none, poly_add, poly_mul, positive}
use Rattle.ideal_laws.proofs.Ideals.{in_none, in_add, in_mul, in_more, in_head}
use Rattle.polys.proofs.Sums.{mul_comm}
use Rattle.curve_model.specs.Laws.{IsFinite, ArePolys}
use Rattle.curve_model.specs.OneExponent.{InPower}
use Rattle.curve_laws.proofs.Base.{high, Ring, member}
use Rattle.finite_algebra.specs.Elements.{FiniteAlgebra, IsElement, times, ring_of}
use Rattle.digit_laws.specs.Digits.{AreCornersOf, value, AreDigits}
use Rattle.digit_laws.specs.Laws.{DigitsAreCoordinates}
use Rattle.digit_laws.proofs.DigitLaws.{digit_law, value_poly, row_fits, row_digits}
use native.Mathlib.Nat.{zero-mod}
use Rattle.over_laws.specs.BaseIdeals.{GeneratedByDigits}

module _ (C : CommRing) where
  open C use {ops, carrier, ◌≈◌, ◌⊕◌, ◌⊗◌, neg, 𝟘, 𝟙}

  infix 40 ◌≈◌
  infixl 60 ◌⊕◌
  infixl 70 ◌⊗◌
  restored : (f g : carrier) → (f ⊕ neg g) ⊕ g ≈ f
  restored f g = ring C (f ∷ g ∷ []) (search quote depth 20) tt

module _ (A : CurveData) (c : IsFinite A) (ms : List Monomial) (k : AreCornersOf A ms) (one : List ℕ) (products : List (List ℕ)) where
  pos : 0 < A.prime
  pos = positive A.prime (high A c.curve)

  abbrev R : List Term → List ℕ → Type 0
  R f x = AreDigits A ms 1 f x

  abbrev P : List Term → Type 0
  P f = IsPoly A.prime A.variables f

  laws : DigitsAreCoordinates A ms 1
  laws = digit_law A c ms k 1

  abbrev W : ℕ
  W = length ms * 1

  abbrev a : FiniteAlgebra
  a = record { prime = A.prime; dimension = length ms * 1; one = one; products = products }

  abbrev RM : Modules.Module (residues A.prime (positive_of_prime A.prime c.curve.prime))
  RM = row_module A.prime (positive_of_prime A.prime c.curve.prime) (length ms * 1)

  module _ (ring_laws : IsCommRing (ring_of a)) (product : (x y : List ℕ) → IsElement a x → IsElement a y → R (mul A.prime (value A ms 1 x) (value A ms 1 y)) (times a x y)) where
    times_digits : (f h : List Term) (x y : List ℕ) → P f → P h → R f x → R h y → R (mul A.prime f h) (times a x y)
    times_digits f h x y hf hh r s =
        let vx = value A ms 1 x in
        let one : R (mul A.prime vx h) (times a x y) = laws.product vx h y (times a x y) (value_poly A c ms k 1 x) hh s (product x y r.fits s.fits) in
        subst (λ z. R z (times a x y)) (mul_comm A.prime h f)
        (laws.product h f x (times a x y) hh hf r (subst (λ z. R z (times a x y)) (mul_comm A.prime vx h) one))

    zero_row : (row : List ℕ) → (rows A.prime W).◌·◌ 0 row ≡ (rows A.prime W).origin
    zero_row row = ap (λ f. map f (range_with_len 0 W)) (λ j i. z i j)
      where
        z : (i : ℕ) → (0 * get_or row i 0) % A.prime ≡ 0
        z i = let e : 0 * get_or row i 0 ≡ 0 = omega arith in ap (λ n. n % A.prime) e ∙ zero-mod A.prime

    none_digits : R [] (rows A.prime W).origin
    none_digits =
        let r = laws.exist [] (poly_none A.prime A.variables) in
        subst (R []) (zero_row r.0) (laws.multiple 0 [] r.0 (poly_none A.prime A.variables) r.1)

    -- ---- from polynomials to rows

    combined_poly : (qs ps : List (List Term)) → ArePolys A qs → ArePolys A ps → P (Polys.combination A.prime qs ps)
    combined_poly [] ps g h = poly_none A.prime A.variables
    combined_poly (q ∷ qs) [] g h = poly_none A.prime A.variables
    combined_poly (q ∷ qs) (f ∷ ps) g h = poly_add A.prime A.variables (mul A.prime q f) (Polys.combination A.prime qs ps) pos
        (poly_mul A.prime A.variables q f pos (All-head P q qs g) (All-head P f ps h)) (combined_poly qs ps (All-tail P q qs g) (All-tail P f ps h))

    build : (ps : List (List Term)) (gs : List (List ℕ)) → AllZip R ps gs → ArePolys A ps → (qs : List (List Term)) → ArePolys A qs → length qs ≡ length ps
        → (rs : List (List ℕ)) × (length rs ≡ length gs) × R (Polys.combination A.prime qs ps) (combination (own_module (ring_of a)) rs gs)
    unfolding combine
    build [] [] z h [] g l = ([], refl, none_digits)
    build [] [] z h (q ∷ qs) g l = absurd (omega arith)
    build [] (y ∷ gs) z h qs g l = absurd z
    build (f ∷ ps) [] z h qs g l = absurd z
    build (f ∷ ps) (y ∷ gs) z h [] g l = absurd (omega arith)
    build (f ∷ ps) (y ∷ gs) z h (q ∷ qs) g l =
        let hq = All-head P q qs g in
        let hf = All-head P f ps h in
        let r = laws.exist q (All-head P q qs g) in
        let t = build ps gs z.1 (All-tail P f ps h) qs (All-tail P q qs g) (let e : length (q ∷ qs) ≡ length (f ∷ ps) = l in omega arith) in (
          r.0 ∷ t.0,
          ap suc t.1,
          laws.sum (mul A.prime q f) (Polys.combination A.prime qs ps) (times a r.0 y) (combination (own_module (ring_of a)) t.0 gs)
              (poly_mul A.prime A.variables q f pos hq hf) (combined_poly qs ps (All-tail P q qs g) (All-tail P f ps h)) (times_digits q f r.0 y hq hf r.1 z.0) t.2,
        )

    -- ---- from rows to polynomials

    abbrev Back : List (List Term) → List (List ℕ) → List (List ℕ) → Type 0
    Back ps gs cs = (f : List Term) × (row : List ℕ) × P f × Polys.InIdeal A.prime A.variables ps f × R f row × (rows A.prime W).◌≋◌ row (combination (own_module (ring_of a)) cs gs)

    back : (ps : List (List Term)) (gs : List (List ℕ)) → AllZip R ps gs → ArePolys A ps → (cs : List (List ℕ)) → length cs ≡ length gs → Back ps gs cs
    unfolding combine
    back [] [] z h [] l = ([], (rows A.prime W).origin, poly_none A.prime A.variables, in_none A.prime A.variables [], none_digits, RM.rfl (rows A.prime W).origin)
    back [] [] z h (e ∷ cs) l = absurd (omega arith)
    back [] (y ∷ gs) z h cs l = absurd z
    back (f ∷ ps) [] z h cs l = absurd z
    back (f ∷ ps) (y ∷ gs) z h [] l = absurd (omega arith)
    back (f ∷ ps) (y ∷ gs) z h (e ∷ cs) l =
        let hf = All-head P f ps h in
        let t = back ps gs z.1 (All-tail P f ps h) cs (let q : length (e ∷ cs) ≡ length (y ∷ gs) = l in omega arith) in
        let x : List ℕ = (rows A.prime W).◌·◌ 1 e in
        let v = value A ms 1 x in
        let hv = value_poly A c ms k 1 x in
        let r : R v x = row_digits A c ms k 1 x (row_fits A c ms k 1 (λ i. 1 * get_or e i 0)) in
        let hm = poly_mul A.prime A.variables v f pos hv hf in (
          add A.prime (mul A.prime v f) t.0,
          (rows A.prime W).◌⊞◌ (times a x y) t.1,
          poly_add A.prime A.variables (mul A.prime v f) t.0 pos hm t.2,
          in_add A.prime A.variables (f ∷ ps) (mul A.prime v f) t.0 pos (in_mul A.prime A.variables (f ∷ ps) v f pos hv (in_head A.prime A.variables f ps (high A c.curve) hf)) (in_more A.prime A.variables f ps t.0 t.3),
          laws.sum (mul A.prime v f) t.0 (times a x y) t.1 hm t.2 (times_digits v f x y hv hf r z.0) t.4,
          ring_laws.add_cong {x = times a x y} {x' = times a e y} {y = t.1} {y' = combination (own_module (ring_of a)) cs gs} (ring_laws.mul_cong {x = x} {x' = e} {y = y} {y' = y} (RM.one_scale e) (RM.rfl y)) t.5,
        )

    module _ (ps : List (List Term)) (h : ArePolys A ps) (holds : (f : List Term) → InPower A 1 f → Polys.InIdeal A.prime A.variables ps f) (gs : List (List ℕ)) (z : AllZip R ps gs)
        (f : List Term) (x : List ℕ) (hf : P f) (r : R f x) where
      up : Polys.InIdeal A.prime A.variables ps f → InIdeal (ring_of a) gs x
      up i =
          let t = build ps gs z h i.factors i.polys i.as_many in
          let e : x ≡ combination (own_module (ring_of a)) t.0 gs = laws.unique f x (combination (own_module (ring_of a)) t.0 gs) hf r (subst (λ y. R y (combination (own_module (ring_of a)) t.0 gs)) (sym i.combined) t.2) in
          (t.0, t.1, subst (λ y. (rows A.prime W).◌≋◌ x y) e (RM.rfl x))

      down : InIdeal (ring_of a) gs x → Polys.InIdeal A.prime A.variables ps f
      down i =
          let t = back ps gs z h i.0 i.1 in
          let e : x ≡ t.1 = equal_rows A.prime W x t.1 r.fits.0 t.4.fits.0 r.fits.1 t.4.fits.1
          (RM.trans {x = x} {y = combination (own_module (ring_of a)) i.0 gs} {z = t.1} i.2 (RM.symm {x = t.1} {y = combination (own_module (ring_of a)) i.0 gs} t.5)) in
          let d : InPower A 1 (sub A.prime f t.0) = laws.close f t.0 x hf t.2 r (subst (R t.0) (sym e) t.4) in
          subst (Polys.InIdeal A.prime A.variables ps) (restored (Ring A c.curve) (member A c.curve f hf) (member A c.curve t.0 t.2))
          (in_add A.prime A.variables ps (sub A.prime f t.0) t.0 pos (holds (sub A.prime f t.0) d) t.3)

abbrev Statement : (A : CurveData) (ms : List Monomial) (ps : List (List Term)) (gs : List (List ℕ)) (f : List Term) (x : List ℕ) → FiniteAlgebra → Type 0
Statement A ms ps gs f x b = IsCommRing (ring_of b) → ((y z : List ℕ) → IsElement b y → IsElement b z → AreDigits A ms 1 (mul A.prime (value A ms 1 y) (value A ms 1 z)) (times b y z))
    → Polys.InIdeal A.prime A.variables ps f ↔ InIdeal (ring_of b) gs x

abbrev of_parts : FiniteAlgebra → ℕ → ℕ → FiniteAlgebra
of_parts a p n = record { prime = p; dimension = n; one = a.one; products = a.products }

pub generated_law : GeneratedByDigits
generated_law A c ms k a w ps h holds gs z f x hf r =
    let d : a.dimension ≡ length ms = w.dimension in
    let q : length ms * 1 ≡ length ms = omega arith in
    let s : Statement A ms ps gs f x (of_parts a A.prime (length ms * 1)) =
    (λ l m. (up A c ms k a.one a.products l m ps h holds gs z f x hf r, down A c ms k a.one a.products l m ps h holds gs z f x hf r)) in
    subst (λ p. Statement A ms ps gs f x (of_parts a p a.dimension)) (sym w.prime)
    (subst (λ n. Statement A ms ps gs f x (of_parts a A.prime n)) (q ∙ sym d) s)
    w.ring w.product
