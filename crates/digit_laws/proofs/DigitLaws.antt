-- Digits are coordinates modulo I and a power of d.
use Rattle.std.proofs.Common.{◌≡◌, ℕ, zero, suc, ◌+◌, ◌*◌, ◌%◌, ◌<◌, List, [], ◌∷◌, ◌++◌, map, length, get_or, All, sym, ap, ap₂, ◌∙◌, subst, arith, mod-lt}
use Rattle.std.specs.List.{range_with_len}
use Rattle.std.proofs.lemmas.List.{length-map, length-append}
use Rattle.std.proofs.lemmas.List.Elements.{All-nil, All-cons, All-head, All-tail, All-append, All-map}
use Rattle.comm_ring.specs.Ring.{CommRing, pow}
use Rattle.comm_ring.specs.Rows.{rows}
use Rattle.comm_ring.specs.Modules.{combination, module_through}
use Rattle.comm_ring.proofs.Modules as Modules
use Rattle.prime_field.proofs.Table.{positive_of_prime}
use Rattle.comm_ring.proofs.Quote.{ring, quote}
use Rattle.monomials.specs.Mono.{Monomial}
use Rattle.polys.specs.declared.term.Term.{Term}
use Rattle.polys.specs.Terms.{IsPoly, add, sub, mul, multiple}
use Rattle.polys.specs.Ideal.{InIdeal, number_combination, Spans, HasDim}
use Rattle.polys.specs.Curve.{CurveData}
use Rattle.polys.proofs.Affine.{poly_none, poly_add, poly_mul, poly_multiple, mul_constant, sevens_of, positive}
use Rattle.ideal_laws.proofs.Ideals.{in_none, in_add, in_mul, in_sub}
use Rattle.curve_model.specs.Fraction.{denominator_power}
use Rattle.curve_model.specs.Laws.{IsFinite, ArePolys}
use Rattle.curve_model.specs.OneExponent.{InPower}
use Rattle.ideal_laws.proofs.Members.{terms_of, lift, terms-lift, length-lift}
use Rattle.curve_laws.proofs.Members.{ideal_up}
use Rattle.curve_laws.proofs.Base.{high, Ring, Poly, I, d, Q, Curve, member, of_terms}
use Rattle.curve_laws.proofs.Chains.{multiple_in, chain}
use Rattle.curve_laws.proofs.Locals.{taken_down}
use Rattle.curve_laws.proofs.Scalars.{scalar, scalar_map, combination-numbers}
use Rattle.curve_laws.proofs.Coordinates.{powers_law, unique_coordinates_law}
use Rattle.curve_laws.proofs.StatedLaws.{power_poly}
use Rattle.curve_laws.proofs.DeltaLaws.{Residues}
use Rattle.standard_monomials.specs.Standard.{polynomial_of}
use Rattle.standard_monomials.proofs.Counting.{count_law, span_law}
use Rattle.standard_monomials.proofs.Unique.{unique_law}
use Rattle.row_space.specs.Echelon.{IsRow}
use Rattle.digit_laws.specs.Digits.{AreCornersOf, spread, places, value, AreDigits}
use Rattle.digit_laws.specs.Laws.{DigitLaws}
use Rattle.digit_laws.proofs.Linear.{row-length, sum_rows, multiple_row}

module _ (C : CommRing) where
  open C use {ops, carrier, ◌≈◌, ◌⊕◌, ◌⊗◌, neg, 𝟘, 𝟙}

  infix 40 ◌≈◌
  infixl 60 ◌⊕◌
  infixl 70 ◌⊗◌
  move : (x v z : carrier) → x ⊕ neg v ≈ z → x ≈ v ⊕ z
  move x v z e = C.trans (ring C (x ∷ v ∷ []) (search quote depth 20) tt) (C.add_cong (C.rfl v) e)

  moved : (x v z : carrier) → x ≈ v ⊕ z → x ⊕ neg v ≈ z
  moved x v z e = C.trans (C.add_cong e (C.rfl (neg v))) (ring C (v ∷ z ∷ []) (search quote depth 20) tt)

  deeper : (x v q d w z y : carrier) → x ≈ v ⊕ q ⊗ d → q ≈ w ⊕ z ⊗ y → x ≈ (v ⊕ d ⊗ w) ⊕ z ⊗ (d ⊗ y)
  deeper x v q d w z y e f = C.trans e (C.trans (C.add_cong (C.rfl v) (C.mul_cong f (C.rfl d))) (ring C (v ∷ d ∷ w ∷ z ∷ y ∷ []) (search quote depth 20) tt))

  deeper_power : (x v q d w z : carrier) (t : ℕ) → x ≈ v ⊕ q ⊗ d → q ≈ w ⊕ z ⊗ pow ops d t → x ≈ (v ⊕ d ⊗ w) ⊕ z ⊗ pow ops d (suc t)
  unfolding pow
  deeper_power x v q d w z t e f = deeper x v q d w z (pow ops d t) e f

  all_in_none : (x d : carrier) → x ≈ 𝟘 ⊕ x ⊗ pow ops d 0
  unfolding pow
  all_in_none x d = ring C (x ∷ []) (search quote depth 20) tt

  differ : (f g v : carrier) → (f ⊕ neg v) ⊕ neg (f ⊕ neg g) ≈ g ⊕ neg v
  differ f g v = ring C (f ∷ g ∷ v ∷ []) (search quote depth 20) tt

  agree : (f g v : carrier) → (f ⊕ neg v) ⊕ neg (g ⊕ neg v) ≈ f ⊕ neg g
  agree f g v = ring C (f ∷ g ∷ v ∷ []) (search quote depth 20) tt

  both : (f g v w : carrier) → (f ⊕ neg v) ⊕ (g ⊕ neg w) ≈ (f ⊕ g) ⊕ neg (v ⊕ w)
  both f g v w = ring C (f ∷ g ∷ v ∷ w ∷ []) (search quote depth 20) tt

  times : (c f v : carrier) → c ⊗ (f ⊕ neg v) ≈ (c ⊗ f) ⊕ neg (c ⊗ v)
  times c f v = ring C (c ∷ f ∷ v ∷ []) (search quote depth 20) tt

  by_way : (q f v o : carrier) → q ⊗ (f ⊕ neg v) ⊕ (q ⊗ v ⊕ neg o) ≈ q ⊗ f ⊕ neg o
  by_way q f v o = ring C (q ∷ f ∷ v ∷ o ∷ []) (search quote depth 20) tt

  zero_sum : (x : carrier) → 𝟘 ⊕ x ≈ x
  zero_sum x = ring C (x ∷ []) (search quote depth 20) tt

  none_left : (d : carrier) → 𝟘 ≈ d ⊗ 𝟘
  none_left d = ring C (d ∷ []) (search quote depth 20) tt

  push : (s d u r : carrier) → (s ⊗ (d ⊗ u)) ⊕ (d ⊗ r) ≈ d ⊗ ((s ⊗ u) ⊕ r)
  push s d u r = ring C (s ∷ d ∷ u ∷ r ∷ []) (search quote depth 20) tt

module _ (A : CurveData) (c : IsFinite A) (ms : List Monomial) (k : AreCornersOf A ms) where
  pos : 0 < A.prime
  pos = positive A.prime (high A c.curve)

  abbrev P : List Term → Type 0
  P f = IsPoly A.prime A.variables f

  abbrev pub U : List (List Term)
  U = map polynomial_of ms

  generators : ArePolys A (A.denominator ∷ A.ideal)
  generators = All-cons P A.denominator A.ideal c.curve.denominator c.curve.ideal

  pub span : Spans A.prime A.variables (A.denominator ∷ A.ideal) U
  span = span_law A.prime A.variables (A.denominator ∷ A.ideal) k.basis ms c.curve.prime generators k.standard k.all

  dimension : HasDim A.prime A.variables (A.denominator ∷ A.ideal) (length ms)
  dimension = count_law.all A.prime A.variables (A.denominator ∷ A.ideal) k.basis ms c.curve.prime generators k.standard k.all

  as_many : c.dimension.0 ≡ length ms
  as_many = unique_law.one A.prime A.variables (A.denominator ∷ A.ideal) c.dimension.0 (length ms) c.dimension.1 dimension

  pub times_polys : (us : List (List Term)) → ArePolys A us → ArePolys A (map (mul A.prime A.denominator) us)
  times_polys [] h = All-nil P
  times_polys (u ∷ us) h = All-cons P (mul A.prime A.denominator u) (map (mul A.prime A.denominator) us) (poly_mul A.prime A.variables A.denominator u pos c.curve.denominator (All-head P u us h)) (times_polys us (All-tail P u us h))

  pub place_polys : (T : ℕ) → ArePolys A (places A ms T)
  unfolding spread
  place_polys zero = All-nil P
  place_polys (suc T) = All-append P U (map (mul A.prime A.denominator) (places A ms T)) span.polys (times_polys (places A ms T) (place_polys T))

  pub place_count : (T : ℕ) → length (places A ms T) ≡ length ms * T
  unfolding spread
  place_count zero = let e : 0 ≡ length ms * 0 = omega arith in e
  place_count (suc T) =
      let w = places A ms T in
      let a : length (U ++ map (mul A.prime A.denominator) (places A ms T)) ≡ length U + length (map (mul A.prime A.denominator) (places A ms T)) = length-append U (map (mul A.prime A.denominator) (places A ms T)) in
      let b : length (map (mul A.prime A.denominator) (places A ms T)) ≡ length (places A ms T) = length-map (places A ms T) (mul A.prime A.denominator) in
      let n : length U ≡ length ms = length-map ms polynomial_of in
      let r = place_count T in
      let e : length ms * suc T ≡ length ms + length ms * T = omega arith in
      omega arith

  pub numbers_poly : (cs : List ℕ) (us : List (List Term)) → ArePolys A us → P (number_combination A.prime cs us)
  numbers_poly [] us h = poly_none A.prime A.variables
  numbers_poly (e ∷ cs) [] h = poly_none A.prime A.variables
  numbers_poly (e ∷ cs) (u ∷ us) h = poly_add A.prime A.variables (multiple A.prime e u) (number_combination A.prime cs us) pos
      (poly_multiple A.prime A.variables e u pos (All-head P u us h)) (numbers_poly cs us (All-tail P u us h))

  pub value_poly : (T : ℕ) (row : List ℕ) → P (value A ms T row)
  value_poly T row = numbers_poly row (places A ms T) (place_polys T)

  -- ---- number combinations of lists end to end, and of multiples of d

  pub appended : (cs es : List ℕ) (us vs : List (List Term)) → ArePolys A us → ArePolys A vs → length cs ≡ length us
      → number_combination A.prime (cs ++ es) (us ++ vs) ≡ add A.prime (number_combination A.prime cs us) (number_combination A.prime es vs)
  appended [] es [] vs h g l = sym (zero_sum (Ring A c.curve) (member A c.curve (number_combination A.prime es vs) (numbers_poly es vs g)))
  appended [] es (u ∷ us) vs h g l = absurd (omega arith)
  appended (e ∷ cs) es [] vs h g l = absurd (omega arith)
  appended (e ∷ cs) es (u ∷ us) vs h g l =
      ap (add A.prime (multiple A.prime e u)) (appended cs es us vs (All-tail P u us h) g (let q : length (e ∷ cs) ≡ length (u ∷ us) = l in omega arith))
      ∙ sym ((Ring A c.curve).add_assoc (member A c.curve (multiple A.prime e u) (poly_multiple A.prime A.variables e u pos (All-head P u us h)))
      (member A c.curve (number_combination A.prime cs us) (numbers_poly cs us (All-tail P u us h))) (member A c.curve (number_combination A.prime es vs) (numbers_poly es vs g)))

  pub pushed : (es : List ℕ) (us : List (List Term)) → ArePolys A us → number_combination A.prime es (map (mul A.prime A.denominator) us) ≡ mul A.prime A.denominator (number_combination A.prime es us)
  pushed [] us h = none_left (Ring A c.curve) (d A c.curve)
  pushed (e ∷ es) [] h = none_left (Ring A c.curve) (d A c.curve)
  pushed (e ∷ es) (u ∷ us) h =
      let hu = All-head P u us h in
      let x = member A c.curve u (All-head P u us h) in
      let r = member A c.curve (number_combination A.prime es us) (numbers_poly es us (All-tail P u us h)) in
      let du = poly_mul A.prime A.variables A.denominator u pos c.curve.denominator (All-head P u us h) in
      ap₂ (add A.prime) (sym (mul_constant A.prime e (mul A.prime A.denominator u) (sevens_of A.prime A.variables (mul A.prime A.denominator u) du))) (pushed es us (All-tail P u us h))
      ∙ push (Ring A c.curve) (scalar A c e) (d A c.curve) x r
      ∙ ap (λ z. mul A.prime A.denominator (add A.prime z (number_combination A.prime es us))) (mul_constant A.prime e u (sevens_of A.prime A.variables u hu))

  -- ---- every polynomial has digits

  abbrev Has : ℕ → Poly A c.curve → Type 0
  Has T x = (cs : List ℕ) × All (λ e. e < A.prime) cs × (length cs ≡ length ms * T) × (z : Poly A c.curve)
      × (Q A c.curve).◌≈◌ x ((Q A c.curve).◌⊕◌ (member A c.curve (value A ms T cs) (value_poly T cs)) ((Q A c.curve).◌⊗◌ z (pow (Q A c.curve) (d A c.curve) T)))

  first_block : (x : Poly A c.curve) → (cs : List ℕ) × All (λ e. e < A.prime) cs × (length cs ≡ length ms) × (q : Poly A c.curve)
      × (Q A c.curve).◌≈◌ x ((Q A c.curve).◌⊕◌ (member A c.curve (number_combination A.prime cs U) (numbers_poly cs U span.polys)) ((Q A c.curve).◌⊗◌ q (d A c.curve)))
  first_block x =
      let s = span.each x.terms x.is_poly in
      let v = member A c.curve (number_combination A.prime s.residues U) (numbers_poly s.residues U span.polys) in
      let y = (Ring A c.curve).◌⊕◌ x ((Ring A c.curve).neg v) in
      let g : terms_of (d A c.curve ∷ I A c.curve) ≡ A.denominator ∷ A.ideal = ap (λ l. A.denominator ∷ l) (terms-lift A.prime A.variables A.ideal c.curve.ideal) in
      let m = multiple_in (Ring A c.curve) (I A c.curve) (d A c.curve) y
      (ideal_up A.prime A.variables (high A c.curve) (d A c.curve ∷ I A c.curve) y (subst (λ l. InIdeal A.prime A.variables l y.terms) (sym g) s.close)) in (
        s.residues,
        s.below,
        s.as_many ∙ length-map ms polynomial_of,
        m.0,
        move (Curve A c.curve) x v ((Q A c.curve).◌⊗◌ m.0 (d A c.curve)) m.1,
      )

  has : (T : ℕ) (x : Poly A c.curve) → Has T x
  unfolding spread
  has zero x = (
    [],
    All-nil (λ e. e < A.prime),
    (let e : 0 ≡ length ms * 0 = omega arith in e),
    x,
    of_none (value_poly 0 []),
  )
    where
      of_none : (h : P []) → (Q A c.curve).◌≈◌ x ((Q A c.curve).◌⊕◌ (member A c.curve [] h) ((Q A c.curve).◌⊗◌ x (pow (Q A c.curve) (d A c.curve) 0)))
      of_none h = all_in_none (Curve A c.curve) x (d A c.curve)
  has (suc T) x =
      let b = first_block x in
      let r = has T b.3 in
      let v = member A c.curve (number_combination A.prime b.0 U) (numbers_poly b.0 U span.polys) in
      let w = member A c.curve (value A ms T r.0) (value_poly T r.0) in
      let cs : List ℕ = b.0 ++ r.0 in
      let e : value A ms (suc T) cs ≡ add A.prime (number_combination A.prime b.0 U) (mul A.prime A.denominator (value A ms T r.0)) =
      appended b.0 r.0 U (map (mul A.prime A.denominator) (places A ms T)) span.polys (times_polys (places A ms T) (place_polys T)) (b.2 ∙ sym (length-map ms polynomial_of))
      ∙ ap (add A.prime (number_combination A.prime b.0 U)) (pushed r.0 (places A ms T) (place_polys T)) in (
        cs,
        All-append (λ z. z < A.prime) b.0 r.0 b.1 r.1,
        (let a : length (b.0 ++ r.0) ≡ length b.0 + length r.0 = length-append b.0 r.0 in let m : length b.0 ≡ length ms = b.2 in let n : length r.0 ≡ length ms * T = r.2 in let q : length ms * suc T ≡ length ms + length ms * T = omega arith in omega arith),
        r.3,
        chain (Curve A c.curve) x ((Q A c.curve).◌⊕◌ ((Q A c.curve).◌⊕◌ v ((Q A c.curve).◌⊗◌ (d A c.curve) w)) ((Q A c.curve).◌⊗◌ r.3 (pow (Q A c.curve) (d A c.curve) (suc T))))
            ((Q A c.curve).◌⊕◌ (member A c.curve (value A ms (suc T) cs) (value_poly (suc T) cs)) ((Q A c.curve).◌⊗◌ r.3 (pow (Q A c.curve) (d A c.curve) (suc T))))
            (deeper_power (Curve A c.curve) x v b.3 (d A c.curve) w r.3 T b.4 r.4)
            (same_left ((Q A c.curve).◌⊕◌ v ((Q A c.curve).◌⊗◌ (d A c.curve) w)) (member A c.curve (value A ms (suc T) cs) (value_poly (suc T) cs)) ((Q A c.curve).◌⊗◌ r.3 (pow (Q A c.curve) (d A c.curve) (suc T))) (sym e)),
      )
    where
      same_left : (a b z : Poly A c.curve) → a.terms ≡ b.terms → (Q A c.curve).◌≈◌ ((Q A c.curve).◌⊕◌ a z) ((Q A c.curve).◌⊕◌ b z)
      same_left a b z e = of_terms A c.curve ((Q A c.curve).◌⊕◌ a z) ((Q A c.curve).◌⊕◌ b z) (ap (λ l. add A.prime l z.terms) e)

  module _ (T : ℕ) where
    abbrev G : List (List Term)
    G = denominator_power A T ∷ A.ideal

    pub gens : ArePolys A G
    gens = All-cons P (denominator_power A T) A.ideal (power_poly A c T) c.curve.ideal

    abbrev M : Poly A c.curve → Type 0
    M x = InPower A T x.terms

    pub exists : (f : List Term) → P f → (row : List ℕ) × AreDigits A ms T f row
    exists f h =
        let x = member A c.curve f h in
        let s = has T (member A c.curve f h) in
        let v = member A c.curve (value A ms T s.0) (value_poly T s.0) in
        let z = (Q A c.curve).◌⊗◌ s.3 (pow (Q A c.curve) (d A c.curve) T) in (
          s.0,
          record {
            fits = (s.2, s.1);
            close = taken_down A c.curve T ((Q A c.curve).◌⊕◌ x ((Q A c.curve).neg v)) (s.3, moved (Curve A c.curve) x v z s.4);
          },
        )

    pub basis_of : HasDim A.prime A.variables G (length ms * T)
    basis_of =
        let D = powers_law A c T in
        record {
          basis = places A ms T;
          as_many = place_count T;
          spans = record {
            polys = place_polys T;
            each = λ f h. let s = exists f h in record { residues = s.0; below = s.1.fits.1; as_many = s.1.fits.0 ∙ sym (place_count T); close = s.1.close };
          };
          least = λ us l s. D.least us (subst (λ n. length us < n * T) (sym as_many) l) s;
        }

    -- ---- membership moves along equations

    in_terms : (x y : Poly A c.curve) → x.terms ≡ y.terms → M x → M y
    in_terms x y e h = subst (InPower A T) e h

    minus : (x y : Poly A c.curve) → M x → M y → M ((Ring A c.curve).◌⊕◌ x ((Ring A c.curve).neg y))
    minus x y h g = in_sub A.prime A.variables G x.terms y.terms pos y.is_poly h g

    abbrev V : List ℕ → Poly A c.curve
    V row = member A c.curve (value A ms T row) (value_poly T row)

    pub same : (f g : List Term) (row : List ℕ) → P f → P g → InPower A T (sub A.prime f g) → AreDigits A ms T f row → AreDigits A ms T g row
    same f g row hf hg e a =
        let x = member A c.curve f hf in
        let y = member A c.curve g hg in
        let R = Ring A c.curve in
        record {
          fits = a.fits;
          close = in_terms ((Ring A c.curve).◌⊕◌ ((Ring A c.curve).◌⊕◌ x ((Ring A c.curve).neg (V row))) ((Ring A c.curve).neg ((Ring A c.curve).◌⊕◌ x ((Ring A c.curve).neg y)))) ((Ring A c.curve).◌⊕◌ y ((Ring A c.curve).neg (V row)))
              (differ (Ring A c.curve) x y (V row))
              (minus ((Ring A c.curve).◌⊕◌ x ((Ring A c.curve).neg (V row))) ((Ring A c.curve).◌⊕◌ x ((Ring A c.curve).neg y)) a.close e);
        }

    pub close : (f g : List Term) (row : List ℕ) → P f → P g → AreDigits A ms T f row → AreDigits A ms T g row → InPower A T (sub A.prime f g)
    close f g row hf hg a b =
        let x = member A c.curve f hf in
        let y = member A c.curve g hg in
        in_terms ((Ring A c.curve).◌⊕◌ ((Ring A c.curve).◌⊕◌ x ((Ring A c.curve).neg (V row))) ((Ring A c.curve).neg ((Ring A c.curve).◌⊕◌ y ((Ring A c.curve).neg (V row))))) ((Ring A c.curve).◌⊕◌ x ((Ring A c.curve).neg y))
        (agree (Ring A c.curve) x y (V row))
        (minus ((Ring A c.curve).◌⊕◌ x ((Ring A c.curve).neg (V row))) ((Ring A c.curve).◌⊕◌ y ((Ring A c.curve).neg (V row))) a.close b.close)

    pub unique : (f : List Term) (row other : List ℕ) → P f → AreDigits A ms T f row → AreDigits A ms T f other → row ≡ other
    unfolding basis_of
    unique f row other hf a b =
        let x = member A c.curve f hf in
        unique_coordinates_law A.prime A.variables c.curve.prime G gens (length ms * T) basis_of row other a.fits.1 b.fits.1 a.fits.0 b.fits.0
        (in_terms ((Ring A c.curve).◌⊕◌ ((Ring A c.curve).◌⊕◌ x ((Ring A c.curve).neg (V other))) ((Ring A c.curve).neg ((Ring A c.curve).◌⊕◌ x ((Ring A c.curve).neg (V row))))) ((Ring A c.curve).◌⊕◌ (V row) ((Ring A c.curve).neg (V other)))
        (differ (Ring A c.curve) x (V row) (V other))
        (minus ((Ring A c.curve).◌⊕◌ x ((Ring A c.curve).neg (V other))) ((Ring A c.curve).◌⊕◌ x ((Ring A c.curve).neg (V row))) b.close a.close))

    pub row_digits : (row : List ℕ) → IsRow A.prime (length ms * T) row → AreDigits A ms T (value A ms T row) row
    row_digits row h =
        let x = V row in
        record { fits = h; close = in_terms (Ring A c.curve).𝟘 ((Ring A c.curve).◌⊕◌ (V row) ((Ring A c.curve).neg (V row))) (sym ((Ring A c.curve).add_neg (V row))) (IdealLaws_none) }
      where
        IdealLaws_none : InPower A T []
        IdealLaws_none = in_none A.prime A.variables G

    -- ---- sums and multiples

    abbrev pub Over : Modules.Module (Residues A c)
    Over = Modules.through (Residues A c) (Ring A c.curve) (scalar A c) (scalar_map A c)

    abbrev pub L : List (Poly A c.curve)
    L = lift A.prime A.variables (places A ms T) (place_polys T)

    pub long : (row : List ℕ) → IsRow A.prime (length ms * T) row → length row ≡ length L
    long row h = h.0 ∙ sym (place_count T) ∙ sym (length-lift A.prime A.variables (places A ms T) (place_polys T))

    pub many : length L ≡ length ms * T
    many = length-lift A.prime A.variables (places A ms T) (place_polys T) ∙ place_count T

    pub value_is : (row : List ℕ) → (combination (module_through (Ring A c.curve).ops (scalar A c)) row L).terms ≡ value A ms T row
    value_is row = combination-numbers A c row L ∙ ap (number_combination A.prime row) (terms-lift A.prime A.variables (places A ms T) (place_polys T))

    pub row_fits : (f : ℕ → ℕ) → IsRow A.prime (length ms * T) (map (λ i. f i % A.prime) (range_with_len 0 (length ms * T)))
    row_fits f = (row-length (length ms * T) (λ i. f i % A.prime), All-map (λ e. e < A.prime) (λ i. f i % A.prime) (range_with_len 0 (length ms * T)) (λ j e l. mod-lt (f (get_or (range_with_len 0 (length ms * T)) j e)) pos))

    value_sum : (row other : List ℕ) → IsRow A.prime (length ms * T) row → IsRow A.prime (length ms * T) other
        → value A ms T ((rows A.prime (length ms * T)).◌⊞◌ row other) ≡ add A.prime (value A ms T row) (value A ms T other)
    value_sum row other h g =
        subst (λ n. value A ms T ((rows A.prime n).◌⊞◌ row other) ≡ add A.prime (value A ms T row) (value A ms T other)) many
        (sym (value_is ((rows A.prime (length L)).◌⊞◌ row other)) ∙ sum_rows A.prime (positive_of_prime A.prime c.curve.prime) Over row other L (long row h) (long other g) ∙ ap₂ (add A.prime) (value_is row) (value_is other))

    value_multiple : (e : ℕ) (row : List ℕ) → IsRow A.prime (length ms * T) row → value A ms T ((rows A.prime (length ms * T)).◌·◌ e row) ≡ multiple A.prime e (value A ms T row)
    value_multiple e row h =
        subst (λ n. value A ms T ((rows A.prime n).◌·◌ e row) ≡ multiple A.prime e (value A ms T row)) many
        (sym (value_is ((rows A.prime (length L)).◌·◌ e row)) ∙ multiple_row A.prime (positive_of_prime A.prime c.curve.prime) Over e row L (long row h) ∙ ap (λ z. mul A.prime (scalar A c e).terms z) (value_is row)
        ∙ mul_constant A.prime e (value A ms T row) (sevens_of A.prime A.variables (value A ms T row) (value_poly T row)))

    pub sums : (f g : List Term) (row other : List ℕ) → P f → P g → AreDigits A ms T f row → AreDigits A ms T g other → AreDigits A ms T (add A.prime f g) ((rows A.prime (length ms * T)).◌⊞◌ row other)
    sums f g row other hf hg a b =
        let x = member A c.curve f hf in
        let y = member A c.curve g hg in
        record {
          fits = row_fits (λ i. get_or row i 0 + get_or other i 0);
          close = subst (λ z. InPower A T (sub A.prime (add A.prime f g) z)) (sym (value_sum row other a.fits b.fits))
              (in_terms ((Ring A c.curve).◌⊕◌ ((Ring A c.curve).◌⊕◌ x ((Ring A c.curve).neg (V row))) ((Ring A c.curve).◌⊕◌ y ((Ring A c.curve).neg (V other)))) ((Ring A c.curve).◌⊕◌ ((Ring A c.curve).◌⊕◌ x y) ((Ring A c.curve).neg ((Ring A c.curve).◌⊕◌ (V row) (V other))))
              (both (Ring A c.curve) x y (V row) (V other))
              (in_add A.prime A.variables G (sub A.prime f (value A ms T row)) (sub A.prime g (value A ms T other)) pos a.close b.close));
        }

    pub multiples : (e : ℕ) (f : List Term) (row : List ℕ) → P f → AreDigits A ms T f row → AreDigits A ms T (multiple A.prime e f) ((rows A.prime (length ms * T)).◌·◌ e row)
    multiples e f row hf a =
        let x = member A c.curve f hf in
        let s = sub A.prime f (value A ms T row) in
        record {
          fits = row_fits (λ i. e * get_or row i 0);
          close = subst (λ z. InPower A T (sub A.prime (multiple A.prime e f) z)) (sym (value_multiple e row a.fits))
              (subst (λ z. InPower A T (sub A.prime z (multiple A.prime e (value A ms T row)))) (mul_constant A.prime e f (sevens_of A.prime A.variables f hf))
              (subst (λ z. InPower A T (sub A.prime (mul A.prime (scalar A c e).terms f) z)) (mul_constant A.prime e (value A ms T row) (sevens_of A.prime A.variables (value A ms T row) (value_poly T row)))
              (in_terms ((Ring A c.curve).◌⊗◌ (scalar A c e) ((Ring A c.curve).◌⊕◌ x ((Ring A c.curve).neg (V row)))) ((Ring A c.curve).◌⊕◌ ((Ring A c.curve).◌⊗◌ (scalar A c e) x) ((Ring A c.curve).neg ((Ring A c.curve).◌⊗◌ (scalar A c e) (V row))))
              (times (Ring A c.curve) (scalar A c e) x (V row))
              (in_mul A.prime A.variables G (scalar A c e).terms (sub A.prime f (value A ms T row)) pos (scalar A c e).is_poly a.close))));
        }

    pub products : (q f : List Term) (row out : List ℕ) → P q → P f → AreDigits A ms T f row → AreDigits A ms T (mul A.prime q (value A ms T row)) out → AreDigits A ms T (mul A.prime q f) out
    products q f row out hq hf a b =
        let x = member A c.curve q hq in
        let y = member A c.curve f hf in
        record {
          fits = b.fits;
          close = in_terms ((Ring A c.curve).◌⊕◌ ((Ring A c.curve).◌⊗◌ x ((Ring A c.curve).◌⊕◌ y ((Ring A c.curve).neg (V row)))) ((Ring A c.curve).◌⊕◌ ((Ring A c.curve).◌⊗◌ x (V row)) ((Ring A c.curve).neg (V out)))) ((Ring A c.curve).◌⊕◌ ((Ring A c.curve).◌⊗◌ x y) ((Ring A c.curve).neg (V out)))
              (by_way (Ring A c.curve) x y (V row) (V out))
              (in_add A.prime A.variables G (mul A.prime q (sub A.prime f (value A ms T row))) (sub A.prime (mul A.prime q (value A ms T row)) (value A ms T out)) pos
              (in_mul A.prime A.variables G q (sub A.prime f (value A ms T row)) pos hq a.close) b.close);
        }

pub digit_law : DigitLaws
digit_law A c ms k T = record {
  dimension = dimension A c ms k;
  exist = exists A c ms k T;
  row = λ row h. (value_poly A c ms k T row, row_digits A c ms k T row h);
  same = same A c ms k T;
  close = close A c ms k T;
  unique = unique A c ms k T;
  sum = sums A c ms k T;
  product = products A c ms k T;
  multiple = multiples A c ms k T;
}
