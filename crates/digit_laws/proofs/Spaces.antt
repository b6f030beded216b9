-- Spaces of rows of digits that are closed under the variables, as ideals.
use Rattle.std.proofs.Common.{◌≡◌, ℕ, zero, suc, ◌*◌, ◌%◌, ◌<◌, List, [], ◌∷◌, ◌++◌, map, length, get_or, All, refl, sym, ap, ap₂, ◌∙◌, subst, arith, mod-eq_of_lt}
use Rattle.std.specs.List.{Contains}
use Rattle.std.proofs.lemmas.List.{length-map}
use Rattle.std.proofs.lemmas.List.Elements.{All-nil, All-cons, All-head, All-tail, All-append, All-weaker, All-contains_itself}
use Rattle.comm_ring.specs.Ring.{CommRing}
use Rattle.comm_ring.specs.Residues.{residue_ops}
use Rattle.comm_ring.specs.Rows.{rows}
use Rattle.comm_ring.specs.Modules.{combination, module_through, own_module, InSpan, IsSubmodule, Independent}
use Rattle.comm_ring.proofs.Ideals as IdealLaws
use Rattle.comm_ring.proofs.Modules as Modules
use Rattle.comm_ring.proofs.Derived.{one_mul}
use Rattle.prime_field.proofs.Table.{positive_of_prime}
use Rattle.comm_ring.proofs.Fields.{residue_coefficients}
use Rattle.comm_ring.proofs.Rows.{row_module}
use Rattle.comm_ring.proofs.Residues.{residues}
use Rattle.comm_ring.proofs.Quote.{ring, quote}
use Rattle.monomials.specs.Mono.{Monomial, times, unit, variable, total_degree}
use Rattle.polys.specs.declared.term.Term.{Term}
use Rattle.polys.specs.Terms.{IsPoly, IsAffine, keep, add, sub, mul, multiple}
use Rattle.polys.specs.Ideal.{InIdeal, number_combination}
use Rattle.polys.specs.Curve.{CurveData}
use Rattle.polys.proofs.Affine.{poly_none, poly_mul, constant, mul_constant, sevens_of, positive}
use Rattle.ideal_laws.proofs.Ideals.{in_none, in_add, in_sub, in_multiple, in_generator, in_larger, in_poly}
use Rattle.polys.proofs.Sums.{add-mul, mul_assoc}
use Rattle.polys.proofs.Units.{canonical_same}
use Rattle.curve_model.specs.Fraction.{denominator_power}
use Rattle.curve_model.specs.Laws.{IsFinite, ArePolys}
use Rattle.curve_model.specs.OneExponent.{InPower, AreIndependentModulo, IsNumeratorBasis}
use Rattle.ideal_laws.proofs.Members.{lift}
use Rattle.curve_laws.proofs.Members.{ideal_from}
use Rattle.curve_laws.proofs.Base.{high, Ring, Poly, member}
use Rattle.curve_laws.proofs.Scalars.{scalar, combination-numbers}
use Rattle.chain_laws.proofs.OneExponent.{basis_law}
use Rattle.standard_monomials.specs.Standard.{polynomial_of}
use Rattle.standard_monomials.proofs.Search.{degree_zero, Lowered, lowered}
use Rattle.standard_monomials.proofs.Powers.{affine_power}
use native.Mathlib.Nat.{zero-mod}
use Rattle.row_space.specs.Echelon.{IsRow}
use Rattle.row_space.specs.Subspace.{Subspace, FitsIn}
use Rattle.digit_laws.specs.Digits.{AreCornersOf, value, AreDigits, HasDigitsIn, IsIdealSpace, numerators}
use Rattle.digit_laws.specs.Laws.{DigitsAreCoordinates, SpaceIsIdeal, SpacesAreIdeals}
use Rattle.digit_laws.proofs.Linear.{combined_rows}
use Rattle.digit_laws.proofs.DigitLaws.{digit_law, value_poly, numbers_poly, row_fits, row_digits, Over, L, long, many, value_is, gens}

module _ (C : CommRing) where
  open C use {ops, carrier, ◌≈◌, ◌⊕◌, ◌⊗◌, neg, 𝟘, 𝟙}

  infix 40 ◌≈◌
  infixl 60 ◌⊕◌
  infixl 70 ◌⊗◌
  restored : (f v : carrier) → (f ⊕ neg v) ⊕ v ≈ f
  restored f v = ring C (f ∷ v ∷ []) (search quote depth 20) tt

  minus_none : (v : carrier) → v ≈ v ⊕ neg 𝟘
  minus_none v = ring C (v ∷ []) (search quote depth 20) tt

module _ {X : Type 0} (S : X → Type 0) where
  all_left : (xs ys : List X) → All S (xs ++ ys) → All S xs
  all_left [] ys h = All-nil S
  all_left (x ∷ xs) ys h = All-cons S x xs (All-head S x (xs ++ ys) h) (all_left xs ys (All-tail S x (xs ++ ys) h))

  all_right : (xs ys : List X) → All S (xs ++ ys) → All S ys
  all_right [] ys h = h
  all_right (x ∷ xs) ys h = all_right xs ys (All-tail S x (xs ++ ys) h)

module _ (A : CurveData) (c : IsFinite A) (ms : List Monomial) (k : AreCornersOf A ms) (T : ℕ) where
  pos : 0 < A.prime
  pos = positive A.prime (high A c.curve)

  abbrev P : List Term → Type 0
  P f = IsPoly A.prime A.variables f

  abbrev W : ℕ
  W = length ms * T

  laws : DigitsAreCoordinates A ms T
  laws = digit_law A c ms k T

  abbrev Scalars : CommRing
  Scalars = residues A.prime (positive_of_prime A.prime c.curve.prime)

  abbrev RM : Modules.Module Scalars
  RM = row_module A.prime (positive_of_prime A.prime c.curve.prime) W

  -- ---- monomials

  pub mono_product : (w x : Monomial) → polynomial_of (times w x) ≡ mul A.prime (polynomial_of w) (polynomial_of x)
  mono_product w x = ap (λ r. keep r (times w x) []) (sym (mod-eq_of_lt (high A c.curve)))

  pub affine_poly : (m : Monomial) → IsAffine A.variables m → P (polynomial_of m)
  affine_poly m h = record { canonical = ((let z : 0 < 1 = omega arith in z), high A c.curve, tt, tt); affine = (h, tt) }

  module _ (vs : List (List ℕ)) (fit : All (IsRow A.prime W) vs) where
    abbrev In : List ℕ → Type 0
    In row = InSpan (rows A.prime W) vs row

    span : IsSubmodule (rows A.prime W) In
    span = Modules.span_submodule Scalars RM vs

    -- the digits of f are a combination of vs
    abbrev Has : List Term → Type 0
    Has f = (row : List ℕ) × AreDigits A ms T f row × In row

    same_has : (f g : List Term) → P f → P g → InPower A T (sub A.prime f g) → Has f → Has g
    same_has f g hf hg e h = (h.0, laws.same f g h.0 hf hg e h.1, h.2)

    sum_has : (f g : List Term) → P f → P g → Has f → Has g → Has (add A.prime f g)
    sum_has f g hf hg h j = ((rows A.prime W).◌⊞◌ h.0 j.0, laws.sum f g h.0 j.0 hf hg h.1 j.1, span.add h.0 j.0 h.2 j.2)

    multiple_has : (e : ℕ) (f : List Term) → P f → Has f → Has (multiple A.prime e f)
    multiple_has e f hf h = ((rows A.prime W).◌·◌ e h.0, laws.multiple e f h.0 hf h.1, span.scale e h.0 h.2)

    none_has : Has []
    none_has =
        let r = laws.exist [] (poly_none A.prime A.variables) in (
          (rows A.prime W).◌·◌ 0 r.0,
          laws.multiple 0 [] r.0 (poly_none A.prime A.variables) r.1,
          span.resp (rows A.prime W).origin ((rows A.prime W).◌·◌ 0 r.0) (RM.symm {x = (rows A.prime W).◌·◌ 0 r.0} {y = (rows A.prime W).origin} (Modules.zero_scale Scalars RM r.0)) span.none,
        )

    in_power_has : (f : List Term) → P f → InPower A T f → Has f
    in_power_has f hf h = same_has [] f (poly_none A.prime A.variables) hf
        (in_sub A.prime A.variables (denominator_power A T ∷ A.ideal) [] f pos hf (in_none A.prime A.variables (denominator_power A T ∷ A.ideal)) h) none_has

    -- ---- closed under variables, so under all polynomials

    module _ (closed : (v : ℕ) → v < A.variables → (f : List Term) → Has f → Has (mul A.prime (polynomial_of (variable v)) f)) where
      of_degree : (D : ℕ) (m : Monomial) → total_degree m.exponents ≡ D → IsAffine A.variables m → (f : List Term) → P f → Has f → Has (mul A.prime (polynomial_of m) f)
      of_degree zero m e a f hf h = subst (λ w. Has (mul A.prime (polynomial_of w) f)) (sym is_one) (subst Has (sym (one_mul (Ring A c.curve) (member A c.curve f hf))) h)
        where
          is_one : m ≡ unit
          is_one = let z = degree_zero 7 m.exponents a.seven e in λ i. record { exponents = z i; component = a.plain i }
      of_degree (suc D) m e a f hf h =
          subst Has (sym (ap (λ z. mul A.prime z f) (sym (ap polynomial_of whole) ∙ mono_product w (variable r.place)) ∙ mul_assoc A.prime (polynomial_of w) (polynomial_of (variable r.place)) f))
          (of_degree D w (let x = r.lower in omega arith) affine (mul A.prime (polynomial_of (variable r.place)) f)
          (poly_mul A.prime A.variables (polynomial_of (variable r.place)) f pos (affine_poly (variable r.place) (affine_power A.variables r.place 1 r.among)) hf) (closed r.place r.among f h))
        where
          r : Lowered 7 A.variables m.exponents
          r = lowered 7 A.variables m.exponents a.seven a.first (omega arith)

          w : Monomial
          w = record { exponents = r.rest; component = 0 }

          affine : IsAffine A.variables w
          affine = record { seven = r.as_many; first = r.first; plain = refl }

          whole : times w (variable r.place) ≡ m
          whole = λ i. record { exponents = r.whole i; component = sym a.plain i }

      term_has : (t : Term) → P (t ∷ []) → (f : List Term) → P f → Has f → Has (mul A.prime (t ∷ []) f)
      term_has t ht f hf h =
          let m = t.mono in
          let pm = affine_poly t.mono ht.affine.0 in
          let g = mul A.prime (polynomial_of t.mono) f in
          let hg = poly_mul A.prime A.variables (polynomial_of t.mono) f pos pm hf in
          subst Has
          (sym (mul_constant A.prime t.coeff g (sevens_of A.prime A.variables g hg)) ∙ sym (mul_assoc A.prime (constant A.prime t.coeff) (polynomial_of t.mono) f)
          ∙ ap (λ z. mul A.prime z f) (mul_constant A.prime t.coeff (polynomial_of t.mono) (sevens_of A.prime A.variables (polynomial_of t.mono) pm)
          ∙ (let e : t.coeff * 1 ≡ t.coeff = omega arith in ap (λ z. keep (z % A.prime) t.mono []) e)
          ∙ canonical_same A.prime (t ∷ []) ht.canonical))
          (multiple_has t.coeff g hg (of_degree (total_degree t.mono.exponents) t.mono refl ht.affine.0 f hf h))

      poly_has : (q f : List Term) → P q → P f → Has f → Has (mul A.prime q f)
      poly_has [] f hq hf h = none_has
      poly_has (t ∷ q) f hq hf h =
          subst Has (sym (ap (λ z. mul A.prime z f) (sym (canonical_same A.prime (t ∷ q) hq.canonical)) ∙ add-mul A.prime (t ∷ []) q f))
          (sum_has (mul A.prime (t ∷ []) f) (mul A.prime q f) (poly_mul A.prime A.variables (t ∷ []) f pos first hf) (poly_mul A.prime A.variables q f pos rest hf) (term_has t first f hf h) (poly_has q f rest hf h))
        where
          first : P (t ∷ [])
          first = record { canonical = (hq.canonical.0, hq.canonical.1, tt, tt); affine = (hq.affine.0, tt) }

          rest : P q
          rest = record { canonical = hq.canonical.3; affine = hq.affine.1 }

      -- ---- the ideal of the numerators

      abbrev us : List (List Term)
      us = map (value A ms T) vs

      abbrev H : List (List Term)
      H = map (value A ms T) vs ++ (denominator_power A T ∷ A.ideal)

      values_poly : (rs : List (List ℕ)) → ArePolys A (map (value A ms T) rs)
      values_poly [] = All-nil P
      values_poly (r ∷ rs) = All-cons P (value A ms T r) (map (value A ms T) rs) (value_poly A c ms k T r) (values_poly rs)

      pub polys : ArePolys A H
      polys = All-append P us (denominator_power A T ∷ A.ideal) (values_poly vs) (gens A c ms k T)

      abbrev Members : Poly A c.curve → Type 0
      Members x = Has x.terms

      members_ideal : IsSubmodule (own_module (Ring A c.curve).ops) (λ x. Has x.terms)
      members_ideal = record {
        resp = λ x y e h. subst Has e h;
        none = none_has;
        add = λ x y h j. sum_has x.terms y.terms x.is_poly y.is_poly h j;
        scale = λ q x h. poly_has q.terms x.terms q.is_poly x.is_poly h;
      }

      values_has : (rs : List (List ℕ)) → All (IsRow A.prime W) rs → All In rs → All Has (map (value A ms T) rs)
      values_has [] a h = All-nil Has
      values_has (r ∷ rs) a h = All-cons Has (value A ms T r) (map (value A ms T) rs) (r, row_digits A c ms k T r (All-head (IsRow A.prime W) r rs a), All-head In r rs h)
          (values_has rs (All-tail (IsRow A.prime W) r rs a) (All-tail In r rs h))

      powers_has : (gs : List (List Term)) → ArePolys A gs → All (InPower A T) gs → All Has gs
      powers_has [] a h = All-nil Has
      powers_has (g ∷ gs) a h = All-cons Has g gs (in_power_has g (All-head P g gs a) (All-head (InPower A T) g gs h)) (powers_has gs (All-tail P g gs a) (All-tail (InPower A T) g gs h))

      generators_of : (gs : List (List Term)) → ArePolys A gs → All (InIdeal A.prime A.variables gs) gs
      generators_of gs a = All-weaker (Contains gs) (InIdeal A.prime A.variables gs) (λ g h. in_generator A.prime A.variables gs g (high A c.curve) a h) gs (All-contains_itself gs)

      all_has : All Has H
      all_has = All-append Has us (denominator_power A T ∷ A.ideal) (values_has vs fit (Modules.span_self Scalars RM vs))
          (powers_has (denominator_power A T ∷ A.ideal) (gens A c ms k T) (generators_of (denominator_power A T ∷ A.ideal) (gens A c ms k T)))

      lifted_has : (gs : List (List Term)) (a : ArePolys A gs) → All Has gs → All (λ x. Has x.terms) (lift A.prime A.variables gs a)
      unfolding lift
      lifted_has [] a h = All-nil (λ x. Has x.terms)
      lifted_has (g ∷ gs) a h = All-cons (λ x. Has x.terms) (member A c.curve g (All-head P g gs a)) (lift A.prime A.variables gs (All-tail P g gs a)) (All-head Has g gs h) (lifted_has gs (All-tail P g gs a) (All-tail Has g gs h))

      pub has_of : (f : List Term) → P f → InIdeal A.prime A.variables H f → Has f
      has_of f hf h = IdealLaws.ideal_least (Ring A c.curve) (λ x. Has x.terms) members_ideal (lift A.prime A.variables H polys) (lifted_has H polys all_has) (member A c.curve f hf)
          (ideal_from A.prime A.variables (high A c.curve) H polys (member A c.curve f hf) h)

      -- ---- values of combinations

      rows_long : (i : ℕ) → i < length vs → length (get_or vs i []) ≡ length (L A c ms k T)
      rows_long i l = long A c ms k T (get_or vs i []) (fit i [] l)

      at_many : (n : ℕ) → n ≡ length (L A c ms k T) → (cs row : List ℕ) → (rows A.prime n).◌≋◌ row (combination (rows A.prime n) cs vs)
          → (rows A.prime (length (L A c ms k T))).◌≋◌ row (combination (rows A.prime (length (L A c ms k T))) cs vs)
      at_many n e cs row h = subst (λ z. (rows A.prime z).◌≋◌ row (combination (rows A.prime z) cs vs)) e h

      each_value : (rs : List (List ℕ)) → map (λ x. x.terms) (map (λ b. combination (module_through (Ring A c.curve).ops (scalar A c)) b (L A c ms k T)) rs) ≡ map (value A ms T) rs
      each_value [] = refl
      each_value (r ∷ rs) = ap₂ ◌∷◌ (value_is A c ms k T r) (each_value rs)

      value_combined : (cs row : List ℕ) → IsRow A.prime W row → (rows A.prime W).◌≋◌ row (combination (rows A.prime W) cs vs) → value A ms T row ≡ number_combination A.prime cs us
      value_combined cs row h e =
          sym (value_is A c ms k T row)
          ∙ combined_rows A.prime (positive_of_prime A.prime c.curve.prime) (Over A c ms k T) cs row vs (L A c ms k T) (long A c ms k T row h) rows_long (at_many W (sym (many A c ms k T)) cs row e)
          ∙ combination-numbers A c cs (map (λ b. combination (module_through (Ring A c.curve).ops (scalar A c)) b (L A c ms k T)) vs)
          ∙ ap (number_combination A.prime cs) (each_value vs)

      numbers_in : (cs : List ℕ) (gs : List (List Term)) → ArePolys A gs → All (InIdeal A.prime A.variables H) gs → InIdeal A.prime A.variables H (number_combination A.prime cs gs)
      numbers_in [] gs a h = in_none A.prime A.variables H
      numbers_in (e ∷ cs) [] a h = in_none A.prime A.variables H
      numbers_in (e ∷ cs) (g ∷ gs) a h = in_add A.prime A.variables H (multiple A.prime e g) (number_combination A.prime cs gs) pos
          (in_multiple A.prime A.variables H e g pos (All-head P g gs a) (All-head (InIdeal A.prime A.variables H) g gs h)) (numbers_in cs gs (All-tail P g gs a) (All-tail (InIdeal A.prime A.variables H) g gs h))

      all_in : All (InIdeal A.prime A.variables H) H
      all_in = generators_of H polys

      values_in : All (InIdeal A.prime A.variables H) us
      values_in = all_left (InIdeal A.prime A.variables H) us (denominator_power A T ∷ A.ideal) all_in

      power_in : (f : List Term) → InPower A T f → InIdeal A.prime A.variables H f
      power_in f h = in_larger A.prime A.variables (denominator_power A T ∷ A.ideal) H f pos (all_right (InIdeal A.prime A.variables H) us (denominator_power A T ∷ A.ideal) all_in) h

      pub of_has : (f : List Term) → P f → Has f → InIdeal A.prime A.variables H f
      of_has f hf h =
          let v = value A ms T h.0 in
          let vp = value_poly A c ms k T h.0 in
          subst (InIdeal A.prime A.variables H) (restored (Ring A c.curve) (member A c.curve f hf) (member A c.curve v vp))
          (in_add A.prime A.variables H (sub A.prime f v) v pos (power_in (sub A.prime f v) h.1.close)
          (subst (InIdeal A.prime A.variables H) (sym (value_combined h.2.0 h.0 h.1.fits h.2.2)) (numbers_in h.2.0 us (values_poly vs) values_in)))

      -- ---- the rows are a basis

      module _ (independent : Independent (residue_ops A.prime) (rows A.prime W) vs) where
        multiple_none : (f : List Term) → P f → multiple A.prime 0 f ≡ []
        multiple_none f hf = sym (mul_constant A.prime 0 f (sevens_of A.prime A.variables f hf)) ∙ ap (λ z. mul A.prime (keep z unit []) f) (zero-mod A.prime)

        zeros : (cs : List ℕ) → All (λ e. e < A.prime) cs → All (λ e. e % A.prime ≡ 0 % A.prime) cs → All (λ e. e ≡ 0) cs
        zeros [] a h = All-nil (λ e. e ≡ 0)
        zeros (e ∷ cs) a h = All-cons (λ b. b ≡ 0) e cs
            (sym (mod-eq_of_lt (All-head (λ b. b < A.prime) e cs a)) ∙ All-head (λ b. b % A.prime ≡ 0 % A.prime) e cs h ∙ mod-eq_of_lt pos)
            (zeros cs (All-tail (λ b. b < A.prime) e cs a) (All-tail (λ b. b % A.prime ≡ 0 % A.prime) e cs h))

        numbers_independent : AreIndependentModulo A T us
        numbers_independent cs a l h =
            let x = combination (rows A.prime W) cs vs in
            let r = (rows A.prime W).◌·◌ 1 x in
            let fits = row_fits A c ms k T (λ i. 1 * get_or x i 0) in
            let v = number_combination A.prime cs us in
            let vp = numbers_poly A c ms k cs us (values_poly vs) in
            let one : (rows A.prime W).◌≋◌ r x = RM.one_scale x in
            let e : value A ms T r ≡ v = value_combined cs r fits one in
            let d : AreDigits A ms T v r = subst (λ z. AreDigits A ms T z r) e (row_digits A c ms k T r fits) in
            let n : InPower A T (sub A.prime v []) = subst (InPower A T) (minus_none (Ring A c.curve) (member A c.curve v vp)) h in
            let none : AreDigits A ms T [] r = laws.same v [] r vp (poly_none A.prime A.variables) n d in
            let z : AreDigits A ms T [] ((rows A.prime W).◌·◌ 0 r) = subst (λ g. AreDigits A ms T g ((rows A.prime W).◌·◌ 0 r)) (multiple_none v vp) (laws.multiple 0 v r vp d) in
            let s : r ≡ (rows A.prime W).◌·◌ 0 r = laws.unique [] r ((rows A.prime W).◌·◌ 0 r) (poly_none A.prime A.variables) none z in
            zeros cs a (independent cs (l ∙ length-map vs (value A ms T))
            (RM.trans {x = x} {y = r} {z = (rows A.prime W).origin} (RM.symm {x = r} {y = x} one)
            (subst (λ y. (rows A.prime W).◌≋◌ y (rows A.prime W).origin) (sym s) (Modules.zero_scale Scalars RM r))))

        pub numerator_basis : IsNumeratorBasis A T H us
        numerator_basis = record {
          members = values_in;
          independent = numbers_independent;
          spans = λ b i.
              let hb = in_poly A.prime A.variables H b pos polys i in
              let h = has_of b hb i in
              let s = residue_coefficients A.prime (positive_of_prime A.prime c.curve.prime) RM vs h.0 h.2 in
              record {
                residues = s.0;
                below = s.2;
                as_many = s.1 ∙ sym (length-map vs (value A ms T));
                close = subst (λ z. InPower A T (sub A.prime b z)) (value_combined s.0 h.0 h.1.fits s.3) h.1.close;
              };
        }

-- the same rows and width, by other names
pub moved_in : (p q n m : ℕ) (vs : List (List ℕ)) (row : List ℕ) → p ≡ q → n ≡ m → InSpan (rows p n) vs row → InSpan (rows q m) vs row
moved_in p q n m vs row e f h = subst (λ z. InSpan (rows q z) vs row) f (subst (λ z. InSpan (rows z n) vs row) e h)

module _ (A : CurveData) (c : IsFinite A) (ms : List Monomial) (k : AreCornersOf A ms) (T : ℕ) (space : Subspace) (fit : All (FitsIn space) space.basis) (i : IsIdealSpace A ms T space) where
  rows_fit : All (IsRow A.prime (length ms * T)) space.basis
  rows_fit = All-weaker (FitsIn space) (IsRow A.prime (length ms * T))
      (λ r h. (h.0 ∙ i.of_digits.width, subst (λ z. All (λ e. e < z) r) i.of_digits.prime h.1)) space.basis fit

  up : (f : List Term) → HasDigitsIn A ms T space f → Has A c ms k T space.basis rows_fit f
  up f h = (h.0, h.1, moved_in space.prime A.prime space.width (length ms * T) space.basis h.0 i.of_digits.prime i.of_digits.width h.2)

  down : (f : List Term) → Has A c ms k T space.basis rows_fit f → HasDigitsIn A ms T space f
  down f h = (h.0, h.1, moved_in A.prime space.prime (length ms * T) space.width space.basis h.0 (sym i.of_digits.prime) (sym i.of_digits.width) h.2)

  closed : (v : ℕ) → v < A.variables → (f : List Term) → Has A c ms k T space.basis rows_fit f → Has A c ms k T space.basis rows_fit (mul A.prime (polynomial_of (variable v)) f)
  closed v l f h = up (mul A.prime (polynomial_of (variable v)) f) (i.closed v l f (down f h))

  ideal : SpaceIsIdeal A ms T space
  ideal = record {
    polys = polys A c ms k T space.basis rows_fit closed;
    exact = λ f hf. (
      (λ h. down f (has_of A c ms k T space.basis rows_fit closed f hf h)),
      λ h. of_has A c ms k T space.basis rows_fit closed f hf (up f h),
    );
    basis = λ n. basis_law A c T (numerators A ms T space) (map (value A ms T) space.basis) (polys A c ms k T space.basis rows_fit closed)
        (numerator_basis A c ms k T space.basis rows_fit closed n);
  }

pub spaces_law : SpacesAreIdeals
spaces_law A c ms k T space fit i = ideal A c ms k T space fit i
