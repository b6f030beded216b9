-- The fractions that take a module into itself, by rows of digits.
use Rattle.std.proofs.Common.{◌≡◌, ◌↔◌, ℕ, zero, suc, ◌+◌, ◌-◌, ◌*◌, ◌<◌, List, [], ◌∷◌, ◌++◌, map, length, replicate, All, refl, sym, ap, ◌∙◌, subst, arith, mul-add, length-append}
use Rattle.std.specs.List.{Contains}
use Rattle.std.proofs.lemmas.List.{length-replicate, append-nil}
use Rattle.std.proofs.lemmas.List.Elements.{All-tail, All-append, All-weaker, All-contains, All-contains_itself, Contains-append_right}
use Rattle.comm_ring.specs.Ring.{CommRing, pow}
use Rattle.comm_ring.proofs.Derived.{pow-add}
use Rattle.comm_ring.proofs.Quote.{ring, quote}
use Rattle.fraction_laws.proofs.FractionRing.{cancel_two}
use Rattle.monomials.specs.Mono.{Monomial, variable}
use Rattle.polys.specs.declared.term.Term.{Term}
use Rattle.polys.specs.Terms.{IsPoly, add, sub, mul, multiple, normal}
use Rattle.polys.specs.Ideal.{InIdeal}
use Rattle.polys.specs.Curve.{CurveData}
use Rattle.polys.proofs.Affine.{poly_add, positive}
use Rattle.polys.proofs.Sums.{add_assoc, add_normal_left, mul_comm, mul_normal_right}
use Rattle.ideal_laws.proofs.Ideals.{in_add, in_sub, in_mul, in_more, in_poly, in_generator}
use Rattle.ideal_laws.proofs.Unique.{contains_head}
use Rattle.curve_model.specs.Fraction.{Fraction, IsFraction, denominator_power, over, product_of}
use Rattle.curve_model.specs.Closure.{InModule}
use Rattle.curve_model.specs.Laws.{IsFinite, ArePolys}
use Rattle.curve_model.specs.OneExponent.{InPower}
use Rattle.curve_laws.proofs.Base.{high, Ring, Poly, d, Q, Curve as RingOf, member, of_terms, pow_d, equal_up, equal_down, same_down}
use Rattle.curve_laws.proofs.Chains.{chain, flip}
use Rattle.curve_laws.proofs.Locals.{taken_up, taken_down}
use Rattle.curve_laws.proofs.Regulars.{regular_curve}
use Rattle.curve_laws.proofs.StatedLaws.{power_poly, product_poly}
use Rattle.chain_laws.proofs.OneExponent.{eq_refl, eq_sym, eq_trans, eq_product}
use Rattle.row_space.specs.Echelon.{IsRow}
use Rattle.row_space.specs.Subspace.{Subspace, FitsIn, IsIn}
use Rattle.standard_monomials.specs.Standard.{polynomial_of}
use Rattle.standard_monomials.proofs.Powers.{affine_power}
use Rattle.digit_laws.specs.Digits.{AreCornersOf, value, AreDigits, HasDigitsIn, IsIdealSpace, IsOfDigits, numerators}
use Rattle.digit_laws.specs.Laws.{DigitsAreCoordinates, SpaceIsIdeal}
use Rattle.digit_laws.proofs.DigitLaws.{digit_law, value_poly, row_digits, gens}
use Rattle.digit_laws.proofs.Spaces.{affine_poly, spaces_law}
use Rattle.digit_laws.proofs.Corners.{corners_law}
use Rattle.digit_laws.proofs.Blocks.{zeros_row}
use Rattle.over_laws.specs.Over.{InRows, TakesIntoItself}
use Rattle.over_laws.specs.Endo.{TakesGenerators, GeneratorsDecideEndomorphisms}
use Rattle.endo_ring.specs.Taken.{IsTaken}
use Rattle.over_module.proofs.Values.{deep}

module _ (C : CommRing) where
  open C use {ops, carrier, ◌≈◌, ◌⊕◌, ◌⊗◌, neg, 𝟘, 𝟙}

  infix 40 ◌≈◌
  infixl 60 ◌⊕◌
  infixl 70 ◌⊗◌
  -- one power of e on both sides
  lowered : (e : carrier) (K k : ℕ) → ((x y : carrier) → pow ops e k ⊗ x ≈ pow ops e k ⊗ y → x ≈ y) → (f g : carrier) → f ⊗ pow ops e k ≈ g ⊗ pow ops e (K + k) → f ≈ pow ops e K ⊗ g
  lowered e K k cancel f g s = cancel f (pow ops e K ⊗ g) (C.trans (C.mul_comm (pow ops e k) f) (C.trans s (C.trans (C.mul_cong (C.rfl g) (pow-add C e K k)) (turn (pow ops e K) (pow ops e k)))))
    where
      turn : (y w : carrier) → g ⊗ (y ⊗ w) ≈ w ⊗ (y ⊗ g)
      turn y w = ring C (g ∷ y ∷ w ∷ []) (search quote depth 20) tt

  raised : (e : carrier) (K k : ℕ) (f g : carrier) → f ≈ pow ops e K ⊗ g → f ⊗ pow ops e k ≈ g ⊗ pow ops e (K + k)
  raised e K k f g s = C.trans (C.mul_cong s (C.rfl (pow ops e k))) (C.trans (turn (pow ops e K) (pow ops e k)) (C.mul_cong (C.rfl g) (C.symm (pow-add C e K k))))
    where
      turn : (y w : carrier) → (y ⊗ g) ⊗ w ≈ g ⊗ (y ⊗ w)
      turn y w = ring C (g ∷ y ∷ w ∷ []) (search quote depth 20) tt

  moved : (E v b y g w : carrier) → v ⊗ b ≈ E ⊗ g → b ⊕ neg y ≈ w ⊗ E → v ⊗ y ≈ E ⊗ (g ⊕ neg (v ⊗ w))
  moved E v b y g w s t = C.trans (ring C (v ∷ b ∷ y ∷ []) (search quote depth 20) tt)
      (C.trans (C.add_cong s (C.neg_cong (C.mul_cong (C.rfl v) t))) (ring C (E ∷ v ∷ g ∷ w ∷ []) (search quote depth 20) tt))

  tail_in : (e : carrier) (K : ℕ) (f g u q : carrier) → f ≈ pow ops e K ⊗ g → g ⊕ neg u ≈ q ⊗ pow ops e K → f ⊕ neg (pow ops e K ⊗ u) ≈ q ⊗ pow ops e (K + K)
  tail_in e K f g u q s t = C.trans (C.add_cong s (C.rfl (neg (pow ops e K ⊗ u))))
      (C.trans (taken (pow ops e K)) (C.trans (C.mul_cong (C.rfl (pow ops e K)) t) (C.trans (turn (pow ops e K)) (C.mul_cong (C.rfl q) (C.symm (pow-add C e K K))))))
    where
      taken : (E : carrier) → E ⊗ g ⊕ neg (E ⊗ u) ≈ E ⊗ (g ⊕ neg u)
      taken E = ring C (g ∷ u ∷ E ∷ []) (search quote depth 20) tt

      turn : (E : carrier) → E ⊗ (q ⊗ E) ≈ q ⊗ (E ⊗ E)
      turn E = ring C (q ∷ E ∷ []) (search quote depth 20) tt

  tail_out : (e : carrier) (K : ℕ) (f u q : carrier) → f ⊕ neg (pow ops e K ⊗ u) ≈ q ⊗ pow ops e (K + K) → f ≈ pow ops e K ⊗ (u ⊕ q ⊗ pow ops e K)
  tail_out e K f u q s = C.trans (back (pow ops e K)) (C.trans (C.add_cong (C.trans s (C.mul_cong (C.rfl q) (pow-add C e K K))) (C.rfl (pow ops e K ⊗ u))) (join (pow ops e K)))
    where
      back : (E : carrier) → f ≈ (f ⊕ neg (E ⊗ u)) ⊕ E ⊗ u
      back E = ring C (f ∷ u ∷ E ∷ []) (search quote depth 20) tt

      join : (E : carrier) → q ⊗ (E ⊗ E) ⊕ E ⊗ u ≈ E ⊗ (u ⊕ q ⊗ E)
      join E = ring C (q ∷ u ∷ E ∷ []) (search quote depth 20) tt

  scaled : (E q f g : carrier) → f ≈ E ⊗ g → q ⊗ f ≈ E ⊗ (q ⊗ g)
  scaled E q f g s = C.trans (C.mul_cong (C.rfl q) s) (ring C (E ∷ q ∷ g ∷ []) (search quote depth 20) tt)

  swapped : (q v y : carrier) → q ⊗ (v ⊗ y) ≈ v ⊗ (q ⊗ y)
  swapped q v y = ring C (q ∷ v ∷ y ∷ []) (search quote depth 20) tt

  taken_out : (q f v : carrier) → q ⊗ (f ⊕ neg v) ≈ q ⊗ f ⊕ neg (q ⊗ v)
  taken_out q f v = ring C (q ∷ f ∷ v ∷ []) (search quote depth 20) tt

  none_left : (v : carrier) → neg v ⊕ v ≈ 𝟘
  none_left v = ring C (v ∷ []) (search quote depth 20) tt

-- ---- members times d^K

module _ (A : CurveData) (c : IsFinite A) (ms : List Monomial) (k : AreCornersOf A ms) (K : ℕ) (space : Subspace) (fit : All (FitsIn space) space.basis) (i : IsIdealSpace A ms K space)
    (qs : List (List Term)) (polys : ArePolys A qs) (exact : (f : List Term) → IsPoly A.prime A.variables f → InIdeal A.prime A.variables qs f ↔ HasDigitsIn A ms K space f) where
  pos : 0 < A.prime
  pos = positive A.prime (high A c.curve)

  abbrev P : List Term → Type 0
  P f = IsPoly A.prime A.variables f

  abbrev In : List Term → Type 0
  In f = InIdeal A.prime A.variables qs f

  abbrev E : Poly A c.curve
  E = pow (Q A c.curve) (d A c.curve) K

  abbrev V : List ℕ → Poly A c.curve
  V row = member A c.curve (value A ms K row) (value_poly A c ms k K row)

  laws : (T : ℕ) → DigitsAreCoordinates A ms T
  laws T = digit_law A c ms k T

  whole : SpaceIsIdeal A ms K space
  whole = spaces_law A c ms k K space fit i

  pub power_in : In (denominator_power A K)
  power_in = (exact (denominator_power A K) (power_poly A c K)).1 ((whole.exact (denominator_power A K) (power_poly A c K)).0
      (in_generator A.prime A.variables (numerators A ms K space) (denominator_power A K) (high A c.curve) whole.polys
      (Contains-append_right (map (value A ms K) space.basis) (denominator_power A K ∷ A.ideal) (denominator_power A K) (contains_head (denominator_power A K) A.ideal))))

  E_in : In E.terms
  E_in = subst (InIdeal A.prime A.variables qs) (sym (pow_d A c.curve K)) power_in

  -- modulo I, x is d^K times a member of the ideal
  abbrev pub Deep : Poly A c.curve → Type 0
  Deep x = (g : Poly A c.curve) × InIdeal A.prime A.variables qs g.terms × (RingOf A c.curve).◌≈◌ x ((Q A c.curve).◌⊗◌ (pow (Q A c.curve) (d A c.curve) K) g)

  -- its digits are zeros, and then a row of the space
  abbrev Tail : List Term → Type 0
  Tail f = (rest : List ℕ) × IsIn space rest × AreDigits A ms (K + K) f (replicate (length ms * K) 0 ++ rest)

  deep_value : (row : List ℕ) → value A ms (K + K) (replicate (length ms * K) 0 ++ row) ≡ mul A.prime E.terms (value A ms K row)
  deep_value row = deep A c ms k K K (K + K) refl row ∙ ap (λ z. mul A.prime z (value A ms K row)) (sym (pow_d A c.curve K))

  longer : (row : List ℕ) → IsRow A.prime (length ms * K) row → IsRow A.prime (length ms * (K + K)) (replicate (length ms * K) 0 ++ row)
  longer row h = (
    (let a : length {A = ℕ} (replicate (length ms * K) 0 ++ row) ≡ length {A = ℕ} (replicate (length ms * K) 0) + length row = length-append (replicate (length ms * K) 0) row in let b : length {A = ℕ} (replicate (length ms * K) 0) ≡ length ms * K = length-replicate (length ms * K) 0 in let e : length row ≡ length ms * K = h.0 in let q : length ms * (K + K) ≡ length ms * K + length ms * K = mul-add (length ms) K K in omega arith),
    All-append (λ e. e < A.prime) (replicate (length ms * K) 0) row (zeros_row A c ms k (length ms * K)) h.1,
  )

  residues : (n : ℕ) (row : List ℕ) → All (λ e. e < A.prime) (replicate n 0 ++ row) → All (λ e. e < A.prime) row
  residues zero row h = h
  residues (suc n) row h = residues n row (All-tail (λ e. e < A.prime) 0 (replicate n 0 ++ row) h)

  shorter : (row : List ℕ) → IsRow A.prime (length ms * (K + K)) (replicate (length ms * K) 0 ++ row) → IsRow A.prime (length ms * K) row
  shorter row h = (
    (let a : length {A = ℕ} (replicate (length ms * K) 0 ++ row) ≡ length {A = ℕ} (replicate (length ms * K) 0) + length row = length-append (replicate (length ms * K) 0) row in let b : length {A = ℕ} (replicate (length ms * K) 0) ≡ length ms * K = length-replicate (length ms * K) 0 in let e : length {A = ℕ} (replicate (length ms * K) 0 ++ row) ≡ length ms * (K + K) = h.0 in let q : length ms * (K + K) ≡ length ms * K + length ms * K = mul-add (length ms) K K in omega arith),
    residues (length ms * K) row h.1,
  )

  pub tail_of : (x : Poly A c.curve) → Deep x → Tail x.terms
  tail_of x h =
      let g : Poly A c.curve = h.0 in
      let s = (exact g.terms g.is_poly).0 h.1 in
      let row : List ℕ = s.0 in
      let u = V s.0 in
      let t = taken_up A c.curve K ((Q A c.curve).◌⊕◌ g ((Q A c.curve).neg u)) s.1.close in
      let z = (Q A c.curve).◌⊕◌ x ((Q A c.curve).neg ((Q A c.curve).◌⊗◌ E u)) in (
        s.0,
        s.2,
        record {
          fits = longer s.0 s.1.fits;
          close = subst (λ w. InPower A (K + K) (sub A.prime x.terms w)) (sym (deep_value s.0))
              (taken_down A c.curve (K + K) z (t.0, tail_in (RingOf A c.curve) (d A c.curve) K x g u t.0 h.2 t.1));
        },
      )

  pub deep_of : (x : Poly A c.curve) → Tail x.terms → Deep x
  deep_of x h =
      let row : List ℕ = h.0 in
      let u = V h.0 in
      let z = (Q A c.curve).◌⊕◌ x ((Q A c.curve).neg ((Q A c.curve).◌⊗◌ E u)) in
      let f = shorter h.0 h.2.fits in
      let t = taken_up A c.curve (K + K) z (subst (λ w. InPower A (K + K) (sub A.prime x.terms w)) (deep_value h.0) h.2.close) in
      let v : Poly A c.curve = t.0 in
      let inside = (exact u.terms u.is_poly).1 (h.0, row_digits A c ms k K h.0 f, h.1) in (
        (Q A c.curve).◌⊕◌ u ((Q A c.curve).◌⊗◌ v E),
        in_add A.prime A.variables qs u.terms (mul A.prime v.terms E.terms) pos inside (in_mul A.prime A.variables qs v.terms E.terms pos v.is_poly E_in),
        tail_out (RingOf A c.curve) (d A c.curve) K x u v t.1,
      )

  -- b and y are equal modulo d^K, and v is in the ideal
  pub moved_deep : (v b y : Poly A c.curve) → In v.terms → InPower A K (sub A.prime b.terms y.terms) → Deep ((Q A c.curve).◌⊗◌ v b) → Deep ((Q A c.curve).◌⊗◌ v y)
  moved_deep v b y inside near h =
      let g : Poly A c.curve = h.0 in
      let t = taken_up A c.curve K ((Q A c.curve).◌⊕◌ b ((Q A c.curve).neg y)) near in
      let w : Poly A c.curve = t.0 in
      let vw = (Q A c.curve).◌⊗◌ v w in (
        (Q A c.curve).◌⊕◌ g ((Q A c.curve).neg vw),
        in_sub A.prime A.variables qs g.terms (mul A.prime v.terms w.terms) pos vw.is_poly h.1
            (subst (InIdeal A.prime A.variables qs) (mul_comm A.prime w.terms v.terms) (in_mul A.prime A.variables qs w.terms v.terms pos w.is_poly inside)),
        moved (RingOf A c.curve) E v b y g w h.2 t.1,
      )

  -- a condition on the class modulo I
  pub same_deep : (x y : Poly A c.curve) → x.terms ≡ y.terms → Deep x → Deep y
  same_deep x y e h = (h.0, h.1, chain (RingOf A c.curve) y x ((Q A c.curve).◌⊗◌ E h.0) (of_terms A c.curve y x (sym e)) h.2)

  scaled_deep : (q x : Poly A c.curve) → Deep x → Deep ((Q A c.curve).◌⊗◌ q x)
  scaled_deep q x h =
      let g : Poly A c.curve = h.0 in
      ((Q A c.curve).◌⊗◌ q g, in_mul A.prime A.variables qs q.terms g.terms pos q.is_poly h.1, scaled (RingOf A c.curve) E q x g h.2)

  -- a member whose product with d^K is d^K times a member
  pub lowered_deep : (b : Poly A c.curve) → Deep ((Q A c.curve).◌⊗◌ b E) → In b.terms
  lowered_deep b h =
      let g : Poly A c.curve = h.0 in
      let same = cancel_two (RingOf A c.curve) (d A c.curve) (regular_curve A c.curve) K b g
      (chain (RingOf A c.curve) ((Q A c.curve).◌⊗◌ E b) ((Q A c.curve).◌⊗◌ b E) ((Q A c.curve).◌⊗◌ E g) ((RingOf A c.curve).mul_comm E b) h.2) in
      let near = in_more A.prime A.variables (denominator_power A K) A.ideal (sub A.prime g.terms b.terms) (same_down A c.curve g b (flip (RingOf A c.curve) b g same)) in
      let s = (exact g.terms g.is_poly).0 h.1 in
      (exact b.terms b.is_poly).1 (s.0, (laws K).same g.terms b.terms s.0 g.is_poly b.is_poly near s.1, s.2)

  -- ---- rows that are taken

  pub deep_taken : (q : List Term) (hq : P q) (row : List ℕ) → IsTaken A ms K space q row → Deep ((Q A c.curve).◌⊗◌ (member A c.curve q hq) (V row))
  deep_taken q hq row t = deep_of ((Q A c.curve).◌⊗◌ (member A c.curve q hq) (V row)) (t.rest, t.inside, t.digits)

  pub taken_of : (q : List Term) (hq : P q) (row : List ℕ) → Deep ((Q A c.curve).◌⊗◌ (member A c.curve q hq) (V row)) → IsTaken A ms K space q row
  taken_of q hq row h = let t = tail_of ((Q A c.curve).◌⊗◌ (member A c.curve q hq) (V row)) h in record { rest = t.0; inside = t.1; digits = t.2 }

  module _ (found : Subspace) (of_digits : IsOfDigits A ms K found)
      (members : (row : List ℕ) → IsRow A.prime (length ms * K) row → IsIn found row ↔ IsIn space row × All (λ q. IsTaken A ms K space q row) qs) where
    generator : (q : List Term) → Contains qs q → In q
    generator q h = in_generator A.prime A.variables qs q (high A c.curve) polys h

    poly_of : (q : List Term) → Contains qs q → P q
    poly_of q h = All-contains P qs q polys h

    -- ---- the rows found are an ideal

    closed_poly : (v : ℕ) → v < A.variables → (f : List Term) → P f → HasDigitsIn A ms K found f → HasDigitsIn A ms K found (mul A.prime (polynomial_of (variable v)) f)
    closed_poly v l f hf h =
        let m = (members h.0 h.1.fits).0 h.2 in
        let y = polynomial_of (variable v) in
        let hy = affine_poly A c ms k K (variable v) (affine_power A.variables v 1 l) in
        let yp = member A c.curve y hy in
        let fp = member A c.curve f hf in
        let s = i.closed v l f (h.0, h.1, m.0) in
        let yf = (Ring A c.curve).◌⊗◌ yp fp in
        let yv = (Ring A c.curve).◌⊗◌ yp (V h.0) in
        let near = subst (InPower A K) (taken_out (Ring A c.curve) yp fp (V h.0))
        (in_mul A.prime A.variables (denominator_power A K ∷ A.ideal) y (sub A.prime f (value A ms K h.0)) pos hy h.1.close) in
        let digits = (laws K).same yf.terms yv.terms s.0 yf.is_poly yv.is_poly near s.1 in
        let all = All-weaker (Contains qs) (λ q. IsTaken A ms K space q s.0)
        (λ q j.
        let hq = poly_of q j in
        let qp = member A c.curve q hq in
        let t = All-contains (λ z. IsTaken A ms K space z h.0) qs q m.1 j in
        let once = scaled_deep yp ((Q A c.curve).◌⊗◌ qp (V h.0)) (deep_taken q hq h.0 t) in
        let turned = same_deep ((Q A c.curve).◌⊗◌ yp ((Q A c.curve).◌⊗◌ qp (V h.0))) ((Q A c.curve).◌⊗◌ qp yv) (swapped (Ring A c.curve) yp qp (V h.0)) once in
        taken_of q hq s.0 (moved_deep qp yv (V s.0) (generator q j) digits.close turned))
        qs (All-contains_itself qs) in
        (s.0, s.1, (members s.0 s.1.fits).1 (s.2, all))

    -- a list of terms in place of the polynomial that it sums to
    tidy : (f : List Term) → HasDigitsIn A ms K found f → P (normal A.prime f) × HasDigitsIn A ms K found (normal A.prime f)
    tidy f h =
        let v = V h.0 in
        let r = sub A.prime f (value A ms K h.0) in
        let hr = in_poly A.prime A.variables (denominator_power A K ∷ A.ideal) r pos (gens A c ms k K) h.1.close in
        let is : add A.prime (sub A.prime f (value A ms K h.0)) (value A ms K h.0) ≡ normal A.prime f =
        add_assoc A.prime f (multiple A.prime (A.prime - 1) (value A ms K h.0)) (value A ms K h.0) ∙ ap (add A.prime f) (none_left (Ring A c.curve) v) ∙ ap (normal A.prime) (append-nil f) in (
          subst P is (poly_add A.prime A.variables r (value A ms K h.0) pos hr v.is_poly),
          (h.0, record { fits = h.1.fits; close = subst (InPower A K) (sym (add_normal_left A.prime f (multiple A.prime (A.prime - 1) (value A ms K h.0)))) h.1.close }, h.2),
        )

    pub ideal : IsIdealSpace A ms K found
    ideal = record {
      of_digits = of_digits;
      closed = λ v l f h. let t = tidy f h in subst (HasDigitsIn A ms K found) (mul_normal_right A.prime (polynomial_of (variable v)) f) (closed_poly v l (normal A.prime f) t.0 t.1);
    }

-- ---- the fractions that the rows found stand for

module _ (law : GeneratorsDecideEndomorphisms) (A : CurveData) (c : IsFinite A) (ms : List Monomial) (k : AreCornersOf A ms) (e : ℕ) (space : Subspace) (fit : All (FitsIn space) space.basis)
    (i : IsIdealSpace A ms (suc e) space) (qs : List (List Term)) (polys : ArePolys A qs)
    (exact : (f : List Term) → IsPoly A.prime A.variables f → InIdeal A.prime A.variables qs f ↔ HasDigitsIn A ms (suc e) space f)
    (found : Subspace)
    (members : (row : List ℕ) → IsRow A.prime (length ms * suc e) row → IsIn found row ↔ IsIn space row × All (λ q. IsTaken A ms (suc e) space q row) qs) where
  above : 0 < A.prime
  above = positive A.prime (high A c.curve)

  abbrev J : Fraction → Type 0
  J f = InRows A e (suc e) space f

  abbrev M : Fraction → Type 0
  M f = InModule A e qs f

  abbrev D : Poly A c.curve → Type 0
  D x = Deep A c ms k (suc e) space fit i qs polys exact x

  abbrev W : List ℕ → Poly A c.curve
  W row = member A c.curve (value A ms (suc e) row) (value_poly A c ms k (suc e) row)

  power : InIdeal A.prime A.variables qs (denominator_power A (suc e))
  power = power_in A c ms k (suc e) space fit i qs polys exact

  member_poly : (g : List Term) → InIdeal A.prime A.variables qs g → IsPoly A.prime A.variables g
  member_poly g h = in_poly A.prime A.variables qs g above polys h

  to_module : (f : Fraction) → J f → M f
  to_module f r = (r.numerator, (exact r.numerator r.poly).1 (subst (λ z. HasDigitsIn A z (suc e) space r.numerator) (corners_law A c r.corners ms r.known k) r.inside), r.equal)

  from_module : (f : Fraction) → M f → J f
  from_module f w = let hb = member_poly w.0 w.1 in record { corners = ms; known = k; numerator = w.0; poly = hb; inside = (exact w.0 hb).0 w.1; equal = w.2 }

  deep_numerator : (f : Poly A c.curve) → M (over f.terms (suc e + e)) → D f
  deep_numerator f w =
      let g = member A c.curve w.0 (member_poly w.0 w.1) in
      (g, w.1, lowered (RingOf A c.curve) (d A c.curve) (suc e) e (cancel_two (RingOf A c.curve) (d A c.curve) (regular_curve A c.curve) e) f g (equal_up A c.curve (over f.terms (suc e + e)) (over w.0 e) f.is_poly g.is_poly w.2))

  numerator_deep : (f : Poly A c.curve) → D f → M (over f.terms (suc e + e))
  numerator_deep f h =
      let g : Poly A c.curve = h.0 in
      (g.terms, h.1, equal_down A c.curve (over f.terms (suc e + e)) (over g.terms e) f.is_poly g.is_poly (raised (RingOf A c.curve) (d A c.curve) (suc e) e f g h.2))

  generators_in : (q : List Term) → Contains qs q → InIdeal A.prime A.variables qs q
  generators_in q h = in_generator A.prime A.variables qs q (high A c.curve) polys h

  into : (h : Fraction) → IsFraction A h → TakesIntoItself A J h → InRows A (suc e) (suc e) found h
  into h hh t =
      let tm : TakesIntoItself A M h = λ f hf w. to_module (product_of A h f) (t f hf (from_module f w)) in
      let r = (law A c e qs polys power h hh).0 tm in
      let b : List Term = r.numerator in
      let bp = member A c.curve r.numerator r.poly in
      let u : Fraction = over (denominator_power A (suc e)) e in
      let hu : IsFraction A u = power_poly A c (suc e) in
      let w = tm u hu (denominator_power A (suc e), power, eq_refl A c u hu) in
      let v : Fraction = product_of A (over r.numerator (suc e)) u in
      let hv = product_poly A c (over r.numerator (suc e)) u r.poly hu in
      let hw = product_poly A c h u hh hu in
      let near = eq_product A c h u (over r.numerator (suc e)) u hh hu r.poly hu r.equal (eq_refl A c u hu) in
      let moved_w : M v = (w.0, w.1, eq_trans A c v (product_of A h u) (over w.0 e) hv hw (member_poly w.0 w.1) (eq_sym A c (product_of A h u) v hw hv near) w.2) in
      let x = member A c.curve (mul A.prime r.numerator (denominator_power A (suc e))) hv in
      let z = (Q A c.curve).◌⊗◌ bp (pow (Q A c.curve) (d A c.curve) (suc e)) in
      let inside = lowered_deep A c ms k (suc e) space fit i qs polys exact bp
      (same_deep A c ms k (suc e) space fit i qs polys exact x z (ap (mul A.prime r.numerator) (sym (pow_d A c.curve (suc e)))) (deep_numerator x moved_w)) in
      let s = (exact r.numerator r.poly).0 inside in
      let all = All-weaker (Contains qs) (λ q. IsTaken A ms (suc e) space q s.0)
      (λ q j.
      let hq = All-contains (IsPoly A.prime A.variables) qs q polys j in
      let qp = member A c.curve q hq in
      let y = All-contains (λ g. M (over (mul A.prime r.numerator g) (suc e + e))) qs q r.takes j in
      let turned = same_deep A c ms k (suc e) space fit i qs polys exact ((Q A c.curve).◌⊗◌ bp qp) ((Q A c.curve).◌⊗◌ qp bp) (mul_comm A.prime r.numerator q) (deep_numerator ((Q A c.curve).◌⊗◌ bp qp) y) in
      taken_of A c ms k (suc e) space fit i qs polys exact q hq s.0 (moved_deep A c ms k (suc e) space fit i qs polys exact qp bp (W s.0) (generators_in q j) s.1.close turned))
      qs (All-contains_itself qs) in
      record { corners = ms; known = k; numerator = r.numerator; poly = r.poly; inside = (s.0, s.1, (members s.0 s.1.fits).1 (s.2, all)); equal = r.equal }

  out : (h : Fraction) → IsFraction A h → InRows A (suc e) (suc e) found h → TakesIntoItself A J h
  out h hh r =
      let s = subst (λ z. HasDigitsIn A z (suc e) found r.numerator) (corners_law A c r.corners ms r.known k) r.inside in
      let m = (members s.0 s.1.fits).0 s.2 in
      let bp = member A c.curve r.numerator r.poly in
      let near = (digit_law A c ms k (suc e)).close (value A ms (suc e) s.0) r.numerator s.0 (value_poly A c ms k (suc e) s.0) r.poly (row_digits A c ms k (suc e) s.0 s.1.fits) s.1 in
      let takes = All-weaker (Contains qs) (λ v. M (over (mul A.prime r.numerator v) (suc e + e)))
      (λ q j.
      let hq = All-contains (IsPoly A.prime A.variables) qs q polys j in
      let qp = member A c.curve q hq in
      let t = deep_taken A c ms k (suc e) space fit i qs polys exact q hq s.0 (All-contains (λ z. IsTaken A ms (suc e) space z s.0) qs q m.1 j) in
      let y = moved_deep A c ms k (suc e) space fit i qs polys exact qp (W s.0) bp (generators_in q j) near t in
      numerator_deep ((Q A c.curve).◌⊗◌ bp qp) (same_deep A c ms k (suc e) space fit i qs polys exact ((Q A c.curve).◌⊗◌ qp bp) ((Q A c.curve).◌⊗◌ bp qp) (mul_comm A.prime q r.numerator) y))
      qs (All-contains_itself qs) in
      let g : TakesGenerators A e qs h = record { numerator = r.numerator; poly = r.poly; equal = r.equal; takes = takes } in
      let tm = (law A c e qs polys power h hh).1 g in
      λ f hf j. from_module (product_of A h f) (tm f hf (to_module f j))

  pub enlarged : (h : Fraction) → IsFraction A h → InRows A (suc e) (suc e) found h ↔ TakesIntoItself A J h
  enlarged h hh = (out h hh, into h hh)

-- the rows found, at a depth that is the power and 1
pub result : GeneratorsDecideEndomorphisms → (A : CurveData) → IsFinite A → (ms : List Monomial) → AreCornersOf A ms → (e K : ℕ) → K ≡ suc e → (space found : Subspace) → All (FitsIn space) space.basis
    → IsIdealSpace A ms K space → (qs : List (List Term)) → ArePolys A qs
    → ((f : List Term) → IsPoly A.prime A.variables f → InIdeal A.prime A.variables qs f ↔ HasDigitsIn A ms K space f)
    → IsOfDigits A ms K found
    → ((row : List ℕ) → IsRow A.prime (length ms * K) row → IsIn found row ↔ IsIn space row × All (λ q. IsTaken A ms K space q row) qs)
    → IsIdealSpace A ms K found × ((h : Fraction) → IsFraction A h → InRows A K K found h ↔ TakesIntoItself A (InRows A e K space) h)
result law A c ms k e K is space found fit i qs polys exact o m = (
  ideal A c ms k K space fit i qs polys exact found o m,
  subst (λ n. IsIdealSpace A ms n space → ((f : List Term) → IsPoly A.prime A.variables f → InIdeal A.prime A.variables qs f ↔ HasDigitsIn A ms n space f)
      → ((row : List ℕ) → IsRow A.prime (length ms * n) row → IsIn found row ↔ IsIn space row × All (λ q. IsTaken A ms n space q row) qs)
      → (h : Fraction) → IsFraction A h → InRows A n n found h ↔ TakesIntoItself A (InRows A e n space) h)
      (sym is) (λ j x y. enlarged law A c ms k e space fit j qs polys x found y) i exact m,
)
