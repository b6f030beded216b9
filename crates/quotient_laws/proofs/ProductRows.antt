-- The products of a ring of fractions and a point, by rows of digits.
use Rattle.std.proofs.Common.{◌≡◌, ◌↔◌, ℕ, suc, ◌+◌, ◌*◌, ◌<◌, List, [], ◌∷◌, length, All, refl, sym, ap, ◌∙◌, subst, arith}
use Rattle.std.specs.List.{Contains}
use Rattle.std.proofs.lemmas.List.Elements.{All-cons, All-head, All-tail, All-contains, All-weaker, All-contains_itself}
use Rattle.comm_ring.specs.Ring.{CommRing}
use Rattle.comm_ring.specs.Rows.{rows}
use Rattle.comm_ring.specs.Modules.{InSpan, IsSubmodule, combine, combination}
use Rattle.comm_ring.proofs.Modules as Modules
use Rattle.comm_ring.proofs.Residues.{residues}
use Rattle.comm_ring.proofs.Rows.{row_module, equal_rows}
use Rattle.prime_field.proofs.Table.{positive_of_prime}
use Rattle.monomials.specs.Mono.{Monomial}
use Rattle.polys.specs.declared.term.Term.{Term}
use Rattle.polys.specs.Terms.{IsPoly, add, sub, mul, multiple}
use Rattle.polys.specs.Ideal.{number_combination}
use Rattle.polys.specs.Curve.{CurveData}
use Rattle.polys.proofs.Affine.{poly_none, poly_add, poly_mul, poly_multiple, positive}
use Rattle.polys.proofs.Sums.{mul_comm, mul-add, mul_none}
use Rattle.ideal_laws.proofs.Multiples.{multiple-mul}
use Rattle.row_space.specs.Echelon.{IsRow}
use Rattle.row_space.specs.Subspace.{Subspace}
use Rattle.curve_model.specs.Fraction.{Fraction, IsFraction, AreEqual, InA, denominator_power, over, sum_of, product_of}
use Rattle.curve_model.specs.Closure.{InModule}
use Rattle.curve_model.specs.Laws.{IsFinite, ArePolys}
use Rattle.curve_model.specs.OneExponent.{InPower}
use Rattle.curve_model.specs.Rings.{IsFractionRing, IsProduct, no_product, one_more}
use Rattle.ideal_laws.proofs.Differences.{from_sub}
use Rattle.ideal_laws.proofs.Ideals.{in_none, in_sub, in_mul, in_poly}
use Rattle.polys.proofs.Units.{canonical_same}
use Rattle.curve_laws.proofs.Base.{high}
use Rattle.curve_laws.proofs.StatedLaws.{sum_poly, product_poly, power_poly}
use Rattle.chain_laws.proofs.OneExponent.{eq_refl, eq_sym, eq_trans, eq_sum, eq_product, one_sum}
use Rattle.digit_laws.proofs.Corners.{corners_law}
use Rattle.digit_laws.specs.Digits.{AreCornersOf, AreDigits, HasDigitsIn}
use Rattle.digit_laws.specs.Laws.{DigitsAreCoordinates}
use Rattle.digit_laws.proofs.DigitLaws.{digit_law, numbers_poly}
use Rattle.over_laws.specs.Over.{InRows}
use Rattle.finite_algebra.proofs.Products.{row_fits}
use Rattle.quotient_laws.specs.ProductRows.{HoldsCurve, SpanNumerators, IsProductRow, IsProductSpace, ProductsByRows}
use Rattle.quotient_laws.proofs.Products as Products

module _ (A : CurveData) (c : IsFinite A) (ms : List Monomial) (corners : AreCornersOf A ms) (T : ℕ) where
  pos : 0 < A.prime
  pos = positive_of_prime A.prime c.curve.prime

  abbrev Good : List Term → Type 0
  Good f = IsPoly A.prime A.variables f

  abbrev W : ℕ
  W = length ms * T

  abbrev Scalars : CommRing
  Scalars = residues A.prime (positive_of_prime A.prime c.curve.prime)

  abbrev RM : Modules.Module Scalars
  RM = row_module A.prime (positive_of_prime A.prime c.curve.prime) W

  laws : DigitsAreCoordinates A ms T
  laws = digit_law A c ms corners T

  pub none_digits : AreDigits A ms T [] (rows A.prime W).origin
  none_digits =
      let r = laws.exist [] (poly_none A.prime A.variables) in
      let z = laws.multiple 0 [] r.0 (poly_none A.prime A.variables) r.1 in
      let o : List ℕ = (rows A.prime W).origin in
      let fits : IsRow A.prime W o = row_fits A.prime W (λ _. 0) (λ t h. pos) in
      subst (AreDigits A ms T []) (equal_rows A.prime W ((rows A.prime W).◌·◌ 0 r.0) o z.fits.0 fits.0 z.fits.1 fits.1 (Modules.zero_scale Scalars RM r.0)) z

  module _ (basis : List (List ℕ)) where
    abbrev space : Subspace
    space = record { prime = A.prime; width = length ms * T; basis = basis }

    abbrev pub Has : List Term → Type 0
    Has f = HasDigitsIn A ms T (record { prime = A.prime; width = length ms * T; basis = basis }) f

    span : IsSubmodule (rows A.prime W) (InSpan (rows A.prime W) basis)
    span = Modules.span_submodule Scalars RM basis

    pub same_has : (f g : List Term) → Good f → Good g → InPower A T (sub A.prime f g) → Has f → Has g
    same_has f g hf hg e h = (h.0, laws.same f g h.0 hf hg e h.1, h.2)

    pub sum_has : (f g : List Term) → Good f → Good g → Has f → Has g → Has (add A.prime f g)
    sum_has f g hf hg h j = ((rows A.prime W).◌⊞◌ h.0 j.0, laws.sum f g h.0 j.0 hf hg h.1 j.1, span.add h.0 j.0 h.2 j.2)

    pub multiple_has : (e : ℕ) (f : List Term) → Good f → Has f → Has (multiple A.prime e f)
    multiple_has e f hf h = ((rows A.prime W).◌·◌ e h.0, laws.multiple e f h.0 hf h.1, span.scale e h.0 h.2)

    pub none_has : Has []
    none_has =
        let r = laws.exist [] (poly_none A.prime A.variables) in (
          (rows A.prime W).◌·◌ 0 r.0,
          laws.multiple 0 [] r.0 (poly_none A.prime A.variables) r.1,
          span.resp (rows A.prime W).origin ((rows A.prime W).◌·◌ 0 r.0) (RM.symm {x = (rows A.prime W).◌·◌ 0 r.0} {y = (rows A.prime W).origin} (Modules.zero_scale Scalars RM r.0)) span.none,
        )

    pub in_power_has : (f : List Term) → Good f → InPower A T f → Has f
    in_power_has f hf h = same_has [] f (poly_none A.prime A.variables) hf
        (in_sub A.prime A.variables (denominator_power A T ∷ A.ideal) [] f pos hf (in_none A.prime A.variables (denominator_power A T ∷ A.ideal)) h) none_has

    -- a polynomial times a sum of multiples
    pub times_has : (q : List Term) → Good q → (us : List (List Term)) → ArePolys A us → All (λ u. Has (mul A.prime q u)) us → (cs : List ℕ) → Has (mul A.prime q (number_combination A.prime cs us))
    times_has q hq us h x [] = subst Has (sym (mul_none A.prime q)) none_has
    times_has q hq [] h x (e ∷ cs) = subst Has (sym (mul_none A.prime q)) none_has
    times_has q hq (u ∷ us) h x (e ∷ cs) =
        let p = A.prime in
        let hu = All-head Good u us h in
        let hs = All-tail Good u us h in
        let rest = number_combination p cs us in
        let hr = numbers_poly A c ms corners cs us hs in
        let qu = poly_mul p A.variables q u pos hq hu in
        let out : mul p q (multiple p e u) ≡ multiple p e (mul p q u) = mul_comm p q (multiple p e u) ∙ multiple-mul p e u q ∙ ap (multiple p e) (mul_comm p u q) in
        subst Has (sym (mul-add p q (multiple p e u) rest ∙ ap (λ z. add p z (mul p q rest)) out))
        (sum_has (multiple p e (mul p q u)) (mul p q rest) (poly_multiple p A.variables e (mul p q u) pos qu) (poly_mul p A.variables q rest pos hq hr)
        (multiple_has e (mul p q u) qu (All-head (λ u. Has (mul p q u)) u us x)) (times_has q hq us hs (All-tail (λ u. Has (mul p q u)) u us x) cs))

module _ (A : CurveData) (c : IsFinite A) (ms : List Monomial) (corners : AreCornersOf A ms) (P : List (List Term)) (h : HoldsCurve A P)
    (K : ℕ) (L : List (List Term)) (l : ArePolys A L) (r : IsFractionRing A (InModule A K L)) (holds : (f : Fraction) → IsFraction A f → InA A f → InModule A K L f)
    (k : ℕ) (vs : List (List Term)) (s : SpanNumerators A k (InModule A K L) vs) where
  abbrev B : Fraction → Type 0
  B = InModule A K L

  abbrev good : List Term → Type 0
  good f = IsPoly A.prime A.variables f

  abbrev T : ℕ
  T = suc k

  abbrev V : ℕ
  V = length ms * suc k

  positive_prime : 0 < A.prime
  positive_prime = positive A.prime (high A c.curve)

  abbrev Num : List Term → Type 0
  Num b = IsProduct A P B (over b k)

  factor_good : (q : List Term) → Contains P q → good q
  factor_good q cq = All-contains good P q h.polys cq

  numerator_good : (v : List Term) → Contains vs v → good v
  numerator_good v cv = All-contains good vs v s.polys cv

  -- a sum of multiples of the rows of products has the digits of a numerator of a sum of products
  summed : (list : List (List ℕ)) → All (IsProductRow A ms (suc k) P vs) list → (cs : List ℕ)
      → (f : List Term) × good f × Num f × AreDigits A ms (suc k) f (combination (rows A.prime V) cs list)
  unfolding combine
  summed list w [] = ([], poly_none A.prime A.variables, Products.none_in A c P h.polys K L l r holds k, none_digits A c ms corners (suc k))
  summed [] w (e ∷ cs) = ([], poly_none A.prime A.variables, Products.none_in A c P h.polys K L l r holds k, none_digits A c ms corners (suc k))
  summed (row ∷ list) w (e ∷ cs) =
      let p = A.prime in
      let x = All-head (IsProductRow A ms (suc k) P vs) row list w in
      let y = summed list (All-tail (IsProductRow A ms (suc k) P vs) row list w) cs in
      let f = mul p x.factor x.numerator in
      let hv = numerator_good x.numerator x.numerator_in in
      let hf = poly_mul p A.variables x.factor x.numerator positive_prime (factor_good x.factor x.factor_in) hv in
      let he = poly_multiple p A.variables e f positive_prime hf in
      let nf = Products.product_in A c P h.polys K L l r holds k x.factor x.numerator x.factor_in hv (All-contains (λ v. B (over v k)) vs x.numerator s.members x.numerator_in) in
      let d = digit_law A c ms corners (suc k) in (
        add p (multiple p e f) y.0,
        poly_add p A.variables (multiple p e f) y.0 positive_prime he y.1,
        Products.sum_in A c P h.polys K L l r holds k (multiple p e f) y.0 he y.1 (Products.multiple_in A c P h.polys K L l r holds k e f hf nf) y.2,
        d.sum (multiple p e f) y.0 ((rows p V).◌·◌ e row) (combination (rows p V) cs list) he y.1 (d.multiple e f row hf x.digits) y.3,
      )

  module _ (basis : List (List ℕ)) (w : IsProductSpace A ms (suc k) P vs (record { prime = A.prime; width = length ms * suc k; basis = basis })) where
    abbrev products : Subspace
    products = record { prime = A.prime; width = length ms * suc k; basis = basis }

    restored : (b g : List Term) → good b → good g → add A.prime g (sub A.prime b g) ≡ b
    restored b g hb hg = sym (from_sub A.prime b g (sub A.prime b g) positive_prime refl) ∙ canonical_same A.prime b hb.canonical

    into : (f : Fraction) → IsFraction A f → InRows A k (suc k) products f → IsProduct A P B f
    into f hf x =
        let p = A.prime in
        let b = x.numerator in
        let row = x.inside.0 in
        let digits : AreDigits A ms (suc k) b row = subst (λ z. AreDigits A z (suc k) b row) (corners_law A c x.corners ms x.known corners) x.inside.1 in
        let y = w.basis row x.inside.2 in
        let cs = y.2.0 in
        let z = summed y.0 y.1 cs in
        let g = z.0 in
        let sum = combination (rows p V) cs y.0 in
        let same : row ≡ sum = equal_rows p V row sum digits.fits.0 z.3.fits.0 digits.fits.1 z.3.fits.1 y.2.2 in
        let d = digit_law A c ms corners (suc k) in
        let near : InPower A (suc k) (sub p b g) = d.close b g sum x.poly z.1 (subst (AreDigits A ms (suc k) b) same digits) z.3 in
        let rest = sub p b g in
        let good_rest : good rest = in_poly p A.variables (denominator_power A (suc k) ∷ A.ideal) rest positive_prime (All-cons good (denominator_power A (suc k)) A.ideal (power_poly A c (suc k)) c.curve.ideal) near in
        let n : Num b = subst Num (restored b g x.poly z.1) (Products.sum_in A c P h.polys K L l r holds k g rest z.1 good_rest z.2 (Products.power_in A c P h.polys K L l r holds h k rest near)) in
        Products.respects A c P h.polys K L l r holds (over b k) f x.poly hf (eq_sym A c f (over b k) hf x.poly x.equal) n

    Inside : List Term → Type 0
    Inside b = Has A c ms corners (suc k) basis b

    -- the digits of a product of a member of P and a numerator of B
    product_has : (q b : List Term) → Contains P q → good b → (cs : List ℕ) → length cs ≡ length vs → InPower A (suc k) (sub A.prime b (number_combination A.prime cs vs)) → Has A c ms corners (suc k) basis (mul A.prime q b)
    product_has q b cq hb cs e near =
        let p = A.prime in
        let hq = factor_good q cq in
        let g = number_combination p cs vs in
        let hg = numbers_poly A c ms corners cs vs s.polys in
        let G = denominator_power A (suc k) ∷ A.ideal in
        let rest = sub p b g in
        let good_rest : good rest = in_poly p A.variables G rest positive_prime (All-cons good (denominator_power A (suc k)) A.ideal (power_poly A c (suc k)) c.curve.ideal) near in
        let qr = poly_mul p A.variables q rest positive_prime hq good_rest in
        let each : All (λ v. Has A c ms corners (suc k) basis (mul p q v)) vs = All-weaker (Contains vs) (λ v. Has A c ms corners (suc k) basis (mul p q v)) (λ v cv. w.holds q v cq cv) vs (All-contains_itself vs) in
        subst (Has A c ms corners (suc k) basis) (sym (mul-add p q g rest) ∙ ap (mul p q) (restored b g hb hg))
        (sum_has A c ms corners (suc k) basis (mul p q g) (mul p q rest) (poly_mul p A.variables q g positive_prime hq hg) qr
        (times_has A c ms corners (suc k) basis q hq vs s.polys each cs)
        (in_power_has A c ms corners (suc k) basis (mul p q rest) qr (in_mul p A.variables G q rest positive_prime hq near)))

    out : (f : Fraction) → IsFraction A f → IsProduct A P B f → InRows A k (suc k) products f
    out _ hf (no_product f h' e) = record {
      corners = ms;
      known = corners;
      numerator = [];
      poly = poly_none A.prime A.variables;
      inside = none_has A c ms corners (suc k) basis;
      equal = eq_trans A c f (over [] 0) (over [] k) hf (poly_none A.prime A.variables) (poly_none A.prime A.variables) e (in_none A.prime A.variables A.ideal);
    }
    out _ hf (one_more f b y q h' hb hy cq bb t e) =
        let p = A.prime in
        let x = s.spans b hb bb in
        let v = x.0 in
        let hq = factor_good q cq in
        let z = out y hy t in
        let m = mul p q v in
        let hm = poly_mul p A.variables q v positive_prime hq x.1 in
        let i = product_has q v cq x.1 x.3.0 x.3.1 x.3.2 in
        let j : Has A c ms corners (suc k) basis z.numerator = subst (λ c'. HasDigitsIn A c' (suc k) products z.numerator) (corners_law A c z.corners ms z.known corners) z.inside in
        record {
          corners = ms;
          known = corners;
          numerator = add p m z.numerator;
          poly = poly_add p A.variables m z.numerator positive_prime hm z.poly;
          inside = sum_has A c ms corners (suc k) basis m z.numerator hm z.poly i j;
          equal =
              let left = product_of A (over q 0) b in
              let hl = product_poly A c (over q 0) b hq hb in
              let part : AreEqual A left (over m k) = let n : 0 + k ≡ k = omega arith in
              subst (λ n. AreEqual A left (over m n)) n (eq_product A c (over q 0) b (over q 0) (over v k) hq hb hq x.1 (eq_refl A c (over q 0) hq) x.2) in
              eq_trans A c f (sum_of A left y) (over (add p m z.numerator) k) hf (sum_poly A c left y hl hy) (poly_add p A.variables m z.numerator positive_prime hm z.poly) e
              (eq_trans A c (sum_of A left y) (sum_of A (over m k) (over z.numerator k)) (over (add p m z.numerator) k) (sum_poly A c left y hl hy) (sum_poly A c (over m k) (over z.numerator k) hm z.poly)
              (poly_add p A.variables m z.numerator positive_prime hm z.poly)
              (eq_sum A c left y (over m k) (over z.numerator k) hl hy hm z.poly part z.equal)
              (one_sum A c k m z.numerator hm z.poly));
        }

pub products_law : ProductsByRows
products_law A c ms corners P h K L l r holds k vs s space w f hf =
    subst (λ z. InRows A k (suc k) z f ↔ IsProduct A P (InModule A K L) f) (sym same)
    (into A c ms corners P h K L l r holds k vs s space.basis w' f hf, out A c ms corners P h K L l r holds k vs s space.basis w' f hf)
  where
    made : ℕ → ℕ → Subspace
    made p n = record { prime = p; width = n; basis = space.basis }

    same : space ≡ record { prime = A.prime; width = length ms * suc k; basis = space.basis }
    same = ap (λ p. record { prime = p; width = space.width; basis = space.basis }) w.of_digits.prime ∙ ap (λ n. record { prime = A.prime; width = n; basis = space.basis }) w.of_digits.width

    w' : IsProductSpace A ms (suc k) P vs (record { prime = A.prime; width = length ms * suc k; basis = space.basis })
    w' = subst (IsProductSpace A ms (suc k) P vs) same w
