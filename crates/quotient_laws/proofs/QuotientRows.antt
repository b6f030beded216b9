-- A ring of fractions modulo its products with a point, by rows of digits.
use Rattle.std.proofs.Common.{◌≡◌, ◌↔◌, ℕ, zero, suc, ◌+◌, ◌-◌, ◌*◌, ◌%◌, ◌<◌, List, [], ◌∷◌, length, take, get_or, All, sym, ap, ◌∙◌, subst, arith, mod-eq_of_lt}
use Rattle.std.specs.List.{Contains}
use Rattle.std.proofs.Math.Nat.{mod-mod}
use Rattle.std.proofs.lemmas.List.Elements.{All-cons, All-from_get_or, All-head, All-tail, All-weaker, All-contains_itself}
use Rattle.comm_ring.specs.Ring.{CommRing}
use Rattle.comm_ring.specs.Rows.{rows}
use Rattle.comm_ring.specs.Modules.{InSpan, IsSubmodule, combine, combination}
use Rattle.comm_ring.proofs.Modules as Modules
use Rattle.comm_ring.proofs.Residues.{residues}
use Rattle.comm_ring.proofs.Rows.{row_module, equal_rows}
use Rattle.prime_field.proofs.Table.{positive_of_prime}
use Rattle.monomials.specs.Mono.{Monomial}
use Rattle.polys.specs.declared.term.Term.{Term}
use Rattle.polys.specs.Terms.{IsPoly, one, sub, multiple}
use Rattle.polys.specs.Ideal.{InIdeal, number_combination}
use Rattle.polys.specs.Curve.{CurveData, data_of}
use Rattle.polys.proofs.Affine.{poly_add, poly_multiple}
use Rattle.ideal_laws.proofs.Ideals.{in_larger, in_generator, in_more}
use Rattle.ideal_laws.proofs.Unique.{contains_tail}
use Rattle.row_space.specs.Subspace.{Subspace, IsIn, DifferIn}
use Rattle.curve_model.specs.Fraction.{Fraction, IsFraction, AreEqual, denominator_power, over, sum_of, product_of, multiple_of}
use Rattle.curve_model.specs.Laws.{IsFinite, ArePolys}
use Rattle.curve_model.specs.OneExponent.{InPower}
use Rattle.curve_model.specs.Rings.{IsProduct}
use Rattle.curve_model.specs.Enlarging.{difference_of}
use Rattle.curve_laws.proofs.Base.{high}
use Rattle.curve_laws.proofs.FitLaws.{fit_law}
use Rattle.curve_laws.proofs.StatedLaws.{sum_poly, product_poly, power_poly}
use Rattle.curve_laws.proofs.DeltaLaws.{multiple_poly}
use Rattle.chain_laws.proofs.ChainLaws.{one_poly}
use Rattle.chain_laws.proofs.OneExponent.{eq_refl, eq_trans, eq_sum, one_sum, one_next, one_equal_up}
use Rattle.digit_laws.specs.Digits.{AreCornersOf, AreDigits, IsOfDigits}
use Rattle.digit_laws.specs.Laws.{DigitsAreCoordinates, BlocksAreDepths}
use Rattle.digit_laws.proofs.DigitLaws.{digit_law, numbers_poly}
use Rattle.digit_laws.proofs.Blocks.{block_law}
use Rattle.digit_laws.proofs.Corners.{corners_law}
use Rattle.finite_algebra.specs.Elements.{FiniteAlgebra, IsElement}
use Rattle.over_laws.specs.Over.{OverData, InOver, InRows, HasRows}
use Rattle.quotient_laws.specs.Quotients.{fraction_of, DifferByProducts, HasQuotientProducts}
use Rattle.quotient_laws.specs.ProductRows.{SpanNumerators}
use Rattle.quotient_laws.specs.QuotientRows.{IsMemberRow, AreMemberRows, MemberRowsSpan, AreQuotientRows, QuotientRowsAreProducts}
use Rattle.quotient_laws.proofs.ProductRows.{none_digits}

module _ (o : OverData) (h : HasRows o) (ms : List Monomial) (corners : AreCornersOf (data_of o.curve) ms) where
  abbrev pub A : CurveData
  A = data_of o.curve

  abbrev pub p : ℕ
  p = o.curve.prime

  abbrev pub k : ℕ
  k = o.power

  abbrev pub W : ℕ
  W = length ms * suc o.power

  abbrev pub Good : List Term → Type 0
  Good f = IsPoly o.curve.prime o.curve.variables f

  pub c : IsFinite (data_of o.curve)
  c = fit_law o.curve h.prime h.fit

  pos : 0 < o.curve.prime
  pos = positive_of_prime o.curve.prime h.prime

  abbrev Scalars : CommRing
  Scalars = residues o.curve.prime pos

  abbrev RM : Modules.Module Scalars
  RM = row_module o.curve.prime pos W

  abbrev V : Modules.Module Scalars
  V = RM

  laws : DigitsAreCoordinates (data_of o.curve) ms (suc o.power)
  laws = digit_law A c ms corners (suc k)

  blocks : BlocksAreDepths (data_of o.curve) ms
  blocks = block_law A c ms corners

  -- the digits at the depth k
  first : (f : List Term) (row : List ℕ) → Good f → AreDigits A ms (suc k) f row → AreDigits A ms k f (take (length ms * k) row)
  first f row hf a = blocks.truncated k 1 f row hf (let e : suc k ≡ k + 1 = omega arith in subst (λ t. AreDigits A ms t f row) e a)

  -- a polynomial with such a row is a numerator of the module
  pub member_over : (v : List Term) (row : List ℕ) → Good v → AreDigits A ms (suc k) v row → IsMemberRow o ms row → InOver o (over v k)
  member_over v row hv a m = record {
    corners = ms;
    known = corners;
    numerator = v;
    poly = hv;
    inside = (take (length ms * k) row, first v row hv a, m.inside);
    equal = eq_refl A c (over v k) hv;
  }

  -- a fraction of the module with its row
  pub record HasMemberRow (f : Fraction) : Type 0 where
    pub numerator : List Term
    pub row : List ℕ
    pub poly : IsPoly o.curve.prime o.curve.variables numerator
    pub equal : AreEqual (data_of o.curve) f (over numerator o.power)
    pub digits : AreDigits (data_of o.curve) ms (suc o.power) numerator row
    pub member : IsMemberRow o ms row

  pub row_of : (f : Fraction) → InOver o f → HasMemberRow f
  row_of f x =
      let t = laws.exist x.numerator x.poly in
      let a : AreDigits A ms k x.numerator x.inside.0 = subst (λ z. AreDigits A z k x.numerator x.inside.0) (corners_law A c x.corners ms x.known corners) x.inside.1 in
      let e : x.inside.0 ≡ take (length ms * k) t.0 = (digit_law A c ms corners k).unique x.numerator x.inside.0 (take (length ms * k) t.0) x.poly a (first x.numerator t.0 x.poly t.1) in
      record { numerator = x.numerator; row = t.0; poly = x.poly; equal = x.equal; digits = t.1; member = record { fits = t.1.fits; inside = subst (IsIn o.rows) e x.inside.2 } }

  -- the row of a numerator of the module
  pub member_of_digits : (b : List Term) (row : List ℕ) → IsPoly o.curve.prime o.curve.variables b → AreDigits (data_of o.curve) ms (suc o.power) b row → InOver o (over b o.power) → IsMemberRow o ms row
  member_of_digits b row hb a i =
      let m = row_of (over b k) i in
      let near : InIdeal p o.curve.variables A.ideal (sub p b m.numerator) = one_equal_up A c k b m.numerator hb m.poly m.equal in
      subst (IsMemberRow o ms) (laws.unique m.numerator m.row row m.poly m.digits
      (laws.same b m.numerator row hb m.poly (in_more p o.curve.variables (denominator_power A (suc k)) A.ideal (sub p b m.numerator) near) a)) m.member

  -- the digits of a sum of multiples by residues
  combined : (vs : List (List Term)) (list : List (List ℕ)) → ArePolys A vs → length list ≡ length vs
      → ((i : ℕ) → i < length vs → AreDigits A ms (suc k) (get_or vs i []) (get_or list i [])) → (cs : List ℕ)
      → AreDigits A ms (suc k) (number_combination p cs vs) (combination (rows p W) cs list)
  unfolding combine
  combined vs list hv l a [] = none_digits A c ms corners (suc k)
  combined [] [] hv l a (e ∷ cs) = none_digits A c ms corners (suc k)
  combined [] (r ∷ list) hv l a (e ∷ cs) = absurd (omega arith)
  combined (v ∷ vs) [] hv l a (e ∷ cs) = absurd (omega arith)
  combined (v ∷ vs) (r ∷ list) hv l a (e ∷ cs) =
      let hh = All-head Good v vs hv in
      let ht = All-tail Good v vs hv in
      laws.sum (multiple p e v) (number_combination p cs vs) ((rows p W).◌·◌ e r) (combination (rows p W) cs list) (poly_multiple p o.curve.variables e v pos hh) (numbers_poly A c ms corners cs vs ht)
      (laws.multiple e v r hh (a 0 (omega arith)))
      (combined vs list ht (let n : length (r ∷ list) ≡ length (v ∷ vs) = l in omega arith) (λ i m. a (suc i) (omega arith)) cs)

  spans : (vs : List (List Term)) (list : List (List ℕ)) → AreMemberRows o ms vs list → SpanNumerators A k (InOver o) vs
  spans vs list w = record {
    polys = w.polys;
    members = All-from_get_or (λ v. InOver o (over v k)) vs [] (λ i m.
        member_over (get_or vs i []) (get_or list i []) (w.polys i [] m) (w.digits i m) (w.members i [] (let n = w.count in omega arith)));
    spans = λ f hf b. spanned f (row_of f b);
  }
    where
      spanned : (f : Fraction) → HasMemberRow f → (b : List Term) × IsPoly p o.curve.variables b × AreEqual A f (over b k)
          × ((cs : List ℕ) × length cs ≡ length vs × InPower A (suc k) (sub p b (number_combination p cs vs)))
      spanned f x =
          let s = w.spans x.row x.member in
          let d = combined vs list w.polys w.count w.digits s.0 in
          let same : x.row ≡ combination (rows p W) s.0 list = equal_rows p W x.row (combination (rows p W) s.0 list) x.digits.fits.0 d.fits.0 x.digits.fits.1 d.fits.1 s.2 in (
            x.numerator,
            x.poly,
            x.equal,
            (
              s.0,
              s.1 ∙ w.count,
              laws.close x.numerator (number_combination p s.0 vs) x.row x.poly (numbers_poly A c ms corners s.0 vs w.polys) x.digits (subst (AreDigits A ms (suc k) (number_combination p s.0 vs)) (sym same) d),
            ),
          )

  -- 1 is d^k over d^k
  pub one_over : (n : ℕ) → AreEqual A (over one 0) (over (denominator_power A n) n)
  one_over zero = eq_refl A c (over one 0) (one_poly A c)
  one_over (suc n) = eq_trans A c (over one 0) (over (denominator_power A n) n) (over (denominator_power A (suc n)) (suc n)) (one_poly A c) (power_poly A c n) (power_poly A c (suc n)) (one_over n)
      (one_next A c n (denominator_power A n) (power_poly A c n))

  module _ (P : List (List Term)) (basis : List (List ℕ))
      (exact : (f : Fraction) → IsFraction A f → InRows A k (suc k) (record { prime = o.curve.prime; width = length ms * suc o.power; basis = basis }) f ↔ IsProduct A P (InOver o) f)
      (a : FiniteAlgebra) (us : List (List Term)) (list : List (List ℕ)) (w : AreQuotientRows o ms (record { prime = o.curve.prime; width = length ms * suc o.power; basis = basis }) a us list) where
    abbrev space : Subspace
    space = record { prime = o.curve.prime; width = length ms * suc o.power; basis = basis }

    span : IsSubmodule (rows p W) (InSpan (rows p W) basis)
    span = Modules.span_submodule Scalars RM basis

    -- the opposite of a row is p - 1 times it
    opposite_row : (x : List ℕ) → V.◌≋◌ (V.opposite x) (V.◌·◌ (p - 1) x)
    opposite_row x = V.symm {x = V.◌·◌ (p - 1) x} {y = V.opposite x} (V.trans {x = V.◌·◌ (p - 1) x} {y = V.◌·◌ (Scalars.neg 1) x} {z = V.opposite x}
        (V.scale_cong {c = p - 1} {c' = Scalars.neg 1} {x = x} {x' = x} one_less (V.rfl x)) (Modules.opposite_is Scalars RM x))
      where
        one_less : (p - 1) % p ≡ ((p - 1 % p) % p) % p
        one_less = sym (ap (λ z. ((p - z) % p) % p) (mod-eq_of_lt (high A c.curve)) ∙ mod-mod (p - 1) p)

    abbrev sum : List ℕ → List ℕ
    sum x = combination (rows p W) x list

    abbrev numerator : List ℕ → List Term
    numerator x = number_combination p x us

    digits : (x : List ℕ) → AreDigits A ms (suc k) (numerator x) (sum x)
    digits x = combined us list w.polys w.long w.digits x

    good : (x : List ℕ) → Good (numerator x)
    good x = numbers_poly A c ms corners x us w.polys

    -- rows that differ by the space stand for fractions that differ by products
    pub differ : (f : Fraction) → IsFraction A f → (b : List Term) → Good b → AreEqual A f (over b k) → (row : List ℕ) → AreDigits A ms (suc k) b row
        → (x : List ℕ) → DifferIn space row (sum x) → DifferByProducts A P (InOver o) f (fraction_of A k us x)
    differ f hf b hb e row r x z =
        let g = numerator x in
        let hg = good x in
        let n = multiple p (p - 1) g in
        let hn = poly_multiple p o.curve.variables (p - 1) g pos hg in
        let t = sub p b g in
        let ht = poly_add p o.curve.variables b n pos hb hn in
        let q = fraction_of A k us x in
        let left = multiple_of A (p - 1) q in
        let hl = multiple_poly A c (p - 1) q hg in
        (exact (difference_of A f q) (sum_poly A c f left hf hl)).0 (record {
          corners = ms;
          known = corners;
          numerator = t;
          poly = ht;
          inside = (
            V.◌⊞◌ row (V.◌·◌ (p - 1) (sum x)),
            laws.sum b n row (V.◌·◌ (p - 1) (sum x)) hb hn r (laws.multiple (p - 1) g (sum x) hg (digits x)),
            span.resp (V.◌⊞◌ row (V.opposite (sum x))) (V.◌⊞◌ row (V.◌·◌ (p - 1) (sum x)))
                (V.add_cong {x = row} {x' = row} {y = V.opposite (sum x)} {y' = V.◌·◌ (p - 1) (sum x)} (V.rfl row) (opposite_row (sum x))) z,
          );
          equal = eq_trans A c (difference_of A f q) (sum_of A (over b k) (over n k)) (over t k) (sum_poly A c f left hf hl) (sum_poly A c (over b k) (over n k) hb hn) ht
              (eq_sum A c f left (over b k) (over n k) hf hl hb hn e (eq_refl A c (over n k) hn))
              (one_sum A c k b n hb hn);
        })

    zero_in : (x : List ℕ) → IsElement a x → IsProduct A P (InOver o) (fraction_of A k us x) → All (λ e. e ≡ 0) x
    zero_in x hx z =
        let g = numerator x in
        let y = (exact (fraction_of A k us x) (good x)).1 z in
        let b = y.numerator in
        let r : AreDigits A ms (suc k) b y.inside.0 = subst (λ z. AreDigits A z (suc k) b y.inside.0) (corners_law A c y.corners ms y.known corners) y.inside.1 in
        let G = denominator_power A (suc k) ∷ A.ideal in
        let gens : ArePolys A G = All-cons Good (denominator_power A (suc k)) A.ideal (power_poly A c (suc k)) c.curve.ideal in
        let near : InPower A (suc k) (sub p g b) = in_larger p o.curve.variables A.ideal G (sub p g b) pos
        (All-weaker (Contains A.ideal) (InIdeal p o.curve.variables G) (λ i ci. in_generator p o.curve.variables G i (high A c.curve) gens (contains_tail (denominator_power A (suc k)) i A.ideal ci)) A.ideal (All-contains_itself A.ideal))
        (one_equal_up A c k g b (good x) y.poly y.equal) in
        let same : y.inside.0 ≡ sum x = laws.unique b y.inside.0 (sum x) y.poly r (laws.same g b (sum x) (good x) y.poly near (digits x)) in
        w.zero x hx (subst (IsIn space) same y.inside.2)

    products : HasQuotientProducts A P k (InOver o) a us
    products = record {
      prime = w.prime;
      count = w.count;
      squares = w.squares;
      rows = w.coordinates;
      unit = w.unit;
      polys = w.polys;
      members = All-from_get_or (λ v. InOver o (over v k)) us [] (λ i m.
          member_over (get_or us i []) (get_or list i []) (w.polys i [] m) (w.digits i m) (w.members i [] (let n = w.long in omega arith)));
      onto = λ f hf b. onto f hf (row_of f b);
      zero = zero_in;
      one = let t = laws.exist (denominator_power A k) (power_poly A c k) in
          differ (over one 0) (one_poly A c) (denominator_power A k) (power_poly A c k) (one_over k) t.0 t.1 a.one (w.one t.0 t.1);
      products = λ i j li lj. let t = w.products i j li lj in
          differ (product_of A (over (get_or us i []) k) (over (get_or us j []) k)) (product_poly A c (over (get_or us i []) k) (over (get_or us j []) k) (w.polys i [] (let n = w.count in omega arith)) (w.polys j [] (let n = w.count in omega arith))) t.0 t.2 t.3 t.1 t.4 (get_or a.products (i * a.dimension + j) []) t.5;
    }
      where
        onto : (f : Fraction) → IsFraction A f → HasMemberRow f → (x : List ℕ) × IsElement a x × DifferByProducts A P (InOver o) f (fraction_of A k us x)
        onto f hf m = let t = w.onto m.row m.member in (t.0, t.1, differ f hf m.numerator m.poly m.equal m.row m.digits t.0 t.2)

pub member_law : MemberRowsSpan
member_law o h ms corners vs list w = spans o h ms corners vs list w

-- a space of rows of digits by its basis
plain_space : (A : CurveData) (ms : List Monomial) (T : ℕ) (space : Subspace) → IsOfDigits A ms T space → space ≡ record { prime = A.prime; width = length ms * T; basis = space.basis }
plain_space A ms T space d = ap (λ p. record { prime = p; width = space.width; basis = space.basis }) d.prime ∙ ap (λ n. record { prime = A.prime; width = n; basis = space.basis }) d.width

module _ (o : OverData) (h : HasRows o) (ms : List Monomial) (corners : AreCornersOf (data_of o.curve) ms) (P : List (List Term)) (space : Subspace)
    (d : IsOfDigits (data_of o.curve) ms (suc o.power) space)
    (exact : (f : Fraction) → IsFraction (data_of o.curve) f → InRows (data_of o.curve) o.power (suc o.power) space f ↔ IsProduct (data_of o.curve) P (InOver o) f)
    (a : FiniteAlgebra) (us : List (List Term)) (list : List (List ℕ)) (w : AreQuotientRows o ms space a us list) where
  same_space : space ≡ record { prime = o.curve.prime; width = length ms * suc o.power; basis = space.basis }
  same_space = plain_space (data_of o.curve) ms (suc o.power) space d

  exact_there : (f : Fraction) → IsFraction (data_of o.curve) f
      → InRows (data_of o.curve) o.power (suc o.power) (record { prime = o.curve.prime; width = length ms * suc o.power; basis = space.basis }) f ↔ IsProduct (data_of o.curve) P (InOver o) f
  exact_there = subst (λ z. (f : Fraction) → IsFraction (data_of o.curve) f → InRows (data_of o.curve) o.power (suc o.power) z f ↔ IsProduct (data_of o.curve) P (InOver o) f) same_space exact

  rows_there : AreQuotientRows o ms (record { prime = o.curve.prime; width = length ms * suc o.power; basis = space.basis }) a us list
  rows_there = subst (λ z. AreQuotientRows o ms z a us list) same_space w

  -- rows that differ by the space stand for fractions that differ by products
  pub rows_differ : (f : Fraction) → IsFraction (data_of o.curve) f → (b : List Term) → IsPoly o.curve.prime o.curve.variables b → AreEqual (data_of o.curve) f (over b o.power)
      → (row : List ℕ) → AreDigits (data_of o.curve) ms (suc o.power) b row → (x : List ℕ) → DifferIn space row (combination (rows o.curve.prime (length ms * suc o.power)) x list)
      → DifferByProducts (data_of o.curve) P (InOver o) f (fraction_of (data_of o.curve) o.power us x)
  rows_differ f hf b hb e row r x z = differ o h ms corners P space.basis exact_there a us list rows_there f hf b hb e row r x
      (subst (λ s. DifferIn s row (combination (rows o.curve.prime (length ms * suc o.power)) x list)) same_space z)

  pub quotient_products : HasQuotientProducts (data_of o.curve) P o.power (InOver o) a us
  quotient_products = products o h ms corners P space.basis exact_there a us list rows_there

pub quotient_rows_law : QuotientRowsAreProducts
quotient_rows_law o h ms corners P space d exact a us list w = quotient_products o h ms corners P space d exact a us list w
