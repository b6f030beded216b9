-- Fractions by rows at two depths.
use Rattle.std.proofs.Common.{◌≡◌, ◌↔◌, ℕ, zero, suc, ◌+◌, ◌-◌, ◌*◌, ◌<◌, List, [], ◌∷◌, ◌++◌, length, replicate, All, refl, sym, ap, ◌∙◌, subst, arith}
use Rattle.std.proofs.lemmas.List.{length-append, length-replicate, append_assoc, replicate-append-replicate}
use Rattle.std.proofs.lemmas.List.Elements.{All-tail}
use Rattle.comm_ring.specs.Ring.{CommRing}
use Rattle.comm_ring.proofs.Quote.{ring, quote}
use Rattle.monomials.specs.Mono.{Monomial, variable}
use Rattle.polys.specs.declared.term.Term.{Term}
use Rattle.polys.specs.Terms.{IsPoly, normal, add, sub, mul, multiple}
use Rattle.polys.specs.Ideal.{InIdeal}
use Rattle.polys.specs.Curve.{CurveData}
use Rattle.polys.proofs.Affine.{poly_add, poly_mul, poly_sub, positive}
use Rattle.polys.proofs.Sums.{add_normal_left, mul_normal_right}
use Rattle.ideal_laws.proofs.Differences.{from_sub}
use Rattle.ideal_laws.proofs.Ideals.{in_more, in_poly}
use Rattle.curve_model.specs.Fraction.{Fraction, IsFraction, AreEqual, denominator_power, over, product_of}
use Rattle.curve_model.specs.Laws.{IsFinite}
use Rattle.curve_model.specs.OneExponent.{InPower, AreAsNumerators}
use Rattle.curve_laws.proofs.Base.{high, Ring, d, member}
use Rattle.chain_laws.proofs.OneExponent.{eq_refl, eq_sym, eq_trans, eq_product, one_exponent_law}
use Rattle.standard_monomials.specs.Standard.{polynomial_of}
use Rattle.standard_monomials.proofs.Powers.{affine_power}
use Rattle.row_space.specs.Echelon.{IsRow}
use Rattle.row_space.specs.Subspace.{Subspace, FitsIn, IsIn}
use Rattle.digit_laws.specs.Digits.{AreCornersOf, AreDigits, HasDigitsIn, IsIdealSpace, IsOfDigits, value}
use Rattle.digit_laws.specs.Laws.{DigitsAreCoordinates, BlocksAreDepths}
use Rattle.digit_laws.proofs.Blocks.{block_law}
use Rattle.digit_laws.proofs.Corners.{corners_law}
use Rattle.digit_laws.proofs.DigitLaws.{digit_law, gens, value_poly}
use Rattle.digit_laws.proofs.Spaces.{affine_poly}
use Rattle.over_laws.specs.Over.{InRows}
use Rattle.over_module.specs.Raising.{behind_zeros, IsRaised}

module _ (C : CommRing) where
  open C use {carrier, ◌≈◌, ◌⊕◌, ◌⊗◌, neg}

  infix 40 ◌≈◌
  infixl 60 ◌⊕◌
  infixl 70 ◌⊗◌
  gathered : (b e w q : carrier) → (b ⊕ neg (e ⊗ w)) ⊕ neg (e ⊗ q) ≈ b ⊕ neg (e ⊗ (w ⊕ q))
  gathered b e w q = ring C (b ∷ e ∷ w ∷ q ∷ []) (search quote depth 20) tt

-- d^s times f
unfoldable pub raise : CurveData → ℕ → List Term → List Term
raise A zero f = f
raise A (suc s) f = mul A.prime A.denominator (raise A s f)

-- s blocks of n zeros before the row
pub zeros_more : (n s z : ℕ) (row : List ℕ) → z ≡ n * suc s → behind_zeros n (behind_zeros (n * s) row) ≡ behind_zeros z row
zeros_more n s z row e =
    sym (append_assoc (replicate n 0) (replicate (n * s) 0) row)
    ∙ ap (λ l. l ++ row) (replicate-append-replicate n (n * s) 0 ∙ ap (λ m. replicate m 0) (let q : n + n * s ≡ z = omega arith in q))

pub rest_residues : (p n : ℕ) (row : List ℕ) → All (λ e. e < p) (behind_zeros n row) → All (λ e. e < p) row
rest_residues p zero row h = h
rest_residues p (suc n) row h = rest_residues p n row (All-tail (λ e. e < p) 0 (behind_zeros n row) h)

pub rest_fits : (p n m w : ℕ) (row : List ℕ) → w ≡ n + m → IsRow p w (behind_zeros n row) → IsRow p m row
rest_fits p n m w row e h = (
  (let a : length {A = ℕ} (behind_zeros n row) ≡ length {A = ℕ} (replicate n 0) + length row = length-append (replicate n 0) row in
      let b : length {A = ℕ} (replicate n 0) ≡ n = length-replicate n 0 in
      let l : length {A = ℕ} (behind_zeros n row) ≡ w = h.0 in omega arith),
  rest_residues p n row h.1,
)

module _ (A : CurveData) (c : IsFinite A) where
  pos : 0 < A.prime
  pos = positive A.prime (high A c.curve)

  abbrev P : List Term → Type 0
  P f = IsPoly A.prime A.variables f

  laws1 : AreAsNumerators A
  laws1 = one_exponent_law A c

  pub raise_poly : (s : ℕ) (f : List Term) → P f → P (raise A s f)
  unfolding raise
  raise_poly zero f h = h
  raise_poly (suc s) f h = poly_mul A.prime A.variables A.denominator (raise A s f) pos c.curve.denominator (raise_poly s f h)

  -- f over d^k is d^s f over d^(s+k)
  pub raise_equal : (s k D : ℕ) (f : List Term) → P f → D ≡ s + k → AreEqual A (over f k) (over (raise A s f) D)
  unfolding raise
  raise_equal zero k D f h e = subst (λ z. AreEqual A (over f k) (over f z)) (let q : k ≡ D = omega arith in q) (eq_refl A c (over f k) h)
  raise_equal (suc s) k zero f h e = absurd (omega arith)
  raise_equal (suc s) k (suc D) f h e =
      let r = raise_poly s f h in
      eq_trans A c (over f k) (over (raise A s f) D) (over (mul A.prime A.denominator (raise A s f)) (suc D)) h r
      (poly_mul A.prime A.variables A.denominator (raise A s f) pos c.curve.denominator r)
      (raise_equal s k D f h (let z : suc D ≡ suc s + k = e in omega arith)) (laws1.next D (raise A s f) r)

-- b over d^(s+K) is some g over d^K with the digits of the row
pub record IsDivided (A : CurveData) (ms : List Monomial) (K : ℕ) (f : Fraction) (row : List ℕ) : Type 0 where
  pub numerator : List Term
  pub poly : IsPoly A.prime A.variables numerator
  pub digits : AreDigits A ms K numerator row
  pub equal : AreEqual A f (over numerator K)

-- a fraction by a row of the space, with the corners that are at hand
pub record IsKnown (A : CurveData) (ms : List Monomial) (e T : ℕ) (S : Subspace) (f : Fraction) : Type 0 where
  pub numerator : List Term
  pub poly : IsPoly A.prime A.variables numerator
  pub row : List ℕ
  pub digits : AreDigits A ms T numerator row
  pub inside : IsIn S row
  pub equal : AreEqual A f (over numerator e)

module _ (A : CurveData) (c : IsFinite A) (ms : List Monomial) (k : AreCornersOf A ms) where
  blocks : BlocksAreDepths A ms
  blocks = block_law A c ms k

  laws : (T : ℕ) → DigitsAreCoordinates A ms T
  laws T = digit_law A c ms k T

  -- the digits of d^s f are those of f behind s blocks of zeros
  pub raise_digits : (s K D z : ℕ) (f : List Term) (row : List ℕ) → P A c f → D ≡ s + K → z ≡ length ms * s → AreDigits A ms K f row
      → AreDigits A ms D (raise A s f) (behind_zeros z row)
  unfolding raise
  raise_digits zero K D z f row h e b a =
      subst (λ y. AreDigits A ms D f (behind_zeros y row)) (let q : 0 ≡ z = omega arith in q) (subst (λ y. AreDigits A ms y f row) (let q : K ≡ D = omega arith in q) a)
  raise_digits (suc s) K zero z f row h e b a = absurd (omega arith)
  raise_digits (suc s) K (suc D) z f row h e b a =
      subst (AreDigits A ms (suc D) (mul A.prime A.denominator (raise A s f))) (zeros_more (length ms) s z row b)
      ((blocks.up D (raise A s f) (behind_zeros (length ms * s) row) (raise_poly A c s f h)).0
      (raise_digits s K D (length ms * s) f row h (let q : suc D ≡ suc s + K = e in omega arith) refl a))

  -- b - d w - d q is b - d (w + q)
  gathered_in : (b w q : List Term) → P A c b → P A c w → P A c q → InIdeal A.prime A.variables A.ideal (sub A.prime (sub A.prime b (mul A.prime A.denominator w)) (mul A.prime A.denominator q))
      → InIdeal A.prime A.variables A.ideal (sub A.prime b (mul A.prime A.denominator (add A.prime w q)))
  gathered_in b w q hb hw hq =
      subst (InIdeal A.prime A.variables A.ideal) (gathered (Ring A c.curve) (member A c.curve b hb) (d A c.curve) (member A c.curve w hw) (member A c.curve q hq))

  -- what has such digits over d^(D+1) is some b over d^D with the digits behind the zeros
  pub divided_once : (D : ℕ) (b : List Term) (rest : List ℕ) → P A c b → AreDigits A ms (suc D) b (behind_zeros (length ms) rest)
      → IsDivided A ms D (over b (suc D)) rest
  unfolding raise
  divided_once D b rest hb a =
      let fits : IsRow A.prime (length ms * D) rest = rest_fits A.prime (length ms) (length ms * D) (length ms * suc D) rest (let q : length ms * suc D ≡ length ms + length ms * D = omega arith in q) a.fits in
      let w = value A ms D rest in
      let hw = value_poly A c ms k D rest in
      let dw = mul A.prime A.denominator (value A ms D rest) in
      let hdw = poly_mul A.prime A.variables A.denominator (value A ms D rest) (pos A c) c.curve.denominator hw in
      let same_digits = (blocks.up D (value A ms D rest) rest hw).0 ((laws D).row rest fits).1 in
      let near = (laws (suc D)).close b dw (behind_zeros (length ms) rest) hb hdw a same_digits in
      let hs = poly_sub A.prime A.variables b dw (pos A c) hb hdw in
      let whole = (laws1 A c).whole (suc D) (sub A.prime b dw) hs in
      let i = whole.1 near in
      let q = raise A D i.0 in
      let hq = raise_poly A c D i.0 i.1 in
      let dq = mul A.prime A.denominator (raise A D i.0) in
      let hdq = poly_mul A.prime A.variables A.denominator (raise A D i.0) (pos A c) c.curve.denominator hq in
      let equal = eq_trans A c (over (sub A.prime b dw) (suc D)) (over i.0 0) (over dq (suc D)) hs i.1 hdq i.2
      (raise_equal A c (suc D) 0 (suc D) i.0 i.1 (let y : suc D ≡ suc D + 0 = omega arith in y)) in
      let inside = ((laws1 A c).equal (suc D) (sub A.prime b dw) dq hs hdq).0 equal in
      let g = add A.prime (value A ms D rest) (raise A D i.0) in
      let hg = poly_add A.prime A.variables (value A ms D rest) (raise A D i.0) (pos A c) hw hq in
      let dg = mul A.prime A.denominator (add A.prime (value A ms D rest) (raise A D i.0)) in
      let hdg = poly_mul A.prime A.variables A.denominator g (pos A c) c.curve.denominator hg in
      let there : InIdeal A.prime A.variables A.ideal (sub A.prime b dg) = gathered_in b w q hb hw hq inside in
      record {
        numerator = g;
        poly = hg;
        digits = (blocks.up D g rest hg).1
            ((laws (suc D)).same b dg (behind_zeros (length ms) rest) hb hdg (in_more A.prime A.variables (denominator_power A (suc D)) A.ideal (sub A.prime b dg) there) a);
        equal = eq_trans A c (over b (suc D)) (over dg (suc D)) (over g D) hb hdg hg (((laws1 A c).equal (suc D) b dg hb hdg).1 there)
            (eq_sym A c (over g D) (over dg (suc D)) hg hdg ((laws1 A c).next D g hg));
      }

  pub divided : (s K D z : ℕ) (b : List Term) (rest : List ℕ) → P A c b → D ≡ s + K → z ≡ length ms * s → AreDigits A ms D b (behind_zeros z rest)
      → IsDivided A ms K (over b D) rest
  divided zero K D z b rest hb e y a = record {
    numerator = b;
    poly = hb;
    digits = subst (λ x. AreDigits A ms x b rest) (let q : D ≡ K = omega arith in q) (subst (λ x. AreDigits A ms D b (behind_zeros x rest)) (let q : z ≡ 0 = omega arith in q) a);
    equal = subst (λ x. AreEqual A (over b D) (over b x)) (let q : D ≡ K = omega arith in q) (eq_refl A c (over b D) hb);
  }
  divided (suc s) K zero z b rest hb e y a = absurd (omega arith)
  divided (suc s) K (suc D) z b rest hb e y a =
      let first = divided_once D b (behind_zeros (length ms * s) rest) hb (subst (AreDigits A ms (suc D) b) (sym (zeros_more (length ms) s z rest y)) a) in
      let then = divided s K D (length ms * s) first.numerator rest first.poly (let q : suc D ≡ suc s + K = e in omega arith) refl first.digits in
      record {
        numerator = then.numerator;
        poly = then.poly;
        digits = then.digits;
        equal = eq_trans A c (over b (suc D)) (over first.numerator D) (over then.numerator K) hb first.poly then.poly first.equal then.equal;
      }

  -- ---- fractions by rows

  pub known : (e T : ℕ) (S : Subspace) (f : Fraction) → InRows A e T S f → IsKnown A ms e T S f
  known e T S f r =
      let h = subst (λ z. HasDigitsIn A z T S r.numerator) (corners_law A c r.corners ms r.known k) r.inside in
      record { numerator = r.numerator; poly = r.poly; row = h.0; digits = h.1; inside = h.2; equal = r.equal }

  pub in_rows : (e T : ℕ) (S : Subspace) (f : Fraction) (b : List Term) → P A c b → HasDigitsIn A ms T S b → AreEqual A f (over b e) → InRows A e T S f
  in_rows e T S f b hb h q = record { corners = ms; known = k; numerator = b; poly = hb; inside = h; equal = q }

  -- b over d^T is among the fractions exactly where the digits of b are in the space
  pub has_of : (T : ℕ) (S : Subspace) (b : List Term) → P A c b → InRows A T T S (over b T) → HasDigitsIn A ms T S b
  has_of T S b hb r =
      let w = known T T S (over b T) r in
      let i = ((laws1 A c).equal T w.numerator b w.poly hb).0 (eq_sym A c (over b T) (over w.numerator T) hb w.poly w.equal) in (
        w.row,
        (laws T).same w.numerator b w.row w.poly hb (in_more A.prime A.variables (denominator_power A T) A.ideal (sub A.prime w.numerator b) i) w.digits,
        w.inside,
      )

  pub of_has : (T : ℕ) (S : Subspace) (b : List Term) → P A c b → HasDigitsIn A ms T S b → InRows A T T S (over b T)
  of_has T S b hb h = in_rows T T S (over b T) b hb h (eq_refl A c (over b T) hb)

  pub row_in : (T : ℕ) (S : Subspace) (b : List Term) (row : List ℕ) → P A c b → AreDigits A ms T b row → HasDigitsIn A ms T S b → IsIn S row
  row_in T S b row hb a h = subst (IsIn S) ((laws T).unique b h.0 row hb h.1 a) h.2

  pub equal_in : (e T : ℕ) (S : Subspace) (f g : Fraction) → IsFraction A f → IsFraction A g → AreEqual A f g → InRows A e T S g → InRows A e T S f
  equal_in e T S f g hf hg q r =
      let w = known e T S g r in
      in_rows e T S f w.numerator w.poly (w.row, w.digits, w.inside) (eq_trans A c f g (over w.numerator e) hf hg w.poly q w.equal)

  -- f is among the fractions exactly where the row of a numerator is in the space
  pub decided : (T : ℕ) (S : Subspace) (f : Fraction) (b : List Term) (row : List ℕ) → IsFraction A f → P A c b → AreEqual A f (over b T) → AreDigits A ms T b row
      → IsIn S row ↔ InRows A T T S f
  decided T S f b row hf hb q a = (
    (λ i. in_rows T T S f b hb (row, a, i) q),
    λ r. row_in T S b row hb a (has_of T S b hb (equal_in T T S (over b T) f hb hf (eq_sym A c f (over b T) hf hb q) r)),
  )

  -- ---- the rows of one space behind zeros

  module _ (s K D z : ℕ) (low high : Subspace) (sum : D ≡ s + K) (zeros : z ≡ length ms * s) (ol : IsOfDigits A ms K low) (oh : IsOfDigits A ms D high) (r : IsRaised z low high) where
    low_fits : (row : List ℕ) → IsRow A.prime (length ms * K) row → FitsIn low row
    low_fits row h = subst (λ q. IsRow q low.width row) (sym ol.prime) (subst (λ w. IsRow A.prime w row) (sym ol.width) h)

    high_fits : (row : List ℕ) → IsRow A.prime (length ms * D) row → FitsIn high row
    high_fits row h = subst (λ q. IsRow q high.width row) (sym oh.prime) (subst (λ w. IsRow A.prime w row) (sym oh.width) h)

    raised_up : (f : Fraction) → IsFraction A f → InRows A K K low f → InRows A D D high f
    raised_up f hf h =
        let w = known K K low f h in
        let b = raise A s w.numerator in
        let hb = raise_poly A c s w.numerator w.poly in
        in_rows D D high f b hb
        (behind_zeros z w.row, raise_digits s K D z w.numerator w.row w.poly sum zeros w.digits, r.up w.row (low_fits w.row w.digits.fits) w.inside)
        (eq_trans A c f (over w.numerator K) (over b D) hf w.poly hb w.equal (raise_equal A c s K D w.numerator w.poly sum))

    raised_down : (f : Fraction) → IsFraction A f → InRows A D D high f → InRows A K K low f
    raised_down f hf h =
        let w = known D D high f h in
        let rest = r.down w.row (high_fits w.row w.digits.fits) w.inside in
        let g = divided s K D z w.numerator rest.0 w.poly sum zeros (subst (AreDigits A ms D w.numerator) rest.1 w.digits) in
        in_rows K K low f g.numerator g.poly (rest.0, g.digits, rest.2) (eq_trans A c f (over w.numerator D) (over g.numerator K) hf w.poly g.poly w.equal g.equal)

    pub raised_same : (f : Fraction) → IsFraction A f → InRows A K K low f ↔ InRows A D D high f
    raised_same f hf = (raised_up f hf, raised_down f hf)

  -- ---- ideals

  -- a polynomial for any list of terms with digits
  module _ (T : ℕ) (f : List Term) (row : List ℕ) (a : AreDigits A ms T f row) where
    pub whole_poly : P A c (normal A.prime f)
    whole_poly = subst (P A c) (sym (from_sub A.prime f (value A ms T row) (sub A.prime f (value A ms T row)) (pos A c) refl))
        (poly_add A.prime A.variables (value A ms T row) (sub A.prime f (value A ms T row)) (pos A c) (value_poly A c ms k T row)
        (in_poly A.prime A.variables (denominator_power A T ∷ A.ideal) (sub A.prime f (value A ms T row)) (pos A c) (gens A c ms k T) a.close))

    pub whole_digits : AreDigits A ms T (normal A.prime f) row
    whole_digits = record { fits = a.fits; close = subst (InPower A T) (sym (add_normal_left A.prime f (multiple A.prime (A.prime - 1) (value A ms T row)))) a.close }

  pub x_poly : (v : ℕ) → v < A.variables → P A c (polynomial_of (variable v))
  x_poly v l = affine_poly A c ms k 0 (variable v) (affine_power A.variables v 1 l)

  pub x_product : (v : ℕ) → v < A.variables → (f : List Term) → P A c f → P A c (mul A.prime (polynomial_of (variable v)) f)
  x_product v l f hf = poly_mul A.prime A.variables (polynomial_of (variable v)) f (pos A c) (x_poly v l) hf

  -- it is enough to see polynomials
  pub ideal_of_polys : (T : ℕ) (S : Subspace) → IsOfDigits A ms T S
      → ((v : ℕ) → v < A.variables → (f : List Term) → P A c f → HasDigitsIn A ms T S f → HasDigitsIn A ms T S (mul A.prime (polynomial_of (variable v)) f))
      → IsIdealSpace A ms T S
  ideal_of_polys T S o h = record {
    of_digits = o;
    closed = λ v l f i.
        subst (HasDigitsIn A ms T S) (mul_normal_right A.prime (polynomial_of (variable v)) f)
        (h v l (normal A.prime f) (whole_poly T f i.0 i.1) (i.0, whole_digits T f i.0 i.1, i.2));
  }

  -- a variable times a fraction
  abbrev pub x_times : ℕ → Fraction → Fraction
  x_times v f = over (mul A.prime (polynomial_of (variable v)) f.numerator) f.exponent

  pub x_equal : (v : ℕ) → v < A.variables → (f g : Fraction) → IsFraction A f → IsFraction A g → AreEqual A f g → AreEqual A (x_times v f) (x_times v g)
  x_equal v l f g hf hg e =
      let x : Fraction = over (polynomial_of (variable v)) 0 in
      let hx : IsFraction A x = x_poly v l in
      subst (λ y. AreEqual A (over (mul A.prime (polynomial_of (variable v)) f.numerator) y) (x_times v g)) (let q : 0 + f.exponent ≡ f.exponent = omega arith in q)
      (subst (λ y. AreEqual A (product_of A x f) (over (mul A.prime (polynomial_of (variable v)) g.numerator) y)) (let q : 0 + g.exponent ≡ g.exponent = omega arith in q)
      (eq_product A c x f x g hx hf hx hg (eq_refl A c x hx) e))

  pub x_in : (T : ℕ) (S : Subspace) → IsIdealSpace A ms T S → (v : ℕ) → v < A.variables → (f : Fraction) → IsFraction A f → InRows A T T S f → InRows A T T S (x_times v f)
  x_in T S i v l f hf r =
      let w = known T T S f r in
      let b = w.numerator in
      in_rows T T S (x_times v f) (mul A.prime (polynomial_of (variable v)) b) (poly_mul A.prime A.variables (polynomial_of (variable v)) b (pos A c) (x_poly v l) w.poly)
      (i.closed v l b (w.row, w.digits, w.inside)) (x_equal v l f (over b T) hf w.poly w.equal)

  -- a space with the fractions of an ideal is one
  pub ideal_moved : (T D : ℕ) (S W : Subspace) → IsIdealSpace A ms T S → IsOfDigits A ms D W → ((f : Fraction) → IsFraction A f → InRows A T T S f ↔ InRows A D D W f) → IsIdealSpace A ms D W
  ideal_moved T D S W i o same = ideal_of_polys D W o (λ v l f hf h.
      let hx = poly_mul A.prime A.variables (polynomial_of (variable v)) f (pos A c) (x_poly v l) hf in
      has_of D W (mul A.prime (polynomial_of (variable v)) f) hx
      ((same (x_times v (over f D)) hx).0 (x_in T S i v l (over f D) hf ((same (over f D) hf).1 (of_has D W f hf h)))))
