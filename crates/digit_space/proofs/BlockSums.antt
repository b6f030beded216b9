-- Products by a polynomial, block by block, from the digits of its products with the corners.
use Rattle.std.proofs.Common.{◌≡◌, ◌⊎◌, inl, inr, ℕ, suc, ◌+◌, ◌*◌, ◌%◌, ◌<◌, List, [], ◌∷◌, ◌++◌, length, replicate, get_or, sym, ap, ◌∙◌, subst, arith}
use Rattle.std.proofs.lemmas.List.{length-map, length-replicate, get_or-replicate}
use Rattle.std.proofs.lemmas.List.Elements.{All-head, All-tail}
use Rattle.comm_ring.specs.Ring.{CommRing}
use Rattle.comm_ring.specs.Rows.{rows}
use Rattle.comm_ring.proofs.Quote.{ring, quote}
use Rattle.comm_ring.proofs.Residues.{mod_ring, mod_quote}
use Rattle.comm_ring.proofs.Rows.{row-entry, equal_rows}
use Rattle.monomials.specs.Mono.{Monomial}
use Rattle.polys.specs.declared.term.Term.{Term}
use Rattle.polys.specs.Terms.{IsPoly, add, mul, multiple}
use Rattle.polys.specs.Ideal.{number_combination}
use Rattle.polys.specs.Curve.{CurveData}
use Rattle.polys.proofs.Affine.{poly_mul, poly_multiple, mul_constant, sevens_of, positive}
use Rattle.curve_model.specs.Laws.{IsFinite, ArePolys}
use Rattle.curve_laws.proofs.Base.{high, Ring, d, member}
use Rattle.curve_laws.proofs.Scalars.{scalar}
use Rattle.standard_monomials.specs.Standard.{polynomial_of}
use Rattle.row_space.specs.Echelon.{IsRow}
use Rattle.digit_laws.specs.Digits.{AreCornersOf, places, value, AreDigits}
use Rattle.digit_laws.specs.Laws.{DigitsAreCoordinates}
use Rattle.digit_space.specs.Adding.{sum_at}
use Rattle.digit_laws.proofs.DigitLaws.{digit_law, U, span, numbers_poly, value_poly, place_polys}
use Rattle.digit_laws.proofs.Blocks.{block_law, split, zeros_combine, zeros_row}

module _ (C : CommRing) where
  open C use {carrier, ◌≈◌, ◌⊕◌, ◌⊗◌, 𝟘}

  infix 40 ◌≈◌
  infixl 60 ◌⊕◌
  infixl 70 ◌⊗◌
  none_times : (q : carrier) → q ⊗ 𝟘 ≈ 𝟘
  none_times q = ring C (q ∷ []) (search quote depth 20) tt

  one_more : (q s u r : carrier) → s ⊗ (q ⊗ u) ⊕ q ⊗ r ≈ q ⊗ (s ⊗ u ⊕ r)
  one_more q s u r = ring C (q ∷ s ∷ u ∷ r ∷ []) (search quote depth 20) tt

  one_block : (q a e b : carrier) → q ⊗ a ⊕ e ⊗ (q ⊗ b) ≈ q ⊗ (a ⊕ e ⊗ b)
  one_block q a e b = ring C (q ∷ a ∷ e ∷ b ∷ []) (search quote depth 20) tt

module _ (A : CurveData) (c : IsFinite A) (ms : List Monomial) (k : AreCornersOf A ms) where
  pos : 0 < A.prime
  pos = positive A.prime (high A c.curve)

  abbrev P : List Term → Type 0
  P f = IsPoly A.prime A.variables f

  abbrev laws : (T : ℕ) → DigitsAreCoordinates A ms T
  laws T = digit_law A c ms k T

  -- a row with the same entries has the same digits
  pub by_entries : (T : ℕ) (f : List Term) (row other : List ℕ) → AreDigits A ms T f row → IsRow A.prime (length ms * T) other
      → ((t : ℕ) → t < length ms * T → get_or other t 0 % A.prime ≡ get_or row t 0 % A.prime) → AreDigits A ms T f other
  by_entries T f row other r h e =
      subst (AreDigits A ms T f) (equal_rows A.prime (length ms * T) row other r.fits.0 h.0 r.fits.1 h.1 (λ t l. sym (e t l))) r

  -- a number is 0, or the row f i has the digits of q times the polynomial number i
  abbrev pub HasRow : (T : ℕ) (q : List Term) (cs : List ℕ) (us : List (List Term)) (f : ℕ → List ℕ) (i : ℕ) → Type 0
  HasRow T q cs us f i = (get_or cs i 0 ≡ 0)
      ⊎ ((row : List ℕ) × AreDigits A ms T (mul A.prime q (get_or us i [])) row × ((t : ℕ) → t < length ms * T → get_or row t 0 ≡ get_or (f i) t 0))

  -- the sum of these rows has the digits of q times the sum of the polynomials
  pub record IsSum (T : ℕ) (q : List Term) (cs : List ℕ) (us : List (List Term)) (f : ℕ → List ℕ) : Type 0 where
    pub row : List ℕ
    pub digits : AreDigits A ms T (mul A.prime q (number_combination A.prime cs us)) row
    pub entries : (t : ℕ) → t < length ms * T → get_or row t 0 % A.prime ≡ sum_at cs f t % A.prime

  pub zeros_digits : (T : ℕ) → AreDigits A ms T [] (replicate (length ms * T) 0)
  zeros_digits T =
      let n = length ms * T in
      let none : value A ms T (replicate n 0) ≡ [] = zeros_combine A c n (places A ms T) (place_polys A c ms k T) in
      subst (λ z. AreDigits A ms T z (replicate n 0)) none ((laws T).row (replicate n 0) (length-replicate n 0, zeros_row A c ms k n)).1

  pub times_none : (q : List Term) → P q → mul A.prime q [] ≡ []
  times_none q hq = none_times (Ring A c.curve) (member A c.curve q hq)

  -- the digits of q times u, if its number is not 0
  Chosen : (T : ℕ) (q u : List Term) (e : ℕ) (g : List ℕ) → Type 0
  Chosen T q u e g = (row : List ℕ) × AreDigits A ms T (mul A.prime q u) row × ((t : ℕ) → t < length ms * T → e * get_or row t 0 ≡ e * get_or g t 0)

  chosen : (T : ℕ) (q : List Term) (e : ℕ) (cs : List ℕ) (u : List Term) (us : List (List Term)) (f : ℕ → List ℕ) → P q → P u → HasRow T q (e ∷ cs) (u ∷ us) f 0 → Chosen T q u e (f 0)
  unfolding Chosen
  chosen T q e cs u us f hq hu (inl z) =
      let r = (laws T).exist (mul A.prime q u) (poly_mul A.prime A.variables q u pos hq hu) in
      let none : e ≡ 0 = z in
      (r.0, r.1, λ t l. ap (λ n. n * get_or r.0 t 0) none ∙ (let w : 0 * get_or r.0 t 0 ≡ 0 * get_or (f 0) t 0 = omega arith in w) ∙ ap (λ n. n * get_or (f 0) t 0) (sym none))
  chosen T q e cs u us f hq hu (inr r) = (r.0, r.1, λ t l. ap (λ n. e * n) (r.2 t l))

  entry : (e x o g s : ℕ) → e * x ≡ e * g → o % A.prime ≡ s % A.prime → (((e * x) % A.prime + o) % A.prime) % A.prime ≡ (e * g + s) % A.prime
  entry e x o g s h j =
      mod_ring A.prime pos (e ∷ x ∷ o ∷ []) (((e * x) % A.prime + o) % A.prime) (e * x + o % A.prime) (search mod_quote depth 20) tt
      ∙ ap (λ n. (e * x + n) % A.prime) j
      ∙ mod_ring A.prime pos (e ∷ x ∷ s ∷ []) (e * x + s % A.prime) (e * x + s) (search mod_quote depth 20) tt
      ∙ ap (λ n. (n + s) % A.prime) h

  more : (T : ℕ) (q : List Term) (e : ℕ) (cs : List ℕ) (u : List Term) (us : List (List Term)) (f : ℕ → List ℕ) → P q → P u → ArePolys A us
      → Chosen T q u e (f 0) → IsSum T q cs us (λ i. f (suc i)) → IsSum T q (e ∷ cs) (u ∷ us) f
  unfolding Chosen
  more T q e cs u us f hq hu hus h s =
      let n = length ms * T in
      let comb = number_combination A.prime cs us in
      let hc = numbers_poly A c ms k cs us hus in
      let qu = mul A.prime q u in
      let hqu = poly_mul A.prime A.variables q u pos hq hu in
      let qc = mul A.prime q comb in
      let hqc = poly_mul A.prime A.variables q comb pos hq hc in
      let first = (rows A.prime n).◌·◌ e h.0 in
      let same : add A.prime (multiple A.prime e qu) qc ≡ mul A.prime q (add A.prime (multiple A.prime e u) comb) =
      ap (λ z. add A.prime z qc) (sym (mul_constant A.prime e qu (sevens_of A.prime A.variables qu hqu)))
      ∙ one_more (Ring A c.curve) (member A c.curve q hq) (scalar A c e) (member A c.curve u hu) (member A c.curve comb hc)
      ∙ ap (λ z. mul A.prime q (add A.prime z comb)) (mul_constant A.prime e u (sevens_of A.prime A.variables u hu)) in
      record {
        row = (rows A.prime n).◌⊞◌ first s.row;
        digits = subst (λ z. AreDigits A ms T z ((rows A.prime n).◌⊞◌ first s.row)) same
            ((laws T).sum (multiple A.prime e qu) qc first s.row (poly_multiple A.prime A.variables e qu pos hqu) hqc ((laws T).multiple e qu h.0 hqu h.1) s.digits);
        entries = λ t l.
            ap (λ z. z % A.prime) (row-entry n (λ i. (get_or first i 0 + get_or s.row i 0) % A.prime) t l)
            ∙ ap (λ z. ((z + get_or s.row t 0) % A.prime) % A.prime) (row-entry n (λ i. (e * get_or h.0 i 0) % A.prime) t l)
            ∙ entry e (get_or h.0 t 0) (get_or s.row t 0) (get_or (f 0) t 0) (sum_at cs (λ i. f (suc i)) t) (h.2 t l) (s.entries t l);
      }

  nothing : (T : ℕ) (q : List Term) (us : List (List Term)) (f : ℕ → List ℕ) → P q → IsSum T q [] us f
  nothing T q us f hq = record {
    row = replicate (length ms * T) 0;
    digits = subst (λ z. AreDigits A ms T z (replicate (length ms * T) 0)) (sym (times_none q hq)) (zeros_digits T);
    entries = λ t l. ap (λ z. z % A.prime) (get_or-replicate (length ms * T) t 0 0 l);
  }

  pub sums : (T : ℕ) (q : List Term) (cs : List ℕ) (us : List (List Term)) (f : ℕ → List ℕ) → P q → ArePolys A us → length cs ≡ length us
      → ((i : ℕ) → i < length cs → HasRow T q cs us f i) → IsSum T q cs us f
  sums T q [] us f hq hus l h = nothing T q us f hq
  sums T q (e ∷ cs) [] f hq hus l h = absurd (omega arith)
  sums T q (e ∷ cs) (u ∷ us) f hq hus l h =
      let hu = All-head P u us hus in
      more T q e cs u us f hq hu (All-tail P u us hus) (chosen T q e cs u us f hq hu (h 0 (omega arith)))
      (sums T q cs us (λ i. f (suc i)) hq (All-tail P u us hus) (let w : length (e ∷ cs) ≡ length (u ∷ us) = l in omega arith) (λ i j. h (suc i) (let w : i < length cs = j in omega arith)))

  -- one block more in front
  pub block_more : (T : ℕ) (q : List Term) (a b w new : List ℕ) (f : ℕ → List ℕ) → P q → IsRow A.prime (length ms) a
      → AreDigits A ms T (mul A.prime q (value A ms T b)) w
      → ((i : ℕ) → i < length a → HasRow (suc T) q a (U A c ms k) f i)
      → IsRow A.prime (length ms * suc T) new
      → ((t : ℕ) → t < length ms * suc T → get_or new t 0 ≡ (get_or (replicate (length ms) 0 ++ w) t 0 + sum_at a f t) % A.prime)
      → AreDigits A ms (suc T) (mul A.prime q (value A ms (suc T) (a ++ b))) new
  block_more T q a b w new f hq ha hw has hn entries =
      let n = length ms * suc T in
      let us = U A c ms k in
      let z = replicate (length ms) 0 ++ w in
      let comb = number_combination A.prime a us in
      let hc = numbers_poly A c ms k a us (span A c ms k).polys in
      let v = value A ms T b in
      let hv = value_poly A c ms k T b in
      let qv = mul A.prime q v in
      let hqv = poly_mul A.prime A.variables q v pos hq hv in
      let dqv = mul A.prime A.denominator qv in
      let qc = mul A.prime q comb in
      let s = sums (suc T) q a us f hq (span A c ms k).polys (ha.0 ∙ sym (length-map ms polynomial_of)) has in
      let up = ((block_law A c ms k).up T qv w hqv).0 hw in
      let both = (laws (suc T)).sum qc dqv s.row z (poly_mul A.prime A.variables q comb pos hq hc) (poly_mul A.prime A.variables A.denominator qv pos c.curve.denominator hqv) s.digits up in
      let same : add A.prime qc dqv ≡ mul A.prime q (value A ms (suc T) (a ++ b)) =
      one_block (Ring A c.curve) (member A c.curve q hq) (member A c.curve comb hc) (d A c.curve) (member A c.curve v hv)
      ∙ ap (mul A.prime q) (sym (split A c ms k T a b ha.0)) in
      by_entries (suc T) (mul A.prime q (value A ms (suc T) (a ++ b))) ((rows A.prime n).◌⊞◌ s.row z) new (subst (λ g. AreDigits A ms (suc T) g ((rows A.prime n).◌⊞◌ s.row z)) same both) hn
      (λ t l.
      ap (λ y. y % A.prime) (entries t l)
      ∙ last (get_or z t 0) (sum_at a f t) (get_or s.row t 0) (s.entries t l)
      ∙ ap (λ y. y % A.prime) (sym (row-entry n (λ i. (get_or s.row i 0 + get_or z i 0) % A.prime) t l)))
    where
      last : (x y o : ℕ) → o % A.prime ≡ y % A.prime → ((x + y) % A.prime) % A.prime ≡ ((o + x) % A.prime) % A.prime
      last x y o e =
          mod_ring A.prime pos (x ∷ y ∷ []) ((x + y) % A.prime) (x + y % A.prime) (search mod_quote depth 20) tt
          ∙ ap (λ n. (x + n) % A.prime) (sym e)
          ∙ mod_ring A.prime pos (x ∷ o ∷ []) (x + o % A.prime) ((o + x) % A.prime) (search mod_quote depth 20) tt
