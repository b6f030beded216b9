-- Blocks of digits: sums and multiples, powers of d, one block more.
use Rattle.std.proofs.Common.{◌≡◌, ℕ, zero, suc, ◌+◌, ◌-◌, ◌*◌, ◌%◌, ◌<◌, ◌≤◌, List, [], ◌∷◌, ◌++◌, map, length, get_or, set, take, drop, replicate, refl, sym, ap, ap₂, ◌∙◌, subst, arith}
use Rattle.std.specs.List.{All}
use Rattle.std.proofs.lemmas.List.{length-append, length-drop, length-map, length-replicate, length-set, length-take-le, take-append-drop, get_or-take, get_or-drop, get_or-replicate, get_or-map, get_or_append_left, get_or-append_right, get_or-set_same, get_or-set_other, ext_get_or}
use Rattle.std.proofs.lemmas.List.Elements.{All-append, All-get_or, All-replicate, All-set, All-take, All-drop}
use native.Mathlib.Nat.{mod-mod, zero-mod, mod-eq_of_lt}
use native.Mathlib.Decide.{ℕ_discrete}
use Rattle.std.specs.declared.cmp.Ordering.{Ordering}
use Rattle.std.specs.declared.cmp.Ordering.TheVariants.{Less, Equal, Greater}
use Rattle.std.specs.Ordering.{nat_cmp, MatchOrdering}
use Rattle.std.specs.Cmp.{ranks}
use Rattle.std.proofs.Math.Nat.{mul-le-mul_left}
use Rattle.comm_ring.specs.Rows.{rows}
use Rattle.comm_ring.proofs.Rows.{row-entry}
use Rattle.prime_field.specs.Primes.{IsPrime}
use Rattle.prime_field.proofs.Table.{positive_of_prime, above_one}
use Rattle.monomials.specs.Mono.{Monomial, unit, times, variable}
use Rattle.monomials.proofs.Order.{times_comm}
use Rattle.polys.specs.declared.term.Term.{Term}
use Rattle.polys.specs.Terms.{IsAffine, IsPoly, normal, add, sub, mul, multiple}
use Rattle.polys.specs.Ideal.{InIdeal, number_combination}
use Rattle.polys.specs.Curve.{CurveData}
use Rattle.polys.proofs.Affine.{poly_none, poly_mul, poly_multiple}
use Rattle.polys.proofs.Sums.{add_assoc, add_comm, add_normal_right, mul-add, mul_assoc, mul_comm}
use Rattle.polys.proofs.Units.{add_none, sub_self}
use Rattle.polys.proofs.Weights.{mod_plus}
use Rattle.ideal_laws.proofs.Ideals.{in_more, in_none}
use Rattle.ideal_laws.proofs.Multiples.{multiple-mul, multiple_one, multiple_zero}
use Rattle.curve_model.specs.Fraction.{denominator_power}
use Rattle.row_space.specs.Echelon.{IsRow}
use Rattle.standard_monomials.specs.Standard.{polynomial_of}
use Rattle.standard_monomials.proofs.Minimal.{one_term}
use Rattle.digit_laws.specs.Digits.{value, AreDigits}
use Rattle.digit_laws.specs.Laws.{DigitsAreCoordinates, BlocksAreDepths}
use Rattle.digit_make.specs.Blocks.{IsBlock}

-- what the lemmas use of a curve and its corners
pub record IsSetting (A : CurveData) (ms : List Monomial) : Type 0 where
  pub prime : IsPrime A.prime
  pub denominator : IsPoly A.prime A.variables A.denominator
  pub affine : All (IsAffine A.variables) ms
  pub laws : (T : ℕ) → DigitsAreCoordinates A ms T
  pub blocks : BlocksAreDepths A ms
  pub numbers : (cs : List ℕ) → IsPoly A.prime A.variables (number_combination A.prime cs (map polynomial_of ms))
  -- the value of a first block and the others
  pub split : (T : ℕ) (a b : List ℕ) → length a ≡ length ms
      → value A ms (suc T) (a ++ b) ≡ add A.prime (number_combination A.prime a (map polynomial_of ms)) (mul A.prime A.denominator (value A ms T b))

-- ---- combinations by numbers

zeros_combine : (p n : ℕ) (us : List (List Term)) → number_combination p (replicate n 0) us ≡ []
zeros_combine p zero us = refl
zeros_combine p (suc n) [] = refl
zeros_combine p (suc n) (u ∷ us) = ap₂ (add p) (multiple_zero p u) (zeros_combine p n us)

-- one corner alone
one_combines : (p : ℕ) → 1 < p → (ms : List Monomial) (i : ℕ) → i < length ms
    → number_combination p (set (replicate (length ms) 0) i 1) (map polynomial_of ms) ≡ polynomial_of (get_or ms i unit)
one_combines p l [] i h = absurd (omega arith)
one_combines p l (m ∷ ms) zero h =
    ap₂ (add p) (multiple_one p (polynomial_of m) ∙ one_term p m l) (zeros_combine p (length ms) (map polynomial_of ms))
    ∙ add_none p (polynomial_of m) ((omega arith), l, tt, tt)
one_combines p l (m ∷ ms) (suc i) h =
    ap₂ (add p) (multiple_zero p (polynomial_of m)) (one_combines p l ms i (omega arith))
    ∙ one_term p (get_or ms i unit) l

-- one term more
combination_more : (p : ℕ) (cs : List ℕ) (us : List (List Term)) (k : ℕ) → k < length cs → length cs ≡ length us
    → number_combination p (take (suc k) cs) us ≡ add p (number_combination p (take k cs) us) (multiple p (get_or cs k 0) (get_or us k []))
combination_more p [] us k h e = absurd (omega arith)
combination_more p (c ∷ cs) [] k h e = absurd (omega arith)
combination_more p (c ∷ cs) (u ∷ us) zero h e = add_comm p (multiple p c u) []
combination_more p (c ∷ cs) (u ∷ us) (suc k) h e =
    ap (add p (multiple p c u)) (combination_more p cs us k (omega arith) (omega arith))
    ∙ sym (add_assoc p (multiple p c u) (number_combination p (take k cs) us) (multiple p (get_or cs k 0) (get_or us k [])))

pub variable_times : (p v : ℕ) (m : Monomial) → 1 < p → mul p (polynomial_of (variable v)) (polynomial_of m) ≡ polynomial_of (times m (variable v))
variable_times p v m l = ap (λ w. normal p (polynomial_of w)) (times_comm (variable v) m) ∙ one_term p (times m (variable v)) l

-- a multiple by a residue as one term
pub term_of : (p c : ℕ) (m : Monomial) (f : List Term) → add p f (multiple p c (polynomial_of m)) ≡ add p f (record { coeff = c; mono = m } ∷ [])
term_of p c m f =
    add_normal_right p f (record { coeff = c * 1; mono = m } ∷ [])
    ∙ ap (λ z. add p f (record { coeff = z; mono = m } ∷ [])) (let e : c * 1 ≡ c = omega arith in e)

module _ (A : CurveData) (ms : List Monomial) (s : IsSetting A ms) where
  abbrev P : List Term → Type 0
  P f = IsPoly A.prime A.variables f

  abbrev B : ℕ → List Term → List ℕ → Type 0
  B t f b = IsBlock A ms t f b

  abbrev IsZeros : List ℕ → Type 0
  IsZeros b = (i : ℕ) → i < length ms → get_or b i 0 ≡ 0

  pub pos : 0 < A.prime
  pos = positive_of_prime A.prime s.prime

  two : 1 < A.prime
  two = above_one A.prime s.prime

  -- a block of a row of digits
  pub block_at : (T t : ℕ) (f : List Term) (row block : List ℕ) → P f → AreDigits A ms T f row → t < T → IsRow A.prime (length ms) block
      → ((i : ℕ) → i < length ms → get_or row (length ms * t + i) 0 ≡ get_or block i 0) → B t f block
  block_at T t f row block hf a l fits e = record {
    fits = fits;
    row = take (length ms * suc t) row;
    digits = s.blocks.truncated (suc t) (T - suc t) f row hf (subst (λ z. AreDigits A ms z f row) (let q : T ≡ suc t + (T - suc t) = omega arith in q) a);
    last = λ i h. get_or-take (length ms * suc t) row (length ms * t + i) 0 (omega arith) ∙ e i h;
  }

  -- a sum with a multiple
  pub plus : (t c : ℕ) (f g : List Term) (a b out : List ℕ) → P f → P g → B t f a → B t g b → IsRow A.prime (length ms) out
      → ((i : ℕ) → i < length ms → get_or out i 0 ≡ (get_or a i 0 + c * get_or b i 0) % A.prime) → B t (add A.prime f (multiple A.prime c g)) out
  plus t c f g a b out hf hg x y fits e = record {
    fits = fits;
    row = (rows A.prime (length ms * suc t)).◌⊞◌ x.row ((rows A.prime (length ms * suc t)).◌·◌ c y.row);
    digits = (s.laws (suc t)).sum f (multiple A.prime c g) x.row ((rows A.prime (length ms * suc t)).◌·◌ c y.row) hf (poly_multiple A.prime A.variables c g pos hg) x.digits
        ((s.laws (suc t)).multiple c g y.row hg y.digits);
    last = λ i h. let l : length ms * t + i < length ms * suc t = omega arith in
        row-entry (length ms * suc t) (λ k. (get_or x.row k 0 + get_or ((rows A.prime (length ms * suc t)).◌·◌ c y.row) k 0) % A.prime) (length ms * t + i) l
        ∙ ap (λ z. (get_or x.row (length ms * t + i) 0 + z) % A.prime) (row-entry (length ms * suc t) (λ k. (c * get_or y.row k 0) % A.prime) (length ms * t + i) l)
        ∙ ap₂ (λ u v. (u + (c * v) % A.prime) % A.prime) (x.last i h) (y.last i h)
        ∙ mod_plus A.prime (get_or a i 0) (get_or a i 0) ((c * get_or b i 0) % A.prime) (c * get_or b i 0) refl (mod-mod (c * get_or b i 0) A.prime)
        ∙ sym (e i h);
  }

  -- what is equal modulo the ideal
  pub alike : (t : ℕ) (f g : List Term) (b : List ℕ) → P f → P g → InIdeal A.prime A.variables A.ideal (sub A.prime f g) → B t f b → B t g b
  alike t f g b hf hg i x = record {
    fits = x.fits;
    row = x.row;
    digits = (s.laws (suc t)).same f g x.row hf hg (in_more A.prime A.variables (denominator_power A (suc t)) A.ideal (sub A.prime f g) i) x.digits;
    last = x.last;
  }

  pub none : (t : ℕ) (b : List ℕ) → IsRow A.prime (length ms) b → IsZeros b → B t [] b
  none t b fits z =
      let r = (s.laws (suc t)).exist [] (poly_none A.prime A.variables) in record {
        fits = fits;
        row = (rows A.prime (length ms * suc t)).◌·◌ 0 r.0;
        digits = (s.laws (suc t)).multiple 0 [] r.0 (poly_none A.prime A.variables) r.1;
        last = λ i h. row-entry (length ms * suc t) (λ k. (0 * get_or r.0 k 0) % A.prime) (length ms * t + i) (omega arith) ∙ ap (λ z. z % A.prime) (let q : 0 * get_or r.0 (length ms * t + i) 0 ≡ 0 = omega arith in q) ∙ zero-mod A.prime ∙ sym (z i h);
      }

  -- a factor d moves the blocks up
  pub up : (t : ℕ) (f : List Term) (b : List ℕ) → P f → B t f b → B (suc t) (mul A.prime A.denominator f) b
  up t f b hf x = record {
    fits = x.fits;
    row = replicate (length ms) 0 ++ x.row;
    digits = (s.blocks.up (suc t) f x.row hf).0 x.digits;
    last = λ i h.
        get_or-append_right (replicate (length ms) 0) x.row (length ms) (length ms * suc t + i) 0 (length-replicate (length ms) 0) (omega arith)
        ∙ ap (λ k. get_or x.row k 0) (let q : length ms * suc t + i - length ms ≡ length ms * t + i = omega arith in q)
        ∙ x.last i h;
  }

  -- and its first block is 0
  pub up_first : (f : List Term) (b : List ℕ) → P f → IsRow A.prime (length ms) b → IsZeros b → B 0 (mul A.prime A.denominator f) b
  up_first f b hf fits z =
      let r = (s.laws 0).exist f hf in record {
        fits = fits;
        row = replicate (length ms) 0 ++ r.0;
        digits = (s.blocks.up 0 f r.0 hf).0 r.1;
        last = λ i h.
            get_or_append_left (replicate (length ms) 0) r.0 0 (length ms * 0 + i) (let q : length {A = ℕ} (replicate (length ms) 0) ≡ length ms = length-replicate (length ms) 0 in omega arith)
            ∙ get_or-replicate (length ms) (length ms * 0 + i) 0 0 (omega arith)
            ∙ sym (z i h);
      }

  -- conversely a factor d is taken off
  pub down : (t : ℕ) (f : List Term) (b : List ℕ) → P f → B (suc t) (mul A.prime A.denominator f) b → B t f b
  down t f b hf x =
      let r = (s.laws (suc t)).exist f hf in
      let e = (s.laws (suc (suc t))).unique (mul A.prime A.denominator f) x.row (replicate (length ms) 0 ++ r.0) (poly_mul A.prime A.variables A.denominator f pos s.denominator hf) x.digits
      ((s.blocks.up (suc t) f r.0 hf).0 r.1) in record {
        fits = x.fits;
        row = r.0;
        digits = r.1;
        last = λ i h.
            sym (ap (λ k. get_or r.0 k 0) (let q : length ms * suc t + i - length ms ≡ length ms * t + i = omega arith in q))
            ∙ sym (get_or-append_right (replicate (length ms) 0) r.0 (length ms) (length ms * suc t + i) 0 (length-replicate (length ms) 0) (omega arith))
            ∙ ap (λ row. get_or row (length ms * suc t + i) 0) (sym e)
            ∙ x.last i h;
      }

  -- the blocks of a corner
  corner_poly : (i : ℕ) → i < length ms → P (polynomial_of (get_or ms i unit))
  corner_poly i l = record { canonical = ((omega arith), two, tt, tt); affine = (All-get_or (IsAffine A.variables) ms i unit l s.affine, tt) }

  corner_split : (i : ℕ) → i < length ms → add A.prime (number_combination A.prime (set (replicate (length ms) 0) i 1) (map polynomial_of ms)) (mul A.prime A.denominator []) ≡ polynomial_of (get_or ms i unit)
  corner_split i l =
      ap₂ (add A.prime) (one_combines A.prime two ms i l) (mul_comm A.prime A.denominator [])
      ∙ add_none A.prime (polynomial_of (get_or ms i unit)) (corner_poly i l).canonical

  corner_whole : (T i : ℕ) (row : List ℕ) → i < length ms → IsRow A.prime (length ms) (set (replicate (length ms) 0) i 1) → AreDigits A ms T [] row
      → AreDigits A ms (suc T) (polynomial_of (get_or ms i unit)) (set (replicate (length ms) 0) i 1 ++ row)
  corner_whole T i row l fits a =
      s.blocks.append T (polynomial_of (get_or ms i unit)) [] (set (replicate (length ms) 0) i 1) row (corner_poly i l) (poly_none A.prime A.variables) fits a
      (subst (InIdeal A.prime A.variables (denominator_power A (suc T) ∷ A.ideal)) (sym (ap (sub A.prime (polynomial_of (get_or ms i unit))) (corner_split i l) ∙ sub_self A.prime (polynomial_of (get_or ms i unit)) pos))
      (in_none A.prime A.variables (denominator_power A (suc T) ∷ A.ideal)))

  -- a product by the value of a row in place of f
  pub of_value : (t : ℕ) (q f : List Term) (row b : List ℕ) → P q → P f → AreDigits A ms (suc t) f row → B t (mul A.prime q (value A ms (suc t) row)) b → B t (mul A.prime q f) b
  of_value t q f row b hq hf a x = record { fits = x.fits; row = x.row; digits = (s.laws (suc t)).product q f row x.row hq hf a x.digits; last = x.last }

  -- one block more
  pub more : (t : ℕ) (f : List Term) (row b : List ℕ) → P f → AreDigits A ms t f row → B t f b → AreDigits A ms (suc t) f (row ++ b)
  more t f row b hf a x = subst (AreDigits A ms (suc t) f) (sym same) x.digits
    where
      N : ℕ
      N = length ms

      long : length x.row ≡ length ms * suc t
      long = x.digits.fits.0

      front : take (length ms * t) x.row ≡ row
      front = (s.laws t).unique f (take (length ms * t) x.row) row hf
          (s.blocks.truncated t 1 f x.row hf (subst (λ z. AreDigits A ms z f x.row) (let q : suc t ≡ t + 1 = omega arith in q) x.digits)) a

      back : drop (length ms * t) x.row ≡ b
      back = ext_get_or 0 (drop (length ms * t) x.row) b
          (let q : length (drop (length ms * t) x.row) ≡ length x.row - length ms * t = length-drop (length ms * t) x.row in let w : length b ≡ length ms = x.fits.0 in let z = long in omega arith)
          (λ i h. get_or-drop (length ms * t) x.row i 0
          ∙ x.last i (let q : length (drop (length ms * t) x.row) ≡ length x.row - length ms * t = length-drop (length ms * t) x.row in let z = long in omega arith))

      same : row ++ b ≡ x.row
      same = ap₂ ◌++◌ (sym front) (sym back) ∙ take-append-drop (length ms * t) x.row

  pub zeros_fit : IsRow A.prime (length ms) (replicate (length ms) 0)
  zeros_fit = (length-replicate (length ms) 0, All-replicate (λ e. e < A.prime) (length ms) 0 pos)

  unit_fits : (i : ℕ) → IsRow A.prime (length ms) (set (replicate (length ms) 0) i 1)
  unit_fits i = (
    length-set (replicate (length ms) 0) i 1 ∙ length-replicate (length ms) 0,
    All-set (λ e. e < A.prime) (replicate (length ms) 0) i 1 two (All-replicate (λ e. e < A.prime) (length ms) 0 pos),
  )

  -- the first block of a corner is a unit row, and the others are 0
  corner_first : (i : ℕ) → i < length ms → B 0 (polynomial_of (get_or ms i unit)) (set (replicate (length ms) 0) i 1)
  corner_first i l =
      let r = (s.laws 0).exist [] (poly_none A.prime A.variables) in record {
        fits = unit_fits i;
        row = set (replicate (length ms) 0) i 1 ++ r.0;
        digits = corner_whole 0 i r.0 l (unit_fits i) r.1;
        last = λ k h.
            ap (λ z. get_or (set (replicate (length ms) 0) i 1 ++ r.0) z 0) (let q : length ms * 0 + k ≡ k = omega arith in q)
            ∙ get_or_append_left (set (replicate (length ms) 0) i 1) r.0 0 k (let q : length (set (replicate (length ms) 0) i 1) ≡ length ms = (unit_fits i).0 in omega arith);
      }

  corner_later : (t i : ℕ) → i < length ms → B (suc t) (polynomial_of (get_or ms i unit)) (replicate (length ms) 0)
  corner_later t i l =
      let z = none t (replicate (length ms) 0) zeros_fit (λ k h. get_or-replicate (length ms) k 0 0 h) in record {
        fits = zeros_fit;
        row = set (replicate (length ms) 0) i 1 ++ z.row;
        digits = corner_whole (suc t) i z.row l (unit_fits i) z.digits;
        last = λ k h.
            get_or-append_right (set (replicate (length ms) 0) i 1) z.row (length ms) (length ms * suc t + k) 0 (unit_fits i).0 (omega arith)
            ∙ ap (λ j. get_or z.row j 0) (let q : length ms * suc t + k - length ms ≡ length ms * t + k = omega arith in q)
            ∙ z.last k h;
      }

  residue : (a : List ℕ) (k : ℕ) → IsRow A.prime (length ms) a → k < length ms → get_or a k 0 % A.prime ≡ get_or a k 0
  residue a k h l = mod-eq_of_lt (h.1 k 0 (let q = h.0 in omega arith))

  plus_term : (t c : ℕ) (m : Monomial) (f : List Term) (a b out : List ℕ) → P f → P (polynomial_of m) → B t f a → B t (polynomial_of m) b → IsRow A.prime (length ms) out
      → ((i : ℕ) → i < length ms → get_or out i 0 ≡ (get_or a i 0 + c * get_or b i 0) % A.prime) → B t (add A.prime f (record { coeff = c; mono = m } ∷ [])) out
  plus_term t c m f a b out hf hm x y fits e = subst (λ z. B t z out) (term_of A.prime c m f) (plus t c f (polynomial_of m) a b out hf hm x y fits e)

  -- a multiple of a corner more
  pub plus_corner : (t c i : ℕ) (f : List Term) (a out : List ℕ) → P f → i < length ms → B t f a → IsRow A.prime (length ms) out
      → (t ≡ 0 → get_or out i 0 ≡ (get_or a i 0 + c) % A.prime) → ((k : ℕ) → (k ≡ i → 0 < t) → get_or out k 0 ≡ get_or a k 0)
      → B t (add A.prime f (record { coeff = c; mono = get_or ms i unit } ∷ [])) out
  plus_corner zero c i f a out hf l x fits first others =
      plus_term 0 c (get_or ms i unit) f a (set (replicate (length ms) 0) i 1) out hf (corner_poly i l) x (corner_first i l) fits each
    where
      each : (k : ℕ) → k < length ms → get_or out k 0 ≡ (get_or a k 0 + c * get_or (set (replicate (length ms) 0) i 1) k 0) % A.prime
      each k h = go (ℕ_discrete k i)
        where
          go : Dec (k ≡ i) → get_or out k 0 ≡ (get_or a k 0 + c * get_or (set (replicate (length ms) 0) i 1) k 0) % A.prime
          go (yes e) =
              ap (λ z. get_or out z 0) e ∙ first refl
              ∙ sym (ap (λ z. (get_or a z 0 + c * get_or (set (replicate (length ms) 0) i 1) z 0) % A.prime) e
              ∙ ap (λ z. (get_or a i 0 + c * z) % A.prime) (get_or-set_same (replicate (length ms) 0) i 1 0 (let q : length {A = ℕ} (replicate (length ms) 0) ≡ length ms = length-replicate (length ms) 0 in omega arith))
              ∙ ap (λ z. (get_or a i 0 + z) % A.prime) (let q : c * 1 ≡ c = omega arith in q))
          go (no n) =
              others k (λ e. absurd (n e))
              ∙ sym (ap (λ z. (get_or a k 0 + c * z) % A.prime) (get_or-set_other (replicate (length ms) 0) i k 1 0 n ∙ get_or-replicate (length ms) k 0 0 h)
              ∙ ap (λ z. z % A.prime) (let q : get_or a k 0 + c * 0 ≡ get_or a k 0 = omega arith in q)
              ∙ residue a k x.fits h)
  plus_corner (suc t) c i f a out hf l x fits first others =
      plus_term (suc t) c (get_or ms i unit) f a (replicate (length ms) 0) out hf (corner_poly i l) x (corner_later t i l) fits
      (λ k h. others k (λ e. omega arith)
      ∙ sym (ap (λ z. (get_or a k 0 + c * z) % A.prime) (get_or-replicate (length ms) k 0 0 h)
      ∙ ap (λ z. z % A.prime) (let q : get_or a k 0 + c * 0 ≡ get_or a k 0 = omega arith in q)
      ∙ residue a k x.fits h))

  -- a row as long as t + 1 blocks has the digits at least at this depth
  pub deep_enough : (n t T : ℕ) → 0 < n → n * t + n ≤ n * T → t < T
  deep_enough n t T h l = go (nat_cmp t T) (ranks t T)
    where
      go : (r : Ordering) → MatchOrdering r (t < T) (t ≡ T) (T < t) → t < T
      go Less q = q
      go Equal q = let e : n * t ≡ n * T = ap (λ z. n * z) q in absurd (omega arith)
      go Greater q = let e : n * T ≤ n * t = mul-le-mul_left n (let w : T ≤ t = omega arith in w) in absurd (omega arith)

  -- a multiple of a monomial with a row more
  pub plus_row : (t c T : ℕ) (m : Monomial) (f : List Term) (row a out : List ℕ) → 0 < length ms → P f → IsAffine A.variables m → AreDigits A ms T (polynomial_of m) row
      → length ms * t + length ms ≤ length row → B t f a → IsRow A.prime (length ms) out
      → ((i : ℕ) → i < length ms → get_or out i 0 ≡ (get_or a i 0 + c * get_or row (length ms * t + i) 0) % A.prime)
      → B t (add A.prime f (record { coeff = c; mono = m } ∷ [])) out
  plus_row t c T m f row a out some hf hm digits long x fits e =
      plus_term t c m f a block out hf poly x (block_at T t (polynomial_of m) row block poly digits deep block_fits (λ i h. sym (block_is i h))) fits
      (λ i h. e i h ∙ ap (λ z. (get_or a i 0 + c * z) % A.prime) (sym (block_is i h)))
    where
      block : List ℕ
      block = take (length ms) (drop (length ms * t) row)

      poly : P (polynomial_of m)
      poly = record { canonical = ((omega arith), two, tt, tt); affine = (hm, tt) }

      deep : t < T
      deep = deep_enough (length ms) t T some (let q : length row ≡ length ms * T = digits.fits.0 in omega arith)

      block_is : (i : ℕ) → i < length ms → get_or block i 0 ≡ get_or row (length ms * t + i) 0
      block_is i h = get_or-take (length ms) (drop (length ms * t) row) i 0 h ∙ get_or-drop (length ms * t) row i 0

      block_fits : IsRow A.prime (length ms) block
      block_fits = (
        length-take-le (length ms) (drop (length ms * t) row) (let q : length (drop (length ms * t) row) ≡ length row - length ms * t = length-drop (length ms * t) row in omega arith),
        All-take (λ z. z < A.prime) (length ms) (drop (length ms * t) row) (All-drop (λ z. z < A.prime) (length ms * t) row digits.fits.1),
      )

  -- ---- products by a variable

  abbrev U : List (List Term)
  U = map polynomial_of ms

  abbrev corners_sum : List ℕ → List Term
  corners_sum a = number_combination A.prime a U

  -- one more corner in the sum
  pub product_more : (v k : ℕ) (g : List Term) (a : List ℕ) → P g → k < length ms → length a ≡ length ms → P (mul A.prime (polynomial_of (variable v)) (corners_sum (take k a)))
      → add A.prime g (mul A.prime (polynomial_of (variable v)) (corners_sum (take (suc k) a)))
      ≡ add A.prime (add A.prime g (mul A.prime (polynomial_of (variable v)) (corners_sum (take k a)))) (record { coeff = get_or a k 0; mono = times (get_or ms k unit) (variable v) } ∷ [])
  product_more v k g a hg l e hp =
      let q = polynomial_of (variable v) in
      let x = corners_sum (take k a) in
      let c = get_or a k 0 in
      let at : get_or U k [] ≡ polynomial_of (get_or ms k unit) = get_or-map polynomial_of ms k unit [] l in
      ap (λ z. add A.prime g (mul A.prime q z)) (combination_more A.prime a U k (omega arith) (e ∙ sym (length-map ms polynomial_of)) ∙ ap (λ z. add A.prime x (multiple A.prime c z)) at)
      ∙ ap (add A.prime g) (mul-add A.prime q x (multiple A.prime c (polynomial_of (get_or ms k unit))))
      ∙ ap (λ z. add A.prime g (add A.prime (mul A.prime q x) z))
      (mul_comm A.prime q (multiple A.prime c (polynomial_of (get_or ms k unit))) ∙ multiple-mul A.prime c (polynomial_of (get_or ms k unit)) q
      ∙ ap (multiple A.prime c) (mul_comm A.prime (polynomial_of (get_or ms k unit)) q ∙ variable_times A.prime v (get_or ms k unit) two))
      ∙ sym (add_assoc A.prime g (mul A.prime q x) (multiple A.prime c (polynomial_of (times (get_or ms k unit) (variable v)))))
      ∙ term_of A.prime c (times (get_or ms k unit) (variable v)) (add A.prime g (mul A.prime q x))

  -- one more block of the factor: what is below moves up
  pub product_step : (r : ℕ) (q : List Term) (a b out : List ℕ) → P q → IsRow A.prime (length ms) a → IsRow A.prime (length ms * r) b
      → B r (add A.prime (mul A.prime A.denominator (mul A.prime q (value A ms r b))) (mul A.prime q (corners_sum a))) out
      → B (suc r) (mul A.prime A.denominator (mul A.prime q (value A ms (suc r) (a ++ b)))) out
  product_step r q a b out hq ha hb x =
      up r (mul A.prime q (value A ms (suc r) (a ++ b))) out poly (subst (λ z. B r z out) (sym same) x)
    where
      v : List Term
      v = value A ms r b

      whole : IsRow A.prime (length ms * suc r) (a ++ b)
      whole = (length-append a b ∙ (let l : length a ≡ length ms = ha.0 in let m : length b ≡ length ms * r = hb.0 in omega arith), All-append (λ z. z < A.prime) a b ha.1 hb.1)

      poly : P (mul A.prime q (value A ms (suc r) (a ++ b)))
      poly = poly_mul A.prime A.variables q (value A ms (suc r) (a ++ b)) pos hq ((s.laws (suc r)).row (a ++ b) whole).0

      same : mul A.prime q (value A ms (suc r) (a ++ b)) ≡ add A.prime (mul A.prime A.denominator (mul A.prime q v)) (mul A.prime q (corners_sum a))
      same =
          ap (mul A.prime q) (s.split r a b ha.0)
          ∙ mul-add A.prime q (corners_sum a) (mul A.prime A.denominator v)
          ∙ ap (add A.prime (mul A.prime q (corners_sum a))) (sym (mul_assoc A.prime q A.denominator v) ∙ ap (λ z. mul A.prime z v) (mul_comm A.prime q A.denominator) ∙ mul_assoc A.prime A.denominator q v)
          ∙ add_comm A.prime (mul A.prime q (corners_sum a)) (mul A.prime A.denominator (mul A.prime q v))
