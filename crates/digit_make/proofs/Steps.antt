-- The steps of the calls that add blocks.
use Rattle.std.proofs.Common.{◌≡◌, ℕ, zero, suc, ◌+◌, ◌-◌, ◌*◌, ◌%◌, ◌<◌, ◌≤◌, List, [], ◌∷◌, ◌++◌, map, length, get_or, set, take, drop, replicate, refl, sym, ap, ap₂, ◌∙◌, subst, arith, mul-add}
use Rattle.std.specs.List.{All}
use native.Mathlib.Decide.{ℕ_discrete}
use Rattle.std.proofs.Math.Nat.{le_of_mul-le-mul_left, le_antisymm}
use Rattle.std.proofs.lemmas.List.{append_assoc, drop-drop, ext_get_or, get_or_default, get_or-map, get_or-replicate, get_or-set_other, get_or-set_same, get_or-take, get_or-drop, length-drop, length-map, length-set, length-take-le, take_all, take_more, take-append-drop}
use Rattle.std.proofs.lemmas.List.Elements.{All-get_or, All-head, All-tail, All-take, All-drop}
use Rattle.lane_rows.specs.Rows.{AreResidues, plus_multiple}
use Rattle.monomials.specs.Mono.{Monomial, unit, times, variable}
use Rattle.prime_field.proofs.Table.{above_one}
use Rattle.polys.specs.declared.term.Term.{Term}
use Rattle.polys.specs.Terms.{EachMono, IsAffine, IsPoly, add, sub, mul, normal}
use Rattle.polys.specs.Ideal.{InIdeal, number_combination}
use Rattle.polys.specs.Curve.{CurveData}
use Rattle.polys.proofs.Affine.{poly_add, poly_mul, poly_none, poly_normal, poly_sub}
use Rattle.polys.proofs.Each.{every_append, every_take}
use Rattle.polys.proofs.Sums.{add_normal_left, add_normal_right, mul_none}
use Rattle.polys.proofs.Units.{add_none, canonical_same}
use Rattle.ideal_laws.proofs.Differences.{sub_swap}
use Rattle.ideal_laws.proofs.Ideals.{in_multiple}
use Rattle.ideal_laws.proofs.Multiples.{multiple_zero}
use Rattle.row_space.specs.Echelon.{IsRow}
use Rattle.standard_monomials.specs.Standard.{polynomial_of}
use Rattle.digit_laws.specs.Digits.{AreDigits, value}
use Rattle.standard_monomials.proofs.Powers.{affine_power}
use Rattle.digit_plan.specs.declared.plan.Place.{Place}
use Rattle.digit_plan.specs.declared.plan.Place.TheVariants.{Corner, Border, Outer}
use Rattle.digit_plan.specs.declared.plan.Share.{Share}
use Rattle.digit_plan.specs.declared.plan.Plan.{Plan}
use Rattle.digit_make.specs.Blocks.{AreKnown, IsBlock, IsKnown}
use Rattle.digit_plan.specs.Planned.{IsPlan, IsLeadSum, IsPlace, AreShares, curve_of, monomial_at, sum_of, terms_at}
use Rattle.digit_make.specs.Rows.{HasBlock, IsBlockRow, Adds, corners_multiple}
use Rattle.digit_make.proofs.Expansion.{alike, deep_enough, down, more, none, of_value, pos, plus_row, plus_corner, product_more, product_step, term_of, up, up_first, variable_times, zeros_fit}
use Rattle.digit_make.proofs.Settings.{setting}

pub at_zip : (p c : ℕ) (xs ys : List ℕ) (i : ℕ) → i < length xs → length ys ≡ length xs → get_or (plus_multiple p c xs ys) i 0 ≡ (get_or xs i 0 + c * get_or ys i 0) % p
at_zip p c [] ys i h l = absurd (omega arith)
at_zip p c (x ∷ xs) [] i h l = absurd (omega arith)
at_zip p c (x ∷ xs) (y ∷ ys) zero h l = refl
at_zip p c (x ∷ xs) (y ∷ ys) (suc i) h l = at_zip p c xs ys i (omega arith) (omega arith)

-- the entries after a multiple of a block was added
pub block_sum : (p c t : ℕ) (out row new : List ℕ) → new ≡ plus_multiple p c out (take (length out * t + length out - length out * t) (drop (length out * t) row))
    → length out * t + length out ≤ length row → (i : ℕ) → i < length out → get_or new i 0 ≡ (get_or out i 0 + c * get_or row (length out * t + i) 0) % p
block_sum p c t out row new e l i h =
    let whole : length out * t + length out - length out * t ≡ length out = omega arith in
    let rest : length (drop (length out * t) row) ≡ length row - length out * t = length-drop (length out * t) row in
    let part = take (length out * t + length out - length out * t) (drop (length out * t) row) in
    let long : length part ≡ length out = length-take-le (length out * t + length out - length out * t) (drop (length out * t) row) (omega arith) ∙ whole in
    ap (λ z. get_or z i 0) e
    ∙ at_zip p c out part i h long
    ∙ ap (λ z. (get_or out i 0 + c * z) % p) (get_or-take (length out * t + length out - length out * t) (drop (length out * t) row) i 0 (omega arith) ∙ get_or-drop (length out * t) row i 0)

-- ---- a plan and its rows

known_at : (A : CurveData) (ms monomials : List Monomial) (rows : List (List ℕ)) → AreKnown A ms monomials rows → (j : ℕ) (row : List ℕ) → j < length monomials → row ≡ get_or rows j row
    → IsKnown A ms (get_or monomials j unit) row
known_at A ms monomials rows k j row l e = subst (IsKnown A ms (get_or monomials j unit)) (sym e) (k.each j row l)

-- d times the variable times the value of the last r of the first t + 1 blocks of the row
abbrev pub tail_product : Plan → ℕ → ℕ → ℕ → List ℕ → List Term
tail_product plan v t r row =
    let A = curve_of plan in
    mul A.prime A.denominator (mul A.prime (polynomial_of (variable v)) (value A plan.corners r (drop (length plan.corners * (suc t - r)) (take (length plan.corners * suc t) row))))

abbrev pub IsTail : Plan → ℕ → ℕ → ℕ → List ℕ → List ℕ → Type 0
IsTail plan v t r row out = IsBlock (curve_of plan) plan.corners r (tail_product plan v t r row) out

module _ (plan : Plan) (h : IsPlan plan) where
  abbrev A : CurveData
  A = curve_of plan

  pub known_residues : (m : Monomial) (row : List ℕ) → IsKnown (curve_of plan) plan.corners m row → AreResidues (curve_of plan).prime row
  known_residues m row k = k.1.fits.1

  -- a multiple of a block of a known row
  pub adds_row : (t c : ℕ) (m : Monomial) (row old new : List ℕ) → IsAffine (curve_of plan).variables m → IsKnown (curve_of plan) plan.corners m row → IsBlockRow plan old → IsBlockRow plan new
      → length old * t + length old ≤ length row
      → ((i : ℕ) → i < length old → get_or new i 0 ≡ (get_or old i 0 + c * get_or row (length old * t + i) 0) % (curve_of plan).prime)
      → Adds plan t old (record { coeff = c; mono = m } ∷ []) new
  adds_row t c m row old new a k fits fits' long sum f hf x =
      plus_row (curve_of plan) plan.corners (setting plan h) t c k.0 m f row old new h.some hf a k.1
      (subst (λ z. z * t + z ≤ length row) fits.0 long) x fits'
      (subst (λ z. (i : ℕ) → i < z → get_or new i 0 ≡ (get_or old i 0 + c * get_or row (z * t + i) 0) % (curve_of plan).prime) fits.0 sum)

  pub adds_corner : (t c i : ℕ) (old new : List ℕ) → i < length plan.corners → IsBlockRow plan new
      → (t ≡ 0 → get_or new i 0 ≡ (get_or old i 0 + c) % (curve_of plan).prime) → ((k : ℕ) → (k ≡ i → 0 < t) → get_or new k 0 ≡ get_or old k 0)
      → Adds plan t old (record { coeff = c; mono = get_or plan.corners i unit } ∷ []) new
  adds_corner t c i old new l fits first others f hf x = plus_corner (curve_of plan) plan.corners (setting plan h) t c i f old new hf l x fits first others

  -- the row that is read of those of the monomials
  pub row_read : (monomials : List Monomial) (rows list : List (List ℕ)) (j : ℕ) (item row : List ℕ) → AreKnown (curve_of plan) plan.corners monomials rows → j < length monomials
      → list ≡ rows → item ≡ get_or list j item → row ≡ item → IsKnown (curve_of plan) plan.corners (get_or monomials j unit) row
  row_read monomials rows list j item row k l e q r =
      subst (IsKnown (curve_of plan) plan.corners (get_or monomials j unit)) (sym (r ∙ q ∙ ap (λ z. get_or z j item) e)) (k.each j item l)

  pub read_residues : (p : ℕ) (monomials : List Monomial) (rows list : List (List ℕ)) (j : ℕ) (item row : List ℕ) → p ≡ (curve_of plan).prime → AreKnown (curve_of plan) plan.corners monomials rows
      → j < length monomials → list ≡ rows → item ≡ get_or list j item → row ≡ item → AreResidues p row
  read_residues p monomials rows list j item row s k l e q r = subst (λ z. AreResidues z row) (sym s) (row_read monomials rows list j item row k l e q r).1.fits.1

  -- such a row has the block, if it is among those of the rows
  pub read_made : (t n : ℕ) (rows list : List (List ℕ)) (j : ℕ) (item row : List ℕ) → j < length rows → list ≡ rows → item ≡ get_or list j item → row ≡ item → n ≡ length plan.corners
      → HasBlock plan t (get_or rows j []) → n * t + n ≤ length row
  read_made t n rows list j item row l e q r w b =
      subst (λ z. z * t + z ≤ length row) (sym w)
      (subst (HasBlock plan t) (sym (r ∙ q ∙ ap (λ z. get_or z j item) e ∙ get_or_default rows j item [] l)) b)

  -- what a call says that adds a block of such a row
  pub adds_read : (p t c : ℕ) (monomials : List Monomial) (rows list : List (List ℕ)) (j : ℕ) (item row old new : List ℕ) → p ≡ (curve_of plan).prime
      → AreKnown (curve_of plan) plan.corners monomials rows → All (IsAffine (curve_of plan).variables) monomials → j < length monomials
      → list ≡ rows → item ≡ get_or list j item → row ≡ item → IsBlockRow plan old → IsBlockRow plan new
      → length old * t + length old ≤ length row
      → ((i : ℕ) → i < length old → get_or new i 0 ≡ (get_or old i 0 + c * get_or row (length old * t + i) 0) % p)
      → Adds plan t old (record { coeff = c; mono = get_or monomials j unit } ∷ []) new
  adds_read p t c monomials rows list j item row old new s k a l q r w fits fits' long sum =
      adds_row t c (get_or monomials j unit) row old new (All-get_or (IsAffine (curve_of plan).variables) monomials j unit l a)
      (row_read monomials rows list j item row k l q r w) fits fits' long
      (subst (λ z. (i : ℕ) → i < length old → get_or new i 0 ≡ (get_or old i 0 + c * get_or row (length old * t + i) 0) % z) s sum)

  -- ---- shares

  pub affine_at : (place : Place) → IsPlace plan place → IsAffine (curve_of plan).variables (monomial_at plan place)
  affine_at (Corner i) l = All-get_or (IsAffine (curve_of plan).variables) plan.corners i unit l (setting plan h).affine
  affine_at (Border j) l = All-get_or (IsAffine (curve_of plan).variables) plan.border j unit l h.border
  affine_at (Outer j) l = All-get_or (IsAffine (curve_of plan).variables) plan.outer j unit l h.outer

  positive : 0 < (curve_of plan).prime
  positive = pos (curve_of plan) plan.corners (setting plan h)

  abbrev IsShare : Share → Type 0
  IsShare s = (s.coeff < (curve_of plan).prime) × IsPlace plan s.place

  shares_affine : (shares : List Share) → AreShares plan shares → EachMono (IsAffine (curve_of plan).variables) (terms_at plan shares)
  shares_affine [] a = tt
  shares_affine (s ∷ shares) a = (affine_at s.place (All-head IsShare s shares a).1, shares_affine shares (All-tail IsShare s shares a))

  pub nothing_added : (t : ℕ) (out : List ℕ) → Adds plan t out [] out
  nothing_added t out f hf x = subst (λ z. IsBlock (curve_of plan) plan.corners t z out) (sym (add_none (curve_of plan).prime f hf.canonical)) x

  pub shares_step : (t k : ℕ) (shares : List Share) (s : Share) (first old new : List ℕ) → AreShares plan shares → k < length shares → s ≡ get_or shares k s
      → Adds plan t first (take k (terms_at plan shares)) old → Adds plan t old (record { coeff = s.coeff; mono = monomial_at plan s.place } ∷ []) new
      → Adds plan t first (take (k + 1) (terms_at plan shares)) new
  shares_step t k shares s first old new a l e x y f hf b =
      subst (λ z. IsBlock (curve_of plan) plan.corners t z new) same (y (add p f (take k ts)) poly (x f hf b))
    where
      p : ℕ
      p = (curve_of plan).prime

      ts : List Term
      ts = terms_at plan shares

      u : Term
      u = record { coeff = s.coeff; mono = monomial_at plan s.place }

      poly : IsPoly p (curve_of plan).variables (add p f (take k ts))
      poly = poly_normal p (curve_of plan).variables (f ++ take k ts) positive
          (every_append (IsAffine (curve_of plan).variables) f (take k ts) hf.affine (every_take (IsAffine (curve_of plan).variables) k ts (shares_affine shares a)))

      at : get_or ts k u ≡ u
      at = get_or-map (λ (w : Share). record { coeff = w.coeff; mono = monomial_at plan w.place }) shares k s u l
          ∙ ap (λ (w : Share). record { coeff = w.coeff; mono = monomial_at plan w.place }) (sym e)

      more : take (k + 1) ts ≡ take k ts ++ u ∷ []
      more = take_more ts k u (let q : length ts ≡ length shares = length-map shares (λ (w : Share). record { coeff = w.coeff; mono = monomial_at plan w.place }) in omega arith) ∙ ap (λ z. take k ts ++ z ∷ []) at

      same : add p (add p f (take k ts)) (u ∷ []) ≡ add p f (take (k + 1) ts)
      same = add_normal_left p (f ++ take k ts) (u ∷ []) ∙ ap (normal p) (append_assoc f (take k ts) (u ∷ [])) ∙ ap (λ z. add p f z) (sym more)

  pub shares_end : (t k : ℕ) (shares : List Share) (first new : List ℕ) → length shares ≤ k → Adds plan t first (take k (terms_at plan shares)) new → Adds plan t first (sum_of plan shares) new
  shares_end t k shares first new l x f hf b =
      subst (λ z. IsBlock (curve_of plan) plan.corners t z new)
      (ap (add (curve_of plan).prime f) (take_all k (terms_at plan shares) (let q : length (terms_at plan shares) ≡ length shares = length-map shares (λ (w : Share). record { coeff = w.coeff; mono = monomial_at plan w.place }) in omega arith))
      ∙ sym (add_normal_right (curve_of plan).prime f (terms_at plan shares)))
      (x f hf b)

  -- ---- products by a variable

  variable_poly : (v : ℕ) → v < (curve_of plan).variables → IsPoly (curve_of plan).prime (curve_of plan).variables (polynomial_of (variable v))
  variable_poly v l = record {
    canonical = ((omega arith), above_one (curve_of plan).prime h.prime, tt, tt);
    affine = (affine_power (curve_of plan).variables v 1 l, tt);
  }

  multiple_poly : (v : ℕ) (a : List ℕ) → v < (curve_of plan).variables → IsPoly (curve_of plan).prime (curve_of plan).variables (corners_multiple plan v a)
  multiple_poly v a l = poly_mul (curve_of plan).prime (curve_of plan).variables (polynomial_of (variable v)) (number_combination (curve_of plan).prime a (map polynomial_of plan.corners)) positive (variable_poly v l) ((setting plan h).numbers a)

  pub products_start : (t v : ℕ) (a out : List ℕ) → Adds plan t out (corners_multiple plan v (take 0 a)) out
  products_start t v a out f hf x =
      subst (λ z. IsBlock (curve_of plan) plan.corners t z out) (sym (ap (add (curve_of plan).prime f) (mul_none (curve_of plan).prime (polynomial_of (variable v))) ∙ add_none (curve_of plan).prime f hf.canonical)) x

  pub products_step : (t v i c : ℕ) (place : Place) (a first old new : List ℕ) → v < (curve_of plan).variables → IsBlockRow plan a → i < length plan.corners → c ≡ get_or a i 0
      → monomial_at plan place ≡ times (get_or plan.corners i unit) (variable v)
      → Adds plan t first (corners_multiple plan v (take i a)) old → Adds plan t old (record { coeff = c; mono = monomial_at plan place } ∷ []) new
      → Adds plan t first (corners_multiple plan v (take (i + 1) a)) new
  products_step t v i c place a first old new l fits j e m x y f hf b =
      subst (λ z. IsBlock (curve_of plan) plan.corners t z new) (sym same)
      (y (add (curve_of plan).prime f (corners_multiple plan v (take i a))) (poly_add (curve_of plan).prime (curve_of plan).variables f (corners_multiple plan v (take i a)) positive hf (multiple_poly v (take i a) l)) (x f hf b))
    where
      same : add (curve_of plan).prime f (corners_multiple plan v (take (i + 1) a)) ≡ add (curve_of plan).prime (add (curve_of plan).prime f (corners_multiple plan v (take i a))) (record { coeff = c; mono = monomial_at plan place } ∷ [])
      same =
          ap (λ z. add (curve_of plan).prime f (corners_multiple plan v (take z a))) (let q : i + 1 ≡ suc i = omega arith in q)
          ∙ product_more (curve_of plan) plan.corners (setting plan h) v i f a hf j fits.0 (multiple_poly v (take i a) l)
          ∙ ap₂ (λ z w. add (curve_of plan).prime (add (curve_of plan).prime f (corners_multiple plan v (take i a))) (record { coeff = z; mono = w } ∷ [])) (sym e) (sym m)

  pub products_skip : (t v i : ℕ) (a first old : List ℕ) → v < (curve_of plan).variables → IsBlockRow plan a → i < length plan.corners → get_or a i 0 ≡ 0
      → Adds plan t first (corners_multiple plan v (take i a)) old → Adds plan t first (corners_multiple plan v (take (i + 1) a)) old
  products_skip t v i a first old l fits j e x f hf b = subst (λ z. IsBlock (curve_of plan) plan.corners t z old) (sym same) (x f hf b)
    where
      m : Monomial
      m = times (get_or plan.corners i unit) (variable v)

      g : List Term
      g = add (curve_of plan).prime f (corners_multiple plan v (take i a))

      same : add (curve_of plan).prime f (corners_multiple plan v (take (i + 1) a)) ≡ g
      same =
          ap (λ z. add (curve_of plan).prime f (corners_multiple plan v (take z a))) (let q : i + 1 ≡ suc i = omega arith in q)
          ∙ product_more (curve_of plan) plan.corners (setting plan h) v i f a hf j fits.0 (multiple_poly v (take i a) l)
          ∙ ap (λ z. add (curve_of plan).prime g (record { coeff = z; mono = m } ∷ [])) e
          ∙ sym (term_of (curve_of plan).prime 0 m g)
          ∙ ap (add (curve_of plan).prime g) (multiple_zero (curve_of plan).prime (polynomial_of m))
          ∙ add_none (curve_of plan).prime g (poly_add (curve_of plan).prime (curve_of plan).variables f (corners_multiple plan v (take i a)) positive hf (multiple_poly v (take i a) l)).canonical

  pub products_end : (t v n : ℕ) (a first new : List ℕ) → length a ≤ n → Adds plan t first (corners_multiple plan v (take n a)) new → Adds plan t first (corners_multiple plan v a) new
  products_end t v n a first new l x = subst (λ z. Adds plan t first (corners_multiple plan v z) new) (take_all n a l) x

  -- ---- the product of a variable and a monomial, whose row is gone through from its end

  front_fits : (t : ℕ) (row : List ℕ) → AreResidues (curve_of plan).prime row → length plan.corners * t + length plan.corners ≤ length row
      → IsRow (curve_of plan).prime (length plan.corners * suc t) (take (length plan.corners * suc t) row)
  front_fits t row a l = (length-take-le (length plan.corners * suc t) row (omega arith), All-take (λ z. z < (curve_of plan).prime) (length plan.corners * suc t) row a)

  back_fits : (t r : ℕ) (row : List ℕ) → r ≤ suc t → AreResidues (curve_of plan).prime row → length plan.corners * t + length plan.corners ≤ length row
      → IsRow (curve_of plan).prime (length plan.corners * r) (drop (length plan.corners * (suc t - r)) (take (length plan.corners * suc t) row))
  back_fits t r row m a l =
      let f = front_fits t row a l in
      let k : length plan.corners * suc t ≡ length plan.corners * (suc t - r) + length plan.corners * r = ap (λ z. length plan.corners * z) (let q : suc t ≡ suc t - r + r = omega arith in q) ∙ mul-add (length plan.corners) (suc t - r) r in (
        length-drop (length plan.corners * (suc t - r)) (take (length plan.corners * suc t) row) ∙ (let q = f.0 in omega arith),
        All-drop (λ z. z < (curve_of plan).prime) (length plan.corners * (suc t - r)) (take (length plan.corners * suc t) row) f.1,
      )

  pub tail_start : (v t : ℕ) (row out : List ℕ) → v < (curve_of plan).variables → AreResidues (curve_of plan).prime row → length plan.corners * t + length plan.corners ≤ length row
      → out ≡ replicate (length plan.corners) 0 → IsTail plan v t 0 row out
  tail_start v t row out l a m e =
      subst (IsTail plan v t 0 row) (sym e)
      (up_first (curve_of plan) plan.corners (setting plan h) (mul A.prime q (value A plan.corners 0 b)) (replicate (length plan.corners) 0)
      (poly_mul A.prime A.variables q (value A plan.corners 0 b) positive (variable_poly v l) (((setting plan h).laws 0).row b (back_fits t 0 row (omega arith) a m)).0)
      (zeros_fit (curve_of plan) plan.corners (setting plan h)) (λ i k. get_or-replicate (length plan.corners) i 0 0 k))
    where
      q : List Term
      q = polynomial_of (variable v)

      b : List ℕ
      b = drop (length plan.corners * (suc t - 0)) (take (length plan.corners * suc t) row)

  -- the block that the loop takes
  taken_is : (n x y : ℕ) (row : List ℕ) → x + n ≤ y → y ≤ length row → take (x + n - x) (drop x row) ≡ take n (drop x (take y row))
  taken_is n x y row l m = ext_get_or 0 (take (x + n - x) (drop x row)) (take n (drop x (take y row)))
      (length-take-le (x + n - x) (drop x row) (let q : length (drop x row) ≡ length row - x = length-drop x row in omega arith)
      ∙ (let q : x + n - x ≡ n = omega arith in q)
      ∙ sym (length-take-le n (drop x (take y row)) (let q : length (drop x (take y row)) ≡ length (take y row) - x = length-drop x (take y row) in let w : length (take y row) ≡ y = length-take-le y row m in omega arith)))
      (λ i k.
      let short : i < n = (let q : length (take (x + n - x) (drop x row)) ≡ x + n - x = length-take-le (x + n - x) (drop x row) (let q : length (drop x row) ≡ length row - x = length-drop x row in omega arith) in omega arith) in
      get_or-take (x + n - x) (drop x row) i 0 (omega arith) ∙ get_or-drop x row i 0
      ∙ sym (get_or-take n (drop x (take y row)) i 0 short ∙ get_or-drop x (take y row) i 0 ∙ get_or-take y row (x + i) 0 (omega arith)))

  pub tail_step : (v t r : ℕ) (row factors old new : List ℕ) → v < (curve_of plan).variables → r ≤ t → AreResidues (curve_of plan).prime row
      → length plan.corners * t + length plan.corners ≤ length row
      → factors ≡ take (length plan.corners * (t - r) + length plan.corners - length plan.corners * (t - r)) (drop (length plan.corners * (t - r)) row)
      → IsTail plan v t r row old → Adds plan r old (corners_multiple plan v factors) new → IsTail plan v t (r + 1) row new
  tail_step v t r row factors old new l m a k e x y =
      subst (λ z. IsTail plan v t z row new) (let q : suc r ≡ r + 1 = omega arith in q)
      (subst (λ z. IsBlock A plan.corners (suc r) (mul A.prime A.denominator (mul A.prime q (value A plan.corners (suc r) z))) new) whole
      (product_step (curve_of plan) plan.corners (setting plan h) r q first b new (variable_poly v l) first_fits b_fits
      (subst (λ z. IsBlock A plan.corners r (add A.prime (tail_product plan v t r row) (mul A.prime q (number_combination A.prime z (map polynomial_of plan.corners)))) new) same
      (y (tail_product plan v t r row) (poly_mul A.prime A.variables A.denominator (mul A.prime q (value A plan.corners r b)) positive (setting plan h).denominator
      (poly_mul A.prime A.variables q (value A plan.corners r b) positive (variable_poly v l) (((setting plan h).laws r).row b b_fits).0)) x))))
    where
      n : ℕ
      n = length plan.corners

      q : List Term
      q = polynomial_of (variable v)

      front : List ℕ
      front = take (length plan.corners * suc t) row

      b : List ℕ
      b = drop (length plan.corners * (suc t - r)) front

      b_fits : IsRow A.prime (length plan.corners * r) b
      b_fits = back_fits t r row (omega arith) a k

      d : List ℕ
      d = drop (length plan.corners * (suc t - suc r)) front

      d_fits : IsRow A.prime (length plan.corners * suc r) d
      d_fits = back_fits t (suc r) row (omega arith) a k

      first : List ℕ
      first = take (length plan.corners) d

      first_fits : IsRow A.prime (length plan.corners) first
      first_fits = (length-take-le (length plan.corners) d (let w : length d ≡ length plan.corners * suc r = d_fits.0 in omega arith), All-take (λ z. z < A.prime) (length plan.corners) d d_fits.1)

      step : length plan.corners * (suc t - r) ≡ length plan.corners * (suc t - suc r) + length plan.corners
      step = ap (λ z. length plan.corners * z) (let w : suc t - r ≡ suc (suc t - suc r) = omega arith in w) ∙ (let w : length plan.corners * suc (suc t - suc r) ≡ length plan.corners * (suc t - suc r) + length plan.corners = omega arith in w)

      whole : first ++ b ≡ d
      whole =
          ap (λ z. first ++ z) (ap (λ z. drop z front) step ∙ sym (drop-drop (length plan.corners) (length plan.corners * (suc t - suc r)) front))
          ∙ take-append-drop (length plan.corners) d

      same : factors ≡ first
      same = e
          ∙ taken_is (length plan.corners) (length plan.corners * (t - r)) (length plan.corners * suc t) row
          (let w : length plan.corners * suc t ≡ length plan.corners * (t - r) + length plan.corners * suc r = ap (λ z. length plan.corners * z) (let w : suc t ≡ t - r + suc r = omega arith in w) ∙ mul-add (length plan.corners) (t - r) (suc r) in omega arith)
          (omega arith)
          ∙ ap (λ z. take (length plan.corners) (drop (length plan.corners * z) front)) (let w : t - r ≡ suc t - suc r = omega arith in w)

  pub tail_end : (v t r : ℕ) (m : Monomial) (row out : List ℕ) → v < (curve_of plan).variables → IsAffine (curve_of plan).variables m → IsKnown (curve_of plan) plan.corners m row
      → length plan.corners * t + length plan.corners ≤ length row → r ≡ suc t → IsTail plan v t r row out → IsBlock (curve_of plan) plan.corners t (polynomial_of (times m (variable v))) out
  tail_end v t r m row out l a k j e x =
      subst (λ z. IsBlock A plan.corners t z out) (variable_times A.prime v m (above_one A.prime h.prime))
      (of_value A plan.corners (setting plan h) t q (polynomial_of m) front out (variable_poly v l) poly digits
      (down A plan.corners (setting plan h) t (mul A.prime q (value A plan.corners (suc t) front)) out
      (poly_mul A.prime A.variables q (value A plan.corners (suc t) front) positive (variable_poly v l) (((setting plan h).laws (suc t)).row front (front_fits t row k.1.fits.1 j)).0)
      (subst (λ z. IsBlock A plan.corners (suc t) (mul A.prime A.denominator (mul A.prime q (value A plan.corners (suc t) z))) out) all
      (subst (λ z. IsTail plan v t z row out) e x))))
    where
      q : List Term
      q = polynomial_of (variable v)

      front : List ℕ
      front = take (length plan.corners * suc t) row

      poly : IsPoly A.prime A.variables (polynomial_of m)
      poly = record { canonical = ((omega arith), above_one A.prime h.prime, tt, tt); affine = (a, tt) }

      deep : t < k.0
      deep = deep_enough A plan.corners (setting plan h) (length plan.corners) t k.0 h.some (let w : length row ≡ length plan.corners * k.0 = k.1.fits.0 in omega arith)

      digits : AreDigits A plan.corners (suc t) (polynomial_of m) front
      digits = (setting plan h).blocks.truncated (suc t) (k.0 - suc t) (polynomial_of m) row poly (subst (λ z. AreDigits A plan.corners z (polynomial_of m) row) (let w : k.0 ≡ suc t + (k.0 - suc t) = omega (arith, deep) in w) k.1)

      all : drop (length plan.corners * (suc t - suc t)) front ≡ front
      all = ap (λ z. drop z front) (let w : length plan.corners * (suc t - suc t) ≡ 0 = ap (λ z. length plan.corners * z) (let u : suc t - suc t ≡ 0 = omega arith in u) ∙ (let u : length plan.corners * 0 ≡ 0 = omega arith in u) in w)

  -- ---- leads

  shares_poly : (shares : List Share) → AreShares plan shares → IsPoly (curve_of plan).prime (curve_of plan).variables (sum_of plan shares)
  shares_poly shares a = poly_normal (curve_of plan).prime (curve_of plan).variables (terms_at plan shares) positive (shares_affine shares a)

  lifted_poly : (shares : List Share) → AreShares plan shares → IsPoly (curve_of plan).prime (curve_of plan).variables (mul (curve_of plan).prime (curve_of plan).denominator (sum_of plan shares))
  lifted_poly shares a = poly_mul (curve_of plan).prime (curve_of plan).variables (curve_of plan).denominator (sum_of plan shares) positive (setting plan h).denominator (shares_poly shares a)

  zeros_row : (out : List ℕ) → out ≡ replicate (length plan.corners) 0 → IsBlockRow plan out
  zeros_row out e = subst (IsBlockRow plan) (sym e) (zeros_fit (curve_of plan) plan.corners (setting plan h))

  zeros_are : (out : List ℕ) → out ≡ replicate (length plan.corners) 0 → (i : ℕ) → i < length plan.corners → get_or out i 0 ≡ 0
  zeros_are out e i l = ap (λ z. get_or z i 0) e ∙ get_or-replicate (length plan.corners) i 0 0 l

  -- the block of d times the lift: no lift at the first block, and else that of the lift one block before
  pub lift_first : (t : ℕ) (lift : List Share) (out : List ℕ) → AreShares plan lift → t ≡ 0 → out ≡ replicate (length plan.corners) 0
      → IsBlock (curve_of plan) plan.corners t (mul (curve_of plan).prime (curve_of plan).denominator (sum_of plan lift)) out
  lift_first t lift out a e z =
      subst (λ k. IsBlock (curve_of plan) plan.corners k (mul (curve_of plan).prime (curve_of plan).denominator (sum_of plan lift)) out) (sym e)
      (up_first (curve_of plan) plan.corners (setting plan h) (sum_of plan lift) out (shares_poly lift a) (zeros_row out z) (zeros_are out z))

  pub lift_later : (t : ℕ) (lift : List Share) (old out : List ℕ) → AreShares plan lift → 0 < t → old ≡ replicate (length plan.corners) 0 → Adds plan (t - 1) old (sum_of plan lift) out
      → IsBlock (curve_of plan) plan.corners t (mul (curve_of plan).prime (curve_of plan).denominator (sum_of plan lift)) out
  lift_later t lift old out a l z x =
      subst (λ k. IsBlock (curve_of plan) plan.corners k (mul (curve_of plan).prime (curve_of plan).denominator (sum_of plan lift)) out) (let q : suc (t - 1) ≡ t = omega arith in q)
      (up (curve_of plan) plan.corners (setting plan h) (t - 1) (sum_of plan lift) out (shares_poly lift a)
      (subst (λ k. IsBlock (curve_of plan) plan.corners (t - 1) k out) alone
      (x [] (poly_none (curve_of plan).prime (curve_of plan).variables) (none (curve_of plan) plan.corners (setting plan h) (t - 1) old (zeros_row old z) (zeros_are old z)))))
    where
      alone : add (curve_of plan).prime [] (sum_of plan lift) ≡ sum_of plan lift
      alone = canonical_same (curve_of plan).prime (sum_of plan lift) (shares_poly lift a).canonical

  pub lead_end : (t : ℕ) (m : Monomial) (tail lift : List Share) (old out : List ℕ) → IsAffine (curve_of plan).variables m → AreShares plan tail → AreShares plan lift → IsLeadSum plan m tail lift
      → IsBlock (curve_of plan) plan.corners t (mul (curve_of plan).prime (curve_of plan).denominator (sum_of plan lift)) old → Adds plan t old (sum_of plan tail) out
      → IsBlock (curve_of plan) plan.corners t (polynomial_of m) out
  lead_end t m tail lift old out a ta la e b x =
      alike (curve_of plan) plan.corners (setting plan h) t g (polynomial_of m) out g_poly m_poly flipped (x (mul (curve_of plan).prime (curve_of plan).denominator (sum_of plan lift)) (lifted_poly lift la) b)
    where
      p : ℕ
      p = (curve_of plan).prime

      g : List Term
      g = add p (mul p (curve_of plan).denominator (sum_of plan lift)) (sum_of plan tail)

      g_poly : IsPoly p (curve_of plan).variables g
      g_poly = poly_add p (curve_of plan).variables (mul p (curve_of plan).denominator (sum_of plan lift)) (sum_of plan tail) positive (lifted_poly lift la) (shares_poly tail ta)

      m_poly : IsPoly p (curve_of plan).variables (polynomial_of m)
      m_poly = record { canonical = ((omega arith), above_one p h.prime, tt, tt); affine = (a, tt) }

      flipped : InIdeal p (curve_of plan).variables (curve_of plan).ideal (sub p g (polynomial_of m))
      flipped = subst (InIdeal p (curve_of plan).variables (curve_of plan).ideal) (sym (sub_swap p (polynomial_of m) g (sub p (polynomial_of m) g) positive refl))
          (in_multiple p (curve_of plan).variables (curve_of plan).ideal (p - 1) (sub p (polynomial_of m) g) positive (poly_sub p (curve_of plan).variables (polynomial_of m) g positive m_poly g_poly) e)

  -- ---- rows that grow

  -- a row that has just the blocks before gains one
  pub grown : (t : ℕ) (m : Monomial) (row block : List ℕ) → IsAffine (curve_of plan).variables m → IsKnown (curve_of plan) plan.corners m row → length row ≡ length plan.corners * t
      → IsBlock (curve_of plan) plan.corners t (polynomial_of m) block → IsKnown (curve_of plan) plan.corners m (row ++ block)
  grown t m row block a k e b = (suc t, more (curve_of plan) plan.corners (setting plan h) t (polynomial_of m) row block poly (subst (λ z. AreDigits (curve_of plan) plan.corners z (polynomial_of m) row) same k.1) b)
    where
      poly : IsPoly (curve_of plan).prime (curve_of plan).variables (polynomial_of m)
      poly = record { canonical = ((omega arith), above_one (curve_of plan).prime h.prime, tt, tt); affine = (a, tt) }

      products : length plan.corners * k.0 ≡ length plan.corners * t
      products = sym k.1.fits.0 ∙ e

      same : k.0 ≡ t
      same = le_antisymm (le_of_mul-le-mul_left (let w = products in omega arith) h.some) (le_of_mul-le-mul_left (let w = products in omega arith) h.some)

  -- the rows with one in the place of another
  pub known_set : (monomials : List Monomial) (rows : List (List ℕ)) (j : ℕ) (row : List ℕ) → AreKnown (curve_of plan) plan.corners monomials rows → j < length monomials
      → IsKnown (curve_of plan) plan.corners (get_or monomials j unit) row → AreKnown (curve_of plan) plan.corners monomials (set rows j row)
  known_set monomials rows j row k l new = record { count = length-set rows j row ∙ k.count; each = λ i d m. go i d m (ℕ_discrete i j) }
    where
      go : (i : ℕ) (d : List ℕ) → i < length monomials → Dec (i ≡ j) → IsKnown (curve_of plan) plan.corners (get_or monomials i unit) (get_or (set rows j row) i d)
      go i d m (yes e) =
          subst (λ z. IsKnown (curve_of plan) plan.corners (get_or monomials z unit) (get_or (set rows j row) z d)) (sym e)
          (subst (IsKnown (curve_of plan) plan.corners (get_or monomials j unit)) (sym (get_or-set_same rows j row d (let w = k.count in omega arith))) new)
      go i d m (no n) = subst (IsKnown (curve_of plan) plan.corners (get_or monomials i unit)) (sym (get_or-set_other rows j i row d n)) (k.each i d m)

  -- the rows after one has gained a block
  pub grown_list : (t : ℕ) (monomials : List Monomial) (rows list made read : List (List ℕ)) (j : ℕ) (m : Monomial) (item block slice : List ℕ) (long n : ℕ)
      → AreKnown (curve_of plan) plan.corners monomials rows → All (IsAffine (curve_of plan).variables) monomials → j < length monomials
      → list ≡ rows → made ≡ set list j (get_or list j [] ++ slice) → slice ≡ block → m ≡ get_or monomials j unit
      → item ≡ get_or read j item → read ≡ rows → long ≡ length item → long ≡ n * t → n ≡ length plan.corners
      → IsBlock (curve_of plan) plan.corners t (polynomial_of m) block → AreKnown (curve_of plan) plan.corners monomials made
  grown_list t monomials rows list made read j m item block slice long n k a l e1 e2 e3 e4 e5 e6 e7 e8 e9 b =
      subst (AreKnown (curve_of plan) plan.corners monomials) (sym (e2 ∙ ap (λ z. set z j (get_or z j [] ++ slice)) e1 ∙ ap (λ z. set rows j (get_or rows j [] ++ z)) e3))
      (known_set monomials rows j (get_or rows j [] ++ block) k l
      (grown t (get_or monomials j unit) (get_or rows j []) block (All-get_or (IsAffine (curve_of plan).variables) monomials j unit l a) (k.each j [] l)
      (ap length (sym item_is) ∙ sym e7 ∙ e8 ∙ ap (λ z. z * t) e9)
      (subst (λ z. IsBlock (curve_of plan) plan.corners t (polynomial_of z) block) e4 b)))
    where
      item_is : item ≡ get_or rows j []
      item_is = e5 ∙ ap (λ z. get_or z j item) e6 ∙ get_or_default rows j item [] (let w = k.count in omega arith)
