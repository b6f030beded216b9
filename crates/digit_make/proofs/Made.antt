-- From a plan and its rows to digits.
use Rattle.std.proofs.Common.{◌≡◌, ℕ, suc, ◌+◌, ◌-◌, ◌*◌, ◌<◌, ◌≤◌, List, [], ◌∷◌, ◌++◌, length, get_or, take, drop, replicate, sym, ap, ap₂, ◌∙◌, subst, arith}
use Rattle.std.specs.declared.cmp.Ordering.{Ordering}
use Rattle.std.specs.declared.cmp.Ordering.TheVariants.{Less, Equal, Greater}
use Rattle.std.specs.Ordering.{nat_cmp, MatchOrdering}
use Rattle.std.specs.Cmp.{ranks}
use Rattle.std.specs.List.{All}
use Rattle.std.proofs.lemmas.List.{ext_get_or, get_or-drop, get_or-replicate, get_or_append_left, get_or_default, get_or_push, length-drop, length-replicate, length-take-le, length_push, take-append-drop}
use Rattle.std.proofs.lemmas.List.Elements.{All-get_or}
use Rattle.std.proofs.Math.Nat.{le_antisymm, le_of_mul-le-mul_left, mul-le-mul_left}
use Rattle.prime_field.proofs.Table.{above_one}
use Rattle.monomials.specs.Mono.{Monomial, unit, times, variable}
use Rattle.polys.specs.Terms.{IsAffine}
use Rattle.standard_monomials.specs.Standard.{polynomial_of}
use Rattle.digit_laws.specs.Digits.{AreDigits}
use Rattle.digit_space.specs.Model.{DigitData, HasProducts, HasOuterRows, IsProduct, IsDigitsOf, times_variable, corner}
use Rattle.digit_space.specs.declared.products.OuterRow.{OuterRow}
use Rattle.digit_space.specs.declared.products.Product.{Product}
use Rattle.digit_space.specs.declared.products.Product.TheVariants.{Corner, Border}
use Rattle.digit_plan.specs.declared.plan.Plan.{Plan}
use Rattle.digit_make.specs.Blocks.{AreKnown, IsKnown}
use Rattle.digit_make.specs.Making.{AreOuter, AreTrimmed}
use Rattle.digit_plan.specs.Planned.{IsPlan, IsFoundIn, curve_of}
use Rattle.digit_make.proofs.Expansion.{variable_times}
use Rattle.digit_make.proofs.Settings.{setting, nothing_known}

-- where a row is 0 from an end on, what stands before it has the row with zeros behind
pub zeros_behind : (end : ℕ) (row short : List ℕ) → end ≤ length row → ((i : ℕ) → end ≤ i → i < length row → get_or row i 0 ≡ 0) → short ≡ take end row
    → short ++ replicate (length row - length short) 0 ≡ row
zeros_behind end row short l h e =
    ap (λ n. short ++ replicate (length row - n) 0) long ∙ ap₂ (λ a b. a ++ b) e (sym rest) ∙ take-append-drop end row
  where
    long : length short ≡ end
    long = ap length e ∙ length-take-le end row l

    rest : drop end row ≡ replicate (length row - end) 0
    rest =
        ext_get_or 0 (drop end row) (replicate (length row - end) 0) (length-drop end row ∙ sym (length-replicate (length row - end) 0))
        (λ i k. let short : i < length row - end = (let w = length-drop end row in omega arith) in
        get_or-drop end row i 0 ∙ h (end + i) (omega arith) (omega arith) ∙ sym (get_or-replicate (length row - end) i 0 0 short))

-- a trimmed row more
pub rows_push : (wide : ℕ) (rows short : List (List ℕ)) (row : List ℕ) (j : ℕ) → j < length rows → length short ≡ j
    → ((i : ℕ) (d : List ℕ) → i < length short → (length (get_or rows i d) ≡ wide) × (length (get_or short i d) ≤ wide) × (get_or short i d ++ replicate (wide - length (get_or short i d)) 0 ≡ get_or rows i d))
    → (length (get_or rows j []) ≡ wide) × (length row ≤ wide) × (row ++ replicate (wide - length row) 0 ≡ get_or rows j [])
    → (i : ℕ) (d : List ℕ) → i < length (short ++ row ∷ [])
    → (length (get_or rows i d) ≡ wide) × (length (get_or (short ++ row ∷ []) i d) ≤ wide) × (get_or (short ++ row ∷ []) i d ++ replicate (wide - length (get_or (short ++ row ∷ []) i d)) 0 ≡ get_or rows i d)
rows_push wide rows short row j l e h k i d m = go (nat_cmp i (length short)) (ranks i (length short))
  where
    T : List ℕ → List ℕ → Type 0
    T a b = (length b ≡ wide) × (length a ≤ wide) × (a ++ replicate (wide - length a) 0 ≡ b)

    go : (r : Ordering) → MatchOrdering r (i < length short) (i ≡ length short) (length short < i)
        → (length (get_or rows i d) ≡ wide) × (length (get_or (short ++ row ∷ []) i d) ≤ wide) × (get_or (short ++ row ∷ []) i d ++ replicate (wide - length (get_or (short ++ row ∷ []) i d)) 0 ≡ get_or rows i d)
    go Less q = subst (λ z. (length (get_or rows i d) ≡ wide) × (length z ≤ wide) × (z ++ replicate (wide - length z) 0 ≡ get_or rows i d)) (sym (get_or_append_left short (row ∷ []) d i q)) (h i d q)
    go Equal q =
        let at : get_or rows j [] ≡ get_or rows i d = get_or_default rows j [] d l ∙ ap (λ z. get_or rows z d) (sym (q ∙ e)) in
        subst (λ z. (length (get_or rows i d) ≡ wide) × (length z ≤ wide) × (z ++ replicate (wide - length z) 0 ≡ get_or rows i d)) (sym (get_or_push short row d i (sym q)))
        (subst (λ z. (length z ≡ wide) × (length row ≤ wide) × (row ++ replicate (wide - length row) 0 ≡ z)) at k)
    go Greater q = absurd (omega (arith, length_push short row))

module _ (plan : Plan) (h : IsPlan plan) where
  abbrev pub seen : ℕ → DigitData
  seen depth = record { curve = plan.curve.value; basis = plan.corners; depth = depth }

  -- a known row has the digits at the depth that its length says
  deep : (m : Monomial) (row : List ℕ) (t : ℕ) → IsKnown (curve_of plan) plan.corners m row → length row ≡ length plan.corners * t → AreDigits (curve_of plan) plan.corners t (polynomial_of m) row
  deep m row t k e = subst (λ z. AreDigits (curve_of plan) plan.corners z (polynomial_of m) row) same k.1
    where
      products : length plan.corners * k.0 ≡ length plan.corners * t
      products = sym k.1.fits.0 ∙ e

      same : k.0 ≡ t
      same = le_antisymm (le_of_mul-le-mul_left (let w = products in omega arith) h.some) (le_of_mul-le-mul_left (let w = products in omega arith) h.some)

  pub has_products : (depth long : ℕ) (rows border : List (List ℕ)) → AreKnown (curve_of plan) plan.corners plan.border rows → AreTrimmed long rows border → long ≡ length plan.corners * depth
      → HasProducts (seen depth) border plan.products
  has_products depth long rows border k t e = record { count = h.products.count; each = each }
    where
      N : ℕ
      N = length plan.corners

      inside : (v i : ℕ) → v < (curve_of plan).variables → i < length plan.corners → v * length plan.corners + i < length plan.products
      inside v i a b =
          let w : length plan.corners * suc v ≤ length plan.corners * (curve_of plan).variables = mul-le-mul_left (length plan.corners) (let z : suc v ≤ (curve_of plan).variables = omega arith in z) in
          let c = h.products.count in omega arith

      go : (v i : ℕ) (q : Product) → IsFoundIn plan.corners plan.border (times (get_or plan.corners i unit) (variable v)) q → IsProduct (seen depth) border v i q
      go v i (Corner j) f = f
      go v i (Border r) f =
          let l : r < length rows = (let c = k.count in let g = f.0 in omega arith) in
          let s = t.each r [] l in
          let d = deep (get_or plan.border r unit) (get_or rows r []) depth (k.each r [] f.0) (s.0 ∙ e) in
          let row = get_or border r [] in
          let wide : length plan.corners * depth ≡ long = sym e in (
            (let c = t.count in omega arith),
            record {
              short = subst (λ z. length row ≤ z) e s.1;
              digits = subst (λ z. IsDigitsOf (seen depth) (times_variable (seen depth) v (polynomial_of (corner (seen depth) i))) (row ++ replicate (z - length row) 0)) e
                  (subst (IsDigitsOf (seen depth) (times_variable (seen depth) v (polynomial_of (corner (seen depth) i)))) (sym s.2)
                  (subst (λ z. AreDigits (curve_of plan) plan.corners depth z (get_or rows r []))
                  (ap polynomial_of (sym f.1) ∙ sym (variable_times (curve_of plan).prime v (get_or plan.corners i unit) (above_one (curve_of plan).prime h.prime))) d));
            },
          )

      each : (v i : ℕ) → v < (curve_of plan).variables → i < length plan.corners → IsProduct (seen depth) border v i (get_or plan.products (v * length plan.corners + i) (Corner 0))
      each v i a b = go v i (get_or plan.products (v * length plan.corners + i) (Corner 0)) (h.products.each v i (Corner 0) b (inside v i a b))

  pub has_outer : (depth long : ℕ) (rows : List (List ℕ)) (made : List OuterRow) → AreKnown (curve_of plan) plan.corners plan.outer rows → AreOuter long plan.outer rows made → long ≡ length plan.corners * (depth - 1)
      → HasOuterRows (seen depth) made
  has_outer depth long rows made k o e j d l =
      let s = o.each j d [] l in
      let b = deep (get_or plan.outer j unit) (get_or rows j []) (depth - 1) (k.each j [] (let c = o.count in omega arith)) (s.2 ∙ e) in
      subst (λ z. AreDigits (curve_of plan) plan.corners (depth - 1) z (get_or made j d).digits) (ap polynomial_of (sym s.0))
      (subst (AreDigits (curve_of plan) plan.corners (depth - 1) (polynomial_of (get_or plan.outer j unit))) (sym s.1) b)

  -- empty rows have digits at the depth 0
  pub empty_known : (monomials : List Monomial) (rows : List (List ℕ)) (n : ℕ) → All (IsAffine (curve_of plan).variables) monomials → rows ≡ replicate n [] → n ≡ length monomials
      → AreKnown (curve_of plan) plan.corners monomials rows
  empty_known monomials rows n a e q = record {
    count = ap length e ∙ length-replicate n [] ∙ q;
    each = λ j d l. subst (IsKnown (curve_of plan) plan.corners (get_or monomials j unit)) (sym (ap (λ z. get_or z j d) e ∙ get_or-replicate n j [] d (let w = q in omega arith)))
        (nothing_known (curve_of plan) plan.corners (setting plan h) (get_or monomials j unit) (All-get_or (IsAffine (curve_of plan).variables) monomials j unit l a));
  }
