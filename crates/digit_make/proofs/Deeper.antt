-- Rows that are kept, and digits at a greater depth.
use Rattle.std.proofs.Common.{◌≡◌, ℕ, ◌+◌, ◌-◌, ◌<◌, ◌≤◌, List, [], ◌∷◌, ◌++◌, length, get_or, replicate, sym, ap, ◌∙◌, subst, arith, mul-le-mul}
use Rattle.std.proofs.lemmas.List.{get_or_default}
use Rattle.std.specs.declared.cmp.Ordering.TheVariants.{Equal}
use Rattle.prime_field.proofs.Table.{above_one}
use Rattle.monomials.specs.Mono.{Monomial, unit, times, variable, cmp_dp}
use Rattle.monomials.proofs.Order.{same_dp}
use Rattle.polys.specs.declared.term.Term.{Term}
use Rattle.polys.specs.Terms.{IsAffine}
use Rattle.polys.specs.Curve.{CurveData, data_of}
use Rattle.standard_monomials.specs.Standard.{polynomial_of}
use Rattle.curve_laws.proofs.FitLaws.{fit_law}
use Rattle.digit_laws.specs.Digits.{AreDigits}
use Rattle.digit_space.specs.Model.{DigitData, IsDigitSpace, AreFirstDigits, HasOuterRows, times_variable, corner, width}
use Rattle.digit_space.specs.declared.products.OuterRow.{OuterRow}
use Rattle.digit_make.specs.Blocks.{AreKnown, HasBlocks, IsKnown}
use Rattle.digit_make.specs.Making.{HasFirstBlocks}
use Rattle.digit_plan.specs.Planned.{curve_of}
use Rattle.digit_plan.specs.declared.plan.Plan.{Plan}
use Rattle.digit_make.proofs.Expansion.{IsSetting, variable_times}
use Rattle.digit_plan.proofs.Found.{each_push}
use Rattle.digit_plan.proofs.Corners.{few_corners}
use Rattle.digit_make.proofs.Settings.{setting_of, nothing_known}

-- what the lemmas use of the digits
pub setting_at : (g : DigitData) → IsDigitSpace g → IsSetting (data_of g.curve) g.basis
setting_at g s = setting_of (data_of g.curve) (fit_law g.curve s.prime s.fit) g.basis s.corners

-- a row of digits is short
pub width_small : (g : DigitData) → IsDigitSpace g → width g ≤ 51200
width_small g s = let m = mul-le-mul (few_corners g.curve s.prime s.fit g.basis s.corners) s.shallow in omega arith

-- no digits are those at the depth 0
pub none_known : (g : DigitData) (m : Monomial) (row : List ℕ) → IsDigitSpace g → IsAffine g.curve.variables m → row ≡ [] → IsKnown (data_of g.curve) g.basis m row
none_known g m row s a e = subst (IsKnown (data_of g.curve) g.basis m) (sym e) (nothing_known (data_of g.curve) g.basis (setting_at g s) m a)

-- digits at a depth are whole blocks
pub digits_blocks : (g : DigitData) (T : ℕ) (f : List Term) (row : List ℕ) → AreDigits (data_of g.curve) g.basis T f row → HasBlocks (length g.basis) 0 T row
digits_blocks g T f row d = record { count = T; enough = omega arith; within = omega arith; whole = d.fits.0 }

-- a row with its zeros has the digits at the depth
pub padded_digits : (g : DigitData) (m : Monomial) (row made : List ℕ) (wide : ℕ) → AreFirstDigits g (polynomial_of m) row → wide ≡ width g → made ≡ row ++ replicate (wide - length row) 0
    → AreDigits (data_of g.curve) g.basis g.depth (polynomial_of m) made
padded_digits g m row made wide f e q = subst (AreDigits (data_of g.curve) g.basis g.depth (polynomial_of m)) (sym (q ∙ ap (λ z. row ++ replicate (z - length row) 0) e)) f.digits

-- the digits of a variable times a corner are those of the monomial that this is
pub product_known : (g : DigitData) (v i : ℕ) (w m : Monomial) (row : List ℕ) → IsDigitSpace g → w ≡ get_or g.basis i unit → times w (variable v) ≡ m
    → AreFirstDigits g (times_variable g v (polynomial_of (corner g i))) row → AreFirstDigits g (polynomial_of m) row
product_known g v i w m row s e q f =
    subst (λ z. AreFirstDigits g z row)
    (variable_times g.curve.prime v (corner g i) (above_one g.curve.prime s.prime) ∙ ap polynomial_of (ap (λ z. times z (variable v)) (sym e) ∙ q)) f

-- an outer row has the digits of its monomial
pub outer_digits_of : (g : DigitData) (outer : List OuterRow) (j : ℕ) (r s : OuterRow) (m : Monomial) (row : List ℕ) → HasOuterRows g outer → j < length outer
    → Equal ≡ cmp_dp (get_or outer j r).monomial m → row ≡ (get_or outer j s).digits → AreDigits (data_of g.curve) g.basis (g.depth - 1) (polynomial_of m) row
outer_digits_of g outer j r s m row h l e q =
    subst (AreDigits (data_of g.curve) g.basis (g.depth - 1) (polynomial_of m)) (sym q)
    (subst (λ z. AreDigits (data_of g.curve) g.basis (g.depth - 1) (polynomial_of z) (get_or outer j s).digits)
    (ap (λ (x : OuterRow). x.monomial) (get_or_default outer j s r l) ∙ same_dp (get_or outer j r).monomial m (sym e)) (h j s l))

-- known rows are those of a plan with this curve and these corners
pub rows_of : (g : DigitData) (plan : Plan) (read monomials : List Monomial) (rows : List (List ℕ)) → plan.curve.value ≡ g.curve → plan.corners ≡ g.basis → read ≡ monomials
    → AreKnown (data_of g.curve) g.basis read rows → AreKnown (curve_of plan) plan.corners monomials rows
rows_of g plan read monomials rows c b e k =
    subst (λ z. AreKnown (data_of z) plan.corners monomials rows) (sym c)
    (subst (λ z. AreKnown (data_of g.curve) z monomials rows) (sym b) (subst (λ z. AreKnown (data_of g.curve) g.basis z rows) e k))

-- one row more
pub known_push : (A : CurveData) (ms monomials : List Monomial) (rows : List (List ℕ)) (row : List ℕ) (j : ℕ) → length rows ≡ j
    → ((i : ℕ) (d : List ℕ) → i < length rows → IsKnown A ms (get_or monomials i unit) (get_or rows i d)) → IsKnown A ms (get_or monomials j unit) row
    → (i : ℕ) (d : List ℕ) → i < length (rows ++ row ∷ []) → IsKnown A ms (get_or monomials i unit) (get_or (rows ++ row ∷ []) i d)
known_push A ms monomials rows row j e h k = each_push (λ i r. IsKnown A ms (get_or monomials i unit) r) rows row h (subst (λ z. IsKnown A ms (get_or monomials z unit) row) (sym e) k)

-- digits of the same curve at a greater depth begin with those at the smaller one
pub first_blocks : (g new : DigitData) → IsDigitSpace g → g.depth ≤ new.depth → new.curve ≡ g.curve → new.basis ≡ g.basis → HasFirstBlocks g new
first_blocks g new s l c b f row h d =
    (setting_at g s).blocks.truncated g.depth (new.depth - g.depth) f row h
    (subst (λ z. AreDigits (data_of g.curve) g.basis z f row) (let q : new.depth ≡ g.depth + (new.depth - g.depth) = omega arith in q)
    (subst (λ z. AreDigits (data_of g.curve) z new.depth f row) b (subst (λ z. AreDigits (data_of z) new.basis new.depth f row) c d)))
