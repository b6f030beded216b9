-- The rows of the radical: sums of rows of products, and of the rows of nilpotent elements.
use Rattle.std.proofs.Common.{◌≡◌, ◌↔◌, ℕ, suc, ◌+◌, ◌*◌, ◌<◌, List, [], ◌∷◌, ◌++◌, map, length, get_or, All, sym, ◌∙◌, subst, arith}
use Rattle.std.proofs.lemmas.List.{length-map}
use Rattle.std.proofs.lemmas.List.Elements.{All-from_get_or, All-map}
use Rattle.comm_ring.specs.Ring.{CommRing}
use Rattle.comm_ring.specs.Rows.{rows}
use Rattle.comm_ring.specs.Modules.{InSpan, IsSubmodule, combine, combination}
use Rattle.comm_ring.proofs.Modules as Modules
use Rattle.comm_ring.proofs.Modules.{Module}
use Rattle.comm_ring.proofs.Residues.{residues}
use Rattle.comm_ring.proofs.Rows.{row_module}
use Rattle.row_space.specs.Echelon.{IsRow}
use Rattle.row_space.specs.Subspace.{Subspace, IsIn, Joins, product}
use Rattle.row_space.proofs.Members.{span_of}
use Rattle.monomials.specs.Mono.{Monomial, variable}
use Rattle.polys.specs.declared.term.Term.{Term}
use Rattle.polys.specs.Terms.{IsPoly, sub, mul}
use Rattle.standard_monomials.specs.Standard.{polynomial_of}
use Rattle.curve_model.specs.Fraction.{Fraction, IsFraction, AreEqual, denominator_power, over, product_of}
use Rattle.curve_model.specs.Laws.{IsFinite, ArePolys}
use Rattle.curve_model.specs.OneExponent.{InPower}
use Rattle.curve_model.specs.Rings.{IsFractionRing, InRadical}
use Rattle.curve_laws.proofs.FitLaws.{fit_law}
use Rattle.chain_laws.proofs.OneExponent.{eq_refl, one_equal_up}
use Rattle.digit_laws.proofs.DigitLaws.{digit_law}
use Rattle.digit_laws.proofs.Corners.{corners_law}
use Rattle.ideal_laws.proofs.Ideals.{in_more}
use Rattle.quotient_laws.proofs.Radicals.{radical_closed}
use Rattle.over_module.proofs.DepthRows.{ideal_of_polys, x_poly, x_product}
use Rattle.polys.specs.Curve.{CurveData, data_of}
use Rattle.digit_laws.specs.Digits.{AreCornersOf, AreDigits, HasDigitsIn, IsIdealSpace, IsOfDigits}
use Rattle.finite_algebra.specs.Elements.{FiniteAlgebra}
use Rattle.frobenius_map.specs.Nilpotent.{IsRadicalOf}
use Rattle.over_laws.specs.Over.{OverData, InOver, InRows, HasRows}
use Rattle.quotient_laws.specs.OverQuotients.{IsRadicalRow}
use Rattle.finite_algebra.proofs.Images.{product_linear}
use Rattle.finite_algebra.proofs.Summing.{combination_fits}
use Rattle.finite_algebra.proofs.Totals.{IsLinear, linear-origin}

module _ (p : ℕ) (positive : 0 < p) (n W : ℕ) where
  abbrev K : CommRing
  K = residues p positive

  abbrev Low : Module (residues p positive)
  Low = row_module p positive n

  abbrev High : Module (residues p positive)
  High = row_module p positive W

  -- a linear map of a sum
  images_sum : (f : List ℕ → List ℕ) → IsLinear (rows p n) (rows p W) f → (cs : List ℕ) (xs : List (List ℕ)) → (rows p W).◌≋◌ (combination (rows p W) cs (map f xs)) (f (combination (rows p n) cs xs))
  unfolding combine
  images_sum f l [] xs = High.symm {x = f (rows p n).origin} {y = (rows p W).origin} (linear-origin K Low High f l)
  images_sum f l (c ∷ cs) [] = High.symm {x = f (rows p n).origin} {y = (rows p W).origin} (linear-origin K Low High f l)
  images_sum f l (c ∷ cs) (x ∷ xs) =
      let y = combination (rows p n) cs xs in
      let s = combination (rows p W) cs (map f xs) in
      High.trans {x = (rows p W).◌⊞◌ ((rows p W).◌·◌ c (f x)) s} {y = (rows p W).◌⊞◌ (f ((rows p n).◌·◌ c x)) (f y)} {z = f ((rows p n).◌⊞◌ ((rows p n).◌·◌ c x) y)}
      (High.add_cong {x = (rows p W).◌·◌ c (f x)} {x' = f ((rows p n).◌·◌ c x)} {y = s} {y' = f y} (High.symm {x = f ((rows p n).◌·◌ c x)} {y = (rows p W).◌·◌ c (f x)} (l.scale c x)) (images_sum f l cs xs))
      (High.symm {x = f ((rows p n).◌⊞◌ ((rows p n).◌·◌ c x) y)} {y = (rows p W).◌⊞◌ (f ((rows p n).◌·◌ c x)) (f y)} (l.add ((rows p n).◌·◌ c x) y))

  module _ (basis nilpotent list : List (List ℕ)) (long : length list ≡ n) where
    abbrev f : List ℕ → List ℕ
    f x = product p W x list

    abbrev images : List (List ℕ)
    images = map (λ x. product p W x list) nilpotent

    linear : IsLinear (rows p n) (rows p W) (λ x. product p W x list)
    linear = product_linear p positive n W list long

    all : IsSubmodule (rows p W) (InSpan (rows p W) (basis ++ images))
    all = Modules.span_submodule K High (basis ++ images)

    -- what a row of the sum is, and that it is one
    pub parted : (row : List ℕ) → InSpan (rows p W) (basis ++ map (λ x. product p W x list) nilpotent) row
        → (y : List ℕ) × IsRow p n y × InSpan (rows p n) nilpotent y × InSpan (rows p W) basis ((rows p W).◌⊞◌ row ((rows p W).opposite (product p W y list)))
    parted row h =
        let q = Modules.part K High basis images h.0 h.1 in
        let first = q.0 in
        let second = q.1 in
        let y = combination (rows p n) second nilpotent in
        let z = f y in
        let u = combination (rows p W) first basis in
        let v = combination (rows p W) second images in
        let whole : (rows p W).◌≋◌ row (combination (rows p W) (first ++ second) (basis ++ images)) = subst (λ cs. (rows p W).◌≋◌ row (combination (rows p W) cs (basis ++ images))) q.4 h.2 in
        let sum : (rows p W).◌≋◌ row ((rows p W).◌⊞◌ u z) = High.trans {x = row} {y = combination (rows p W) (first ++ second) (basis ++ images)} {z = (rows p W).◌⊞◌ u z} whole
        (High.trans {x = combination (rows p W) (first ++ second) (basis ++ images)} {y = (rows p W).◌⊞◌ u v} {z = (rows p W).◌⊞◌ u z} (Modules.combination-append K High first second basis images q.2)
        (High.add_cong {x = u} {x' = u} {y = v} {y' = z} (High.rfl u) (images_sum (λ x. product p W x list) linear second nilpotent))) in
        let o = (rows p W).opposite z in
        let rest : (rows p W).◌≋◌ ((rows p W).◌⊞◌ row o) u = High.trans {x = (rows p W).◌⊞◌ row o} {y = (rows p W).◌⊞◌ ((rows p W).◌⊞◌ u z) o} {z = u}
        (High.add_cong {x = row} {x' = (rows p W).◌⊞◌ u z} {y = o} {y' = o} sum (High.rfl o)) (Modules.add_undo K High u z) in
        let m : length second ≡ length nilpotent = let a = length-map nilpotent (λ x. product p W x list) in let b : length second ≡ length images = q.3 in omega arith in
        (y, combination_fits p n positive second nilpotent, (second, m, Low.rfl y), (first, q.2, rest))

    pub joined : (row y : List ℕ) → InSpan (rows p n) nilpotent y → InSpan (rows p W) basis ((rows p W).◌⊞◌ row ((rows p W).opposite (product p W y list)))
        → InSpan (rows p W) (basis ++ map (λ x. product p W x list) nilpotent) row
    joined row y i d =
        let z = f y in
        let s = combination (rows p W) i.0 images in
        let image_in : InSpan (rows p W) (basis ++ images) z = Modules.span_right K High basis images z (
          i.0,
          (let a = length-map nilpotent (λ x. product p W x list) in let b : length i.0 ≡ length nilpotent = i.1 in omega arith),
          High.trans {x = z} {y = f (combination (rows p n) i.0 nilpotent)} {z = s} (linear.resp y (combination (rows p n) i.0 nilpotent) i.2)
              (High.symm {x = s} {y = f (combination (rows p n) i.0 nilpotent)} (images_sum (λ x. product p W x list) linear i.0 nilpotent)),
        ) in
        all.resp ((rows p W).◌⊞◌ ((rows p W).◌⊞◌ row ((rows p W).opposite z)) z) row (Modules.sub_undo K High row z)
        (all.add ((rows p W).◌⊞◌ row ((rows p W).opposite z)) z (Modules.span_left K High basis images ((rows p W).◌⊞◌ row ((rows p W).opposite z)) d) image_in)

-- the rows of a space that gains the images of the nilpotent elements
pub radical_rows : (o : OverData) (ms : List Monomial) → 0 < o.curve.prime → (space : Subspace) → IsOfDigits (data_of o.curve) ms (suc o.power) space → (a : FiniteAlgebra) → a.prime ≡ o.curve.prime
    → (list : List (List ℕ)) → length list ≡ a.dimension → (nilpotent : Subspace) → IsRadicalOf a nilpotent → (radical : Subspace)
    → Joins space (map (λ x. product o.curve.prime (length ms * suc o.power) x list) nilpotent.basis) radical
    → IsOfDigits (data_of o.curve) ms (suc o.power) radical
    × ((row : List ℕ) → IsRow o.curve.prime (length ms * suc o.power) row → IsIn radical row ↔ IsRadicalRow o ms space a list row)
radical_rows o ms positive space d a prime list long nil n radical j = (
  record { prime = j.prime ∙ d.prime; width = j.width ∙ d.width },
  λ row fit. (into row, out row),
)
  where
    p : ℕ
    p = o.curve.prime

    W : ℕ
    W = length ms * suc o.power

    images : List (List ℕ)
    images = map (λ x. product o.curve.prime (length ms * suc o.power) x list) nil.basis

    -- membership by other names of the prime and the width
    named : (q q' v v' : ℕ) (vs : List (List ℕ)) (row : List ℕ) → q ≡ q' → v ≡ v' → InSpan (rows q v) vs row → InSpan (rows q' v') vs row
    named q q' v v' vs row e h i = subst (λ z. InSpan (rows z v') vs row) e (subst (λ z. InSpan (rows q z) vs row) h i)

    space_positive : 0 < space.prime
    space_positive = subst (λ z. 0 < z) (sym d.prime) positive

    covered : All (InSpan (rows space.prime space.width) (space.basis ++ images)) radical.basis
    covered = All-from_get_or (InSpan (rows space.prime space.width) (space.basis ++ images)) radical.basis [] (λ i l.
        span_of space.prime space.width (space.basis ++ images) (get_or radical.basis i []) (j.covered i l))

    covers : All (InSpan (rows space.prime space.width) radical.basis) (space.basis ++ images)
    covers = All-from_get_or (InSpan (rows space.prime space.width) radical.basis) (space.basis ++ images) [] (λ i l.
        span_of space.prime space.width radical.basis (get_or (space.basis ++ images) i []) (j.covers i l))

    into : (row : List ℕ) → IsIn radical row → IsRadicalRow o ms space a list row
    into row i =
        let here = named radical.prime space.prime radical.width space.width radical.basis row j.prime j.width i in
        let both = Modules.span_through (residues space.prime space_positive) (row_module space.prime space_positive space.width) radical.basis (space.basis ++ images) covered row here in
        let t = parted p positive a.dimension W space.basis nil.basis list long row (named space.prime p space.width W (space.basis ++ images) row d.prime d.width both) in
        record {
          element = t.0;
          fits = subst (λ z. IsRow z a.dimension t.0) (sym prime) t.1;
          nilpotent = (n.members t.0 (subst (λ z. IsRow z a.dimension t.0) (sym prime) t.1)).0 (named p nil.prime a.dimension nil.width nil.basis t.0 (sym (n.prime ∙ prime)) (sym n.width) t.2);
          near = subst (λ z. InSpan (rows z space.width) space.basis ((rows z space.width).◌⊞◌ row ((rows z space.width).opposite (product p W t.0 list)))) (sym d.prime) (subst (λ z. InSpan (rows p z) space.basis ((rows p z).◌⊞◌ row ((rows p z).opposite (product p W t.0 list)))) (sym d.width) t.3);
        }

    out : (row : List ℕ) → IsRadicalRow o ms space a list row → IsIn radical row
    out row r =
        let y = r.element in
        let i = named nil.prime p nil.width a.dimension nil.basis y (n.prime ∙ prime) n.width ((n.members y r.fits).1 r.nilpotent) in
        let near : InSpan (rows p W) space.basis ((rows p W).◌⊞◌ row ((rows p W).opposite (product p W y list))) = subst (λ z. InSpan (rows z W) space.basis ((rows z W).◌⊞◌ row ((rows z W).opposite (product p W y list)))) d.prime (subst (λ z. InSpan (rows space.prime z) space.basis ((rows space.prime z).◌⊞◌ row ((rows space.prime z).opposite (product p W y list)))) d.width r.near) in
        let both = joined p positive a.dimension W space.basis nil.basis list long row y i near in
        named space.prime radical.prime space.width radical.width radical.basis row (sym j.prime) (sym j.width)
        (Modules.span_through (residues space.prime space_positive) (row_module space.prime space_positive space.width) (space.basis ++ images) radical.basis covers row
        (named p space.prime W space.width (space.basis ++ images) row (sym d.prime) (sym d.width) both))

-- where the rows are those of the radical, the space is an ideal
pub radical_ideal : (o : OverData) → HasRows o → IsFractionRing (data_of o.curve) (InOver o) → (ms : List Monomial) (corners : AreCornersOf (data_of o.curve) ms) → (P : List (List Term)) → ArePolys (data_of o.curve) P
    → (radical : Subspace) → IsOfDigits (data_of o.curve) ms (suc o.power) radical
    → ((f : Fraction) → IsFraction (data_of o.curve) f → InRows (data_of o.curve) o.power (suc o.power) radical f ↔ InRadical (data_of o.curve) P (InOver o) f)
    → IsIdealSpace (data_of o.curve) ms (suc o.power) radical
radical_ideal o h r ms corners P polys radical d exact = ideal_of_polys A c ms corners (suc k) radical d closed
  where
    A : CurveData
    A = data_of o.curve

    c : IsFinite (data_of o.curve)
    c = fit_law o.curve h.prime h.fit

    k : ℕ
    k = o.power

    closed : (v : ℕ) → v < o.curve.variables → (f : List Term) → IsPoly o.curve.prime o.curve.variables f → HasDigitsIn (data_of o.curve) ms (suc o.power) radical f
        → HasDigitsIn (data_of o.curve) ms (suc o.power) radical (mul o.curve.prime (polynomial_of (variable v)) f)
    closed v l f hf i =
        let q = polynomial_of (variable v) in
        let hq = x_poly A c ms corners v l in
        let m = mul o.curve.prime q f in
        let hm = x_product A c ms corners v l f hf in
        let x : InRows A k (suc k) radical (over f k) = record { corners = ms; known = corners; numerator = f; poly = hf; inside = i; equal = eq_refl A c (over f k) hf } in
        let w = radical_closed o h r P polys q hq (over f k) hf ((exact (over f k) hf).0 x) in
        let y = (exact (product_of A (over q 0) (over f k)) hm).1 w in
        let b = y.numerator in
        let equal : AreEqual A (over m k) (over b k) = subst (λ n. AreEqual A (over m n) (over b k)) (let e : 0 + k ≡ k = omega arith in e) y.equal in
        let near : InPower A (suc k) (sub o.curve.prime m b) = in_more o.curve.prime o.curve.variables (denominator_power A (suc k)) A.ideal (sub o.curve.prime m b) (one_equal_up A c k m b hm y.poly equal) in
        let laws = digit_law A c ms corners (suc k) in
        let t = laws.exist m hm in
        let digits : AreDigits A ms (suc k) b y.inside.0 = subst (λ z. AreDigits A z (suc k) b y.inside.0) (corners_law A c y.corners ms y.known corners) y.inside.1 in
        let same : t.0 ≡ y.inside.0 = laws.unique b t.0 y.inside.0 y.poly (laws.same m b t.0 hm y.poly near t.1) digits in
        (t.0, t.1, subst (IsIn radical) (sym same) y.inside.2)

-- the images are rows of residues
pub images_fit : (p W : ℕ) → 0 < p → (list elements : List (List ℕ)) → All (IsRow p W) (map (λ x. product p W x list) elements)
images_fit p W positive list elements = All-map (IsRow p W) (λ x. product p W x list) elements (λ i x l. combination_fits p W positive (get_or elements i x) list)
