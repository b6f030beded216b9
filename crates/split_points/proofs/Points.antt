-- The maximal ideals of A modulo d are the points, and their idempotents and values are those of the points.
use Rattle.std.proofs.Common.{◌≡◌, ◌≢◌, ◌↔◌, ℕ, zero, suc, ◌*◌, ◌<◌, List, [], ◌∷◌, ◌++◌, map, length, get_or, refl, sym, ap, ap₂, ◌∙◌, subst, arith}
use Rattle.std.specs.List.{All, AllPairs, AllZip, Contains}
use Rattle.std.proofs.lemmas.List.{get_or_default, get_or-map, length-map}
use Rattle.std.proofs.lemmas.List.Elements.{All-nil, All-cons, All-contains, All-from_get_or, All-get_or, All-head, All-tail}
use Rattle.comm_ring.specs.Rows.{rows}
use Rattle.comm_ring.proofs.Rows.{equal_rows}
use Rattle.monomials.specs.Mono.{Monomial}
use Rattle.polys.specs.declared.term.Term.{Term}
use Rattle.polys.specs.declared.curve.Curve.{Curve}
use Rattle.polys.specs.Terms.{IsPoly, one, mul}
use Rattle.polys.specs.Ideal.{InIdeal, HasDim}
use Rattle.polys.specs.Curve.{CurveData, data_of}
use Rattle.polys.specs.Reduced.{IsReducedBasis}
use Rattle.polys.proofs.Affine.{poly_mul}
use Rattle.ideal_laws.proofs.Unique.{unique_law}
use Rattle.curve_model.specs.Laws.{IsFinite}
use Rattle.curve_model.specs.Point.{IsPoint, IsPointOf, basis_of}
use Rattle.curve_laws.proofs.FitLaws.{fit_law}
use Rattle.curve_points.specs.Points.{AreThePoints}
use Rattle.row_space.specs.Subspace.{Subspace, IsIn}
use Rattle.finite_algebra.specs.Elements.{FiniteAlgebra, IsAlgebra, IsElement, times}
use Rattle.finite_algebra.specs.Projections.{IsIdealOf, IsProjection}
use Rattle.frobenius_split.specs.declared.local.LocalPoint.{LocalPoint}
use Rattle.frobenius_split.specs.Points.{AreMaximalIdeals, IsMaximalIdeal, at}
use Rattle.frobenius_split.specs.Idempotents.{AreIdempotentsOf}
use Rattle.digit_laws.specs.Digits.{AreCornersOf, AreDigits, value}
use Rattle.digit_space.specs.Model.{DigitData, IsDigitSpace, IsDigitIn, IsIdealIn}
use Rattle.over_laws.specs.BaseIdeals.{GeneratedByDigits}
use Rattle.point_quotient.specs.Algebras.{IsBaseAlgebra}
use Rattle.split_points.specs.declared.splitting.CurvePoint.{CurvePoint}
use Rattle.split_points.specs.Splitting.{AreIdempotentsAt, AreValuesAt, HasIdeal, IsIdempotentAt}
use Rattle.split_points.proofs.Classes as Classes
use Rattle.split_points.proofs.Ideals as Ideals
use Rattle.split_points.proofs.Spaces.{ideal_of_point}

-- the algebra A modulo d, its splitting, and the points that are made of it
pub record IsSplit (g : DigitData) (a : FiniteAlgebra) (locals : List LocalPoint) (found : List CurvePoint) : Type 0 where
  pub space : IsDigitSpace g
  pub algebra : IsAlgebra a
  pub base : IsBaseAlgebra g a
  pub ideals : AreMaximalIdeals a (map (λ local. local.point.space) locals)
  pub idempotents : AreIdempotentsOf a (map (λ local. local.point.space) locals) (map (λ local. local.idempotent) locals)
  pub values : All (λ local. IsProjection a local.point.space local.point.degree local.values) locals
  pub made : AllZip (HasIdeal g) locals found

-- what is to be shown of them
pub record AreSplitPoints (g : DigitData) (found : List CurvePoint) : Type 0 where
  pub each : All (λ local. IsPointOf (data_of g.curve) local.point) found
  pub exact : AreThePoints (data_of g.curve) (map (λ local. basis_of local.point) found)
  pub idempotents : AreIdempotentsAt g (map (λ local. basis_of local.point) found) (map (λ local. local.idempotent) found)
  pub values : All (λ local. AreValuesAt g local.point local.values) found

abbrev spaces_of : List LocalPoint → List Subspace
spaces_of locals = map (λ local. local.point.space) locals

abbrev bases_of : List CurvePoint → List (List (List Term))
bases_of found = map (λ local. basis_of local.point) found

-- ---- lists place by place

-- what holds of two items holds of the second list
all_second : {X Y : Type 0} (S : X → Type 0) (R : X → Y → Type 0) (Q : Y → Type 0) → ((x : X) (y : Y) → S x → R x y → Q y) → (xs : List X) (ys : List Y) → All S xs → AllZip R xs ys → All Q ys
all_second S R Q f [] [] h z = All-nil Q
all_second S R Q f [] (y ∷ ys) h z = absurd z
all_second S R Q f (x ∷ xs) [] h z = absurd z
all_second S R Q f (x ∷ xs) (y ∷ ys) h z = All-cons Q y ys (f x y (All-head S x xs h) z.0) (all_second S R Q f xs ys (All-tail S x xs h) z.1)

module _ (g : DigitData) where
  basis_at : (locals : List LocalPoint) (found : List CurvePoint) → AllZip (HasIdeal g) locals found → (i : ℕ) → i < length (bases_of found)
      → IsReducedBasis g.curve.prime g.curve.variables (IsDigitIn g (at (spaces_of locals) i)) (get_or (bases_of found) i [])
  basis_at [] [] z i h = absurd (omega arith)
  basis_at [] (f ∷ found) z i h = absurd z
  basis_at (l ∷ locals) [] z i h = absurd z
  basis_at (l ∷ locals) (f ∷ found) z zero h = z.0.basis
  basis_at (l ∷ locals) (f ∷ found) z (suc i) h = basis_at locals found z.1 i (omega arith)

  counts : (locals : List LocalPoint) (found : List CurvePoint) → AllZip (HasIdeal g) locals found → length (bases_of found) ≡ length (spaces_of locals)
  counts [] [] z = refl
  counts [] (f ∷ found) z = absurd z
  counts (l ∷ locals) [] z = absurd z
  counts (l ∷ locals) (f ∷ found) z = ap suc (counts locals found z.1)

  same_rows : (locals : List LocalPoint) (found : List CurvePoint) → AllZip (HasIdeal g) locals found → map (λ local. local.idempotent) found ≡ map (λ local. local.idempotent) locals
  same_rows [] [] z = refl
  same_rows [] (f ∷ found) z = absurd z
  same_rows (l ∷ locals) [] z = absurd z
  same_rows (l ∷ locals) (f ∷ found) z = ap₂ ◌∷◌ z.0.idempotent (same_rows locals found z.1)

-- ---- the points

module _ (law : GeneratedByDigits) (C : Curve) (ms : List Monomial) (one_row : List ℕ) (products : List (List ℕ)) (locals : List LocalPoint) (found : List CurvePoint) where
  abbrev A : CurveData
  A = data_of C

  abbrev g : DigitData
  g = record { curve = C; basis = ms; depth = 1 }

  abbrev a : FiniteAlgebra
  a = record { prime = C.prime; dimension = length ms * 1; one = one_row; products = products }

  module _ (h : IsSplit (record { curve = C; basis = ms; depth = 1 }) (record { prime = C.prime; dimension = length ms * 1; one = one_row; products = products }) locals found) where
    c : IsFinite (data_of C)
    c = fit_law C h.space.prime h.space.fit

    k : AreCornersOf (data_of C) ms
    k = h.space.corners

    abbrev Poly : List Term → Type 0
    Poly f = IsPoly C.prime C.variables f

    count : length (bases_of found) ≡ length (spaces_of locals)
    count = counts g locals found h.made

    maximal : (i : ℕ) → i < length (bases_of found) → IsMaximalIdeal a (at (spaces_of locals) i)
    maximal i l = h.ideals.each i (let e = count in omega arith)

    exact_at : (i : ℕ) → i < length (bases_of found) → (f : List Term) (x : List ℕ) → Poly f → AreDigits A ms 1 f x
        → InIdeal C.prime C.variables (get_or (bases_of found) i []) f ↔ IsIn (at (spaces_of locals) i) x
    exact_at i l f x hf r = Ideals.exact A c ms k one_row products h.base.one h.base.algebra.product (at (spaces_of locals) i) (maximal i l).ideal
        (get_or (bases_of found) i []) (basis_at g locals found h.made i l) f x hf r

    point_at : (i : ℕ) → i < length (bases_of found) → IsPoint A (get_or (bases_of found) i [])
    point_at i l = Ideals.point A c ms k one_row products h.base.one h.base.algebra.product (at (spaces_of locals) i) (maximal i l).ideal
        (get_or (bases_of found) i []) (basis_at g locals found h.made i l) (maximal i l)

    are_points : All (IsPoint (data_of C)) (bases_of found)
    are_points = All-from_get_or (IsPoint A) (bases_of found) [] point_at

    -- every point is one of them
    listed : (P : List (List Term)) → IsPoint A P → Contains (bases_of found) P
    listed P is =
        let M = ideal_of_point A c ms k one_row products law h.algebra h.base.algebra h.base.one P is in
        let w = h.ideals.all M.0 M.1 in
        let l : w.0 < length (bases_of found) = let e = count in let b = w.1 in omega arith in
        let same : get_or (bases_of found) w.0 [] ≡ P = unique_law C.prime C.variables (get_or (bases_of found) w.0 []) P h.space.prime (point_at w.0 l).reduced is.reduced
        (λ f hf. let r = (Classes.laws A c ms k).exist f hf in let e = exact_at w.0 l f r.0 hf r.1 in let m = M.2 f r.0 hf r.1 in let s = w.2 r.0 in
        (λ i. m.1 (s.0 (e.0 i)), λ i. e.1 (s.1 (m.0 i)))) in
        (w.0, l, get_or_default (bases_of found) w.0 P [] l ∙ same)

    -- and no two of them are one
    same_members : (i j : ℕ) → i < length (bases_of found) → j < length (bases_of found) → get_or (bases_of found) i [] ≡ get_or (bases_of found) j []
        → (x : List ℕ) → IsIn (at (spaces_of locals) i) x → IsIn (at (spaces_of locals) j) x
    same_members i j l m e x n =
        let y : List ℕ = (rows C.prime (length ms * 1)).◌·◌ 1 x in
        let f = value A ms 1 y in
        let hf = Classes.val_poly A c ms k y in
        let r = Classes.own A c ms k y (Classes.normal_fits A c ms k x) in
        let here = Ideals.normal A c ms k one_row products h.base.one h.base.algebra.product (at (spaces_of locals) i) (maximal i l).ideal x in
        let there = Ideals.normal A c ms k one_row products h.base.one h.base.algebra.product (at (spaces_of locals) j) (maximal j m).ideal x in
        there.1 ((exact_at j m f y hf r).0 (subst (λ qs. InIdeal C.prime C.variables qs f) e ((exact_at i l f y hf r).1 (here.0 n))))

    distinct : AllPairs (λ P R. P ≢ R) (bases_of found)
    distinct i j d l m e =
        let n : i < length (bases_of found) = omega arith in
        let same : get_or (bases_of found) i [] ≡ get_or (bases_of found) j [] = sym (get_or_default (bases_of found) i d [] n) ∙ e ∙ get_or_default (bases_of found) j d [] m in
        let q = count in
        let one_place : i ≡ j = h.ideals.once i j (omega arith) (omega arith) (λ x. (same_members i j n m same x, same_members j i m n (sym same) x)) in
        absurd (omega arith)

    -- the idempotents
    idempotent_at : (i : ℕ) → i < length (bases_of found) → IsIdempotentAt g (bases_of found) i (get_or (map (λ local. local.idempotent) locals) i [])
    idempotent_at i l =
        let p = C.prime in
        let es = map (λ (local : LocalPoint). local.idempotent) locals in
        let is = h.idempotents in
        let n : i < length es = let q = count in let b = is.count in omega arith in
        let e = get_or es i [] in
        let v = value A ms 1 e in
        let hv = Classes.val_poly A c ms k e in
        let fits : IsElement a e = All-get_or (IsElement a) es i [] n is.idempotents.rows in
        let own = Classes.own A c ms k e fits in
        let twice = Classes.times_digits A c ms k (times a) h.base.algebra.product v v e e hv hv own own in
        let square : times a e e ≡ e = equal_rows p (length ms * 1) (times a e e) e twice.fits.0 fits.0 twice.fits.1 fits.1 (is.square i n) in
        record {
          polynomial = v;
          poly = hv;
          digits = own;
          square = (Classes.laws A c ms k).close (mul p v v) v e (poly_mul p C.variables v v (Classes.pos A c ms k) hv hv) hv (subst (AreDigits A ms 1 (mul p v v)) square twice) own;
          own = Ideals.difference A c ms k one_row products h.base.one h.base.algebra.product (at (spaces_of locals) i) (maximal i l).ideal
              (get_or (bases_of found) i []) (basis_at g locals found h.made i l) v one e one_row hv (Classes.one_is_poly A c ms k) own h.base.one (is.own i n);
          others = λ j m apart. (exact_at j m v e hv own).1 (is.others i j n (let q = count in let b = is.count in omega arith) (λ z. apart (sym z)));
        }

    idempotents : AreIdempotentsAt g (bases_of found) (map (λ local. local.idempotent) found)
    idempotents = subst (AreIdempotentsAt g (bases_of found)) (sym (same_rows g locals found h.made)) (record { count = h.idempotents.count ∙ sym count; each = idempotent_at })

    -- ---- one point and its values

    abbrev Known : LocalPoint → Type 0
    Known local = IsMaximalIdeal a local.point.space × IsProjection a local.point.space local.point.degree local.values

    known : All Known locals
    known j d l =
        let s = spaces_of locals in
        let n : length s ≡ length locals = length-map locals (λ local. local.point.space) in (
          subst (IsMaximalIdeal a) (get_or-map (λ (local : LocalPoint). local.point.space) locals j d (record { prime = 0; width = 0; basis = [] }) l) (h.ideals.each j (omega arith)),
          h.values j d l,
        )

    one_point : (local : LocalPoint) (made : CurvePoint) → Known local → HasIdeal g local made → IsPointOf A made.point
    one_point local made n q =
        let is = Ideals.point A c ms k one_row products h.base.one h.base.algebra.product local.point.space n.0.ideal (basis_of made.point) q.basis n.0 in
        record {
          over = q.over;
          is_point = is;
          degree = subst (HasDim C.prime C.variables (basis_of made.point)) (sym q.degree)
              (Ideals.degree A c ms k one_row products h.base.one h.base.algebra.product local.point.space n.0.ideal (basis_of made.point) q.basis is local.point.degree local.values n.1);
        }

    one_values : (local : LocalPoint) (made : CurvePoint) → Known local → HasIdeal g local made → AreValuesAt g made.point made.values
    one_values local made n q =
        let j = n.1 in
        let exact = Ideals.exact A c ms k one_row products h.base.one h.base.algebra.product local.point.space n.0.ideal (basis_of made.point) q.basis in
        subst (AreValuesAt g made.point) (sym q.values)
        (subst (λ d. AreValuesAt g (record { basis = made.point.basis; degree = d }) local.values) (sym q.degree) (record {
          count = (let e : length local.values ≡ length ms * 1 = j.count in omega arith);
          rows = j.rows;
          exact = λ f x hf r. (λ z. (exact f x hf r).1 ((j.kernel x).0 z), λ i. (j.kernel x).1 ((exact f x hf r).0 i));
        }))

    pub are_split_points : AreSplitPoints g found
    are_split_points = record {
      each = all_second Known (HasIdeal g) (λ made. IsPointOf A made.point) one_point locals found known h.made;
      exact = record { exact = λ P. (λ m. All-contains (IsPoint A) (bases_of found) P are_points m, listed P); distinct = distinct };
      idempotents = idempotents;
      values = all_second Known (HasIdeal g) (λ made. AreValuesAt g made.point made.values) one_values locals found known h.made;
    }

abbrev of_parts : FiniteAlgebra → ℕ → ℕ → FiniteAlgebra
of_parts a p n = record { prime = p; dimension = n; one = a.one; products = a.products }

abbrev at_depth : DigitData → ℕ → DigitData
at_depth g t = record { curve = g.curve; basis = g.basis; depth = t }

pub split_points_law : GeneratedByDigits → (g : DigitData) (a : FiniteAlgebra) (locals : List LocalPoint) (found : List CurvePoint) → g.depth ≡ 1 → IsSplit g a locals found
    → AreSplitPoints g found
split_points_law law g a locals found depth h =
    let many : a.dimension ≡ length g.basis * 1 = let e = h.base.algebra.dimension in omega arith in
    subst (λ t. AreSplitPoints (at_depth g t) found) (sym depth)
    (are_split_points law g.curve g.basis a.one a.products locals found
    (subst (λ t. IsSplit (at_depth g t) (of_parts a g.curve.prime (length g.basis * 1)) locals found) depth
    (subst (λ p. IsSplit g (of_parts a p (length g.basis * 1)) locals found) h.base.algebra.prime
    (subst (λ n. IsSplit g (of_parts a a.prime n) locals found) many h))))

-- ---- what the body needs on the way

-- an ideal of the algebra is closed under the variables
pub ideal_in : (g : DigitData) (a : FiniteAlgebra) → g.depth ≡ 1 → IsDigitSpace g → IsBaseAlgebra g a → (q : Subspace) → IsIdealOf a q → IsIdealIn g q
ideal_in g a depth s b q i =
    let many : a.dimension ≡ length g.basis * 1 = let e = b.algebra.dimension in omega arith in
    let plain : IsBaseAlgebra g (of_parts a g.curve.prime (length g.basis * 1)) × IsIdealOf (of_parts a g.curve.prime (length g.basis * 1)) q =
    subst (λ p. IsBaseAlgebra g (of_parts a p (length g.basis * 1)) × IsIdealOf (of_parts a p (length g.basis * 1)) q) b.algebra.prime
    (subst (λ n. IsBaseAlgebra g (of_parts a a.prime n) × IsIdealOf (of_parts a a.prime n) q) many (b, i)) in
    subst (λ t. IsIdealIn (at_depth g t) q) (sym depth)
    (Ideals.ideal_space (data_of g.curve) (fit_law g.curve s.prime s.fit) g.basis s.corners a.one a.products plain.0.one plain.0.algebra.product q plain.1)

-- one pair more
pub zip_push : {X Y : Type 0} (R : X → Y → Type 0) (xs : List X) (ys : List Y) (x : X) (y : Y) → AllZip R xs ys → R x y → AllZip R (xs ++ x ∷ []) (ys ++ y ∷ [])
zip_push R [] [] x y z r = (r, tt)
zip_push R [] (v ∷ ys) x y z r = absurd z
zip_push R (u ∷ xs) [] x y z r = absurd z
zip_push R (u ∷ xs) (v ∷ ys) x y z r = (z.0, zip_push R xs ys x y z.1 r)
