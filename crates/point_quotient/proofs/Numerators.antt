-- The numerators of a module over d^k modulo d^(k+1), as rows of digits, and their products with a point.
use Rattle.std.proofs.Common.{◌≡◌, ℕ, suc, ◌-◌, ◌*◌, ◌<◌, ◌≤◌, List, [], ◌++◌, map, length, take, replicate, get_or, All, sym, ap, ◌∙◌, subst, arith}
use Rattle.std.proofs.lemmas.List.{ext_get_or, get_or-map, length-map}
use Rattle.std.proofs.Math.Seq.{take-append_seam}
use Rattle.std.proofs.lemmas.List.Elements.{All-from_get_or}
use Rattle.comm_ring.specs.Rows.{rows as rows_of}
use Rattle.comm_ring.specs.Modules.{InSpan}
use Rattle.comm_ring.proofs.Modules as Modules
use Rattle.comm_ring.proofs.Residues.{residues}
use Rattle.comm_ring.proofs.Rows.{row_module}
use Rattle.prime_field.proofs.Table.{positive_of_prime}
use Rattle.polys.specs.declared.term.Term.{Term}
use Rattle.polys.specs.declared.curve.Curve.{Curve}
use Rattle.polys.specs.Curve.{CurveData, data_of}
use Rattle.curve_model.specs.Laws.{ArePolys}
use Rattle.row_space.specs.Echelon.{IsRow}
use Rattle.row_space.specs.Subspace.{Subspace, FitsIn, IsIn}
use Rattle.digit_laws.specs.Digits.{AreDigits, value}
use Rattle.digit_laws.proofs.Corners.{corners_law}
use Rattle.digit_laws.proofs.DigitLaws.{row_digits}
use Rattle.digit_space.specs.Model.{DigitData, IsDigitSpace, IsDigitRow, value_of}
use Rattle.curve_model.specs.declared.point.Point.{Point}
use Rattle.curve_model.specs.Point.{IsPointOf, basis_of}
use Rattle.curve_model.specs.Rings.{IsFractionRing}
use Rattle.over_laws.specs.Over.{OverData, InOver, HasRows}
use Rattle.quotient_laws.specs.OverQuotients.{HoldsProducts}
use Rattle.quotient_laws.specs.ProductRows.{HoldsCurve}
use Rattle.quotient_laws.specs.QuotientRows.{IsMemberRow, AreMemberRows}
use Rattle.point_quotient.specs.Quotients.{HoldsNumerators}
use Rattle.over_module.proofs.Facts.{finite, filled_row, filled_value, zeros_are}
use Rattle.over_module.proofs.Values.{values_poly}

module _ (g : DigitData) (s : IsDigitSpace g) (n k : ℕ) (R : Subspace) where
  -- a module over the curve of the digits
  abbrev pub here : OverData
  here = record { curve = g.curve; dimension = n; power = k; rows = R }

  abbrev N : ℕ
  N = length g.basis

  -- rows at the depth k + 1, as rows of the digits' depth
  module _ (deep : suc k ≤ g.depth) (basis : List (List ℕ)) (fit : (i : ℕ) → i < length basis → IsRow g.curve.prime (length g.basis * suc k) (get_or basis i []))
      (list : List (List ℕ)) (e : list ≡ map (λ row. row ++ replicate (length g.basis * g.depth - length row) 0) basis) where
    filled_at : (i : ℕ) → i < length basis → get_or list i [] ≡ get_or basis i [] ++ replicate (length g.basis * g.depth - length (get_or basis i [])) 0
    filled_at i l = ap (λ z. get_or z i []) e ∙ get_or-map (λ row. row ++ replicate (length g.basis * g.depth - length row) 0) basis i [] [] l

    pub long : length list ≡ length basis
    long = ap length e ∙ length-map basis (λ row. row ++ replicate (length g.basis * g.depth - length row) 0)

    pub value_at : (i : ℕ) → i < length basis → value_of g (get_or list i []) ≡ value (data_of g.curve) g.basis (suc k) (get_or basis i [])
    value_at i l = ap (value_of g) (filled_at i l)
        ∙ filled_value g s (suc k) deep (get_or basis i []) (fit i l) (N * g.depth - length (get_or basis i [])) (zeros_are g s (suc k) deep (get_or basis i []) (fit i l).0)

    pub rows_fit : All (IsDigitRow g) list
    rows_fit = All-from_get_or (IsDigitRow g) list [] (λ i l.
        let n = long in
        let m : i < length basis = omega arith in
        subst (IsDigitRow g) (sym (filled_at i m)) (filled_row g s (suc k) deep (get_or basis i []) (fit i m) (N * g.depth - length (get_or basis i [])) (zeros_are g s (suc k) deep (get_or basis i []) (fit i m).0)))

    pub values_are_polys : ArePolys (data_of g.curve) (map (value_of g) list)
    values_are_polys = values_poly (data_of g.curve) (finite g s) g.basis s.corners g.depth list

    pub value_digits : (i : ℕ) → i < length basis → AreDigits (data_of g.curve) g.basis (suc k) (get_or (map (value_of g) list) i []) (get_or basis i [])
    value_digits i m =
        let n = long in
        let q : i < length list = omega arith in
        subst (λ f. AreDigits (data_of g.curve) g.basis (suc k) f (get_or basis i [])) (sym (get_or-map (value_of g) list i [] [] q ∙ value_at i m))
        (row_digits (data_of g.curve) (finite g s) g.basis s.corners (suc k) (get_or basis i []) (fit i m))

    -- their first blocks are the rows
    pub fronts_are : map (take (length g.basis * suc k)) list ≡ basis
    fronts_are = ext_get_or [] (map (take (length g.basis * suc k)) list) basis (length-map list (take (length g.basis * suc k)) ∙ long) (λ i l.
        let n = length-map list (take (length g.basis * suc k)) in
        let n' = long in
        let q : i < length list = omega arith in
        let m : i < length basis = omega arith in
        get_or-map (take (length g.basis * suc k)) list i [] [] q ∙ ap (take (length g.basis * suc k)) (filled_at i m) ∙ front (get_or basis i []) (fit i m).0)
      where
        front : (b : List ℕ) → length b ≡ length g.basis * suc k → take (length g.basis * suc k) (b ++ replicate (length g.basis * g.depth - length b) 0) ≡ b
        front b h = subst (λ n. take n (b ++ replicate (length g.basis * g.depth - length b) 0) ≡ b) h (take-append_seam b (replicate (length g.basis * g.depth - length b) 0))

  module _ (h : HasRows here) where
    pub rows_width : R.width ≡ N * k
    rows_width = h.ideal.of_digits.width ∙ ap (λ ms. length ms * k) (corners_law (data_of g.curve) (finite g s) h.corners g.basis h.known s.corners)

    module _ (U : Subspace) (u : HoldsNumerators here N U) (deep : suc k ≤ g.depth) where
      prime_is : U.prime ≡ g.curve.prime
      prime_is = u.prime ∙ h.rows_prime

      pub positive : 0 < U.prime
      positive = subst (λ q. 0 < q) (sym prime_is) (positive_of_prime g.curve.prime s.prime)

      abbrev p : ℕ
      p = g.curve.prime

      pub basis_fits : (i : ℕ) → i < length U.basis → IsRow g.curve.prime (length g.basis * suc k) (get_or U.basis i [])
      basis_fits i l = subst (λ q. IsRow q (N * suc k) (get_or U.basis i [])) prime_is (subst (λ w. IsRow U.prime w (get_or U.basis i [])) u.width (u.reduced.1.rows i [] l))

      -- its rows are the rows of numerators
      pub member : (row : List ℕ) → IsRow g.curve.prime (length g.basis * suc k) row → IsIn U row → IsMemberRow here g.basis row
      member row f i = record { fits = f; inside = (u.members row (subst (λ q. IsRow q (N * suc k) row) (sym h.rows_prime) f)).0 i }

      pub inside : (row : List ℕ) → IsMemberRow here g.basis row → IsIn U row
      inside row m = (u.members row (subst (λ q. IsRow q (N * suc k) row) (sym h.rows_prime) m.fits)).1 m.inside

      pub fits_in : (row : List ℕ) → IsRow g.curve.prime (length g.basis * suc k) row → FitsIn U row
      fits_in row f = subst (λ q. IsRow q U.width row) (sym prime_is) (subst (λ w. IsRow p w row) (sym u.width) f)

      -- a span in the rows of the space
      pub moved : (vs : List (List ℕ)) (row : List ℕ) → InSpan (rows_of U.prime U.width) vs row → InSpan (rows_of g.curve.prime (length g.basis * suc k)) vs row
      moved vs row i = subst (λ q. InSpan (rows_of q (N * suc k)) vs row) prime_is (subst (λ w. InSpan (rows_of U.prime w) vs row) u.width i)

      pub digit_rows : (list : List (List ℕ)) → list ≡ map (λ row. row ++ replicate (length g.basis * g.depth - length row) 0) U.basis → All (IsDigitRow g) list
      digit_rows list e = rows_fit deep U.basis basis_fits list e

      pub member_rows : (list : List (List ℕ)) → list ≡ map (λ row. row ++ replicate (length g.basis * g.depth - length row) 0) U.basis → AreMemberRows here g.basis (map (value_of g) list) U.basis
      member_rows list e = record {
        polys = values_are_polys deep U.basis basis_fits list e;
        count = sym (length-map list (value_of g) ∙ long deep U.basis basis_fits list e);
        digits = λ i l. value_digits deep U.basis basis_fits list e i
            (let n = long deep U.basis basis_fits list e in let n' = length-map list (value_of g) in omega arith);
        members = All-from_get_or (IsMemberRow here g.basis) U.basis [] (λ i l. member (get_or U.basis i []) (basis_fits i l) (Modules.span_self (residues U.prime positive) (row_module U.prime positive U.width) U.basis i [] l));
        spans = λ row m. moved U.basis row (inside row m);
      }

-- a point's ideal holds I and d
pub point_holds : (A : CurveData) (point : Point) → IsPointOf A point → HoldsCurve A (basis_of point)
point_holds A point w = record { polys = w.is_point.reduced.polys; ideal = w.is_point.holds_ideal; denominator = w.is_point.holds_denominator }

module _ (g : DigitData) (s : IsDigitSpace g) (o : OverData) (e : g.curve ≡ o.curve) where
  abbrev at : Curve → OverData
  at C = record { curve = C; dimension = o.dimension; power = o.power; rows = o.rows }

  -- what is known of the module, over the curve of the digits
  pub rows_here : HasRows o → HasRows (here g s o.dimension o.power o.rows)
  rows_here h = subst (λ C. HasRows (at C)) (sym e) h

  pub ring_here : IsFractionRing (data_of o.curve) (InOver o) → IsFractionRing (data_of g.curve) (InOver (here g s o.dimension o.power o.rows))
  ring_here r = subst (λ C. IsFractionRing (data_of C) (InOver (at C))) (sym e) r

  pub point_here : (point : Point) → IsPointOf (data_of o.curve) point → IsPointOf (data_of g.curve) point
  point_here point w = subst (λ C. IsPointOf (data_of C) point) (sym e) w

  pub products_there : (P : List (List Term)) (space : Subspace) → HoldsProducts (here g s o.dimension o.power o.rows) g.basis P space → HoldsProducts o g.basis P space
  products_there P space h = subst (λ C. HoldsProducts (at C) g.basis P space) e h
