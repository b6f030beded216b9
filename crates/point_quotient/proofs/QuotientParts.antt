-- What is left of a ring of fractions modulo its products, with the coordinates of products, is an algebra.
use Rattle.std.proofs.Math.Nat.{div-add-mod, mod-lt, div-lt_iff_lt-mul}
use Rattle.std.proofs.Common.{◌≡◌, ℕ, zero, suc, ◌+◌, ◌-◌, ◌*◌, ◌/◌, ◌%◌, ◌<◌, ◌≤◌, List, [], ◌++◌, map, length, take, replicate, get_or, All, refl, sym, ap, ◌∙◌, subst, arith}
use Rattle.std.proofs.lemmas.List.{get_or-map, length-map}
use Rattle.std.proofs.lemmas.List.Elements.{All-from_get_or}
use Rattle.comm_ring.specs.Modules.{combination}
use Rattle.comm_ring.specs.Rows.{rows as rows_of}
use Rattle.polys.specs.declared.term.Term.{Term}
use Rattle.polys.specs.Terms.{IsPoly, one, mul}
use Rattle.polys.specs.declared.curve.Curve.{Curve}
use Rattle.polys.specs.Curve.{CurveData, data_of}
use Rattle.row_space.specs.Echelon.{IsRow}
use Rattle.row_space.specs.Subspace.{Subspace, IsIn, DifferIn}
use Rattle.curve_model.specs.Fraction.{AreEqual, denominator_power, over, product_of}
use Rattle.curve_model.specs.Rings.{IsFractionRing}
use Rattle.curve_laws.proofs.StatedLaws.{power_poly}
use Rattle.chain_laws.proofs.ChainLaws.{one_poly}
use Rattle.chain_laws.proofs.OneExponent.{eq_refl}
use Rattle.digit_laws.specs.Digits.{AreDigits, value}
use Rattle.digit_laws.proofs.DigitLaws.{digit_law, value_poly, row_digits}
use Rattle.digit_space.specs.Model.{DigitData, IsDigitSpace, IsDigitRow, value_of}
use Rattle.finite_algebra.specs.Elements.{FiniteAlgebra, IsElement}
use Rattle.over_laws.specs.Over.{OverData, InOver, InRows, HasRows}
use Rattle.quotient_laws.specs.OverQuotients.{HoldsProducts}
use Rattle.quotient_laws.specs.ProductRows.{HoldsCurve}
use Rattle.quotient_laws.specs.QuotientRows.{IsMemberRow, AreQuotientRows}
use Rattle.quotient_laws.specs.Quotients.{IsQuotientAt}
use Rattle.quotient_laws.proofs.OverQuotients.{product_inside}
use Rattle.quotient_laws.proofs.QuotientRows.{member_over, member_of_digits, one_over}
use Rattle.point_quotient.specs.Complements.{IsComplement, IsInWhole, AreCoordinates}
use Rattle.point_quotient.specs.Quotients.{HoldsNumerators, IsDividedProduct, IsProductTable, HasCoordinates}
use Rattle.point_quotient.proofs.Divided.{IsQuotientRow, divided_row}
use Rattle.over_module.proofs.Facts.{finite}
use Rattle.point_quotient.proofs.Numerators as Numerators
use Rattle.point_quotient.proofs.Numerators.{here}

module _ (g : DigitData) (s : IsDigitSpace g) (n k : ℕ) (R : Subspace) (h : HasRows (here g s n k R)) (r : IsFractionRing (data_of g.curve) (InOver (here g s n k R)))
    (deep : k + suc k ≤ g.depth) (U : Subspace) (u : HoldsNumerators (here g s n k R) (length g.basis) U) where
  abbrev o : OverData
  o = here g s n k R

  abbrev A : CurveData
  A = data_of g.curve

  abbrev N : ℕ
  N = length g.basis

  abbrev W : ℕ
  W = length g.basis * suc k

  low : suc k ≤ g.depth
  low = omega arith

  -- the rows of the products are rows of numerators
  pub products_inside : (P : List (List Term)) → HoldsCurve A P → (space : Subspace) → HoldsProducts o g.basis P space → (row : List ℕ) → IsRow g.curve.prime (length g.basis * suc k) row → IsIn space row → IsIn U row
  products_inside P point space w row f i =
      let b = value A g.basis (suc k) row in
      let hb : IsPoly g.curve.prime g.curve.variables b = value_poly A (finite g s) g.basis s.corners (suc k) row in
      let d : AreDigits A g.basis (suc k) b row = row_digits A (finite g s) g.basis s.corners (suc k) row f in
      let x : InRows A k (suc k) space (over b k) = record { corners = g.basis; known = s.corners; numerator = b; poly = hb; inside = (row, d, i); equal = eq_refl A (finite g s) (over b k) hb } in
      Numerators.inside g s n k R h U u low row (member_of_digits o h g.basis s.corners b row hb d (product_inside o h r g.basis s.corners P point (over b k) hb ((w.exact (over b k) hb).0 x)))

  -- so is that of d^k
  pub power_inside : (row : List ℕ) → AreDigits A g.basis (suc k) (denominator_power A k) row → IsIn U row
  power_inside row d =
      let hd = power_poly A (finite g s) k in
      Numerators.inside g s n k R h U u low row (member_of_digits o h g.basis s.corners (denominator_power A k) row hd d
      (r.respects (over one 0) (over (denominator_power A k) k) (one_poly A (finite g s)) hd (one_over o h g.basis s.corners k) r.one))

  module _ (P : List (List Term)) (point : HoldsCurve A P) (products : Subspace) (w : HoldsProducts o g.basis P products) (rest : Subspace) (q : IsComplement products U rest)
      (list : List (List ℕ)) (e : list ≡ map (λ row. row ++ replicate (length g.basis * g.depth - length row) 0) rest.basis) where
    p : ℕ
    p = g.curve.prime

    prime_is : U.prime ≡ g.curve.prime
    prime_is = u.prime ∙ h.rows_prime

    positive : 0 < U.prime
    positive = Numerators.positive g s n k R h U u low

    basis_fits : (i : ℕ) → i < length rest.basis → IsRow g.curve.prime (length g.basis * suc k) (get_or rest.basis i [])
    basis_fits i l = subst (λ z. IsRow z W (get_or rest.basis i [])) (q.prime ∙ prime_is) (subst (λ z. IsRow rest.prime z (get_or rest.basis i [])) (q.width ∙ u.width) (q.reduced.1.rows i [] l))

    basis_member : (i : ℕ) → i < length rest.basis → IsMemberRow o g.basis (get_or rest.basis i [])
    basis_member i l = Numerators.member g s n k R h U u low (get_or rest.basis i []) (basis_fits i l) (q.inside i [] l)

    pub rows_fit : All (IsDigitRow g) list
    rows_fit = Numerators.rows_fit g s n k R low rest.basis basis_fits list e

    pub fronts_are : map (take (length g.basis * suc k)) list ≡ rest.basis
    fronts_are = Numerators.fronts_are g s n k R low rest.basis basis_fits list e

    long : length list ≡ length rest.basis
    long = Numerators.long g s n k R low rest.basis basis_fits list e

    -- the polynomial of a row is a numerator
    value_inside : (i : ℕ) → i < length list → InOver o (over (value_of g (get_or list i [])) k)
    value_inside i l =
        let m : i < length rest.basis = let z = long in omega arith in
        let d = Numerators.value_digits g s n k R low rest.basis basis_fits list e i m in
        member_over o h g.basis s.corners (value_of g (get_or list i [])) (get_or rest.basis i []) (value_poly A (finite g s) g.basis s.corners g.depth (get_or list i []))
        (subst (λ f. AreDigits A g.basis (suc k) f (get_or rest.basis i [])) (get_or-map (value_of g) list i [] [] l) d) (basis_member i m)

    divided : (i j : ℕ) → i < length list → j < length list → (made : List ℕ) → IsDividedProduct g k (mul g.curve.prime (value_of g (get_or list i [])) (value_of g (get_or list j []))) made
        → IsQuotientRow g s n k R h r deep (value_of g (get_or list i [])) (value_of g (get_or list j [])) made
    divided i j li lj made x = subst (IsQuotientRow g s n k R h r deep (value_of g (get_or list i [])) (value_of g (get_or list j []))) (sym x.part)
        (divided_row g s n k R h r deep (value_of g (get_or list i [])) (value_of g (get_or list j [])) (value_poly A (finite g s) g.basis s.corners g.depth (get_or list i []))
        (value_poly A (finite g s) g.basis s.corners g.depth (get_or list j [])) (value_inside i li) (value_inside j lj) x.whole x.digits)

    over_rest : (row : List ℕ) → IsRow g.curve.prime (length g.basis * suc k) row → IsIn U row → IsInWhole products rest row
    over_rest row f i = (U, q, Numerators.fits_in g s n k R h U u low row f, i)

    -- all products have coordinates
    pub have_coordinates : HasCoordinates g k products rest list
    have_coordinates i j li lj made x =
        let m = divided i j li lj made x in
        over_rest made m.digits.fits (Numerators.inside g s n k R h U u low made m.member)

    pub power_over : (row : List ℕ) → AreDigits A g.basis (suc k) (denominator_power A k) row → IsInWhole products rest row
    power_over row d = over_rest row d.fits (power_inside row d)

    -- rows that differ by the products, whatever the names of the prime and the width
    sum_named : (x : List ℕ) → combination (rows_of U.prime U.width) x rest.basis ≡ combination (rows_of g.curve.prime (length g.basis * suc k)) x rest.basis
    sum_named x = ap (λ z. combination (rows_of z U.width) x rest.basis) prime_is ∙ ap (λ z. combination (rows_of g.curve.prime z) x rest.basis) u.width

    module _ (one_row : List ℕ) (table : List (List ℕ)) (unit : List ℕ) (unit_digits : AreDigits A g.basis (suc k) (denominator_power A k) unit) (first : AreCoordinates products rest unit one_row)
        (t : IsProductTable g k products rest list (length list) table) where
      abbrev pub algebra : FiniteAlgebra
      algebra = record { prime = g.curve.prime; dimension = length list; one = one_row; products = table }

      element : (row x : List ℕ) → AreCoordinates products rest row x → IsElement (record { prime = g.curve.prime; dimension = length list; one = one_row; products = table }) x
      element row x c = subst (λ m. IsRow g.curve.prime m x) (sym long) (subst (λ z. IsRow z (length rest.basis) x) (q.part_prime ∙ prime_is) c.fit)

      -- the sum of the rows by their coordinates, by other names of the prime and the width
      same_sum : (row x : List ℕ) → DifferIn products row (combination (rows_of products.prime products.width) x rest.basis)
          → DifferIn products row (combination (rows_of g.curve.prime (length g.basis * suc k)) x rest.basis)
      same_sum row x d = subst (DifferIn products row) (ap (λ z. combination (rows_of z products.width) x rest.basis) q.part_prime ∙ ap (λ z. combination (rows_of U.prime z) x rest.basis) q.part_width ∙ sum_named x) d

      table_row : (m : ℕ) → m < length table → IsElement (record { prime = g.curve.prime; dimension = length list; one = one_row; products = table }) (get_or table m [])
      table_row m l =
          let d = length list in
          let c = t.count in
          let some : 0 < d = positive_width d m (omega arith) in
          let i : m / d < d = (div-lt_iff_lt-mul some).1 (omega arith) in
          let j : m % d < d = mod-lt m some in
          let is : (m / d) * d + m % d ≡ m = omega (arith, div-add-mod m d) in
          let x = t.each (m / d) (m % d) i j in
          subst (λ z. IsElement (record { prime = g.curve.prime; dimension = length list; one = one_row; products = table }) (get_or table z [])) is
          (element x.divided (get_or table ((m / d) * d + m % d) []) x.coordinates)
        where
          positive_width : (d m : ℕ) → m < d * d → 0 < d
          positive_width zero m h = absurd (omega arith)
          positive_width (suc d) m h = omega arith

      pub quotient_rows : AreQuotientRows o g.basis products (record { prime = g.curve.prime; dimension = length list; one = one_row; products = table }) (map (value_of g) list) rest.basis
      quotient_rows = record {
        prime = refl;
        count = length-map list (value_of g);
        long = sym (length-map list (value_of g) ∙ long);
        squares = t.count;
        coordinates = All-from_get_or (IsElement (record { prime = g.curve.prime; dimension = length list; one = one_row; products = table })) table [] table_row;
        unit = element unit one_row first;
        polys = Numerators.values_are_polys g s n k R low rest.basis basis_fits list e;
        digits = λ i l. Numerators.value_digits g s n k R low rest.basis basis_fits list e i (let a = long in let b = length-map list (value_of g) in omega arith);
        members = All-from_get_or (IsMemberRow o g.basis) rest.basis [] (λ i l. basis_member i l);
        onto = λ row m.
            let x = q.onto row (Numerators.fits_in g s n k R h U u low row m.fits) (Numerators.inside g s n k R h U u low row m) in (
              x.0,
              subst (λ z. IsRow g.curve.prime z x.0) (sym long) (subst (λ z. IsRow z (length rest.basis) x.0) prime_is x.1),
              subst (DifferIn products row) (sum_named x.0) x.2,
            );
        zero = λ x hx i. q.zero x (subst (λ z. IsRow z (length rest.basis) x) (sym prime_is) (subst (λ z. IsRow g.curve.prime z x) long hx)) (subst (IsIn products) (sym (sum_named x)) i);
        one = λ row d.
            let same : unit ≡ row = (digit_law A (finite g s) g.basis s.corners (suc k)).unique (denominator_power A k) unit row (power_poly A (finite g s) k) unit_digits d in
            subst (λ z. DifferIn products z (combination (rows_of g.curve.prime (length g.basis * suc k)) one_row rest.basis)) same (same_sum unit one_row first.same);
        products = λ i j li lj.
            let x = t.each i j li lj in
            let m = divided i j li lj x.divided x.part in
            let at : (i : ℕ) → i < length list → value_of g (get_or list i []) ≡ get_or (map (value_of g) list) i [] = λ i l. sym (get_or-map (value_of g) list i [] [] l) in (
              m.numerator,
              x.divided,
              m.poly,
              subst (λ f. AreEqual A (product_of A (over f k) (over (get_or (map (value_of g) list) j []) k)) (over m.numerator k)) (at i li)
                  (subst (λ f. AreEqual A (product_of A (over (value_of g (get_or list i [])) k) (over f k)) (over m.numerator k)) (at j lj) m.equal),
              m.digits,
              same_sum x.divided (get_or table (i * length list + j) []) x.coordinates.same,
            );
      }

module _ (g : DigitData) (s : IsDigitSpace g) (o : OverData) (e : g.curve ≡ o.curve) where
  abbrev at : Curve → OverData
  at C = record { curve = C; dimension = o.dimension; power = o.power; rows = o.rows }

  pub curve_here : (P : List (List Term)) → HoldsCurve (data_of o.curve) P → HoldsCurve (data_of g.curve) P
  curve_here P w = subst (λ C. HoldsCurve (data_of C) P) (sym e) w

  pub products_here : (P : List (List Term)) (space : Subspace) → HoldsProducts o g.basis P space → HoldsProducts (here g s o.dimension o.power o.rows) g.basis P space
  products_here P space w = subst (λ C. HoldsProducts (at C) g.basis P space) (sym e) w

  pub rows_there : (space : Subspace) (a : FiniteAlgebra) (us : List (List Term)) (list : List (List ℕ)) → AreQuotientRows (here g s o.dimension o.power o.rows) g.basis space a us list → AreQuotientRows o g.basis space a us list
  rows_there space a us list w = subst (λ C. AreQuotientRows (at C) g.basis space a us list) e w

  pub quotient_rows_here : (space : Subspace) (a : FiniteAlgebra) (us : List (List Term)) (list : List (List ℕ)) → AreQuotientRows o g.basis space a us list → AreQuotientRows (here g s o.dimension o.power o.rows) g.basis space a us list
  quotient_rows_here space a us list w = subst (λ C. AreQuotientRows (at C) g.basis space a us list) (sym e) w

  pub quotient_there : (P : List (List Term)) (a : FiniteAlgebra) (us : List (List Term)) → IsQuotientAt (data_of g.curve) P o.power (InOver (here g s o.dimension o.power o.rows)) a us → IsQuotientAt (data_of o.curve) P o.power (InOver o) a us
  quotient_there P a us w = subst (λ C. IsQuotientAt (data_of C) P o.power (InOver (at C)) a us) e w
