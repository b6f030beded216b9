use Rattle.std.proofs.Common.{◌≡◌, ◌+◌, ◌-◌, ◌*◌, ◌++◌, ◌<◌, ◌≤◌, [], suc, map, get_or, length, replicate, List, ℕ, All, sym, ap, ap₂, ◌∙◌, subst, arith, mul-le-mul}
use Rattle.std.proofs.lemmas.List.Elements.{All-from_get_or}
use Rattle.comm_ring.proofs.Modules as Modules
use Rattle.comm_ring.proofs.Residues.{residues}
use Rattle.comm_ring.proofs.Rows.{row_module}
use Rattle.prime_field.proofs.Table.{positive_of_prime}
use Rattle.polys.specs.Curve.{data_of}
use Rattle.digit_laws.specs.Digits.{AreDigits}
use Rattle.curve_model.specs.Fraction.{denominator_power}
use Rattle.curve_model.specs.Rings.{IsFractionRing}
use Rattle.digit_space.specs.Model.{IsDigitRow, value_of}
use Rattle.finite_algebra.specs.Elements.{FiniteAlgebra, IsAlgebra}
use Rattle.over_laws.specs.Over.{InOver, HasRows}
use Rattle.quotient_laws.specs.OverQuotients.{HoldsProducts}
use Rattle.quotient_laws.specs.ProductRows.{HoldsCurve}
use Rattle.quotient_laws.specs.QuotientRows.{AreQuotientRows}
use Rattle.row_space.specs.Echelon.{IsRow}
use Rattle.row_space.specs.Subspace.{IsIn}
use Rattle.point_quotient.specs.Quotients.{HasCoordinates, IsProductTable}
use Rattle.point_quotient.proofs.Numerators.{here, rows_here, ring_here}
use Rattle.point_quotient.proofs.QuotientParts as QuotientParts
use Rattle.point_quotient.proofs.QuotientParts.{curve_here, products_here, rows_there}
use Rattle.point_quotient.proofs.quotient.quotient_by.Goals as goal
use Rattle.point_quotient.proofs.quotient.quotient_by.Goals.{After-entries-depth, In_ok-rows, After-len}

deep : (c : After-entries-depth) → c.args.over.now.power + suc c.args.over.now.power ≤ c.args.digits.now.depth
deep c = let q = c.requires.depth in omega arith

known : (c : After-entries-depth) → HasRows (here c.args.digits.now c.entries-depth.ensures.known c.args.over.now.dimension c.args.over.now.power c.args.over.now.rows)
known c = rows_here c.args.digits.now c.entries-depth.ensures.known c.args.over.now c.requires.curve c.rows-known.ensures.known

ring : (c : After-entries-depth) → IsFractionRing (data_of c.args.digits.now.curve) (InOver (here c.args.digits.now c.entries-depth.ensures.known c.args.over.now.dimension c.args.over.now.power c.args.over.now.rows))
ring c = ring_here c.args.digits.now c.entries-depth.ensures.known c.args.over.now c.requires.curve c.requires.ring

point : (c : After-entries-depth) → HoldsCurve (data_of c.args.digits.now.curve) c.requires.products.0
point c = curve_here c.args.digits.now c.entries-depth.ensures.known c.args.over.now c.requires.curve c.requires.products.0 c.requires.products.1

products : (c : After-entries-depth) → HoldsProducts (here c.args.digits.now c.entries-depth.ensures.known c.args.over.now.dimension c.args.over.now.power c.args.over.now.rows) c.args.digits.now.basis c.requires.products.0 c.args.products.now
products c = products_here c.args.digits.now c.entries-depth.ensures.known c.args.over.now c.requires.curve c.requires.products.0 c.args.products.now c.requires.products.2

fits : (c : After-entries-depth) → (i : ℕ) → i < length c.args.products.now.basis → IsRow c.args.digits.now.curve.prime (length c.args.digits.now.basis * suc c.args.over.now.power) (get_or c.args.products.now.basis i [])
fits c i l =
    let W = c.args.products.now in
    let w = products c in
    subst (λ z. IsRow z (length c.args.digits.now.basis * suc c.args.over.now.power) (get_or W.basis i [])) w.of_digits.prime
    (subst (λ z. IsRow W.prime z (get_or W.basis i [])) w.of_digits.width (c.rows-products.ensures.reduced.1.rows i [] l))

positive : (c : After-entries-depth) → 0 < c.args.products.now.prime
positive c = subst (λ z. 0 < z) (sym (products c).of_digits.prime) (positive_of_prime c.args.digits.now.curve.prime c.entries-depth.ensures.known.prime)

-- the rows of the complement, as rows of the digits' depth
listed : (c : In_ok-rows) → c.in_ok-rows.rows ≡ map (λ row. row ++ replicate (length c.args.digits.now.basis * c.args.digits.now.depth - length row) 0) c.in_ok-rest.rest.basis
listed c = c.in_ok-rows.ensures ∙ ap₂ (λ w rows. map (λ row. row ++ replicate (w - length row) 0) rows) (c.entries-depth.ensures.value ∙ ap (λ k. length c.args.digits.now.basis * k) c.depth.ensures) c.rows.ensures.basis

pub complement-requires-clause-inside : goal.complement-requires-clause-inside
complement-requires-clause-inside c =
    let d = (goal.at.complement-requires-clause-inside c).After-entries-depth in
    let g = c.args.digits.now in
    let o = c.args.over.now in
    let W = c.args.products.now in
    let w = products d in
    All-from_get_or (IsIn c.in_ok-numerators.numerators) W.basis [] (λ i l.
    QuotientParts.products_inside g c.entries-depth.ensures.known o.dimension o.power o.rows (known d) (ring d) (deep d) c.in_ok-numerators.numerators c.in_ok-numerators.ensures c.requires.products.0 (point d) W w
    (get_or W.basis i []) (fits d i l)
    (Modules.span_self (residues W.prime (positive d)) (row_module W.prime (positive d) W.width) W.basis i [] l))

pub all_filled-requires : goal.all_filled-requires
all_filled-requires c =
    let q = c.in_ok-rest.ensures in
    let u = c.in_ok-numerators.ensures in
    let g = c.args.digits.now in
    let k = c.args.over.now.power in
    let low : suc k ≤ g.depth = let r = c.requires.depth in omega arith in
    let most : length g.basis * suc k ≤ length g.basis * g.depth = mul-le-mul (let x : length g.basis ≤ length g.basis = omega arith in x) low in
    let w : c.entries-depth.result ≡ length g.basis * g.depth = c.entries-depth.ensures.value ∙ ap (λ k. length g.basis * k) c.depth.ensures in
    All-from_get_or (λ row. length row ≤ c.entries-depth.result) c.rows.result.now [] (λ i l.
    let r : length (get_or c.in_ok-rest.rest.basis i []) ≡ c.in_ok-rest.rest.width = (q.reduced.1.rows i [] (let m = ap length c.rows.ensures.basis in omega arith)).0 in
    let e = ap (λ z. length (get_or z i [])) c.rows.ensures.basis in
    let a = q.width ∙ u.width in
    omega arith)

pub coordinates-requires : goal.coordinates-requires
coordinates-requires c =
    let d = (goal.at.coordinates-requires c).After-entries-depth in
    let r = (goal.at.coordinates-requires c).In_ok-rows in
    let g = c.args.digits.now in
    let o = c.args.over.now in
    let unit = subst (AreDigits (data_of g.curve) g.basis (suc o.power) (denominator_power (data_of g.curve) o.power)) (sym c.as_slice.ensures)
    (subst (λ k. AreDigits (data_of g.curve) g.basis (suc k) (denominator_power (data_of g.curve) k) c.in_ok-unit.unit) c.power-power.ensures c.in_ok-unit.ensures) in
    QuotientParts.power_over g c.entries-depth.ensures.known o.dimension o.power o.rows (known d) (ring d) (deep d) c.in_ok-numerators.numerators c.in_ok-numerators.ensures c.requires.products.0 (point d) c.args.products.now (products d)
    c.in_ok-rest.rest c.in_ok-rest.ensures c.in_ok-rows.rows (listed r) c.as_slice.result.now unit

pub product_table-requires-clause-rows : goal.product_table-requires-clause-rows
product_table-requires-clause-rows c =
    let d = (goal.at.product_table-requires-clause-rows c).After-entries-depth in
    let g = c.args.digits.now in
    let o = c.args.over.now in
    subst (All (IsDigitRow g)) (sym c.as_slice-2.ensures)
    (QuotientParts.rows_fit g c.entries-depth.ensures.known o.dimension o.power o.rows (known d) (ring d) (deep d) c.in_ok-numerators.numerators c.in_ok-numerators.ensures c.requires.products.0 (point d) c.args.products.now (products d)
    c.in_ok-rest.rest c.in_ok-rest.ensures c.in_ok-rows.rows (listed (goal.at.product_table-requires-clause-rows c).In_ok-rows))

pub product_table-requires-clause-inside : goal.product_table-requires-clause-inside
product_table-requires-clause-inside c =
    let d = (goal.at.product_table-requires-clause-inside c).After-entries-depth in
    let g = c.args.digits.now in
    let o = c.args.over.now in
    let h = QuotientParts.have_coordinates g c.entries-depth.ensures.known o.dimension o.power o.rows (known d) (ring d) (deep d) c.in_ok-numerators.numerators c.in_ok-numerators.ensures c.requires.products.0 (point d) c.args.products.now (products d)
    c.in_ok-rest.rest c.in_ok-rest.ensures c.in_ok-rows.rows (listed (goal.at.product_table-requires-clause-inside c).In_ok-rows) in
    subst (λ k. HasCoordinates g k c.args.products.now c.coordinates.new.made c.as_slice-2.result.now) (sym c.power-power.ensures)
    (subst (λ r. HasCoordinates g o.power c.args.products.now r c.as_slice-2.result.now) (sym c.coordinates.ensures.kept)
    (subst (HasCoordinates g o.power c.args.products.now c.in_ok-rest.rest) (sym c.as_slice-2.ensures) h))

quotient : (c : After-len) → AreQuotientRows (here c.args.digits.now c.entries-depth.ensures.known c.args.over.now.dimension c.args.over.now.power c.args.over.now.rows) c.args.digits.now.basis c.args.products.now
    (record { prime = c.args.digits.now.curve.prime; dimension = length c.in_ok-rows.rows; one = c.in_ok-one.one; products = c.in_ok-table.table }) (map (value_of c.args.digits.now) c.in_ok-rows.rows) c.in_ok-rest.rest.basis
quotient c =
    let g = c.args.digits.now in
    let o = c.args.over.now in
    let W = c.args.products.now in
    let rest = c.in_ok-rest.rest in
    let rows = c.in_ok-rows.rows in
    let k = o.power in
    let s = c.entries-depth.ensures.known in
    let e = c.requires.curve in
    let P = c.requires.products.0 in
    let deep : o.power + suc o.power ≤ g.depth = let q = c.requires.depth in omega arith in
    let known = rows_here g s o e c.rows-known.ensures.known in
    let ring = ring_here g s o e c.requires.ring in
    let point = curve_here g s o e P c.requires.products.1 in
    let products = products_here g s o e P W c.requires.products.2 in
    let listed = c.in_ok-rows.ensures ∙ ap₂ (λ w rows. map (λ row. row ++ replicate (w - length row) 0) rows) (c.entries-depth.ensures.value ∙ ap (λ k. length g.basis * k) c.depth.ensures) c.rows.ensures.basis in
    let table = c.in_ok-table.table in
    let unit = subst (AreDigits (data_of g.curve) g.basis (suc k) (denominator_power (data_of g.curve) k)) (sym c.as_slice.ensures)
    (subst (λ k. AreDigits (data_of g.curve) g.basis (suc k) (denominator_power (data_of g.curve) k) c.in_ok-unit.unit) c.power-power.ensures c.in_ok-unit.ensures) in
    let t : IsProductTable g k W rest rows (length rows) table =
    subst (λ k. IsProductTable g k W rest rows (length rows) table) c.power-power.ensures
    (subst (λ r. IsProductTable g c.power-power.result W r rows (length rows) table) c.coordinates.ensures.kept
    (subst (λ l. IsProductTable g c.power-power.result W c.coordinates.new.made l (length l) table) c.as_slice-2.ensures c.in_ok-table.ensures.table)) in
    QuotientParts.quotient_rows g s o.dimension o.power o.rows known ring deep c.in_ok-numerators.numerators c.in_ok-numerators.ensures P point W products
    rest c.in_ok-rest.ensures rows listed c.in_ok-one.one table c.as_slice.result.now unit c.in_ok-one.ensures.coordinates t

abbrev made_with : List ℕ → List (List ℕ) → ℕ → ℕ → FiniteAlgebra
made_with one table p n = record { prime = p; dimension = n; one = one; products = table }

named : (c : After-len) → made_with c.in_ok-one.one c.in_ok-table.table c.deref.result.now.prime c.len.result ≡ made_with c.in_ok-one.one c.in_ok-table.table c.args.digits.now.curve.prime (length c.in_ok-rows.rows)
named c = ap₂ (made_with c.in_ok-one.one c.in_ok-table.table) (ap (λ x. x.prime) (c.deref.ensures ∙ c.curve.ensures)) c.len.ensures

pub of_products-algebra-requires : goal.of_products-algebra-requires
of_products-algebra-requires c =
    let g = c.args.digits.now in
    let o = c.args.over.now in
    let s = c.entries-depth.ensures.known in
    let e = c.requires.curve in
    let P = c.requires.products.0 in
    let W = c.args.products.now in
    let rows = c.in_ok-rows.rows in
    subst IsAlgebra (sym (named c))
    (c.rows_give_quotients.ensures.algebra (here g s o.dimension o.power o.rows) (rows_here g s o e c.rows-known.ensures.known) (ring_here g s o e c.requires.ring) g.basis s.corners P (curve_here g s o e P c.requires.products.1) W
    (products_here g s o e P W c.requires.products.2) (record { prime = g.curve.prime; dimension = length rows; one = c.in_ok-one.one; products = c.in_ok-table.table })
    (map (value_of g) rows) c.in_ok-rest.rest.basis (quotient c)).0

pub returns-clause-rows : goal.returns-clause-rows
returns-clause-rows c =
    let l = (goal.at.returns-clause-rows c).After-len in
    let d = (goal.at.returns-clause-rows c).After-entries-depth in
    let g = c.args.digits.now in
    let o = c.args.over.now in
    let s = c.entries-depth.ensures.known in
    let rows = c.in_ok-rows.rows in
    let us = map (value_of g) rows in
    let low : suc o.power ≤ g.depth = let q = c.requires.depth in omega arith in
    let fronts = QuotientParts.fronts_are g s o.dimension o.power o.rows (known d) (ring d) (deep d) c.in_ok-numerators.numerators c.in_ok-numerators.ensures c.requires.products.0 (point d) c.args.products.now (products d)
    c.in_ok-rest.rest c.in_ok-rest.ensures rows (listed (goal.at.returns-clause-rows c).In_ok-rows) in
    subst (AreQuotientRows o g.basis c.args.products.now c.of_products-algebra.result us) (sym fronts)
    (subst (λ a. AreQuotientRows o g.basis c.args.products.now a us c.in_ok-rest.rest.basis) (sym (c.of_products-algebra.ensures ∙ named l))
    (rows_there g s o c.requires.curve c.args.products.now (made_with c.in_ok-one.one c.in_ok-table.table g.curve.prime (length rows)) us c.in_ok-rest.rest.basis (quotient l)))

pub returns-clause-fit : goal.returns-clause-fit
returns-clause-fit c =
    let d = (goal.at.returns-clause-fit c).After-entries-depth in
    let g = c.args.digits.now in
    let o = c.args.over.now in
    QuotientParts.rows_fit g c.entries-depth.ensures.known o.dimension o.power o.rows (known d) (ring d) (deep d) c.in_ok-numerators.numerators c.in_ok-numerators.ensures c.requires.products.0 (point d) c.args.products.now (products d)
    c.in_ok-rest.rest c.in_ok-rest.ensures c.in_ok-rows.rows (listed (goal.at.returns-clause-fit c).In_ok-rows)
