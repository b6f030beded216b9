use Rattle.std.proofs.Common.{◌≡◌, ◌↔◌, ◌+◌, ◌*◌, ◌≤◌, suc, map, take, length, All, sym, ap, ap₂, ◌∙◌, subst, arith, mul-le-mul}
use Rattle.polys.specs.Curve.{data_of}
use Rattle.curve_model.specs.Fraction.{Fraction, IsFraction}
use Rattle.curve_model.specs.Point.{basis_of}
use Rattle.curve_model.specs.Rings.{InRadical}
use Rattle.prime_field.proofs.Table.{positive_of_prime}
use Rattle.digit_laws.specs.Digits.{AreCornersOf, IsIdealSpace, IsOfDigits}
use Rattle.digit_space.specs.Model.{value_of}
use Rattle.over_laws.specs.Over.{InOver, InRows}
use Rattle.row_space.specs.Echelon.{IsRow}
use Rattle.row_space.specs.Subspace.{Joins, product}
use Rattle.point_quotient.proofs.Numerators.{point_holds}
use Rattle.point_radical.proofs.RadicalRows.{radical_rows, radical_ideal}
use Rattle.point_radical.proofs.radical.point_radical.Goals as goal
use Rattle.point_radical.proofs.radical.point_radical.Goals.{In_ok-list, After-drop-algebra-inside-3}

pub quotient_by-requires-clause-products : goal.quotient_by-requires-clause-products
quotient_by-requires-clause-products c = (basis_of c.args.point.now, point_holds (data_of c.args.over.now.curve) c.args.point.now c.requires.point, c.in_ok-space.ensures)

pub fronts-requires : goal.fronts-requires
fronts-requires c =
    let g = c.args.digits.now in
    let o = c.args.over.now in
    let low : suc o.power ≤ g.depth = let q = c.requires.depth in omega arith in
    let most : length g.basis * suc o.power ≤ length g.basis * g.depth = mul-le-mul (let x : length g.basis ≤ length g.basis = omega arith in x) low in
    let rows = subst (All (IsRow g.curve.prime (length g.basis * g.depth))) (sym c.as_slice.ensures) c.in_ok-algebra.ensures.fit in
    let w = ap₂ (λ m k. length m * (k + 1)) c.basis-basis.ensures.value c.power.ensures in
    λ i d l. (let n = (rows i d l).0 in let e : o.power + 1 ≡ suc o.power = omega arith in let e' = ap (λ z. length g.basis * z) e in omega arith)

width_is : (c : In_ok-list) → length c.basis-basis.result.now * (c.power.result + 1) ≡ length c.args.digits.now.basis * suc c.args.over.now.power
width_is c = ap₂ (λ m k. length m * k) c.basis-basis.ensures.value (let e = c.power.ensures in omega arith)

-- the rows of the basis elements are their rows at the depth k + 1
listed : (c : In_ok-list) → c.in_ok-list.list ≡ map (take (length c.args.digits.now.basis * suc c.args.over.now.power)) c.in_ok-algebra.rows
listed c = c.in_ok-list.ensures ∙ ap₂ (λ w rows. map (take w) rows) (width_is c) c.as_slice.ensures

prime_is : (c : In_ok-list) → c.deref.result.now.prime ≡ c.args.over.now.curve.prime
prime_is c = ap (λ C. C.prime) (c.deref.ensures ∙ c.curve.ensures ∙ c.requires.curve)

pub join_images-requires-clause-rows : goal.join_images-requires-clause-rows
join_images-requires-clause-rows c =
    let d = (goal.at.join_images-requires-clause-rows c).In_ok-list in
    let p = c.args.over.now.curve.prime in
    let W = length c.args.digits.now.basis * suc c.args.over.now.power in
    let L = map (take (length c.args.digits.now.basis * suc c.args.over.now.power)) c.in_ok-algebra.rows in
    let fit : All (IsRow p W) L = λ i row l. (c.in_ok-algebra.ensures.rows.members i row l).fits in
    subst (λ q. All (IsRow q (length c.basis-basis.result.now * (c.power.result + 1))) c.as_slice-2.result.now) (sym (prime_is d))
    (subst (λ w. All (IsRow p w) c.as_slice-2.result.now) (sym (width_is d)) (subst (All (IsRow p W)) (sym (c.as_slice-2.ensures ∙ listed d)) fit))

pub join_images-requires-clause-elements : goal.join_images-requires-clause-elements
join_images-requires-clause-elements c =
    let d = (goal.at.join_images-requires-clause-elements c).In_ok-list in
    let q = c.in_ok-algebra.ensures.rows in
    let n = c.in_ok-nilpotent.ensures in
    let nil = c.in_ok-nilpotent.nilpotent in
    let long : length c.as_slice-2.result.now ≡ c.in_ok-algebra.algebra.dimension = ap length (c.as_slice-2.ensures ∙ listed d) ∙ q.long ∙ q.count in
    let fit : All (IsRow nil.prime nil.width) nil.basis = c.rows-2.ensures.reduced.1.rows in
    subst (λ v. All (IsRow c.deref.result.now.prime v) c.rows-2.result.now) (n.width ∙ sym long)
    (subst (λ z. All (IsRow z nil.width) c.rows-2.result.now) (n.prime ∙ q.prime ∙ sym (prime_is d)) (subst (All (IsRow nil.prime nil.width)) (sym c.rows-2.ensures.basis) fit))

abbrev Whole : (c : After-drop-algebra-inside-3) → Type 0
Whole c =
    let o = c.args.over.now in
    IsOfDigits (data_of o.curve) c.args.digits.now.basis (suc o.power) c.join_images.new.space
    × ((f : Fraction) → IsFraction (data_of o.curve) f → InRows (data_of o.curve) o.power (suc o.power) c.join_images.new.space f ↔ InRadical (data_of o.curve) (basis_of c.args.point.now) (InOver o) f)

corners : (c : After-drop-algebra-inside-3) → AreCornersOf (data_of c.args.over.now.curve) c.args.digits.now.basis
corners c = subst (λ C. AreCornersOf (data_of C) c.args.digits.now.basis) c.requires.curve c.basis-basis.ensures.known.corners

-- the space is that of the radical
whole : (c : After-drop-algebra-inside-3) → Whole c
whole c =
    let d = (goal.at.returns-clause-exact c).In_ok-list in
    let o = c.args.over.now in
    let ms = c.args.digits.now.basis in
    let p = o.curve.prime in
    let W = length ms * suc o.power in
    let h = c.rows-known.ensures.known in
    let q = c.in_ok-algebra.ensures.rows in
    let space = c.in_ok-space.space in
    let a = c.in_ok-algebra.algebra in
    let us = map (value_of c.args.digits.now) c.in_ok-algebra.rows in
    let L = map (take (length ms * suc o.power)) c.in_ok-algebra.rows in
    let nil = c.in_ok-nilpotent.nilpotent in
    let radical = c.join_images.new.space in
    let same : map (λ x. product c.deref.result.now.prime (length c.basis-basis.result.now * (c.power.result + 1)) x c.as_slice-2.result.now) c.rows-2.result.now ≡ map (λ x. product p W x L) nil.basis =
    ap (λ z. map (λ x. product z (length c.basis-basis.result.now * (c.power.result + 1)) x c.as_slice-2.result.now) c.rows-2.result.now) (prime_is d)
    ∙ ap (λ w. map (λ x. product p w x c.as_slice-2.result.now) c.rows-2.result.now) (width_is d)
    ∙ ap₂ (λ list rows. map (λ x. product p W x list) rows) (c.as_slice-2.ensures ∙ listed d) c.rows-2.ensures.basis in
    let joins = subst (λ vs. Joins space vs radical) same c.in_ok-join_images.ensures in
    let rr = radical_rows o ms (positive_of_prime p h.prime) space c.in_ok-space.ensures.of_digits a q.prime L (q.long ∙ q.count) nil c.in_ok-nilpotent.ensures radical joins in
    let P = basis_of c.args.point.now in
    (rr.0, c.rows_give_quotients.ensures.radical o h c.requires.ring ms (corners c) P (point_holds (data_of o.curve) c.args.point.now c.requires.point) space c.in_ok-space.ensures a us L q radical rr.0 rr.1)

pub returns-clause-ideal : goal.returns-clause-ideal
returns-clause-ideal c =
    let o = c.args.over.now in
    let w = whole c in
    subst (λ T. IsIdealSpace (data_of o.curve) c.args.digits.now.basis T c.join_images.new.space) (let e : suc o.power ≡ o.power + 1 = omega arith in e)
    (radical_ideal o c.rows-known.ensures.known c.requires.ring c.args.digits.now.basis (corners c) (basis_of c.args.point.now) c.requires.point.is_point.reduced.polys c.join_images.new.space w.0 w.1)

pub returns-clause-exact : goal.returns-clause-exact
returns-clause-exact c =
    let o = c.args.over.now in
    let w = whole c in
    λ f hf. subst (λ T. InRows (data_of o.curve) o.power T c.join_images.new.space f ↔ InRadical (data_of o.curve) (basis_of c.args.point.now) (InOver o) f) (let e : suc o.power ≡ o.power + 1 = omega arith in e) (w.1 f hf)
