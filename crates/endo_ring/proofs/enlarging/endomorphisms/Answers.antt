use Rattle.std.proofs.Common.{◌≡◌, ◌↔◌, suc, ◌+◌, ◌*◌, All, sym, ap, subst, ◌∙◌, arith}
use Rattle.polys.specs.declared.curve.Curve.{Curve}
use Rattle.polys.specs.Poly.{terms_of}
use Rattle.polys.specs.Curve.{data_of}
use Rattle.curve_model.specs.Fraction.{Fraction, IsFraction}
use Rattle.row_space.specs.Subspace.{IsIn}
use Rattle.digit_laws.specs.Digits.{IsIdealSpace}
use Rattle.over_laws.specs.Over.{HasRows, InOver, InRows, OverData, TakesIntoItself}
use Rattle.endo_ring.specs.Taken.{IsTaken}
use Rattle.over_module.proofs.Facts.{finite}
use Rattle.over_module.proofs.ZeroRows.{independent_of}
use Rattle.endo_ring.proofs.Generators.{all_terms}
use Rattle.endo_ring.proofs.Taking.{result}
use Rattle.endo_ring.proofs.enlarging.endomorphisms.Goals as goal
use Rattle.endo_ring.proofs.enlarging.endomorphisms.Goals.{After-dimension}

-- the rows found are an ideal, and stand for the fractions that take the module into itself
whole : (c : After-dimension) → (let g = c.args.digits.now in let B = c.power-blocks.result + 1 in
    IsIdealSpace (data_of g.curve) g.basis B c.in_ok-found.found
    × ((h : Fraction) → IsFraction (data_of g.curve) h → InRows (data_of g.curve) B B c.in_ok-found.found h ↔ TakesIntoItself (data_of g.curve) (InRows (data_of g.curve) c.args.over.now.power B c.args.radical.now) h))
whole c =
    let g = c.args.digits.now in
    let s = c.basis-basis.ensures.known in
    let B = c.power-blocks.result + 1 in
    let e = c.args.over.now.power in
    let is : c.power-blocks.result + 1 ≡ suc c.args.over.now.power = let p = c.power-blocks.ensures in omega arith in
    let i = subst (λ n. IsIdealSpace (data_of g.curve) g.basis (n + 1) c.args.radical.now) (sym c.power-blocks.ensures) c.requires.ideal in
    let r = c.in_ok-generators.ensures.reduced in
    result c.generators_decide_endomorphisms.ensures.whole (data_of g.curve) (finite g s) g.basis s.corners e B is c.args.radical.now c.in_ok-found.found c.rows-radical.ensures.reduced.1.rows i
    (terms_of c.in_ok-generators.generators) r.reduced.polys r.exact c.in_ok-found.ensures.of_digits
    (λ row h.
    let m = c.in_ok-found.ensures.members row h in
    let a = all_terms (λ q. IsTaken (data_of g.curve) g.basis B c.args.radical.now q row) c.in_ok-generators.generators in
    let b = subst (λ qs. IsIn c.in_ok-found.found row ↔ IsIn c.args.radical.now row × All (λ v. IsTaken (data_of g.curve) g.basis B c.args.radical.now v.terms row) qs) c.as_slice.ensures m in
    (λ x. let y = b.0 x in (y.0, a.0 y.1), λ x. b.1 (x.0, a.1 x.1)))

module_is : (c : After-dimension) → HasRows (record { curve = c.args.digits.now.curve; dimension = c.dimension.result; power = c.power-blocks.result + 1; rows = c.in_ok-found.found })
module_is c =
    let g = c.args.digits.now in
    let s = c.basis-basis.ensures.known in
    let o = c.in_ok-found.ensures.of_digits in
    record {
      prime = s.prime;
      fit = s.fit;
      dimension = c.dimension.ensures.dimension;
      rows_prime = o.prime;
      rows_width = o.width ∙ ap (λ n. n * (c.power-blocks.result + 1)) (sym c.dimension.ensures.corners);
      fits = c.rows-rows.ensures.reduced.1.rows;
      independent = independent_of c.in_ok-found.found c.rows-rows.ensures.reduced;
      corners = g.basis;
      known = s.corners;
      ideal = (whole c).0;
    }

curve_is : (c : After-dimension) → c.in_ok-curve.curve.value ≡ c.args.digits.now.curve
curve_is c = c.in_ok-curve.ensures ∙ c.curve.ensures

pub of_rows-requires : goal.of_rows-requires
of_rows-requires c =
    let d = (goal.at.of_rows-requires c).After-dimension in
    subst (λ C. HasRows (record { curve = C; dimension = c.dimension.result; power = c.power-blocks.result + 1; rows = c.in_ok-found.found })) (sym (curve_is d)) (module_is d)

pub returns-clause-exact : goal.returns-clause-exact
returns-clause-exact c =
    let d = (goal.at.returns-clause-exact c).After-dimension in
    let g = c.args.digits.now in
    let o = c.args.over.now in
    let n = c.dimension.result in
    let B = c.power-blocks.result + 1 in
    let rows = c.in_ok-found.found in
    let made : Curve → OverData = λ C. record { curve = C; dimension = c.dimension.result; power = c.power-blocks.result + 1; rows = c.in_ok-found.found } in
    subst (λ z. (f : Fraction) → IsFraction (data_of o.curve) f → InOver z f ↔ TakesIntoItself (data_of o.curve) (InRows (data_of o.curve) o.power (o.power + 1) c.args.radical.now) f) (sym c.of_rows.ensures)
    (subst (λ C. (f : Fraction) → IsFraction (data_of o.curve) f → InOver (made C) f ↔ TakesIntoItself (data_of o.curve) (InRows (data_of o.curve) o.power (o.power + 1) c.args.radical.now) f) (sym (curve_is d ∙ c.requires.curve))
    (subst (λ C. (f : Fraction) → IsFraction (data_of C) f → InOver (made C) f ↔ TakesIntoItself (data_of C) (InRows (data_of C) o.power (o.power + 1) c.args.radical.now) f) c.requires.curve
    (subst (λ k. (f : Fraction) → IsFraction (data_of g.curve) f → InOver (made g.curve) f ↔ TakesIntoItself (data_of g.curve) (InRows (data_of g.curve) o.power (k + 1) c.args.radical.now) f) c.power-blocks.ensures (whole d).1)))
