use Rattle.std.proofs.Common.{◌≤◌, inl, arith, sym, ap, ◌∙◌, subst}
use Rattle.std.specs.List.{All}
use Rattle.denominator_module.specs.Module.{sum_members, colon_members}
use Rattle.polys.specs.Terms.{degree_of}
use Rattle.polys.specs.Ideal.{InIdeal}
use Rattle.polys.specs.Reduced.{Reduced, IsReducedBasis}
use Rattle.module_division.specs.Ideals.{IsMonicStandardBasis}
use Rattle.module_basis.specs.Gens.{IsHomogeneousOver}
use Rattle.polys.specs.Poly.{terms_of}
use Rattle.lift_colon.specs.Lifted.{LiftedData, IsLifted, HasModule, IsDimension}
use Rattle.lift_colon.proofs.Bases.{vectors_over, sum_standard, colon_standard, sum_low, colon_low, lifted}
use Rattle.lift_colon.proofs.Lifting.{is_dimension}
use Rattle.lift_colon.proofs.lifted.of_module.Goals as goal

pub sum_part-requires-clause-vectors : goal.sum_part-requires-clause-vectors
sum_part-requires-clause-vectors c =
    let q = c.requires in (
      degree_of c.args.d.now.terms,
      subst (All (IsHomogeneousOver c.args.prime c.args.variables (degree_of c.args.d.now.terms))) (sym c.vectors-vectors.ensures.value)
          (vectors_over c.args.prime c.args.variables q.prime q.six_variables c.args.generators.now c.args.d.now q.generators q.denominator c.args.graded c.vectors-vectors.ensures.known q.ring.0 q.ring.1 q.ring.2 q.span q.low),
    )

pub colon_part-requires-clause-vectors : goal.colon_part-requires-clause-vectors
colon_part-requires-clause-vectors c =
    let q = c.requires in (
      degree_of c.args.d.now.terms,
      subst (All (IsHomogeneousOver c.args.prime c.args.variables (degree_of c.args.d.now.terms))) (sym c.vectors-vectors.ensures.value)
          (vectors_over c.args.prime c.args.variables q.prime q.six_variables c.args.generators.now c.args.d.now q.generators q.denominator c.args.graded c.vectors-vectors.ensures.known q.ring.0 q.ring.1 q.ring.2 q.span q.low),
    )

pub interreduced-requires-clause-standard : goal.interreduced-requires-clause-standard
interreduced-requires-clause-standard c =
    let q = c.requires in
    subst (IsMonicStandardBasis c.args.prime c.args.variables) (sym c.as_slice.ensures)
    (sum_standard c.args.prime c.args.variables q.prime q.six_variables c.args.generators.now c.args.d.now q.generators q.denominator c.args.graded c.vectors-vectors.ensures.known q.ring.0 q.ring.1 q.ring.2 q.span q.low
    c.in_ok-sums.sums c.in_ok-sums.ensures.primes (c.in_ok-sums.ensures.terms ∙ ap (λ w. sum_members c.args.prime (terms_of w)) c.vectors-vectors.ensures.value))

pub interreduced-requires-2-clause-standard : goal.interreduced-requires-2-clause-standard
interreduced-requires-2-clause-standard c =
    let q = c.requires in
    subst (IsMonicStandardBasis c.args.prime c.args.variables) (sym c.as_slice-2.ensures)
    (colon_standard c.args.prime c.args.variables q.prime q.six_variables c.args.generators.now c.args.d.now q.generators q.denominator c.args.graded c.vectors-vectors.ensures.known q.ring.0 q.ring.1 q.ring.2 q.span q.low
    c.in_ok-colons.colons c.in_ok-colons.ensures.primes (c.in_ok-colons.ensures.terms ∙ ap (λ w. colon_members c.args.prime (terms_of w)) c.vectors-vectors.ensures.value))

pub dimension_modulo-requires-clause-reduced : goal.dimension_modulo-requires-clause-reduced
dimension_modulo-requires-clause-reduced c =
    subst (λ w. Reduced c.args.prime c.args.variables (terms_of w)) (sym c.as_slice-3.ensures) c.in_ok-sum.ensures.basis.reduced

pub dimension_modulo-requires-clause-limit : goal.dimension_modulo-requires-clause-limit
dimension_modulo-requires-clause-limit c = inl (omega arith)

pub invariant_of-result : goal.invariant_of-result
invariant_of-result c =
    let q = c.requires in
    let p = c.args.prime in
    let n = c.args.variables in
    let es = c.in_ok-sums.ensures.terms ∙ ap (λ w. sum_members p (terms_of w)) c.vectors-vectors.ensures.value in
    let ec = c.in_ok-colons.ensures.terms ∙ ap (λ w. colon_members p (terms_of w)) c.vectors-vectors.ensures.value in
    let l : LiftedData = record { prime = p; variables = n; denominator = c.args.d.now; ideal = c.args.ideal; sum = c.in_ok-sum.sum; colon = c.in_ok-colon.colon } in
    let k : IsLifted l × HasModule l c.args.graded =
    lifted p n q.prime q.six_variables c.args.generators.now c.args.d.now q.generators q.denominator c.args.graded c.vectors-vectors.ensures.known q.ring.0 q.ring.1 q.ring.2 q.span q.low
    c.args.ideal q.over q.ideal q.some_variables c.in_ok-sums.sums c.in_ok-colons.colons c.in_ok-sum.sum c.in_ok-colon.colon es ec
    c.in_ok-sum.ensures.over c.in_ok-colon.ensures.over
    (subst (λ w. IsReducedBasis p n (InIdeal p n (terms_of w)) (terms_of c.in_ok-sum.sum)) c.as_slice.ensures c.in_ok-sum.ensures.basis)
    (subst (λ w. IsReducedBasis p n (InIdeal p n (terms_of w)) (terms_of c.in_ok-colon.colon)) c.as_slice-2.ensures c.in_ok-colon.ensures.basis)
    (c.in_ok-sum.ensures.low 1000
    (subst (λ w. All (λ f. degree_of f ≤ 1000) (terms_of w)) (sym c.as_slice.ensures)
    (sum_low p n q.prime q.six_variables c.args.generators.now c.args.d.now q.generators q.denominator c.args.graded c.vectors-vectors.ensures.known q.ring.0 q.ring.1 q.ring.2 q.span q.low
    c.in_ok-sums.sums es)))
    (c.in_ok-colon.ensures.low 1000
    (subst (λ w. All (λ f. degree_of f ≤ 1000) (terms_of w)) (sym c.as_slice-2.ensures)
    (colon_low p n q.prime q.six_variables c.args.generators.now c.args.d.now q.generators q.denominator c.args.graded c.vectors-vectors.ensures.known q.ring.0 q.ring.1 q.ring.2 q.span q.low
    c.in_ok-colons.colons ec))) in
    let a : IsDimension l 256 c.in_ok-dimension.dimension =
    is_dimension l k.0 256 c.in_ok-dimension.dimension c.as_slice-3.result.now c.as_slice-3.ensures c.in_ok-dimension.ensures.finite c.in_ok-dimension.ensures.wide c.in_ok-dimension.ensures.infinite in
    subst (λ d.
    IsLifted (record { prime = p; variables = n; denominator = d; ideal = c.args.ideal; sum = c.in_ok-sum.sum; colon = c.in_ok-colon.colon })
    × HasModule (record { prime = p; variables = n; denominator = d; ideal = c.args.ideal; sum = c.in_ok-sum.sum; colon = c.in_ok-colon.colon }) c.args.graded
    × IsDimension (record { prime = p; variables = n; denominator = d; ideal = c.args.ideal; sum = c.in_ok-sum.sum; colon = c.in_ok-colon.colon }) 256 c.in_ok-dimension.dimension)
    (sym c.in_ok-clone_poly.ensures) (k.0, k.1, a)
