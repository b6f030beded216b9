use Rattle.std.proofs.Common.{◌≤◌, ◌∙◌, subst}
use Rattle.row_space.specs.Insertion.{IsInsertion}
use Rattle.point_quotient.proofs.RestSpaces.{rest_inside_made, rest_coordinates}
use Rattle.point_quotient.proofs.complement.coordinates.Goals as goal
use Rattle.point_quotient.proofs.complement.coordinates.Goals.{After-insert}

two : (c : After-insert) → 2 ≤ c.args.part.now.prime
two c = subst (λ z. 2 ≤ z) (c.get-modulus.ensures.value ∙ c.prime.ensures) c.get-modulus.ensures.range.0

pub unreachable-requires : goal.unreachable-requires
unreachable-requires c =
    let w = (goal.at.unreachable-requires c).After-insert in
    let made = c.args.made.now in
    let rest = c.in_ok-rest.rest in
    let i : IsInsertion made rest c.insert.new.self c.in_ok-insert.field-0 =
    subst (λ z. IsInsertion made z c.insert.new.self c.in_ok-insert.field-0) c.as_slice.ensures c.in_ok-insert.ensures.ok in
    let n = subst (IsInsertion made rest c.insert.new.self) c.in-Inserted.is i in
    n.0 (rest_inside_made c.args.part.now made c.args.row.now rest (two w) c.rows-part.ensures.reduced c.requires c.in_ok-rest.ensures.only)

pub returns-clause-coordinates : goal.returns-clause-coordinates
returns-clause-coordinates c =
    let w = (goal.at.returns-clause-coordinates c).After-insert in
    let made = c.args.made.now in
    let rest = c.in_ok-rest.rest in
    let i : IsInsertion made rest c.insert.new.self c.in_ok-insert.field-0 =
    subst (λ z. IsInsertion made z c.insert.new.self c.in_ok-insert.field-0) c.as_slice.ensures c.in_ok-insert.ensures.ok in
    let n = subst (IsInsertion made rest c.insert.new.self) c.in-Dependent.is i in
    rest_coordinates c.args.part.now made c.args.row.now rest c.in-Dependent.residues (two w) c.rows-part.ensures.reduced c.requires c.in_ok-rest.ensures.rest n.0
