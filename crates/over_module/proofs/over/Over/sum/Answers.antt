use Rattle.std.proofs.Common.{◌≡◌, ◌↔◌, ℕ, List, ap, ◌∙◌, subst, sym}
use Rattle.polys.specs.declared.curve.Curve.{Curve}
use Rattle.polys.specs.Curve.{data_of}
use Rattle.curve_model.specs.Fraction.{Fraction, IsFraction}
use Rattle.curve_model.specs.Steps.{IsSumOfTwo}
use Rattle.row_space.specs.Subspace.{IsIn, IsSumOf}
use Rattle.over_laws.specs.Over.{OverData, InOver}
use Rattle.over_module.proofs.Moved.{rows_moved}
use Rattle.over_module.proofs.SummedModules.{sum_fractions, sum_rows}
use Rattle.over_module.proofs.over.Over.sum.Goals as goal
use Rattle.over_module.proofs.over.Over.sum.Goals.{After-rows-basis}

members : (c : After-rows-basis) → (row : List ℕ) → IsIn c.in_ok-whole.whole row ↔ IsSumOf c.in_ok-left.left.rows c.in_ok-right.right.rows row
members c row =
    subst (λ s. IsIn c.in_ok-whole.whole row ↔ IsSumOf c.in_ok-left.left.rows s row) c.rows-right_rows.ensures.value
    (subst (λ s. IsIn c.in_ok-whole.whole row ↔ IsSumOf s c.rows-right_rows.result.now row) c.rows-left_rows.ensures.value (c.in_ok-whole.ensures.members row))

pub of_rows-requires : goal.of_rows-requires
of_rows-requires c =
    let o = c.args.self.now in
    let w = (goal.at.of_rows-requires c).After-rows-basis in
    let l = c.in_ok-left.left in
    rows_moved o c.max-power.result c.in_ok-whole.whole c.in_ok-curve.curve.value c.corners.result (c.in_ok-curve.ensures ∙ c.curve.ensures) c.corners.ensures
    (sum_rows o c.args.other.now l c.in_ok-right.right c.max-power.result c.rows-known.ensures.known c.rows-left_rows.ensures.known c.rows-right_rows.ensures.known c.in_ok-left.ensures c.in_ok-right.ensures c.requires
    c.in_ok-whole.whole (c.in_ok-whole.ensures.shape.0 ∙ ap (λ s. s.prime) c.rows-left_rows.ensures.value) (c.in_ok-whole.ensures.shape.1 ∙ ap (λ s. s.width) c.rows-left_rows.ensures.value) (members w)
    c.rows-basis.ensures.reduced)

pub returns-clause-fractions : goal.returns-clause-fractions
returns-clause-fractions c =
    let o = c.args.self.now in
    let q = c.args.other.now in
    let w = (goal.at.returns-clause-fractions c).After-rows-basis in
    let l = c.in_ok-left.left in
    let D = c.max-power.result in
    let s = sum_fractions o q l c.in_ok-right.right c.max-power.result c.rows-known.ensures.known c.rows-left_rows.ensures.known c.rows-right_rows.ensures.known c.in_ok-left.ensures c.in_ok-right.ensures c.requires
    c.in_ok-whole.whole (c.in_ok-whole.ensures.shape.0 ∙ ap (λ s. s.prime) c.rows-left_rows.ensures.value) (c.in_ok-whole.ensures.shape.1 ∙ ap (λ s. s.width) c.rows-left_rows.ensures.value) (members w) in
    let by_curve : Curve → OverData = λ C. record { curve = C; dimension = c.corners.result; power = c.max-power.result; rows = c.in_ok-whole.whole } in
    let is : c.of_rows.result ≡ by_curve o.curve = c.of_rows.ensures ∙ ap by_curve (c.in_ok-curve.ensures ∙ c.curve.ensures) in
    subst (λ m. (f : Fraction) → IsFraction (data_of o.curve) f → InOver m f ↔ IsSumOfTwo (data_of o.curve) (InOver o) (InOver q) f) (sym is) s
