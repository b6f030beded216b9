use Rattle.std.proofs.Common.{◌≡◌, ◌<◌, [], get_or, sym, subst, ◌∙◌, arith, refl}
use Rattle.std.proofs.lemmas.List.{get_or_default}
use Rattle.std.proofs.lemmas.Result.{IfOk-weaker}
use Rattle.digit_space.specs.Model.{IsDigitSpace, IsDigitsOf, times_variable, value_of}
use Rattle.digit_space.specs.Adding.{corner_multiple}
use Rattle.digit_space.proofs.RowProducts.{first_multiple, next_multiple}
use Rattle.digit_space.proofs.digits.Digits.multiple.Goals as goal

pub returns-in-None : goal.returns-in-None
returns-in-None c =
    let g = c.args.self.now in
    let s = subst IsDigitSpace c.self.view_is c.self.invariant.0 in
    let row = c.args.row.now in
    let d = first_multiple g s row c.args.i c.requires.row (c.in-None.ensures.none refl) in
    IfOk-weaker c.from_slice.result (λ made. made ≡ row) (λ made. IsDigitsOf g (corner_multiple g row c.args.i) made) (λ made e. subst (IsDigitsOf g (corner_multiple g row c.args.i)) (sym e) d) c.from_slice.ensures

pub returns-in-Some : goal.returns-in-Some
returns-in-Some c =
    let g = c.args.self.now in
    let s = subst IsDigitSpace c.self.view_is c.self.invariant.0 in
    let row = c.args.row.now in
    let p = c.in-Some.ensures.some in
    let j = c.in-Some.parent.corner in
    let v = c.in-Some.parent.variable in
    let i = c.requires.i in
    let n = c.requires.count in
    let lj : j < c.args.i = p.1 in
    let before = c.as_slice-before.result.now in
    let same : before ≡ get_or c.args.rows.now j [] = c.as_slice-before.ensures ∙ c.index-rows-parent.is ∙ get_or_default c.args.rows.now j c.index-rows-parent.result [] (omega arith) in
    let d = subst (IsDigitsOf g (corner_multiple g row j)) (sym same) (c.requires.rows j lj) in
    IfOk-weaker c.variable_multiple.result (λ made. IsDigitsOf g (times_variable g v (value_of g before)) made) (λ made. IsDigitsOf g (corner_multiple g row c.args.i) made)
    (λ made m. next_multiple g s row before made c.args.i j v i (omega arith) p.0 p.2 d m) c.variable_multiple.ensures
