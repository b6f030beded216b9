-- One line more, or the first point above.
use Rattle.std.proofs.Common.{◌≡◌, ◌+◌, ◌<◌, ◌≤◌, List, sym, subst, get_or, length, take}
use Rattle.polys.specs.Curve.{data_of}
use Rattle.curve_model.specs.declared.point.Point.{Point}
use Rattle.curve_model.specs.Delta.{HasDelta, IsDeltaAbove}
use Rattle.curve_model.specs.Point.{basis_of}
use Rattle.curve_answer.specs.Reading.{AreLinesOf}
use Rattle.curve_answer.proofs.Parts.{more_lines, first_of}
use Rattle.curve_answer.proofs.reading.lines_of.Goals as goal

pub returns-in-None : goal.returns-in-None
returns-in-None c =
    let b = c.args.book.now in
    let i = c.loop-place.place in
    let P = c.in_ok-point.point in
    let lines : AreLinesOf (data_of b.curve) b.limit (take i b.points) c.loop-place.lines = subst (λ (Ps : List Point). AreLinesOf (data_of b.curve) b.limit (take i Ps) c.loop-place.lines) c.points-points.ensures c.loop-place.invariant in
    let inside : i < length b.points = subst (λ (Ps : List Point). i < length Ps) c.points-points.ensures c.loop-place-test.true in
    let here : P ≡ get_or c.points-points.result.now i P = subst (λ Q. Q ≡ get_or c.points-points.result.now i Q) (sym c.in_ok-point.ensures) c.index-points-place.is in
    let at : get_or b.points i P ≡ P = subst (λ (Ps : List Point). get_or Ps i P ≡ P) c.points-points.ensures (sym here) in
    let above : IsDeltaAbove (data_of b.curve) (basis_of P) b.limit = subst (λ Q. IsDeltaAbove (data_of b.curve) (basis_of Q) b.limit) at (c.in-None.ensures P) in
    first_of (data_of b.curve) b.limit b.points c.loop-place.lines i P lines inside at above

pub loop-place-preserved : goal.loop-place-preserved
loop-place-preserved c =
    let b = c.args.book.now in
    let i = c.loop-place.place in
    let P = c.in_ok-point.point in
    let r = c.in-Some.delta in
    let Ps = c.points-points.result.now in
    let inside : i < length Ps = c.loop-place-test.true in
    let here : P ≡ get_or Ps i P = subst (λ Q. Q ≡ get_or Ps i Q) (sym c.in_ok-point.ensures) c.index-points-place.is in
    let at : get_or b.points i P ≡ P = subst (λ (Qs : List Point). get_or Qs i P ≡ P) c.points-points.ensures (sym here) in
    let delta : HasDelta (data_of b.curve) (basis_of P) r × (r ≤ b.limit) = subst (λ Q. HasDelta (data_of b.curve) (basis_of Q) r × (r ≤ b.limit)) at (c.in-Some.ensures P) in
    subst (AreLinesOf (data_of b.curve) b.limit (take (i + 1) Ps)) (sym c.in_ok-push-in-Some.ensures.ok)
    (more_lines (data_of b.curve) b.limit Ps c.loop-place.lines i (record { point = P; delta = r }) c.loop-place.invariant inside (sym here) delta)
