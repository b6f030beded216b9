use Rattle.std.proofs.Common.{◌≡◌, ◌*◌, All, ap, ◌∙◌, subst, sym}
use Rattle.row_space.specs.Echelon.{IsRow}
use Rattle.over_module.specs.Raising.{IsAtPower}
use Rattle.over_module.proofs.Moved.{spanned_moved, rows_moved, power_moved}
use Rattle.over_module.proofs.over.Over.at_power.Goals as goal
use Rattle.over_module.proofs.over.Over.at_power.Goals.{In_ok-space}

prime : (c : In_ok-space) → c.prime.result ≡ c.args.self.now.rows.prime
prime c = c.prime.ensures ∙ ap (λ s. s.prime) c.rows.ensures.value

width : (c : In_ok-space) → c.corners.result * c.args.power ≡ c.args.self.now.dimension * c.args.power
width c = ap (λ n. n * c.args.power) c.corners.ensures

pub spanned-requires : goal.spanned-requires
spanned-requires c =
    let o = c.args.self.now in
    subst (λ p. All (IsRow p (c.corners.result * c.args.power)) c.args.rows.now) (sym (c.prime.ensures ∙ ap (λ s. s.prime) c.rows.ensures.value))
    (subst (λ n. All (IsRow o.rows.prime (n * c.args.power)) c.args.rows.now) (sym c.corners.ensures) c.requires.fit)

pub of_rows-requires : goal.of_rows-requires
of_rows-requires c =
    let o = c.args.self.now in
    let w = (goal.at.of_rows-requires c).In_ok-space in
    let s = spanned_moved o.rows.prime c.prime.result (o.dimension * c.args.power) (c.corners.result * c.args.power) c.args.rows.now c.in_ok-space.space (prime w) (width w) c.in_ok-space.ensures in
    rows_moved o c.args.power c.in_ok-space.space c.in_ok-curve.curve.value c.corners-2.result (c.in_ok-curve.ensures ∙ c.curve.ensures) c.corners-2.ensures (c.requires.rows c.in_ok-space.space s)

pub returns : goal.returns
returns c =
    let o = c.args.self.now in
    let w = (goal.at.returns c).In_ok-space in
    let s = spanned_moved o.rows.prime c.prime.result (o.dimension * c.args.power) (c.corners.result * c.args.power) c.args.rows.now c.in_ok-space.space (prime w) (width w) c.in_ok-space.ensures in
    subst (IsAtPower o c.args.power) (sym c.of_rows.ensures)
    (power_moved o c.args.power c.in_ok-space.space c.in_ok-curve.curve.value c.corners-2.result (c.in_ok-curve.ensures ∙ c.curve.ensures) c.corners-2.ensures
    (c.requires.same c.in_ok-space.space s) (c.requires.rank c.in_ok-space.space s))
