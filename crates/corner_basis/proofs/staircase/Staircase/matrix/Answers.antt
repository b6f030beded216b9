use Rattle.std.proofs.Common.{◌≤◌, ◌*◌, length, sym, subst, All}
use Rattle.corner_basis.proofs.Tried.{rows_long}
use Rattle.corner_basis.proofs.staircase.Staircase.matrix.Goals as goal

pub add_fronts-requires : goal.add_fronts-requires
add_fronts-requires c =
    let f = c.args.front.now in
    let s = c.args.self.now in
    subst (λ n. All (λ row. n ≤ length row) c.as_slice.result.now) (sym c.entries-entries.ensures.value)
    (subst (All (λ row. length f.digits.now.basis * f.blocks ≤ length row)) (sym c.as_slice.ensures)
    (rows_long f c.requires.front c.entries-entries.ensures.known s c.requires.tried s.leads s.lead_rows c.requires.tried.lead_rows))

pub add_fronts-requires-2 : goal.add_fronts-requires-2
add_fronts-requires-2 c =
    let f = c.args.front.now in
    let s = c.args.self.now in
    subst (λ n. All (λ row. n ≤ length row) c.as_slice-2.result.now) (sym c.entries-entries.ensures.value)
    (subst (All (λ row. length f.digits.now.basis * f.blocks ≤ length row)) (sym c.as_slice-2.ensures)
    (rows_long f c.requires.front c.entries-entries.ensures.known s c.requires.tried s.standard s.standard_rows c.requires.tried.standard_rows))
