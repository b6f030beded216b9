use Rattle.std.proofs.Common.{◌≡◌, ap, subst, ◌∙◌}
use Rattle.row_space.specs.Subspace.{Joins}
use Rattle.row_space.proofs.Together.{zero_space, sum_members}
use Rattle.row_space.proofs.space.Space.sum.Goals as goal

pub returns-clause-members : goal.returns-clause-members
returns-clause-members c =
    let s = c.args.self.now in
    let o = c.args.other.now in
    let zero_is : c.new-whole.result ≡ zero_space s = c.new-whole.ensures ∙ ap zero_space c.self.view_is in
    let first = subst (λ v. Joins v s.basis c.add_rows.new.self) zero_is (subst (λ xs. Joins c.new-whole.result xs c.add_rows.new.self) c.rows.ensures.basis c.in_ok-add_rows.ensures) in
    let next = subst (λ xs. Joins c.add_rows.new.self xs c.add_rows-2.new.self) c.rows-2.ensures.basis c.in_ok-add_rows-2.ensures in
    sum_members s o c.add_rows.new.self c.add_rows-2.new.self c.requires.prime c.requires.length first next
