use Rattle.std.proofs.Common.{ap, subst, ◌∙◌}
use Rattle.row_space.specs.Subspace.{Joins}
use Rattle.corner_basis.proofs.Tried.{tried_start}
use Rattle.corner_basis.proofs.staircase.Staircase.new.Goals as goal

pub returns-clause-tried : goal.returns-clause-tried
returns-clause-tried c =
    let e = c.new-span.ensures in
    tried_start c.args.front.now c.requires c.entries.ensures.known c.new-span.result
    (record { standard = c.new.result; standard_rows = c.new-2.result; leads = c.new-3.result; lead_rows = c.new-4.result; span = c.add_rows.new.self })
    (ap (λ z. z.basis) e) (ap (λ z. z.prime) e ∙ c.prime.ensures) (ap (λ z. z.width) e ∙ c.entries.ensures.value)
    (subst (λ r. Joins c.new-span.result r c.add_rows.new.self) c.rows.ensures.basis c.in_ok-add_rows.ensures) c.rows-rows.ensures.reduced
    c.new.ensures c.new-2.ensures c.new-3.ensures c.new-4.ensures
